use Rattle.std.proofs.Common.{refl, rules}
use Rattle.grammar.specs.declared.words.Command.TheVariants as command
use Rattle.grammar.specs.declared.words.Verb.TheVariants.{Lay, Regrade}
use Rattle.script.proofs.Commands.{of_three}
use Rattle.script.proofs.reading.command.Goals as goal

pub returns-in-Lay : goal.returns-in-Lay
returns-in-Lay c = rw c.in-Lay.is (of_three Lay c.args.rest.text.now c.args.rest.place (λ a. command.Lay a.0 a.1 a.2) refl (λ a. refl) (λ a. refl) c.three.result c.map.result c.map.ensures.cases (λ a d k. search rules) c.three.ensures)

pub returns-in-Regrade : goal.returns-in-Regrade
returns-in-Regrade c = rw c.in-Regrade.is (of_three Regrade c.args.rest.text.now c.args.rest.place (λ a. command.Regrade a.0 a.1 a.2) refl (λ a. refl) (λ a. refl) c.three-in-Regrade.result c.map-in-Regrade.result c.map-in-Regrade.ensures.cases (λ a d k. search rules) c.three-in-Regrade.ensures)
