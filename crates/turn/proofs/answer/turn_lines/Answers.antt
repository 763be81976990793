use Rattle.std.proofs.Common.{ℕ, List, sym, ap, ◌∙◌, arith, rules}
use Rattle.theory.specs.declared.labels.Label.TheVariants.{Unlimited}
use Rattle.search.specs.Chains.{table_line}
use Rattle.turn.specs.Outcomes.{shown, turn_by}
use Rattle.turn.proofs.Crossing.{pair_past}
use Rattle.turn.proofs.Turnings.{turned-table, short_table}
use Rattle.turn.proofs.answer.turn_lines.Goals as goal

pub answer-requires : goal.answer-requires
answer-requires c =
    let t = c.args.tables.now in
    let partners : List ℕ = c.pair_up.new.partners in
    let is = c.run_search.ensures Unlimited (sym (pair_past t.lines.now partners 65535 (omega (arith, c.requires.few)))) in
    record {
      labels = search rules;
      ways = search rules;
      taken = search rules;
      spare = search rules;
      end = c.requires.ends.far_to;
      bridges = c.requires.bridges;
      turned = c.requires.turned;
      short = short_table t.n t.first.now t.lines.now c.requires.lines c.requires.holds c.args.ends.start c.args.ends.end c.requires.ends _ is;
    }

pub returns : goal.returns
returns c =
    let t = c.args.tables.now in
    let n : ℕ = t.n in
    let first : List ℕ = t.first.now in
    let lines = t.lines.now in
    let partners : List ℕ = c.pair_up.new.partners in
    let a : ℕ = c.args.ends.start in
    let z : ℕ = c.args.ends.end in
    let is = c.run_search.ensures Unlimited (sym (pair_past lines partners 65535 (omega (arith, c.requires.few)))) in
    c.answer.ensures
    ∙ ap (λ s. shown (turn_by lines (table_line n first lines) n a z s) c.args.bridges.now c.args.turned.now) is
    ∙ turned-table n first lines c.requires.lines c.requires.holds a z c.requires.ends c.args.bridges.now c.args.turned.now
