use Rattle.std.proofs.Common.{sym, ◌∙◌, arith}
use mathlib.Core.Path.{fun_ext}
use Rattle.search.specs.Marks.{marks}
use Rattle.turn.specs.Doubling.{pair_label_of}
use Rattle.turn.proofs.Crossing.{ends_within, crossed}
use Rattle.turn.proofs.doubled.DoubledNet.offer_from.Goals as goal

pub offer_all-requires : goal.offer_all-requires
offer_all-requires c =
    let t = c.args.self.now in
    let sound = c.requires.sound in
    record {
      held = rw c.from.ensures c.requires.label;
      few = sound.few;
      within = λ line k v there e. let w = ends_within t.n t.lines.now t.partners.now sound k line there c.args.bridge v e in omega (arith, w, c.requires.labels);
      alike = c.requires.ways ∙ sym c.requires.labels;
    }

pub returns : goal.returns
returns c =
    let t = c.args.self.now in
    let lines = t.lines.now in
    let partners = t.partners.now in
    c.offer_all.ensures
    ∙ fun_ext (λ v. crossed t.n lines partners c.requires.sound c.args.bridge c.args.label (marks (pair_label_of lines partners) c.args.labels.now c.args.ways.now) v)
