use Rattle.std.proofs.Common.{ap, ◌∙◌, arith}
use Rattle.theory.specs.Reach.{marks}
use Rattle.margins.specs.Standing.{standing}
use Rattle.margins.proofs.Facing.{faced_forward, reaches-back}
use Rattle.margins.proofs.judging.tell_margins.Goals as goal

pub write_margins-requires : goal.write_margins-requires
write_margins-requires g c =
    let le = g.G.Grade.le in
    let t = c.args.asked.now in
    let arcs = standing t.tables.now.lines.now in
    record {
      sound = c.requires.sound;
      reached = λ b. c.mark_reached.ensures b ∙ ap (λ es. marks le es t.width t.ends.start t.tables.now.n b) (faced_forward arcs);
      reaching = λ b. c.mark_reached-2.ensures b ∙ reaches-back le t.tables.now.n arcs c.requires.sound.proper t.width t.ends.end b;
      work = omega arith;
      out = c.requires.out;
    }
