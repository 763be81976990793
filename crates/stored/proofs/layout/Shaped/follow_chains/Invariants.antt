use Rattle.std.proofs.Common.{◌≡◌, ◌-◌}
use Rattle.grade.specs.Told.{answers}
use Rattle.stored.specs.Stored.{records, base_of, head_of, next_in}
use Rattle.stored.specs.Marks.{follow_all_marks}
use Rattle.stored.proofs.layout.Shaped.follow_chains.Given as goal

abbrev pub invariant-loop-bridge : goal.invariant-loop-bridge
invariant-loop-bridge l =
    let bytes = l.self.bytes.now in
    follow_all_marks (head_of bytes) (next_in bytes (base_of bytes)) (records bytes) (l.bridge - 1) l.initial.met ≡ answers l.met
