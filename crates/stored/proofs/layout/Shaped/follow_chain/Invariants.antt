use Rattle.std.proofs.Common.{◌≡◌, ◌-◌}
use Rattle.stored.specs.Stored.{records, base_of, next_in}
use Rattle.stored.specs.Marks.{follow_marks}
use Rattle.stored.proofs.layout.Shaped.follow_chain.Given as goal

-- following the rest of the chain gives what following all of it gives
abbrev pub invariant-loop-step : goal.invariant-loop-step
invariant-loop-step l =
    let bytes = l.self.bytes.now in
    let next = next_in bytes (base_of bytes) in
    follow_marks next (records bytes) (255 - l._step) l.index l.met ≡ follow_marks next (records bytes) 255 l.first l.initial.met
