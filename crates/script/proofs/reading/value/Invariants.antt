use Rattle.std.proofs.Common.{◌≡◌, ◌-◌, map, take}
use Rattle.std.specs.Int.Digits.{number_from_digits}
use Rattle.script.proofs.reading.value.Given as goal

abbrev pub invariant-loop-d : goal.invariant-loop-d
invariant-loop-d l = l.n ≡ number_from_digits 10 (take l.d-index (map (λ b. b - 48) l.text))
