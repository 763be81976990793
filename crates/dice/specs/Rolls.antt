-- What dice roll. Assumes nothing.
use Rattle.std.specs.Prelude.{ℕ, ◌+◌, ◌*◌, ◌/◌, ◌%◌, ◌^◌, max}

-- the state of 32 bits after a roll
abbrev pub rolled : ℕ → ℕ
rolled s = (s * 1103515245 % 2 ^ 32 + 12345) % 2 ^ 32

-- the number below the limit that a state shows: by its upper half, and 0 for a limit of 0
abbrev pub shown : ℕ → ℕ → ℕ
shown s limit = s / 65536 % max limit 1
