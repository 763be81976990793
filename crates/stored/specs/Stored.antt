-- A survey stored as little-endian bytes: what it tells, and what is wrong with one that cannot be opened. Assumes nothing.
use Rattle.std.specs.Prelude.{◌≡◌, ℕ, zero, suc, ◌+◌, ◌-◌, ◌*◌, ◌%◌, ◌≤◌, Bool, false, cond, not, ◌&&◌, List, [], ◌∷◌, ◌++◌, map, length, Some, None, Option, ◌==◌, nat_le, slice_index}
use Rattle.grade.specs.declared.slots.Slots.{Slots}
use Rattle.grade.specs.Kinds.{slots_grade}
use Rattle.stored.specs.declared.layout.Record.{Record}
use Rattle.field.specs.Meaning.{Told, silent, listed, Entry}
use Rattle.grade.specs.Told.{Reply, answers, refuses, and_then}
use Rattle.theory.specs.Lists.{In, Distinct, among}

-- the byte at a place: what stands there is read as one of 0 to 255, which every byte is
abbrev pub byte_at : List ℕ → ℕ → ℕ
byte_at bytes at = slice_index bytes at % 256

-- the numbers of 2 and 4 bytes that begin at a place
abbrev pub u16_at : List ℕ → ℕ → ℕ
u16_at bytes at = byte_at bytes at + 256 * byte_at bytes (at + 1)

abbrev pub u32_at : List ℕ → ℕ → ℕ
u32_at bytes at = u16_at bytes at + 65536 * u16_at bytes (at + 2)

-- how many bridges and records there are
abbrev pub bridges : List ℕ → ℕ
bridges bytes = u16_at bytes 0

abbrev pub records : List ℕ → ℕ
records bytes = u16_at bytes 2

-- the head of a bridge's chain; bridges count from 1
abbrev pub head_of : List ℕ → ℕ → ℕ
head_of bytes b = u16_at bytes (2 + 2 * b)

-- where the records begin
abbrev pub base_of : List ℕ → ℕ
base_of bytes = 4 + 2 * bridges bytes

-- the i-th record behind a base, counted from 1: far (2 bytes), next (2 bytes), slots (4 bytes)
abbrev pub stored_at : List ℕ → ℕ → ℕ → Record
stored_at bytes base i =
    let at : ℕ = base + 8 * (i - 1) in
    record { far = u16_at bytes at; next = u16_at bytes (at + 2); slots = u32_at bytes (at + 4) }

abbrev pub next_in : List ℕ → ℕ → ℕ → ℕ
next_in bytes base i = (stored_at bytes base i).next

-- n is 1 to 256, r at most 1,024, and the heads and records fill the bytes
abbrev pub well_shaped : List ℕ → Bool
well_shaped bytes = (nat_le 1 (bridges bytes) && nat_le (bridges bytes) 256) && (nat_le (records bytes) 1024 && length bytes == base_of bytes + 8 * records bytes)

-- the records of a chain from an index on, at most `left`: an index that names no record ends it, which in an opened survey is 0 alone
unfoldable pub chain : (ℕ → ℕ) → (r left index : ℕ) → List ℕ
chain next r zero index = []
chain next r (suc left) index = cond (nat_le 1 index && nat_le index r) (index ∷ chain next r left (next index)) []

abbrev pub chained : List ℕ → (base r index : ℕ) → List Record
chained bytes base r index = map (stored_at bytes base) (chain (next_in bytes base) r 255 index)

abbrev pub entry_of : Record → Entry Slots
entry_of rec = record { far = rec.far; grade = slots_grade rec.slots }

-- whether a bridge has a list: it is one of 1 to n. (Bytes out of shape, which nobody can open, have none.)
abbrev pub has_list : List ℕ → ℕ → Bool
has_list bytes b = well_shaped bytes && (nat_le 1 b && nat_le b (bridges bytes))

abbrev pub list_of : List ℕ → ℕ → List Record
list_of bytes b = chained bytes (base_of bytes) (records bytes) (head_of bytes b)

-- a bridge's list is its chain; numbers above n are silent with cause 1
abbrev pub stored_tells : List ℕ → ℕ → Told Slots
stored_tells bytes b = cond (has_list bytes b) (listed (map entry_of (list_of bytes b))) (silent 1)

-- follows a chain that may have `left` more records, where `met` were met before; refuses an index above r, one met before, and the 256th in its chain
unfoldable pub follow : (ℕ → ℕ) → (r left index : ℕ) → List ℕ → Reply (List ℕ)
follow next r zero index met = cond (index == 0) (answers met) (refuses (14, index, 0))
follow next r (suc left) index met =
    cond (index == 0) (answers met)
    (cond (nat_le index r && not (among met index)) (follow next r left (next index) (met ++ (index ∷ []))) (refuses (14, index, 0)))

-- the chains of the bridges 1 to b, one after the other
abbrev pub follow_all : (ℕ → ℕ) → (ℕ → ℕ) → (r b : ℕ) → Reply (List ℕ)
follow_all head next r zero = answers []
follow_all head next r (suc b) = and_then (follow_all head next r b) (follow next r 255 (head (suc b)))

-- the lowest of 1 to k that passes a test
abbrev pub or_else : Option ℕ → Option ℕ → Option ℕ
or_else None o = o
or_else (Some x) o = Some x

abbrev pub lowest : (ℕ → Bool) → ℕ → Option ℕ
lowest test zero = None
lowest test (suc k) = or_else (lowest test k) (cond (test (suc k)) (Some (suc k)) None)

-- a refusal with a place, if there is one, comes first
abbrev pub unless : {X : Type 0} → ℕ → Option ℕ → Reply X → Reply X
unless number None a = a
unless number (Some place) a = refuses (number, place, 0)

abbrev pub wrong_slots : ℕ → Bool
wrong_slots slots = not (nat_le 1 slots && nat_le slots 1048576)

-- what opening answers: the meaning of the survey, or what is wrong with it
abbrev pub opened : List ℕ → Reply (ℕ → Told Slots)
opened bytes =
    let base : ℕ = base_of bytes in
    cond (well_shaped bytes)
    (and_then (follow_all (head_of bytes) (next_in bytes base) (records bytes) (bridges bytes)) (λ met.
    unless 14 (lowest (λ i. not (among met i)) (records bytes))
    (unless 15 (lowest (λ i. wrong_slots (stored_at bytes base i).slots) (records bytes))
    (answers (stored_tells bytes)))))
    (refuses (13, 0, 0))

-- the index that ends a chain, which may have at most `left` records
unfoldable pub chain_end : (ℕ → ℕ) → (r left index : ℕ) → ℕ
chain_end next r zero index = index
chain_end next r (suc left) index = cond (nat_le 1 index && nat_le index r) (chain_end next r left (next index)) index

-- the chains of the bridges 1 to b, one after the other
abbrev pub chains_to : (ℕ → ℕ) → (ℕ → ℕ) → (r b : ℕ) → List ℕ
chains_to head next r zero = []
chains_to head next r (suc b) = chains_to head next r b ++ chain next r 255 (head (suc b))

abbrev pub all_chains : List ℕ → List ℕ
all_chains bytes = chains_to (head_of bytes) (next_in bytes (base_of bytes)) (records bytes) (bridges bytes)

-- what a survey that opens is: each chain is ended by zero, each record is on exactly one chain, and its slots are in range
pub record Whole (bytes : List ℕ) : Type 0 where
  pub ended : (b : ℕ) → 1 ≤ b → b ≤ bridges bytes → chain_end (next_in bytes (base_of bytes)) (records bytes) 255 (head_of bytes b) ≡ 0
  pub each : (i : ℕ) → 1 ≤ i → i ≤ records bytes → In i (all_chains bytes)
  pub once : Distinct (all_chains bytes)
  pub slots : (i : ℕ) → 1 ≤ i → i ≤ records bytes → wrong_slots (stored_at bytes (base_of bytes) i).slots ≡ false

abbrev pub OpensWhole : List ℕ → Type 0
OpensWhole bytes = (tells : ℕ → Told Slots) → opened bytes ≡ answers tells → Whole bytes
