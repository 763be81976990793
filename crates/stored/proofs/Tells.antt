-- What a stored survey tells, by its records. Assumes nothing.
use Rattle.std.proofs.Common.{◌≡◌, ℕ, ◌-◌, Bool, true, false, cond, eqb, List, [], ◌∷◌, map, Some, None, Option, refl, ap, ◌∙◌}
use Rattle.grade.specs.declared.slots.Slots.{Slots}
use Rattle.grade.specs.Kinds.{slots_grade}
use Rattle.stored.specs.declared.layout.Record.{Record}
use Rattle.field.specs.Meaning.{silent, listed, nth, far_of, far_at, grade_of, grade_at}
use Rattle.stored.specs.Stored.{entry_of, has_list, list_of, stored_tells}
use Rattle.stored.specs.Marks.{line_of}

-- an option, read by f
abbrev pub read : {X Y : Type 0} → (X → Y) → Option X → Option Y
read f None = None
read f (Some x) = Some (f x)

pub nth-map : {X Y : Type 0} (f : X → Y) (xs : List X) (k : ℕ) → nth (map f xs) k ≡ read f (nth xs k)
nth-map f [] k = refl
nth-map f (x ∷ xs) k = at (eqb k 1) (nth-map f xs (k - 1))
  where
    at : (b : Bool) → nth (map f xs) (k - 1) ≡ read f (nth xs (k - 1)) → cond b (Some (f x)) (nth (map f xs) (k - 1)) ≡ read f (cond b (Some x) (nth xs (k - 1)))
    at true h = refl
    at false h = h

far_of-read : (o : Option Record) → far_of (read entry_of o) ≡ read (λ (rec : Record). rec.far) o
far_of-read None = refl
far_of-read (Some rec) = refl

abbrev pub slots_of : Record → Slots
slots_of rec = slots_grade rec.slots

grade_of-read : (o : Option Record) → grade_of (read entry_of o) ≡ read slots_of o
grade_of-read None = refl
grade_of-read (Some rec) = refl

pub far_told : (bytes : List ℕ) (b k : ℕ) → far_at (stored_tells bytes b) k ≡ read (λ (rec : Record). rec.far) (line_of bytes b k)
far_told bytes b k = at (has_list bytes b)
  where
    at : (t : Bool) → far_at (cond t (listed (map entry_of (list_of bytes b))) (silent 1)) k ≡ read (λ (rec : Record). rec.far) (cond t (nth (list_of bytes b) k) None)
    at true = ap far_of (nth-map entry_of (list_of bytes b) k) ∙ far_of-read (nth (list_of bytes b) k)
    at false = refl

pub grade_told : (bytes : List ℕ) (b k : ℕ) → grade_at (stored_tells bytes b) k ≡ read slots_of (line_of bytes b k)
grade_told bytes b k = at (has_list bytes b)
  where
    at : (t : Bool) → grade_at (cond t (listed (map entry_of (list_of bytes b))) (silent 1)) k ≡ read slots_of (cond t (nth (list_of bytes b) k) None)
    at true = ap grade_of (nth-map entry_of (list_of bytes b) k) ∙ grade_of-read (nth (list_of bytes b) k)
    at false = refl
