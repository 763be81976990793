-- What a survey answers on each way. Assumes nothing.
use Rattle.std.proofs.Common.{◌≡◌, ℕ, ◌≤◌, true, leb, cond, ap}
use Rattle.std.proofs.lemmas.Bool.{and_parts, leb-true}
use Rattle.grade.specs.Told.{Reply, refuses, refused, unless_refused}
use Rattle.book.specs.Memory.{Memory}
use Rattle.book.specs.Admission.{is_bridge, book_admission}
use Rattle.field.specs.Meaning.{Told}
use Rattle.survey.specs.Walk.{walked}
use Rattle.survey.specs.Recording.{recorded_over, surveying}

pub bridge_within : (n start : ℕ) → is_bridge n start ≡ true → (1 ≤ start) × (start ≤ n)
bridge_within n start h = let parts = and_parts (leb 1 start) (leb start n) h in (leb-true 1 start parts.0, leb-true start n parts.1)

module _ {G : Type 0} (tells : ℕ → Told G) (m : Memory G) (work start : ℕ) where
  abbrev n : ℕ
  n = m.head.bridges

  abbrev outcome : Reply ℕ × Memory G
  outcome = cond (is_bridge n start) (recorded_over tells m (walked tells n m.head.slots start)) (refused 3, m)

  pub not_admitted : (x : ℕ × ℕ × ℕ) → refuses x ≡ book_admission m work → (refuses x, m) ≡ surveying tells m work start
  not_admitted x e = ap (λ (r : Reply (Unit {0})). unless_refused r m outcome) e
