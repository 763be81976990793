-- Bytes in shape have no more records than there may be. Assumes nothing.
use Rattle.std.proofs.Common.{◌≡◌, ℕ, ◌+◌, ◌*◌, ◌≤◌, true, ◌&&◌, eqb, leb, List, length}
use Rattle.std.proofs.lemmas.Bool.{and_parts, leb-true}
use Rattle.stored.specs.Stored.{bridges, records, base_of, well_shaped}

module _ (bytes : List ℕ) (shaped : well_shaped bytes ≡ true) where
  parts : ((leb 1 (bridges bytes) && leb (bridges bytes) 256) ≡ true) × ((leb (records bytes) 1024 && eqb (length bytes) (base_of bytes + 8 * records bytes)) ≡ true)
  parts = and_parts (leb 1 (bridges bytes) && leb (bridges bytes) 256) (leb (records bytes) 1024 && eqb (length bytes) (base_of bytes + 8 * records bytes)) shaped

  pub few_records : records bytes ≤ 1024
  few_records = leb-true (records bytes) 1024 (and_parts (leb (records bytes) 1024) (eqb (length bytes) (base_of bytes + 8 * records bytes)) parts.1).0
