-- The search with both directions added together is the search that turning tells of. Assumes nothing.
use Rattle.std.proofs.Common.{◌≡◌, ℕ, ◌<◌, ◌≤◌, Bool, true, false, cond, ltb, leb, List, [], ◌∷◌, length, None, sym, refl, ap, ◌∙◌, subst, arith}
use mathlib.Core.Path.{fun_ext}
use mathlib.Core.Option.{Option, none, some}
use Rattle.std.proofs.lemmas.Bool.{le-leb, and_from, cond-true}
use Rattle.theory.specs.Arcs.{Arc, stops, Pair, Lines, line}
use Rattle.theory.specs.Search.{Rule, Mark, State, search, way_in}
use Rattle.theory.specs.Delivery.{hand_by, lines_along, told as told_by_mark, best_delivery, JudgedBest}
use Rattle.theory.specs.Widest.{label_le, narrow, widest_search, told_width, as_wide, width_told}
use Rattle.theory.specs.Turning.{Turn, slots, net_line, doubled, number_first, named_from, named, turn_told, turning}
use Rattle.theory.specs.declared.labels.Label.{Label}
use Rattle.theory.specs.declared.labels.Label.TheVariants.{Unlimited, Limited}
use Rattle.theory.proofs.Deliveries.{line-outcome, best-found, bridges-told}
use Rattle.theory.proofs.Narrowing.{label_ranked, narrow_losing}
use Rattle.theory.proofs.Fractions.{leb_ranked}
use Rattle.theory.proofs.Carrying.{lines_carried}
use Rattle.theory.proofs.RouteEnds.{routes_short}
use Rattle.theory.proofs.Turning.{doubled_lines}
use Rattle.grade.specs.declared.slots.Slots.{Slots}
use Rattle.grade.specs.Kinds.{slots_of}
use Rattle.grade.specs.Told.{Reply, answers, refused, unless_refused}
use Rattle.book.specs.Memory.{Memory}
use Rattle.book.specs.Admission.{admission}
use Rattle.standing.specs.Standing.{standing, standing_from}
use Rattle.search.specs.Chains.{Lookup, table_line, numbered, Holds}
use Rattle.search.specs.Ways.{with_number}
use Rattle.turn.specs.Doubling.{Row, none_fixed, slot_lines, both_ways, slots_at, or_zero}
use Rattle.turn.specs.Outcomes.{outcome, named_by, turn_of, turn_by, both_search, shown, turned_round, turn_admission, turning_round}
use Rattle.turn.proofs.Crossing.{to_slots, line-slots, standing-slots}

first_named : (b : Bool) (o : Option (Arc Slots)) (ks : List ℕ) → cond b (number_first (to_slots o) ks) ks ≡ with_number (cond b (numbered o) None) ks
first_named true none ks = refl
first_named true (some e) ks = refl
first_named false o ks = refl

named_same : (lines : List Row) (w i : ℕ) (bs : List ℕ) → named_from (slot_lines lines) w i bs ≡ named_by lines (line (standing_from 1 lines)) w i bs
named_same lines w i [] = refl
named_same lines w i (j ∷ bs) =
    let S = slot_lines lines in
    let look = line (standing_from 1 lines) in
    let rest = named_by lines look w j bs in
    ap (λ ks. cond (ltb (slots (line S i j)) w) (number_first (line S j i) ks) ks) (named_same lines w j bs)
    ∙ ap (λ k. cond (ltb k w) (number_first (line S j i) rest) rest) (sym (standing-slots lines i j))
    ∙ ap (λ o. cond (ltb (slots_at lines (or_zero (numbered (look i j)))) w) (number_first o rest) rest) (line-slots (standing_from 1 lines) j i)
    ∙ first_named (ltb (slots_at lines (or_zero (numbered (look i j)))) w) (look j i) rest

module _ (n : ℕ) (lines : List Row) (ls : Lines n (standing_from 1 lines)) where
  abbrev S : List (Arc ℕ)
  S = slot_lines lines

  abbrev D : List (Arc ℕ)
  D = doubled n (slot_lines lines) none_fixed

  both : Lines n D × ((i j : ℕ) → line D i j ≡ net_line (both_ways lines) n i j)
  both = doubled_lines n S (lines_carried slots_of n (standing_from 1 lines) ls) none_fixed

  -- the search over the lines is turning's
  searched_same : (a z : ℕ) → both_search n lines a z ≡ widest_search leb D n a z
  searched_same a z = ap (λ (rule : Rule (Label ℕ)). search (label_le leb) rule n a Unlimited z) (fun_ext (λ u. fun_ext (λ v. sym (ap (hand_by (narrow leb)) (both.1 u v)))))

  module _ (a z : ℕ) (ends : Pair n a z) where
    abbrev s : State (Label ℕ)
    s = widest_search leb D n a z

    abbrev row : List ℕ
    row = way_in n (widest_search leb D n a z) a z []

    -- a route that is found is told with its bridges
    delivered : (m : Mark (Label ℕ)) → s.taken z ≡ true → s.mark z ≡ some m → best_delivery (label_le leb) (narrow leb) D n a Unlimited z ≡ some (record { label = m.label; lines = lines_along D a row })
    delivered m e q = ap (λ t. told_by_mark t (s.mark z) (lines_along D a row)) e ∙ ap (λ o. told_by_mark true o (lines_along D a row)) q

    over_row : (m : Mark (Label ℕ)) → s.taken z ≡ true → s.mark z ≡ some m → stops a (lines_along D a row) ≡ a ∷ row
    over_row m e q =
        bridges-told (label_le leb) (label_ranked leb leb_ranked) (narrow leb) D (narrow_losing leb leb_ranked D) n both.0 a z ends Unlimited (record { label = m.label; lines = lines_along D a row }) (delivered m e q)

    -- and it has at most n bridges
    row_short : s.taken z ≡ true → length row < n
    row_short t =
        let f = (line-outcome (label_le leb) (label_ranked leb leb_ranked) (narrow leb) D (narrow_losing leb leb_ranked D) n both.0 a z ends Unlimited).found t in
        let q = f.1.marked in
        let best = subst (JudgedBest (label_le leb) (narrow leb) D a z Unlimited) (delivered f.0 t q) (best-found (label_le leb) (label_ranked leb leb_ranked) (narrow leb) D (narrow_losing leb leb_ranked D) n both.0 a z ends Unlimited) in
        let few : length (stops a (lines_along D a row)) ≤ n = routes_short n D both.0 a z (lines_along D a row) best.route in
        let is : length (stops a (lines_along D a row)) ≡ length (a ∷ row) = ap length (over_row f.0 t q) in
        omega arith

    -- what is told of its state is turning's answer
    turn_same : turn_by lines (line (standing_from 1 lines)) n a z s ≡ turning n S none_fixed a z
    turn_same = go (s.taken z) refl (s.mark z) refl
      where
        told_limit : (l : Label ℕ) → stops a (lines_along D a row) ≡ a ∷ row → turn_of lines (line (standing_from 1 lines)) a row (width_told (told_width l [])) ≡ turn_told S a (told_width l (lines_along D a row))
        told_limit Unlimited over = refl
        told_limit (Limited w) over =
            ap (λ (ks : List ℕ). some (record { width = w; bridges = a ∷ row; lines = ks })) (sym (named_same lines w a row))
            ∙ ap (λ (bs : List ℕ). some (record { width = w; bridges = bs; lines = named S w bs })) (sym over)

        go : (t : Bool) → s.taken z ≡ t → (m : Option (Mark (Label ℕ))) → s.mark z ≡ m → turn_of lines (line (standing_from 1 lines)) a row (width_told (as_wide (told_by_mark {G = ℕ} t m []))) ≡ turn_told S a (as_wide (told_by_mark t m (lines_along D a row)))
        go false e m q = refl
        go true e none q = refl
        go true e (some m) q = told_limit m.label (over_row m e q)

-- the same over tables that hold these lines
module _ (n : ℕ) (first : List ℕ) (lines : List Row) (ls : Lines n (standing_from 1 lines)) (holds : Holds n first lines (standing_from 1 lines)) (a z : ℕ) (ends : Pair n a z) where
  look_same : table_line n first lines ≡ line (standing_from 1 lines)
  look_same = fun_ext (λ u. fun_ext (λ v. holds u v))

  -- what the search over the tables tells is turning's answer
  pub turned-table : (bridges turned : List ℕ) → shown (turn_by lines (table_line n first lines) n a z (both_search n lines a z)) bridges turned ≡ turned_round slots_of (standing_from 1 lines) n a z bridges turned
  turned-table bridges turned =
      ap (λ (look : Lookup Slots). shown (turn_by lines look n a z (both_search n lines a z)) bridges turned) look_same
      ∙ ap (λ (s : State (Label ℕ)). shown (turn_by lines (line (standing_from 1 lines)) n a z s) bridges turned) (searched_same n lines ls a z)
      ∙ ap (λ (t : Option Turn). shown t bridges turned) (turn_same n lines ls a z ends)

  -- and its route has at most n bridges
  pub short_table : (s : State (Label ℕ)) → s ≡ both_search n lines a z → s.taken z ≡ true → length (way_in n s a z []) < n
  short_table s is = subst (λ (t : State (Label ℕ)). t.taken z ≡ true → length (way_in n t a z []) < n) (sym (is ∙ searched_same n lines ls a z)) (row_short n lines ls a z ends)

pub outcome_path : {r s : Reply (ℕ × ℕ × ℕ)} {a b c d : List ℕ} → r ≡ s → a ≡ b → c ≡ d → outcome r a c ≡ outcome s b d
outcome_path p q t = λ i. outcome (p i) (q i) (t i)

-- once the checks pass, turn goes over the standing lines
pub turning_on : {G : Type 0} (slots : G → ℕ) (m : Memory G) (work a z : ℕ) (bridges turned : List ℕ) → m.head.bridges ≤ length bridges → m.head.bridges ≤ length turned → answers tt ≡ admission m work a z
    → turning_round slots m work a z bridges turned ≡ turned_round slots (standing m) m.head.bridges a z bridges turned
turning_on slots m work a z bridges turned wide long pass =
    let n = m.head.bridges in
    let enough = and_from (leb n (length bridges)) (leb n (length turned)) (le-leb _ _ wide) (le-leb _ _ long) in
    let passes : turn_admission m work (length bridges) (length turned) a z ≡ answers tt = cond-true _ (admission m work a z) (refused 2) enough ∙ sym pass in
    ap (λ (r : Reply (Unit {0})). unless_refused r (bridges, turned) (turned_round slots (standing m) n a z bridges turned)) passes
