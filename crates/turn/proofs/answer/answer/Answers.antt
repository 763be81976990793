use Rattle.std.proofs.Common.{◌≡◌, ℕ, ◌+◌, ◌-◌, Bool, true, false, List, [], ◌∷◌, ◌++◌, length, get_or, take, drop, Some, Option as Held, sym, refl, ap, ◌∙◌, arith}
use Rattle.std.proofs.lemmas.List.{take_rest}
use Rattle.theory.specs.Search.{way_in}
use Rattle.theory.specs.Widest.{width_told}
use Rattle.theory.specs.declared.labels.Label.{Label}
use Rattle.grade.specs.Told.{answers}
use Rattle.search.specs.Chains.{table_line}
use Rattle.search.specs.Marks.{state_of, takens}
use Rattle.search.specs.Ways.{back}
use Rattle.search.specs.Widths.{width_in}
use Rattle.search.proofs.Backward.{back-way_in}
use Rattle.search.proofs.Widths.{widened, told-widened}
use Rattle.turn.specs.Doubling.{Row, pair_label_of}
use Rattle.turn.specs.Outcomes.{shown, turn_of, named_by, written, state_width}
use Rattle.turn.proofs.Turnings.{outcome_path}
use Rattle.turn.proofs.answer.answer.Goals as goal

-- the row read back is the way in
row_is : (read : ℕ → Held (Label ℕ)) (labels ways taken spare : List ℕ) (n m a z at : ℕ) → m ≡ n → drop at spare ≡ back read labels ways m a z [] → take (length spare - at) (drop at spare) ≡ way_in n (state_of read labels ways taken) a z []
row_is read labels ways taken spare n m a z at same is = take_rest spare at ∙ is ∙ ap (λ k. back read labels ways k a z []) same ∙ back-way_in read labels ways taken a n z []

-- the width by memory is the width by the state
width_is : (read : ℕ → Held (Label ℕ)) (labels ways taken : List ℕ) (z : ℕ) (w : Held ℕ) → w ≡ width_in (takens taken z) (read (get_or labels z 0)) → width_told (widened w []) ≡ state_width (state_of read labels ways taken) z
width_is read labels ways taken z w is = ap (λ h. width_told (widened h [])) is ∙ sym (ap width_told (told-widened (takens taken z) (read (get_or labels z 0)) (get_or ways z 0) []))

-- a width is told only where the end is taken
width-taken : (t : Bool) (x : Held (Label ℕ)) (w : ℕ) → Some w ≡ width_in t x → t ≡ true
width-taken true x w e = refl
width-taken false x w e = absurd (let z : ◌≡◌ {A = ℕ} 0 1 = cc in omega arith)

pub write_bridges-stops-requires : goal.write_bridges-stops-requires
write_bridges-stops-requires c =
    let net = c.args.tables.now in
    let read = pair_label_of net.lines.now c.args.partners.now in
    let labels : List ℕ = c.args.ended.now.labels.now in
    let taken : List ℕ = c.args.ended.now.taken.now in
    let z : ℕ = c.args.ends.end in
    let way = row_is read labels c.args.ended.now.ways.now taken c.way_back-at.new.spare net.n (length c.args.spare.now) c.args.ends.start z c.way_back-at.result c.requires.spare c.way_back-at.ensures.row in
    let told : Some c.in-Some.width ≡ width_in (takens taken z) (read (get_or labels z 0)) = (rw c.is_marked-is_taken.ensures at c.in-Some.ensures) ∙ ap (width_in (takens taken z)) (rw c.from.ensures at c.label_of-label.ensures) in
    let short = c.requires.short (width-taken (takens taken z) (read (get_or labels z 0)) c.in-Some.width told) in
    omega (arith, ap length way, short)

pub returns : goal.returns
returns c =
    let net = c.args.tables.now in
    let lines : List Row = net.lines.now in
    let n : ℕ = net.n in
    let read = pair_label_of lines c.args.partners.now in
    let labels : List ℕ = c.args.ended.now.labels.now in
    let ways : List ℕ = c.args.ended.now.ways.now in
    let taken : List ℕ = c.args.ended.now.taken.now in
    let a : ℕ = c.args.ends.start in
    let z : ℕ = c.args.ends.end in
    let w : ℕ = c.in-Some.width in
    let look = table_line n net.first.now lines in
    let old : List ℕ = c.args.bridges.now in
    let old' : List ℕ = c.args.turned.now in
    let spare : List ℕ = c.way_back-at.new.spare in
    let at : ℕ = c.way_back-at.result in
    let row : List ℕ = take (length spare - at) (drop at spare) in
    let route : List ℕ = way_in n (state_of read labels ways taken) a z [] in
    let way : row ≡ route = row_is read labels ways taken spare n (length c.args.spare.now) a z at c.requires.spare c.way_back-at.ensures.row in
    let one_more : length row + 1 ≡ length (a ∷ row) = omega arith in
    let told : Some w ≡ width_in (takens taken z) (read (get_or labels z 0)) = (rw c.is_marked-is_taken.ensures at c.in-Some.ensures) ∙ ap (width_in (takens taken z)) (rw c.from.ensures at c.label_of-label.ensures) in
    let stops-is : c.write_bridges-stops.result ≡ length (a ∷ route) = c.write_bridges-stops.ensures.count ∙ one_more ∙ ap (λ (r : List ℕ). length (a ∷ r)) way in
    let count-is : c.write_turned-count.result ≡ length (named_by lines look w a route) = c.write_turned-count.ensures.count ∙ ap (λ (r : List ℕ). length (named_by lines look w a r)) way in
    outcome_path
    (ap (λ (k : ℕ). answers (w, k, c.write_turned-count.result)) stops-is ∙ ap (λ (k : ℕ). answers (w, length (a ∷ route), k)) count-is)
    (c.write_bridges-stops.ensures.after ∙ ap (λ (k : ℕ). (a ∷ row) ++ drop k old) one_more ∙ ap (λ (r : List ℕ). written (a ∷ r) old) way)
    (c.write_turned-count.ensures.after ∙ ap (λ (r : List ℕ). written (named_by lines look w a r) old') way)
    ∙ ap (λ o. shown (turn_of lines look a route o) old old') (width_is read labels ways taken z (Some w) told)
