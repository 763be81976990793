-- What the numbers of pairs of lines stand for, and that offering over all lines of the table, from a bridge to the other end
-- of each line that touches it, is offering along the lines with both directions added together. Assumes nothing.
use Rattle.std.proofs.Common.{◌≡◌, ℕ, zero, suc, ◌+◌, ◌<◌, ◌≤◌, Bool, true, false, cond, not, ◌&&◌, eqb, leb, ◌⊎◌, List, [], ◌∷◌, ◌++◌, length, get_or, Some, None, Option as Held, sym, refl, ap, ◌∙◌, inl, inr, arith, eq-eqb, ne_eqb, eqb-true}
use mathlib.Core.Option.{Option, none, some}
use borrow.Author.Tests.{eqb-false}
use Rattle.std.specs.List.{slice_get}
use Rattle.std.proofs.lemmas.Option.{slice_get_past}
use Rattle.theory.specs.Lists.{In}
use Rattle.theory.specs.Order.{lower}
use Rattle.theory.specs.Arcs.{Arc, at_grade, Proper, line}
use Rattle.theory.specs.Search.{Mark, offer, mark_better}
use Rattle.theory.specs.Delivery.{hand_by}
use Rattle.theory.specs.Widest.{label_le, narrow}
use Rattle.theory.specs.Turning.{slots, slots_outside, link, as_slots}
use Rattle.theory.specs.declared.labels.Label.{Label}
use Rattle.theory.specs.declared.labels.Label.TheVariants.{Unlimited, Limited}
use Rattle.theory.proofs.Tests.{none_some}
use Rattle.theory.proofs.Lists.{each_at}
use Rattle.theory.proofs.Lines.{line_in, line_of}
use Rattle.theory.proofs.Narrowing.{label_ranked}
use Rattle.theory.proofs.Fractions.{leb_ranked}
use Rattle.grade.specs.declared.slots.Slots.{Slots}
use Rattle.grade.specs.Kinds.{slots_of}
use Rattle.standing.specs.Standing.{arc, line_at, standing_from}
use Rattle.standing.proofs.Slots.{some_same, none_some as absent, nth_part, in_standing, standing_in}
use Rattle.search.specs.Chains.{numbered, towards}
use Rattle.search.specs.Marks.{Marks, offered, offered_all}
use Rattle.turn.specs.Doubling.{Row, none_fixed, slot_lines, both_ways, both_rule, record_slots, slots_at, or_zero, partner, pair_slots, pair_label, pair_label_of, Paired, other_end, crossing, crossings}

module _ (lines : List Row) (partners : List ℕ) where
  -- a number past the table stands for the start's label
  pub pair_past : (number : ℕ) → length lines < number → Some Unlimited ≡ pair_label_of lines partners number
  pair_past zero past = absurd (omega arith)
  pair_past (suc k) past = sym (ap (λ o. Some (pair_label lines partners k o)) (slice_get_past lines k (omega arith)))

-- offers one after another
pub offered-append : {G X : Type 0} (le : X → X → Bool) (hand : Arc G → X → X) (u : ℕ) (x : X) (xs ys : List (Arc G)) (m : Marks X) → offered_all le hand u x (xs ++ ys) m ≡ offered_all le hand u x ys (offered_all le hand u x xs m)
offered-append le hand u x [] ys m = refl
offered-append le hand u x (e ∷ xs) ys m = offered-append le hand u x xs ys (offered le hand u x e m)

towards_in : {G : Type 0} (es : List (Arc G)) (v : ℕ) (e : Arc G) → towards es v ≡ some e → In e es × (e.far ≡ v)
towards_in [] v e s = none_some s
towards_in {G} (x ∷ es) v e s = go (towards_in es v e) (eqb v x.far) refl s
  where
    go : (towards es v ≡ some e → In e es × (e.far ≡ v)) → (b : Bool) → eqb v x.far ≡ b → cond b (some x) (towards es v) ≡ some e → In e (x ∷ es) × (e.far ≡ v)
    go rest true eq h =
        let same : x ≡ e = cc in
        (inl (sym same), ap (λ (y : Arc G). y.far) (sym same) ∙ sym (eqb-true v x.far eq))
    go rest false ne h = let r = rest h in (inr r.0, r.1)

towards-found : {G : Type 0} (es : List (Arc G)) (v : ℕ) (e : Arc G) → In e es → e.far ≡ v → towards es v ≡ none → ⊥
towards-found [] v e i is z = i
towards-found {G} (x ∷ es) v e i is z = go (λ j h. towards-found es v e j is h) (eqb v x.far) refl i z
  where
    go : (In e es → towards es v ≡ none → ⊥) → (b : Bool) → eqb v x.far ≡ b → In e (x ∷ es) → cond b (some x) (towards es v) ≡ none → ⊥
    go rest true eq i h = none_some (sym h)
    go rest false ne (inl s) h = eqb-false v x.far ne (sym is ∙ ap (λ (y : Arc G). y.far) s)
    go rest false ne (inr i) h = rest i h

module _ {X : Type 0} (le : X → X → Bool) (u : ℕ) (y : X) (alike : le y y ≡ true) where
  abbrev offer_of : Mark X
  offer_of = record { label = y; from = u }

  -- the same offer twice is that offer once
  offer_twice : (m : Option (Mark X)) → offer le u y (some (λ x. x)) (offer le u y (some (λ x. x)) m) ≡ offer le u y (some (λ x. x)) m
  offer_twice m = go (mark_better le offer_of m) refl
    where
      go : (b : Bool) → mark_better le offer_of m ≡ b → cond (mark_better le offer_of (cond b (some offer_of) m)) (some offer_of) (cond b (some offer_of) m) ≡ cond b (some offer_of) m
      go true e = ap (λ t. cond (not t) (some offer_of) (some offer_of)) alike
      go false e = ap (λ t. cond t (some offer_of) m) e

-- lines that hand the same on to the same bridge, one after another, offer each bridge what the first of its lines hands on
module _ {G X : Type 0} (le : X → X → Bool) (self : (y : X) → le y y ≡ true) (hand : Arc G → X → X) (u : ℕ) (x : X) (gives : ℕ → X) where
  offered_alike : (es : List (Arc G)) → ((e : Arc G) → In e es → hand e x ≡ gives e.far) → (m : Marks X) (v : ℕ) → offered_all le hand u x es m v ≡ offer le u x (hand_by hand (towards es v)) (m v)
  offered_alike [] same m v = refl
  offered_alike (e ∷ es) same m v = offered_alike es (λ x i. same x (inr i)) (offered le hand u x e m) v ∙ at (eqb v e.far) refl
    where
      again : eqb v e.far ≡ true → (o : Option (Arc G)) → towards es v ≡ o → offer le u x (hand_by hand o) (offer le u x (some (hand e)) (m v)) ≡ offer le u x (some (hand e)) (m v)
      again eq none s = refl
      again eq (some d) s =
          let t = towards_in es v d s in
          let like : hand d x ≡ hand e x = same d (inr t.0) ∙ ap gives (t.1 ∙ eqb-true v e.far eq) ∙ sym (same e (inl refl)) in
          ap (λ (y : X). offer le u y (some (λ x. x)) (offer le u x (some (hand e)) (m v))) like ∙ offer_twice le u (hand e x) (self (hand e x)) (m v)

      at : (b : Bool) → eqb v e.far ≡ b → offer le u x (hand_by hand (towards es v)) (offered le hand u x e m v) ≡ offer le u x (hand_by hand (towards (e ∷ es) v)) (m v)
      at true eq =
          ap (λ t. offer le u x (hand_by hand (towards es v)) (cond t (offer le u x (some (hand e)) (m v)) (m v))) eq
          ∙ again eq (towards es v) refl
          ∙ sym (ap (λ t. offer le u x (hand_by hand (cond t (some e) (towards es v))) (m v)) eq)
      at false ne =
          ap (λ t. offer le u x (hand_by hand (towards es v)) (cond t (offer le u x (some (hand e)) (m v)) (m v))) ne ∙ sym (ap (λ t. offer le u x (hand_by hand (cond t (some e) (towards es v))) (m v)) ne)

-- which bridge is at the other end
pub record Ends (l : Row) (u v : ℕ) : Type 0 where
  pub laid : l.near ≡ 0 → ⊥
  pub ends : ((l.near ≡ u) × (l.far ≡ v)) ⊎ ((l.far ≡ u) × (l.near ≡ v))

ends_of : (l : Row) (u v : ℕ) → other_end l u ≡ Some v → Ends l u v
ends_of l u v = go (eqb l.near 0) refl (eqb l.near u) refl (eqb l.far u) refl
  where
    go : (a : Bool) → eqb l.near 0 ≡ a → (b : Bool) → eqb l.near u ≡ b → (c : Bool) → eqb l.far u ≡ c → cond a None (cond b (Some l.far) (cond c (Some l.near) None)) ≡ Some v → Ends l u v
    go true p b q c r e = absent e
    go false p true q c r e = record { laid = eqb-false l.near 0 p; ends = inl (eqb-true l.near u q, some_same e) }
    go false p false q true r e = record { laid = eqb-false l.near 0 p; ends = inr (eqb-true l.far u r, some_same e) }
    go false p false q false r e = absent e

end_far : (l : Row) (u v : ℕ) → (l.near ≡ 0 → ⊥) → l.near ≡ u → l.far ≡ v → other_end l u ≡ Some v
end_far l u v laid near far =
    ap (λ a. cond a None (cond (eqb l.near u) (Some l.far) (cond (eqb l.far u) (Some l.near) None))) (ne_eqb l.near 0 laid)
    ∙ ap (λ b. cond b (Some l.far) (cond (eqb l.far u) (Some l.near) None)) (eq-eqb l.near u near)
    ∙ ap Some far

end-near : (l : Row) (u v : ℕ) → (l.near ≡ 0 → ⊥) → (l.near ≡ u → ⊥) → l.far ≡ u → l.near ≡ v → other_end l u ≡ Some v
end-near l u v laid other far near =
    ap (λ a. cond a None (cond (eqb l.near u) (Some l.far) (cond (eqb l.far u) (Some l.near) None))) (ne_eqb l.near 0 laid)
    ∙ ap (λ b. cond b (Some l.far) (cond (eqb l.far u) (Some l.near) None)) (ne_eqb l.near u other)
    ∙ ap (λ c. cond c (Some l.near) None) (eq-eqb l.far u far)
    ∙ ap Some near

-- a line across comes from a record
record Crossed (lines : List Row) (partners : List ℕ) (u k : ℕ) (ls : List Row) (e : Arc ℕ) : Type 0 where
  place : ℕ
  row : Row
  there : slice_get ls place ≡ Some row
  end : other_end row u ≡ Some e.far
  sum : e.grade ≡ pair_slots lines partners (k + place) row

module _ (lines : List Row) (partners : List ℕ) (u : ℕ) where
  in_crossings : (k : ℕ) (ls : List Row) (e : Arc ℕ) → In e (crossings lines partners u k ls) → Crossed lines partners u k ls e
  in_crossings k [] e i = absurd i
  in_crossings k (l ∷ ls) e i = go (other_end l u) refl i (in_crossings (k + 1) ls e)
    where
      later : Crossed lines partners u (k + 1) ls e → Crossed lines partners u k (l ∷ ls) e
      later r = record { place = suc r.place; row = r.row; there = r.there; end = r.end; sum = r.sum ∙ (let s : k + 1 + r.place ≡ k + suc r.place = omega arith in ap (λ j. pair_slots lines partners j r.row) s) }

      go : (o : Held ℕ) → other_end l u ≡ o → In e (crossing u (k + 1) (pair_slots lines partners k l) o ++ crossings lines partners u (k + 1) ls) → (In e (crossings lines partners u (k + 1) ls) → Crossed lines partners u (k + 1) ls e) → Crossed lines partners u k (l ∷ ls) e
      go None s i rest = later (rest i)
      go (Some v) s (inr i) rest = later (rest i)
      go (Some v) s (inl is) rest = record {
        place = 0;
        row = l;
        there = refl;
        end = s ∙ ap Some (sym (ap (λ (x : Arc ℕ). x.far) is));
        sum = ap (λ (x : Arc ℕ). x.grade) is ∙ (let z : k ≡ k + 0 = omega arith in ap (λ j. pair_slots lines partners j l) z);
      }

  crossings_in : (k : ℕ) (ls : List Row) (j : ℕ) (l : Row) (v : ℕ) → slice_get ls j ≡ Some l → other_end l u ≡ Some v → (e : Arc ℕ) × In e (crossings lines partners u k ls) × (e.far ≡ v)
  crossings_in k [] j l v there end = absent there
  crossings_in k (x ∷ ls) zero l v there end = go (other_end x u) (ap (λ (y : Row). other_end y u) (some_same there) ∙ end)
    where
      go : (o : Held ℕ) → o ≡ Some v → (e : Arc ℕ) × In e (crossing u (k + 1) (pair_slots lines partners k x) o ++ crossings lines partners u (k + 1) ls) × (e.far ≡ v)
      go None s = absent s
      go (Some w) s = (record { number = k + 1; near = u; far = w; grade = pair_slots lines partners k x }, inl refl, some_same s)
  crossings_in k (x ∷ ls) (suc j) l v there end = let r = crossings_in (k + 1) ls j l v there end in (r.0, behind r.0 (other_end x u) r.1, r.2)
    where
      behind : (e : Arc ℕ) (o : Held ℕ) → In e (crossings lines partners u (k + 1) ls) → In e (crossing u (k + 1) (pair_slots lines partners k x) o ++ crossings lines partners u (k + 1) ls)
      behind e None i = i
      behind e (Some w) i = inr i

-- a line read as slots
abbrev pub to_slots : Option (Arc Slots) → Option (Arc ℕ)
to_slots none = none
to_slots (some e) = some (at_grade (λ x. slots_of x.grade) e)

to_cond : (b : Bool) (e : Arc Slots) (o : Option (Arc Slots)) → cond b (some (at_grade (λ x. slots_of x.grade) e)) (to_slots o) ≡ to_slots (cond b (some e) o)
to_cond true e o = refl
to_cond false e o = refl

pub line-slots : (arcs : List (Arc Slots)) (i j : ℕ) → line (as_slots slots_of arcs) i j ≡ to_slots (line arcs i j)
line-slots [] i j = refl
line-slots (e ∷ es) i j = ap (cond (eqb e.near i && eqb e.far j) (some (at_grade (λ x. slots_of x.grade) e))) (line-slots es i j) ∙ to_cond (eqb e.near i && eqb e.far j) e (line es i j)

-- with no line fixed, each adds its slots
outside_none : (o : Option (Arc ℕ)) → slots_outside none_fixed o ≡ slots o
outside_none none = refl
outside_none (some e) = refl

module _ (lines : List Row) where
  abbrev arcs : List (Arc Slots)
  arcs = standing_from 1 lines

  -- the slots of a line that is looked up, by its number
  pub standing-slots : (i j : ℕ) → slots_at lines (or_zero (numbered (line arcs i j))) ≡ slots (line (slot_lines lines) i j)
  standing-slots i j = go (line arcs i j) refl ∙ sym (ap slots (line-slots arcs i j))
    where
      go : (o : Option (Arc Slots)) → line arcs i j ≡ o → slots_at lines (or_zero (numbered o)) ≡ slots (to_slots o)
      go none s = refl
      go (some e) s =
          let r = standing_in lines e (line_in arcs i j e s).0 in
          ap record_slots r.there ∙ ap (λ (x : Arc Slots). slots_of x.grade) (sym r.is)

  net_flip : (u v : ℕ) → both_ways lines u v ≡ both_ways lines v u
  net_flip u v = omega (arith, outside_none (line (slot_lines lines) u v), outside_none (line (slot_lines lines) v u))

label_self : (y : Label ℕ) → label_le leb y y ≡ true
label_self y = go (label_le leb y y) refl
  where
    go : (b : Bool) → label_le leb y y ≡ b → label_le leb y y ≡ true
    go true e = e
    go false e = (label_ranked leb leb_ranked).total y y e

module _ (n : ℕ) (lines : List Row) (partners : List ℕ) (sound : Paired n lines partners) where
  -- the record at a place as a standing line
  at_place : (k : ℕ) (l : Row) → slice_get lines k ≡ Some l → (l.near ≡ 0 → ⊥) → In (arc (suc k) l) (arcs lines)
  at_place k l there laid = in_standing lines (suc k) l there laid

  proper : (k : ℕ) (l : Row) → slice_get lines k ≡ Some l → (l.near ≡ 0 → ⊥) → Proper n (arc (suc k) l)
  proper k l there laid = each_at (Proper n) (arcs lines) sound.standing.within (arc (suc k) l) (at_place k l there laid)

  -- the other end is a bridge
  pub ends_within : (k : ℕ) (l : Row) → slice_get lines k ≡ Some l → (u v : ℕ) → other_end l u ≡ Some v → v ≤ n
  ends_within k l there u v e = go (ends_of l u v e)
    where
      go : Ends l u v → v ≤ n
      go t = by t.ends (proper k l there t.laid)
        where
          by : ((l.near ≡ u) × (l.far ≡ v)) ⊎ ((l.far ≡ u) × (l.near ≡ v)) → Proper n (arc (suc k) l) → v ≤ n
          by (inl p) q = omega (arith, p.1, q.far_to)
          by (inr p) q = omega (arith, p.1, q.near_to)

  -- a record's sum is that of the net
  pair_net : (k : ℕ) (l : Row) → slice_get lines k ≡ Some l → (l.near ≡ 0 → ⊥) → pair_slots lines partners k l ≡ both_ways lines l.near l.far
  pair_net k l there laid =
      let back : get_or partners k 0 ≡ partner (line (arcs lines)) l = ap (λ (ps : List ℕ). get_or ps k 0) sound.paired ∙ nth_part (partner (line (arcs lines))) lines k l there in
      let own : line (slot_lines lines) l.near l.far ≡ some (at_grade (λ x. slots_of x.grade) (arc (suc k) l)) =
      line-slots (arcs lines) l.near l.far ∙ ap to_slots (line_of (arcs lines) (arc (suc k) l) sound.standing.apart (at_place k l there laid)) in
      let forth : slots (line (slot_lines lines) l.near l.far) ≡ slots_of l.grade = ap slots own in
      let other : slots_at lines (get_or partners k 0) ≡ slots (line (slot_lines lines) l.far l.near) = ap (slots_at lines) back ∙ standing-slots lines l.far l.near in
      omega (arith, forth, other, outside_none (line (slot_lines lines) l.far l.near))

  module _ (u : ℕ) where
    abbrev across : List (Arc ℕ)
    across = crossings lines partners u 0 lines

    -- a line across has the net's slots
    cross_net : (e : Arc ℕ) → In e across → (e.grade ≡ both_ways lines u e.far) × (1 ≤ e.grade)
    cross_net e i =
        let r = in_crossings lines partners u 0 lines e i in
        let t = ends_of r.row u e.far r.end in
        let place : 0 + r.place ≡ r.place = omega arith in
        let sum : e.grade ≡ pair_slots lines partners r.place r.row = r.sum ∙ ap (λ j. pair_slots lines partners j r.row) place in
        (sum ∙ pair_net r.place r.row r.there t.laid ∙ by r.row t.ends, omega (arith, sum))
      where
        by : (l : Row) → ((l.near ≡ u) × (l.far ≡ e.far)) ⊎ ((l.far ≡ u) × (l.near ≡ e.far)) → both_ways lines l.near l.far ≡ both_ways lines u e.far
        by l (inl p) = λ k. both_ways lines (p.0 k) (p.1 k)
        by l (inr p) = net_flip lines l.near l.far ∙ (λ k. both_ways lines (p.0 k) (p.1 k))

    -- a standing line that touches u is found across
    record-found : (v k : ℕ) (l : Row) → line_at lines k ≡ Some l → other_end l u ≡ Some v → towards across v ≡ none → ⊥
    record-found v zero l there end z = absent there
    record-found v (suc k) l there end z = let c = crossings_in lines partners u 0 lines k l v there end in towards-found across v c.0 c.1 c.2 z

    near-found : (v : ℕ) (e : Arc Slots) → line (arcs lines) u v ≡ some e → towards across v ≡ none → ⊥
    near-found v e s z =
        let t = line_in (arcs lines) u v e s in
        let r = standing_in lines e t.0 in
        record-found v e.number r.line r.there (end_far r.line u v r.laid (sym (ap (λ (x : Arc Slots). x.near) r.is) ∙ t.1) (sym (ap (λ (x : Arc Slots). x.far) r.is) ∙ t.2)) z

    far_found : (v : ℕ) (e : Arc Slots) → line (arcs lines) v u ≡ some e → towards across v ≡ none → ⊥
    far_found v e s z =
        let t = line_in (arcs lines) v u e s in
        let r = standing_in lines e t.0 in
        let near : r.line.near ≡ v = sym (ap (λ (x : Arc Slots). x.near) r.is) ∙ t.1 in
        let far : r.line.far ≡ u = sym (ap (λ (x : Arc Slots). x.far) r.is) ∙ t.2 in
        let apart = (each_at (Proper n) (arcs lines) sound.standing.within e t.0).differ in
        record-found v e.number r.line r.there (end-near r.line u v r.laid (λ same. apart (t.1 ∙ sym near ∙ same ∙ sym t.2)) far near) z

    none_across : (v : ℕ) → towards across v ≡ none → both_ways lines u v ≡ 0
    none_across v z = go (line (arcs lines) u v) refl (line (arcs lines) v u) refl
      where
        go : (o : Option (Arc Slots)) → line (arcs lines) u v ≡ o → (r : Option (Arc Slots)) → line (arcs lines) v u ≡ r → both_ways lines u v ≡ 0
        go (some e) s r t = absurd (near-found v e s z)
        go none s (some e) t = absurd (far_found v e t z)
        go none s none t =
            let a : slots (line (slot_lines lines) u v) ≡ 0 = ap slots (line-slots (arcs lines) u v ∙ ap to_slots s) in
            let b : slots (line (slot_lines lines) v u) ≡ 0 = ap slots (line-slots (arcs lines) v u ∙ ap to_slots t) in
            omega (arith, a, b, outside_none (line (slot_lines lines) v u))

    hands_same : (v : ℕ) → hand_by (narrow leb) (towards across v) ≡ both_rule n lines u v
    hands_same v = go (towards across v) refl
      where
        go : (o : Option (Arc ℕ)) → towards across v ≡ o → hand_by (narrow leb) o ≡ both_rule n lines u v
        go none s = sym (ap (λ t. hand_by (narrow leb) (cond t none (some (link (both_ways lines) n u v)))) (eq-eqb (both_ways lines u v) 0 (none_across v s)))
        go (some e) s =
            let t = towards_in across v e s in
            let c = cross_net e t.0 in
            let is : e.grade ≡ both_ways lines u v = c.0 ∙ ap (both_ways lines u) t.1 in
            let some_slots : both_ways lines u v ≡ 0 → ⊥ = λ z. omega (arith, c.1, is, z) in
            ap (λ (g : ℕ). some (λ (x : Label ℕ). lower (label_le leb) x (Limited g))) is
            ∙ sym (ap (λ t. hand_by (narrow leb) (cond t none (some (link (both_ways lines) n u v)))) (ne_eqb (both_ways lines u v) 0 some_slots))

    -- offering across is offering along the lines with both directions added together
    pub crossed : (x : Label ℕ) (m : Marks (Label ℕ)) (v : ℕ) → offered_all (label_le leb) (narrow leb) u x across m v ≡ offer (label_le leb) u x (both_rule n lines u v) (m v)
    crossed x m v =
        offered_alike (label_le leb) label_self (narrow leb) u x (λ w. lower (label_le leb) x (Limited (both_ways lines u w))) across (λ e i. ap (λ (g : ℕ). lower (label_le leb) x (Limited g)) (cross_net e i).0) m v
        ∙ ap (λ f. offer (label_le leb) u x f (m v)) (hands_same v)
