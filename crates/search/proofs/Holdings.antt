-- The tables of a lawful book hold its standing lines. Assumes nothing.
use Rattle.std.proofs.Common.{◌≡◌, ℕ, zero, suc, ◌+◌, ◌-◌, ◌≤◌, Bool, true, false, cond, ◌&&◌, eqb, ltb, leb, List, [], ◌∷◌, length, get_or, sym, refl, ap, ◌∙◌, subst, inl, inr, ⊎_elim, arith}
use mathlib.Core.Option.{Option, none, some}
use Rattle.std.proofs.lemmas.List.{length-map}
use Rattle.std.proofs.lemmas.Bool.{cases_eq, cases_lt, cond-true, eq-eqb, ne_eqb, lt-ltb, le-ltb, le-leb, lt-leb, and_left, and_right, and_from}
use Rattle.theory.specs.Lists.{In, Each}
use Rattle.theory.specs.Arcs.{Arc, line}
use Rattle.theory.proofs.Tests.{none_some}
use Rattle.theory.proofs.Lists.{each_of}
use Rattle.theory.proofs.Lines.{line_in, line_of}
use Rattle.book.specs.declared.memory.Line.{Line}
use Rattle.book.specs.Memory.{Memory}
use Rattle.book.specs.Chains.{at, chain as slots_from}
use Rattle.book.specs.Lawful.{nears, fars, nexts, lawful}
use Rattle.book.proofs.Walks.{chain_end, chain_out, chain_spent, chain-step}
use Rattle.book.proofs.Leads.{clash, same_chain, split_before, other_bridge_within}
use Rattle.book.proofs.Sizes.{sound}
use Rattle.standing.specs.Standing.{arc, standing}
use Rattle.standing.proofs.Slots.{at_part, line_there, in_standing, belong_in}
use Rattle.standing.proofs.Chains.{with_slot, arcs_on, arcs_in, lead_other, lead_distinct, ChainTold, chain-told}
use Rattle.standing.proofs.Standing.{on_chain, standing-told}
use Rattle.search.specs.Chains.{linked, chain, head, chain_of, towards, table_line, Fan, Lawful, Holds}

eqb_flip : (a b : ℕ) → eqb a b ≡ eqb b a
eqb_flip a b = ⊎_elim (λ e. eq-eqb a b e ∙ sym (eq-eqb b a (sym e))) (λ ne. ne_eqb a b ne ∙ sym (ne_eqb b a (λ e. ne (sym e)))) (cases_eq a b)

-- among a bridge's own lines the far bridge alone decides
line_own : {G : Type 0} (es : List (Arc G)) (u v : ℕ) → Each (λ e. e.near ≡ u) es → line es u v ≡ towards es v
line_own [] u v own = refl
line_own (e ∷ es) u v own =
    ap (λ b. cond (b && eqb e.far v) (some e) (line es u v)) (eq-eqb e.near u own.0)
    ∙ ap (λ b. cond b (some e) (line es u v)) (eqb_flip e.far v)
    ∙ ap (cond (eqb v e.far) (some e)) (line_own es u v own.1)

-- a line that stands is found
line-some : {G : Type 0} (es : List (Arc G)) (e : Arc G) → In e es → line es e.near e.far ≡ none → ⊥
line-some [] e i z = i
line-some {G} (x ∷ es) e (inl s) z =
    none_some (sym z ∙ cond-true (eqb x.near e.near && eqb x.far e.far) (some x) (line es e.near e.far)
    (and_from _ _ (eq-eqb _ _ (ap (λ (y : Arc G). y.near) (sym s))) (eq-eqb _ _ (ap (λ (y : Arc G). y.far) (sym s)))))
line-some (x ∷ es) e (inr i) z = go (line-some es e i) (eqb x.near e.near && eqb x.far e.far) z
  where
    go : (line es e.near e.far ≡ none → ⊥) → (b : Bool) → cond b (some x) (line es e.near e.far) ≡ none → ⊥
    go later true h = none_some (sym h)
    go later false h = later h

module _ {G : Type 0} (lines : List (Line G)) where
  chain-zero : (k : ℕ) → chain lines k 0 ≡ []
  chain-zero zero = refl
  chain-zero (suc k) = refl

  -- a chain of slots that is not broken is the chain of the lines in them
  chain-arcs : (k i : ℕ) (c : List ℕ) → slots_from (nexts lines) k i ≡ some c → chain lines k i ≡ arcs_on lines c
  chain-arcs zero i c e = ⊎_elim
      (λ z. ap (arcs_on lines) (same_chain _ [] c (chain_end (nexts lines) 0 i z) e))
      (λ ne. absurd (clash _ c (chain_spent (nexts lines) 0 i refl (omega (arith, ne))) e))
      (cases_eq i 0)
  chain-arcs (suc k) zero c e = ap (arcs_on lines) (same_chain _ [] c (chain_end (nexts lines) (suc k) 0 refl) e)
  chain-arcs (suc k) (suc j) c e = ⊎_elim
      (λ out. absurd (clash _ c (chain_out (nexts lines) (suc k) (suc j) out) e))
      (λ within.
      let s = split_before (suc j) (slots_from (nexts lines) k (at (nexts lines) (suc j))) c (sym (chain-step (nexts lines) k (suc j) (omega arith) within) ∙ e) in
      let l = line_there lines (suc j) (omega arith) (omega (arith, within, length-map lines (λ l. l.next))) in
      ap (linked (suc j) (chain lines k)) l.1
      ∙ ap (λ (i : ℕ). arc (suc j) l.0 ∷ chain lines k i) (sym (at_part (λ l. l.next) lines (suc j) l.0 l.1))
      ∙ ap (λ es. arc (suc j) l.0 ∷ es) (chain-arcs k (at (nexts lines) (suc j)) s.0 s.1)
      ∙ sym (ap (λ o. with_slot (suc j) o (arcs_on lines s.0)) l.1)
      ∙ ap (arcs_on lines) (sym s.2))
      (cases_lt (length (nexts lines)) (suc j))

module _ {G : Type 0} (m : Memory G) (law : lawful m ≡ true) where
  abbrev n : ℕ
  n = m.head.bridges

  abbrev told : (u : ℕ) → 1 ≤ u → u ≤ n → ChainTold m law u
  told u low high = chain-told m law u low high

  -- bridge u's lines are those in the slots of its chain
  chain_is : (u : ℕ) (low : 1 ≤ u) (high : u ≤ n) → chain_of n m.first m.lines u ≡ arcs_on m.lines (told u low high).slots
  chain_is u low high =
      let start : head n m.first u ≡ get_or m.first (u - 1) 0 = cond-true (ltb 0 u && leb u n) _ _ (and_from _ _ (lt-ltb 0 u (omega arith)) (le-leb u n high)) in
      ap (chain m.lines (length m.lines)) start
      ∙ ap (λ (k : ℕ). chain m.lines k (get_or m.first (u - 1) 0)) (sym (length-map m.lines (λ l. l.next)))
      ∙ chain-arcs m.lines (length (nexts m.lines)) (get_or m.first (u - 1) 0) (told u low high).slots (told u low high).is

  fan : (u : ℕ) → 1 ≤ u → u ≤ n → Fan (n + 1) (chain_of n m.first m.lines u)
  fan u low high =
      let t = told u low high in
      subst (Fan (n + 1)) (sym (chain_is u low high)) (record {
        within = each_of _ (arcs_on m.lines t.slots) (λ x i.
            let s = arcs_in m.lines t.slots x i in
            let far : at (fars m.lines) s.slot ≡ x.far = at_part (λ l. l.far) m.lines s.slot s.line s.there ∙ sym (ap (λ (y : Arc G). y.far) s.is) in
            let w = other_bridge_within n u (at (fars m.lines) s.slot) (lead_other m.lines n u [] t.slots s.slot t.apart s.on) in
            omega (arith, w.1, far));
        apart = lead_distinct m.lines n u [] t.slots t.apart;
      })

  pub tables-lawful : Lawful n m.first m.lines
  tables-lawful = record { bridges = (sound m law).room; fans = fan }

  own : (u : ℕ) (low : 1 ≤ u) (high : u ≤ n) (x : Arc G) → In x (arcs_on m.lines (told u low high).slots) → x.near ≡ u
  own u low high x i =
      let t = told u low high in
      let s = arcs_in m.lines t.slots x i in
      ap (λ (y : Arc G). y.near) s.is ∙ sym (at_part (λ l. l.near) m.lines s.slot s.line s.there) ∙ belong_in (nears m.lines) u s.slot t.slots t.own s.on

  stands : (u : ℕ) (low : 1 ≤ u) (high : u ≤ n) (x : Arc G) → In x (arcs_on m.lines (told u low high).slots) → In x (standing m)
  stands u low high x i =
      let s = arcs_in m.lines (told u low high).slots x i in
      let near = own u low high x i in
      subst (λ (y : Arc G). In y (standing m)) (sym s.is) (in_standing m.lines s.slot s.line s.there (λ z. let e = ap (λ (y : Arc G). y.near) s.is in omega (arith, z, e, near, low)))

  outside : (u v : ℕ) → (ltb 0 u && leb u n) ≡ false → table_line n m.first m.lines u v ≡ none
  outside u v out = ap (λ t. towards (chain m.lines (length m.lines) (cond t (get_or m.first (u - 1) 0) 0)) v) out ∙ ap (λ es. towards es v) (chain-zero m.lines (length m.lines))

  none_outside : (u v : ℕ) → ((1 ≤ u) × (u ≤ n) → ⊥) → line (standing m) u v ≡ none
  none_outside u v out = go (line (standing m) u v) refl
    where
      go : (o : Option (Arc G)) → line (standing m) u v ≡ o → o ≡ none
      go none e = refl
      go (some x) e =
          let t = line_in (standing m) u v x e in
          let s = on_chain m law x t.0 in
          absurd (out (omega (arith, s.low, t.1), omega (arith, s.high, t.1)))

  inside : (u v : ℕ) (low : 1 ≤ u) (high : u ≤ n) → table_line n m.first m.lines u v ≡ line (standing m) u v
  inside u v low high =
      ap (λ es. towards es v) (chain_is u low high)
      ∙ sym (line_own A u v (each_of _ A (own u low high)))
      ∙ go (line A u v) refl (line (standing m) u v) refl
    where
      A : List (Arc G)
      A = arcs_on m.lines (told u low high).slots

      go : (o : Option (Arc G)) → line A u v ≡ o → (r : Option (Arc G)) → line (standing m) u v ≡ r → o ≡ r
      go none e none f = refl
      go none e (some x) f =
          let t = line_in (standing m) u v x f in
          let there : In x A = subst (λ (w : ℕ). (t : ChainTold m law w) → In x (arcs_on m.lines t.slots)) t.1 (on_chain m law x t.0).among (told u low high) in
          absurd (line-some A x there (ap (λ (w : ℕ). line A w x.far) t.1 ∙ ap (line A u) t.2 ∙ e))
      go (some x) e r f =
          let t = line_in A u v x e in
          sym (line_of (standing m) x (standing-told m law).apart (stands u low high x t.0))
          ∙ ap (λ (w : ℕ). line (standing m) w x.far) t.1 ∙ ap (line (standing m) u) t.2 ∙ f

  pub tables_hold : Holds n m.first m.lines (standing m)
  tables_hold u v = ⊎_elim
      (λ z. outside u v (and_left (ltb 0 u) (leb u n) (le-ltb 0 u (omega arith))) ∙ sym (none_outside u v (λ p. omega (arith, p.0, z))))
      (λ low. ⊎_elim
      (λ l. outside u v (and_right (ltb 0 u) (leb u n) (lt-leb u n l)) ∙ sym (none_outside u v (λ p. omega (arith, p.1, l))))
      (inside u v low)
      (cases_lt n u))
      (cases_lt u 1)
