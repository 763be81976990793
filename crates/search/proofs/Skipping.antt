-- Chains and standing lines with one line left out. Assumes nothing.
use Rattle.std.proofs.Common.{◌≡◌, ℕ, zero, suc, ◌-◌, ◌<◌, Bool, true, false, cond, ◌&&◌, eqb, ltb, leb, List, [], ◌∷◌, map, length, get_or, Some, None, Option as Held, sym, refl, ap, ◌∙◌, subst, inl, inr, arith, ne_eqb, eqb-true}
use mathlib.Core.Path.{fun_ext}
use mathlib.Core.Option.{Option, none, some}
use borrow.Author.Tests.{eqb-false}
use Rattle.std.specs.Option.{option_eq}
use Rattle.std.proofs.lemmas.Bool.{and_parts, ltb-true, leb-true}
use Rattle.theory.specs.Lists.{In, Distinct}
use Rattle.theory.specs.Arcs.{Arc, Apart, AllApart, line}
use Rattle.theory.specs.Margins.{without}
use Rattle.theory.proofs.Tests.{false_unless}
use Rattle.theory.proofs.Lists.{each_at, each_of}
use Rattle.theory.proofs.Regrading.{in_without}
use Rattle.book.specs.declared.memory.Line.{Line}
use Rattle.search.specs.Chains.{chain, towards, chain_of, omitting, line_but, Fan, Lawful, Holds}
use Rattle.search.specs.Marks.{Marks, offered_all}
use Rattle.search.proofs.Offers.{no_line_towards}

module _ {G X : Type 0} (le : X → X → Bool) (hand : Arc G → X → X) (u : ℕ) (x : X) where
  -- a chain's first line, then the others
  pub offered_split : (skip : Held ℕ) (e : Arc G) (es : List (Arc G)) (m : Marks X) → offered_all le hand u x (omitting skip (e ∷ es)) m ≡ offered_all le hand u x (omitting skip es) (offered_all le hand u x (omitting skip (e ∷ [])) m)
  offered_split None e es m = refl
  offered_split (Some k) e es m = go (eqb e.number k)
    where
      go : (out : Bool) → offered_all le hand u x (cond out (without es k) (e ∷ without es k)) m ≡ offered_all le hand u x (without es k) (offered_all le hand u x (cond out [] (e ∷ [])) m)
      go true = refl
      go false = refl

  pub offered_one : (skip : Held ℕ) (e : Arc G) (m : Marks X) → option_eq eqb skip (Some e.number) ≡ false → offered_all le hand u x (omitting skip (e ∷ [])) m ≡ offered_all le hand u x (e ∷ []) m
  offered_one None e m on = refl
  offered_one (Some k) e m on = ap (λ t. offered_all le hand u x (cond t [] (e ∷ [])) m) (ne_eqb e.number k (λ is. eqb-false k e.number on (sym is)))

-- of no line none is left out
pub none_omitted : {G : Type 0} (skip : Held ℕ) → omitting {G = G} skip [] ≡ []
none_omitted None = refl
none_omitted (Some k) = refl

far_without : {G : Type 0} (es : List (Arc G)) (k v : ℕ) → In v (map (λ e. e.far) (without es k)) → In v (map (λ e. e.far) es)
far_without [] k v i = i
far_without (e ∷ es) k v i = go (eqb e.number k) (far_without es k v) i
  where
    go : (out : Bool) → (In v (map (λ e. e.far) (without es k)) → In v (map (λ e. e.far) es)) → In v (map (λ e. e.far) (cond out (without es k) (e ∷ without es k))) → In v (map (λ e. e.far) (e ∷ es))
    go true rest i = inr (rest i)
    go false rest (inl s) = inl s
    go false rest (inr i) = inr (rest i)

distinct_without : {G : Type 0} (es : List (Arc G)) (k : ℕ) → Distinct (map (λ e. e.far) es) → Distinct (map (λ e. e.far) (without es k))
distinct_without [] k d = tt
distinct_without (e ∷ es) k d = go (eqb e.number k) (distinct_without es k d.1)
  where
    go : (out : Bool) → Distinct (map (λ e. e.far) (without es k)) → Distinct (map (λ e. e.far) (cond out (without es k) (e ∷ without es k)))
    go true rest = rest
    go false rest = ((λ i. d.0 (far_without es k e.far i)), rest)

pub fan_omitting : {G : Type 0} (m : ℕ) (es : List (Arc G)) (skip : Held ℕ) → Fan m es → Fan m (omitting skip es)
fan_omitting m es None f = f
fan_omitting m es (Some k) f = record {
  within = each_of (λ e. e.far < m) (without es k) (λ e i. each_at (λ e. e.far < m) es f.within e (in_without es k e i).0);
  apart = distinct_without es k f.apart;
}

-- a line that may be there, unless it is the one left out
abbrev unless_out : {G : Type 0} → ℕ → Option (Arc G) → Option (Arc G)
unless_out k none = none
unless_out k (some e) = cond (eqb e.number k) none (some e)

towards-without : {G : Type 0} (es : List (Arc G)) → Distinct (map (λ e. e.far) es) → (k v : ℕ) → towards (without es k) v ≡ unless_out k (towards es v)
towards-without [] d k v = refl
towards-without {G} (e ∷ es) d k v = go (eqb e.number k) refl (eqb v e.far) refl (towards-without es d.1 k v)
  where
    go : (out : Bool) → eqb e.number k ≡ out → (here : Bool) → eqb v e.far ≡ here → towards (without es k) v ≡ unless_out k (towards es v) → towards (cond out (without es k) (e ∷ without es k)) v ≡ unless_out k (cond here (some e) (towards es v))
    go true o true h rest =
        let gone : towards es v ≡ none = no_line_towards es v (λ i. d.0 (subst (λ (y : ℕ). In y (map (λ e. e.far) es)) (eqb-true v e.far h) i)) in
        rest ∙ ap (unless_out k) gone ∙ sym (ap (λ t. cond t none (some e)) o)
    go true o false h rest = rest
    go false o true h rest = ap (λ t. cond t (some e) (towards (without es k) v)) h ∙ sym (ap (λ t. cond t none (some e)) o)
    go false o false h rest = ap (λ t. cond t (some e) (towards (without es k) v)) h ∙ rest

none_line : {G : Type 0} (e : Arc G) (es : List (Arc G)) (i j : ℕ) → Apart e es → e.near ≡ i → e.far ≡ j → line es i j ≡ none
none_line e [] i j a near far = refl
none_line e (x ∷ es) i j a near far =
    ap (λ t. cond t (some x) (line es i j)) (false_unless (eqb x.near i && eqb x.far j) (λ t. let b = and_parts (eqb x.near i) (eqb x.far j) t in a.0.1 (near ∙ sym (eqb-true x.near i b.0)) (far ∙ sym (eqb-true x.far j b.1))))
    ∙ none_line e es i j a.1 near far

line-without : {G : Type 0} (es : List (Arc G)) → AllApart es → (k i j : ℕ) → line (without es k) i j ≡ unless_out k (line es i j)
line-without [] a k i j = refl
line-without {G} (e ∷ es) a k i j = go (eqb e.number k) refl (eqb e.near i && eqb e.far j) refl (line-without es a.1 k i j)
  where
    go : (out : Bool) → eqb e.number k ≡ out → (here : Bool) → (eqb e.near i && eqb e.far j) ≡ here → line (without es k) i j ≡ unless_out k (line es i j) → line (cond out (without es k) (e ∷ without es k)) i j ≡ unless_out k (cond here (some e) (line es i j))
    go true o true h rest =
        let b = and_parts (eqb e.near i) (eqb e.far j) h in
        rest ∙ ap (unless_out k) (none_line e es i j a.0 (eqb-true e.near i b.0) (eqb-true e.far j b.1)) ∙ sym (ap (λ t. cond t none (some e)) o)
    go true o false h rest = rest
    go false o true h rest = ap (λ t. cond t (some e) (line (without es k) i j)) h ∙ sym (ap (λ t. cond t none (some e)) o)
    go false o false h rest = ap (λ t. cond t (some e) (line (without es k) i j)) h ∙ rest

chain-zero : {G : Type 0} (lines : List (Line G)) (k : ℕ) → chain lines k 0 ≡ []
chain-zero lines zero = refl
chain-zero lines (suc k) = refl

-- each bridge's lines lead to bridges apart; a number that is no bridge has no line
distinct_fars : {G : Type 0} (n : ℕ) (first : List ℕ) (lines : List (Line G)) → Lawful n first lines → (u : ℕ) → Distinct (map (λ e. e.far) (chain_of n first lines u))
distinct_fars n first lines lawful u = go (ltb 0 u && leb u n) refl
  where
    go : (t : Bool) → (ltb 0 u && leb u n) ≡ t → Distinct (map (λ e. e.far) (chain_of n first lines u))
    go true in-range = let b = and_parts (ltb 0 u) (leb u n) in-range in (lawful.fans u (omega (arith, ltb-true 0 u b.0)) (leb-true u n b.1)).apart
    go false out =
        let nothing : chain_of n first lines u ≡ [] = ap (λ t. chain lines (length lines) (cond t (get_or first (u - 1) 0) 0)) out ∙ chain-zero lines (length lines) in
        subst (λ (es : List (Arc _)). Distinct (map (λ e. e.far) es)) (sym nothing) tt

-- tables that hold standing lines hold them but for one with one left out
pub holds_omitting : {G : Type 0} (n : ℕ) (first : List ℕ) (lines : List (Line G)) (arcs : List (Arc G)) (skip : Held ℕ) → Lawful n first lines → Holds n first lines arcs → AllApart arcs → line_but n first lines skip ≡ line (omitting skip arcs)
holds_omitting n first lines arcs None lawful holds apart = fun_ext (λ u. fun_ext (λ v. holds u v))
holds_omitting n first lines arcs (Some k) lawful holds apart =
    fun_ext (λ u. fun_ext (λ v. towards-without (chain_of n first lines u) (distinct_fars n first lines lawful u) k v ∙ ap (unless_out k) (holds u v) ∙ sym (line-without arcs apart k u v)))
