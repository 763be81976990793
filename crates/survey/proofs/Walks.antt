-- An accepted walk finds the reachable bridges, each once, in the order found. Assumes nothing.
use Rattle.std.proofs.Common.{◌≡◌, ℕ, zero, suc, ◌+◌, ◌<◌, ◌≤◌, false, not, ◌||◌, eqb, ltb, leb, List, [], ◌∷◌, ◌++◌, map, length, get_or, take, sym, refl, ap, ◌∙◌, subst, inl, ⊎_elim, append_assoc, arith, length-append}
use Rattle.std.proofs.lemmas.List.{append-nil, flat_map_more, take_more, take-append-le, get_or_append_left, take_all, length-map, map-append}
use Rattle.std.proofs.lemmas.Bool.{cases_Bool, cases_lt, or_parts, not-false, and_parts, leb-true, ltb-true, ltb-false}
use Rattle.theory.specs.Lists.{In, Each, Distinct, among}
use Rattle.theory.proofs.Tests.{clash}
use Rattle.theory.proofs.Lists.{each_at, each_of, each_map, in_front, in_snoc, in_last, among_in, in_among, distinct_snoc}
use Rattle.theory.proofs.Counting.{few}
use Rattle.grade.specs.Told.{Reply, answers, refuses, and_then}
use Rattle.grade.proofs.Replies.{refused-not, answers_same, by_cond}
use Rattle.book.specs.Admission.{is_bridge}
use Rattle.field.specs.Meaning.{Told, silent, listed, Entry, entries}
use Rattle.survey.specs.Walk.{join, wrong_far, Progress, progress, read_list, read_bridge, walk_on, FoundLine, lines_from, recorded, fars, join_all, RightList, Reachable, here, told_by, WalksAll, told_before, Fault, silent_bridge, wrong_line, no_room, StopsRight}
use Rattle.survey.proofs.Members.{in_getD, place_of, join-append}

-- what a far number that can be keeps
pub right_far : (n near : ℕ) (before : List ℕ) (far : ℕ) → wrong_far n near before far ≡ false → (1 ≤ far) × (far ≤ n)
right_far n near before far h =
    let within = and_parts (leb 1 far) (leb far n) (not-false (is_bridge n far) (or_parts (not (is_bridge n far)) (eqb far near || among before far) h).0) in
    (leb-true 1 far within.0, leb-true far n within.1)

-- what holds of the bridges found at any time
pub record Found {G : Type 0} (tells : ℕ → Told G) (n start : ℕ) (found : List ℕ) : Type 0 where
  pub start_in : In start found
  pub within : (b : ℕ) → In b found → (1 ≤ b) × (b ≤ n)
  pub reached : (b : ℕ) → In b found → Reachable tells start b
  pub once : Distinct found

-- b has a list that can be, and all that it tells is found
abbrev pub Closed : {G : Type 0} → (ℕ → Told G) → ℕ → List ℕ → ℕ → Type 0
Closed {G} tells n found b = (es : List (Entry G)) × (tells b ≡ listed es) × Each (λ e. In e.far found) es × RightList n b [] es

abbrev told_fars : {G : Type 0} → List (Entry G) → List ℕ
told_fars es = map (λ e. e.far) es

-- what reading the rest of a list does to the bridges found and the count
pub record Read {G : Type 0} (tells : ℕ → Told G) (n L start : ℕ) (p : Progress) (es : List (Entry G)) (q : Progress) : Type 0 where
  pub still : Found tells n start q.found
  pub extra : List ℕ
  pub grows : q.found ≡ p.found ++ extra
  pub joins : q.found ≡ join_all p.found (told_fars es)
  pub tells_found : Each (λ e. In e.far q.found) es
  pub count : q.lines ≡ p.lines + length es
  pub fits : p.lines ≤ L → q.lines ≤ L

-- where a walk stands after `taken` bridges
pub record Sofar {G : Type 0} (tells : ℕ → Told G) (n L start taken : ℕ) (p : Progress) : Type 0 where
  pub still : Found tells n start p.found
  pub early : taken ≤ length p.found
  pub closed : (k : ℕ) → k < taken → Closed tells n p.found (get_or p.found k 0)
  pub in_order : p.found ≡ join_all (start ∷ []) (fars (recorded tells (take taken p.found)))
  pub count : p.lines ≡ length (recorded tells (take taken p.found))
  pub fits : p.lines ≤ L

-- a walk that is over: every found bridge was taken
abbrev Over : {G : Type 0} → (ℕ → Told G) → (n L start : ℕ) → Progress → Type 0
Over tells n L start q = (taken : ℕ) × (length q.found ≤ taken) × Sofar tells n L start taken q

fars_from : {G : Type 0} (near : ℕ) (es : List (Entry G)) → fars (lines_from near es) ≡ told_fars es
fars_from near [] = refl
fars_from near (e ∷ es) = ap (λ fs. e.far ∷ fs) (fars_from near es)

module _ {G : Type 0} (tells : ℕ → Told G) (n L start : ℕ) where
  push_keeps : (found : List ℕ) (far : ℕ) → (1 ≤ far) × (far ≤ n) → Reachable tells start far → among found far ≡ false → Found tells n start found → Found tells n start (found ++ (far ∷ []))
  push_keeps found far w r out F = record {
    start_in = in_front start found (far ∷ []) F.start_in;
    within = λ b h. ⊎_elim (F.within b) (λ e. subst (λ x. (1 ≤ x) × (x ≤ n)) (sym e) w) (in_snoc b far found h);
    reached = λ b h. ⊎_elim (F.reached b) (λ e. subst (Reachable tells start) (sym e) r) (in_snoc b far found h);
    once = distinct_snoc far found F.once (λ i. clash (in_among found far i) out);
  }

  join_keeps : (found : List ℕ) (far : ℕ) → (1 ≤ far) × (far ≤ n) → Reachable tells start far → Found tells n start found
      → Found tells n start (join found far) × In far (join found far) × ((extra : List ℕ) × (join found far ≡ found ++ extra))
  join_keeps found far w r F =
      ⊎_elim
      (λ e. rw e (F, among_in found far e, ([], sym (append-nil found))))
      (λ e. rw e (push_keeps found far w r e F, in_last far found, (far ∷ [], refl)))
      (cases_Bool (among found far))

  pub read_keeps : (near k : ℕ) (before : List ℕ) (p : Progress) (es : List (Entry G)) (q : Progress) → Each (λ e. Reachable tells start e.far) es → Found tells n start p.found → read_list n L near k before p es ≡ answers q → Read tells n L start p es q
  read_keeps near k before p [] q r F h =
      subst (Read tells n L start p []) (answers_same h) (record { still = F; extra = []; grows = sym (append-nil p.found); joins = refl; tells_found = tt; count = omega arith; fits = λ l. l })
  read_keeps near k before p (e ∷ es) q r F h =
      let next : Progress = progress (join p.found e.far) (p.lines + 1) in
      ⊎_elim
      (λ wrong. absurd (refused-not wrong.1))
      (λ right. ⊎_elim
      (λ room.
      let joins = join_keeps p.found e.far (right_far n near before e.far right.0) r.0 F in
      let rest = read_keeps near (k + 1) (e.far ∷ before) next es q r.1 joins.0 room.1 in
      let all-grow : q.found ≡ p.found ++ (joins.2.0 ++ rest.extra) = rest.grows ∙ ap (λ xs. xs ++ rest.extra) joins.2.1 ∙ append_assoc p.found joins.2.0 rest.extra in
      let below = ltb-true p.lines L room.0 in
      let counted = rest.count in
      record {
        still = rest.still;
        extra = joins.2.0 ++ rest.extra;
        grows = all-grow;
        joins = rest.joins;
        tells_found = (subst (In e.far) (sym rest.grows) (in_front e.far (join p.found e.far) rest.extra joins.1), rest.tells_found);
        count = omega arith;
        fits = λ l. rest.fits (omega arith);
      })
      (λ full. absurd (refused-not full.1))
      (by_cond (ltb p.lines L) right.1))
      (by_cond (wrong_far n near before e.far) h)

  -- a list that was read can be
  read_right : (near k : ℕ) (before : List ℕ) (p : Progress) (es : List (Entry G)) (q : Progress) → read_list n L near k before p es ≡ answers q → RightList n near before es
  read_right near k before p [] q h = tt
  read_right near k before p (e ∷ es) q h =
      ⊎_elim
      (λ wrong. absurd (refused-not wrong.1))
      (λ right. ⊎_elim
      (λ room. (right.0, read_right near (k + 1) (e.far ∷ before) (progress (join p.found e.far) (p.lines + 1)) es q room.1))
      (λ full. absurd (refused-not full.1))
      (by_cond (ltb p.lines L) right.1))
      (by_cond (wrong_far n near before e.far) h)

  -- the bridge that was next has been taken
  taken_more : (taken : ℕ) (p q : Progress) (es : List (Entry G)) → taken < length p.found → tells (get_or p.found taken 0) ≡ listed es → RightList n (get_or p.found taken 0) [] es → Sofar tells n L start taken p → Read tells n L start p es q → Sofar tells n L start (taken + 1) q
  taken_more taken p q es l is right S R =
      let near : ℕ = get_or p.found taken 0 in
      let mine : List (FoundLine G) = lines_from near (entries (tells near)) in
      let was : List (FoundLine G) = recorded tells (take taken p.found) in
      let same : (k : ℕ) → k < length p.found → get_or q.found k 0 ≡ get_or p.found k 0 = λ k h. rw R.grows (get_or_append_left p.found R.extra 0 k h) in
      let longer : length q.found ≡ length p.found + length R.extra = ap length R.grows ∙ length-append p.found R.extra in
      let front : take (taken + 1) q.found ≡ take taken p.found ++ (near ∷ []) = ap (take (taken + 1)) R.grows ∙ take-append-le (taken + 1) p.found R.extra (omega arith) ∙ take_more p.found taken 0 l in
      let lines : recorded tells (take (taken + 1) q.found) ≡ was ++ mine = ap (recorded tells) front ∙ sym (flat_map_more (λ b. lines_from b (entries (tells b))) [] (take taken p.found) near) in
      let listed-es : entries (tells near) ≡ es = ap entries is in
      let many : length mine ≡ length es = length-map (entries (tells near)) _ ∙ ap length listed-es in
      let sum : length (recorded tells (take (taken + 1) q.found)) ≡ length was + length mine = ap length lines ∙ length-append was mine in
      let mine-fars : fars mine ≡ told_fars es = fars_from near (entries (tells near)) ∙ ap told_fars listed-es in
      let all-fars : fars (recorded tells (take (taken + 1) q.found)) ≡ fars was ++ told_fars es = ap fars lines ∙ map-append (λ x. x.far) was mine ∙ ap (λ fs. fars was ++ fs) mine-fars in
      let before = S.count in
      let now = R.count in
      record {
        still = R.still;
        early = omega arith;
        closed = λ k h. ⊎_elim
            (λ old. subst (Closed tells n q.found) (sym (same k (omega arith)))
            (let c = S.closed k old in (c.0, c.1, each_map (λ e. In e.far p.found) (λ e. In e.far q.found) c.0 (λ e m. subst (In e.far) (sym R.grows) (in_front e.far p.found R.extra m)) c.2, c.3)))
            (λ new. let at : k ≡ taken = omega arith in subst (λ j. Closed tells n q.found (get_or q.found j 0)) (sym at) (subst (Closed tells n q.found) (sym (same taken l)) (es, is, R.tells_found, right)))
            (cases_lt k taken);
        in_order =
            R.joins
            ∙ ap (λ found. join_all found (told_fars es)) S.in_order
            ∙ sym (join-append (start ∷ []) (fars was) (told_fars es))
            ∙ ap (join_all (start ∷ [])) (sym all-fars);
        count = omega arith;
        fits = R.fits S.fits;
      }

  walk_keeps : (turns taken : ℕ) (p q : Progress) → n ≤ taken + turns → Sofar tells n L start taken p → walk_on tells n L turns taken p ≡ answers q → Over tells n L start q
  walk_keeps zero taken p q enough S h =
      let most = few n p.found S.still.once S.still.within in
      subst (Over tells n L start) (answers_same h) (taken, omega arith, S)
  walk_keeps (suc turns) taken p q enough S h =
      ⊎_elim
      (λ more. at_told (λ m T e. walk_keeps turns (taken + 1) m q (omega arith) T e) (ltb-true taken (length p.found) more.0) (tells near) refl more.1)
      (λ end. subst (Over tells n L start) (answers_same end.1) (taken, ltb-false taken (length p.found) end.0, S))
      (by_cond (ltb taken (length p.found)) h)
    where
      near : ℕ
      near = get_or p.found taken 0

      Goes : Type 0
      Goes = (m : Progress) → Sofar tells n L start (taken + 1) m → walk_on tells n L turns (taken + 1) m ≡ answers q → Over tells n L start q

      at_answer : Goes → taken < length p.found → (es : List (Entry G)) → tells near ≡ listed es → (a : Reply Progress) → read_list n L near 1 [] p es ≡ a → and_then a (walk_on tells n L turns (taken + 1)) ≡ answers q → Over tells n L start q
      at_answer go l es is (refuses r) e h = absurd (refused-not h)
      at_answer go l es is (answers m) e h =
          let near-reached = S.still.reached near (in_getD p.found taken l) in
          let all-reached = each_of (λ x. Reachable tells start x.far) es (λ x m. told_by x near-reached is m) in
          go m (taken_more taken p m es l is (read_right near 1 [] p es m e) S (read_keeps near 1 [] p es m all-reached S.still e)) h

      at_told : Goes → taken < length p.found → (t : Told G) → tells near ≡ t → and_then (read_bridge n L near p t) (walk_on tells n L turns (taken + 1)) ≡ answers q → Over tells n L start q
      at_told go l (silent cause) is h = absurd (refused-not h)
      at_told go l (listed es) is h = at_answer go l es is (read_list n L near 1 [] p es) refl h

  -- every reachable bridge is found once all found ones were taken
  reach_in : (taken : ℕ) (q : Progress) → length q.found ≤ taken → Sofar tells n L start taken q → {b : ℕ} → Reachable tells start b → In b q.found
  reach_in taken q l S here = S.still.start_in
  reach_in taken q l S (told_by {b} {es} e r is m) =
      let place = place_of b q.found (reach_in taken q l S r) in
      let c = S.closed place.0 (omega (arith, place.1)) in
      let same : listed es ≡ listed c.0 = sym is ∙ ap tells (sym place.2) ∙ c.1 in
      let lists : c.0 ≡ es = cc in
      each_at (λ x. In x.far q.found) es (subst (Each (λ x. In x.far q.found)) lists c.2) e m

  start_sofar : 1 ≤ start → start ≤ n → Sofar tells n L start 0 (progress (start ∷ []) 0)
  start_sofar low high = record {
    still = record {
      start_in = inl refl;
      within = λ b h. ⊎_elim (λ e. (omega arith, omega arith)) (λ e. absurd e) h;
      reached = λ b h. ⊎_elim (λ e. subst (Reachable tells start) (sym e) here) (λ e. absurd e) h;
      once = (λ e. e, tt);
    };
    early = omega arith;
    closed = λ k h. absurd (omega arith);
    in_order = refl;
    count = refl;
    fits = omega arith;
  }

  pub walks_all : 1 ≤ start → start ≤ n → WalksAll tells n L start
  walks_all low high q h =
      let over = walk_keeps n 0 (progress (start ∷ []) 0) q (omega arith) (start_sofar low high) h in
      let S = over.2 in
      let whole : take over.0 q.found ≡ q.found = take_all over.0 q.found over.1 in (
        record {
          reached = S.still.reached;
          all = λ b r. reach_in over.0 q over.1 S r;
          once = S.still.once;
          in_order = S.in_order ∙ ap (λ xs. join_all (start ∷ []) (fars (recorded tells xs))) whole;
          within = S.still.within;
          lists = λ b m. let place = place_of b q.found m in let c = S.closed place.0 (omega (arith, place.1, over.1)) in (c.0, ap tells (sym place.2) ∙ c.1, subst (λ x. RightList n x [] c.0) place.2 c.3);
        },
        S.count ∙ ap (λ xs. length (recorded tells xs)) whole,
        S.fits,
      )

told_snoc : {G : Type 0} (es : List (Entry G)) (e : Entry G) (before : List ℕ) → told_before (es ++ (e ∷ [])) before ≡ e.far ∷ told_before es before
told_snoc [] e before = refl
told_snoc (x ∷ es) e before = told_snoc es e (x.far ∷ before)

same_refusal : {x y : ℕ × ℕ × ℕ} → ◌≡◌ {A = Reply Progress} (refuses x) (refuses y) → x ≡ y
same_refusal h = cc

module _ {G : Type 0} (tells : ℕ → Told G) (n L start : ℕ) where
  -- a refusal while a list is read, where `done` of it was read
  read-stops : (near : ℕ) (taken : List ℕ) (done es : List (Entry G)) (p : Progress) (x : ℕ × ℕ × ℕ) → Reachable tells start near → tells near ≡ listed (done ++ es)
      → p.lines ≡ length (recorded tells taken) + length done → p.lines ≤ L
      → read_list n L near (length done + 1) (told_before done []) p es ≡ refuses x → Fault tells n L start x
  read-stops near taken done [] p x r is count fits h = absurd (refused-not (sym h))
  read-stops near taken done (e ∷ es) p x r is count fits h =
      let next : Progress = progress (join p.found e.far) (p.lines + 1) in
      let longer = length-append done (e ∷ []) in
      let position : length done + 1 + 1 ≡ length (done ++ (e ∷ [])) + 1 = omega arith in
      ⊎_elim
      (λ wrong. subst (Fault tells n L start) (same_refusal wrong.1) (wrong_line done e es r is wrong.0))
      (λ right. ⊎_elim
      (λ room.
      let below = ltb-true p.lines L room.0 in
      read-stops near taken (done ++ (e ∷ [])) es next x r (is ∙ ap listed (sym (append_assoc done (e ∷ []) es))) (omega arith) (omega arith)
      (ap (λ (k : ℕ). read_list n L near k (told_before (done ++ (e ∷ [])) []) next es) (sym position)
      ∙ ap (λ (before : List ℕ). read_list n L near (length done + 1 + 1) before next es) (told_snoc done e []) ∙ room.1))
      (λ full.
      let most = ltb-false p.lines L full.0 in
      subst (Fault tells n L start) (same_refusal full.1) (no_room taken done e es r is (omega arith)))
      (by_cond (ltb p.lines L) right.1))
      (by_cond (wrong_far n near (told_before done []) e.far) h)

  walk_stops : (turns taken : ℕ) (p : Progress) (x : ℕ × ℕ × ℕ) → Sofar tells n L start taken p → walk_on tells n L turns taken p ≡ refuses x → Fault tells n L start x
  walk_stops zero taken p x S h = absurd (refused-not (sym h))
  walk_stops (suc turns) taken p x S h =
      ⊎_elim
      (λ more. at_told (λ m T e. walk_stops turns (taken + 1) m x T e) (ltb-true taken (length p.found) more.0) (tells near) refl more.1)
      (λ end. absurd (refused-not (sym end.1)))
      (by_cond (ltb taken (length p.found)) h)
    where
      near : ℕ
      near = get_or p.found taken 0

      Goes : Type 0
      Goes = (m : Progress) → Sofar tells n L start (taken + 1) m → walk_on tells n L turns (taken + 1) m ≡ refuses x → Fault tells n L start x

      reached : taken < length p.found → Reachable tells start near
      reached l = S.still.reached near (in_getD p.found taken l)

      at_answer : Goes → taken < length p.found → (es : List (Entry G)) → tells near ≡ listed es → (a : Reply Progress) → read_list n L near 1 [] p es ≡ a → and_then a (walk_on tells n L turns (taken + 1)) ≡ refuses x → Fault tells n L start x
      at_answer go l es is (refuses y) e h = read-stops near (take taken p.found) [] es p x (reached l) is (omega (arith, S.count)) S.fits (e ∙ h)
      at_answer go l es is (answers m) e h =
          let all-reached = each_of (λ x. Reachable tells start x.far) es (λ x m. told_by x (reached l) is m) in
          go m (taken_more tells n L start taken p m es l is (read_right tells n L start near 1 [] p es m e) S (read_keeps tells n L start near 1 [] p es m all-reached S.still e)) h

      at_told : Goes → taken < length p.found → (t : Told G) → tells near ≡ t → and_then (read_bridge n L near p t) (walk_on tells n L turns (taken + 1)) ≡ refuses x → Fault tells n L start x
      at_told go l (silent cause) is h = subst (Fault tells n L start) (same_refusal h) (silent_bridge cause (reached l) is)
      at_told go l (listed es) is h = at_answer go l es is (read_list n L near 1 [] p es) refl h

  pub stops-right : 1 ≤ start → start ≤ n → StopsRight tells n L start
  stops-right low high x h = walk_stops n 0 (progress (start ∷ []) 0) x (start_sofar tells n L start low high) h
