-- How a survey finds bridges from a start, what it refuses on the way, and which bridges it is to find. Proved: an accepted walk
-- finds exactly the reachable bridges, each once, in the order found, and a refused one tells a fault that is there. Assumes nothing.
use Rattle.std.specs.Prelude.{◌≡◌, ℕ, zero, suc, ◌+◌, ◌≤◌, Bool, true, false, cond, not, ◌||◌, List, [], ◌∷◌, ◌++◌, map, length, ◌==◌, nat_lt, slice_index_or}
use Rattle.std.specs.List.{flat_map}
use Rattle.theory.specs.Lists.{In, Distinct, among}
use Rattle.grade.specs.Told.{Reply, answers, refuses, and_then}
use Rattle.book.specs.Admission.{is_bridge}
use Rattle.field.specs.Meaning.{Told, silent, listed, Entry, entries}

-- a far bridge that is not yet found joins the end of those found
abbrev pub join : List ℕ → ℕ → List ℕ
join found far = cond (among found far) found (found ++ (far ∷ []))

-- a far number that cannot be: outside 1 to n, the near bridge itself, or told before in its list
abbrev pub wrong_far : ℕ → ℕ → List ℕ → ℕ → Bool
wrong_far n near before far = not (is_bridge n far) || (far == near || among before far)

-- the bridges found so far, in the order found, and how many lines were told
pub record Progress : Type 0 where
  pub found : List ℕ
  pub lines : ℕ

abbrev pub progress : List ℕ → ℕ → Progress
progress found lines = record { found = found; lines = lines }

-- the rest of a list from its k-th line on, where `before` was told before in it: each line must name a far bridge that can be, and find room among L
abbrev pub read_list : {G : Type 0} → (n L near k : ℕ) → List ℕ → Progress → List (Entry G) → Reply Progress
read_list n L near k before p [] = answers p
read_list n L near k before p (e ∷ es) =
    cond (wrong_far n near before e.far) (refuses (10, near, k))
    (cond (nat_lt p.lines L) (read_list n L near (k + 1) (e.far ∷ before) (progress (join p.found e.far) (p.lines + 1)) es)
    (refuses (8, near, k)))

abbrev pub read_bridge : {G : Type 0} → (n L near : ℕ) → Progress → Told G → Reply Progress
read_bridge n L near p (silent cause) = refuses (9, near, cause)
read_bridge n L near p (listed es) = read_list n L near 1 [] p es

-- found bridges are taken in the order found: `taken` of them were, and at most `turns` more are
abbrev pub walk_on : {G : Type 0} → (ℕ → Told G) → (n L turns taken : ℕ) → Progress → Reply Progress
walk_on tells n L zero taken p = answers p
walk_on tells n L (suc turns) taken p =
    let near : ℕ = slice_index_or p.found taken 0 in
    cond (nat_lt taken (length p.found)) (and_then (read_bridge n L near p (tells near)) (walk_on tells n L turns (taken + 1))) (answers p)

-- the whole walk among bridges 1 to n: no bridge is taken twice, so n turns are enough
abbrev pub walked : {G : Type 0} → (ℕ → Told G) → (n L start : ℕ) → Reply Progress
walked tells n L start = walk_on tells n L n 0 (progress (start ∷ []) 0)

-- a line as a survey finds it
pub record FoundLine (G : Type 0) : Type 0 where
  pub near : ℕ
  pub far : ℕ
  pub grade : G

-- the lines of a bridge's list
abbrev pub lines_from : {G : Type 0} → ℕ → List (Entry G) → List (FoundLine G)
lines_from near es = map (λ e. record { near = near; far = e.far; grade = e.grade }) es

-- all lines told by some bridges, bridge after bridge
abbrev pub recorded : {G : Type 0} → (ℕ → Told G) → List ℕ → List (FoundLine G)
recorded tells order = flat_map (λ b. lines_from b (entries (tells b))) order

-- the far bridges of lines, each of which joins the end where it is not yet found
abbrev pub fars : {G : Type 0} → List (FoundLine G) → List ℕ
fars ls = map (λ l. l.far) ls

abbrev pub join_all : List ℕ → List ℕ → List ℕ
join_all found [] = found
join_all found (far ∷ rest) = join_all (join found far) rest

-- each far number of a list can be, where `before` was told before in it
abbrev pub RightList : {G : Type 0} → (n near : ℕ) → List ℕ → List (Entry G) → Type 0
RightList n near before [] = Unit {0}
RightList n near before (e ∷ es) = (wrong_far n near before e.far ≡ false) × RightList n near (e.far ∷ before) es

-- the start is reachable, and every bridge told by a reachable one
pub data Reachable {G : Type 0} (tells : ℕ → Told G) (start : ℕ) : ℕ → Type 0 where
  here : Reachable tells start start
  told_by : {b : ℕ} {es : List (Entry G)} (e : Entry G) → Reachable tells start b → tells b ≡ listed es → In e es → Reachable tells start e.far

-- The bridges whose lists are recorded are the reachable ones, each once, all within 1 to n, each with a list that can be. Their
-- order is the one found: the start, and then the others as the recorded lines first tell them.
pub record Complete {G : Type 0} (tells : ℕ → Told G) (n start : ℕ) (order : List ℕ) : Type 0 where
  pub reached : (b : ℕ) → In b order → Reachable tells start b
  pub all : (b : ℕ) → Reachable tells start b → In b order
  pub once : Distinct order
  pub in_order : order ≡ join_all (start ∷ []) (fars (recorded tells order))
  pub within : (b : ℕ) → In b order → (1 ≤ b) × (b ≤ n)
  pub lists : (b : ℕ) → In b order → (es : List (Entry G)) × (tells b ≡ listed es) × RightList n b [] es

-- what an accepted walk is: complete, and its count is that of the lines recorded
abbrev pub WalksAll : {G : Type 0} → (ℕ → Told G) → (n L start : ℕ) → Type 0
WalksAll tells n L start =
    (p : Progress) → walked tells n L start ≡ answers p → Complete tells n start p.found × (p.lines ≡ length (recorded tells p.found)) × (p.lines ≤ L)

-- the far numbers of some lines, the last told first, before others
abbrev pub told_before : {G : Type 0} → List (Entry G) → List ℕ → List ℕ
told_before [] before = before
told_before (e ∷ es) before = told_before es (e.far ∷ before)

-- What a refusal on the way says is so. The bridge that it names is reachable, and it is silent with that cause, or its list has a
-- line at that position: one that cannot be, or one that comes after L others, those of the bridges taken before it and of its own list.
pub data Fault {G : Type 0} (tells : ℕ → Told G) (n L start : ℕ) : ℕ × ℕ × ℕ → Type 0 where
  silent_bridge : {b : ℕ} (cause : ℕ) → Reachable tells start b → tells b ≡ silent cause → Fault tells n L start (9, b, cause)
  wrong_line : {b : ℕ} (es : List (Entry G)) (e : Entry G) (rest : List (Entry G)) → Reachable tells start b → tells b ≡ listed (es ++ (e ∷ rest))
      → wrong_far n b (told_before es []) e.far ≡ true → Fault tells n L start (10, b, length es + 1)
  no_room : {b : ℕ} (taken : List ℕ) (es : List (Entry G)) (e : Entry G) (rest : List (Entry G)) → Reachable tells start b → tells b ≡ listed (es ++ (e ∷ rest))
      → length (recorded tells taken) + length es ≡ L → Fault tells n L start (8, b, length es + 1)

abbrev pub StopsRight : {G : Type 0} → (ℕ → Told G) → (n L start : ℕ) → Type 0
StopsRight tells n L start = (x : ℕ × ℕ × ℕ) → walked tells n L start ≡ refuses x → Fault tells n L start x
