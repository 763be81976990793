-- Every script is replied to as on the plain book. Assumes nothing.
use Rattle.std.proofs.Common.{◌≡◌, ℕ, Bool, List, [], ◌∷◌, take, refl, ap, ◌∙◌}
use mathlib.Core.Path.{fun_ext}
use Rattle.grade.specs.declared.slots.Slots.{Slots}
use Rattle.grade.specs.Told.{Reply, answers, refuses, refused, unless_refused}
use Rattle.grade.specs.Kinds.{slots_of, slots_le, slots_grade, made_slots}
use Rattle.book.specs.Memory.{Memory}
use Rattle.plain.specs.Plain.{Plain, Agrees}
use Rattle.plain.specs.Histories.{Call as Change, lays, regrades, lifts, step, plain_step}
use Rattle.route.specs.Routing.{Routed}
use Rattle.margins.specs.Published.{ToldMargins}
use Rattle.turn.specs.Outcomes.{Outcome}
use Rattle.planner.proofs.Same.{alike}
use Rattle.planner.specs.Promise.{Call, changes, routes, asks_margins, turns, Answer, line_number, line_count, route_told, margins_told, turn_told, load_told, call, plain_call, EveryHistory}
use Rattle.grammar.specs.declared.words.Command.{Command}
use Rattle.grammar.specs.declared.words.Command.TheVariants.{Lay, Regrade, Lift, Route, Margins, Turn}
use Rattle.answers.specs.Answers.{in_memory, plainly, blank, blank_margins, is_there, bridge_of, numbered, routed, margined, margins_along, turned, obeyed, replied, shown}
use Rattle.answers.specs.Scripts.{served, EveryScript}

-- ---- one call

head_of : List (Answer Slots) → Answer Slots
head_of [] = line_number (refused 0)
head_of (x ∷ xs) = x

tail_of : List (Answer Slots) → List (Answer Slots)
tail_of [] = []
tail_of (x ∷ xs) = xs

number_of : Answer Slots → Reply ℕ
number_of (line_number r) = r
number_of (line_count r) = r
number_of (route_told r) = refused 0
number_of (margins_told r) = refused 0
number_of (turn_told r) = refused 0
number_of (load_told r) = r

told_of : Answer Slots → Routed Slots
told_of (line_number r) = (refused 0, ([], []))
told_of (line_count r) = (refused 0, ([], []))
told_of (route_told r) = r
told_of (margins_told r) = (refused 0, ([], []))
told_of (turn_told r) = (refused 0, ([], []))
told_of (load_told r) = (refused 0, ([], []))

margins_of : Answer Slots → ToldMargins Slots
margins_of (line_number r) = (refused 0, [])
margins_of (line_count r) = (refused 0, [])
margins_of (route_told r) = (refused 0, [])
margins_of (margins_told r) = r
margins_of (turn_told r) = (refused 0, [])
margins_of (load_told r) = (refused 0, [])

turn_of : Answer Slots → Outcome
turn_of (line_number r) = (refused 0, ([], []))
turn_of (line_count r) = (refused 0, ([], []))
turn_of (route_told r) = (refused 0, ([], []))
turn_of (margins_told r) = (refused 0, ([], []))
turn_of (turn_told r) = r
turn_of (load_told r) = (refused 0, ([], []))

-- the same reply, and every history after it is alike
abbrev Alike : {A : Type 0} → A × Memory Slots → A × Plain Slots → Type 0
Alike s t = (s.0 ≡ t.0) × EveryHistory slots_le s.1 t.1

module _ (m : Memory Slots) (p : Plain Slots) (every : EveryHistory slots_le m p) where
  -- a call answers alike, and every history after it does
  same : (c : Call Slots) → (call slots_le c m).0 ≡ (plain_call slots_le c p).0
  unfolding head_of
  same c = ap head_of (every (c ∷ [])).answers_alike

  after : (c : Call Slots) → EveryHistory slots_le (call slots_le c m).1 (plain_call slots_le c p).1
  unfolding tail_of
  after c cs =
      let k = every (c ∷ cs) in
      record { answers_alike = ap tail_of k.answers_alike; books_agree = k.books_agree; routes_right = k.routes_right; surveys_right = k.surveys_right; margins_right = k.margins_right; turns_right = k.turns_right }

  change : (c : Change Slots) → Alike (step c m) (plain_step c p)
  unfolding number_of
  change c = (ap number_of (same (changes c)), after (changes c))

  -- a call for which a grade is made first
  unless : {A : Type 0} (check : Reply A) (s : Reply ℕ × Memory Slots) (t : Reply ℕ × Plain Slots) → Alike s t → Alike (unless_refused check m s) (unless_refused check p t)
  unless (answers x) s t h = h
  unless (refuses r) s t h = (refl, every)

  numbered_alike : (s : Reply ℕ × Memory Slots) (t : Reply ℕ × Plain Slots) → Alike s t → Alike (shown (numbered s.0), s.1) (shown (numbered t.0), t.1)
  numbered_alike s t h = (ap (λ (r : Reply ℕ). shown (numbered r)) h.0, h.1)

  same_stands : ◌≡◌ {A = ℕ → Bool} (λ k. in_memory.stands k m) (λ k. plainly.stands k p)
  same_stands = fun_ext (λ k. ap is_there ((alike m p (every []).books_agree).numbers k))

  -- margins of the lines of one route
  margins_alike : (told : Routed Slots) → margins_along in_memory m told ≡ margins_along plainly p told
  unfolding margins_of
  margins_alike (answers found, (numbers, side)) =
      ap (λ (stands : ℕ → Bool). margined stands (in_memory.margins (take found.length numbers) m)) same_stands
      ∙ ap (λ (x : Answer Slots). margined (λ k. plainly.stands k p) (margins_of x)) (same (asks_margins 192 (take found.length numbers) blank_margins))
  margins_alike (refuses r, after) = refl

  one_command : (c : Command) → Alike (shown (obeyed in_memory c m).0, (obeyed in_memory c m).1) (shown (obeyed plainly c p).0, (obeyed plainly c p).1)
  unfolding told_of turn_of
  one_command (Lay near far slots) = numbered_alike _ _ (unless (made_slots slots) _ _ (change (lays 192 (bridge_of near) (bridge_of far) (slots_grade slots))))
  one_command (Regrade near far slots) = numbered_alike _ _ (unless (made_slots slots) _ _ (change (regrades 192 (bridge_of near) (bridge_of far) (slots_grade slots))))
  one_command (Lift near far) = numbered_alike _ _ (change (lifts 192 (bridge_of near) (bridge_of far)))
  one_command (Route start end) = (ap (λ (x : Answer Slots). shown (routed (told_of x))) (same (routes 192 (bridge_of start) (bridge_of end) blank blank)), every)
  one_command (Margins start end) =
      (ap (λ (x : Answer Slots). shown (margins_along in_memory m (told_of x))) (same (routes 192 (bridge_of start) (bridge_of end) blank blank)) ∙ ap shown (margins_alike (plainly.route (bridge_of start) (bridge_of end) p)), every)
  one_command (Turn start end) = (ap (λ (x : Answer Slots). shown (turned (turn_of x))) (same (turns slots_of 192 (bridge_of start) (bridge_of end) blank blank)), every)

  one_line : (q : Reply Command) → Alike (shown (replied in_memory q m).0, (replied in_memory q m).1) (shown (replied plainly q p).0, (replied plainly q p).1)
  one_line (answers c) = one_command c
  one_line (refuses r) = (refl, every)

-- ---- a script

every_list : (m : Memory Slots) (p : Plain Slots) → EveryHistory slots_le m p → (asked : List (Reply Command)) → ((served in_memory asked m).0 ≡ (served plainly asked p).0) × Agrees (served in_memory asked m).1 (served plainly asked p).1
every_list m p every [] = (refl, (every []).books_agree)
every_list m p every (q ∷ qs) =
    let one = one_line m p every q in
    let rest = every_list (replied in_memory q m).1 (replied plainly q p).1 one.1 qs in
    (ap (λ (x : List ℕ). x ∷ (served in_memory qs (replied in_memory q m).1).0) one.0 ∙ ap (λ (xs : List (List ℕ)). shown (replied plainly q p).0 ∷ xs) rest.0, rest.1)

pub every_script : (m : Memory Slots) (p : Plain Slots) → EveryHistory slots_le m p → EveryScript m p
every_script m p every script asked is = every_list m p every asked
