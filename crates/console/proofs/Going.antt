-- Replying to the lines of a block, one after another. Assumes nothing.
use Rattle.std.proofs.Common.{◌≡◌, ℕ, ◌+◌, List, [], ◌∷◌, ◌++◌, take, drop, sym, refl, ap, ◌∙◌, subst, append_assoc, append-nil, drop-drop}
use Rattle.grade.specs.declared.slots.Slots.{Slots}
use Rattle.grade.specs.Told.{Reply}
use Rattle.book.specs.Memory.{Memory}
use Rattle.grammar.specs.declared.words.Command.{Command}
use Rattle.grammar.specs.Grammar.{Parsed}
use Rattle.answers.specs.Answers.{in_memory, replied, shown}
use Rattle.answers.specs.Scripts.{Asked, served}
use Rattle.input.specs.Lines.{finished, unfinished}
use Rattle.input.specs.Filling.{Ended, Unending}
use Rattle.console.specs.Replied.{written, Replied}

-- ---- one list of lines after another

asked_append : (xs ys : List (List ℕ)) (p q : List (Reply Command)) → Asked xs p → Asked ys q → Asked (xs ++ ys) (p ++ q)
asked_append [] ys [] q a b = b
asked_append [] ys (r ∷ p) q a b = absurd a
asked_append (x ∷ xs) ys [] q a b = absurd a
asked_append (x ∷ xs) ys (r ∷ p) q a b = (a.0, asked_append xs ys p q a.1 b)

written-append : (xs ys : List (List ℕ)) → written (xs ++ ys) ≡ written xs ++ written ys
written-append [] ys = refl
written-append (x ∷ xs) ys = ap (λ l. x ++ (10 ∷ l)) (written-append xs ys) ∙ sym (append_assoc x (10 ∷ written xs) (written ys))

text_append : (p q : List (Reply Command)) (m : Memory Slots) → (served in_memory (p ++ q) m).0 ≡ (served in_memory p m).0 ++ (served in_memory q (served in_memory p m).1).0
text_append [] q m = refl
text_append (r ∷ p) q m = ap (λ l. shown (replied in_memory r m).0 ∷ l) (text_append p q (replied in_memory r m).1)

book_append : (p q : List (Reply Command)) (m : Memory Slots) → (served in_memory (p ++ q) m).1 ≡ (served in_memory q (served in_memory p m).1).1
book_append [] q m = refl
book_append (r ∷ p) q m = book_append p q (replied in_memory r m).1

pub replied_none : (m : Memory Slots) → Replied [] m [] m
replied_none m = record { asked = []; asks = tt; replies = refl; book = refl }

pub replied_one : (line : List ℕ) (q : Reply Command) (m after : Memory Slots) (text : List ℕ) → Parsed line q → text ≡ shown (replied in_memory q m).0 ++ 10 ∷ [] → after ≡ (replied in_memory q m).1 → Replied (line ∷ []) m text after
replied_one line q m after text p e f = record { asked = q ∷ []; asks = (p, tt); replies = e; book = f }

pub replied-append : (xs ys : List (List ℕ)) (m n o : Memory Slots) (t u : List ℕ) → Replied xs m t n → Replied ys n u o → Replied (xs ++ ys) m (t ++ u) o
replied-append xs ys m n o t u a b = record {
  asked = a.asked ++ b.asked;
  asks = asked_append xs ys a.asked b.asked a.asks b.asks;
  replies =
      ap (λ l. l ++ u) a.replies ∙ ap (λ l. written (served in_memory a.asked m).0 ++ l) (b.replies ∙ ap (λ k. written (served in_memory b.asked k).0) a.book)
      ∙ sym (written-append (served in_memory a.asked m).0 (served in_memory b.asked (served in_memory a.asked m).1).0)
      ∙ ap written (sym (text_append a.asked b.asked m));
  book = b.book ∙ ap (λ k. (served in_memory b.asked k).1) a.book ∙ sym (book_append a.asked b.asked m);
}

-- ---- within a block, of a line whose bytes came before it

pub record Going (line block : List ℕ) (m : Memory Slots) (at : ℕ) (held text : List ℕ) (after : Memory Slots) : Type 0 where
  pub done : List (List ℕ)
  pub begun : List ℕ
  pub replies : Replied done m text after
  pub holds : held ≡ take 32 begun
  pub hands : finished line block ≡ done ++ finished begun (drop at block)
  pub leaves : unfinished line block ≡ unfinished begun (drop at block)

pub going_none : (line block : List ℕ) (m : Memory Slots) (held : List ℕ) → held ≡ take 32 line → Going line block m 0 held [] m
going_none line block m held e = record { done = []; begun = line; replies = replied_none m; holds = e; hands = refl; leaves = refl }

module _ {line block : List ℕ} {m : Memory Slots} {at : ℕ} {held text : List ℕ} {after : Memory Slots} (g : Going line block m at held text after) (part : List ℕ) (is : part ≡ drop at block) where
  pub going_more : (used : ℕ) (shown' : List ℕ) (e : Ended g.begun part used shown') (more text' held' : List ℕ) (after' : Memory Slots) → Replied (e.this ∷ []) after more after' → text' ≡ text ++ more → held' ≡ [] → Going line block m (at + used) held' text' after'
  going_more used shown' e more text' held' after' r t h =
      let rest : drop used part ≡ drop (at + used) block = ap (drop used) is ∙ drop-drop used at block in
      record {
        done = g.done ++ e.this ∷ [];
        begun = [];
        replies = subst (λ x. Replied (g.done ++ e.this ∷ []) m x after') (sym t) (replied-append g.done (e.this ∷ []) m after after' text more g.replies r);
        holds = h;
        hands =
            g.hands
            ∙ ap (λ l. g.done ++ l) (ap (finished g.begun) (sym is) ∙ e.hands ∙ ap (λ l. e.this ∷ finished [] l) rest)
            ∙ sym (append_assoc g.done (e.this ∷ []) (finished [] (drop (at + used) block)));
        leaves = g.leaves ∙ ap (unfinished g.begun) (sym is) ∙ e.leaves ∙ ap (unfinished []) rest;
      }

  pub going_end : (held' : List ℕ) → Unending g.begun part held' → Replied (finished line block) m text after × (held' ≡ take 32 (unfinished line block))
  going_end held' e =
      let all : finished line block ≡ g.done = g.hands ∙ ap (λ l. g.done ++ l) (ap (finished g.begun) (sym is) ∙ e.hands) ∙ append-nil g.done in
      let left : unfinished line block ≡ unfinished g.begun part = g.leaves ∙ ap (unfinished g.begun) (sym is) in
      (subst (λ ls. Replied ls m text after) (sym all) g.replies, e.shown ∙ ap (take 32) (sym left))
