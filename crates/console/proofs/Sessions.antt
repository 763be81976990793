-- However a script is cut into blocks, the text has the plain book's replies. Assumes nothing.
use Rattle.std.proofs.Common.{ℕ, List, [], ◌∷◌, sym, ap, ◌∙◌, subst}
use Rattle.grade.specs.declared.slots.Slots.{Slots}
use Rattle.book.specs.Memory.{Memory}
use Rattle.plain.specs.Plain.{new_book}
use Rattle.answers.specs.Scripts.{new_tables, EveryScript}
use Rattle.input.specs.Lines.{finished, unfinished, handed, script_lines, whole}
use Rattle.input.proofs.Cutting.{cut_anyhow}
use Rattle.console.specs.Replied.{written, Replied}
use Rattle.console.specs.Sessions.{Session, EverySession}
use Rattle.console.proofs.Going.{replied-append}

session_replied : (line : List ℕ) (blocks : List (List ℕ)) (m : Memory Slots) (text : List ℕ) → Session line blocks m text → (after : Memory Slots) × Replied (handed line blocks) m text after
session_replied line [] m text s = s
session_replied line (block ∷ blocks) m text s =
    let rest = session_replied (unfinished line block) blocks s.2 s.1 s.5 in
    let all = replied-append (finished line block) (handed (unfinished line block) blocks) m s.2 rest.0 s.0 s.1 s.4 rest.1 in
    (rest.0, subst (λ t. Replied (handed line (block ∷ blocks)) m t rest.0) (sym s.3) all)

pub every_session : EveryScript new_tables (new_book 16 64) → EverySession
every_session scripts blocks text s =
    let r = subst (λ ls. Replied ls new_tables text (session_replied [] blocks new_tables text s).0) (cut_anyhow blocks) (session_replied [] blocks new_tables text s).1 in
    (r.asked, r.asks, r.replies ∙ ap written (scripts (script_lines (whole blocks)) r.asked r.asks).0)
