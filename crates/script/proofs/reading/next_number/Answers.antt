use Rattle.std.proofs.Common.{◌+◌, length, refl, subst, Ok}
use Rattle.std.proofs.lemmas.Result.{err_from_is_err_and}
use Rattle.script.specs.Tokens.{NextNumber}
use Rattle.script.proofs.Told.{Told, told, wrong_told, after, first_told}
use Rattle.script.proofs.reading.next_number.Goals as goal
use Rattle.script.proofs.reading.next_number.Goals.{In-Digits}

found : (c : In-Digits) → Told c.args.rest.text.now c.args.rest.place c.in-Digits.text.now c.in-Digits.at
found c = told c.args.rest.text.now c.args.rest.place c.in-Digits.text c.in-Digits.at (subst (λ t. NextNumber c.args.rest.text.now c.args.rest.place (Ok t)) c.in-Digits.is c.in_ok-text.ensures)

pub returns-in_err-text : goal.returns-in_err-text
returns-in_err-text c =
    let p = err_from_is_err_and c.from_residual.result c.from_residual.ensures.1 in
    rw (p.1, p.2) (wrong_told c.args.rest.text.now c.args.rest.place _ c.in_err-text.ensures)

pub returns-in-Digits : goal.returns-in-Digits
returns-in-Digits c =
    let f = found (goal.at.returns-in-Digits c).In-Digits in
    first_told f _ _ _ c.value.ensures (after f (length c.in-Digits.text.now + 1) refl) refl
