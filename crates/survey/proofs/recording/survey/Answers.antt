use Rattle.std.proofs.Common.{rules, ◌≡◌, sym, subst, take, length, refl, ◌∙◌}
use Rattle.std.proofs.lemmas.Result.{err_from_is_err_and}
use Rattle.book.specs.Admission.{is_bridge}
use Rattle.book.specs.Memory.{memory}
use Rattle.survey.specs.Laying.{ReadyLists}
use Rattle.survey.specs.Working.{stands_for}
use Rattle.book.proofs.Admitted.{book_passed}
use Rattle.survey.proofs.Surveys.{not_admitted, bridge_within}
use Rattle.survey.proofs.Placing.{found_ready}
use Rattle.survey.proofs.Walks.{walks_all, stops-right}
use Rattle.survey.proofs.recording.survey.Goals as goal

pub returns-in_err-admit_book : goal.returns-in_err-admit_book
returns-in_err-admit_book g c =
    let m = memory c.args.head.now c.args.first.now c.args.lines.now in
    let tells = g.F.Field.tells c.args.field.now in
    let p = err_from_is_err_and c.from_residual.result c.from_residual.ensures.1 in
    rw (p.1, p.2) (record {
      survey = not_admitted tells m (length c.args.work.now) c.args.start _ c.in_err-admit_book.ensures.told;
      reachable = walks_all tells m.head.bridges m.head.slots c.args.start;
      refusals = stops-right tells m.head.bridges m.head.slots c.args.start;
      same = refl;
    })

pub returns-then-not-contains-clause-reachable : goal.returns-then-not-contains-clause-reachable
returns-then-not-contains-clause-reachable g c = walks_all (g.F.Field.tells c.args.field.now) c.args.head.now.bridges c.args.head.now.slots c.args.start

pub returns-in_err-tally-clause-refusals : goal.returns-in_err-tally-clause-refusals
returns-in_err-tally-clause-refusals g c = stops-right (g.F.Field.tells c.args.field.now) c.args.head.now.bridges c.args.head.now.slots c.args.start

pub lay_lists-requires : goal.lay_lists-requires
lay_lists-requires g c =
    let m = memory c.args.head.now c.args.first.now c.args.lines.now in
    let tells = g.F.Field.tells c.args.field.now in
    let same : c.contains.result ≡ is_bridge m.head.bridges c.args.start = search rules in
    let law = (book_passed m (length c.args.work.now) c.in_ok-admit_book.ensures.told).1 in
    let w = stands_for c.walk.new.work c.in_ok-tally.tally in
    let order = take c.in_ok-tally.tally.found c.walk.new.work in
    let m' = memory c.start_afresh.new.head c.start_afresh.new.first c.start_afresh.new.lines in
    let within = bridge_within m.head.bridges c.args.start (sym same ∙ c.if-not-contains.false) in
    let ready = found_ready m law tells c.args.start within.0 within.1 w (sym c.in_ok-tally.ensures.walked) in
    rw c.from.ensures (subst (λ t. ReadyLists t m' order) (sym c.walk.ensures.same) (subst (λ x. ReadyLists tells x order) (sym c.start_afresh.ensures) ready))
