use Rattle.std.proofs.Common.{◌+◌, ◌-◌, [], ◌∷◌, drop, set, sym, refl, ap, ◌∙◌, subst, arith}
use Rattle.std.proofs.lemmas.List.{drop_all}
use Rattle.field.specs.Meaning.{entries, far_at, listing}
use Rattle.survey.specs.Walk.{read_list, read_bridge, progress}
use Rattle.survey.specs.Working.{Stamped, stands_for}
use Rattle.survey.proofs.Walks.{right_far}
use Rattle.survey.proofs.Reading.{answered, length_listed, read_listed, some_line, stops_far, stops_full, goes_on, stamps_tell, stamped_none, stamped_more}
use Rattle.survey.proofs.walk.take_bridge.Goals as goal

pub loop-position-init : goal.loop-position-init
loop-position-init g c = (refl, c.requires.counted, c.requires.memory, ([], stamped_none c.requires.unstamped, refl))

pub unreachable-requires : goal.unreachable-requires
unreachable-requires g c =
    let f = g.F.Field.tells c.ask_listing-listing.new.self in
    let t = f c.args.near in
    let n = c.args.limits.bridges in
    let L = c.args.limits.lines in
    let k = c.loop-position.position in
    let lists = ap (λ tells. listing (tells c.args.near)) c.ask_listing-listing.ensures.same ∙ sym c.ask_listing-listing.ensures.answer ∙ answered _ _ _ c.in_ok-length.ensures.cases in
    let asked = ap (λ tells. far_at (tells c.args.near) k) c.loop-position.invariant.0 in
    some_line t c.in_ok-length.length k lists c.loop-position.auto.position (omega arith) (sym asked ∙ sym c.in_default.ensures.answer)

pub returns-then-cannot_be-clause-read : goal.returns-then-cannot_be-clause-read
returns-then-cannot_be-clause-read g c =
    let f = g.F.Field.tells c.ask_listing-listing.new.self in
    let t = f c.args.near in
    let n = c.args.limits.bridges in
    let L = c.args.limits.lines in
    let k = c.loop-position.position in
    let lists = ap (λ tells. listing (tells c.args.near)) c.ask_listing-listing.ensures.same ∙ sym c.ask_listing-listing.ensures.answer ∙ answered _ _ _ c.in_ok-length.ensures.cases in
    let p = stands_for c.loop-position.order c.loop-position.now_told in
    let inv = c.loop-position.invariant.3 in
    let asked = c.in-Some.ensures.answer ∙ ap (λ tells. far_at (tells c.args.near) k) c.loop-position.invariant.0 in
    let wrong = sym (stamps_tell c.args.near c.in-Some.far inv.1) ∙ sym c.if-cannot_be.ensures in
    let stop = stops_far n L c.args.near inv.0 p t c.in_ok-length.length k c.in-Some.far lists c.loop-position.auto.position (omega arith) asked wrong in
    sym stop ∙ inv.2 ∙ sym (read_listed n L c.args.near _ t c.in_ok-length.length lists)
    ∙ ap (λ tells. read_bridge n L c.args.near (stands_for c.args.order.now c.args.tally) (tells c.args.near)) c.ask_listing-listing.ensures.same

pub returns-then-now_told-limits-clause-read : goal.returns-then-now_told-limits-clause-read
returns-then-now_told-limits-clause-read g c =
    let f = g.F.Field.tells c.ask_listing-listing.new.self in
    let t = f c.args.near in
    let n = c.args.limits.bridges in
    let L = c.args.limits.lines in
    let k = c.loop-position.position in
    let lists = ap (λ tells. listing (tells c.args.near)) c.ask_listing-listing.ensures.same ∙ sym c.ask_listing-listing.ensures.answer ∙ answered _ _ _ c.in_ok-length.ensures.cases in
    let p = stands_for c.loop-position.order c.loop-position.now_told in
    let inv = c.loop-position.invariant.3 in
    let asked = c.in-Some.ensures.answer ∙ ap (λ tells. far_at (tells c.args.near) k) c.loop-position.invariant.0 in
    let right = sym (stamps_tell c.args.near c.in-Some.far inv.1) ∙ sym c.if-cannot_be.ensures in
    let stop = stops_full n L c.args.near inv.0 p t c.in_ok-length.length k c.in-Some.far lists c.loop-position.auto.position (omega arith) asked right c.if-now_told-limits.true in
    sym stop ∙ inv.2 ∙ sym (read_listed n L c.args.near _ t c.in_ok-length.length lists)
    ∙ ap (λ tells. read_bridge n L c.args.near (stands_for c.args.order.now c.args.tally) (tells c.args.near)) c.ask_listing-listing.ensures.same

pub loop-position-preserved : goal.loop-position-preserved
loop-position-preserved g c =
    let f = g.F.Field.tells c.ask_listing-listing.new.self in
    let t = f c.args.near in
    let n = c.args.limits.bridges in
    let L = c.args.limits.lines in
    let k = c.loop-position.position in
    let lists = ap (λ tells. listing (tells c.args.near)) c.ask_listing-listing.ensures.same ∙ sym c.ask_listing-listing.ensures.answer ∙ answered _ _ _ c.in_ok-length.ensures.cases in
    let p = stands_for c.loop-position.order c.loop-position.now_told in
    let inv = c.loop-position.invariant.3 in
    let asked = c.in-Some.ensures.answer ∙ ap (λ tells. far_at (tells c.args.near) k) c.loop-position.invariant.0 in
    let far = c.in-Some.far in
    let right = sym (stamps_tell c.args.near far inv.1) ∙ sym c.if-cannot_be.ensures in
    let within = right_far n c.args.near inv.0 far right in
    let on = goes_on n L c.args.near inv.0 p t c.in_ok-length.length k far lists c.loop-position.auto.position (omega arith) asked right c.if-now_told-limits.false in (
      c.ask_far.ensures.same ∙ c.loop-position.invariant.0,
      omega arith,
      c.note_found.ensures.memory,
      (
        far ∷ inv.0,
        subst (λ i. Stamped n c.args.turn (set c.loop-position.stamps (i - 1) c.args.turn) (far ∷ inv.0)) (sym c.from.ensures) (stamped_more far within.0 within.1 inv.1),
        ap (λ found. read_list n L c.args.near (k + 1) (far ∷ inv.0) (progress found (c.loop-position.now_told.lines + 1)) (drop (k + 1 - 1) (entries t))) c.note_found.ensures.found ∙ sym on ∙ inv.2,
      ),
    )

pub returns-else-now_told-limits-clause-read : goal.returns-else-now_told-limits-clause-read
returns-else-now_told-limits-clause-read g c =
    let f = g.F.Field.tells c.ask_listing-listing.new.self in
    let t = f c.args.near in
    let n = c.args.limits.bridges in
    let L = c.args.limits.lines in
    let k = c.loop-position.position in
    let lists = ap (λ tells. listing (tells c.args.near)) c.ask_listing-listing.ensures.same ∙ sym c.ask_listing-listing.ensures.answer ∙ answered _ _ _ c.in_ok-length.ensures.cases in
    let p = stands_for c.loop-position.order c.loop-position.now_told in
    let inv = c.loop-position.invariant.3 in
    let asked = c.in-Some.ensures.answer ∙ ap (λ tells. far_at (tells c.args.near) k) c.loop-position.invariant.0 in
    let far = c.in-Some.far in
    let right = sym (stamps_tell c.args.near far inv.1) ∙ sym c.if-cannot_be.ensures in
    let on = goes_on n L c.args.near inv.0 p t c.in_ok-length.length k far lists c.loop-position.auto.position (omega arith) asked right c.if-now_told-limits.false in
    let long = length_listed t c.in_ok-length.length lists in
    let over = drop_all (k + 1 - 1) (entries t) (omega arith) in
    let q = stands_for c.note_found.new.order (record { found = c.note_found.result; lines = c.loop-position.now_told.lines + 1 }) in
    sym (ap (read_list n L c.args.near (k + 1) (far ∷ inv.0) q) over)
    ∙ ap (λ found. read_list n L c.args.near (k + 1) (far ∷ inv.0) (progress found (c.loop-position.now_told.lines + 1)) (drop (k + 1 - 1) (entries t))) c.note_found.ensures.found
    ∙ sym on ∙ inv.2 ∙ sym (read_listed n L c.args.near _ t c.in_ok-length.length lists)
    ∙ ap (λ tells. read_bridge n L c.args.near (stands_for c.args.order.now c.args.tally) (tells c.args.near)) c.ask_listing-listing.ensures.same
