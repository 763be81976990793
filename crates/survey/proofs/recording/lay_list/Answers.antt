use Rattle.std.proofs.Common.{◌+◌, ◌-◌, length, drop, sym, ap, ◌∙◌, subst, arith}
use Rattle.std.proofs.lemmas.List.{drop_all}
use Rattle.book.specs.Memory.{memory}
use Rattle.field.specs.Meaning.{entries, far_at, grade_at, listing}
use Rattle.survey.specs.Walk.{lines_from}
use Rattle.survey.specs.Recording.{lay_all}
use Rattle.survey.specs.Laying.{ReadyRest}
use Rattle.survey.proofs.Reading.{length_listed, some_line}
use Rattle.survey.proofs.Placing.{next-told, can_place, placed}
use Rattle.survey.proofs.recording.lay_list.Goals as goal

pub unreachable-requires : goal.unreachable-requires
unreachable-requires g c =
    let t = g.F.Field.tells c.args.field.now c.args.near in
    let asked = ap (λ tells. far_at (tells c.args.near) (c.loop-k.k)) (c.loop-k.invariant.0 ∙ c.ask_listing.ensures.same) in
    some_line t c.in-Ok.length c.loop-k.k (sym c.in-Ok.ensures.answer) c.loop-k.auto.k (omega arith) (sym asked ∙ sym c.in_default-ask_far.ensures.answer)

pub place_line-last-requires : goal.place_line-last-requires
place_line-last-requires g c =
    let t = g.F.Field.tells c.ask_listing.new.self c.args.near in
    let k = c.loop-k.k in
    let inv = c.loop-k.invariant in
    let lists = ap (λ tells. listing (tells c.args.near)) c.ask_listing.ensures.same ∙ sym c.in-Ok.ensures.answer in
    let far = c.in-Some.ensures.answer ∙ ap (λ tells. far_at (tells c.args.near) k) inv.0 in
    let grade = c.in-Some-ask_grade.ensures.answer ∙ ap (λ tells. grade_at (tells c.args.near) k) (c.ask_far.ensures.same ∙ inv.0) in
    let next = next-told t c.in-Ok.length c.loop-k.k c.in-Some.far c.in-Some-ask_grade.grade lists c.loop-k.auto.k (omega arith) far grade in
    let m = memory c.loop-k.head c.loop-k.first c.loop-k.lines in
    let p = can_place m c.args.near c.loop-k.last c.in-Some.far c.in-Some-ask_grade.grade (drop (c.loop-k.k + 1 - 1) (entries t))
    (subst (λ xs. ReadyRest m c.args.near c.loop-k.last xs) next inv.1) in
    record { near = (p.0, p.1); free = (p.2, p.3); last = p.4; counted = p.5 }

pub loop-k-preserved : goal.loop-k-preserved
loop-k-preserved g c =
    let t = g.F.Field.tells c.ask_listing.new.self c.args.near in
    let k = c.loop-k.k in
    let inv = c.loop-k.invariant in
    let lists = ap (λ tells. listing (tells c.args.near)) c.ask_listing.ensures.same ∙ sym c.in-Ok.ensures.answer in
    let far = c.in-Some.ensures.answer ∙ ap (λ tells. far_at (tells c.args.near) k) inv.0 in
    let grade = c.in-Some-ask_grade.ensures.answer ∙ ap (λ tells. grade_at (tells c.args.near) k) (c.ask_far.ensures.same ∙ inv.0) in
    let next = next-told t c.in-Ok.length c.loop-k.k c.in-Some.far c.in-Some-ask_grade.grade lists c.loop-k.auto.k (omega arith) far grade in
    let m = memory c.loop-k.head c.loop-k.first c.loop-k.lines in
    let m' = memory c.place_line-last.new.head c.place_line-last.new.first c.place_line-last.new.lines in
    let after = placed m c.args.near c.loop-k.last c.in-Some.far c.in-Some-ask_grade.grade (drop (c.loop-k.k + 1 - 1) (entries t))
    (subst (λ xs. ReadyRest m c.args.near c.loop-k.last xs) next inv.1) m' c.place_line-last.result c.place_line-last.ensures.slot c.place_line-last.ensures.memory in
    (c.ask_grade.ensures.same ∙ c.ask_far.ensures.same ∙ inv.0, after.0, after.1 ∙ ap (λ xs. lay_all m (lines_from c.args.near xs)) (sym next) ∙ inv.2)

pub returns-in-Ok : goal.returns-in-Ok
returns-in-Ok g c =
    let told = c.ask_listing.ensures.same in
    let long = length_listed (g.F.Field.tells c.args.field.now c.args.near) c.in-Ok.length (sym c.in-Ok.ensures.answer) in
    let t = g.F.Field.tells c.ask_listing.new.self c.args.near in
    let same_length = ap (λ tells. length (entries (tells c.args.near))) told in
    let over = drop_all (c.loop-k.k - 1) (entries t) (omega arith) in
    let m = memory c.args.head.now c.args.first.now c.args.lines.now in
    let m' = memory c.loop-k.head c.loop-k.first c.loop-k.lines in
    record {
      laid =
          sym (ap (λ xs. lay_all m' (lines_from c.args.near xs)) over)
          ∙ c.loop-k.invariant.2
          ∙ ap (λ tells. lay_all m (lines_from c.args.near (entries (tells c.args.near)))) told;
      same = c.loop-k.invariant.0 ∙ told;
    }

pub returns-in-Some-ask_grade : goal.returns-in-Some-ask_grade
returns-in-Some-ask_grade g c =
    let t = g.F.Field.tells c.ask_listing.new.self c.args.near in
    let k = c.loop-k.k in
    let inv = c.loop-k.invariant in
    let lists = ap (λ tells. listing (tells c.args.near)) c.ask_listing.ensures.same ∙ sym c.in-Ok.ensures.answer in
    let far = c.in-Some.ensures.answer ∙ ap (λ tells. far_at (tells c.args.near) k) inv.0 in
    let grade = c.in-Some-ask_grade.ensures.answer ∙ ap (λ tells. grade_at (tells c.args.near) k) (c.ask_far.ensures.same ∙ inv.0) in
    let next = next-told t c.in-Ok.length c.loop-k.k c.in-Some.far c.in-Some-ask_grade.grade lists c.loop-k.auto.k (omega arith) far grade in
    let m = memory c.loop-k.head c.loop-k.first c.loop-k.lines in
    let m' = memory c.place_line-last.new.head c.place_line-last.new.first c.place_line-last.new.lines in
    let after = placed m c.args.near c.loop-k.last c.in-Some.far c.in-Some-ask_grade.grade (drop (c.loop-k.k + 1 - 1) (entries t))
    (subst (λ xs. ReadyRest m c.args.near c.loop-k.last xs) next inv.1) m' c.place_line-last.result c.place_line-last.ensures.slot c.place_line-last.ensures.memory in
    let told = c.ask_listing.ensures.same in
    let long = length_listed t c.in-Ok.length lists in
    let over = drop_all (k + 1 - 1) (entries t) (omega arith) in
    let start = memory c.args.head.now c.args.first.now c.args.lines.now in
    record {
      laid =
          sym (ap (λ xs. lay_all m' (lines_from c.args.near xs)) over)
          ∙ after.1 ∙ ap (λ xs. lay_all m (lines_from c.args.near xs)) (sym next) ∙ inv.2
          ∙ ap (λ tells. lay_all start (lines_from c.args.near (entries (tells c.args.near)))) told;
      same = c.ask_grade.ensures.same ∙ c.ask_far.ensures.same ∙ inv.0 ∙ told;
    }
