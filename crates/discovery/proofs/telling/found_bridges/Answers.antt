use Rattle.std.proofs.Common.{◌≡◌, ◌+◌, [], ◌∷◌, ◌++◌, get_or, take, vec_items, sym, ap, ◌∙◌}
use Rattle.std.proofs.lemmas.List.{take_more, take_all}
use Rattle.std.proofs.lemmas.Bool.{cond-true, cond-false}
use Rattle.theory.specs.Lists.{among}
use Rattle.survey.specs.Walk.{join, join_all}
use Rattle.survey.proofs.Members.{join-append}
use Rattle.discovery.proofs.telling.found_bridges.Goals as goal
use Rattle.discovery.proofs.telling.found_bridges.Goals.{then-not-is_found+in_ok-push, else-not-is_found}

pub loop-far-preserved : goal.loop-far-preserved
loop-far-preserved c =
    let fars = c.args.fars.now in
    let i = c.loop-far.far-index in
    let next : join_all (c.args.start ∷ []) (take (i + 1) fars) ≡ join (join_all (c.args.start ∷ []) (take i fars)) (get_or fars i 0) =
    ap (join_all (c.args.start ∷ [])) (take_more fars i 0 c.loop-far-test.true) ∙ join-append (c.args.start ∷ []) (take i fars) (get_or fars i 0 ∷ []) in
    let far = get_or fars i 0 in
    let found = vec_items c.loop-far.found in
    let test : c.is_found.result ≡ among found far = c.is_found.ensures ∙ ap (λ xs. among xs far) c.deref.ensures.value in
    let rest : join found far ≡ join_all (c.args.start ∷ []) (take (i + 1) fars) = ap (λ xs. join xs far) c.loop-far.invariant ∙ sym next in
    elim c.if-not-is_found.branch [
      | then-not-is_found+in_ok-push w ↦ ap vec_items w.found-is ∙ w.in_ok-push.ensures.items ∙ sym (cond-false (among found far) found (found ++ (far ∷ [])) (sym test ∙ w.if-not-is_found.true)) ∙ rest
      | else-not-is_found w ↦ ap vec_items w.found-is ∙ sym (cond-true (among found far) found (found ++ (far ∷ [])) (sym test ∙ w.if-not-is_found.false)) ∙ rest
    ]
