use Rattle.std.proofs.Common.{◌≡◌, sym, ap, ◌∙◌, arith}
use Rattle.stored.specs.Stored.{lowest}
use Rattle.stored.proofs.Lowest.{lowest-empty, lowest-found, lowest-more}
use Rattle.stored.proofs.following.find_lowest.Goals as goal
use Rattle.stored.proofs.following.find_lowest.Goals.{else-loop-index-test, then-loop-index-test+else-test+else-index-most}

pub returns-then-test : goal.returns-then-test
returns-then-test g c = λ passes means.
    let index = c.loop-index.index in
    let same = means index c.test.result c.loop-index.auto.index c.loop-index-test.true c.test.ensures in
    sym (lowest-found passes index c.args.most c.loop-index.auto.index (c.loop-index.invariant passes means) (sym same ∙ c.if-test.true) c.loop-index-test.true)

pub returns : goal.returns
returns g c = λ passes means.
    elim c.loop-index-test.branch [
      | else-loop-index-test w ↦ sym (lowest-empty passes c.args.most c.loop-index.index c.loop-index.auto.index-end w.loop-index-test.false)
      | then-loop-index-test+else-test+else-index-most w ↦
          let index = c.loop-index.index in
          let at : c.args.most ≡ index = omega arith in
          let same = means index w.test.result c.loop-index.auto.index w.loop-index-test.true w.test.ensures in
          sym (ap (lowest passes) at ∙ lowest-more passes index c.loop-index.auto.index (c.loop-index.invariant passes means) (sym same ∙ w.if-test.false))
    ]
