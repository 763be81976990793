use Rattle.std.proofs.Common.{◌≡◌, length, take, sym, ap, ◌∙◌, arith}
use Rattle.book.specs.Memory.{memory}
use Rattle.margins.specs.Published.{margins_asked}
use Rattle.desk.proofs.Kept.{kept, beside, take_min, moved}
use Rattle.desk.proofs.Desk.margins.Goals as goal

pub returns-clause-told : goal.returns-clause-told
returns-clause-told g c =
    let out = kept _ c.margins.new.out c.args.self.now.margins.items (c.margins.auto.out ∙ c.deref_mut-2.ensures.len) in
    let row = c.args.self.now.numbers.items in
    let long = ap length (sym c.deref-3.ensures.value) ∙ c.deref-3.ensures.len in
    let numbers : take c.min-length.result c.deref-3.result.now ≡ take c.args.length row = ap (take c.min-length.result) c.deref-3.ensures.value ∙ ap (λ n. take n row) (omega (arith, c.min-length.ensures, c.len.ensures, long)) ∙ take_min c.args.length row in
    beside _ out ∙ c.margins.ensures
    ∙ moved (λ f l w n o. margins_asked g.G.Grade.le (memory c.args.self.now.head f l) (length w) n o) c.deref.ensures.value c.deref-2.ensures.value c.deref_mut.ensures.value numbers c.deref_mut-2.ensures.value
