use Rattle.std.proofs.Common.{◌∙◌, length, ap, sym, refl, arith}
use Rattle.std.proofs.lemmas.Result.{err_from_is_err_and}
use Rattle.sdcv_base.specs.Cursors.{rest, text_of}
use Rattle.lib_words.proofs.ReadLemmas.{fails_through}
use Rattle.lib_words.proofs.ListLemmas.{list_ends, list_parted, list_more, list_bad}
use Rattle.lib_words.proofs.lists.list.Goals as goal

pub returns-then-try_mark-clause-value : goal.returns-then-try_mark-clause-value
returns-then-try_mark-clause-value g c =
    let (m, room, told) = c.items.invariant.told in
    told ∙ list_ends c.args.close c.args.between (g.G.Gather.adds c.args.room) c.items.found _ (rest c.items.c) m (omega arith)
    (sym c.if-try_mark.ensures.value) ∙ rw c.if-try_mark.ensures.rest refl

pub items-preserved-then-try_mark-2 : goal.items-preserved-then-try_mark-2
items-preserved-then-try_mark-2 g c =
    let (m, room, told) = c.items.invariant.told in
    let same = c.if-try_mark.ensures.rest in
    let len = ap length same in
    let less = c.if-try_mark-2.ensures.shorter refl in
    let (n, one, step) = list_parted c.args.close c.args.between (g.G.Gather.adds c.args.room) c.items.found (length (text_of c.args.c.now))
    (rest c.items.c) m (omega arith) (sym c.if-try_mark.ensures.value) (sym (rw same at c.if-try_mark-2.ensures.value)) in
    record {
      text = c.if-try_mark-2.ensures.text ∙ c.if-try_mark.ensures.text ∙ c.items.invariant.text;
      within = omega arith;
      told = (n, omega arith, told ∙ step ∙ rw (c.if-try_mark-2.ensures.rest, same) refl);
    }

pub items-preserved : goal.items-preserved
items-preserved g c =
    let (m, room, told) = c.items.invariant.told in
    let same = c.if-try_mark.ensures.rest in
    let same_again = c.if-try_mark-2.ensures.rest ∙ same in
    let text = c.if-try_mark-2.ensures.text ∙ c.if-try_mark.ensures.text ∙ c.items.invariant.text in
    let len = ap length same_again in
    let less = c.in_ok-add.ensures.shorter in
    let (n, one, step) = list_more c.args.close c.args.between (g.G.Gather.adds c.args.room) c.items.found (length (text_of c.args.c.now))
    (rest c.items.c) m _ _ (omega arith) (sym c.if-try_mark.ensures.value) (sym (rw same at c.if-try_mark-2.ensures.value))
    (rw (same_again, text) at c.in_ok-add.ensures.value) in
    record {
      text = c.in_ok-add.ensures.text ∙ text;
      within = omega arith;
      told = (n, omega arith, told ∙ step);
    }

pub returns-in_err-add-clause-value : goal.returns-in_err-add-clause-value
returns-in_err-add-clause-value g c =
    let (m, room, told) = c.items.invariant.told in
    let same = c.if-try_mark.ensures.rest in
    let same_again = c.if-try_mark-2.ensures.rest ∙ same in
    let text = c.if-try_mark-2.ensures.text ∙ c.if-try_mark.ensures.text ∙ c.items.invariant.text in
    let p = err_from_is_err_and c.from_residual.result c.from_residual.ensures.1 in
    rw (p.1, p.2) (fails_through _ _ (ap length text) c.in_err-add.field-0.0 _ _ c.in_err-add.ensures.value
    (λ why bad. told ∙ list_bad c.args.close c.args.between (g.G.Gather.adds c.args.room) c.items.found (length (text_of c.args.c.now))
    (rest c.items.c) m why (omega arith) (sym c.if-try_mark.ensures.value) (sym (rw same at c.if-try_mark-2.ensures.value))
    (rw (same_again, text) at bad)))
