use Rattle.std.proofs.Common.{◌∙◌, length, ap, sym, refl, arith}
use Rattle.std.proofs.lemmas.Result.{err_from_is_err_and}
use Rattle.sdcv_base.specs.Cursors.{rest, text_of}
use Rattle.verilog_words.proofs.ReadLemmas.{fails_through}
use Rattle.verilog_syntax.proofs.ListLemmas.{list_bad, list_ends, list_stuck, list_more}
use Rattle.verilog_syntax.proofs.lists.take_list.Goals as goal

pub returns-in_err-add-clause-value : goal.returns-in_err-add-clause-value
returns-in_err-add-clause-value g c =
    let (m, room, told) = c.items.invariant.told in
    let text = c.items.invariant.text in
    let p = err_from_is_err_and c.from_residual.result c.from_residual.ensures.1 in
    rw (p.1, p.2) (fails_through _ _ (ap length text) c.in_err-add.field-0.0 _ _ c.in_err-add.ensures.value
    (λ why bad. told ∙ list_bad c.args.close g.G.Gather.adds c.items.found (length (text_of c.args.c.now)) (rest c.items.c) m why (omega arith)
    (rw text at bad)))

pub returns-then-try_pass-clause-value : goal.returns-then-try_pass-clause-value
returns-then-try_pass-clause-value g c =
    let (m, room, told) = c.items.invariant.told in
    told ∙ list_ends c.args.close g.G.Gather.adds c.items.found (length (text_of c.args.c.now)) (rest c.items.c) m _ _ (omega arith)
    (rw c.items.invariant.text at c.in_ok-add.ensures.value) (sym c.if-try_pass.ensures.value) ∙ rw c.if-try_pass.ensures.rest refl

pub items-preserved : goal.items-preserved
items-preserved g c =
    let (m, room, told) = c.items.invariant.told in
    let same = c.if-try_pass.ensures.rest in
    let len = ap length same in
    let less = c.in_ok-add.ensures.shorter in
    let less_again = c.in_ok-expect_mark.ensures.shorter in
    let text = c.if-try_pass.ensures.text ∙ c.in_ok-add.ensures.text ∙ c.items.invariant.text in
    let (n, one, step) = list_more c.args.close g.G.Gather.adds c.items.found (length (text_of c.args.c.now)) (rest c.items.c) m _ _ _ (omega arith)
    (rw c.items.invariant.text at c.in_ok-add.ensures.value) (sym c.if-try_pass.ensures.value)
    (rw (same, text) at c.in_ok-expect_mark.ensures.value) in
    record {
      text = c.in_ok-expect_mark.ensures.text ∙ text;
      within = omega arith;
      told = (n, omega arith, told ∙ step);
    }

pub returns-in_err-expect_mark-clause-value : goal.returns-in_err-expect_mark-clause-value
returns-in_err-expect_mark-clause-value g c =
    let (m, room, told) = c.items.invariant.told in
    let same = c.if-try_pass.ensures.rest in
    let text = c.if-try_pass.ensures.text ∙ c.in_ok-add.ensures.text ∙ c.items.invariant.text in
    let p = err_from_is_err_and c.from_residual-in_err-expect_mark.result c.from_residual-in_err-expect_mark.ensures.1 in
    rw (p.1, p.2) (fails_through _ _ (ap length text) c.in_err-expect_mark.field-0.0 _ _ c.in_err-expect_mark.ensures.value
    (λ why bad. told ∙ list_stuck c.args.close g.G.Gather.adds c.items.found (length (text_of c.args.c.now)) (rest c.items.c) m _ _ why (omega arith)
    (rw c.items.invariant.text at c.in_ok-add.ensures.value) (sym c.if-try_pass.ensures.value) (rw (same, text) at bad)))
