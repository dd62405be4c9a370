use Rattle.std.proofs.Common.{◌∙◌, length, ap, sym, arith}
use Rattle.std.proofs.lemmas.Result.{err_from_is_err_and}
use Rattle.sdcv_base.specs.Cursors.{rest, text_of}
use Rattle.verilog_words.proofs.ReadLemmas.{fails_through}
use Rattle.verilog_syntax.proofs.ListLemmas.{row_ends, row_bad, row_more}
use Rattle.verilog_syntax.proofs.lists.take_row.Goals as goal

pub items-preserved : goal.items-preserved
items-preserved g c =
    let (m, room, told) = c.items.invariant.told in
    let less = c.in_ok-add.ensures.shorter in
    let (n, one, step) = row_more g.R.Row.ends g.R.Gather.adds c.items.found (length (text_of c.args.c.now)) (rest c.items.c) m _ _ (omega arith)
    (sym c.has_ended.ensures ∙ c.items-test.true) (rw c.items.invariant.text at c.in_ok-add.ensures.value) in
    record {
      text = c.in_ok-add.ensures.text ∙ c.items.invariant.text;
      within = omega arith;
      told = (n, omega arith, told ∙ step);
    }

pub returns-in_err-add-clause-value : goal.returns-in_err-add-clause-value
returns-in_err-add-clause-value g c =
    let (m, room, told) = c.items.invariant.told in
    let p = err_from_is_err_and c.from_residual.result c.from_residual.ensures.1 in
    rw (p.1, p.2) (fails_through _ _ (ap length c.items.invariant.text) c.in_err-add.field-0.0 _ _ c.in_err-add.ensures.value
    (λ why bad. told ∙ row_bad g.R.Row.ends g.R.Gather.adds c.items.found (length (text_of c.args.c.now)) (rest c.items.c) m why (omega arith)
    (sym c.has_ended.ensures ∙ c.items-test.true) (rw c.items.invariant.text at bad)))

pub returns-clause-value : goal.returns-clause-value
returns-clause-value g c =
    let (m, room, told) = c.items.invariant.told in
    told ∙ row_ends g.R.Row.ends g.R.Gather.adds c.items.found (length (text_of c.args.c.now)) (rest c.items.c) m (omega arith)
    (sym c.has_ended.ensures ∙ c.items-test.false)
