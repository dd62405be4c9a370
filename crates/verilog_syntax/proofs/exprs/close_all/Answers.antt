use Rattle.std.proofs.Common.{◌≡◌, ◌-◌, ◌∙◌, refl, sym, arith}
use Rattle.sdcv_base.specs.Cursors.{rest}
use Rattle.verilog_syntax.proofs.ExprLemmas.{closed_more, closed_stop, closed_none}
use Rattle.verilog_syntax.proofs.exprs.close_all.Goals as goal

pub closing-preserved : goal.closing-preserved
closing-preserved c =
    let told = c.closing.invariant.told in
    let less = c.if-try_pass.ensures.shorter refl in
    let (k, one, step) = closed_more c.closing.left (rest c.closing.c) c.closing-test.true (sym c.if-try_pass.ensures.value) in
    let same : k ≡ c.closing.left - 1 = omega arith in
    record {
      text = c.if-try_pass.ensures.text ∙ c.closing.invariant.text;
      within = omega arith;
      told = told ∙ step ∙ rw (same, c.if-try_pass.ensures.rest) refl;
    }

pub returns-else-try_pass-clause-value : goal.returns-else-try_pass-clause-value
returns-else-try_pass-clause-value c =
    sym (c.closing.invariant.told ∙ closed_stop c.closing.left (rest c.closing.c) (sym c.if-try_pass.ensures.value) ∙ rw c.if-try_pass.ensures.rest refl)

pub returns-after-closing-clause-value : goal.returns-after-closing-clause-value
returns-after-closing-clause-value c =
    sym (c.closing.invariant.told ∙ closed_none c.closing.left (rest c.closing.c) (omega arith))
