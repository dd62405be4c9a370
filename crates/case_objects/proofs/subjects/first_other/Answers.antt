use Rattle.std.proofs.Common.{arith, ◌≡◌, ◌∙◌, false, sym}
use Rattle.case_objects.specs.declared.values.CaseValue.{CaseValue}
use Rattle.case_objects.specs.Stages.{is_other}
use Rattle.case_objects.proofs.Holding.{one_more, of_all}
use Rattle.case_objects.proofs.subjects.first_other.Goals as goal

pub loop-k-preserved : goal.loop-k-preserved
loop-k-preserved c =
    one_more (λ (v : CaseValue). is_other c.args.subject c.args.bit v ≡ false) c.args.values.now c.loop-k.k c.item.result.now c.item.ensures
    c.loop-k.invariant (sym c.is_other.ensures ∙ c.if-is_other.false)

pub returns : goal.returns
returns c =
    of_all (λ (v : CaseValue). is_other c.args.subject c.args.bit v ≡ false) c.args.values.now c.loop-k.k
    (omega (arith, c.loop-k-test.false, c.len-k-end.ensures)) c.loop-k.invariant
