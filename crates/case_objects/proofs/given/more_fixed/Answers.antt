use Rattle.std.proofs.Common.{◌++◌, ◌∙◌, ap, sym}
use Rattle.case_objects.specs.CaseObjects.{fixed_of}
use Rattle.case_objects.proofs.Fixing.{fixed_next}
use Rattle.case_objects.proofs.given.more_fixed.Goals as goal

pub loop-k-preserved : goal.loop-k-preserved
loop-k-preserved c =
    c.in_ok-add_fixed.ensures ∙ ap (λ list. list ++ fixed_of (c.args.before.now ++ list) c.item.result.now) c.loop-k.invariant
    ∙ sym (fixed_next c.args.before.now c.args.values.now c.loop-k.k c.item.result.now c.item.ensures)
