use Rattle.std.proofs.Common.{◌++◌, ◌∙◌, ap, sym}
use Rattle.case_objects.specs.CaseObjects.{told_of}
use Rattle.list_laws.proofs.Joining.{flat_next}
use Rattle.case_objects.proofs.given.told.Goals as goal

pub loop-k-preserved : goal.loop-k-preserved
loop-k-preserved c =
    c.in_ok-add_told.ensures ∙ ap (λ list. list ++ (told_of c.args.ports) c.item.result.now) c.loop-k.invariant
    ∙ sym (flat_next (told_of c.args.ports) c.args.values.now c.loop-k.k c.item.result.now c.item.ensures)
