use Rattle.std.proofs.Common.{◌++◌, ◌∙◌, ap, sym}
use Rattle.case_objects.specs.CaseObjects.{names_of}
use Rattle.list_laws.proofs.Joining.{flat_next}
use Rattle.case_objects.proofs.given.names.Goals as goal

pub loop-k-preserved : goal.loop-k-preserved
loop-k-preserved c =
    c.in_ok-add_name.ensures ∙ ap (λ list. list ++ names_of c.item.result.now) c.loop-k.invariant
    ∙ sym (flat_next names_of c.args.values.now c.loop-k.k c.item.result.now c.item.ensures)
