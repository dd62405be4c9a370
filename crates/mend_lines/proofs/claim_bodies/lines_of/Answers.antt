use Rattle.std.proofs.Common.{◌∙◌, ◌++◌, List, ℕ, ap, sym}
use Rattle.list_laws.proofs.Joining.{flat_next}
use Rattle.exception_expand.specs.Asking.{asked_by}
use Rattle.mend_lines.specs.Lines.{lines_by}
use Rattle.mend_lines.proofs.claim_bodies.lines_of.Goals as goal

pub loop-place-preserved : goal.loop-place-preserved
loop-place-preserved c =
    let by = lines_by c.args.pairs.now (asked_by c.args.ask.now) in
    let g = c.item.result.now in
    c.in_ok-push_lines_by.ensures ∙ ap (λ (lines : List (List ℕ)). lines ++ by g) c.loop-place.invariant
    ∙ sym (flat_next by c.args.part.now.groups c.loop-place.place g c.item.ensures)
