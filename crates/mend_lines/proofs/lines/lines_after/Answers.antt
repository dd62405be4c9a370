use Rattle.std.proofs.Common.{◌∙◌, ◌++◌, List, ℕ, ap, sym}
use Rattle.mend_lines.specs.Lines.{lines_of_group}
use Rattle.mend_lines.proofs.Adding.{lines_next}
use Rattle.mend_lines.proofs.lines.lines_after.Goals as goal

pub loop-place-preserved : goal.loop-place-preserved
loop-place-preserved c =
    let t = c.args.terms.now in
    let g = c.item.result.now in
    c.in_ok-push_group.ensures ∙ ap (λ (lines : List (List ℕ)). lines ++ lines_of_group t.head.now t.pairs.now t.through.now g) c.loop-place.invariant
    ∙ sym (lines_next t.head.now t.pairs.now t.through.now c.args.groups.now c.loop-place.place g c.item.ensures)
