use Rattle.std.proofs.Common.{◌∙◌, ◌++◌, List, take, ap, sym}
use Rattle.list_laws.proofs.Joining.{flat_next}
use Rattle.mend_groups.specs.declared.rows.Row.{Row}
use Rattle.mend_lines.proofs.stars.heads.Goals as goal

pub loop-place-preserved : goal.loop-place-preserved
loop-place-preserved c =
    let star = c.item.result.now in
    c.in_ok-push_first.ensures ∙ ap (λ (rows : List Row). rows ++ take 1 star) c.loop-place.invariant
    ∙ sym (flat_next (take 1) c.args.group.now.stars c.loop-place.place star c.item.ensures)
