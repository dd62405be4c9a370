use Rattle.std.proofs.Common.{◌∙◌, ◌++◌, ◌∷◌, [], List, ap, sym}
use Rattle.std.specs.Prelude.{if◌then◌else◌}
use Rattle.mend_groups.specs.declared.rows.Row.{Row}
use Rattle.mend_lines.specs.Lines.{is_named}
use Rattle.mend_lines.proofs.Keeping.{filter_next}
use Rattle.mend_lines.proofs.stars.named_in.Goals as goal

pub loop-place-preserved : goal.loop-place-preserved
loop-place-preserved c =
    let row = c.at.result in
    let kept = is_named c.args.class in
    c.in_ok-push_if.ensures ∙ ap (λ (rows : List Row). rows ++ (if kept row then row ∷ [] else [])) c.loop-place.invariant
    ∙ sym (filter_next kept c.args.star.now c.loop-place.place row c.at.ensures)
