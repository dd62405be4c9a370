use Rattle.std.proofs.Common.{◌∙◌, ◌++◌, ◌∷◌, [], List, take, sym, ap}
use Rattle.sdcv_base.specs.Seqs.{each_at}
use Rattle.list_laws.proofs.Joining.{each_at_more}
use Rattle.mend_groups.specs.declared.rows.Row.{Row}
use Rattle.mend_groups.specs.Rows.{with_beside}
use Rattle.mend_groups.proofs.rows.paired.Goals as goal

pub loop-place-preserved : goal.loop-place-preserved
loop-place-preserved c =
    let rows = c.args.rows.now in
    let k = c.loop-place.place in
    c.in_ok-push.ensures.ok ∙ ap (λ (xs : List Row). xs ++ c.with_beside.result ∷ []) c.loop-place.invariant
    ∙ ap (λ (r : Row). each_at (λ place x. with_beside rows place x ∷ []) 0 (take k rows) ++ r ∷ []) c.with_beside.ensures
    ∙ sym (each_at_more (λ place x. with_beside rows place x ∷ []) rows k c.at.result c.at.ensures)
