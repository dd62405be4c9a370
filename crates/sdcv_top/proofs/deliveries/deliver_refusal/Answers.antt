use Rattle.std.proofs.Common.{refl, ap, Some, List, ℕ}
use Rattle.sdcv_top.specs.Outcomes.{refused}
use Rattle.sdcv_top.proofs.Delivered.{delivers, outputs_printed}
use Rattle.sdcv_top.proofs.deliveries.deliver_refusal.Goals as goal

pub returns-clause-delivered : goal.returns-clause-delivered
returns-clause-delivered g c =
    let prints = rw c.as_slice.ensures.value at c.print.ensures.printed in
    delivers _ _ _ _ (refused c.args.line.items) c.print.result _
    (outputs_printed _ _ _ _ c.args.line.items c.print.result c.print.ensures.saved prints) c.status_after-status.ensures refl refl
    (ap (λ (line : List ℕ). Some line) c.line_of.ensures)
