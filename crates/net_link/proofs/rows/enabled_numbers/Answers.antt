use Rattle.std.proofs.Common.{ℕ, ◌+◌, List, subst, sym}
use Rattle.net_link.specs.Rows.{AreEnabled}
use Rattle.net_link.proofs.EnabledRows.{enabled_none, enabled_more}
use Rattle.net_link.proofs.rows.enabled_numbers.Goals as goal

pub loop-net-init : goal.loop-net-init
loop-net-init c = enabled_none c.args.nets c.args.numbers.now c.args.row.now c.new-list.result c.new-list.ensures

pub loop-net-preserved : goal.loop-net-preserved
loop-net-preserved c =
    subst (λ (xs : List ℕ). AreEnabled c.args.nets c.args.numbers.now c.args.row.now (c.loop-net.net + 1) xs) (sym c.in_ok-push.ensures.ok)
    (enabled_more c.args.nets c.args.numbers.now c.args.row.now c.loop-net.list c.loop-net.net c.number_in-number.result c.number_in-place.result
    c.in_ok-enabled.enabled c.loop-net.invariant c.number_in-number.ensures c.number_in-place.ensures c.in_ok-enabled.ensures)
