use Rattle.std.proofs.Common.{arith}
use Rattle.link_items.specs.Fine.{IsFinePort}
use Rattle.link_items.proofs.Listing.{all_more, all_done}
use Rattle.link_items.proofs.module_checks.check_ports.Goals as goal

pub loop-k-preserved : goal.loop-k-preserved
loop-k-preserved c =
    all_more (IsFinePort c.args.conns.now) c.args.body.now.ports c.loop-k.k c.item.result.now c.item.ensures c.loop-k.invariant c.in_ok-check_port.ensures.ok

pub returns-clause-ok : goal.returns-clause-ok
returns-clause-ok c = all_done (IsFinePort c.args.conns.now) c.args.body.now.ports c.loop-k.k (omega arith) c.loop-k.invariant
