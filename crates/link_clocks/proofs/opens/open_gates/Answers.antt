use Rattle.std.proofs.Common.{arith, subst}
use Rattle.std.proofs.lemmas.List.Elements.{All-more}
use Rattle.link_items.proofs.Listing.{all_done}
use Rattle.link_clocks.specs.Marks.{IsClosedGate}
use Rattle.link_clocks.proofs.opens.open_gates.Goals as goal

pub loop-gate-preserved : goal.loop-gate-preserved
loop-gate-preserved c =
    All-more (IsClosedGate c.args.marks.now c.args.from) c.args.gates.now c.loop-gate.gate-index c.gate-item.result (omega arith) c.loop-gate.invariant
    (subst (IsClosedGate c.args.marks.now c.args.from) c.gate-item.is c.in_default.ensures.none)

pub returns-clause-none : goal.returns-clause-none
returns-clause-none c =
    all_done (IsClosedGate c.args.marks.now c.args.from) c.args.gates.now c.loop-gate.gate-index (omega arith) c.loop-gate.invariant
