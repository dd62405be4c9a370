use Rattle.std.proofs.Common.{arith}
use Rattle.std.proofs.lemmas.Option.{slice_get_within}
use Rattle.claim_monitor.proofs.NetLits.{gate_nets_none, gate_nets_more}
use Rattle.claim_monitor.proofs.nets.settle.Goals as goal

pub loop-k-init : goal.loop-k-init
loop-k-init c = gate_nets_none c.args.design.now c.args.graph.now c.args.nets.now c.requires.len c.requires.in_

pub loop-k-preserved : goal.loop-k-preserved
loop-k-preserved c =
    rw c.put.ensures (gate_nets_more c.args.design.now c.args.graph.now c.args.nets.now c.loop-k.graph c.gate_literal.new.graph c.loop-k.nets c.loop-k.k
    c.in_ok-literal.literal c.item-gate.result.now c.requires.sound c.item-gate.ensures c.requires.in_ c.gate_literal.ensures.keeps
    c.in_ok-literal.ensures.means c.loop-k.invariant)

pub returns-clause-sources : goal.returns-clause-sources
returns-clause-sources c = λ x n len has. (c.loop-k.invariant.bits x len).sources n has

pub returns-clause-gates : goal.returns-clause-gates
returns-clause-gates c =
    λ x len k h at. let within = slice_get_within c.args.design.now.gates k h at in
    (c.loop-k.invariant.bits x len).gates k (omega arith) h at
