use Rattle.std.proofs.Common.{arith, false}
use Rattle.std.proofs.lemmas.Option.{slice_get_within}
use Rattle.net_model.proofs.Settling.{gates_more}
use Rattle.net_model.proofs.rows.settle_gates.Goals as goal

pub loop-k-preserved : goal.loop-k-preserved
loop-k-preserved g c =
    rw c.put.ensures (gates_more g.V.Value.applied g.met.V.Value.reads_places (g.V.Value.bit_value false) c.args.design.now c.args.nets.now
    c.loop-k.nets c.loop-k.k c.item-gate.result.now c.gate_value-value.result c.requires.sound c.item-gate.ensures c.gate_value-value.ensures
    c.loop-k.invariant)

pub returns-clause-gates : goal.returns-clause-gates
returns-clause-gates g c =
    λ k h at. let within = slice_get_within c.args.design.now.gates k h at in
    c.loop-k.invariant.gates k (omega arith) h at
