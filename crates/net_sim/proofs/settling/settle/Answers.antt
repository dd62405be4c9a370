use Rattle.net_model.proofs.Unique.{settled_same, settled_made}
use Rattle.net_sim.proofs.settling.settle.Goals as goal

settled : goal.returns-clause-settled
settled c =
    settled_made c.args.design.now c.args.cycle.now.bits c.args.cycle.now.ins c.put_inputs.new.nets c.put_regs.new.nets c.settle_gates.new.nets
    c.requires.shape.bits c.requires.shape.ins c.settle_gates.ensures.len c.put_inputs.ensures.shown c.put_regs.ensures.kept c.put_regs.ensures.shown
    c.settle_gates.ensures.sources c.settle_gates.ensures.gates

pub returns-clause-settled : goal.returns-clause-settled
returns-clause-settled c = settled c

pub returns-clause-only : goal.returns-clause-only
returns-clause-only c = λ other s bits ins. settled_same c.args.design.now other _ c.requires.sound s (settled c) bits ins
