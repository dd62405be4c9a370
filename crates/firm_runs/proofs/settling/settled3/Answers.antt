use Rattle.std.proofs.Common.{◌∙◌, ap, sym, Some}
use Rattle.firm_runs.proofs.Settled3.{settled_made3}
use Rattle.firm_runs.proofs.settling.settled3.Goals as goal

pub returns-clause-settled : goal.returns-clause-settled
returns-clause-settled c =
    settled_made3 c.args.design.now c.args.bits c.args.ins c.settle_gates.new.nets c.in_ok-nets.nets c.put_inputs.new.rows c.put_regs.new.rows
    c.requires.sound c.requires.bits c.requires.ins c.settle_gates.ensures.len (c.item.ensures ∙ ap Some (sym c.in_ok-nets.ensures))
    c.put_inputs.ensures.shown c.put_regs.ensures.inputs c.put_regs.ensures.shown c.settle_gates.ensures.sources c.settle_gates.ensures.gates
