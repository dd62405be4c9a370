use Rattle.std.proofs.Common.{sym, subst}
use Rattle.link_design.specs.Lawful.{IsLawfulCircuit}
use Rattle.link_clocks.proofs.Leaving.{judged_is, lawful_left, cells_left}
use Rattle.link_clocks.proofs.netlists.off_clock.Goals as goal

pub returns-clause-judged : goal.returns-clause-judged
returns-clause-judged c = λ n is.
    judged_is c.args.library.now c.in_ok-even.even c.args.netlist
    (record { circuit = c.left_circuit-circuit.result; leaves = c.left_leaves-leaves.result; cells = c.push_off.new.cells }) n c.in_ok-even.ensures is
    c.left_circuit-circuit.ensures c.left_leaves-leaves.ensures (c.in_ok-push_off.ensures n.found is.leaves)

pub returns-clause-lawful : goal.returns-clause-lawful
returns-clause-lawful c =
    subst IsLawfulCircuit (sym c.left_circuit-circuit.ensures) (lawful_left c.in_ok-even.even c.args.netlist.circuit c.requires.lawful)

pub returns-clause-nets : goal.returns-clause-nets
returns-clause-nets c =
    let (n, is) = c.requires.leaves in
    cells_left c.args.library.now c.in_ok-even.even c.args.netlist c.left_circuit-circuit.result c.push_off.new.cells n c.requires.lawful c.requires.nets is
    c.left_circuit-circuit.ensures (c.in_ok-push_off.ensures n.found is.leaves)
