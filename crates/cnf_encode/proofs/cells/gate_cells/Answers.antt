use Rattle.std.proofs.Common.{length, subst, sym, arith}
use Rattle.net_model.specs.Form.{value, IsOver}
use Rattle.net_model.specs.declared.netlist.Gate.{Gate}
use Rattle.cnf_encode.specs.CellLists.{IsCellAt}
use Rattle.cnf_encode.proofs.CellTables.{cells_more, cells_all}
use Rattle.cnf_encode.proofs.Layering.{gate_in_range}
use Rattle.cnf_encode.proofs.cells.gate_cells.Goals as goal

pub place-requires : goal.place-requires
place-requires c =
    let g = c.item-gate.result.now in
    let range = gate_in_range c.args.design.now c.loop-k.k g c.requires.sound c.item-gate.ensures in
    record { few = omega (arith, range.few, c.len.ensures); over = subst (λ n. IsOver n g.func) (sym c.len.ensures) range.func }

pub loop-k-preserved : goal.loop-k-preserved
loop-k-preserved c =
    let g = c.item-gate.result.now in
    cells_more (λ (g : Gate). value g.func) (λ (g : Gate). length g.ins) c.args.design.now.gates c.args.list.now c.loop-k.list c.place.new.self c.loop-k.found
    c.push.new.self c.loop-k.k c.in_ok-place.field-0 g c.loop-k.invariant c.item-gate.ensures c.in_ok-place.ensures.grown
    (subst (λ n. IsCellAt c.place.new.self c.in_ok-place.field-0 (value g.func) n) c.len.ensures c.in_ok-place.ensures.is) c.in_ok-push.ensures.ok

pub returns-clause-cells : goal.returns-clause-cells
returns-clause-cells c =
    cells_all (λ (g : Gate). value g.func) (λ (g : Gate). length g.ins) c.args.design.now.gates c.args.list.now c.loop-k.list c.loop-k.found c.loop-k.k
    c.loop-k.invariant (omega arith)
