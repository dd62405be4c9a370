use Rattle.std.proofs.Common.{◌+◌, length, sym, subst}
use Rattle.net_model.specs.Netlist.{IsSound}
use Rattle.net_model.specs.declared.netlist.Design.{Design}
use Rattle.frame_unroll.specs.Drivers.{AreDrivers}
use Rattle.cnf_encode.specs.Cells.{AreCells}
use Rattle.cnf_encode.specs.Coned.{gate_points, bit_points}
use Rattle.cnf_encode.specs.Prepared.{ArePointTables}
use Rattle.cnf_encode.proofs.cones.Cone.of.Goals as goal

pub returns-clause-cone : goal.returns-clause-cone
returns-clause-cone c =
    let back = sym c.bare.ensures in
    let d = c.bare.result.now in
    let are : ArePointTables d c.points-points.result.now = subst (λ (e : Design). ArePointTables e c.points-points.result.now) back c.points-points.ensures in
    record {
      sound = subst IsSound back c.requires.sound;
      drivers = subst (λ (e : Design). AreDrivers e c.drivers.result.now) back c.drivers.ensures;
      cells = subst (λ (e : Design). AreCells e c.cells.result.now) back c.cells.ensures.cells;
      fixed = are.fixed;
      resets = are.resets;
      inputs = c.in_ok-point_rows.ensures d.inputs d.nets are.inputs;
      gates = c.in_ok-point_rows-2.ensures (gate_points d) d.nets are.gates;
      bits = c.in_ok-point_rows-3.ensures (bit_points d) (d.nets + length d.regs) are.bits;
    }
