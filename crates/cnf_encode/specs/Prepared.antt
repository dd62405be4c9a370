-- The tables that depend on a design alone.
use Rattle.std.specs.Prelude.{◌≡◌, ◌+◌, length}
use Rattle.net_model.specs.declared.netlist.Design.{Design}
use Rattle.frame_unroll.specs.Tabled.{CodedDesign}
use Rattle.cnf_encode.specs.Cells.{AreCells}
use Rattle.cnf_encode.specs.Coned.{AreValuesOf, gate_points, bit_points}
use Rattle.cnf_encode.specs.Placed.{ArePlaces}
use Rattle.cnf_encode.specs.declared.cells.Cells.{Cells}
use Rattle.cnf_encode.specs.declared.point_tables.PointTables.{PointTables}

-- the settings of the design's inputs, and at which place each point stands
pub record ArePointTables (d : Design) (tables : PointTables) : Type 0 where
  pub fixed : AreValuesOf d.fixed (length d.inputs) tables.fixed
  pub resets : AreValuesOf d.resets (length d.inputs) tables.resets
  pub inputs : ArePlaces d.inputs d.nets tables.inputs
  pub gates : ArePlaces (gate_points d) d.nets tables.gates
  pub bits : ArePlaces (bit_points d) (d.nets + length d.regs) tables.bits

-- the points are those of the design, and its cubes those of the coding
pub record IsPrepared (tables : CodedDesign) (points : PointTables) (cells : Cells) : Type 0 where
  pub points_are : ArePointTables tables.design points
  pub cells_are : AreCells tables.design cells
  pub coding_is : cells.list.coding ≡ tables.coding
