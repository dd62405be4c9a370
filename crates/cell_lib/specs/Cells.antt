-- What a cell is: combinational, a flop, a clock gate, or not modelled.
use Rattle.std.specs.Prelude.{ℕ, Bool, nat_le, ◌&&◌, if◌then◌else◌, List, find, count_by, Option, Some, None}
use Rattle.std.specs.List.{list_all}
use Rattle.texts.specs.Names.{each_once}
use Rattle.lib_words.specs.declared.groups.Part.{Part}
use Rattle.lib_words.specs.declared.groups.CellGroup.{CellGroup}
use Rattle.cell_types.specs.declared.libraries.Cell.{Cell}
use Rattle.cell_types.specs.declared.libraries.CellKind.TheVariants as kind
use Rattle.cell_types.specs.declared.libraries.CombOut.{CombOut}
use Rattle.cell_types.specs.declared.libraries.Flop.{Flop}
use Rattle.cell_types.specs.declared.libraries.GateCell.{GateCell}
use Rattle.cell_lib.specs.declared.pins.Role.TheVariants as role
use Rattle.cell_lib.specs.declared.pins.OutPin.{OutPin}
use Rattle.cell_lib.specs.declared.shapes.Shape.{Shape}
use Rattle.cell_lib.specs.Pins.{is_ff, is_directed, can_be_modelled, names_differ, names_of, outs_of}
use Rattle.cell_lib.specs.Combs.{comb_outs}
use Rattle.cell_lib.specs.Flops.{flop_of, data_inputs}
use Rattle.cell_lib.specs.Gates.{gate_of}
use Rattle.cell_lib.specs.Others.{other_of}

-- a cell that is not modelled: its input pins, buses and bundles, and what is known of it
abbrev pub other_shape : List Part → Shape
other_shape parts = record { inputs = each_once (names_of role.WideInput parts); kind = kind.Other (other_of parts) }

-- a cell without `ff`, by its output pins where each has a function
abbrev pub comb_shape : List Part → List (List ℕ) → Option (List CombOut) → Shape
comb_shape parts inputs (Some outs) = record { inputs = inputs; kind = kind.Comb outs }
comb_shape parts inputs None = other_shape parts

-- a cell with an `ff`, by the flop that it is: the clock is no longer among the inputs
abbrev pub flop_shape : List Part → List (List ℕ) → Option Flop → Shape
flop_shape parts inputs (Some flop) = record { inputs = data_inputs flop.clock inputs; kind = kind.Flop flop }
flop_shape parts inputs None = other_shape parts

-- how many groups `ff` there are, and the first
abbrev pub ff_count : List Part → ℕ
ff_count parts = count_by (λ (p : Part). is_ff p.kind) parts

abbrev pub first_ff : List Part → Option Part
first_ff parts = find (λ (p : Part). is_ff p.kind) parts

-- each group and attribute can be modelled, each pin is an input or an output, names differ, and there is one `ff` at most
unfoldable pub is_modelled : CellGroup → Bool
is_modelled g = can_be_modelled g && (list_all is_directed g.parts && (nat_le (ff_count g.parts) 1 && names_differ role.Any g.parts))

-- what pins, and an `ff` where there is one, make of a cell
abbrev pub shape_by : List Part → List (List ℕ) → List OutPin → Option Part → Shape
shape_by parts inputs outs None = comb_shape parts (each_once inputs) (comb_outs (each_once inputs) outs)
shape_by parts inputs outs (Some ff) = flop_shape parts inputs (flop_of inputs outs ff)

-- a cell that is no clock gate
unfoldable pub plain_shape : CellGroup → Shape
plain_shape g =
    if is_modelled g then shape_by g.parts (names_of role.Input g.parts) (outs_of g.parts) (first_ff g.parts) else other_shape g.parts

-- a cell by the clock gate that it is, if it is one: the clock is not among the inputs
abbrev pub shape_with : CellGroup → Option GateCell → Shape
shape_with g (Some gate) = record { inputs = gate.enables; kind = kind.Gate gate }
shape_with g None = plain_shape g

unfoldable pub shape_of : CellGroup → Shape
shape_of g = shape_with g (gate_of g)

-- the cell that a group is
unfoldable pub cell_of : CellGroup → Cell
cell_of g = record { name = g.name; inputs = (shape_of g).inputs; power = names_of role.Power g.parts; kind = (shape_of g).kind }
