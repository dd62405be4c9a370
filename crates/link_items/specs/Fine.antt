-- Instances that no refusal of their connections speaks of.
use Rattle.std.specs.Prelude.{◌≡◌, ℕ, ◌≤◌, false, All, List, length, Some, slice_get}
use Rattle.netlist_types.specs.declared.sources.Module.{Module}
use Rattle.netlist_types.specs.declared.sources.Port.{Port}
use Rattle.netlist_types.specs.declared.sources.Conn.{Conn}
use Rattle.netlist_types.specs.declared.sources.Dir.{Dir}
use Rattle.netlist_types.specs.declared.sources.Dir.TheVariants as dir
use Rattle.cell_types.specs.declared.libraries.Cell.{Cell}
use Rattle.link_defs.specs.CellNames.{out_pins, clock_pins}
use Rattle.link_defs.specs.Faults.{all_pins, most_pins}
use Rattle.link_items.specs.Pins.{is_open, is_tied, is_unknown, port_names}

-- no more inputs than such a cell may have, every pin is one of the cell, input and clock pins are connected, and no output pin to a constant
pub record IsFineCell (conns : List Conn) (cell : Cell) : Type 0 where
  pub few : length cell.inputs ≤ most_pins cell.kind
  pub known : All (λ (c : Conn). is_unknown (all_pins cell) c ≡ false) conns
  pub inputs : All (λ (pin : List ℕ). is_open conns pin ≡ false) cell.inputs
  pub clock : All (λ (pin : List ℕ). is_open conns pin ≡ false) (clock_pins cell.kind)
  pub outs : All (λ (pin : List ℕ). is_tied conns pin ≡ false) (out_pins cell.kind)

-- an input port with bits is connected, and no output port to a constant; an inout port is connected as one likes
abbrev pub IsFineAs : List Conn → Port → Dir → Type 0
IsFineAs conns p dir.Input = (bit : ℕ) → slice_get p.bits 0 ≡ Some bit → is_open conns p.name ≡ false
IsFineAs conns p dir.Output = is_tied conns p.name ≡ false
IsFineAs conns p dir.Inout = Unit {0}

-- the port is connected as its direction asks
abbrev pub IsFinePort : List Conn → Port → Type 0
IsFinePort conns p = IsFineAs conns p p.dir

-- every connection is to a port of the module, and each port is connected as its direction asks
pub record IsFineModule (conns : List Conn) (m : Module) : Type 0 where
  pub known : All (λ (c : Conn). is_unknown (port_names m) c ≡ false) conns
  pub ports : All (IsFinePort conns) m.ports
