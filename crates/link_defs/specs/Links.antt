-- What linking gives.
use Rattle.std.specs.Prelude.{◌≡◌, ℕ, ◌+◌, Bool, false, List, [], ◌∷◌, ◌++◌, length, map, flat_map, Contains, Some, slice_get}
use Rattle.std.specs.List.{AllZip}
use Rattle.net_model.specs.Netlist.{IsSound, reg_nets}
use Rattle.net_model.specs.declared.netlist.Fixed.{Fixed}
use Rattle.net_model.specs.declared.netlist.Gate.{Gate}
use Rattle.icg_rewrite.specs.declared.clock_gates.Gated.{Gated}
use Rattle.icg_rewrite.specs.Gated.{AreGated}
use Rattle.icg_rewrite.specs.Rewritten.{rewritten}
use Rattle.netlist_types.specs.declared.sources.Module.{Module}
use Rattle.cell_types.specs.declared.libraries.Library.{Library}
use Rattle.link_defs.specs.declared.circuits.Circuit.{Circuit}
use Rattle.link_defs.specs.declared.circuits.Part.{Part}
use Rattle.link_defs.specs.declared.cuts.CutSource.{CutSource}
use Rattle.linked_types.specs.declared.names.Linked.{Linked}
use Rattle.linked_types.specs.declared.names.Names.{Names}
use Rattle.linked_types.specs.declared.names.PortName.{PortName}
use Rattle.linked_types.specs.declared.options.LinkOptions.{LinkOptions}
use Rattle.sdcv_base.specs.declared.settings.Setting.{Setting}
use Rattle.link_defs.specs.Hierarchy.{tops}
use Rattle.link_defs.specs.Flatten.{Flat, flat_of}
use Rattle.link_defs.specs.Circuits.{PortBit, data_bits, output_bits, clock_port, regs_of, clock_of, OnTree}
use Rattle.link_defs.specs.Designs.{drivers_by, number_by}
use Rattle.link_defs.specs.GateOrders.{ClockPart}
use Rattle.link_defs.specs.GatedDesigns.{IsGatedOf, AreGatedSolutions, enabled_drivers}
use Rattle.link_defs.specs.CellNames.{cell_names, AreNetNames}
use Rattle.link_defs.specs.Cuts.{Tree, IsCut, cut_cell_names, cut_names, free_pins, sink_pins, pin_name}
use Rattle.link_defs.specs.Judged.{FlatNetlist, IsJudged, netlist_of}

-- the names of bits, with their buses
abbrev pub ports_of : List PortBit → List PortName
ports_of bits = map (λ (b : PortBit). b.port) bits

-- a setting names an input and gives its value
pub record IsSet (inputs : List PortBit) (setting : Setting) (f : Fixed) : Type 0 where
  pub bit : PortBit
  pub there : slice_get inputs f.input ≡ Some bit
  pub name : bit.port.name ≡ setting.name
  pub value : f.value ≡ setting.value

-- how many nets inputs and registers drive: gate k drives the net of that number and k
abbrev pub source_count : Circuit → ℕ
source_count c = length c.inputs + length (flat_map reg_nets (regs_of c))

-- what the design's numbers go by: the nets of the clock tree, the order of gates, and that of clock gates
pub record Numbered : Type 0 where
  pub tree : List Bool
  pub order : List Gate
  pub gates : List ClockPart

-- the names of the flat netlist by the design's numbers: a clock gate is named by its enable, and the net that it drives has no name; `k` is
-- the judged circuit without the cells that are cut out of it
pub record AreNames (j : FlatNetlist) (k : Circuit) (o : LinkOptions) (top : Module) (flat : Flat) (t : Tree) (g : Numbered) (n : Names) : Type 0 where
  pub cells : n.cells ≡ cell_names (number_by (enabled_drivers k g.order g.gates)) (source_count k) g.tree 0 j.found
      ++ cut_cell_names (record { circuit = j.circuit; tree = t; cells = j.cells; number = number_by (enabled_drivers k g.order g.gates) }) 0 j.cells
  pub ins : n.ins ≡ ports_of (data_bits o.clock top)
  pub outs : n.outs ≡ ports_of (output_bits top)
  pub clock : n.clock ≡ clock_port o.clock top
  pub nets : AreNetNames flat (drivers_by k g.order) (number_by (drivers_by k g.order)) n.nets
  pub free : n.free ≡ map pin_name (free_pins j.circuit j.cells)
  pub sinks : n.sinks ≡ map pin_name (sink_pins j.circuit t j.cells)
  pub cuts : n.cuts ≡ cut_names j.cells
  pub assumed : n.assumed ≡ []

-- a sound design of the source's only top module without the cells that are cut out of it, with an enable for each clock gate: its settled
-- cycles are the solutions of the module's equations, and its registers, which are on the clock as its clock gates are, capture where it
-- comes through to them; with one clock of several what that clock does not come to is cut out too
pub record IsLinked (s : CutSource) (lib : Library) (o : LinkOptions) (l : Linked) : Type 0 where
  pub top : Module
  pub top_is : tops s.source ≡ top ∷ []
  pub judged : FlatNetlist
  pub judged_is : IsJudged o.cut_clocks (netlist_of s lib top o.clock) judged
  pub circuit : Circuit
  pub cut : IsCut judged.circuit judged.cells circuit
  pub tree : List Bool
  pub order : List Gate
  pub gates : List ClockPart
  pub gated : Gated
  pub sound : IsSound l.design
  pub clocked : (p : Part) (clock : ℕ) → Contains circuit.parts p → clock_of p ≡ Some clock → OnTree circuit clock false
  pub lawful : AreGated gated
  pub gated_is : IsGatedOf circuit tree order gates gated
  pub design : l.design ≡ rewritten gated
  pub solutions : AreGatedSolutions circuit tree order l.design
  pub fixed : AllZip (IsSet (data_bits o.clock top)) o.fixed l.design.fixed
  pub resets : AllZip (IsSet (data_bits o.clock top)) o.resets l.design.resets
  pub reset_len : l.design.reset_len ≡ o.reset_len
  pub names : AreNames judged circuit o top (flat_of s.source lib top) cut.tree (record { tree = tree; order = order; gates = gates }) l.names
