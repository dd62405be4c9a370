-- Why a source gives no design: what each refusal says.
use Rattle.std.specs.Prelude.{◌≡◌, ◌≢◌, ℕ, ◌+◌, ◌<◌, ◌==◌, ◌⊎◌, Bool, true, false, if◌then◌else◌, List, [], ◌∷◌, ◌++◌, length, map}
use Rattle.std.specs.Prelude.{Contains, Some, None, slice_get, count_by}
use Rattle.sdcv_base.specs.declared.limits.LimitName.{LimitName}
use Rattle.sdcv_base.specs.declared.limits.LimitName.TheVariants as what
use Rattle.netlist_types.specs.declared.sources.Source.{Source}
use Rattle.netlist_types.specs.declared.sources.Module.{Module}
use Rattle.netlist_types.specs.declared.sources.Port.{Port}
use Rattle.netlist_types.specs.declared.sources.Item.{Item}
use Rattle.netlist_types.specs.declared.sources.Item.TheVariants as item
use Rattle.netlist_types.specs.declared.sources.Conn.{Conn}
use Rattle.netlist_types.specs.declared.sources.Wire.TheVariants as wire
use Rattle.netlist_types.specs.declared.sources.Dir.TheVariants as dir
use Rattle.cell_types.specs.declared.libraries.Library.{Library}
use Rattle.cell_types.specs.declared.libraries.Cell.{Cell}
use Rattle.cell_types.specs.declared.libraries.CellKind.{CellKind}
use Rattle.cell_types.specs.declared.libraries.CellKind.TheVariants as kind
use Rattle.link_defs.specs.declared.circuits.Circuit.{Circuit}
use Rattle.link_defs.specs.declared.cuts.CutCell.{CutCell}
use Rattle.link_defs.specs.declared.cuts.CutFault.TheVariants as cut
use Rattle.link_defs.specs.declared.cuts.CutPin.{CutPin}
use Rattle.link_defs.specs.declared.cuts.CutSource.{CutSource}
use Rattle.link_defs.specs.declared.cuts.Way.TheVariants as way
use Rattle.linked_types.specs.declared.options.LinkOptions.{LinkOptions}
use Rattle.sdcv_base.specs.declared.settings.Setting.{Setting}
use Rattle.linked_types.specs.declared.faults.LinkFault.{LinkFault}
use Rattle.linked_types.specs.declared.faults.LinkFault.TheVariants as fault
use Rattle.link_defs.specs.Hierarchy.{cell_of, is_modelled, wires_of, tops, IsRecursive}
use Rattle.netlist_types.specs.Lawful.{module_of}
use Rattle.link_defs.specs.Flatten.{Flat, Located, flat_of, full_names}
use Rattle.link_defs.specs.Circuits.{PortBit, input_bits, output_bits, data_bits, clock_bits, regs_of, clock_of, all_gates, all_drivers}
use Rattle.link_defs.specs.Circuits.{all_reads, all_data, OnTree, IsTree, IsOnCycle}
use Rattle.link_defs.specs.Designs.{equations, drivers_by}
use Rattle.link_defs.specs.Above.{Under}
use Rattle.link_defs.specs.GateOrders.{clock_parts}
use Rattle.link_defs.specs.GatedDesigns.{Flop, flops_of}
use Rattle.link_defs.specs.CellNames.{Leaf, leaves, out_pins, clock_pins}
use Rattle.link_defs.specs.Cuts.{IsCut}
use Rattle.link_defs.specs.Judged.{FlatNetlist, IsJudged, netlist_of}

-- an instance of the flat netlist: its reference, its full name and its connections
pub record IsInstance (flat : Flat) (cell full : List ℕ) (conns : List Conn) : Type 0 where
  pub at : Located
  pub name : List ℕ
  pub stands : Contains flat.items at
  pub item_is : at.item ≡ item.Inst cell name conns
  pub full_is : full ≡ at.scope.prefix ++ name

-- a cell's pins: those that must be connected, and all
abbrev pub in_pins : Cell → List (List ℕ)
in_pins c = c.inputs ++ clock_pins c.kind

-- all pins of a cell
abbrev pub all_pins : Cell → List (List ℕ)
all_pins c = in_pins c ++ out_pins c.kind ++ c.power

-- the full name of a pin
abbrev pub pin_of : List ℕ → List ℕ → List ℕ
pin_of full pin = full ++ 47 ∷ pin

-- an instance of this module
abbrev pub IsOfModule : Source → Flat → Module → List ℕ → List Conn → Type 0
IsOfModule s flat m full conns = (cell : List ℕ) × IsInstance flat cell full conns × (module_of s cell ≡ Some m)

-- an instance of this cell, where no module has the name
abbrev pub IsOfCell : Source → Library → Flat → Cell → List ℕ → List Conn → Type 0
IsOfCell s lib flat c full conns = (cell : List ℕ) × IsInstance flat cell full conns × (module_of s cell ≡ None) × (cell_of lib cell ≡ Some c)

-- an instance of a cell that can be modelled: no pin of another is looked at
abbrev pub IsOfModelled : Source → Library → Flat → Cell → List ℕ → List Conn → Type 0
IsOfModelled s lib flat c full conns = IsOfCell s lib flat c full conns × (is_modelled c.kind ≡ true)

-- a connection to a pin that isn't there
pub data IsUnknownPin (s : Source) (lib : Library) (flat : Flat) : List ℕ → Type 0 where
  Of_module : (m : Module) (full : List ℕ) (conns : List Conn) (c : Conn) → IsOfModule s flat m full conns → Contains conns c
      → (Contains (map (λ (p : Port). p.name) m.ports) c.pin → ⊥) → IsUnknownPin s lib flat (pin_of full c.pin)
  Of_cell : (cell : Cell) (full : List ℕ) (conns : List Conn) (c : Conn) → IsOfModelled s lib flat cell full conns → Contains conns c
      → (Contains (all_pins cell) c.pin → ⊥) → IsUnknownPin s lib flat (pin_of full c.pin)

-- an input or clock pin of a cell, or the first bit of an input port, that nothing is connected to
pub data IsOpenInput (s : Source) (lib : Library) (flat : Flat) : List ℕ → Type 0 where
  Port_open : (m : Module) (full : List ℕ) (conns : List Conn) (p : Port) (bit : ℕ) (name : List ℕ) → IsOfModule s flat m full conns
      → Contains m.ports p → p.dir ≡ dir.Input
      → wires_of conns p.name ≡ [] → slice_get p.bits 0 ≡ Some bit → slice_get m.nets bit ≡ Some name → IsOpenInput s lib flat (pin_of full name)
  Pin_open : (cell : Cell) (full pin : List ℕ) (conns : List Conn) → IsOfModelled s lib flat cell full conns → Contains (in_pins cell) pin
      → wires_of conns pin ≡ [] → IsOpenInput s lib flat (pin_of full pin)

-- two drivers of one net, or a constant that is connected to an output
pub data HasManyDrivers (s : Source) (lib : Library) (flat : Flat) (c : Circuit) : List ℕ → Type 0 where
  Twice : (name : List ℕ) (net : ℕ) → Contains (full_names flat) (name, net) → 1 < count_by (λ m. m == net) (all_drivers c) → HasManyDrivers s lib flat c name
  Port_tied : (m : Module) (full : List ℕ) (conns : List Conn) (p : Port) (bit : Bool) → IsOfModule s flat m full conns → Contains m.ports p
      → p.dir ≡ dir.Output
      → Contains (wires_of conns p.name) (wire.Const bit) → HasManyDrivers s lib flat c (pin_of full p.name)
  Pin_tied : (cell : Cell) (full pin : List ℕ) (conns : List Conn) (bit : Bool) → IsOfModelled s lib flat cell full conns → Contains (out_pins cell.kind) pin
      → Contains (wires_of conns pin) (wire.Const bit) → HasManyDrivers s lib flat c (pin_of full pin)

-- a list has the name at two places
abbrev pub StandsTwice : List (List ℕ) → List ℕ → Type 0
StandsTwice names name = (i j : ℕ) × (i < j) × (slice_get names i ≡ Some name) × (slice_get names j ≡ Some name)

-- the names of bits
abbrev pub bit_names : List PortBit → List (List ℕ)
bit_names bits = map (λ (b : PortBit). b.port.name) bits

-- the full names of cells, those that are cut out last
abbrev pub cell_names_in : List Leaf → List CutCell → List (List ℕ)
cell_names_in found cells = map (λ (l : Leaf). l.name) found ++ map (λ (x : CutCell). x.name) cells

-- two cells, two port bits, or two nets that something drives or reads, with one full name
pub data Clashes (s : Source) (lib : Library) (flat : Flat) (top : Module) (c : Circuit) (name : List ℕ) : Type 0 where
  Cells : StandsTwice (map (λ (l : Leaf). l.name) (leaves s lib flat)) name → Clashes s lib flat top c name
  Ports : StandsTwice (bit_names (input_bits top ++ output_bits top)) name → Clashes s lib flat top c name
  Nets : (n m : ℕ) → n ≢ m → Contains (full_names flat) (name, n) → Contains (full_names flat) (name, m)
      → Contains (all_drivers c ++ all_reads c) n → Contains (all_drivers c ++ all_reads c) m → Clashes s lib flat top c name

-- modules, cells and primitives, counted where they stand
abbrev pub is_instance : Item → Bool
is_instance (item.Inst cell name conns) = true
is_instance (item.Prim k name outs ins) = true
is_instance (item.Copy to from) = false

-- the item is an instance, wherever it stands
abbrev pub is_counted : Located → Bool
is_counted at = is_instance at.item

-- a primitive of more inputs than six
abbrev pub IsWidePrim : Item → Type 0
IsWidePrim (item.Inst cell name conns) = ⊥
IsWidePrim (item.Prim k name outs ins) = 6 < length ins
IsWidePrim (item.Copy to from) = ⊥

-- the most input pins of a cell: the gate that a clock gate becomes may read the one above it too
abbrev pub most_pins : CellKind → ℕ
most_pins (kind.Comb outs) = 6
most_pins (kind.Flop f) = 6
most_pins (kind.Gate g) = 5
most_pins (kind.Other o) = 6

-- a cell or primitive with more input pins than it may have is used, or a flop with six of them behind a clock gate, where it reads an
-- enable too; the number is the most and 1
pub data HasManyPins (s : Source) (lib : Library) (flat : Flat) (c : Circuit) : ℕ → Type 0 where
  Of_cell : (cell : Cell) (full : List ℕ) (conns : List Conn) → IsOfModelled s lib flat cell full conns → most_pins cell.kind < length cell.inputs
      → HasManyPins s lib flat c (most_pins cell.kind + 1)
  Of_prim : (at : Located) → Contains flat.items at → IsWidePrim at.item → HasManyPins s lib flat c 7
  Of_gated : (x : Flop) (gate : ℕ) → Contains (flops_of c) x → Under c x.clock (Some gate) → 5 < length x.reg.ins → HasManyPins s lib flat c 6

-- the most data inputs of a design: in a netlist that is read wide there may be more
abbrev pub most_inputs : Bool → ℕ
most_inputs wide = if wide then 20000 else 2000

-- a count above its limit; the number is the limit and 1
pub data IsAboveLimit (wide : Bool) (s : Source) (lib : Library) (flat : Flat) (c : Circuit) : LimitName → ℕ → Type 0 where
  Nets : (tree : List Bool) → IsTree c tree → 200000 < length (drivers_by c (equations tree c)) + length (clock_parts c)
      → IsAboveLimit wide s lib flat c what.Nets 200001
  Regs : 20000 < length (regs_of c) → IsAboveLimit wide s lib flat c what.Registers 20001
  Inputs : most_inputs wide < length c.inputs → IsAboveLimit wide s lib flat c what.Inputs (most_inputs wide + 1)
  Outputs : 20000 < length c.outputs → IsAboveLimit wide s lib flat c what.Outputs 20001
  Instances : 1000000 < count_by is_counted flat.items → IsAboveLimit wide s lib flat c what.Instances 1000001
  Pins : (number : ℕ) → HasManyPins s lib flat c number → IsAboveLimit wide s lib flat c what.Pins number
  Hierarchy : (at : Located) → Contains flat.items at → is_counted at ≡ true → 256 < at.scope.depth → IsAboveLimit wide s lib flat c what.Hierarchy 257

-- the names of the inputs that are given a value
abbrev pub set_names : LinkOptions → List (List ℕ)
set_names o = map (λ (x : Setting). x.name) (o.fixed ++ o.resets)

-- a clock name that is no input bit, or a fixed or reset name that is no data input or is given twice
pub data IsBadSetting (top : Module) (o : LinkOptions) (name : List ℕ) : Type 0 where
  No_clock : o.clock ≡ Some name → clock_bits o.clock top ≡ [] → IsBadSetting top o name
  No_input : Contains (set_names o) name → (Contains (bit_names (data_bits o.clock top)) name → ⊥) → IsBadSetting top o name
  Twice : StandsTwice (set_names o) name → IsBadSetting top o name

-- what a refusal says of the flat netlist below the top module, of a circuit that is left of it and the leaves that are
abbrev pub IsFlatCause : Source → Library → LinkOptions → Module → Flat → List Leaf → Circuit → LinkFault → Type 0
IsFlatCause s lib o top flat found c (fault.UnknownCell cell) = (full : List ℕ) × (conns : List Conn) × IsInstance flat cell full conns
    × (module_of s cell ≡ None) × (cell_of lib cell ≡ None)
IsFlatCause s lib o top flat found c (fault.UnsupportedCell cell) =
    (full : List ℕ) × (conns : List Conn) × (x : Cell) × IsOfCell s lib flat x full conns × (x.name ≡ cell) × (is_modelled x.kind ≡ false)
IsFlatCause s lib o top flat found c (fault.UnknownPin pin) = IsUnknownPin s lib flat pin
IsFlatCause s lib o top flat found c (fault.OpenInput pin) = IsOpenInput s lib flat pin
IsFlatCause s lib o top flat found c (fault.Undriven name) = (net : ℕ) × Contains (full_names flat) (name, net) × Contains (all_reads c) net
    × (Contains (all_drivers c) net → ⊥)
IsFlatCause s lib o top flat found c (fault.ManyDrivers name) = HasManyDrivers s lib flat c name
IsFlatCause s lib o top flat found c (fault.Loop name) = (net : ℕ) × Contains (full_names flat) (name, net) × IsOnCycle (all_gates c) net
IsFlatCause s lib o top flat found c (fault.NotTheClock name) =
    (l : Leaf) × (clock : ℕ) × Contains found l × (l.name ≡ name) × (clock_of l.part ≡ Some clock) × (OnTree c clock false → ⊥)
IsFlatCause s lib o top flat found c (fault.ClockAsData name) = (net : ℕ) × (odd : Bool) × Contains (full_names flat) (name, net)
    × Contains (all_data c) net × OnTree c net odd
IsFlatCause s lib o top flat found c (fault.NameClash name) = Clashes s lib flat top c name
IsFlatCause s lib o top flat found c (fault.Limit kind number) = IsAboveLimit o.wide s lib flat c kind number
IsFlatCause s lib o top flat found c (fault.BadSetting name) = IsBadSetting top o name
IsFlatCause s lib o top flat found c (fault.Recursive name) = IsRecursive s name
IsFlatCause s lib o top flat found c (fault.NoTop number) = ⊥
IsFlatCause s lib o top flat found c fault.Memory = Unit {0}

-- a constant is connected to an output of a cell that is cut out; or an output of one stands on a net that the circuit drives
pub data IsCutDriver (flat : Flat) (c : Circuit) (cells : List CutCell) : List ℕ → Type 0 where
  Cut_tied : (x : CutCell) (pin : List ℕ) → Contains cells x → x.fault ≡ Some (cut.Tied pin) → IsCutDriver flat c cells (pin_of x.name pin)
  Cut_driven : (x : CutCell) (p : CutPin) (name : List ℕ) → Contains cells x → Contains x.pins p → p.way ≡ way.Out → Contains (all_drivers c) p.net
      → Contains (full_names flat) (name, p.net) → IsCutDriver flat c cells name

-- what a refusal says of the cells that are cut out of a flat netlist: a connection to a port that isn't there, a second driver of a net, or
-- the name of another cell
abbrev pub IsCutCause : Flat → List Leaf → Circuit → List CutCell → LinkFault → Type 0
IsCutCause flat found c cells (fault.UnknownPin name) =
    (x : CutCell) × (pin : List ℕ) × Contains cells x × (x.fault ≡ Some (cut.Stray pin)) × (name ≡ pin_of x.name pin)
IsCutCause flat found c cells (fault.ManyDrivers name) = IsCutDriver flat c cells name
IsCutCause flat found c cells (fault.NameClash name) = StandsTwice (cell_names_in found cells) name
IsCutCause flat found c cells e = ⊥

-- what a refusal says of a netlist that is judged: of what is left where its cells are cut out, or of these cells
abbrev pub IsJudgedCause : CutSource → Library → LinkOptions → Module → FlatNetlist → LinkFault → Type 0
IsJudgedCause s lib o top j f =
    ((k : Circuit) → IsCut j.circuit j.cells k → IsFlatCause s.source lib o top (flat_of s.source lib top) j.found k f)
    ⊎ IsCutCause (flat_of s.source lib top) j.found j.circuit j.cells f

-- what a refusal says of the netlist below the top module
abbrev pub IsCauseBelow : CutSource → Library → LinkOptions → Module → LinkFault → Type 0
IsCauseBelow s lib o top f = (j : FlatNetlist) → IsJudged o.cut_clocks (netlist_of s lib top o.clock) j → IsJudgedCause s lib o top j f

-- what a refusal says; want of memory alone is free
abbrev pub IsCause : CutSource → Library → LinkOptions → LinkFault → Type 0
IsCause s lib o (fault.NoTop number) = (length (tops s.source) ≡ number) × (number ≢ 1)
IsCause s lib o (fault.Recursive name) = IsRecursive s.source name
IsCause s lib o fault.Memory = Unit {0}
IsCause s lib o f = (top : Module) × (tops s.source ≡ top ∷ []) × IsCauseBelow s lib o top f

-- no refusal but that of memory has its cause
abbrev pub IsFaultless : CutSource → Library → LinkOptions → Type 0
IsFaultless s lib o = (f : LinkFault) → f ≢ fault.Memory → IsCause s lib o f → ⊥
