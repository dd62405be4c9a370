-- Why an item of a module is refused.
use Rattle.std.specs.Prelude.{◌≡◌, ◌≢◌, ℕ, ◌+◌, ◌<◌, Bool, true, false, List, [], ◌++◌, length, Contains, Option, Some, None, slice_get}
use Rattle.sdcv_base.specs.declared.limits.LimitName.{LimitName}
use Rattle.sdcv_base.specs.declared.limits.LimitName.TheVariants as what
use Rattle.netlist_types.specs.declared.sources.Source.{Source}
use Rattle.netlist_types.specs.declared.sources.Module.{Module}
use Rattle.netlist_types.specs.declared.sources.Port.{Port}
use Rattle.netlist_types.specs.declared.sources.Item.{Item}
use Rattle.netlist_types.specs.declared.sources.Item.TheVariants as item
use Rattle.netlist_types.specs.declared.sources.Conn.{Conn}
use Rattle.netlist_types.specs.declared.sources.Wire.TheVariants as wire
use Rattle.netlist_types.specs.Lawful.{module_of}
use Rattle.netlist_types.specs.declared.sources.Dir.TheVariants as dir
use Rattle.cell_types.specs.declared.libraries.Library.{Library}
use Rattle.cell_types.specs.declared.libraries.Cell.{Cell}
use Rattle.link_defs.specs.declared.circuits.Circuit.{Circuit}
use Rattle.linked_types.specs.declared.options.LinkOptions.{LinkOptions}
use Rattle.linked_types.specs.declared.faults.LinkFault.{LinkFault}
use Rattle.linked_types.specs.declared.faults.LinkFault.TheVariants as fault
use Rattle.link_defs.specs.Hierarchy.{cell_of, is_modelled, wires_of}
use Rattle.link_defs.specs.Flatten.{Flat, Scope}
use Rattle.link_defs.specs.CellNames.{Leaf, out_pins}
use Rattle.link_defs.specs.Faults.{in_pins, all_pins, pin_of, most_pins, IsFlatCause}
use Rattle.link_items.specs.Pins.{port_names}

-- a connection to none of these pins, by the full name that its pin would have
abbrev pub IsStray : List (List ℕ) → List ℕ → List Conn → List ℕ → Type 0
IsStray pins full conns name = (c : Conn) × Contains conns c × (Contains pins c.pin → ⊥) × (name ≡ pin_of full c.pin)

-- the first bit of an input port that nothing is connected to
abbrev pub IsOpenPort : Module → List ℕ → List Conn → List ℕ → Type 0
IsOpenPort m full conns name = (p : Port) × (bit : ℕ) × (net : List ℕ) × Contains m.ports p × (p.dir ≡ dir.Input) × (wires_of conns p.name ≡ [])
    × (slice_get p.bits 0 ≡ Some bit) × (slice_get m.nets bit ≡ Some net) × (name ≡ pin_of full net)

-- an output port that a constant is connected to
abbrev pub IsTiedPort : Module → List ℕ → List Conn → List ℕ → Type 0
IsTiedPort m full conns name = (p : Port) × (bit : Bool) × Contains m.ports p × (p.dir ≡ dir.Output)
    × Contains (wires_of conns p.name) (wire.Const bit) × (name ≡ pin_of full p.name)

-- why an instance of a module is refused
abbrev pub IsModuleFault : Module → List ℕ → List Conn → LinkFault → Type 0
IsModuleFault m full conns (fault.UnknownPin name) = IsStray (port_names m) full conns name
IsModuleFault m full conns (fault.OpenInput name) = IsOpenPort m full conns name
IsModuleFault m full conns (fault.ManyDrivers name) = IsTiedPort m full conns name
IsModuleFault m full conns fault.Memory = Unit {0}
IsModuleFault m full conns e = ⊥

-- one of these pins that nothing is connected to
abbrev pub IsOpenPin : List (List ℕ) → List ℕ → List Conn → List ℕ → Type 0
IsOpenPin pins full conns name = (pin : List ℕ) × Contains pins pin × (wires_of conns pin ≡ []) × (name ≡ pin_of full pin)

-- one of these pins that a constant is connected to
abbrev pub IsTiedPin : List (List ℕ) → List ℕ → List Conn → List ℕ → Type 0
IsTiedPin pins full conns name = (pin : List ℕ) × (bit : Bool) × Contains pins pin × Contains (wires_of conns pin) (wire.Const bit)
    × (name ≡ pin_of full pin)

-- more input pins than the most that there may be; the number is the most and 1
abbrev pub IsWide : ℕ → ℕ → LimitName → ℕ → Type 0
IsWide most inputs what.Pins number = (most < inputs) × (number ≡ most + 1)
IsWide most inputs kind number = ⊥

-- why an instance of a cell that is modelled is refused
abbrev pub IsPinFault : Cell → List ℕ → List Conn → LinkFault → Type 0
IsPinFault cell full conns (fault.UnknownPin name) = IsStray (all_pins cell) full conns name
IsPinFault cell full conns (fault.OpenInput name) = IsOpenPin (in_pins cell) full conns name
IsPinFault cell full conns (fault.ManyDrivers name) = IsTiedPin (out_pins cell.kind) full conns name
IsPinFault cell full conns (fault.Limit kind number) = IsWide (most_pins cell.kind) (length cell.inputs) kind number
IsPinFault cell full conns fault.Memory = Unit {0}
IsPinFault cell full conns e = ⊥

-- why an instance of a cell is refused: no pin of one that is not modelled is looked at
abbrev pub IsCellFault : Cell → List ℕ → List Conn → LinkFault → Type 0
IsCellFault cell full conns (fault.UnsupportedCell name) = (name ≡ cell.name) × (is_modelled cell.kind ≡ false)
IsCellFault cell full conns fault.Memory = Unit {0}
IsCellFault cell full conns e = (is_modelled cell.kind ≡ true) × IsPinFault cell full conns e

-- why an instance of neither a module nor a cell is
abbrev pub IsUnknownFault : List ℕ → LinkFault → Type 0
IsUnknownFault cell (fault.UnknownCell name) = name ≡ cell
IsUnknownFault cell fault.Memory = Unit {0}
IsUnknownFault cell e = ⊥

-- why an instance is refused: of a module, or else of a cell, or of neither
abbrev pub IsInstFault : Option Module → Option Cell → List ℕ → List ℕ → List Conn → LinkFault → Type 0
IsInstFault (Some m) found cell full conns e = IsModuleFault m full conns e
IsInstFault None (Some c) cell full conns e = IsCellFault c full conns e
IsInstFault None None cell full conns e = IsUnknownFault cell e

-- why a primitive of so many inputs is refused
abbrev pub IsPrimFault : ℕ → LinkFault → Type 0
IsPrimFault inputs (fault.Limit kind number) = IsWide 6 inputs kind number
IsPrimFault inputs fault.Memory = Unit {0}
IsPrimFault inputs e = ⊥

-- why an assigned bit is: never, but for want of memory
abbrev pub IsCopyFault : LinkFault → Type 0
IsCopyFault fault.Memory = Unit {0}
IsCopyFault e = ⊥

-- why an item that stands in an instance is refused; want of memory alone is free
abbrev pub IsItemFault : Source → Library → Scope → Item → LinkFault → Type 0
IsItemFault s lib scope (item.Inst cell name conns) e = IsInstFault (module_of s cell) (cell_of lib cell) cell (scope.prefix ++ name) conns e
IsItemFault s lib scope (item.Prim k name outs ins) e = IsPrimFault (length ins) e
IsItemFault s lib scope (item.Copy to from) e = IsCopyFault e

-- no refusal of the item but that of memory has its cause
abbrev pub IsFaultless : Source → Library → Scope → Item → Type 0
IsFaultless s lib scope i = (e : LinkFault) → e ≢ fault.Memory → IsItemFault s lib scope i e → ⊥

-- the refusal has its cause in each flat netlist that has the item
abbrev pub IsCauseWithin : Source → Library → Scope → Item → LinkFault → Type 0
IsCauseWithin s lib scope i e = (flat : Flat) (o : LinkOptions) (top : Module) (found : List Leaf) (c : Circuit) (first : ℕ)
    → Contains flat.items (record { scope = scope; item = i; first = first }) → IsFlatCause s lib o top flat found c e
