-- Refusals of an item: their causes in a flat netlist, and that an item without them has none.
use Rattle.std.proofs.Common.{◌≡◌, ◌≢◌, ℕ, ◌+◌, ◌≤◌, true, false, List, ◌++◌, length, All, Some, None, refl, sym, subst, arith}
use Rattle.std.specs.Prelude.{Option, Contains, slice_get}
use Rattle.std.proofs.lemmas.List.Elements.{All-contains, All-append}
use Rattle.sdcv_base.specs.declared.limits.LimitName.{LimitName}
use Rattle.sdcv_base.specs.declared.limits.LimitName.TheVariants as what
use Rattle.netlist_types.specs.declared.sources.Source.{Source}
use Rattle.netlist_types.specs.declared.sources.Module.{Module}
use Rattle.netlist_types.specs.declared.sources.Port.{Port}
use Rattle.netlist_types.specs.declared.sources.Item.{Item}
use Rattle.netlist_types.specs.declared.sources.Item.TheVariants as item
use Rattle.netlist_types.specs.declared.sources.Conn.{Conn}
use Rattle.netlist_types.specs.declared.sources.Wire.{Wire}
use Rattle.netlist_types.specs.declared.gates.PrimKind.{PrimKind}
use Rattle.netlist_types.specs.Lawful.{module_of}
use Rattle.netlist_types.specs.declared.sources.Dir.{Dir}
use Rattle.netlist_types.specs.declared.sources.Dir.TheVariants as dir
use Rattle.cell_types.specs.declared.libraries.Library.{Library}
use Rattle.cell_types.specs.declared.libraries.Cell.{Cell}
use Rattle.link_defs.specs.declared.circuits.Circuit.{Circuit}
use Rattle.linked_types.specs.declared.options.LinkOptions.{LinkOptions}
use Rattle.linked_types.specs.declared.faults.LinkFault.{LinkFault}
use Rattle.linked_types.specs.declared.faults.LinkFault.TheVariants as fault
use Rattle.link_defs.specs.Hierarchy.{cell_of, is_modelled}
use Rattle.link_defs.specs.Flatten.{Flat, Scope}
use Rattle.link_defs.specs.CellNames.{Leaf, out_pins, clock_pins}
use Rattle.link_defs.specs.Faults.{in_pins, all_pins, most_pins, IsFlatCause, IsInstance, IsOfModule, IsOfCell, IsOfModelled}
use Rattle.link_defs.specs.Faults.{IsUnknownPin, IsOpenInput, HasManyDrivers, HasManyPins, IsAboveLimit}
use Rattle.link_items.specs.Faults.{IsModuleFault, IsPinFault, IsCellFault, IsUnknownFault, IsInstFault, IsPrimFault, IsCopyFault, IsItemFault}
use Rattle.link_items.specs.Faults.{IsWide, IsCauseWithin}
use Rattle.link_items.specs.Fine.{IsFineCell, IsFineAs, IsFinePort, IsFineModule}
use Rattle.link_items.specs.Pins.{is_open, is_tied, is_unknown, port_names}
use Rattle.link_items.proofs.Searching.{not_both, in_tied, none_open, known}

-- a connection of fine ones is to one of the pins
known_in : (pins : List (List ℕ)) (conns : List Conn) (c : Conn) → All (λ (c : Conn). is_unknown pins c ≡ false) conns → Contains conns c → Contains pins
    c.pin
known_in pins conns c all has = known pins c (All-contains (λ (c : Conn). is_unknown pins c ≡ false) conns c all has)

fine_input : (conns : List Conn) (p : Port) (d : Dir) (bit : ℕ) → d ≡ dir.Input → slice_get p.bits 0 ≡ Some bit → IsFineAs conns p d → is_open conns p.name ≡
    false
fine_input conns p dir.Input bit is at fine = fine bit at
fine_input conns p dir.Output bit is at fine = cc
fine_input conns p dir.Inout bit is at fine = cc

fine_output : (conns : List Conn) (p : Port) (d : Dir) → d ≡ dir.Output → IsFineAs conns p d → is_tied conns p.name ≡ false
fine_output conns p dir.Input is fine = cc
fine_output conns p dir.Output is fine = fine
fine_output conns p dir.Inout is fine = cc

-- an instance of a module whose connections are fine has no refusal
pub module_fine : (m : Module) (full : List ℕ) (conns : List Conn) → IsFineModule conns m → (e : LinkFault) → e ≢ fault.Memory → IsModuleFault m full conns e
    → ⊥
module_fine m full conns fine (fault.UnknownCell name) other bad = bad
module_fine m full conns fine (fault.UnsupportedCell name) other bad = bad
module_fine m full conns fine (fault.UnknownPin name) other bad = let (c, has, none, is) = bad in none (known_in (port_names m) conns c fine.known has)
module_fine m full conns fine (fault.OpenInput name) other bad =
    let (p, bit, net, has, input, none, first, named, is) = bad in
    let connected = fine_input conns p p.dir bit input first (All-contains (IsFinePort conns) m.ports p fine.ports has) in
    not_both (is_open conns p.name) (none_open conns p.name none) connected
module_fine m full conns fine (fault.Undriven name) other bad = bad
module_fine m full conns fine (fault.ManyDrivers name) other bad =
    let (p, bit, has, output, tied, is) = bad in
    let free = fine_output conns p p.dir output (All-contains (IsFinePort conns) m.ports p fine.ports has) in
    not_both (is_tied conns p.name) (in_tied conns p.name bit tied) free
module_fine m full conns fine (fault.Loop name) other bad = bad
module_fine m full conns fine (fault.NotTheClock name) other bad = bad
module_fine m full conns fine (fault.ClockAsData name) other bad = bad
module_fine m full conns fine (fault.Recursive name) other bad = bad
module_fine m full conns fine (fault.NameClash name) other bad = bad
module_fine m full conns fine (fault.NoTop number) other bad = bad
module_fine m full conns fine (fault.Limit kind number) other bad = bad
module_fine m full conns fine (fault.BadSetting name) other bad = bad
module_fine m full conns fine fault.Memory other bad = other refl

wide_not : (most inputs : ℕ) (kind : LimitName) (number : ℕ) → inputs ≤ most → IsWide most inputs kind number → ⊥
wide_not most inputs what.Nets number few wide = wide
wide_not most inputs what.Registers number few wide = wide
wide_not most inputs what.Inputs number few wide = wide
wide_not most inputs what.Outputs number few wide = wide
wide_not most inputs what.Instances number few wide = wide
wide_not most inputs what.Pins number few wide = omega (arith, wide.0)
wide_not most inputs what.Through number few wide = wide
wide_not most inputs what.Pairs number few wide = wide
wide_not most inputs what.Judged number few wide = wide
wide_not most inputs what.Hierarchy number few wide = wide

-- a pin that must be connected is, in a fine instance
connected_in : (conns : List Conn) (cell : Cell) (pin : List ℕ) → IsFineCell conns cell → Contains (in_pins cell) pin → is_open conns pin ≡ false
connected_in conns cell pin fine has =
    All-contains (λ (pin : List ℕ). is_open conns pin ≡ false) (in_pins cell) pin
    (All-append (λ (pin : List ℕ). is_open conns pin ≡ false) cell.inputs (clock_pins cell.kind) fine.inputs fine.clock) has

-- nor has one of a modelled cell whose pins are fine
pub pins_fine : (cell : Cell) (full : List ℕ) (conns : List Conn) → IsFineCell conns cell → (e : LinkFault) → e ≢ fault.Memory → IsPinFault cell full conns e
    → ⊥
pins_fine cell full conns fine (fault.UnknownCell name) other bad = bad
pins_fine cell full conns fine (fault.UnsupportedCell name) other bad = bad
pins_fine cell full conns fine (fault.UnknownPin name) other bad = let (c, has, none, is) = bad in none (known_in (all_pins cell) conns c fine.known has)
pins_fine cell full conns fine (fault.OpenInput name) other bad =
    let (pin, has, none, is) = bad in not_both (is_open conns pin) (none_open conns pin none) (connected_in conns cell pin fine has)
pins_fine cell full conns fine (fault.Undriven name) other bad = bad
pins_fine cell full conns fine (fault.ManyDrivers name) other bad =
    let (pin, bit, has, tied, is) = bad in
    not_both (is_tied conns pin) (in_tied conns pin bit tied) (All-contains (λ (pin : List ℕ). is_tied conns pin ≡ false) (out_pins cell.kind) pin fine.outs
    has)
pins_fine cell full conns fine (fault.Loop name) other bad = bad
pins_fine cell full conns fine (fault.NotTheClock name) other bad = bad
pins_fine cell full conns fine (fault.ClockAsData name) other bad = bad
pins_fine cell full conns fine (fault.Recursive name) other bad = bad
pins_fine cell full conns fine (fault.NameClash name) other bad = bad
pins_fine cell full conns fine (fault.NoTop number) other bad = bad
pins_fine cell full conns fine (fault.Limit kind number) other bad = wide_not (most_pins cell.kind) (length cell.inputs) kind number fine.few bad
pins_fine cell full conns fine (fault.BadSetting name) other bad = bad
pins_fine cell full conns fine fault.Memory other bad = other refl

-- so has one of a cell that is modelled
pub cell_fine : (cell : Cell) (full : List ℕ) (conns : List Conn) → is_modelled cell.kind ≡ true → IsFineCell conns cell → (e : LinkFault) → e ≢ fault.Memory
    → IsCellFault cell full conns e → ⊥
cell_fine cell full conns modelled fine (fault.UnknownCell name) other bad = pins_fine cell full conns fine (fault.UnknownCell name) other bad.1
cell_fine cell full conns modelled fine (fault.UnsupportedCell name) other bad = not_both (is_modelled cell.kind) modelled bad.1
cell_fine cell full conns modelled fine (fault.UnknownPin name) other bad = pins_fine cell full conns fine (fault.UnknownPin name) other bad.1
cell_fine cell full conns modelled fine (fault.OpenInput name) other bad = pins_fine cell full conns fine (fault.OpenInput name) other bad.1
cell_fine cell full conns modelled fine (fault.Undriven name) other bad = pins_fine cell full conns fine (fault.Undriven name) other bad.1
cell_fine cell full conns modelled fine (fault.ManyDrivers name) other bad = pins_fine cell full conns fine (fault.ManyDrivers name) other bad.1
cell_fine cell full conns modelled fine (fault.Loop name) other bad = pins_fine cell full conns fine (fault.Loop name) other bad.1
cell_fine cell full conns modelled fine (fault.NotTheClock name) other bad = pins_fine cell full conns fine (fault.NotTheClock name) other bad.1
cell_fine cell full conns modelled fine (fault.ClockAsData name) other bad = pins_fine cell full conns fine (fault.ClockAsData name) other bad.1
cell_fine cell full conns modelled fine (fault.Recursive name) other bad = pins_fine cell full conns fine (fault.Recursive name) other bad.1
cell_fine cell full conns modelled fine (fault.NameClash name) other bad = pins_fine cell full conns fine (fault.NameClash name) other bad.1
cell_fine cell full conns modelled fine (fault.NoTop number) other bad = pins_fine cell full conns fine (fault.NoTop number) other bad.1
cell_fine cell full conns modelled fine (fault.Limit kind number) other bad = pins_fine cell full conns fine (fault.Limit kind number) other bad.1
cell_fine cell full conns modelled fine (fault.BadSetting name) other bad = pins_fine cell full conns fine (fault.BadSetting name) other bad.1
cell_fine cell full conns modelled fine fault.Memory other bad = other refl

-- a refusal for the pins of a modelled cell is one of the cell
pub pins_to_cell : (cell : Cell) (full : List ℕ) (conns : List Conn) → is_modelled cell.kind ≡ true → (e : LinkFault)
    → IsPinFault cell full conns e → IsCellFault
    cell full conns e
pins_to_cell cell full conns modelled (fault.UnknownCell name) bad = (modelled, bad)
pins_to_cell cell full conns modelled (fault.UnsupportedCell name) bad = absurd bad
pins_to_cell cell full conns modelled (fault.UnknownPin name) bad = (modelled, bad)
pins_to_cell cell full conns modelled (fault.OpenInput name) bad = (modelled, bad)
pins_to_cell cell full conns modelled (fault.Undriven name) bad = (modelled, bad)
pins_to_cell cell full conns modelled (fault.ManyDrivers name) bad = (modelled, bad)
pins_to_cell cell full conns modelled (fault.Loop name) bad = (modelled, bad)
pins_to_cell cell full conns modelled (fault.NotTheClock name) bad = (modelled, bad)
pins_to_cell cell full conns modelled (fault.ClockAsData name) bad = (modelled, bad)
pins_to_cell cell full conns modelled (fault.Recursive name) bad = (modelled, bad)
pins_to_cell cell full conns modelled (fault.NameClash name) bad = (modelled, bad)
pins_to_cell cell full conns modelled (fault.NoTop number) bad = (modelled, bad)
pins_to_cell cell full conns modelled (fault.Limit kind number) bad = (modelled, bad)
pins_to_cell cell full conns modelled (fault.BadSetting name) bad = (modelled, bad)
pins_to_cell cell full conns modelled fault.Memory bad = tt

-- a primitive of few inputs has none
pub prim_fine : (inputs : ℕ) → inputs ≤ 6 → (e : LinkFault) → e ≢ fault.Memory → IsPrimFault inputs e → ⊥
prim_fine inputs few (fault.UnknownCell name) other bad = bad
prim_fine inputs few (fault.UnsupportedCell name) other bad = bad
prim_fine inputs few (fault.UnknownPin name) other bad = bad
prim_fine inputs few (fault.OpenInput name) other bad = bad
prim_fine inputs few (fault.Undriven name) other bad = bad
prim_fine inputs few (fault.ManyDrivers name) other bad = bad
prim_fine inputs few (fault.Loop name) other bad = bad
prim_fine inputs few (fault.NotTheClock name) other bad = bad
prim_fine inputs few (fault.ClockAsData name) other bad = bad
prim_fine inputs few (fault.Recursive name) other bad = bad
prim_fine inputs few (fault.NameClash name) other bad = bad
prim_fine inputs few (fault.NoTop number) other bad = bad
prim_fine inputs few (fault.Limit kind number) other bad = wide_not 6 inputs kind number few bad
prim_fine inputs few (fault.BadSetting name) other bad = bad
prim_fine inputs few fault.Memory other bad = other refl

-- nor has an assigned bit
pub copy_fine : (e : LinkFault) → e ≢ fault.Memory → IsCopyFault e → ⊥
copy_fine (fault.UnknownCell name) other bad = bad
copy_fine (fault.UnsupportedCell name) other bad = bad
copy_fine (fault.UnknownPin name) other bad = bad
copy_fine (fault.OpenInput name) other bad = bad
copy_fine (fault.Undriven name) other bad = bad
copy_fine (fault.ManyDrivers name) other bad = bad
copy_fine (fault.Loop name) other bad = bad
copy_fine (fault.NotTheClock name) other bad = bad
copy_fine (fault.ClockAsData name) other bad = bad
copy_fine (fault.Recursive name) other bad = bad
copy_fine (fault.NameClash name) other bad = bad
copy_fine (fault.NoTop number) other bad = bad
copy_fine (fault.Limit kind number) other bad = bad
copy_fine (fault.BadSetting name) other bad = bad
copy_fine fault.Memory other bad = other refl

-- the causes of refusals of one item in a flat netlist
module _ (s : Source) (lib : Library) (o : LinkOptions) (top : Module) (flat : Flat) (found : List Leaf) (circuit : Circuit) where
  module_cause : (m : Module) (full : List ℕ) (conns : List Conn) → IsOfModule s flat m full conns → (e : LinkFault) → IsModuleFault m full conns e
      → IsFlatCause s lib o top flat found circuit e
  module_cause m full conns of (fault.UnknownCell name) bad = absurd bad
  module_cause m full conns of (fault.UnsupportedCell name) bad = absurd bad
  module_cause m full conns of (fault.UnknownPin name) bad =
      let (c, has, none, is) = bad in subst (λ (n : List ℕ). IsUnknownPin s lib flat n) (sym is) (IsUnknownPin.Of_module m full conns c of has none)
  module_cause m full conns of (fault.OpenInput name) bad =
      let (p, bit, net, has, input, none, first, named, is) = bad in
      subst (λ (n : List ℕ). IsOpenInput s lib flat n) (sym is) (IsOpenInput.Port_open m full conns p bit net of has input none first named)
  module_cause m full conns of (fault.Undriven name) bad = absurd bad
  module_cause m full conns of (fault.ManyDrivers name) bad =
      let (p, bit, has, output, tied, is) = bad in
      subst (λ (n : List ℕ). HasManyDrivers s lib flat circuit n) (sym is) (HasManyDrivers.Port_tied m full conns p bit of has output tied)
  module_cause m full conns of (fault.Loop name) bad = absurd bad
  module_cause m full conns of (fault.NotTheClock name) bad = absurd bad
  module_cause m full conns of (fault.ClockAsData name) bad = absurd bad
  module_cause m full conns of (fault.Recursive name) bad = absurd bad
  module_cause m full conns of (fault.NameClash name) bad = absurd bad
  module_cause m full conns of (fault.NoTop number) bad = absurd bad
  module_cause m full conns of (fault.Limit kind number) bad = absurd bad
  module_cause m full conns of (fault.BadSetting name) bad = absurd bad
  module_cause m full conns of fault.Memory bad = tt

  wide_cause : (most : ℕ) → HasManyPins s lib flat circuit (most + 1) → (inputs : ℕ) (kind : LimitName) (number : ℕ) → IsWide most inputs kind number
      → IsAboveLimit o.wide s lib flat circuit kind number
  wide_cause most has inputs what.Nets number wide = absurd wide
  wide_cause most has inputs what.Registers number wide = absurd wide
  wide_cause most has inputs what.Inputs number wide = absurd wide
  wide_cause most has inputs what.Outputs number wide = absurd wide
  wide_cause most has inputs what.Instances number wide = absurd wide
  wide_cause most has inputs what.Pins number wide =
      subst (λ (n : ℕ). IsAboveLimit o.wide s lib flat circuit what.Pins n) (sym wide.1) (IsAboveLimit.Pins (most + 1) has)
  wide_cause most has inputs what.Through number wide = absurd wide
  wide_cause most has inputs what.Pairs number wide = absurd wide
  wide_cause most has inputs what.Judged number wide = absurd wide
  wide_cause most has inputs what.Hierarchy number wide = absurd wide

  many_pins : (cell : Cell) (full : List ℕ) (conns : List Conn) → IsOfModelled s lib flat cell full conns → (kind : LimitName) (number : ℕ)
      → IsWide (most_pins cell.kind) (length cell.inputs) kind number → IsAboveLimit o.wide s lib flat circuit kind number
  many_pins cell full conns of what.Nets number wide = absurd wide
  many_pins cell full conns of what.Registers number wide = absurd wide
  many_pins cell full conns of what.Inputs number wide = absurd wide
  many_pins cell full conns of what.Outputs number wide = absurd wide
  many_pins cell full conns of what.Instances number wide = absurd wide
  many_pins cell full conns of what.Pins number wide =
      wide_cause (most_pins cell.kind) (HasManyPins.Of_cell cell full conns of wide.0) (length cell.inputs) what.Pins number wide
  many_pins cell full conns of what.Through number wide = absurd wide
  many_pins cell full conns of what.Pairs number wide = absurd wide
  many_pins cell full conns of what.Judged number wide = absurd wide
  many_pins cell full conns of what.Hierarchy number wide = absurd wide

  pins_cause : (cell : Cell) (full : List ℕ) (conns : List Conn) → IsOfModelled s lib flat cell full conns → (e : LinkFault) → IsPinFault cell full conns e
      → IsFlatCause s lib o top flat found circuit e
  pins_cause cell full conns of (fault.UnknownCell name) bad = absurd bad
  pins_cause cell full conns of (fault.UnsupportedCell name) bad = absurd bad
  pins_cause cell full conns of (fault.UnknownPin name) bad =
      let (c, has, none, is) = bad in subst (λ (n : List ℕ). IsUnknownPin s lib flat n) (sym is) (IsUnknownPin.Of_cell cell full conns c of has none)
  pins_cause cell full conns of (fault.OpenInput name) bad =
      let (pin, has, none, is) = bad in subst (λ (n : List ℕ). IsOpenInput s lib flat n) (sym is) (IsOpenInput.Pin_open cell full pin conns of has none)
  pins_cause cell full conns of (fault.Undriven name) bad = absurd bad
  pins_cause cell full conns of (fault.ManyDrivers name) bad =
      let (pin, bit, has, tied, is) = bad in
      subst (λ (n : List ℕ). HasManyDrivers s lib flat circuit n) (sym is) (HasManyDrivers.Pin_tied cell full pin conns bit of has tied)
  pins_cause cell full conns of (fault.Loop name) bad = absurd bad
  pins_cause cell full conns of (fault.NotTheClock name) bad = absurd bad
  pins_cause cell full conns of (fault.ClockAsData name) bad = absurd bad
  pins_cause cell full conns of (fault.Recursive name) bad = absurd bad
  pins_cause cell full conns of (fault.NameClash name) bad = absurd bad
  pins_cause cell full conns of (fault.NoTop number) bad = absurd bad
  pins_cause cell full conns of (fault.Limit kind number) bad = many_pins cell full conns of kind number bad
  pins_cause cell full conns of (fault.BadSetting name) bad = absurd bad
  pins_cause cell full conns of fault.Memory bad = tt

  cell_cause : (cell : Cell) (full : List ℕ) (conns : List Conn) → IsOfCell s lib flat cell full conns → (e : LinkFault) → IsCellFault cell full conns e
      → IsFlatCause s lib o top flat found circuit e
  cell_cause cell full conns of (fault.UnknownCell name) bad = pins_cause cell full conns (of, bad.0) (fault.UnknownCell name) bad.1
  cell_cause cell full conns of (fault.UnsupportedCell name) bad = (full, conns, cell, of, sym bad.0, bad.1)
  cell_cause cell full conns of (fault.UnknownPin name) bad = pins_cause cell full conns (of, bad.0) (fault.UnknownPin name) bad.1
  cell_cause cell full conns of (fault.OpenInput name) bad = pins_cause cell full conns (of, bad.0) (fault.OpenInput name) bad.1
  cell_cause cell full conns of (fault.Undriven name) bad = pins_cause cell full conns (of, bad.0) (fault.Undriven name) bad.1
  cell_cause cell full conns of (fault.ManyDrivers name) bad = pins_cause cell full conns (of, bad.0) (fault.ManyDrivers name) bad.1
  cell_cause cell full conns of (fault.Loop name) bad = pins_cause cell full conns (of, bad.0) (fault.Loop name) bad.1
  cell_cause cell full conns of (fault.NotTheClock name) bad = pins_cause cell full conns (of, bad.0) (fault.NotTheClock name) bad.1
  cell_cause cell full conns of (fault.ClockAsData name) bad = pins_cause cell full conns (of, bad.0) (fault.ClockAsData name) bad.1
  cell_cause cell full conns of (fault.Recursive name) bad = pins_cause cell full conns (of, bad.0) (fault.Recursive name) bad.1
  cell_cause cell full conns of (fault.NameClash name) bad = pins_cause cell full conns (of, bad.0) (fault.NameClash name) bad.1
  cell_cause cell full conns of (fault.NoTop number) bad = pins_cause cell full conns (of, bad.0) (fault.NoTop number) bad.1
  cell_cause cell full conns of (fault.Limit kind number) bad = pins_cause cell full conns (of, bad.0) (fault.Limit kind number) bad.1
  cell_cause cell full conns of (fault.BadSetting name) bad = pins_cause cell full conns (of, bad.0) (fault.BadSetting name) bad.1
  cell_cause cell full conns of fault.Memory bad = tt

  unknown_cause : (cell full : List ℕ) (conns : List Conn) → IsInstance flat cell full conns → module_of s cell ≡ None → cell_of lib cell ≡ None
      → (e : LinkFault) → IsUnknownFault cell e → IsFlatCause s lib o top flat found circuit e
  unknown_cause cell full conns at no_module no_cell (fault.UnknownCell name) bad =
      let again = λ (n : List ℕ). let r : Type 0 = (full : List ℕ) × (conns : List Conn) × IsInstance flat n full conns × (module_of s n ≡ None) × (cell_of
      lib n ≡ None) in r in
      subst again (sym bad) (full, conns, at, no_module, no_cell)
  unknown_cause cell full conns at no_module no_cell (fault.UnsupportedCell name) bad = absurd bad
  unknown_cause cell full conns at no_module no_cell (fault.UnknownPin name) bad = absurd bad
  unknown_cause cell full conns at no_module no_cell (fault.OpenInput name) bad = absurd bad
  unknown_cause cell full conns at no_module no_cell (fault.Undriven name) bad = absurd bad
  unknown_cause cell full conns at no_module no_cell (fault.ManyDrivers name) bad = absurd bad
  unknown_cause cell full conns at no_module no_cell (fault.Loop name) bad = absurd bad
  unknown_cause cell full conns at no_module no_cell (fault.NotTheClock name) bad = absurd bad
  unknown_cause cell full conns at no_module no_cell (fault.ClockAsData name) bad = absurd bad
  unknown_cause cell full conns at no_module no_cell (fault.Recursive name) bad = absurd bad
  unknown_cause cell full conns at no_module no_cell (fault.NameClash name) bad = absurd bad
  unknown_cause cell full conns at no_module no_cell (fault.NoTop number) bad = absurd bad
  unknown_cause cell full conns at no_module no_cell (fault.Limit kind number) bad = absurd bad
  unknown_cause cell full conns at no_module no_cell (fault.BadSetting name) bad = absurd bad
  unknown_cause cell full conns at no_module no_cell fault.Memory bad = tt

  inst_cause : (cell full : List ℕ) (conns : List Conn) → IsInstance flat cell full conns → (m : Option Module) (c : Option Cell) → module_of s cell ≡ m
      → cell_of lib cell ≡ c → (e : LinkFault) → IsInstFault m c cell full conns e → IsFlatCause s lib o top flat found circuit e
  inst_cause cell full conns at (Some m) c m_is c_is e bad = module_cause m full conns (cell, at, m_is) e bad
  inst_cause cell full conns at None (Some c) m_is c_is e bad = cell_cause c full conns (cell, at, m_is, c_is) e bad
  inst_cause cell full conns at None None m_is c_is e bad = unknown_cause cell full conns at m_is c_is e bad

  prim_limit : (scope : Scope) (k : PrimKind) (own : Option (List ℕ)) (outs : List ℕ) (ins : List Wire) (first : ℕ)
      → Contains flat.items (record { scope = scope; item = item.Prim k own outs ins; first = first }) → (kind : LimitName) (number : ℕ)
      → IsWide 6 (length ins) kind number → IsAboveLimit o.wide s lib flat circuit kind number
  prim_limit scope k own outs ins first has what.Nets number wide = absurd wide
  prim_limit scope k own outs ins first has what.Registers number wide = absurd wide
  prim_limit scope k own outs ins first has what.Inputs number wide = absurd wide
  prim_limit scope k own outs ins first has what.Outputs number wide = absurd wide
  prim_limit scope k own outs ins first has what.Instances number wide = absurd wide
  prim_limit scope k own outs ins first has what.Pins number wide =
      wide_cause 6 (HasManyPins.Of_prim (record { scope = scope; item = item.Prim k own outs ins; first = first }) has wide.0) (length ins) what.Pins number
      wide
  prim_limit scope k own outs ins first has what.Through number wide = absurd wide
  prim_limit scope k own outs ins first has what.Pairs number wide = absurd wide
  prim_limit scope k own outs ins first has what.Judged number wide = absurd wide
  prim_limit scope k own outs ins first has what.Hierarchy number wide = absurd wide

  prim_cause : (scope : Scope) (k : PrimKind) (own : Option (List ℕ)) (outs : List ℕ) (ins : List Wire) (first : ℕ)
      → Contains flat.items (record { scope = scope; item = item.Prim k own outs ins; first = first }) → (e : LinkFault) → IsPrimFault (length ins) e
      → IsFlatCause s lib o top flat found circuit e
  prim_cause scope k own outs ins first has (fault.UnknownCell name) bad = absurd bad
  prim_cause scope k own outs ins first has (fault.UnsupportedCell name) bad = absurd bad
  prim_cause scope k own outs ins first has (fault.UnknownPin name) bad = absurd bad
  prim_cause scope k own outs ins first has (fault.OpenInput name) bad = absurd bad
  prim_cause scope k own outs ins first has (fault.Undriven name) bad = absurd bad
  prim_cause scope k own outs ins first has (fault.ManyDrivers name) bad = absurd bad
  prim_cause scope k own outs ins first has (fault.Loop name) bad = absurd bad
  prim_cause scope k own outs ins first has (fault.NotTheClock name) bad = absurd bad
  prim_cause scope k own outs ins first has (fault.ClockAsData name) bad = absurd bad
  prim_cause scope k own outs ins first has (fault.Recursive name) bad = absurd bad
  prim_cause scope k own outs ins first has (fault.NameClash name) bad = absurd bad
  prim_cause scope k own outs ins first has (fault.NoTop number) bad = absurd bad
  prim_cause scope k own outs ins first has (fault.Limit kind number) bad = prim_limit scope k own outs ins first has kind number bad
  prim_cause scope k own outs ins first has (fault.BadSetting name) bad = absurd bad
  prim_cause scope k own outs ins first has fault.Memory bad = tt

  copy_cause : (e : LinkFault) → IsCopyFault e → IsFlatCause s lib o top flat found circuit e
  copy_cause (fault.UnknownCell name) bad = absurd bad
  copy_cause (fault.UnsupportedCell name) bad = absurd bad
  copy_cause (fault.UnknownPin name) bad = absurd bad
  copy_cause (fault.OpenInput name) bad = absurd bad
  copy_cause (fault.Undriven name) bad = absurd bad
  copy_cause (fault.ManyDrivers name) bad = absurd bad
  copy_cause (fault.Loop name) bad = absurd bad
  copy_cause (fault.NotTheClock name) bad = absurd bad
  copy_cause (fault.ClockAsData name) bad = absurd bad
  copy_cause (fault.Recursive name) bad = absurd bad
  copy_cause (fault.NameClash name) bad = absurd bad
  copy_cause (fault.NoTop number) bad = absurd bad
  copy_cause (fault.Limit kind number) bad = absurd bad
  copy_cause (fault.BadSetting name) bad = absurd bad
  copy_cause fault.Memory bad = tt

  item_cause : (scope : Scope) (i : Item) (first : ℕ) → Contains flat.items (record { scope = scope; item = i; first = first }) → (e : LinkFault)
      → IsItemFault s lib scope i e → IsFlatCause s lib o top flat found circuit e
  item_cause scope (item.Inst cell name conns) first has e bad =
      inst_cause cell (scope.prefix ++ name) conns (record {
        at = record { scope = scope; item = item.Inst cell name conns; first = first };
        name = name;
        stands = has;
        item_is = refl;
        full_is = refl;
      }) (module_of s cell) (cell_of lib cell) refl refl e bad
  item_cause scope (item.Prim k name outs ins) first has e bad = prim_cause scope k name outs ins first has e bad
  item_cause scope (item.Copy to from) first has e bad = copy_cause e bad

-- a refusal of an item has its cause in each flat netlist that has the item
pub cause_within : (s : Source) (lib : Library) (scope : Scope) (i : Item) (e : LinkFault) → IsItemFault s lib scope i e → IsCauseWithin s lib scope i e
cause_within s lib scope i e bad = λ flat o top found c first has. item_cause s lib o top flat found c scope i first has e bad
