-- What a lawful source and a lawful library say has one proof at most, so that a netlist can carry it.
use Rattle.std.proofs.Common.{ℕ, List, Option, None, Some}
use Rattle.std.proofs.Props.{props}
use Rattle.net_model.specs.Form.{Form, ZeroForm, OneForm, PinForm, NotForm, AndForm, OrForm, XorForm, IsOver}
use Rattle.net_model.specs.Netlist.{IsOptionOver}
use Rattle.netlist_types.specs.declared.gates.PrimKind.{PrimKind}
use Rattle.netlist_types.specs.declared.gates.PrimKind.TheVariants as prim
use Rattle.netlist_types.specs.declared.sources.Source.{Source}
use Rattle.netlist_types.specs.declared.sources.Module.{Module}
use Rattle.netlist_types.specs.declared.sources.Conn.{Conn}
use Rattle.netlist_types.specs.declared.sources.Item.{Item}
use Rattle.netlist_types.specs.declared.sources.Item.TheVariants as item
use Rattle.netlist_types.specs.declared.sources.Wire.{Wire}
use Rattle.netlist_types.specs.declared.sources.Wire.TheVariants as wire
use Rattle.netlist_types.specs.Lawful.{IsWireBelow, HasTerminals, HasWidths, AreWiresBelow, IsLawfulItem}
use Rattle.cell_types.specs.declared.libraries.CellKind.{CellKind}
use Rattle.cell_types.specs.declared.libraries.CellKind.TheVariants as kind
use Rattle.cell_types.specs.Libraries.{IsLawfulKind}

wire_below : (count : ℕ) (w : Wire) → IsProp (IsWireBelow count w)
wire_below count (wire.Const b) = hlevel props
wire_below count (wire.Net n) = hlevel props

wires_below : (count : ℕ) (wires : Option (List Wire)) → IsProp (AreWiresBelow count wires)
wires_below count None = hlevel props
wires_below count (Some wires) = hlevel (props, wire_below)

terminals : (k : PrimKind) (outs ins : ℕ) → IsProp (HasTerminals k outs ins)
terminals prim.And outs ins = hlevel props
terminals prim.Nand outs ins = hlevel props
terminals prim.Or outs ins = hlevel props
terminals prim.Nor outs ins = hlevel props
terminals prim.Xor outs ins = hlevel props
terminals prim.Xnor outs ins = hlevel props
terminals prim.Buf outs ins = hlevel props
terminals prim.Not outs ins = hlevel props

widths : (m : Option Module) (conns : List Conn) → IsProp (HasWidths m conns)
widths None conns = hlevel props
widths (Some m) conns = hlevel props

pub lawful_item : (s : Source) (count : ℕ) (i : Item) → IsProp (IsLawfulItem s count i)
lawful_item s count (item.Inst cell name conns) = hlevel (props, wires_below, widths)
lawful_item s count (item.Prim k name outs ins) = hlevel (props, terminals, wire_below)
lawful_item s count (item.Copy to from) = hlevel (props, wire_below)

over : (n : ℕ) (f : Form) → IsProp (IsOver n f)
over n ZeroForm = hlevel props
over n OneForm = hlevel props
over n (PinForm i) = hlevel props
over n (NotForm f) = over n f
over n (AndForm f g) = hlevel (props, over n f, over n g)
over n (OrForm f g) = hlevel (props, over n f, over n g)
over n (XorForm f g) = hlevel (props, over n f, over n g)

option_over : (n : ℕ) (f : Option Form) → IsProp (IsOptionOver n f)
option_over n None = hlevel props
option_over n (Some f) = over n f

pub lawful_kind : (inputs : List (List ℕ)) (k : CellKind) → IsProp (IsLawfulKind inputs k)
lawful_kind inputs (kind.Comb outs) = hlevel (props, over)
lawful_kind inputs (kind.Flop flop) = hlevel (props, over, option_over)
lawful_kind inputs (kind.Gate gate) = hlevel props
lawful_kind inputs (kind.Other o) = hlevel props

pub ruleset lawful_props = (props, lawful_item, lawful_kind)
