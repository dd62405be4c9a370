-- Sources that can be linked.
use Rattle.std.specs.Prelude.{◌≡◌, ℕ, ◌<◌, ◌≤◌, nat_eq, List, length, map, flat_map, All, Contains, Option, Some, None}
use Rattle.std.specs.List.{IsDistinct, find}
use Rattle.std.specs.Str.{bytes_eq}
use Rattle.netlist_types.specs.declared.gates.PrimKind.{PrimKind}
use Rattle.netlist_types.specs.declared.gates.PrimKind.TheVariants as prim
use Rattle.netlist_types.specs.declared.sources.Source.{Source}
use Rattle.netlist_types.specs.declared.sources.Module.{Module}
use Rattle.netlist_types.specs.declared.sources.Port.{Port}
use Rattle.netlist_types.specs.declared.sources.Item.{Item}
use Rattle.netlist_types.specs.declared.sources.Item.TheVariants as item
use Rattle.netlist_types.specs.declared.sources.Conn.{Conn}
use Rattle.netlist_types.specs.declared.sources.Wire.{Wire}
use Rattle.netlist_types.specs.declared.sources.Wire.TheVariants as wire

-- the module of that name
unfoldable pub module_of : Source → List ℕ → Option Module
module_of s name = find (λ (m : Module). bytes_eq m.name name) s.modules

-- a net's number, where there are so many nets
abbrev pub IsBelow : ℕ → ℕ → Type 0
IsBelow count n = n < count

-- a wire is a constant or one of so many nets
abbrev pub IsWireBelow : ℕ → Wire → Type 0
IsWireBelow count (wire.Const b) = Unit {0}
IsWireBelow count (wire.Net n) = n < count

-- a `buf` or `not` has one input, any other primitive one output; and none is without the other side
abbrev pub HasTerminals : PrimKind → ℕ → ℕ → Type 0
HasTerminals prim.Buf outs ins = (1 ≤ outs) × (ins ≡ 1)
HasTerminals prim.Not outs ins = (1 ≤ outs) × (ins ≡ 1)
HasTerminals k outs ins = (outs ≡ 1) × (1 ≤ ins)

-- a connection that isn't open has the width of its port, and one wire where the instance is of no module
abbrev pub HasWidths : Option Module → List Conn → Type 0
HasWidths None conns = All (λ (c : Conn). (wires : List Wire) → c.wires ≡ Some wires → length wires ≡ 1) conns
HasWidths (Some m) conns =
    All (λ (c : Conn). (wires : List Wire) (p : Port) → c.wires ≡ Some wires → Contains m.ports p → p.name ≡ c.pin → length wires ≡ length p.bits) conns

abbrev pub AreWiresBelow : ℕ → Option (List Wire) → Type 0
AreWiresBelow count None = Unit {0}
AreWiresBelow count (Some wires) = All (IsWireBelow count) wires

abbrev pub IsLawfulItem : Source → ℕ → Item → Type 0
IsLawfulItem s count (item.Inst cell name conns) =
    IsDistinct bytes_eq (map (λ (c : Conn). c.pin) conns) × (All (λ (c : Conn). AreWiresBelow count c.wires) conns × HasWidths (module_of s cell) conns)
IsLawfulItem s count (item.Prim k name outs ins) = HasTerminals k (length outs) (length ins) × (All (IsBelow count) outs × All (IsWireBelow count) ins)
IsLawfulItem s count (item.Copy to from) = (to < count) × IsWireBelow count from

-- the numbers of a module are numbers of its nets, its ports have different names, and no net is a bit of two of them
pub record IsLawfulModule (s : Source) (m : Module) : Type 0 where
  pub port_names : IsDistinct bytes_eq (map (λ (p : Port). p.name) m.ports)
  pub port_bits : All (IsBelow (length m.nets)) (flat_map (λ (p : Port). p.bits) m.ports)
  pub one_port : IsDistinct nat_eq (flat_map (λ (p : Port). p.bits) m.ports)
  pub items : All (IsLawfulItem s (length m.nets)) m.items

pub record IsLawful (s : Source) : Type 0 where
  pub names : IsDistinct bytes_eq (map (λ (m : Module). m.name) s.modules)
  pub modules : All (IsLawfulModule s) s.modules
