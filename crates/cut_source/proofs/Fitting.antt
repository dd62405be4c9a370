-- The pins of what is cut out of a module are nets of it.
use Rattle.std.proofs.Common.{◌≡◌, ℕ, zero, suc, ◌<◌, Bool, true, false, List, [], ◌∷◌, length, All, None, Some, refl, ap, sym, ◌∙◌, arith, subst}
use Rattle.std.specs.Prelude.{slice_get, flat_map, zip, Contains, Option, slice_index_or, if◌then◌else◌}
use Rattle.std.specs.Option.{option_map}
use Rattle.texts.specs.Names.{is_among}
use Rattle.std.proofs.lemmas.List.Elements.{All-append, All-contains}
use Rattle.netlist_types.specs.declared.sources.Source.{Source}
use Rattle.netlist_types.specs.declared.sources.Module.{Module}
use Rattle.netlist_types.specs.declared.sources.Port.{Port}
use Rattle.netlist_types.specs.declared.sources.Conn.{Conn}
use Rattle.netlist_types.specs.declared.sources.Wire.{Wire}
use Rattle.netlist_types.specs.declared.sources.Wire.TheVariants as wire
use Rattle.netlist_types.specs.declared.sources.Item.{Item}
use Rattle.netlist_types.specs.declared.sources.Item.TheVariants as item
use Rattle.netlist_types.specs.Lawful.{module_of, IsLawful, IsLawfulItem, IsLawfulModule, IsWireBelow, AreWiresBelow}
use Rattle.cell_types.specs.declared.libraries.Cell.{Cell}
use Rattle.link_defs.specs.declared.cuts.CutItem.{CutItem}
use Rattle.link_defs.specs.declared.cuts.CutPin.{CutPin}
use Rattle.link_defs.specs.declared.cuts.Way.{Way}
use Rattle.link_defs.specs.Cuts.{IsFitItem}
use Rattle.link_defs.specs.Hierarchy.{wires_in, wires_of, cell_of}
use Rattle.link_items.proofs.Listing.{all_at, all_by, contains_at}
use Rattle.link_items.proofs.Pinned.{wires_below}
use Rattle.link_items.proofs.Searching.{place_of_item}
use Rattle.cut_source.specs.Cuttable.{Plan, is_cut_reference, module_left}
use Rattle.cut_source.specs.Items.{cut_by, instance_cut, item_cut, items_cut}
use Rattle.cut_source.specs.Pins.{wire_pins, pins_by, conn_pins, cell_pins, way_of, bit_pins, port_pins, port_way, stub_pins}
use Rattle.cut_source.specs.Sources.{named_modules}
use Rattle.cut_source.proofs.Lawfully.{left_source, mapped_at}
use Rattle.cut_source.proofs.Naming.{own_name}
use Rattle.cut_source.proofs.Widening.{passed}

-- the pin is connected to one of so many nets
abbrev pub IsOn : ℕ → CutPin → Type 0
IsOn count p = p.net < count

all_empty : {X : Type 0} (P : X → Type 0) → All P []
all_empty P = λ k d lt. absurd (omega arith)

at_one : {X : Type 0} (P : X → Type 0) (x : X) → P x → (k : ℕ) (y : X) → slice_get (x ∷ []) k ≡ Some y → P y
at_one P x here zero y at = let same : x ≡ y = cc in subst P same here
at_one P x here (suc k) y at = cc

all_one : {X : Type 0} (P : X → Type 0) (x : X) → P x → All P (x ∷ [])
all_one P x here = all_by P (x ∷ []) (λ k y at. at_one P x here k y at)

all_flat : {X Y : Type 0} (P : Y → Type 0) (f : X → List Y) (xs : List X) → ((k : ℕ) (x : X) → slice_get xs k ≡ Some x → All P (f x)) → All P (flat_map f xs)
all_flat P f [] each = all_empty P
all_flat P f (x ∷ xs) each =
    All-append P (f x) (flat_map f xs) (each 0 x refl) (all_flat P f xs (λ k y at. each (suc k) y at))

wire_on : (count : ℕ) (name : List ℕ) (w : Way) (x : Wire) → IsWireBelow count x → All (IsOn count) (wire_pins name w x)
wire_on count name w (wire.Const bit) below = all_empty (IsOn count)
wire_on count name w (wire.Net n) below = all_one (IsOn count) (record { name = name; way = w; net = n }) below

wires_on : (count : ℕ) (name : List ℕ) (w : Way) (xs : List Wire) → All (IsWireBelow count) xs → All (IsOn count) (flat_map (wire_pins name w) xs)
wires_on count name w xs below =
    all_flat (IsOn count) (wire_pins name w) xs (λ k x at. wire_on count name w x (all_at (IsWireBelow count) xs below k x at))

conn_below : (count : ℕ) (ws : Option (List Wire)) (c : Conn) → c.wires ≡ ws → AreWiresBelow count ws → All (IsWireBelow count) (wires_in (Some c))
conn_below count None c is below = rw is (all_empty (IsWireBelow count))
conn_below count (Some wires) c is below = rw is below

by_on : (count : ℕ) (w : Option Way) (c : Conn) → AreWiresBelow count c.wires → All (IsOn count) (pins_by w c)
by_on count None c below = all_empty (IsOn count)
by_on count (Some w) c below = wires_on count c.pin w (wires_in (Some c)) (conn_below count c.wires c refl below)

cell_on : (count : ℕ) (cell : Option Cell) (conns : List Conn) → All (λ (c : Conn). AreWiresBelow count c.wires) conns
    → All (IsOn count) (cell_pins cell conns)
cell_on count cell conns below =
    all_flat (IsOn count) (conn_pins cell) conns (λ k c at.
    by_on count (way_of cell c.pin) c (all_at (λ (c : Conn). AreWiresBelow count c.wires) conns below k c at))

zip_wire : (bits : List ℕ) (xs : List Wire) (k : ℕ) (x : ℕ × Wire) → slice_get (zip bits xs) k ≡ Some x → slice_get xs k ≡ Some x.1
zip_wire [] xs k x at = cc
zip_wire (b ∷ bits) [] k x at = cc
zip_wire (b ∷ bits) (w ∷ ws) zero x at = ap (λ (y : Option (ℕ × Wire)). option_map (λ (z : ℕ × Wire). z.1) y) at
zip_wire (b ∷ bits) (w ∷ ws) (suc k) x at = zip_wire bits ws k x at

port_on : (count : ℕ) (m : Module) (conns : List Conn) (p : Port) → All (λ (c : Conn). AreWiresBelow count c.wires) conns
    → All (IsOn count) (port_pins m conns p)
port_on count m conns p below =
    let xs = wires_of conns p.name in
    all_flat (IsOn count) (bit_pins m (port_way p.dir)) (zip p.bits xs) (λ k x at.
    wire_on count (slice_index_or m.nets x.0 []) (port_way p.dir) x.1
    (all_at (IsWireBelow count) xs (wires_below count conns p.name below) k x.1 (zip_wire p.bits xs k x at)))

stub_on : (count : ℕ) (m : Module) (conns : List Conn) → All (λ (c : Conn). AreWiresBelow count c.wires) conns → All (IsOn count) (stub_pins m conns)
stub_on count m conns below = all_flat (IsOn count) (port_pins m conns) m.ports (λ k p at. port_on count m conns p below)

-- what is cut out of a module is of it, and on its nets
pub record IsOf (m : Module) (x : CutItem) : Type 0 where
  pub name : x.module ≡ m.name
  pub nets : All (IsOn (length m.nets)) x.pins

cut_of : (m : Module) (stub : Option Module) (cell : Option Cell) (reference name : List ℕ) (conns : List Conn)
    → All (λ (c : Conn). AreWiresBelow (length m.nets) c.wires) conns → IsOf m (cut_by m stub cell reference name conns)
cut_of m None cell reference name conns below = record { name = refl; nets = cell_on (length m.nets) cell conns below }
cut_of m (Some stub) cell reference name conns below = record { name = refl; nets = stub_on (length m.nets) stub conns below }

inst_of : (p : Plan) (m : Module) (cell name : List ℕ) (conns : List Conn) (b : Bool) → All (λ (c : Conn). AreWiresBelow (length m.nets) c.wires) conns
    → All (IsOf m) (if b then (instance_cut p m cell name conns ∷ []) else [])
inst_of p m cell name conns true below =
    all_one (IsOf m) (instance_cut p m cell name conns) (cut_of m (module_of p.source cell) (cell_of p.library cell) cell name conns below)
inst_of p m cell name conns false below = all_empty (IsOf m)

item_of : (p : Plan) (s : Source) (m : Module) (i : Item) → IsLawfulItem s (length m.nets) i → All (IsOf m) (item_cut p m i)
item_of p s m (item.Inst cell name conns) l = inst_of p m cell name conns (is_cut_reference p cell) l.1.0
item_of p s m (item.Prim k name outs ins) l = all_empty (IsOf m)
item_of p s m (item.Copy to from) l = all_empty (IsOf m)

module_items : (p : Plan) (m : Module) → IsLawfulModule p.source m → All (IsOf m) (items_cut p m)
module_items p m l =
    all_flat (IsOf m) (item_cut p m) m.items (λ k i at. item_of p p.source m i (all_at (IsLawfulItem p.source (length m.nets)) m.items l.items k i at))

-- one module has a name
one_named : (p : Plan) (names : List (List ℕ)) → IsLawful p.source → (m : Module) → Contains p.source.modules m → (y : Module)
    → Contains (left_source p names).modules y → y.name ≡ m.name → m.nets ≡ y.nets
one_named p names lawful m has y there same =
    let (k, at) = place_of_item (left_source p names).modules y there in
    let (x, stood, left) = mapped_at (module_left p) (named_modules p.source names) k y at in
    let old = passed (λ (m : Module). is_among m.name names) p.source.modules x (contains_at (named_modules p.source names) k x stood) in
    let named : x.name ≡ m.name = ap (λ (z : Module). z.name) left ∙ same in
    let e = own_name p.source m lawful has in
    let f = own_name p.source x lawful old.there in
    let g : Some x ≡ Some m = sym f ∙ ap (λ n. module_of p.source n) named ∙ e in
    let h : x ≡ m = cc in
    ap (λ (z : Module). z.nets) (sym h) ∙ ap (λ (z : Module). z.nets) left

-- what is cut out can be placed in what is left
pub left_fit : (p : Plan) (names : List (List ℕ)) → IsLawful p.source
    → All (IsFitItem (left_source p names)) (flat_map (items_cut p) (named_modules p.source names))
left_fit p names lawful =
    all_flat (IsFitItem (left_source p names)) (items_cut p) (named_modules p.source names) (λ k m at.
    let old = passed (λ (m : Module). is_among m.name names) p.source.modules m (contains_at (named_modules p.source names) k m at) in
    let l = All-contains (IsLawfulModule p.source) p.source.modules m lawful.modules old.there in
    all_by (IsFitItem (left_source p names)) (items_cut p m) (λ j x there.
    let o = all_at (IsOf m) (items_cut p m) (module_items p m l) j x there in
    λ y has same. subst (λ (nets : List (List ℕ)). All (IsOn (length nets)) x.pins) (one_named p names lawful m old.there y has (same ∙ o.name)) o.nets))
