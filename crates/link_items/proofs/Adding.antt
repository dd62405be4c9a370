-- What each kind of item adds is what an item adds.
use Rattle.std.proofs.Common.{◌≡◌, ℕ, ◌+◌, ◌-◌, ◌<◌, ◌≤◌, true, false, List, [], ◌∷◌, ◌++◌, length, All, Some, None, refl, ap, sym, subst, ◌∙◌}
use Rattle.std.proofs.Common.{arith, append_assoc, length-append}
use Rattle.std.specs.Prelude.{Option, slice_get, flat_map, Contains}
use Rattle.std.specs.List.{IsDistinct}
use Rattle.std.specs.Str.{bytes_eq}
use Rattle.std.proofs.lemmas.Option.{slice_get_within, get_or_from_slice_get}
use Rattle.netlist_types.specs.declared.sources.Source.{Source}
use Rattle.netlist_types.specs.declared.sources.Module.{Module}
use Rattle.netlist_types.specs.declared.sources.Port.{Port}
use Rattle.netlist_types.specs.declared.sources.Item.{Item}
use Rattle.netlist_types.specs.declared.sources.Item.TheVariants as item
use Rattle.netlist_types.specs.declared.sources.Conn.{Conn}
use Rattle.netlist_types.specs.declared.sources.Wire.{Wire}
use Rattle.netlist_types.specs.declared.gates.PrimKind.{PrimKind}
use Rattle.netlist_types.specs.Lawful.{module_of, IsLawfulItem, AreWiresBelow, HasWidths}
use Rattle.cell_types.specs.declared.libraries.Library.{Library}
use Rattle.cell_types.specs.declared.libraries.Cell.{Cell}
use Rattle.cell_types.specs.declared.libraries.CellKind.{CellKind}
use Rattle.cell_types.specs.declared.libraries.CellKind.TheVariants as kind
use Rattle.link_defs.specs.declared.circuits.Part.{Part}
use Rattle.linked_types.specs.declared.faults.LinkFault.{LinkFault}
use Rattle.link_defs.specs.Hierarchy.{cell_of, is_modelled, wires_of, place_of_module}
use Rattle.link_defs.specs.Flatten.{Scope, inst_nets, inner_scope, inner_nets, instance_of, with_slash, other_pins}
use Rattle.link_defs.specs.Parts.{inst_parts, bit_ties, cell_ties, cell_part, ties, wire_nets}
use Rattle.link_defs.specs.CellNames.{Leaf, last_part, leaf_if_any, leaves_of}
use Rattle.link_items.specs.declared.netlists.Referent.TheVariants as to
use Rattle.link_items.specs.declared.made.Instance.{Instance}
use Rattle.link_items.specs.declared.made.Made.{Made}
use Rattle.link_items.specs.declared.prims.Terminals.{Terminals}
use Rattle.link_items.specs.Cells.{comb_part, flop_part, gate_part}
use Rattle.link_items.specs.Faults.{IsModuleFault, IsCellFault, IsUnknownFault, IsInstFault, IsItemFault, IsFaultless}
use Rattle.link_items.specs.Fine.{IsFineModule, IsFineCell}
use Rattle.link_items.specs.Items.{module_at, scope_of, AreLeavesAt, IsAdded, IsInner}
use Rattle.link_items.specs.Pins.{pin_names}
use Rattle.link_items.specs.Prims.{prim_part}
use Rattle.link_items.specs.Steps.{IsModuleAdded, IsCellAdded, HasLeaf, prim_leaf, IsPrimAdded, IsCopyAdded}
use Rattle.link_items.specs.Tables.{IsReferent}
use Rattle.link_items.proofs.Faulted.{module_fine, cell_fine}
use Rattle.link_items.proofs.Listing.{last_at, with_none, contains_at}
use Rattle.link_items.proofs.Pinned.{port_widths}

-- the last part of a list that ends with it
last_is : (ps : List Part) (p : Part) → last_part (ps ++ p ∷ []) ≡ Some p
last_is [] p = refl
last_is (x ∷ []) p = refl
last_is (x ∷ y ∷ ys) p = last_is (y ∷ ys) p

-- the part that stands last
stands_last : (all old front : List Part) (p : Part) → all ≡ old ++ (front ++ p ∷ []) → slice_get all (length all - 1) ≡ Some p
stands_last all old front p is =
    let whole : all ≡ (old ++ front) ++ p ∷ [] = is ∙ sym (append_assoc old front (p ∷ [])) in
    let place : length all - 1 ≡ length (old ++ front) = omega (arith, ap length whole, length-append (old ++ front) (p ∷ [])) in
    ap (λ k. slice_get all k) place ∙ ap (λ ps. slice_get ps (length (old ++ front))) whole ∙ last_at (old ++ front) p

inst_nets_module : (s : Source) (lib : Library) (cell : List ℕ) (m : Module) → module_of s cell ≡ Some m → inst_nets s lib cell ≡ length m.nets
unfolding inst_nets
inst_nets_module s lib cell m is =
    ap (λ (o : Option Module). let r : ℕ = elim o [
      | Some m ↦ length m.nets
      | None ↦ elim (cell_of lib cell) [ Some c ↦ length c.inputs + other_pins c | None ↦ 0 ]
    ] in r) is

inst_nets_cell : (s : Source) (lib : Library) (cell : List ℕ) (c : Cell) → module_of s cell ≡ None → cell_of lib cell ≡ Some c
    → inst_nets s lib cell ≡ length c.inputs + other_pins c
unfolding inst_nets
inst_nets_cell s lib cell c none is =
    ap (λ (o : Option Module). let r : ℕ = elim o [
      | Some m ↦ length m.nets
      | None ↦ elim (cell_of lib cell) [ Some c ↦ length c.inputs + other_pins c | None ↦ 0 ]
    ] in r) none ∙ ap (λ (o : Option Cell). let r : ℕ = elim o [ Some c ↦ length c.inputs + other_pins c | None ↦ 0 ] in r) is

parts_module : (s : Source) (lib : Library) (nets : List ℕ) (conns : List Conn) (first : ℕ) (cell : List ℕ) (m : Module) → module_of s cell ≡ Some m
    → inst_parts s lib nets conns first cell ≡ flat_map (λ (p : Port). bit_ties first p.bits (wires_of conns p.name)) m.ports
unfolding inst_parts
parts_module s lib nets conns first cell m is =
    ap (λ (o : Option Module). let r : List Part = elim o [
      | Some m ↦ flat_map (λ (p : Port). bit_ties first p.bits (wires_of conns p.name)) m.ports
      | None ↦ elim (cell_of lib cell) [ None ↦ [] | Some c ↦ cell_ties conns first c ++ cell_part nets conns first c ]
    ] in r) is

parts_cell : (s : Source) (lib : Library) (nets : List ℕ) (conns : List Conn) (first : ℕ) (cell : List ℕ) (c : Cell) → module_of s cell ≡ None
    → cell_of lib cell ≡ Some c → inst_parts s lib nets conns first cell ≡ cell_ties conns first c ++ cell_part nets conns first c
unfolding inst_parts
parts_cell s lib nets conns first cell c none is =
    ap (λ (o : Option Module). let r : List Part = elim o [
      | Some m ↦ flat_map (λ (p : Port). bit_ties first p.bits (wires_of conns p.name)) m.ports
      | None ↦ elim (cell_of lib cell) [ None ↦ [] | Some c ↦ cell_ties conns first c ++ cell_part nets conns first c ]
    ] in r) none
    ∙ ap (λ (o : Option Cell). let r : List Part = elim o [ None ↦ [] | Some c ↦ cell_ties conns first c ++ cell_part nets conns first c ] in r) is

-- an instance of a module is no leaf
leaves_module : (s : Source) (lib : Library) (scope : Scope) (cell name : List ℕ) (conns : List Conn) (first : ℕ) (m : Module) → module_of s cell ≡ Some m
    → leaves_of s lib (record { scope = scope; item = item.Inst cell name conns; first = first }) ≡ []
unfolding leaves_of
leaves_module s lib scope cell name conns first m is =
    ap (λ (o : Option Module). let r : List Leaf = elim o [
      | Some m ↦ []
      | None ↦ elim (cell_of lib cell) [
        | None ↦ []
        | Some c ↦ leaf_if_any (scope.prefix ++ name) (Some c) (last_part (inst_parts s lib scope.nets conns first cell))
      ]
    ] in r) is

-- an instance of a cell is one, by its last part
leaves_cell : (s : Source) (lib : Library) (scope : Scope) (cell name : List ℕ) (conns : List Conn) (first : ℕ) (c : Cell) → module_of s cell ≡ None
    → cell_of lib cell ≡ Some c → leaves_of s lib (record { scope = scope; item = item.Inst cell name conns; first = first })
    ≡ leaf_if_any (scope.prefix ++ name) (Some c) (last_part (inst_parts s lib scope.nets conns first cell))
unfolding leaves_of
leaves_cell s lib scope cell name conns first c none is =
    ap (λ (o : Option Module). let r : List Leaf = elim o [
      | Some m ↦ []
      | None ↦ elim (cell_of lib cell) [
        | None ↦ []
        | Some c ↦ leaf_if_any (scope.prefix ++ name) (Some c) (last_part (inst_parts s lib scope.nets conns first cell))
      ]
    ] in r) none
    ∙ ap (λ (o : Option Cell). let r : List Leaf = elim o [
      | None ↦ []
      | Some c ↦ leaf_if_any (scope.prefix ++ name) (Some c) (last_part (inst_parts s lib scope.nets conns first cell))
    ] in r) is

-- the part of a cell by its kind
abbrev kind_part : List ℕ → List Conn → ℕ → Cell → CellKind → List Part
kind_part nets conns first c (kind.Comb outs) = comb_part nets conns first c outs ∷ []
kind_part nets conns first c (kind.Flop f) = flop_part nets conns first c f ∷ []
kind_part nets conns first c (kind.Gate g) = gate_part nets conns first c g ∷ []
kind_part nets conns first c (kind.Other o) = []

kind_part_is : (nets : List ℕ) (conns : List Conn) (first : ℕ) (c : Cell) (k : CellKind) → c.kind ≡ k → cell_part nets conns first c ≡ kind_part nets conns
    first c k
kind_part_is nets conns first c (kind.Comb outs) is = rw is refl
kind_part_is nets conns first c (kind.Flop f) is = rw is refl
kind_part_is nets conns first c (kind.Gate g) is = rw is refl
kind_part_is nets conns first c (kind.Other o) is = rw is refl

one_part : (nets : List ℕ) (conns : List Conn) (first : ℕ) (c : Cell) (k : CellKind) → c.kind ≡ k → is_modelled c.kind ≡ true
    → (p : Part) × (cell_part nets conns first c ≡ p ∷ [])
one_part nets conns first c (kind.Comb outs) is modelled = (comb_part nets conns first c outs, kind_part_is nets conns first c (kind.Comb outs) is)
one_part nets conns first c (kind.Flop f) is modelled = (flop_part nets conns first c f, kind_part_is nets conns first c (kind.Flop f) is)
one_part nets conns first c (kind.Gate g) is modelled = (gate_part nets conns first c g, kind_part_is nets conns first c (kind.Gate g) is)
one_part nets conns first c (kind.Other o) is modelled = let no : false ≡ true = rw is at modelled in absurd cc

-- an instance of a module
pub module_added : (s : Source) (lib : Library) (scope : Scope) (cell name : List ℕ) (conns : List Conn) (m : Module) (old new : Made) (nets : List ℕ)
    → module_of s cell ≡ Some m → IsModuleAdded scope.nets conns m old new nets → IsAdded s lib scope (item.Inst cell name conns) old new
module_added s lib scope cell name conns m old new nets is added = record {
  count = added.count ∙ ap (λ n. old.count + n) (sym (inst_nets_module s lib cell m is));
  parts = added.parts ∙ ap (λ ps. old.parts ++ ps) (sym (parts_module s lib scope.nets conns old.count cell m is));
  more = [];
  leaves = added.leaves ∙ sym (with_none old.leaves);
  each = subst (λ (ls : List Leaf). AreLeavesAt lib new.parts [] ls) (sym (leaves_module s lib scope cell name conns old.count m is)) tt;
}

-- an instance of a modelled cell
pub cell_added : (s : Source) (lib : Library) (scope : Scope) (cell name : List ℕ) (conns : List Conn) (c : Cell) (place : ℕ) (old mid new : Made)
    → module_of s cell ≡ None → cell_of lib cell ≡ Some c → slice_get lib.cells place ≡ Some c → IsCellAdded scope.nets conns c old mid
    → HasLeaf (scope.prefix ++ name) (Some place) mid new → IsAdded s lib scope (item.Inst cell name conns) old new
cell_added s lib scope cell name conns c place old mid new none is at added leaf =
    let (p, part_is) = one_part scope.nets conns old.count c c.kind refl added.modelled in
    let ends : cell_ties conns old.count c ++ cell_part scope.nets conns old.count c ≡ cell_ties conns old.count c ++ p ∷ [] =
    ap (λ ps. cell_ties conns old.count c ++ ps) part_is in
    let whole = parts_cell s lib scope.nets conns old.count cell c none is in
    let last : last_part (inst_parts s lib scope.nets conns old.count cell) ≡ Some p =
    ap last_part (whole ∙ ends) ∙ last_is (cell_ties conns old.count c) p in
    let found : leaves_of s lib (record { scope = scope; item = item.Inst cell name conns; first = old.count })
    ≡ (record { name = scope.prefix ++ name; cell = Some c; part = p }) ∷ [] =
    leaves_cell s lib scope cell name conns old.count c none is ∙ ap (λ (o : Option Part). leaf_if_any (scope.prefix ++ name) (Some c) o) last in
    record {
      count = leaf.count ∙ added.count ∙ ap (λ n. old.count + n) (sym (inst_nets_cell s lib cell c none is));
      parts = leaf.parts ∙ added.parts ∙ ap (λ ps. old.parts ++ ps) (sym whole);
      more = (record { name = scope.prefix ++ name; cell = Some place; part = length mid.parts - 1 }) ∷ [];
      leaves = leaf.leaves ∙ ap (λ ls. ls ++ (record { name = scope.prefix ++ name; cell = Some place; part = length mid.parts - 1 }) ∷ []) added.leaves;
      each = subst (λ (ls : List Leaf). AreLeavesAt lib new.parts ((record { name = scope.prefix ++ name; cell = Some place; part = length mid.parts - 1 }) ∷
          []) ls)
          (sym found) (
            record {
              name = refl;
              cell = at;
              part = ap (λ ps. slice_get ps (length mid.parts - 1)) leaf.parts
                  ∙ stands_last mid.parts old.parts (cell_ties conns old.count c) p (added.parts ∙ ap (λ ps. old.parts ++ ps) ends);
            },
            tt,
          );
    }

-- the leaf of a primitive with a name
prim_each : (s : Source) (lib : Library) (at : Instance) (k : PrimKind) (name : Option (List ℕ)) (outs : List ℕ) (ins : List Wire) (first : ℕ)
    (old all : List Part) → all ≡ old ++ (ties first ins ++ prim_part k at.nets (wire_nets at.nets first ins) outs ∷ [])
    → AreLeavesAt lib all (prim_leaf at name (length all))
    (leaves_of s lib (record { scope = scope_of s at; item = item.Prim k name outs ins; first = first }))
unfolding leaves_of
prim_each s lib at k None outs ins first old all is = tt
prim_each s lib at k (Some name) outs ins first old all is =
    let p : Part = prim_part k at.nets (wire_nets at.nets first ins) outs in
    subst (λ (o : Option Part). AreLeavesAt lib all (prim_leaf at (Some name) (length all)) (leaf_if_any (at.prefix ++ name) None o))
    (sym (last_is (ties first ins) p)) (record { name = refl; cell = refl; part = stands_last all old (ties first ins) p is }, tt)

pub prim_added : (s : Source) (lib : Library) (at : Instance) (k : PrimKind) (name : Option (List ℕ)) (t : Terminals) (old new : Made)
    → IsPrimAdded at k name t old new → IsAdded s lib (scope_of s at) (item.Prim k name t.outs.now t.ins.now) old new
prim_added s lib at k name t old new added = record {
  count = added.count;
  parts = added.parts;
  more = prim_leaf at name (length new.parts);
  leaves = added.leaves;
  each = prim_each s lib at k name t.outs.now t.ins.now old.count old.parts new.parts added.parts;
}

-- an assigned bit is no leaf
copy_each : (s : Source) (lib : Library) (at : Instance) (to : ℕ) (from : Wire) (first : ℕ) (all : List Part)
    → AreLeavesAt lib all [] (leaves_of s lib (record { scope = scope_of s at; item = item.Copy to from; first = first }))
unfolding leaves_of
copy_each s lib at to from first all = tt

pub copy_added : (s : Source) (lib : Library) (at : Instance) (to : ℕ) (from : Wire) (old new : Made) → IsCopyAdded at to from old new
    → IsAdded s lib (scope_of s at) (item.Copy to from) old new
copy_added s lib at to from old new added = record {
  count = added.count;
  parts = added.parts;
  more = [];
  leaves = added.leaves ∙ sym (with_none old.leaves);
  each = copy_each s lib at to from old.count new.parts;
}

instance_module : (s : Source) (scope : Scope) (cell name : List ℕ) (conns : List Conn) (first : ℕ) (m : Module) → module_of s cell ≡ Some m
    → instance_of s scope (item.Inst cell name conns) first ≡ Some (inner_scope scope name m conns first)
instance_module s scope cell name conns first m is =
    ap (λ (o : Option Module). let r : Option Scope = elim o [ Some m ↦ Some (inner_scope scope name m conns first) | None ↦ None ] in r) is

instance_cell : (s : Source) (scope : Scope) (cell name : List ℕ) (conns : List Conn) (first : ℕ) → module_of s cell ≡ None
    → instance_of s scope (item.Inst cell name conns) first ≡ None
instance_cell s scope cell name conns first none =
    ap (λ (o : Option Module). let r : Option Scope = elim o [ Some m ↦ Some (inner_scope scope name m conns first) | None ↦ None ] in r) none

scope_is : (prefix prefix2 nets nets2 : List ℕ) (body body2 : Module) (depth depth2 : ℕ) → prefix ≡ prefix2 → body ≡ body2 → nets ≡ nets2 → depth ≡ depth2
    → ◌≡◌ {A = Scope} (record { prefix = prefix; body = body; nets = nets; depth = depth })
    (record { prefix = prefix2; body = body2; nets = nets2; depth = depth2 })
scope_is prefix prefix2 nets nets2 body body2 depth depth2 p b n d = cc

-- the instance that an instance of a module is
pub module_inner : (s : Source) (scope : Scope) (cell name : List ℕ) (conns : List Conn) (first : ℕ) (m : Module) (g : Instance)
    → module_of s cell ≡ Some m → slice_get s.modules g.body ≡ Some m → g.prefix ≡ with_slash scope.prefix name
    → g.nets ≡ inner_nets scope.nets m conns first → g.depth ≡ scope.depth + 1 → g.body ≡ place_of_module s cell → IsInner s scope (item.Inst cell name conns) first (Some g)
module_inner s scope cell name conns first m g is at prefix nets depth named = record {
  scope_is = ap (λ (x : Scope). Some x) (scope_is g.prefix (with_slash scope.prefix name) g.nets (inner_nets scope.nets m conns first)
      (module_at s g.body) m g.depth (scope.depth + 1) prefix (get_or_from_slice_get s.modules g.body m _ at) nets depth) ∙ sym (instance_module s scope cell name conns first m is);
  body = λ h same. let here : g ≡ h = cc in subst (λ (i : Instance). i.body < length s.modules) here (slice_get_within s.modules g.body m at);
  needed = λ h same.
      let here : g ≡ h = cc in
      subst (λ (i : Instance). Contains (place_of_module s cell ∷ []) i.body) here
      (contains_at (place_of_module s cell ∷ []) 0 g.body (ap (λ (k : ℕ). Some k) (sym named)));
}

-- any other item is no instance of a module
pub no_inner : (s : Source) (scope : Scope) (i : Item) (first : ℕ) → instance_of s scope i first ≡ None → IsInner s scope i first None
no_inner s scope i first none = record { scope_is = sym none; body = λ h same. cc; needed = λ h same. cc }

pub cell_inner : (s : Source) (scope : Scope) (cell name : List ℕ) (conns : List Conn) (first : ℕ) → module_of s cell ≡ None
    → IsInner s scope (item.Inst cell name conns) first None
cell_inner s scope cell name conns first none = no_inner s scope (item.Inst cell name conns) first (instance_cell s scope cell name conns first none)

-- refusals of an instance by what its reference is
pub module_faulty : (s : Source) (lib : Library) (scope : Scope) (cell name : List ℕ) (conns : List Conn) (m : Module) (e : LinkFault)
    → module_of s cell ≡ Some m → IsModuleFault m (scope.prefix ++ name) conns e → IsItemFault s lib scope (item.Inst cell name conns) e
module_faulty s lib scope cell name conns m e is bad =
    subst (λ (o : Option Module). IsInstFault o (cell_of lib cell) cell (scope.prefix ++ name) conns e) (sym is) bad

pub module_faultless : (s : Source) (lib : Library) (scope : Scope) (cell name : List ℕ) (conns : List Conn) (m : Module) → module_of s cell ≡ Some m
    → IsFineModule conns m → IsFaultless s lib scope (item.Inst cell name conns)
module_faultless s lib scope cell name conns m is fine = λ e other bad.
    module_fine m (scope.prefix ++ name) conns fine e other
    (subst (λ (o : Option Module). IsInstFault o (cell_of lib cell) cell (scope.prefix ++ name) conns e) is bad)

at_cell : (s : Source) (lib : Library) (full cell : List ℕ) (conns : List Conn) (c : Cell) (e : LinkFault) → module_of s cell ≡ None
    → cell_of lib cell ≡ Some c → IsInstFault (module_of s cell) (cell_of lib cell) cell full conns e → IsCellFault c full conns e
at_cell s lib full cell conns c e none is bad =
    subst (λ (o : Option Cell). IsInstFault None o cell full conns e) is
    (subst (λ (o : Option Module). IsInstFault o (cell_of lib cell) cell full conns e) none bad)

pub cell_faulty : (s : Source) (lib : Library) (scope : Scope) (cell name : List ℕ) (conns : List Conn) (c : Cell) (e : LinkFault)
    → module_of s cell ≡ None → cell_of lib cell ≡ Some c → IsCellFault c (scope.prefix ++ name) conns e
    → IsItemFault s lib scope (item.Inst cell name conns) e
cell_faulty s lib scope cell name conns c e none is bad =
    subst (λ (o : Option Module). IsInstFault o (cell_of lib cell) cell (scope.prefix ++ name) conns e) (sym none)
    (subst (λ (o : Option Cell). IsInstFault None o cell (scope.prefix ++ name) conns e) (sym is) bad)

pub cell_faultless : (s : Source) (lib : Library) (scope : Scope) (cell name : List ℕ) (conns : List Conn) (c : Cell) → module_of s cell ≡ None
    → cell_of lib cell ≡ Some c → is_modelled c.kind ≡ true → IsFineCell conns c → IsFaultless s lib scope (item.Inst cell name conns)
cell_faultless s lib scope cell name conns c none is modelled fine = λ e other bad.
    cell_fine c (scope.prefix ++ name) conns modelled fine e other (at_cell s lib (scope.prefix ++ name) cell conns c e none is bad)

pub unknown_faulty : (s : Source) (lib : Library) (scope : Scope) (cell name : List ℕ) (conns : List Conn) (e : LinkFault) → module_of s cell ≡ None
    → cell_of lib cell ≡ None → IsUnknownFault cell e → IsItemFault s lib scope (item.Inst cell name conns) e
unknown_faulty s lib scope cell name conns e none no_cell bad =
    subst (λ (o : Option Module). IsInstFault o (cell_of lib cell) cell (scope.prefix ++ name) conns e) (sym none)
    (subst (λ (o : Option Cell). IsInstFault None o cell (scope.prefix ++ name) conns e) (sym no_cell) bad)

-- what a reference stands for, by what stands at its place
pub found_module : (s : Source) (lib : Library) (cell : List ℕ) (place : ℕ) (m : Module) → IsReferent s lib cell (to.Module place)
    → slice_get s.modules place ≡ Some m → module_of s cell ≡ Some m
found_module s lib cell place m (found, at, is, named) here = is ∙ (sym at ∙ here)

pub found_cell : (s : Source) (lib : Library) (cell : List ℕ) (place : ℕ) (c : Cell) → IsReferent s lib cell (to.Cell place)
    → slice_get lib.cells place ≡ Some c → (module_of s cell ≡ None) × (cell_of lib cell ≡ Some c)
found_cell s lib cell place c (none, (found, at, is)) here = (none, is ∙ (sym at ∙ here))

-- what a lawful instance says of its connections
pub conns_apart : (s : Source) (count : ℕ) (cell name : List ℕ) (conns : List Conn) → IsLawfulItem s count (item.Inst cell name conns)
    → IsDistinct bytes_eq (pin_names conns)
conns_apart s count cell name conns lawful = lawful.0

pub conns_below : (s : Source) (count : ℕ) (cell name : List ℕ) (conns : List Conn) → IsLawfulItem s count (item.Inst cell name conns)
    → All (λ (c : Conn). AreWiresBelow count c.wires) conns
conns_below s count cell name conns lawful = lawful.1.0

pub module_widths : (s : Source) (count : ℕ) (cell name : List ℕ) (conns : List Conn) (m : Module) → IsLawfulItem s count (item.Inst cell name conns)
    → module_of s cell ≡ Some m → All (λ (p : Port). length (wires_of conns p.name) ≤ length p.bits) m.ports
module_widths s count cell name conns m lawful is = port_widths m conns (subst (λ (o : Option Module). HasWidths o conns) is lawful.1.1)

pub cell_widths : (s : Source) (count : ℕ) (cell name : List ℕ) (conns : List Conn) → IsLawfulItem s count (item.Inst cell name conns)
    → module_of s cell ≡ None → HasWidths None conns
cell_widths s count cell name conns lawful is = subst (λ (o : Option Module). HasWidths o conns) is lawful.1.1

-- an instance of a modelled cell has a part
pub some_part : (nets : List ℕ) (conns : List Conn) (c : Cell) (old new : Made) → IsCellAdded nets conns c old new → 1 ≤ length new.parts
some_part nets conns c old new added =
    let (p, part_is) = one_part nets conns old.count c c.kind refl added.modelled in
    let whole = ap length added.parts in
    let one = ap length part_is in
    omega (
      arith,
      whole,
      one,
      length-append old.parts (cell_ties conns old.count c ++ cell_part nets conns old.count c),
      length-append (cell_ties conns old.count c) (cell_part nets conns old.count c),
    )
