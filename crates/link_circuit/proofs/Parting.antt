-- The parts of an item that is not refused are lawful.
use Rattle.std.proofs.Common.{◌≡◌, ◌≢◌, ℕ, ◌+◌, ◌<◌, ◌≤◌, ◌==◌, Bool, true, false, ◌&&◌, List, [], ◌∷◌, ◌++◌, length, map, get_or, All, Some, None, refl}
use Rattle.std.proofs.Common.{subst, sym, ◌∙◌, arith, inl, inr}
use Rattle.std.specs.Prelude.{Option, slice_index, flat_map}
use Rattle.std.specs.List.{list_all, position_or_len}
use Rattle.std.specs.Str.{bytes_eq}
use Rattle.std.proofs.lemmas.Bool.{cases_lt, eqb-true}
use Rattle.std.proofs.lemmas.List.Elements.{All-cons, All-append, All-map}
use Rattle.sdcv_base.specs.declared.limits.LimitName.TheVariants as what
use Rattle.net_model.specs.Form.{IsOver}
use Rattle.net_model.specs.Netlist.{AllBelow}
use Rattle.net_model.specs.declared.netlist.Gate.{Gate}
use Rattle.netlist_types.specs.declared.sources.Source.{Source}
use Rattle.netlist_types.specs.declared.sources.Module.{Module}
use Rattle.netlist_types.specs.declared.sources.Port.{Port}
use Rattle.netlist_types.specs.declared.sources.Conn.{Conn}
use Rattle.netlist_types.specs.declared.sources.Wire.{Wire}
use Rattle.netlist_types.specs.declared.sources.Item.{Item}
use Rattle.netlist_types.specs.declared.sources.Item.TheVariants as item
use Rattle.netlist_types.specs.Lawful.{module_of, IsLawful, IsLawfulItem, IsLawfulModule, IsBelow, IsWireBelow, AreWiresBelow, HasWidths, HasTerminals}
use Rattle.netlist_types.specs.declared.gates.PrimKind.{PrimKind}
use Rattle.netlist_types.specs.declared.gates.PrimKind.TheVariants as prim
use Rattle.cell_types.specs.declared.libraries.Library.{Library}
use Rattle.cell_types.specs.declared.libraries.Cell.{Cell}
use Rattle.cell_types.specs.declared.libraries.CellKind.{CellKind}
use Rattle.cell_types.specs.declared.libraries.CellKind.TheVariants as kind
use Rattle.cell_types.specs.declared.libraries.CombOut.{CombOut}
use Rattle.cell_types.specs.declared.libraries.Flop.{Flop}
use Rattle.cell_types.specs.declared.libraries.GateCell.{GateCell}
use Rattle.cell_types.specs.Libraries.{IsLawful as IsLawfulLibrary, IsLawfulKind, IsLawfulCell, IsLawfulFlop}
use Rattle.link_defs.specs.declared.circuits.Part.{Part}
use Rattle.link_defs.specs.declared.circuits.Part.TheVariants as part
use Rattle.linked_types.specs.declared.faults.LinkFault.{LinkFault}
use Rattle.linked_types.specs.declared.faults.LinkFault.TheVariants as fault
use Rattle.link_defs.specs.Hierarchy.{cell_of, is_modelled, wires_of}
use Rattle.link_defs.specs.Flatten.{Scope, other_pins, own_nets, inst_nets}
use Rattle.link_defs.specs.Faults.{most_pins}
use Rattle.link_defs.specs.Parts.{ties, wire_nets, wire_net, bit_ties, pin_ties, pin_net, pin_nets, comb_gates, cell_ties, cell_part, inst_parts, item_parts}
use Rattle.link_defs.specs.Parts.{is_buffer_cell, is_buffer_form, is_buffer_prim, prim_gate, outs_from, clock_net, flop_reg, gate_clock}
use Rattle.std.proofs.lemmas.List.Folds.{find_at}
use Rattle.link_items.specs.Faults.{IsInstFault, IsCellFault, IsFaultless}
use Rattle.link_items.proofs.Listing.{all_at}
use Rattle.link_items.proofs.Along.{length_wire_nets}
use Rattle.link_items.proofs.Pinned.{port_bits, narrow}
use Rattle.link_design.specs.Lawful.{IsLawfulPart, IsLawfulGate}
use Rattle.link_circuit.proofs.Lawfully.{all_none, all_flat, ties_lawful, pin_ties_lawful, bit_ties_lawful, wire_below, wire_nets_below, pin_below}
use Rattle.link_circuit.proofs.Lawfully.{pin_nets_below, length_pin_nets, comb_gates_lawful, reg_outs_below, over_more, option_more, prim_over}

-- what is known of the connections of a cell
pub record AreConns (total : ℕ) (nets : List ℕ) (conns : List Conn) : Type 0 where
  pub below : AllBelow total nets
  pub wires : All (λ (c : Conn). AreWiresBelow (length nets) c.wires) conns

bool_if : (a b : Bool) → (a && b) ≡ true → a ≡ true
bool_if true b e = refl
bool_if false b e = cc

-- a buffer cell has one input
one_input : (pins : List (List ℕ)) (outs : List CombOut) → is_buffer_cell pins outs ≡ true → length pins ≡ 1
one_input pins outs e =
    eqb-true (length pins) 1 (bool_if (length pins == 1) (list_all (λ (o : CombOut). is_buffer_form o.func) outs) e)

comb_lawful : (total : ℕ) (nets : List ℕ) (conns : List Conn) (first : ℕ) (c : Cell) (outs : List CombOut) → c.kind ≡ kind.Comb outs
    → AreConns total nets conns → HasWidths None conns → length c.inputs ≤ 6 → first + (length c.inputs + length outs) ≤ total
    → All (λ (o : CombOut). IsOver (length c.inputs) o.func) outs → All (IsLawfulPart total) (cell_ties conns first c ++ cell_part nets conns first c)
comb_lawful total nets conns first c outs is are widths few room over =
    let ins = pin_nets nets conns first c.inputs in
    let len : length ins ≡ length c.inputs = length_pin_nets nets conns c.inputs first in
    let own : Part = part.Comb (is_buffer_cell c.inputs outs) ins (comb_gates nets conns ins (outs_from first c) outs) in
    let ties_are : cell_ties conns first c ≡ pin_ties conns first c.inputs = rw is refl in
    let part_is : cell_part nets conns first c ≡ own ∷ [] = rw is refl in
    let whole : All (IsLawfulPart total) (pin_ties conns first c.inputs ++ own ∷ []) =
    All-append (IsLawfulPart total) (pin_ties conns first c.inputs) (own ∷ []) (pin_ties_lawful total conns c.inputs first widths (omega (arith, room)))
    (All-cons (IsLawfulPart total) own [] (record {
      reads = pin_nets_below total nets conns c.inputs first are.below are.wires (omega (arith, room));
      few = omega (arith, len, few);
      one = λ e. len ∙ one_input c.inputs outs e;
      drives = comb_gates_lawful total nets conns ins outs (outs_from first c) are.below are.wires (omega (arith, room))
          (subst (λ (n : ℕ). All (λ (o : CombOut). IsOver n o.func) outs) (sym len) over);
    }) (all_none (IsLawfulPart total))) in
    subst (λ (ps : List Part). All (IsLawfulPart total) (ps ++ cell_part nets conns first c)) (sym ties_are)
    (subst (λ (ps : List Part). All (IsLawfulPart total) (pin_ties conns first c.inputs ++ ps)) (sym part_is) whole)

flop_lawful : (total : ℕ) (nets : List ℕ) (conns : List Conn) (first : ℕ) (c : Cell) (f : Flop) → c.kind ≡ kind.Flop f
    → AreConns total nets conns → HasWidths None conns → length c.inputs ≤ 6 → first + (length c.inputs + (length f.outs + 1)) ≤ total
    → IsLawfulFlop (length c.inputs) f → All (IsLawfulPart total) (cell_ties conns first c ++ cell_part nets conns first c)
flop_lawful total nets conns first c f is are widths few room over =
    let ins = pin_nets nets conns first c.inputs in
    let len : length ins ≡ length c.inputs = length_pin_nets nets conns c.inputs first in
    let own : Part = part.Flop (clock_net nets conns first c f) (flop_reg nets conns first c f) in
    let before = pin_ties conns first c.inputs ++ ties (outs_from first c + length f.outs) (wires_of conns f.clock) in
    let ties_are : cell_ties conns first c ≡ before = rw is refl in
    let part_is : cell_part nets conns first c ≡ own ∷ [] = rw is refl in
    let whole : All (IsLawfulPart total) (before ++ own ∷ []) =
    All-append (IsLawfulPart total) before (own ∷ [])
    (All-append (IsLawfulPart total) (pin_ties conns first c.inputs) (ties (outs_from first c + length f.outs) (wires_of conns f.clock))
    (pin_ties_lawful total conns c.inputs first widths (omega (arith, room)))
    (ties_lawful total (wires_of conns f.clock) (outs_from first c + length f.outs) (omega (arith, room, narrow conns f.clock widths))))
    (All-cons (IsLawfulPart total) own [] (record {
      clock_net = pin_below total nets conns (outs_from first c + length f.outs) f.clock are.below (omega (arith, room)) are.wires;
      reads = pin_nets_below total nets conns c.inputs first are.below are.wires (omega (arith, room));
      outs = reg_outs_below total nets conns f.outs (outs_from first c) are.below are.wires (omega (arith, room));
      few = omega (arith, len, few);
      over = record {
        next = over_more (length c.inputs + 1) (length ins + 1) f.next (omega (arith, len)) over.next;
        clear = option_more (length c.inputs) (length ins + 1) f.clear (omega (arith, len)) over.clear;
        preset = option_more (length c.inputs) (length ins + 1) f.preset (omega (arith, len)) over.preset;
      };
    }) (all_none (IsLawfulPart total))) in
    subst (λ (ps : List Part). All (IsLawfulPart total) (ps ++ cell_part nets conns first c)) (sym ties_are)
    (subst (λ (ps : List Part). All (IsLawfulPart total) (before ++ ps)) (sym part_is) whole)

gate_lawful : (total : ℕ) (nets : List ℕ) (conns : List Conn) (first : ℕ) (c : Cell) (g : GateCell) → c.kind ≡ kind.Gate g
    → AreConns total nets conns → HasWidths None conns → length c.inputs ≤ 5 → first + (length c.inputs + 2) ≤ total
    → All (IsLawfulPart total) (cell_ties conns first c ++ cell_part nets conns first c)
gate_lawful total nets conns first c g is are widths few room =
    let enables = pin_nets nets conns first c.inputs in
    let len : length enables ≡ length c.inputs = length_pin_nets nets conns c.inputs first in
    let own : Part = part.Gate (gate_clock nets conns first c g) enables (pin_net nets (outs_from first c) (wires_of conns g.out)) in
    let before = pin_ties conns first c.inputs ++ ties (outs_from first c + 1) (wires_of conns g.clock) in
    let ties_are : cell_ties conns first c ≡ before = rw is refl in
    let part_is : cell_part nets conns first c ≡ own ∷ [] = rw is refl in
    let whole : All (IsLawfulPart total) (before ++ own ∷ []) =
    All-append (IsLawfulPart total) before (own ∷ [])
    (All-append (IsLawfulPart total) (pin_ties conns first c.inputs) (ties (outs_from first c + 1) (wires_of conns g.clock))
    (pin_ties_lawful total conns c.inputs first widths (omega (arith, room)))
    (ties_lawful total (wires_of conns g.clock) (outs_from first c + 1) (omega (arith, room, narrow conns g.clock widths))))
    (All-cons (IsLawfulPart total) own [] (record {
      clock_net = pin_below total nets conns (outs_from first c + 1) g.clock are.below (omega (arith, room)) are.wires;
      reads = pin_nets_below total nets conns c.inputs first are.below are.wires (omega (arith, room));
      few = omega (arith, len, few);
      out_net = pin_below total nets conns (outs_from first c) g.out are.below (omega (arith, room)) are.wires;
    }) (all_none (IsLawfulPart total))) in
    subst (λ (ps : List Part). All (IsLawfulPart total) (ps ++ cell_part nets conns first c)) (sym ties_are)
    (subst (λ (ps : List Part). All (IsLawfulPart total) (before ++ ps)) (sym part_is) whole)

-- a cell that is not refused has at most as many inputs as one of its kind may have
few_inputs : (c : Cell) (k : CellKind) (full : List ℕ) (conns : List Conn) → c.kind ≡ k → is_modelled c.kind ≡ true
    → ((e : LinkFault) → e ≢ fault.Memory → IsCellFault c full conns e → ⊥) → length c.inputs ≤ most_pins k
few_inputs c k full conns is modelled free =
    let few : length c.inputs ≤ most_pins c.kind = elim (cases_lt (most_pins c.kind) (length c.inputs)) [
      | inl wide ↦ absurd (free (fault.Limit what.Pins (most_pins c.kind + 1)) (λ e. cc) (modelled, (wide, refl)))
      | inr few ↦ few
    ] in
    subst (λ (k : CellKind). length c.inputs ≤ most_pins k) is few

pins_of : CellKind → ℕ
pins_of (kind.Comb outs) = length outs
pins_of (kind.Flop f) = length f.outs + 1
pins_of (kind.Gate g) = 2
pins_of (kind.Other o) = 0

other_is : (c : Cell) (k : CellKind) → c.kind ≡ k → other_pins c ≡ pins_of k
unfolding pins_of
other_is c (kind.Comb outs) is = rw is refl
other_is c (kind.Flop f) is = rw is refl
other_is c (kind.Gate g) is = rw is refl
other_is c (kind.Other o) is = rw is refl

-- an instance of a cell that is not refused
cell_lawful : (total : ℕ) (nets : List ℕ) (full : List ℕ) (conns : List Conn) (first : ℕ) (c : Cell) (k : CellKind) → c.kind ≡ k
    → ((e : LinkFault) → e ≢ fault.Memory → IsCellFault c full conns e → ⊥) → AreConns total nets conns → HasWidths None conns
    → first + (length c.inputs + other_pins c) ≤ total → IsLawfulKind c.inputs k
    → All (IsLawfulPart total) (cell_ties conns first c ++ cell_part nets conns first c)
unfolding pins_of
cell_lawful total nets full conns first c (kind.Comb outs) is free are widths room over =
    comb_lawful total nets conns first c outs is are widths (few_inputs c (kind.Comb outs) full conns is (rw is refl) free)
    (omega (arith, room, other_is c (kind.Comb outs) is)) over
cell_lawful total nets full conns first c (kind.Flop f) is free are widths room over =
    flop_lawful total nets conns first c f is are widths (few_inputs c (kind.Flop f) full conns is (rw is refl) free)
    (omega (arith, room, other_is c (kind.Flop f) is)) over
cell_lawful total nets full conns first c (kind.Gate g) is free are widths room over =
    gate_lawful total nets conns first c g is are widths (few_inputs c (kind.Gate g) full conns is (rw is refl) free)
    (omega (arith, room, other_is c (kind.Gate g) is))
cell_lawful total nets full conns first c (kind.Other o) is free are widths room over =
    let none : cell_ties conns first c ++ cell_part nets conns first c ≡ [] = rw is refl in
    subst (λ (ps : List Part). All (IsLawfulPart total) ps) (sym none) (all_none (IsLawfulPart total))

inst_lawful : (s : Source) (total : ℕ) (nets : List ℕ) (cell full : List ℕ) (conns : List Conn) (first : ℕ) (found : Option Module) (owned : Option Cell)
    → ((e : LinkFault) → e ≢ fault.Memory → IsInstFault found owned cell full conns e → ⊥) → AreConns total nets conns → HasWidths found conns
    → ((m : Module) → found ≡ Some m → IsLawfulModule s m) → ((c : Cell) → owned ≡ Some c → IsLawfulCell c)
    → first + (elim found [ Some m ↦ length m.nets | None ↦ elim owned [ Some c ↦ length c.inputs + other_pins c | None ↦ 0 ] ]) ≤ total
    → All (IsLawfulPart total) (elim found [
      | Some m ↦ flat_map (λ (p : Port). bit_ties first p.bits (wires_of conns p.name)) m.ports
      | None ↦ elim owned [ None ↦ [] | Some c ↦ cell_ties conns first c ++ cell_part nets conns first c ]
    ])
inst_lawful s total nets cell full conns first None None free are widths modules cells room = all_none (IsLawfulPart total)
inst_lawful s total nets cell full conns first None (Some c) free are widths modules cells room =
    cell_lawful total nets full conns first c c.kind refl free are widths room (cells c refl)
inst_lawful s total nets cell full conns first (Some m) owned free are widths modules cells room =
    let bits = port_bits s m (modules m refl) in
    all_flat (IsLawfulPart total) (λ (p : Port). bit_ties first p.bits (wires_of conns p.name)) m.ports
    (λ k d lt. bit_ties_lawful total first (get_or m.ports k d).bits (wires_of conns (get_or m.ports k d).name)
    (λ j b within. omega (arith, room, bits k d lt j b within)))

some_inputs : (k : PrimKind) (outs ins : ℕ) → HasTerminals k outs ins → 1 ≤ ins
some_inputs prim.And outs ins has = has.1
some_inputs prim.Nand outs ins has = has.1
some_inputs prim.Or outs ins has = has.1
some_inputs prim.Nor outs ins has = has.1
some_inputs prim.Xor outs ins has = has.1
some_inputs prim.Xnor outs ins has = has.1
some_inputs prim.Buf outs ins has = omega (arith, has.1)
some_inputs prim.Not outs ins has = omega (arith, has.1)

buffer_input : (k : PrimKind) (outs ins : ℕ) → HasTerminals k outs ins → is_buffer_prim k ≡ true → ins ≡ 1
buffer_input prim.And outs ins has e = cc
buffer_input prim.Nand outs ins has e = cc
buffer_input prim.Or outs ins has e = cc
buffer_input prim.Nor outs ins has e = cc
buffer_input prim.Xor outs ins has e = cc
buffer_input prim.Xnor outs ins has e = cc
buffer_input prim.Buf outs ins has e = has.1
buffer_input prim.Not outs ins has e = has.1

-- a primitive of at most six inputs
prim_lawful : (total : ℕ) (nets : List ℕ) (k : PrimKind) (outs : List ℕ) (ins : List Wire) (first : ℕ) → AllBelow total nets
    → HasTerminals k (length outs) (length ins) → All (IsBelow (length nets)) outs → All (IsWireBelow (length nets)) ins → length ins ≤ 6
    → first + length ins ≤ total → All (IsLawfulPart total) (ties first ins ++ part.Comb (is_buffer_prim k) (wire_nets nets first ins)
    (map (λ (out : ℕ). prim_gate k (wire_nets nets first ins) (slice_index nets out)) outs) ∷ [])
prim_lawful total nets k outs ins first below has outs_below ins_below few room =
    let pins = wire_nets nets first ins in
    let len : length pins ≡ length ins = length_wire_nets nets first ins in
    let some = some_inputs k (length outs) (length ins) has in
    let own : Part = part.Comb (is_buffer_prim k) pins (map (λ (out : ℕ). prim_gate k pins (slice_index nets out)) outs) in
    All-append (IsLawfulPart total) (ties first ins) (own ∷ []) (ties_lawful total ins first room)
    (All-cons (IsLawfulPart total) own [] (record {
      reads = wire_nets_below total nets ins first below room ins_below;
      few = omega (arith, len, few);
      one = λ e. len ∙ buffer_input k (length outs) (length ins) has e;
      drives = All-map (IsLawfulGate total pins) (λ (out : ℕ). prim_gate k pins (slice_index nets out)) outs
          (λ j d lt. record { reads = refl; out = below (get_or outs j d) 0 (outs_below j d lt); func = prim_over k (length pins) (omega (arith, len, some)) });
    }) (all_none (IsLawfulPart total)))

copy_lawful : (total : ℕ) (nets : List ℕ) (to : ℕ) (from : Wire) (first : ℕ) → AllBelow total nets → to < length nets → IsWireBelow (length nets) from
    → first + 1 ≤ total → All (IsLawfulPart total) (ties first (from ∷ []) ++ part.Comb true (wire_net nets first from ∷ [])
    (prim_gate prim.Buf (wire_net nets first from ∷ []) (slice_index nets to) ∷ []) ∷ [])
copy_lawful total nets to from first below to_below from_below room =
    let pin = wire_net nets first from in
    let gate : Gate = prim_gate prim.Buf (pin ∷ []) (slice_index nets to) in
    let own : Part = part.Comb true (pin ∷ []) (gate ∷ []) in
    All-append (IsLawfulPart total) (ties first (from ∷ [])) (own ∷ []) (ties_lawful total (from ∷ []) first (omega (arith, room)))
    (All-cons (IsLawfulPart total) own [] (record {
      reads = All-cons (λ (n : ℕ). n < total) pin []
          (wire_below total nets first from below (omega (arith, room)) from_below) (all_none (λ (n : ℕ). n < total));
      few = omega arith;
      one = λ e. refl;
      drives = All-cons (IsLawfulGate total (pin ∷ [])) gate [] (record { reads = refl; out = below to 0 to_below; func = omega arith })
          (all_none (IsLawfulGate total (pin ∷ [])));
    }) (all_none (IsLawfulPart total)))

-- the module of a name is lawful
pub module_lawful : (s : Source) (name : List ℕ) (m : Module) → IsLawful s → module_of s name ≡ Some m → IsLawfulModule s m
unfolding module_of
module_lawful s name m lawful is =
    let p : Module → Bool = λ (m : Module). bytes_eq m.name name in
    all_at (IsLawfulModule s) s.modules lawful.modules (position_or_len p s.modules) m (sym (find_at p s.modules) ∙ is)

cell_of_lawful : (lib : Library) (name : List ℕ) (c : Cell) → IsLawfulLibrary lib.cells → cell_of lib name ≡ Some c → IsLawfulCell c
unfolding cell_of
cell_of_lawful lib name c lawful is =
    let p : Cell → Bool = λ (c : Cell). bytes_eq c.name name in
    all_at IsLawfulCell lib.cells lawful.functions (position_or_len p lib.cells) c (sym (find_at p lib.cells) ∙ is)

prim_few : (s : Source) (lib : Library) (scope : Scope) (k : PrimKind) (name : Option (List ℕ)) (outs : List ℕ) (ins : List Wire)
    → IsFaultless s lib scope (item.Prim k name outs ins) → length ins ≤ 6
prim_few s lib scope k name outs ins free = elim (cases_lt 6 (length ins)) [
  | inl wide ↦ absurd (free (fault.Limit what.Pins 7) (λ e. cc) (wide, refl))
  | inr few ↦ few
]

-- the parts of an item that is not refused
pub item_lawful : (s : Source) (lib : Library) (total : ℕ) (scope : Scope) (first : ℕ) (x : Item) → IsLawful s → IsLawfulLibrary lib.cells
    → AllBelow total scope.nets → IsLawfulItem s (length scope.nets) x → IsFaultless s lib scope x → first + own_nets s lib x ≤ total
    → All (IsLawfulPart total) (item_parts s lib scope.nets first x)
unfolding inst_parts inst_nets
item_lawful s lib total scope first (item.Inst cell name conns) lawful cells below is free room =
    inst_lawful s total scope.nets cell (scope.prefix ++ name) conns first (module_of s cell) (cell_of lib cell) free
    (record { below = below; wires = is.1.0 }) is.1.1 (λ m found. module_lawful s cell m lawful found) (λ c found. cell_of_lawful lib cell c cells found) room
item_lawful s lib total scope first (item.Prim k name outs ins) lawful cells below is free room =
    prim_lawful total scope.nets k outs ins first below is.0 is.1.0 is.1.1 (prim_few s lib scope k name outs ins free) room
item_lawful s lib total scope first (item.Copy to from) lawful cells below is free room =
    copy_lawful total scope.nets to from first below is.0 is.1 room
