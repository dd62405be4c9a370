-- The parts of an item read and drive nets of so many, by functions over their pins.
use Rattle.std.proofs.Common.{◌≡◌, ℕ, zero, suc, ◌+◌, ◌-◌, ◌<◌, ◌≤◌, Bool, true, false, List, [], ◌∷◌, length, map, All, Some, None, refl}
use Rattle.std.proofs.Common.{ap, arith}
use Rattle.std.specs.Prelude.{Option, flat_map, if◌then◌else◌}
use Rattle.std.proofs.lemmas.List.Elements.{All-cons, All-head, All-tail, All-append}
use Rattle.net_model.specs.Form.{Form, ZeroForm, OneForm, PinForm, NotForm, AndForm, OrForm, XorForm, IsOver}
use Rattle.net_model.specs.Netlist.{AllBelow, IsOptionOver}
use Rattle.net_model.specs.declared.netlist.RegOut.{RegOut}
use Rattle.netlist_types.specs.declared.sources.Conn.{Conn}
use Rattle.netlist_types.specs.declared.sources.Wire.{Wire}
use Rattle.netlist_types.specs.declared.sources.Wire.TheVariants as wire
use Rattle.netlist_types.specs.Lawful.{IsWireBelow, AreWiresBelow, HasWidths}
use Rattle.netlist_types.specs.declared.gates.PrimKind.{PrimKind}
use Rattle.netlist_types.specs.declared.gates.PrimKind.TheVariants as prim
use Rattle.cell_types.specs.declared.libraries.CombOut.{CombOut}
use Rattle.cell_types.specs.declared.libraries.FlopOut.{FlopOut}
use Rattle.link_defs.specs.Hierarchy.{wires_of}
use Rattle.link_defs.specs.Parts.{wire_net, wire_nets, constant, ties, pin_net, pin_nets, pin_ties, bit_ties, folded, prim_form, comb_gates, reg_outs}
use Rattle.link_items.proofs.Pinned.{wires_below, narrow}
use Rattle.link_design.specs.Lawful.{IsLawfulPart, IsLawfulGate}

-- what holds of none
pub all_none : {X : Type 0} (P : X → Type 0) → All P []
all_none P = λ k d lt. absurd (omega (arith, lt))

-- what holds of all items that a list gives
pub all_flat : {X Y : Type 0} (P : Y → Type 0) (f : X → List Y) (xs : List X) → All (λ x. All P (f x)) xs → All P (flat_map f xs)
all_flat P f [] each = all_none P
all_flat P f (x ∷ xs) each =
    All-append P (f x) (flat_map f xs) (All-head (λ x. All P (f x)) x xs each) (all_flat P f xs (All-tail (λ x. All P (f x)) x xs each))

const_over : (n : ℕ) (b : Bool) → IsOver n (if b then OneForm else ZeroForm)
const_over n true = tt
const_over n false = tt

-- a constant on a net of so many
constant_lawful : (total : ℕ) (b : Bool) (net : ℕ) → net < total → IsLawfulPart total (constant b net)
constant_lawful total b net lt = record {
  reads = all_none (λ (n : ℕ). n < total);
  few = omega arith;
  one = λ e. (cc);
  drives = All-cons (IsLawfulGate total []) (record { func = if b then OneForm else ZeroForm; ins = []; out = net }) []
      (record { reads = refl; out = lt; func = const_over 0 b }) (all_none (IsLawfulGate total []));
}

pub ties_lawful : (total : ℕ) (ws : List Wire) (own : ℕ) → own + length ws ≤ total → All (IsLawfulPart total) (ties own ws)
ties_lawful total [] own room = all_none (IsLawfulPart total)
ties_lawful total (wire.Const b ∷ ws) own room =
    All-cons (IsLawfulPart total) (constant b own) (ties (own + 1) ws) (constant_lawful total b own (omega (arith, room)))
    (ties_lawful total ws (own + 1) (omega (arith, room)))
ties_lawful total (wire.Net n ∷ ws) own room = ties_lawful total ws (own + 1) (omega (arith, room))

pub pin_ties_lawful : (total : ℕ) (conns : List Conn) (pins : List (List ℕ)) (own : ℕ) → HasWidths None conns → own + length pins ≤ total
    → All (IsLawfulPart total) (pin_ties conns own pins)
pin_ties_lawful total conns [] own widths room = all_none (IsLawfulPart total)
pin_ties_lawful total conns (pin ∷ pins) own widths room =
    All-append (IsLawfulPart total) (ties own (wires_of conns pin)) (pin_ties conns (own + 1) pins)
    (ties_lawful total (wires_of conns pin) own (omega (arith, room, narrow conns pin widths)))
    (pin_ties_lawful total conns pins (own + 1) widths (omega (arith, room)))

pub bit_ties_lawful : (total first : ℕ) (bits : List ℕ) (ws : List Wire) → All (λ bit. first + bit < total) bits
    → All (IsLawfulPart total) (bit_ties first bits ws)
bit_ties_lawful total first [] ws below = all_none (IsLawfulPart total)
bit_ties_lawful total first (bit ∷ bits) [] below = all_none (IsLawfulPart total)
bit_ties_lawful total first (bit ∷ bits) (w ∷ ws) below =
    All-append (IsLawfulPart total) (ties (first + bit) (w ∷ [])) (bit_ties first bits ws)
    (ties_lawful total (w ∷ []) (first + bit) (omega (arith, All-head (λ bit. first + bit < total) bit bits below)))
    (bit_ties_lawful total first bits ws (All-tail (λ bit. first + bit < total) bit bits below))

-- the flat net of a wire is one of so many
pub wire_below : (total : ℕ) (nets : List ℕ) (own : ℕ) (w : Wire) → AllBelow total nets → own < total → IsWireBelow (length nets) w
    → wire_net nets own w < total
wire_below total nets own (wire.Const b) below lt is = lt
wire_below total nets own (wire.Net n) below lt is = below n 0 is

pub wire_nets_below : (total : ℕ) (nets : List ℕ) (ws : List Wire) (own : ℕ) → AllBelow total nets → own + length ws ≤ total
    → All (IsWireBelow (length nets)) ws → AllBelow total (wire_nets nets own ws)
wire_nets_below total nets [] own below room are = all_none (λ (n : ℕ). n < total)
wire_nets_below total nets (w ∷ ws) own below room are =
    All-cons (λ (n : ℕ). n < total) (wire_net nets own w) (wire_nets nets (own + 1) ws)
    (wire_below total nets own w below (omega (arith, room)) (All-head (IsWireBelow (length nets)) w ws are))
    (wire_nets_below total nets ws (own + 1) below (omega (arith, room)) (All-tail (IsWireBelow (length nets)) w ws are))

first_below : (total : ℕ) (nets : List ℕ) (own : ℕ) (ws : List Wire) → AllBelow total nets → own < total → All (IsWireBelow (length nets)) ws
    → pin_net nets own ws < total
first_below total nets own [] below lt are = lt
first_below total nets own (w ∷ ws) below lt are = wire_below total nets own w below lt (All-head (IsWireBelow (length nets)) w ws are)

-- so is that of a pin
pub pin_below : (total : ℕ) (nets : List ℕ) (conns : List Conn) (own : ℕ) (pin : List ℕ) → AllBelow total nets → own < total
    → All (λ (c : Conn). AreWiresBelow (length nets) c.wires) conns → pin_net nets own (wires_of conns pin) < total
pin_below total nets conns own pin below lt are =
    first_below total nets own (wires_of conns pin) below lt (wires_below (length nets) conns pin are)

pub pin_nets_below : (total : ℕ) (nets : List ℕ) (conns : List Conn) (pins : List (List ℕ)) (own : ℕ) → AllBelow total nets
    → All (λ (c : Conn). AreWiresBelow (length nets) c.wires) conns → own + length pins ≤ total → AllBelow total (pin_nets nets conns own pins)
pin_nets_below total nets conns [] own below are room = all_none (λ (n : ℕ). n < total)
pin_nets_below total nets conns (pin ∷ pins) own below are room =
    All-cons (λ (n : ℕ). n < total) (pin_net nets own (wires_of conns pin)) (pin_nets nets conns (own + 1) pins)
    (pin_below total nets conns own pin below (omega (arith, room)) are) (pin_nets_below total nets conns pins (own + 1) below are (omega (arith, room)))

pub length_pin_nets : (nets : List ℕ) (conns : List Conn) (pins : List (List ℕ)) (own : ℕ) → length (pin_nets nets conns own pins) ≡ length pins
length_pin_nets nets conns [] own = refl
length_pin_nets nets conns (pin ∷ pins) own = ap suc (length_pin_nets nets conns pins (own + 1))

-- a gate for each output of a cell
pub comb_gates_lawful : (total : ℕ) (nets : List ℕ) (conns : List Conn) (ins : List ℕ) (outs : List CombOut) (own : ℕ) → AllBelow total nets
    → All (λ (c : Conn). AreWiresBelow (length nets) c.wires) conns → own + length outs ≤ total
    → All (λ (o : CombOut). IsOver (length ins) o.func) outs → All (IsLawfulGate total ins) (comb_gates nets conns ins own outs)
comb_gates_lawful total nets conns ins [] own below are room over = all_none (IsLawfulGate total ins)
comb_gates_lawful total nets conns ins (o ∷ os) own below are room over =
    All-cons (IsLawfulGate total ins) (record { func = o.func; ins = ins; out = pin_net nets own (wires_of conns o.name) })
    (comb_gates nets conns ins (own + 1) os)
    (record {
      reads = refl;
      out = pin_below total nets conns own o.name below (omega (arith, room)) are;
      func = All-head (λ (o : CombOut). IsOver (length ins) o.func) o os over;
    })
    (comb_gates_lawful total nets conns ins os (own + 1) below are (omega (arith, room)) (All-tail (λ (o : CombOut). IsOver (length ins) o.func) o os over))

-- the nets of a register's outputs
pub reg_outs_below : (total : ℕ) (nets : List ℕ) (conns : List Conn) (outs : List FlopOut) (own : ℕ) → AllBelow total nets
    → All (λ (c : Conn). AreWiresBelow (length nets) c.wires) conns → own + length outs ≤ total
    → AllBelow total (map (λ (o : RegOut). o.net) (reg_outs nets conns own outs))
reg_outs_below total nets conns [] own below are room = all_none (λ (n : ℕ). n < total)
reg_outs_below total nets conns (o ∷ os) own below are room =
    All-cons (λ (n : ℕ). n < total) (pin_net nets own (wires_of conns o.name)) (map (λ (o : RegOut). o.net) (reg_outs nets conns (own + 1) os))
    (pin_below total nets conns own o.name below (omega (arith, room)) are) (reg_outs_below total nets conns os (own + 1) below are (omega (arith, room)))

-- a function over some places is one over more
pub over_more : (n m : ℕ) (f : Form) → n ≤ m → IsOver n f → IsOver m f
over_more n m ZeroForm le over = tt
over_more n m OneForm le over = tt
over_more n m (PinForm i) le over = omega (arith, le, over)
over_more n m (NotForm f) le over = over_more n m f le over
over_more n m (AndForm f g) le over = (over_more n m f le over.0, over_more n m g le over.1)
over_more n m (OrForm f g) le over = (over_more n m f le over.0, over_more n m g le over.1)
over_more n m (XorForm f g) le over = (over_more n m f le over.0, over_more n m g le over.1)

pub option_more : (n m : ℕ) (f : Option Form) → n ≤ m → IsOptionOver n f → IsOptionOver m f
option_more n m None le over = tt
option_more n m (Some f) le over = over_more n m f le over

folded_over : (op : Form → Form → Form) → ((n : ℕ) (f g : Form) → IsOver n f → IsOver n g → IsOver n (op f g)) → (n m : ℕ) → n + 1 ≤ m
    → IsOver m (folded op n)
folded_over op each zero m le = omega (arith, le)
folded_over op each (suc n) m le =
    let last : IsOver m (PinForm (n + 1)) = omega (arith, le) in
    each m (folded op n) (PinForm (n + 1)) (folded_over op each n m (omega (arith, le))) last

-- the function of a primitive is over its inputs
pub prim_over : (k : PrimKind) (n : ℕ) → 1 ≤ n → IsOver n (prim_form k n)
prim_over prim.And n some = folded_over AndForm (λ n f g a b. (a, b)) (n - 1) n (omega (arith, some))
prim_over prim.Nand n some = folded_over AndForm (λ n f g a b. (a, b)) (n - 1) n (omega (arith, some))
prim_over prim.Or n some = folded_over OrForm (λ n f g a b. (a, b)) (n - 1) n (omega (arith, some))
prim_over prim.Nor n some = folded_over OrForm (λ n f g a b. (a, b)) (n - 1) n (omega (arith, some))
prim_over prim.Xor n some = folded_over XorForm (λ n f g a b. (a, b)) (n - 1) n (omega (arith, some))
prim_over prim.Xnor n some = folded_over XorForm (λ n f g a b. (a, b)) (n - 1) n (omega (arith, some))
prim_over prim.Buf n some = omega (arith, some)
prim_over prim.Not n some = omega (arith, some)
