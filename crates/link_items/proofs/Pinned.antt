-- The wires of pins in a lawful item.
use Rattle.std.proofs.Common.{◌≡◌, ℕ, ◌<◌, ◌≤◌, Bool, true, false, List, [], ◌∷◌, length, All, Some, None, refl, ap, sym, ◌∙◌, arith, cond}
use Rattle.std.specs.Prelude.{Option, Contains, slice_get, find, flat_map}
use Rattle.std.specs.List.{position_or_len}
use Rattle.std.specs.Str.{bytes_eq}
use Rattle.std.proofs.lemmas.List.Elements.{All-contains}
use Rattle.std.proofs.lemmas.List.Folds.{find_at}
use Rattle.std.proofs.lemmas.Slice.Eq.{bytes_eq-Decides}
use Rattle.net_model.specs.Netlist.{AllBelow}
use Rattle.net_model.proofs.Members.{In-from_Contains, Contains-from_In, In-flat}
use Rattle.netlist_types.specs.declared.sources.Source.{Source}
use Rattle.netlist_types.specs.declared.sources.Module.{Module}
use Rattle.netlist_types.specs.declared.sources.Port.{Port}
use Rattle.netlist_types.specs.declared.sources.Conn.{Conn}
use Rattle.netlist_types.specs.declared.sources.Wire.{Wire}
use Rattle.netlist_types.specs.Lawful.{IsLawful, IsLawfulModule, IsBelow, IsWireBelow, AreWiresBelow, HasWidths}
use Rattle.link_defs.specs.Hierarchy.{wires_of, wires_in}
use Rattle.link_items.proofs.Listing.{all_at, all_by, contains_at}

pass_or : {X : Type 0} (p : X → Bool) (y : X) (ys : List X) (x : X) (b : Bool) → p y ≡ b → (find p ys ≡ Some x → p x ≡ true)
    → cond b (Some y) (find p ys) ≡ Some x → p x ≡ true
pass_or p y ys x true e further is = let same : y ≡ x = cc in ap p (sym same) ∙ e
pass_or p y ys x false e further is = further is

-- what is found passes
found_pass : {X : Type 0} (p : X → Bool) (xs : List X) (x : X) → find p xs ≡ Some x → p x ≡ true
found_pass p [] x is = cc
found_pass p (y ∷ ys) x is = pass_or p y ys x (p y) refl (found_pass p ys x) is

-- and stands in the list
found_there : {X : Type 0} (p : X → Bool) (xs : List X) (x : X) → find p xs ≡ Some x → slice_get xs (position_or_len p xs) ≡ Some x
found_there p xs x is = sym (find_at p xs) ∙ is

-- the wires of an open connection
abbrev wires_if : Option (List Wire) → List Wire
wires_if None = []
wires_if (Some wires) = wires

below_if : (count : ℕ) (ws : Option (List Wire)) → AreWiresBelow count ws → All (IsWireBelow count) (wires_if ws)
below_if count None below = λ k d lt. absurd (omega arith)
below_if count (Some wires) below = below

below_in : (count : ℕ) (found : Option Conn) → ((c : Conn) → found ≡ Some c → AreWiresBelow count c.wires) → All (IsWireBelow count) (wires_in found)
below_in count None each = λ k d lt. absurd (omega arith)
below_in count (Some c) each = below_if count c.wires (each c refl)

-- the wires of a pin are nets of so many, where those of all connections are
pub wires_below : (count : ℕ) (conns : List Conn) (pin : List ℕ) → All (λ (c : Conn). AreWiresBelow count c.wires) conns
    → All (IsWireBelow count) (wires_of conns pin)
unfolding wires_of
wires_below count conns pin all =
    below_in count (find (λ (c : Conn). bytes_eq c.pin pin) conns)
    (λ c is. all_at (λ (c : Conn). AreWiresBelow count c.wires) conns all (position_or_len (λ (c : Conn). bytes_eq c.pin pin) conns) c
    (found_there (λ (c : Conn). bytes_eq c.pin pin) conns c is))

few_if : (most : ℕ) (ws : Option (List Wire)) → ((wires : List Wire) → ws ≡ Some wires → length wires ≤ most) → length (wires_if ws) ≤ most
few_if most None each = omega arith
few_if most (Some wires) each = each wires refl

few_in : (most : ℕ) (found : Option Conn) → ((c : Conn) (wires : List Wire) → found ≡ Some c → c.wires ≡ Some wires → length wires ≤ most)
    → length (wires_in found) ≤ most
few_in most None each = omega arith
few_in most (Some c) each = few_if most c.wires (λ wires has. each c wires refl has)

-- a pin has at most one wire, where each connection has one
pub narrow : (conns : List Conn) (pin : List ℕ) → HasWidths None conns → length (wires_of conns pin) ≤ 1
unfolding wires_of
narrow conns pin widths =
    let p : Conn → Bool = λ (c : Conn). bytes_eq c.pin pin in
    few_in 1 (find p conns) (λ c wires is has.
    let one = all_at (λ (c : Conn). (wires : List Wire) → c.wires ≡ Some wires → length wires ≡ 1) conns widths (position_or_len p conns) c
    (found_there p conns c is) wires has in
    omega (arith, one))

-- a port has at most one wire for each of its bits
pub port_width : (m : Module) (conns : List Conn) (k : ℕ) (p : Port) → HasWidths (Some m) conns → slice_get m.ports k ≡ Some p
    → length (wires_of conns p.name) ≤ length p.bits
unfolding wires_of
port_width m conns k p widths at =
    let test : Conn → Bool = λ (c : Conn). bytes_eq c.pin p.name in
    few_in (length p.bits) (find test conns) (λ c wires is has.
    let (to, from) = bytes_eq-Decides c.pin p.name in
    let same = sym (to (found_pass test conns c is)) in
    let wide = all_at (λ (c : Conn). (wires : List Wire) (p : Port) → c.wires ≡ Some wires → Contains m.ports p → p.name ≡ c.pin
    → length wires ≡ length p.bits) conns widths (position_or_len test conns) c (found_there test conns c is) wires p has
    (contains_at m.ports k p at) same in
    omega (arith, wide))

pub port_widths : (m : Module) (conns : List Conn) → HasWidths (Some m) conns → All (λ (p : Port). length (wires_of conns p.name) ≤ length p.bits) m.ports
port_widths m conns widths =
    all_by (λ (p : Port). length (wires_of conns p.name) ≤ length p.bits) m.ports (λ k p at. port_width m conns k p widths at)

-- the bits of each port are nets of the module
pub port_bits : (s : Source) (m : Module) → IsLawfulModule s m → All (λ (p : Port). AllBelow (length m.nets) p.bits) m.ports
port_bits s m lawful =
    all_by (λ (p : Port). AllBelow (length m.nets) p.bits) m.ports (λ k p at.
    all_by (λ (bit : ℕ). bit < length m.nets) p.bits (λ j bit here.
    All-contains (IsBelow (length m.nets)) (flat_map (λ (p : Port). p.bits) m.ports) bit lawful.port_bits
    (Contains-from_In (flat_map (λ (p : Port). p.bits) m.ports) bit (In-flat (λ (p : Port). p.bits) bit p m.ports
    (In-from_Contains m.ports p (contains_at m.ports k p at)) (In-from_Contains p.bits bit (contains_at p.bits j bit here))))))

-- the module of a name is lawful
pub lawful_at : (s : Source) → IsLawful s → (k : ℕ) (m : Module) → slice_get s.modules k ≡ Some m → IsLawfulModule s m
lawful_at s lawful k m at = all_at (IsLawfulModule s) s.modules lawful.modules k m at
