-- Names among others, and what tests of pins say.
use Rattle.std.proofs.Common.{◌≡◌, ℕ, zero, suc, ◌==◌, Bool, true, false, not, ◌||◌, List, [], ◌∷◌, length, map, Some, refl}
use Rattle.std.proofs.Common.{ap, sym, ◌∙◌, arith, subst}
use Rattle.std.specs.Prelude.{Contains, slice_get}
use Rattle.std.specs.List.{list_any}
use Rattle.std.specs.Str.{bytes_eq}
use Rattle.std.proofs.lemmas.Slice.Eq.{bytes_eq-Decides}
use Rattle.std.proofs.lemmas.List.Elements.{Contains-append_right}
use Rattle.std.proofs.lemmas.Bool.Decides.{nat_tests}
use Rattle.std.proofs.lemmas.Option.{slice_get_read}
use Rattle.texts.specs.Names.{is_among}
use Rattle.netlist_types.specs.declared.sources.Conn.{Conn}
use Rattle.netlist_types.specs.declared.sources.Wire.{Wire}
use Rattle.netlist_types.specs.declared.sources.Wire.TheVariants as wire
use Rattle.cell_types.specs.declared.libraries.Cell.{Cell}
use Rattle.link_defs.specs.Hierarchy.{wires_of}
use Rattle.link_defs.specs.CellNames.{clock_pins}
use Rattle.link_defs.specs.Faults.{in_pins}
use Rattle.link_items.specs.Pins.{is_open, is_const, is_tied, is_unknown}
use Rattle.link_items.proofs.Listing.{contains_at}

-- a bit is not both
pub not_both : (b : Bool) → b ≡ true → b ≡ false → ⊥
not_both true hit miss = cc
not_both false hit miss = cc

-- where the complement is true, the bit is false
pub not_true : (b : Bool) → not b ≡ true → b ≡ false
not_true true e = cc
not_true false e = refl

pub not_false : (b : Bool) → not b ≡ false → b ≡ true
not_false true e = refl
not_false false e = cc

flips : (x y : List ℕ) (a b : Bool) → bytes_eq x y ≡ a → bytes_eq y x ≡ b → bytes_eq x y ≡ bytes_eq y x
flips x y true true e f = e ∙ sym f
flips x y false false e f = e ∙ sym f
flips x y true false e f =
    let (to, from) = bytes_eq-Decides x y in
    let (to2, from2) = bytes_eq-Decides y x in
    let hit : bytes_eq y x ≡ true = from2 (sym (to e)) in absurd (not_both (bytes_eq y x) hit f)
flips x y false true e f =
    let (to, from) = bytes_eq-Decides x y in
    let (to2, from2) = bytes_eq-Decides y x in
    let hit : bytes_eq x y ≡ true = from (sym (to2 f)) in absurd (not_both (bytes_eq x y) hit e)

-- two names are compared the same either way round
pub eq_flips : (x y : List ℕ) → bytes_eq x y ≡ bytes_eq y x
eq_flips x y = flips x y (bytes_eq x y) (bytes_eq y x) refl refl

-- an item of a list has a place
pub place_of_item : {X : Type 0} (xs : List X) (x : X) → Contains xs x → (k : ℕ) × (slice_get xs k ≡ Some x)
place_of_item xs x (k, lt, same) = (k, slice_get_read xs (length xs) k x refl lt (sym same))

-- what stands in the rest stands in the list
pub contains_later : {X : Type 0} (y : X) (xs : List X) (x : X) → Contains xs x → Contains (y ∷ xs) x
contains_later y xs x has = let (k, at) = place_of_item xs x has in contains_at (y ∷ xs) (suc k) x at

-- the first item stands in the list
pub contains_first : {X : Type 0} (x : X) (xs : List X) → Contains (x ∷ xs) x
contains_first x xs = contains_at (x ∷ xs) 0 x refl

in_or : (n x : List ℕ) (xs : List (List ℕ)) (b : Bool) → bytes_eq n x ≡ b → (is_among n xs ≡ true → Contains xs n) → is_among n (x ∷ xs) ≡ true
    → Contains (x ∷ xs) n
in_or n x xs true e further hit = let (to, from) = bytes_eq-Decides n x in contains_at (x ∷ xs) 0 n (ap (λ y. Some y) (sym (to e)))
in_or n x xs false e further hit =
    let rest : is_among n xs ≡ true = sym (ap (λ b. b || is_among n xs) e) ∙ hit in contains_later x xs n (further rest)

-- a name that the test finds is there
pub among_in : (n : List ℕ) (xs : List (List ℕ)) → is_among n xs ≡ true → Contains xs n
among_in n [] hit = cc
among_in n (x ∷ xs) hit = in_or n x xs (bytes_eq n x) refl (among_in n xs) hit

or_true : (b : Bool) → (b || true) ≡ true
or_true true = refl
or_true false = refl

among_at : (n : List ℕ) (xs : List (List ℕ)) (k : ℕ) → slice_get xs k ≡ Some n → is_among n xs ≡ true
among_at n [] k at = cc
among_at n (x ∷ xs) zero at =
    let (to, from) = bytes_eq-Decides n x in
    let same : n ≡ x = cc in ap (λ b. b || is_among n xs) (from same)
among_at n (x ∷ xs) (suc k) at = ap (λ b. bytes_eq n x || b) (among_at n xs k at) ∙ or_true (bytes_eq n x)

-- and one that is there is found
pub in_among : (n : List ℕ) (xs : List (List ℕ)) → Contains xs n → is_among n xs ≡ true
in_among n xs has = let (k, at) = place_of_item xs n has in among_at n xs k at

-- a test of items by their names
pub is_among_by : {X : Type 0} (f : X → List ℕ) (n : List ℕ) (xs : List X) → list_any (λ x. bytes_eq n (f x)) xs ≡ is_among n (map f xs)
is_among_by f n [] = refl
is_among_by f n (x ∷ xs) = ap (λ b. bytes_eq n (f x) || b) (is_among_by f n xs)

-- a connection that the test finds is to no such pin
pub stray : (pins : List (List ℕ)) (c : Conn) → is_unknown pins c ≡ true → Contains pins c.pin → ⊥
stray pins c hit has = not_both (is_among c.pin pins) (in_among c.pin pins has) (not_true (is_among c.pin pins) hit)

-- and one that it does not find is to one
pub known : (pins : List (List ℕ)) (c : Conn) → is_unknown pins c ≡ false → Contains pins c.pin
known pins c miss = among_in c.pin pins (not_false (is_among c.pin pins) miss)

none_of : (ws : List Wire) → (length ws == 0) ≡ true → ws ≡ []
none_of [] e = refl
none_of (w ∷ ws) e = let no : length (w ∷ ws) ≡ 0 = grind (arith, nat_tests) in absurd (omega (arith, no))

-- an open pin has no wires
pub open_none : (conns : List Conn) (pin : List ℕ) → is_open conns pin ≡ true → wires_of conns pin ≡ []
open_none conns pin e = none_of (wires_of conns pin) e

-- and a pin without wires is open
pub none_open : (conns : List Conn) (pin : List ℕ) → wires_of conns pin ≡ [] → is_open conns pin ≡ true
none_open conns pin e = ap (λ (ws : List Wire). length ws == 0) e

const_in : (ws : List Wire) → list_any is_const ws ≡ true → (bit : Bool) × Contains ws (wire.Const bit)
const_in [] e = cc
const_in (wire.Const b ∷ ws) e = (b, contains_first (wire.Const b) ws)
const_in (wire.Net n ∷ ws) e = let (bit, has) = const_in ws e in (bit, contains_later (wire.Net n) ws (wire.Const bit) has)

const_at : (ws : List Wire) (k : ℕ) (bit : Bool) → slice_get ws k ≡ Some (wire.Const bit) → list_any is_const ws ≡ true
const_at [] k bit at = cc
const_at (wire.Const b ∷ ws) k bit at = refl
const_at (wire.Net n ∷ ws) zero bit at = cc
const_at (wire.Net n ∷ ws) (suc k) bit at = const_at ws k bit at

-- a tied pin has a constant among its wires
pub tied_in : (conns : List Conn) (pin : List ℕ) → is_tied conns pin ≡ true → (bit : Bool) × Contains (wires_of conns pin) (wire.Const bit)
tied_in conns pin e = const_in (wires_of conns pin) e

-- and a pin with one is tied
pub in_tied : (conns : List Conn) (pin : List ℕ) (bit : Bool) → Contains (wires_of conns pin) (wire.Const bit) → is_tied conns pin ≡ true
in_tied conns pin bit has =
    let (k, at) = place_of_item (wires_of conns pin) (wire.Const bit) has in const_at (wires_of conns pin) k bit at

-- a clock pin must be connected
pub clock_in : (cell : Cell) (pin : List ℕ) → clock_pins cell.kind ≡ pin ∷ [] → Contains (in_pins cell) pin
clock_in cell pin is =
    Contains-append_right cell.inputs (clock_pins cell.kind) pin (subst (λ (pins : List (List ℕ)). Contains pins pin) (sym is) (contains_first pin []))
