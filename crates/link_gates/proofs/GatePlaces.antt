-- The places of the clock gates of a circuit in their order.
use Rattle.std.proofs.Common.{◌≡◌, ℕ, ◌<◌, ◌≤◌, ◌==◌, nat_eq, Bool, true, false, List, [], ◌∷◌, map, length, get_or, refl, ap, subst, sym, ◌∙◌}
use Rattle.std.proofs.Common.{arith, inl, inr, eq-eqb}
use Rattle.std.specs.Prelude.{Contains, Some, count_by, flat_map, option_map, slice_get, slice_index_or}
use Rattle.std.proofs.lemmas.Bool.{eqb-true}
use Rattle.std.proofs.lemmas.List.Sums.{position_or_len_is}
use Rattle.std.proofs.lemmas.Option.{slice_get-map, slice_get_within, slice_get-get_or, get_or_from_slice_get}
use Rattle.net_model.proofs.Members.{In, In-from_Contains, Contains-from_In, In-flat, from_flat}
use Rattle.graph_order.specs.Orders.{IsRightOrder}
use Rattle.graph_order.proofs.Marked.{contains_at, at_contains, counted_contains}
use Rattle.graph_order.proofs.Acyclic.{one_place}
use Rattle.graph_order.proofs.Told.{order_right}
use Rattle.icg_rewrite.proofs.Lists.{map_from, item_at}
use Rattle.link_defs.specs.declared.circuits.Circuit.{Circuit}
use Rattle.link_defs.specs.declared.circuits.Part.{Part}
use Rattle.link_defs.specs.declared.circuits.Part.TheVariants as part
use Rattle.link_defs.specs.Circuits.{part_gated}
use Rattle.link_defs.specs.Designs.{number_by}
use Rattle.link_defs.specs.GateOrders.{ClockPart, part_gate, clock_parts, gate_outs, no_clock_part, IsGateOrderOf}
use Rattle.link_gates.proofs.Owners.{IsDrivenOnce, gated_once}

-- what stands at a place of a list stands there in the mapped list
pub map_at : {X Y : Type 0} (f : X → Y) (xs : List X) (k : ℕ) (x : X) → slice_get xs k ≡ Some x → slice_get (map f xs) k ≡ Some (f x)
map_at f xs k x at = slice_get-map f xs k ∙ ap (option_map f) at

-- a bit that is not 1 is 0
pub false_if : (b : Bool) → (b ≡ true → ⊥) → b ≡ false
false_if true none = absurd (none refl)
false_if false none = refl

-- the number of a net that stands at one place alone is that place
number_is : (xs : List ℕ) (n k : ℕ) → slice_get xs k ≡ Some n → ((j : ℕ) → slice_get xs j ≡ Some n → j ≡ k) → number_by xs n ≡ k
number_is xs n k at alone =
    let within = slice_get_within xs k n at in
    position_or_len_is (nat_eq n) xs k 0 (omega (arith, within))
    (λ j lt. false_if (nat_eq n (get_or xs j 0)) (λ hit.
    let there = slice_get-get_or xs j 0 (omega (arith, within, lt)) in
    let same = alone j (there ∙ ap (λ (m : ℕ). Some m) (sym (eqb-true n (get_or xs j 0) hit))) in
    omega (arith, same, lt)))
    (λ lt. eq-eqb n (get_or xs k 0) (sym (get_or_from_slice_get xs k n 0 at)))

-- the nets that the clock gates of the parts drive
pub gate_outs_are : (parts : List Part) → gate_outs (flat_map part_gate parts) ≡ flat_map part_gated parts
gate_outs_are [] = refl
gate_outs_are (part.Comb buffer ins gates ∷ parts) = gate_outs_are parts
gate_outs_are (part.Flop clock reg ∷ parts) = gate_outs_are parts
gate_outs_are (part.Gate clock enables out ∷ parts) = ap (λ (ns : List ℕ). out ∷ ns) (gate_outs_are parts)

-- a part whose clock gate this is has its nets
gate_of : (p : Part) (x : ClockPart) → In x (part_gate p) → p ≡ part.Gate x.clock x.enables x.out
gate_of (part.Comb buffer ins gates) x has = absurd has
gate_of (part.Flop clock reg) x has = absurd has
gate_of (part.Gate clock enables out) x (inl here) = ap (λ (y : ClockPart). part.Gate y.clock y.enables y.out) here
gate_of (part.Gate clock enables out) x (inr later) = absurd later

-- a clock gate is a part of the circuit
pub part_of_gate : (c : Circuit) (k : ℕ) (x : ClockPart) → slice_get (clock_parts c) k ≡ Some x → Contains c.parts (part.Gate x.clock x.enables x.out)
part_of_gate c k x at =
    let (p, stands, own) = from_flat part_gate x c.parts (In-from_Contains (clock_parts c) x (contains_at (clock_parts c) k x at)) in
    Contains-from_In c.parts (part.Gate x.clock x.enables x.out) (subst (λ (q : Part). In q c.parts) (gate_of p x own) stands)

-- and a part that is one has a place among the clock gates
pub gate_of_part : (c : Circuit) (x : ClockPart) → Contains c.parts (part.Gate x.clock x.enables x.out) → (k : ℕ) × (slice_get (clock_parts c) k ≡ Some x)
gate_of_part c x stands =
    let p : Part = part.Gate x.clock x.enables x.out in
    at_contains (clock_parts c) x (Contains-from_In (clock_parts c) x (In-flat part_gate x p c.parts (In-from_Contains c.parts p stands) (inl refl)))

-- the clock gate at a place of the order stands among the clock gates of the parts, at the place that the order has there
pub record IsFrom (c : Circuit) (places : List ℕ) (k : ℕ) (x : ClockPart) : Type 0 where
  pub place : ℕ
  pub ordered : slice_get places k ≡ Some place
  pub at : slice_get (clock_parts c) place ≡ Some x

-- the order of a circuit's clock gates has each of their places once
order_is : (c : Circuit) (gates : List ClockPart) (is : IsGateOrderOf c gates) → IsRightOrder is.needs is.places
order_is c gates is = order_right is.needs is.places is.found

-- each place of the order has such a clock gate
pub gate_from : (c : Circuit) (gates : List ClockPart) (is : IsGateOrderOf c gates) (k : ℕ) (x : ClockPart) → slice_get gates k ≡ Some x → IsFrom c is.places k x
gate_from c gates is k x at =
    let right = order_is c gates is in
    let (place, ordered, same) = map_from (λ (p : ℕ). slice_index_or (clock_parts c) p no_clock_part) is.places k x
    (subst (λ (xs : List ClockPart). slice_get xs k ≡ Some x) is.is at) in
    let within : place < length (clock_parts c) = omega (arith, right.in_range k place ordered, is.needed.long) in
    let (y, there) = item_at (clock_parts c) place within in
    let own : y ≡ x = sym (get_or_from_slice_get (clock_parts c) place y no_clock_part there) ∙ same in
    record { place = place; ordered = ordered; at = there ∙ ap (λ (z : ClockPart). Some z) own }

-- each clock gate of the order is a part
pub part_at : (c : Circuit) (gates : List ClockPart) → IsGateOrderOf c gates → (k : ℕ) (x : ClockPart) → slice_get gates k ≡ Some x
    → Contains c.parts (part.Gate x.clock x.enables x.out)
part_at c gates is k x at = let from = gate_from c gates is k x at in part_of_gate c from.place x from.at

-- and each clock gate among the parts has a place in the order
pub at_part : (c : Circuit) (gates : List ClockPart) → IsGateOrderOf c gates → (x : ClockPart) → Contains c.parts (part.Gate x.clock x.enables x.out)
    → (k : ℕ) × (slice_get gates k ≡ Some x)
at_part c gates is x stands =
    let right = order_is c gates is in
    let (place, there) = gate_of_part c x stands in
    let within = slice_get_within (clock_parts c) place x there in
    let once = right.each_once place (omega (arith, within, is.needed.long)) in
    let (k, ordered) = at_contains is.places place (counted_contains place is.places (omega (arith, once))) in
    let gate_at : ℕ → ClockPart = λ p. slice_index_or (clock_parts c) p no_clock_part in
    let here : slice_get (map gate_at is.places) k ≡ Some x =
    map_at gate_at is.places k place ordered
    ∙ ap (λ (z : ClockPart). Some z) (get_or_from_slice_get (clock_parts c) place x no_clock_part there) in
    (k, subst (λ (xs : List ClockPart). slice_get xs k ≡ Some x) (sym is.is) here)

-- clock gates of the order that drive one net have one place
out_place : (c : Circuit) (gates : List ClockPart) → IsDrivenOnce c → IsGateOrderOf c gates → (j k : ℕ) (x y : ClockPart) → slice_get gates j ≡ Some x
    → slice_get gates k ≡ Some y → x.out ≡ y.out → j ≡ k
out_place c gates once is j k x y at_x at_y same =
    let right = order_is c gates is in
    let from_x = gate_from c gates is j x at_x in
    let from_y = gate_from c gates is k y at_y in
    let out_of : ClockPart → ℕ = λ z. z.out in
    let most : count_by (λ m. m == y.out) (gate_outs (clock_parts c)) ≤ 1 =
    subst (λ (ns : List ℕ). count_by (λ m. m == y.out) ns ≤ 1) (sym (gate_outs_are c.parts)) (gated_once c once y.out) in
    let first : slice_get (gate_outs (clock_parts c)) from_x.place ≡ Some y.out =
    map_at out_of (clock_parts c) from_x.place x from_x.at ∙ ap (λ (n : ℕ). Some n) same in
    let second = map_at out_of (clock_parts c) from_y.place y from_y.at in
    let one = one_place y.out (gate_outs (clock_parts c)) from_x.place from_y.place most first second in
    let within = right.in_range k from_y.place from_y.ordered in
    one_place from_y.place is.places j k (omega (arith, right.each_once from_y.place within)) (from_x.ordered ∙ ap (λ (n : ℕ). Some n) one)
    from_y.ordered

-- so the number of the net that a clock gate drives is its place in the order
pub place_is : (c : Circuit) (gates : List ClockPart) → IsDrivenOnce c → IsGateOrderOf c gates → (k : ℕ) (x : ClockPart) → slice_get gates k ≡ Some x
    → number_by (gate_outs gates) x.out ≡ k
place_is c gates once is k x at =
    let out_of : ClockPart → ℕ = λ z. z.out in
    number_is (gate_outs gates) x.out k (map_at out_of gates k x at) (λ j there.
    let (y, at_y, same) = map_from out_of gates j x.out there in out_place c gates once is j k y x at_y at same)
