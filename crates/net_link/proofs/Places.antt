-- The places of clock gates by rows over the nets, and their order.
use Rattle.std.proofs.Common.{◌≡◌, ℕ, zero, suc, ◌<◌, ◌≤◌, ◌==◌, List, [], ◌∷◌, length, map, take, refl, ap, subst, sym, ◌∙◌, arith}
use Rattle.std.specs.Prelude.{Contains, Option, Some, None, Ok, count_by, option_map, slice_get, slice_index_or}
use Rattle.std.proofs.lemmas.List.{length-map}
use Rattle.std.proofs.lemmas.Option.{get_or_from_slice_get, slice_get_within}
use Rattle.net_model.specs.Netlist.{AllBelow}
use Rattle.net_model.proofs.Members.{Contains-from_In, from_map}
use Rattle.graph_order.specs.Needs.{needs_of}
use Rattle.graph_order.specs.Orders.{order_of}
use Rattle.graph_order.proofs.Marked.{at_contains}
use Rattle.graph_order.proofs.Told.{order_right}
use Rattle.icg_rewrite.specs.Gated.{IsBelowIfAny}
use Rattle.link_defs.specs.declared.circuits.Circuit.{Circuit}
use Rattle.link_defs.specs.Designs.{number_by}
use Rattle.link_defs.specs.Above.{Under, IsAboveRow}
use Rattle.link_defs.specs.GateOrders.{ClockPart, clock_parts, gate_outs, place_in, if_any, no_clock_part, AreGateNeeds, IsGateOrderOf}
use Rattle.link_gates.proofs.Owners.{IsDrivenOnce}
use Rattle.link_gates.proofs.GatePlaces.{gate_from, part_at, at_part, place_is}
use Rattle.link_gates.proofs.Standing.{gate_above}
use Rattle.link_design.specs.Lawful.{IsLawfulCircuit}
use Rattle.link_design.specs.Rows.{IsDriverRow}
use Rattle.link_design.proofs.DriverPlaces.{counted_once}
use Rattle.link_design.proofs.Leading.{map_at, map_from}
use Rattle.link_design.proofs.Parted.{all_from_in}
use Rattle.net_link.specs.declared.gate_nets.GateNets.{GateNets}
use Rattle.net_link.specs.GateNets.{all_nets, nets_at, part_of, parts_of, outs_of}
use Rattle.net_link.specs.Rows.{number_in, place_above, needs_by, IsClockTree}
use Rattle.net_link.proofs.ClockParts.{all_parts, parts_at, outs_once, outs_below, gate_to, out_within}

-- the place of the clock gate that drives a net, by the row of the places
place_of_up : (c : Circuit) (row : List ℕ) (gates : List ClockPart) → IsLawfulCircuit c → IsDriverRow (gate_outs gates) c.nets row → (net : ℕ)
    (up : Option ℕ) → Under c net up → option_map (number_in row) up ≡ place_in gates up
place_of_up c row gates lawful is net None on = refl
place_of_up c row gates lawful is net (Some out) on =
    let above = gate_above c net out on in
    let there = is.at out (out_within c lawful above.clock above.enables out above.stands) in
    ap (λ (k : ℕ). Some k) (get_or_from_slice_get row out (number_by (gate_outs gates) out) 0 there)

-- the place of the clock gate above a net, by both rows
pub place_above_is : (c : Circuit) (above : List (Option ℕ)) (row : List ℕ) (gates : List ClockPart) → IsLawfulCircuit c → IsAboveRow c above
    → IsDriverRow (gate_outs gates) c.nets row → (net : ℕ) (up : Option ℕ) → Under c net up → place_above above row net ≡ place_in gates up
place_above_is c above row gates lawful above_is is net up on =
    ap (λ (o : Option ℕ). option_map (number_in row) o) (get_or_from_slice_get above net up None (above_is net up on))
    ∙ place_of_up c row gates lawful is net up on

-- what the clock gates need is the one above each of them
pub needs_are : (c : Circuit) (above : List (Option ℕ)) (row : List ℕ) (gates : List GateNets) → IsClockTree c above → gates ≡ all_nets c
    → IsDriverRow (outs_of gates) c.nets row → AreGateNeeds c (map (needs_by above row) gates)
needs_are c above row gates tree all is =
    let same = all_parts c gates all in
    record {
      long = length-map gates (needs_by above row) ∙ sym (length-map gates part_of) ∙ ap (λ (xs : List ClockPart). length xs) same;
      each = λ k x up at on.
          let (y, there, own) = map_from part_of gates k x (subst (λ (xs : List ClockPart). slice_get xs k ≡ Some x) (sym same) at) in
          let clock : y.clock ≡ x.clock = ap (λ (z : ClockPart). z.clock) own in
          let place : place_above above row y.clock ≡ place_in (clock_parts c) up =
          ap (λ (n : ℕ). place_above above row n) clock
          ∙ (place_above_is c above row (parts_of gates) tree.lawful tree.row is x.clock up on
          ∙ ap (λ (xs : List ClockPart). place_in xs up) same) in
          map_at (needs_by above row) gates k y there ∙ ap (λ (o : Option ℕ). Some (if_any o)) place;
    }

-- the clock gates in the order of their needs
pub order_is : (c : Circuit) (above : List (Option ℕ)) (row places : List ℕ) (gates : List GateNets) → IsClockTree c above → gates ≡ all_nets c
    → IsDriverRow (outs_of gates) c.nets row → order_of (map (needs_by above row) gates) ≡ Ok places
    → IsGateOrderOf c (parts_of (map (nets_at gates) places))
order_is c above row places gates tree all is found = record {
  needs = map (needs_by above row) gates;
  needed = needs_are c above row gates tree all is;
  places = places;
  found = found;
  is = parts_at gates places
      ∙ ap (λ (xs : List ClockPart). map (λ (place : ℕ). slice_index_or xs place no_clock_part) places) (all_parts c gates all);
}

-- what the clock gates of the parts drive is a net of the circuit
pub all_below : (c : Circuit) (gates : List GateNets) → IsLawfulCircuit c → gates ≡ all_nets c → AllBelow c.nets (outs_of gates)
all_below c gates lawful all = subst (λ (xs : List ClockPart). AllBelow c.nets (gate_outs xs)) (sym (all_parts c gates all)) (outs_below c lawful)

-- each of these nets is driven by one clock gate
pub all_once : (c : Circuit) (gates : List GateNets) → IsDrivenOnce c → gates ≡ all_nets c → (net : ℕ) → count_by (λ m. m == net) (outs_of gates) ≤ 1
all_once c gates once all net =
    subst (λ (xs : List ClockPart). count_by (λ m. m == net) (gate_outs xs) ≤ 1) (sym (all_parts c gates all)) (outs_once c once net)

-- what clock gates in their order drive is a net of the circuit
pub order_below : (c : Circuit) (gates : List ClockPart) → IsLawfulCircuit c → IsGateOrderOf c gates → AllBelow c.nets (gate_outs gates)
order_below c gates lawful is = all_from_in (λ (n : ℕ). n < c.nets) (gate_outs gates) (λ n has.
    let (x, there, out) = from_map (λ (y : ClockPart). y.out) n gates has in
    let (k, at) = at_contains gates x (Contains-from_In gates x there) in
    subst (λ (m : ℕ). m < c.nets) out (out_within c lawful x.clock x.enables x.out (part_at c gates is k x at)))

-- each of these nets has one place
out_number : (c : Circuit) (gates : List ClockPart) → IsDrivenOnce c → IsGateOrderOf c gates → (net k : ℕ) → slice_get (gate_outs gates) k ≡ Some net
    → number_by (gate_outs gates) net ≡ k
out_number c gates once is net k at =
    let (x, there, out) = map_from (λ (y : ClockPart). y.out) gates k net at in
    ap (λ (n : ℕ). number_by (gate_outs gates) n) (sym out) ∙ place_is c gates once is k x there

-- so each is driven by one clock gate
pub order_once : (c : Circuit) (gates : List ClockPart) → IsDrivenOnce c → IsGateOrderOf c gates → (net : ℕ)
    → count_by (λ m. m == net) (gate_outs gates) ≤ 1
order_once c gates once is net = counted_once (gate_outs gates) net (λ i j less at_i at_j.
    absurd (omega (arith, less, out_number c gates once is net i at_i, out_number c gates once is net j at_j)))

-- what stands among the first items stands at a place of the list below their number
taken_at : {X : Type 0} (k : ℕ) (xs : List X) (i : ℕ) (x : X) → slice_get (take k xs) i ≡ Some x → (i < k) × (slice_get xs i ≡ Some x)
taken_at zero xs i x at = cc
taken_at (suc k) [] i x at = cc
taken_at (suc k) (y ∷ xs) zero x at = (omega arith, at)
taken_at (suc k) (y ∷ xs) (suc i) x at = let (less, there) = taken_at k xs i x at in (omega (arith, less), there)

-- the clock gate at a place of the order, by its place among the parts
order_place : (c : Circuit) (gates : List ClockPart) (is : IsGateOrderOf c gates) (j place : ℕ) (x : ClockPart) → slice_get is.places j ≡ Some place
    → slice_get (clock_parts c) place ≡ Some x → slice_get gates j ≡ Some x
order_place c gates is j place x ordered at =
    ap (λ (xs : List ClockPart). slice_get xs j) is.is
    ∙ (map_at (λ (p : ℕ). slice_index_or (clock_parts c) p no_clock_part) is.places j place ordered
    ∙ ap (λ (z : ClockPart). Some z) (get_or_from_slice_get (clock_parts c) place x no_clock_part at))

-- the clock gate above one of the order comes before it
pub parent_below : (c : Circuit) (gates : List ClockPart) → IsDrivenOnce c → IsGateOrderOf c gates → (k : ℕ) (x : ClockPart) (up : Option ℕ)
    → slice_get gates k ≡ Some x → Under c x.clock up → IsBelowIfAny k (place_in gates up)
parent_below c gates once is k x None at on = tt
parent_below c gates once is k x (Some out) at on =
    let right = order_right is.needs is.places is.found in
    let from = gate_from c gates is k x at in
    let to = gate_to c once x.clock out on in
    let wants : needs_of is.needs from.place ≡ number_by (gate_outs (clock_parts c)) out ∷ [] =
    get_or_from_slice_get is.needs from.place (number_by (gate_outs (clock_parts c)) out ∷ []) []
    (is.needed.each from.place x (Some out) from.at on) in
    let asked : Contains (needs_of is.needs from.place) to.place = subst (λ (ns : List ℕ). Contains ns to.place) (sym wants) (0, omega arith, to.number) in
    let within = slice_get_within (clock_parts c) to.place to.gate to.at in
    let before = right.earlier k from.place to.place from.ordered asked (omega (arith, within, is.needed.long)) in
    let (j, first) = at_contains (take k is.places) to.place before in
    let (less, at_j) = taken_at k is.places j to.place first in
    let here = place_is c gates once is j to.gate (order_place c gates is j to.place to.gate at_j to.at) in
    omega (arith, less, here, ap (λ (n : ℕ). number_by (gate_outs gates) n) to.drives)

-- the clock gate above any net is one of the order
pub place_below : (c : Circuit) (gates : List ClockPart) → IsDrivenOnce c → IsGateOrderOf c gates → (net : ℕ) (up : Option ℕ) → Under c net up
    → IsBelowIfAny (length gates) (place_in gates up)
place_below c gates once is net None on = tt
place_below c gates once is net (Some out) on =
    let above = gate_above c net out on in
    let x : ClockPart = record { clock = above.clock; enables = above.enables; out = out } in
    let (j, at) = at_part c gates is x above.stands in
    omega (arith, slice_get_within gates j x at, place_is c gates once is j x at)
