-- The clock gates of a circuit among its parts.
use Rattle.std.proofs.Common.{◌≡◌, ℕ, zero, suc, ◌<◌, ◌≤◌, ◌==◌, List, [], ◌∷◌, length, refl, ap, subst, sym, ◌∙◌}
use Rattle.std.specs.Prelude.{Contains, Some, count_by, flat_map, slice_get, slice_index_or, map}
use Rattle.net_model.specs.Netlist.{AllBelow}
use Rattle.net_model.proofs.Members.{In-from_Contains}
use Rattle.graph_order.proofs.Marked.{at_contains}
use Rattle.link_defs.specs.declared.circuits.Circuit.{Circuit}
use Rattle.link_defs.specs.declared.circuits.Part.{Part}
use Rattle.link_defs.specs.declared.circuits.Part.TheVariants as part
use Rattle.link_defs.specs.Designs.{number_by}
use Rattle.link_defs.specs.Above.{Under}
use Rattle.link_defs.specs.GateOrders.{ClockPart, part_gate, clock_parts, gate_outs, no_clock_part}
use Rattle.link_gates.proofs.GatePlaces.{gate_of_part, gate_outs_are}
use Rattle.link_gates.proofs.Owners.{IsDrivenOnce, gated_once}
use Rattle.link_gates.proofs.OneGated.{AreClocked}
use Rattle.link_gates.proofs.Standing.{gate_above}
use Rattle.link_design.specs.Lawful.{IsLawfulCircuit, IsLawfulPart}
use Rattle.link_design.specs.Made.{IsClocked}
use Rattle.link_design.proofs.DriverPlaces.{number_is}
use Rattle.link_design.proofs.Leading.{map_at}
use Rattle.link_design.proofs.Parted.{all_in, gated_below}
use Rattle.net_link.specs.declared.gate_nets.GateNets.{GateNets}
use Rattle.net_link.specs.GateNets.{part_nets, all_nets, nets_at, parts_of, part_of}

-- the clock gates that are found are those of the parts
parts_are : (parts : List Part) → parts_of (flat_map part_nets parts) ≡ flat_map part_gate parts
parts_are [] = refl
parts_are (part.Comb buffer ins gates ∷ parts) = parts_are parts
parts_are (part.Flop clock reg ∷ parts) = parts_are parts
parts_are (part.Gate clock enables out ∷ parts) =
    let x : ClockPart = record { clock = clock; enables = enables; out = out } in ap (λ (xs : List ClockPart). x ∷ xs) (parts_are parts)

-- so they are those of the circuit
pub all_parts : (c : Circuit) (gates : List GateNets) → gates ≡ all_nets c → parts_of gates ≡ clock_parts c
all_parts c gates is = ap (λ (xs : List GateNets). parts_of xs) is ∙ parts_are c.parts

-- the clock gate at a place, and at none
part_at_place : (gates : List GateNets) (place : ℕ) → part_of (nets_at gates place) ≡ slice_index_or (parts_of gates) place no_clock_part
part_at_place [] place = refl
part_at_place (x ∷ gates) zero = refl
part_at_place (x ∷ gates) (suc place) = part_at_place gates place

-- so those at some places are those of the circuit there
pub parts_at : (gates : List GateNets) (places : List ℕ) → parts_of (map (nets_at gates) places)
    ≡ map (λ (place : ℕ). slice_index_or (parts_of gates) place no_clock_part) places
parts_at gates [] = refl
parts_at gates (place ∷ places) =
    ap (λ (x : ClockPart). x ∷ parts_of (map (nets_at gates) places)) (part_at_place gates place)
    ∙ ap (λ (xs : List ClockPart). slice_index_or (parts_of gates) place no_clock_part ∷ xs) (parts_at gates places)

-- each net is driven by one clock gate at most
pub outs_once : (c : Circuit) → IsDrivenOnce c → (net : ℕ) → count_by (λ m. m == net) (gate_outs (clock_parts c)) ≤ 1
outs_once c once net = subst (λ (ns : List ℕ). count_by (λ m. m == net) ns ≤ 1) (sym (gate_outs_are c.parts)) (gated_once c once net)

-- those that clock gates drive are nets of the circuit
pub outs_below : (c : Circuit) → IsLawfulCircuit c → AllBelow c.nets (gate_outs (clock_parts c))
outs_below c lawful = subst (λ (ns : List ℕ). AllBelow c.nets ns) (sym (gate_outs_are c.parts)) (gated_below c lawful)

-- the clock gate that drives a net has the net's number as its place among the parts
pub record IsGateTo (c : Circuit) (out : ℕ) : Type 0 where
  pub place : ℕ
  pub gate : ClockPart
  pub at : slice_get (clock_parts c) place ≡ Some gate
  pub drives : gate.out ≡ out
  pub number : number_by (gate_outs (clock_parts c)) out ≡ place

-- so has the one that stands above a net
pub gate_to : (c : Circuit) → IsDrivenOnce c → (n out : ℕ) → Under c n (Some out) → IsGateTo c out
gate_to c once n out on =
    let above = gate_above c n out on in
    let x : ClockPart = record { clock = above.clock; enables = above.enables; out = out } in
    let (k, at) = gate_of_part c x above.stands in
    record {
      place = k;
      gate = x;
      at = at;
      drives = refl;
      number =
          number_is (gate_outs (clock_parts c)) out k (outs_once c once out) (map_at (λ (y : ClockPart). y.out) (clock_parts c) k x at);
    }

-- the net that a clock gate drives is one of the circuit's
pub out_within : (c : Circuit) → IsLawfulCircuit c → (clock : ℕ) (enables : List ℕ) (out : ℕ) → Contains c.parts (part.Gate clock enables out) → out < c.nets
out_within c lawful clock enables out stands =
    let p : Part = part.Gate clock enables out in (all_in (IsLawfulPart c.nets) c.parts lawful.parts p (In-from_Contains c.parts p stands)).out_net

-- so are its enables
pub enables_within : (c : Circuit) → IsLawfulCircuit c → (clock : ℕ) (enables : List ℕ) (out : ℕ) → Contains c.parts (part.Gate clock enables out)
    → AllBelow c.nets enables
enables_within c lawful clock enables out stands =
    let p : Part = part.Gate clock enables out in (all_in (IsLawfulPart c.nets) c.parts lawful.parts p (In-from_Contains c.parts p stands)).reads

-- and they are five at most
pub enables_few : (c : Circuit) → IsLawfulCircuit c → (clock : ℕ) (enables : List ℕ) (out : ℕ) → Contains c.parts (part.Gate clock enables out)
    → length enables ≤ 5
enables_few c lawful clock enables out stands =
    let p : Part = part.Gate clock enables out in (all_in (IsLawfulPart c.nets) c.parts lawful.parts p (In-from_Contains c.parts p stands)).few

-- the clock pin of each part that has one is on the clock
pub are_clocked : (c : Circuit) → IsClocked c → AreClocked c
are_clocked c clocked = λ p clock stands has. let (place, at) = at_contains c.parts p stands in clocked.clocks place clock p at has
