-- The clock gates of a flat netlist in their order.
use Rattle.std.specs.Prelude.{◌≡◌, ℕ, List, [], ◌∷◌, length, map, flat_map, Option, Some, None, option_map, slice_get, slice_index_or, Ok}
use Rattle.graph_order.specs.Orders.{order_of}
use Rattle.link_defs.specs.declared.circuits.Part.{Part}
use Rattle.link_defs.specs.declared.circuits.Part.TheVariants as part
use Rattle.link_defs.specs.declared.circuits.Circuit.{Circuit}
use Rattle.link_defs.specs.Designs.{number_by}
use Rattle.link_defs.specs.Above.{Under}

-- a clock gate: the nets of its clock pin and of its enables, and the net that it drives
pub record ClockPart : Type 0 where
  pub clock : ℕ
  pub enables : List ℕ
  pub out : ℕ

-- the clock gate that a part is, if it is one
abbrev pub part_gate : Part → List ClockPart
part_gate (part.Comb buffer ins gates) = []
part_gate (part.Flop clock reg) = []
part_gate (part.Gate clock enables out) = (record { clock = clock; enables = enables; out = out }) ∷ []

-- the clock gates in the order of the parts
abbrev pub clock_parts : Circuit → List ClockPart
clock_parts c = flat_map part_gate c.parts

-- the nets that they drive
abbrev pub gate_outs : List ClockPart → List ℕ
gate_outs gates = map (λ (x : ClockPart). x.out) gates

-- the place among these of the clock gate that drives a net
abbrev pub place_in : List ClockPart → Option ℕ → Option ℕ
place_in gates up = option_map (number_by (gate_outs gates)) up

-- none, or one
abbrev pub if_any : Option ℕ → List ℕ
if_any None = []
if_any (Some k) = k ∷ []

-- each clock gate needs the one above it, if there is one
pub record AreGateNeeds (c : Circuit) (needs : List (List ℕ)) : Type 0 where
  pub long : length needs ≡ length (clock_parts c)
  pub each : (k : ℕ) (x : ClockPart) (up : Option ℕ) → slice_get (clock_parts c) k ≡ Some x → Under c x.clock up
      → slice_get needs k ≡ Some (if_any (place_in (clock_parts c) up))

-- a clock gate for a place that is none
abbrev pub no_clock_part : ClockPart
no_clock_part = record { clock = 0; enables = []; out = 0 }

-- depth first, from the clock gates in the order of the parts, each after the one above it
pub record IsGateOrderOf (c : Circuit) (gates : List ClockPart) : Type 0 where
  pub needs : List (List ℕ)
  pub needed : AreGateNeeds c needs
  pub places : List ℕ
  pub found : order_of needs ≡ Ok places
  pub is : gates ≡ map (λ (place : ℕ). slice_index_or (clock_parts c) place no_clock_part) places
