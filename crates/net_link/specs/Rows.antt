-- What stands above a net, by rows over the nets of a circuit.
use Rattle.std.specs.Prelude.{◌≡◌, ℕ, ◌+◌, ◌<◌, ◌≤◌, ◌==◌, nat_lt, if◌then◌else◌, List, [], ◌∷◌, length, map, Option, Some, None, option_map, slice_get, slice_index_or, count_by}
use Rattle.icg_rewrite.specs.declared.clock_gates.ClockGate.{ClockGate}
use Rattle.link_defs.specs.declared.circuits.Part.{Part}
use Rattle.link_defs.specs.declared.circuits.Part.TheVariants as part
use Rattle.link_defs.specs.declared.circuits.Circuit.{Circuit}
use Rattle.link_defs.specs.Circuits.{all_drivers}
use Rattle.link_defs.specs.Above.{IsAboveRow}
use Rattle.link_defs.specs.GateOrders.{if_any}
use Rattle.link_defs.specs.GatedDesigns.{any_of}
use Rattle.link_design.specs.Lawful.{IsLawfulCircuit}
use Rattle.link_design.specs.Made.{IsClocked}
use Rattle.net_link.specs.declared.gate_nets.GateNets.{GateNets}

-- a lawful circuit on the clock, in whose nets each has one driver at most, and for each net of the clock tree the clock gate above it
pub record IsClockTree (c : Circuit) (above : List (Option ℕ)) : Type 0 where
  pub lawful : IsLawfulCircuit c
  pub once : (net : ℕ) → count_by (λ m. m == net) (all_drivers c) ≤ 1
  pub clocked : IsClocked c
  pub row : IsAboveRow c above

-- what a row of numbers has for a net
abbrev pub number_in : List ℕ → ℕ → ℕ
number_in row net = slice_index_or row net 0

-- the place of the clock gate above a net, if there is one: of the net that this drives, by the row of the places of clock gates
abbrev pub place_above : List (Option ℕ) → List ℕ → ℕ → Option ℕ
place_above above row net = option_map (number_in row) (slice_index_or above net None)

-- what a clock gate needs: the place of the one above it, if there is one
abbrev pub needs_by : List (Option ℕ) → List ℕ → GateNets → List ℕ
needs_by above row x = if_any (place_above above row x.clock)

-- a clock gate by the numbers of its nets
abbrev pub clock_gate : List ℕ → List (Option ℕ) → List ℕ → GateNets → ClockGate
clock_gate numbers above row x = record {
  func = any_of (length x.enables);
  ins = map (number_in numbers) x.enables;
  parent = place_above above row x.clock;
}

-- the place of the clock gate behind which a register stands, if it stands behind one
abbrev pub part_behind : List (Option ℕ) → List ℕ → Part → List (Option ℕ)
part_behind above row (part.Comb buffer ins gates) = []
part_behind above row (part.Flop clock reg) = place_above above row clock ∷ []
part_behind above row (part.Gate clock enables out) = []

-- the number of a net in the rewritten design: its own among the design's nets, and else that of the place of its clock gate after these
abbrev pub enabled_number : ℕ → ℕ → ℕ → ℕ
enabled_number nets number place = if nat_lt number nets then number else nets + place

-- the first so many nets have their numbers in the rewritten design
pub record AreEnabled (nets : ℕ) (numbers row : List ℕ) (count : ℕ) (list : List ℕ) : Type 0 where
  pub len : length list ≡ count
  pub at : (net : ℕ) → net < count → slice_get list net ≡ Some (enabled_number nets (number_in numbers net) (number_in row net))
