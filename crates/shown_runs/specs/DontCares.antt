-- Don't-cares of a stimulus: free bits that may be anything while its violation stands.
use Rattle.std.specs.Prelude.{◌≡◌, ◌↔◌, ℕ, ◌<◌, Bool, true, false, IsTrue, not, ◌&&◌, List, [], length, map, slice_index_or}
use Rattle.std.specs.List.{range_with_len}
use Rattle.net_model.specs.Cycles.{bit_at}
use Rattle.net_model.specs.declared.netlist.Design.{Design}
use Rattle.net_model.specs.declared.cycles.Stimulus.{Stimulus}
use Rattle.net_model.specs.declared.claims.Claim.{Claim}
use Rattle.linked_types.specs.declared.names.Linked.{Linked}
use Rattle.firm_runs.specs.Frees.{is_free, is_given}
use Rattle.firm_runs.specs.Firm.{IsShownFirm}
use Rattle.firm_runs.specs.declared.free_bits.FreeBits.{FreeBits}

-- the inputs that cut cells drive; that an end is read by cut cells alone says nothing of a bit, so no output is a sink here
abbrev pub free_inputs : Linked → FreeBits
free_inputs l = record { first = length l.names.ins; count = length l.names.free; sinks_from = length l.design.outputs }

-- the bit of an input in cycle t is free, and not given
abbrev pub is_loose : Design → FreeBits → ℕ → ℕ → Bool
is_loose d free t i = is_free free i && not (is_given d t i)

-- which bits are so: those of each input, in each of so many cycles
abbrev pub loose_in : Design → FreeBits → ℕ → List Bool
loose_in d free t = map (is_loose d free t) (range_with_len 0 (length d.inputs))

abbrev pub loose_bits : Design → FreeBits → ℕ → List (List Bool)
loose_bits d free cycles = map (loose_in d free) (range_with_len 0 cycles)

-- these bits, or none
abbrev pub loose_if : Bool → Design → FreeBits → ℕ → List (List Bool)
loose_if false d free cycles = []
loose_if true d free cycles = loose_bits d free cycles

-- there are free inputs, and the violation of a stimulus at t stands whatever they do, as three values show it
abbrev pub Stands : Design → FreeBits → Claim → Stimulus → ℕ → Type 0
Stands d free claim s t = (0 < free.count) × IsShownFirm d free claim s t

-- the don't-cares of a stimulus that is violated at t: all its loose bits, where the violation stands whatever they are; else none
pub record AreDontCares (l : Linked) (claim : Claim) (s : Stimulus) (t : ℕ) (marks : List (List Bool)) : Type 0 where
  pub stands : Bool
  pub if_stands : IsTrue stands ↔ Stands l.design (free_inputs l) claim s t
  pub marks_are : marks ≡ loose_if stands l.design (free_inputs l) (length s.inputs)

-- the bit of an input in a cycle is marked
abbrev pub is_marked : List (List Bool) → ℕ → ℕ → Bool
is_marked marks cycle input = bit_at (slice_index_or marks cycle []) input
