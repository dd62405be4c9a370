-- The parts that hand the clock on, by the net that they read it from.
use Rattle.std.specs.Prelude.{◌≡◌, ℕ, ◌<◌, true, false, List, [], ◌∷◌, ◌++◌, length, Contains, Option, Some, None, slice_get, slice_index_or, slice_set}
use Rattle.net_model.specs.declared.netlist.Gate.{Gate}
use Rattle.link_defs.specs.declared.circuits.Circuit.{Circuit}
use Rattle.link_defs.specs.declared.circuits.Part.{Part}
use Rattle.link_defs.specs.declared.circuits.Part.TheVariants as part
use Rattle.link_design.specs.declared.branches.Branch.{Branch}
use Rattle.link_design.specs.Branches.{past_buffer, past_gate}

-- the net from which a part hands the clock on: what a buffer or an inverter reads, or the clock pin of a clock gate
abbrev pub hands_from : Part → Option ℕ
hands_from (part.Comb true ins gates) = slice_get ins 0
hands_from (part.Comb false ins gates) = None
hands_from (part.Flop clock reg) = None
hands_from (part.Gate clock enables out) = Some clock

-- a net to which it hands the clock on from a branch, and the branch of this net
abbrev pub HandsTo : Part → Branch → ℕ → Branch → Type 0
HandsTo (part.Comb buffer ins gates) b net new = (g : Gate) × Contains gates g × (g.out ≡ net) × (past_buffer b g.func ≡ new)
HandsTo (part.Flop clock reg) b net new = ⊥
HandsTo (part.Gate clock enables out) b net new = (out ≡ net) × (past_gate b out ≡ new)

-- the places that stand in the list of a net
abbrev pub readers_at : List (List ℕ) → ℕ → List ℕ
readers_at rows net = slice_index_or rows net []

-- one more place in the list of a net
abbrev pub with_reader_at : ℕ → List (List ℕ) → ℕ → List (List ℕ)
with_reader_at place rows net = slice_set rows net (readers_at rows net ++ place ∷ [])

-- in the list of the net from which the part at the place hands the clock on, if it does
abbrev pub with_reader : ℕ → List (List ℕ) → Part → List (List ℕ)
with_reader place rows p = elim (hands_from p) [ None ↦ rows | Some net ↦ with_reader_at place rows net ]

-- the list of each net has the places of those of the first parts that hand the clock on from it, and of no other part
pub record AreReadersTo (c : Circuit) (k : ℕ) (rows : List (List ℕ)) : Type 0 where
  pub len : length rows ≡ c.nets
  pub hand : (net place : ℕ) → Contains (readers_at rows net) place → (p : Part) × (slice_get c.parts place ≡ Some p) × (hands_from p ≡ Some net)
  pub all : (net place : ℕ) (p : Part) → place < k → slice_get c.parts place ≡ Some p → hands_from p ≡ Some net → Contains (readers_at rows net) place

-- the list of each net has the places of the parts that hand the clock on from it
abbrev pub AreReaders : Circuit → List (List ℕ) → Type 0
AreReaders c rows = AreReadersTo c (length c.parts) rows
