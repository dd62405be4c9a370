-- How a late start moves nets: those that it moves in a layer are listed, and the list grows.
use Rattle.std.specs.Prelude.{◌≡◌, ◌<◌, ◌==◌, ◌⊎◌, ℕ, suc, Bool, true, false, List, length, map, Contains, Some, slice_get, slice_index}
use Rattle.std.specs.List.{list_any}
use Rattle.net_model.specs.Paths.{LeadsTo}
use Rattle.net_model.specs.Pins.{is_in}
use Rattle.net_model.specs.Layers.{net_at, held_set, pin_reads, layer_pins}
use Rattle.net_model.specs.declared.netlist.Design.{Design}
use Rattle.net_model.specs.declared.netlist.Gate.{Gate}
use Rattle.net_model.specs.declared.claims.PinRef.{PinRef}
use Rattle.net_model.specs.declared.claims.PinRef.TheVariants.{Net, GateIn}
use Rattle.query_model.specs.Keys.{below}
use Rattle.query_model.specs.Reads.{any_below}

-- in a layer each gate output that isn't in its set is moved where a pin of the gate reads a moved net
abbrev pub AreGatesMoved : Design → List (List PinRef) → List (List Bool) → ℕ → Type 0
AreGatesMoved d sets rows l =
    (k : ℕ) (g : Gate) → slice_get d.gates k ≡ Some g → is_in (Net g.out) (held_set sets l) ≡ false
    → net_at false rows l g.out ≡ any_below (length g.ins) (layer_pins false sets rows l k g.ins)

-- a mark for each of so many nets: whether it is listed
abbrev pub marks_of : ℕ → List ℕ → List Bool
marks_of count nets = map (λ n. list_any (λ m. n == m) nets) (below count)

-- such marks for the list of each layer
abbrev pub rows_of : ℕ → List (List ℕ) → List (List Bool)
rows_of count layers = map (marks_of count) layers

-- exactly the nets of which it holds are listed
pub record AreThose (Holds : ℕ → Type 0) (nets : List ℕ) : Type 0 where
  pub only : (n : ℕ) → Contains nets n → Holds n
  pub all : (n : ℕ) → Holds n → Contains nets n

-- exactly the nets of which it holds are listed too, after those that were listed
pub record Lists (Holds : ℕ → Type 0) (old new : List ℕ) : Type 0 where
  pub places : (i n : ℕ) → slice_get old i ≡ Some n → slice_get new i ≡ Some n
  pub only : (n : ℕ) → Contains new n → Contains old n ⊎ Holds n
  pub all : (n : ℕ) → Holds n → Contains new n

-- in a layer a pin that reads a moved net moves the output of its gate, where the layer's set has neither the pin nor the driver
-- pin of that output
pub data PinMoves (d : Design) (sets : List (List PinRef)) (l : ℕ) : PinRef → ℕ → Type 0 where
  Gate_moves : (k i : ℕ) (g : Gate) → slice_get d.gates k ≡ Some g → is_in (GateIn k i) (held_set sets l) ≡ false
      → is_in (Net g.out) (held_set sets l) ≡ false → PinMoves d sets l (GateIn k i) g.out

-- so a net moves what the pins that read it move
abbrev pub NetMoves : Design → List (List PinRef) → ℕ → ℕ → ℕ → Type 0
NetMoves d sets l net n = (pin : PinRef) × LeadsTo d (Net net) pin × PinMoves d sets l pin n

-- some nets of a layer, those that they move, and so on
pub record IsSpread (d : Design) (sets : List (List PinRef)) (l : ℕ) (first found : List ℕ) : Type 0 where
  pub kept : (n : ℕ) → Contains first n → Contains found n
  pub only : (n : ℕ) → Contains found n → Contains first n ⊎ ((m : ℕ) × Contains found m × NetMoves d sets l m n)
  pub all : (m n : ℕ) → Contains found m → NetMoves d sets l m n → Contains found n

-- a pin in the set of layer l + 1 moves a net there: as a driver pin its own net, where that is moved in layer l; as a gate's pin
-- that reads a moved net in layer l the gate's output, unless the set has the driver pin of that output
pub data SetMoves (d : Design) (sets : List (List PinRef)) (rows : List (List Bool)) (l : ℕ) : PinRef → ℕ → Type 0 where
  Driver_moves : (n : ℕ) → net_at false rows l n ≡ true → SetMoves d sets rows l (Net n) n
  Taken_moves : (k i : ℕ) (g : Gate) → slice_get d.gates k ≡ Some g → i < length g.ins → is_in (Net g.out) (held_set sets (suc l)) ≡ false
      → pin_reads false sets rows l (GateIn k i) (slice_index g.ins i) ≡ true → SetMoves d sets rows l (GateIn k i) g.out

-- the nets that the set of layer l + 1 moves there
abbrev pub IsTaken : Design → List (List PinRef) → List (List Bool) → ℕ → ℕ → Type 0
IsTaken d sets rows l n = (pin : PinRef) × Contains (held_set sets (suc l)) pin × SetMoves d sets rows l pin n
