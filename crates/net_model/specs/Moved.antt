-- The nets whose value may change where a start comes late: those to which the late value comes through the sets.
use Rattle.std.specs.Prelude.{◌≡◌, ℕ, zero, suc, ◌+◌, ◌<◌, ◌≤◌, ◌||◌, ◌↔◌, Bool, true, false, List, length, Some, slice_get, slice_index, All, Contains}
use Rattle.net_model.specs.Netlist.{source_nets}
use Rattle.net_model.specs.Pins.{is_in, start_nets}
use Rattle.net_model.specs.Layers.{net_at, held_set, pin_reads, layer_pins}
use Rattle.net_model.specs.Paths.{HasPath}
use Rattle.net_model.specs.declared.netlist.Design.{Design}
use Rattle.net_model.specs.declared.netlist.Gate.{Gate}
use Rattle.net_model.specs.declared.netlist.Reg.{Reg}
use Rattle.net_model.specs.declared.claims.Claim.{Claim}
use Rattle.net_model.specs.declared.claims.PinRef.{PinRef}
use Rattle.net_model.specs.declared.claims.PinRef.TheVariants.{Net, RegIn, OutPort}
use Rattle.net_model.specs.declared.claims.End.{End}
use Rattle.net_model.specs.declared.claims.End.TheVariants.{Reg as RegEnd, Output as OutputEnd}

-- whether a number below n has a mark
abbrev pub any_below : ℕ → (ℕ → Bool) → Bool
any_below zero f = false
any_below (suc n) f = any_below n f || f n

-- a row of marks for each layer, of the nets that a late start moves in it
pub record AreMoved (d : Design) (claim : Claim) (rows : List (List Bool)) : Type 0 where
  -- there is a row for the first layer, and one for each set
  pub count : length rows ≡ length claim.through + 1
  -- it has a mark for each net
  pub lens : All (λ row. length row ≡ d.nets) rows
  -- in the first layer the start's nets are moved
  pub late : (n : ℕ) → Contains (start_nets d claim.start) n → net_at false rows 0 n ≡ true
  -- and no other inputs and register outputs
  pub others : (n : ℕ) → Contains (source_nets d) n → ¬ Contains (start_nets d claim.start) n → net_at false rows 0 n ≡ false
  -- in each layer after it a net whose driver pin is in the layer's set is moved where it is in the layer before
  pub held : (l : ℕ) → l < length claim.through → (n : ℕ) → n < d.nets → is_in (Net n) (held_set claim.through (suc l)) ≡ true
      → net_at false rows (l + 1) n ≡ net_at false rows l n
  -- and no other inputs and register outputs are, those of the start neither
  pub sources : (l : ℕ) → l < length claim.through → (n : ℕ) → Contains (source_nets d) n → is_in (Net n) (held_set claim.through (suc l)) ≡ false
      → net_at false rows (l + 1) n ≡ false
  -- in each layer every other gate output is moved where a pin of the gate reads a moved net
  pub gates : (l : ℕ) → l ≤ length claim.through → (k : ℕ) (g : Gate) → slice_get d.gates k ≡ Some g → is_in (Net g.out) (held_set claim.through l) ≡ false
      → net_at false rows l g.out ≡ any_below (length g.ins) (layer_pins false claim.through rows l k g.ins)

-- in the last layer this pin, which is on this net, reads a moved net
abbrev pub ReadsMovedLast : List (List PinRef) → List (List Bool) → PinRef → ℕ → Type 0
ReadsMovedLast sets rows pin net = pin_reads false sets rows (length sets) pin net ≡ true

-- in the last layer a pin of the end register, or the end output port, reads a moved net
abbrev pub IsEndMoved : Design → List (List PinRef) → List (List Bool) → End → Type 0
IsEndMoved d sets rows (RegEnd r) =
    (reg : Reg) × (slice_get d.regs r ≡ Some reg) × ((i : ℕ) × (i < length reg.ins) × ReadsMovedLast sets rows (RegIn r i) (slice_index reg.ins i))
IsEndMoved d sets rows (OutputEnd o) = ReadsMovedLast sets rows (OutPort o) (slice_index d.outputs o)

-- the end reads a moved net in the last layer exactly where a path from the start to it meets the through sets
abbrev pub IsMovedByPaths : Design → Claim → Type 0
IsMovedByPaths d claim =
    (rows : List (List Bool)) → AreMoved d claim rows → (IsEndMoved d claim.through rows claim.end ↔ HasPath d claim.start claim.end claim.through)
