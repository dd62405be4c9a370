-- The nets from which gates lead to some nets, and marks of them.
use Rattle.std.specs.Prelude.{◌≡◌, ℕ, ◌≤◌, ◌⊎◌, ◌↔◌, Bool, true, List, length, flat_map, Contains, Option, None, Some, [], slice_get, if◌then◌else◌}
use Rattle.sdcv_base.specs.Seqs.{is_marked}
use Rattle.net_model.specs.Pins.{start_nets}
use Rattle.net_model.specs.declared.netlist.Design.{Design}
use Rattle.net_model.specs.declared.netlist.Gate.{Gate}
use Rattle.net_model.specs.declared.netlist.Reg.{Reg}
use Rattle.net_model.specs.declared.claims.Start.TheVariants.{Reg as RegStart}

-- the net is one of these, or gates lead from it to one of these
pub data LeadsInto (d : Design) (IsOne : ℕ → Type 0) : ℕ → Type 0 where
  At_one : (net : ℕ) → IsOne net → LeadsInto d IsOne net
  Into_gate : (k : ℕ) (g : Gate) (net : ℕ) → slice_get d.gates k ≡ Some g → Contains g.ins net → LeadsInto d IsOne g.out → LeadsInto d IsOne net

-- the nets that a register's pins read, if there is one
abbrev pub ins_of : Option Reg → List ℕ
ins_of None = []
ins_of (Some reg) = reg.ins

-- the nets that the pins of these registers read
abbrev pub pin_nets : Design → List ℕ → List ℕ
pin_nets d regs = flat_map (λ r. ins_of (slice_get d.regs r)) regs

-- the net has a mark
abbrev pub HasMark : List Bool → ℕ → Type 0
HasMark marks net = is_marked marks net ≡ true

-- these nets were marked too, and no others
pub record AreAdded (nets : List ℕ) (before now : List Bool) : Type 0 where
  pub len : length now ≡ length before
  pub kept : (net : ℕ) → HasMark before net → HasMark now net
  pub added : (net : ℕ) → Contains nets net → HasMark now net
  pub only : (net : ℕ) → HasMark now net → HasMark before net ⊎ Contains nets net

-- a gate's pins were marked too, where its output has a mark
abbrev pub IsPassed : Design → ℕ → List Bool → List Bool → Type 0
IsPassed d place before now =
    (g : Gate) × (slice_get d.gates place ≡ Some g) × AreAdded (if is_marked before g.out then g.ins else []) before now

-- the pins of the gates from a place on have marks where the gate's output has one, and only nets that lead into those that
-- were marked before are marked too
pub record AreSwept (d : Design) (place : ℕ) (before now : List Bool) : Type 0 where
  pub len : length now ≡ length before
  pub kept : (net : ℕ) → HasMark before net → HasMark now net
  pub passed : (k : ℕ) (g : Gate) (net : ℕ) → place ≤ k → slice_get d.gates k ≡ Some g → HasMark now g.out → Contains g.ins net → HasMark now net
  pub only : (net : ℕ) → HasMark now net → LeadsInto d (HasMark before) net

-- exactly the nets are marked that lead to a pin of one of these registers
pub record AreLeading (d : Design) (regs : List ℕ) (marks : List Bool) : Type 0 where
  pub len : length marks ≡ d.nets
  pub exact : (net : ℕ) → HasMark marks net ↔ LeadsInto d (Contains (pin_nets d regs)) net

-- an output net of the register has a mark
abbrev pub ShowsMark : Design → List Bool → ℕ → Type 0
ShowsMark d marks r = (net : ℕ) × Contains (start_nets d (RegStart r)) net × HasMark marks net
