-- The clock tree as rows over the nets, and what stands on it.
use Rattle.std.specs.Prelude.{◌≡◌, ℕ, Bool, true, false, not, ◌&&◌, List, length, Contains}
use Rattle.std.specs.List.{list_any}
use Rattle.sdcv_base.specs.Seqs.{is_marked}
use Rattle.net_model.specs.declared.netlist.Gate.{Gate}
use Rattle.link_defs.specs.declared.circuits.Circuit.{Circuit}
use Rattle.link_defs.specs.declared.circuits.Part.{Part}
use Rattle.link_defs.specs.declared.circuits.Part.TheVariants as part
use Rattle.link_defs.specs.Circuits.{OnTree}
use Rattle.link_defs.specs.Cuts.{Tree}
use Rattle.link_design.specs.declared.tree_rows.ClockRows.{ClockRows}

-- a clock gate gets the clock's complement
pub record IsLossy (c : Circuit) (odd : List Bool) : Type 0 where
  pub clock : ℕ
  pub enables : List ℕ
  pub out : ℕ
  pub stands : Contains c.parts (part.Gate clock enables out)
  pub odd_is : is_marked odd clock ≡ true

-- the nets below the clock, those of them after an odd number of inversions, and those of them that are lost: the others are the clock
-- tree, and where a net is lost a clock gate gets the clock's complement
pub record IsWalked (c : Circuit) (tree odd lost : List Bool) : Type 0 where
  pub tree_len : length tree ≡ c.nets
  pub odd_len : length odd ≡ c.nets
  pub on : (net : ℕ) → is_marked tree net ≡ true → is_marked lost net ≡ false → OnTree c net (is_marked odd net)
  pub all : (net : ℕ) (inverted : Bool) → OnTree c net inverted
      → (is_marked tree net ≡ true) × (is_marked odd net ≡ inverted) × (is_marked lost net ≡ false)
  pub lossy : (net : ℕ) → is_marked tree net ≡ true → is_marked lost net ≡ true → IsLossy c odd

-- the nets of the clock tree, and those of them after an odd number of inversions
pub record IsTreeRow (c : Circuit) (tree odd : List Bool) : Type 0 where
  pub tree_len : length tree ≡ c.nets
  pub odd_len : length odd ≡ c.nets
  pub on : (net : ℕ) → is_marked tree net ≡ true → OnTree c net (is_marked odd net)
  pub all : (net : ℕ) (inverted : Bool) → OnTree c net inverted → (is_marked tree net ≡ true) × (is_marked odd net ≡ inverted)

-- a gate, of a buffer or inverter or not, that reads a net of the clock tree
abbrev pub is_tree_gate : List Bool → Bool → Gate → Bool
is_tree_gate tree buffer g = buffer && list_any (is_marked tree) g.ins

-- a net that one row marks and the other does not
abbrev pub is_left : List Bool → List Bool → ℕ → Bool
is_left marks others net = is_marked marks net && not (is_marked others net)

-- rows of marks as the tree that they mark
abbrev pub tree_of : ClockRows → Tree
tree_of rows = record { all = rows.all; even = rows.even }

-- a net that is not below the clock after an even number of inversions
abbrev pub is_off : List Bool → List Bool → ℕ → Bool
is_off tree odd net = not (is_marked tree net && not (is_marked odd net))

-- a register or a clock gate whose clock pin is such a net
abbrev pub is_off_clock : List Bool → List Bool → Part → Bool
is_off_clock tree odd (part.Comb buffer ins gates) = false
is_off_clock tree odd (part.Flop clock reg) = is_off tree odd clock
is_off_clock tree odd (part.Gate clock enables out) = is_off tree odd clock
