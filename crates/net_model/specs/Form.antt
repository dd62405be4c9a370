-- Boolean functions of numbered places: what a `Func` is without the boxes that hold its parts.
use Rattle.std.specs.Prelude.{ℕ, ◌+◌, ◌<◌, Bool, true, false, not, ◌&&◌, ◌||◌, cond}

-- a function as a tree: a place stands for what a pin reads there
pub data Form : Type 0 where
  ZeroForm : Form
  OneForm : Form
  PinForm : (place : ℕ) → Form
  NotForm : (f : Form) → Form
  AndForm : (f g : Form) → Form
  OrForm : (f g : Form) → Form
  XorForm : (f g : Form) → Form

-- exclusive or
abbrev pub xor : Bool → Bool → Bool
xor a b = cond a (not b) b

-- the value of a function, where `bit` gives the bit of each place
abbrev pub value : Form → (ℕ → Bool) → Bool
value ZeroForm bit = false
value OneForm bit = true
value (PinForm i) bit = bit i
value (NotForm f) bit = not (value f bit)
value (AndForm f g) bit = value f bit && value g bit
value (OrForm f g) bit = value f bit || value g bit
value (XorForm f g) bit = xor (value f bit) (value g bit)

-- how many nodes the tree has
abbrev pub node_count : Form → ℕ
node_count ZeroForm = 1
node_count OneForm = 1
node_count (PinForm i) = 1
node_count (NotForm f) = node_count f + 1
node_count (AndForm f g) = node_count f + node_count g + 1
node_count (OrForm f g) = node_count f + node_count g + 1
node_count (XorForm f g) = node_count f + node_count g + 1

-- the function reads places below n alone
abbrev pub IsOver : ℕ → Form → Type 0
IsOver n ZeroForm = Unit {0}
IsOver n OneForm = Unit {0}
IsOver n (PinForm i) = i < n
IsOver n (NotForm f) = IsOver n f
IsOver n (AndForm f g) = IsOver n f × IsOver n g
IsOver n (OrForm f g) = IsOver n f × IsOver n g
IsOver n (XorForm f g) = IsOver n f × IsOver n g
