-- What drives each net.
use Rattle.std.specs.Prelude.{◌≡◌, ◌<◌, ℕ, Bool, true, not, List, length, Option, Some, None, slice_get, slice_index_or}
use Rattle.net_model.specs.declared.netlist.Design.{Design}
use Rattle.query_model.specs.Keys.{key, lit}
use Rattle.query_model.specs.Reads.{bit_key, read_base}
use Rattle.query_model.specs.declared.keys.KeyLit.{KeyLit}
use Rattle.frame_unroll.specs.declared.drivers.Driver.{Driver}
use Rattle.frame_unroll.specs.declared.drivers.Driver.TheVariants.{Own, Bit}

abbrev pub driver_at : List Driver → ℕ → Driver
driver_at drivers n = slice_index_or drivers n Own

-- the bit of register r where an output shows it, else the rest
abbrev pub shown_or : Driver → ℕ → Option Bool → Driver
shown_or rest r None = rest
shown_or rest r (Some inverted) = Bit r inverted

-- the literal of a net in layer 0, by its driver
abbrev pub driver_lit : Design → ℕ → ℕ → Driver → KeyLit
driver_lit d c n Own = lit true (key c 0 0 n)
driver_lit d c n (Bit r inverted) = lit (not inverted) (bit_key d c r)

-- a register of the design, if any
abbrev pub IsDriverIn : Design → Driver → Type 0
IsDriverIn d Own = Unit {0}
IsDriverIn d (Bit r inverted) = r < length d.regs

-- a driver for each net, by which it is read in layer 0 of every cycle
pub record AreDrivers (d : Design) (drivers : List Driver) : Type 0 where
  pub len : length drivers ≡ d.nets
  pub in_range : (n : ℕ) (driver : Driver) → slice_get drivers n ≡ Some driver → IsDriverIn d driver
  pub reads : (n : ℕ) (driver : Driver) → slice_get drivers n ≡ Some driver → (c : ℕ) → driver_lit d c n driver ≡ read_base d c n
