-- Inputs that are fixed or reset, and the bits that they have.
use Rattle.std.specs.Prelude.{◌≡◌, ◌≢◌, ℕ, ◌<◌, Bool, not, if◌then◌else◌, List, All, Some, slice_get}
use Rattle.net_model.specs.Cycles.{bit_at}
use Rattle.net_model.specs.declared.netlist.Fixed.{Fixed}

-- the bit that a setting gives its input: its value, or where not active the complement
abbrev pub set_bit : Bool → Fixed → Bool
set_bit active s = if active then s.value else not s.value

-- these input bits are as the settings have them
abbrev pub AreSet : Bool → List Fixed → List Bool → Type 0
AreSet active settings ins = All (λ (s : Fixed). bit_at ins s.input ≡ set_bit active s) settings

-- no input has two settings
abbrev pub AreApart : List Fixed → Type 0
AreApart settings =
    (j k : ℕ) (s t : Fixed) → j < k → slice_get settings j ≡ Some s → slice_get settings k ≡ Some t → s.input ≢ t.input
