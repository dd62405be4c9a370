-- Inputs and starts whose bit the environment holds.
use Rattle.std.specs.Prelude.{ℕ, zero, suc, ◌+◌, Bool, ◌||◌, ◌==◌, if◌then◌else◌, Contains}
use Rattle.std.specs.List.{list_any}
use Rattle.net_model.specs.Netlist.{held_inputs}
use Rattle.net_model.specs.declared.netlist.Design.{Design}
use Rattle.net_model.specs.declared.netlist.Fixed.{Fixed}
use Rattle.net_model.specs.declared.claims.Start.{Start}
use Rattle.net_model.specs.declared.claims.Start.TheVariants.{Reg as RegStart, Input as InputStart}

-- the start is a fixed or a reset input
abbrev pub IsHeldStart : Design → Start → Type 0
IsHeldStart d (RegStart r) = ⊥
IsHeldStart d (InputStart i) = Contains (held_inputs d) i

-- whether a setting is of this input
abbrev pub sets : ℕ → Fixed → Bool
sets input s = s.input == input

-- whether an input is fixed or reset
abbrev pub is_held : Design → ℕ → Bool
is_held d input = list_any (sets input) d.fixed || list_any (sets input) d.resets

-- how many inputs below this number are free, that is neither fixed nor reset
unfoldable pub free_below : Design → ℕ → ℕ
free_below d zero = 0
free_below d (suc k) = free_below d k + (if is_held d k then 0 else 1)
