-- Inputs that are given a value, by the names of the data inputs.
use Rattle.std.specs.Prelude.{◌≡◌, ◌⊎◌, ℕ, List, map, Contains, Some, slice_get}
use Rattle.std.specs.List.{AllZip}
use Rattle.sdcv_base.specs.declared.settings.Setting.{Setting}
use Rattle.net_model.specs.declared.netlist.Fixed.{Fixed}
use Rattle.linked_types.specs.declared.options.LinkOptions.{LinkOptions}
use Rattle.linked_types.specs.declared.faults.LinkFault.{LinkFault}
use Rattle.linked_types.specs.declared.faults.LinkFault.TheVariants as fault
use Rattle.link_defs.specs.Faults.{StandsTwice}
use Rattle.link_design.specs.declared.designs.Held.{Held}

-- the names of settings
abbrev pub setting_names : List Setting → List (List ℕ)
setting_names settings = map (λ (x : Setting). x.name) settings

-- the setting names the data input at that place, and gives its value
pub record IsGiven (ins : List (List ℕ)) (setting : Setting) (f : Fixed) : Type 0 where
  pub name : slice_get ins f.input ≡ Some setting.name
  pub value : f.value ≡ setting.value

-- what the options set
pub record IsHeldAt (ins : List (List ℕ)) (o : LinkOptions) (h : Held) : Type 0 where
  pub fixed : AllZip (IsGiven ins) o.fixed h.fixed
  pub resets : AllZip (IsGiven ins) o.resets h.resets
  pub reset_len : h.reset_len ≡ o.reset_len

-- the name is no data input, or is given twice
abbrev pub IsUnfitName : List (List ℕ) → List (List ℕ) → List ℕ → Type 0
IsUnfitName ins given name = (Contains given name × (Contains ins name → ⊥)) ⊎ StandsTwice given name

-- what a refusal of these names says; want of memory alone is free
abbrev pub IsUnfit : List (List ℕ) → List (List ℕ) → LinkFault → Type 0
IsUnfit ins given (fault.BadSetting name) = IsUnfitName ins given name
IsUnfit ins given fault.Memory = Unit {0}
IsUnfit ins given f = ⊥
