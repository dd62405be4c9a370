-- Inputs that have a setting.
use Rattle.std.proofs.Common.{◌≡◌, ◌≢◌, ℕ, List, Some, ap, subst, sym, ◌∙◌, inl, inr}
use Rattle.std.specs.Prelude.{Contains, slice_get}
use Rattle.std.proofs.lemmas.Option.{slice_get_within, get_or_from_slice_get, slice_get-get_or}
use Rattle.std.proofs.lemmas.List.Elements.{Contains-append_left, Contains-append_right, Contains-append_cases}
use Rattle.net_model.specs.Netlist.{setting_inputs}
use Rattle.net_model.specs.Held.{IsHeldStart}
use Rattle.net_model.proofs.Members.{In-from_Contains, Contains-from_In, In-map, from_map}
use Rattle.net_model.specs.declared.netlist.Design.{Design}
use Rattle.net_model.specs.declared.netlist.Fixed.{Fixed}
use Rattle.net_model.specs.declared.claims.Start.{Start}
use Rattle.net_model.specs.declared.claims.Start.TheVariants.{Input as InputStart}

-- an input whose setting stands in the list has one
pub has_setting : (settings : List Fixed) (k : ℕ) (s : Fixed) (input : ℕ) → slice_get settings k ≡ Some s → s.input ≡ input
    → Contains (setting_inputs settings) input
has_setting settings k s input at same =
    let has : Contains settings s = (k, slice_get_within settings k s at, get_or_from_slice_get settings k s s at) in
    subst (Contains (setting_inputs settings)) same
    (Contains-from_In (setting_inputs settings) s.input (In-map (λ (f : Fixed). f.input) s settings (In-from_Contains settings s has)))

-- an input that is in no setting of the list has none
pub has_none : (settings : List Fixed) (input : ℕ) → ((j : ℕ) (s : Fixed) → slice_get settings j ≡ Some s → s.input ≢ input)
    → ¬ Contains (setting_inputs settings) input
has_none settings input none has =
    let found = from_map (λ (f : Fixed). f.input) input settings (In-from_Contains (setting_inputs settings) input has) in
    let there = Contains-from_In settings found.0 found.1 in
    none there.0 found.0 (slice_get-get_or settings there.0 found.0 there.1 ∙ ap Some there.2) found.2

-- an input is held by its settings or by its resets
pub held_where_set : (d : Design) (start : Start) (input : ℕ) → start ≡ InputStart input → Contains (setting_inputs d.fixed) input → IsHeldStart d start
held_where_set d start input is has =
    subst (IsHeldStart d) (sym is) (Contains-append_left (setting_inputs d.fixed) (setting_inputs d.resets) input has)

pub held_where_reset : (d : Design) (start : Start) (input : ℕ) → start ≡ InputStart input → Contains (setting_inputs d.resets) input
    → IsHeldStart d start
held_where_reset d start input is has =
    subst (IsHeldStart d) (sym is) (Contains-append_right (setting_inputs d.fixed) (setting_inputs d.resets) input has)

pub reset_where_held : (d : Design) (start : Start) (input : ℕ) → start ≡ InputStart input → ¬ Contains (setting_inputs d.fixed) input
    → IsHeldStart d start → Contains (setting_inputs d.resets) input
reset_where_held d start input is none held =
    elim (Contains-append_cases (setting_inputs d.fixed) (setting_inputs d.resets) input (subst (IsHeldStart d) is held)) [
      | inl fixed ↦ absurd (none fixed)
      | inr reset ↦ reset
    ]
