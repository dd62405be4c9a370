-- Runs of a design that keep assumptions.
use Rattle.std.specs.Prelude.{◌≡◌, ℕ, Bool, List, ◌++◌, length, map, take, All, Some, slice_get}
use Rattle.net_model.specs.Cycles.{bit_at, IsRun}
use Rattle.net_model.specs.Paths.{LeadsTo}
use Rattle.net_model.specs.declared.netlist.Design.{Design}
use Rattle.net_model.specs.declared.netlist.Fixed.{Fixed}
use Rattle.net_model.specs.declared.cycles.Cycle.{Cycle}
use Rattle.net_model.specs.declared.claims.PinRef.{PinRef}
use Rattle.net_model.specs.declared.claims.PinRef.TheVariants.{Net}
use Rattle.case_inputs.specs.declared.assumptions.Assumed.{Assumed}
use Rattle.case_inputs.specs.Ties.{first_of, pin_sets}

-- in these net bits each shadow has the assumed value: a net that leads to a load pin has that of the first assumption that is of the pin
abbrev pub AreShadowsKept : Design → List Assumed → List Bool → Type 0
AreShadowsKept d assumed nets =
    (net : ℕ) (pin : PinRef) (j : ℕ) (a : Assumed) → LeadsTo d (Net net) pin → first_of (pin_sets assumed) pin net ≡ Some j
    → slice_get assumed j ≡ Some a → bit_at nets net ≡ a.value

-- a cycle keeps the assumptions: the inputs that are fixed besides have their values, and so do the shadows
pub record IsKept (d : Design) (more : List Fixed) (assumed : List Assumed) (c : Cycle) : Type 0 where
  pub fixed : All (λ (f : Fixed). bit_at c.ins f.input ≡ f.value) more
  pub shadows : AreShadowsKept d assumed c.nets

-- the assumed values
abbrev pub values : List Assumed → List Bool
values assumed = map (λ (a : Assumed). a.value) assumed

-- a cycle of the design with the assumed inputs at their values
abbrev pub with_assumed : List Assumed → Cycle → Cycle
with_assumed assumed c = record { bits = c.bits; ins = c.ins ++ values assumed; nets = c.nets ++ values assumed }

-- a cycle of the assumed design without the assumed inputs
abbrev pub without_assumed : Design → Cycle → Cycle
without_assumed d c = record { bits = c.bits; ins = take (length d.inputs) c.ins; nets = take d.nets c.nets }

-- without the assumed inputs it is a run of the design that keeps the assumptions, and with them at their values it is again what it was
pub record IsRunWithout (d : Design) (more : List Fixed) (assumed : List Assumed) (run : List Cycle) : Type 0 where
  pub from_reset : IsRun d (map (without_assumed d) run)
  pub kept : All (IsKept d more assumed) (map (without_assumed d) run)
  pub same : map (with_assumed assumed) (map (without_assumed d) run) ≡ run
