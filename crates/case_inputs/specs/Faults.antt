-- Why a design takes no assumptions.
use Rattle.std.specs.Prelude.{◌≡◌, ◌+◌, ◌<◌, ◌≤◌, List, length}
use Rattle.net_model.specs.declared.netlist.Design.{Design}
use Rattle.case_inputs.specs.declared.assumptions.Assumed.{Assumed}
use Rattle.case_inputs.specs.declared.faults.AssumeFault.{AssumeFault}
use Rattle.case_inputs.specs.declared.faults.AssumeFault.TheVariants.{Nets, Inputs, Memory}

-- with one for each assumption there are no more nets and inputs than a design may have
pub record HasRoom (d : Design) (assumed : List Assumed) : Type 0 where
  pub nets : d.nets + length assumed ≤ 200000
  pub inputs : length d.inputs + length assumed ≤ 20000

-- what a refusal says: how many nets there would be, and where these have room how many inputs; want of memory alone is free
abbrev pub IsAssumeCause : Design → List Assumed → AssumeFault → Type 0
IsAssumeCause d assumed (Nets n) = (n ≡ d.nets + length assumed) × (200000 < n)
IsAssumeCause d assumed (Inputs n) = (d.nets + length assumed ≤ 200000) × (n ≡ length d.inputs + length assumed) × (20000 < n)
IsAssumeCause d assumed Memory = Unit {0}
