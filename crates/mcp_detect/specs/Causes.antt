-- When pairs are too many to be tried. Want of memory alone is free.
use Rattle.std.specs.Prelude.{◌≡◌, ℕ, false}
use Rattle.sdcv_base.specs.declared.limits.LimitName.{LimitName}
use Rattle.sdcv_base.specs.declared.limits.LimitName.TheVariants.{Pairs}
use Rattle.linked_types.specs.declared.names.Linked.{Linked}
use Rattle.selected_types.specs.declared.faults.ExpandFault.{ExpandFault}
use Rattle.selected_types.specs.declared.faults.ExpandFault.TheVariants as expand
use Rattle.run_options.specs.Judging.{judging_by}
use Rattle.exception_expand.specs.Selections.{IsSelected, script_pairs}
use Rattle.exception_expand.specs.Causes.{HasMore}
use Rattle.mcp_detect.specs.declared.faults.DetectFault.{DetectFault}
use Rattle.mcp_detect.specs.declared.faults.DetectFault.TheVariants.{Limit, Memory}
use Rattle.mcp_detect.specs.Scripts.{registers_script}

-- more than 10,000 pairs would have to be tried
abbrev pub HasManyPairs : Linked → Type 0
HasManyPairs l = HasMore (IsSelected l registers_script (judging_by false 0)) (script_pairs l registers_script) 10000

abbrev pub HasFewPairs : Linked → Type 0
HasFewPairs l = ¬ HasManyPairs l

-- the number is the limit plus 1
abbrev pub IsOverLimit : Linked → LimitName → ℕ → Type 0
IsOverLimit l Pairs number = (number ≡ 10001) × HasManyPairs l
IsOverLimit l _ number = ⊥

-- the refusals of `detect`
abbrev pub IsDetectCause : Linked → DetectFault → Type 0
IsDetectCause l (Limit what number) = IsOverLimit l what number
IsDetectCause l Memory = Unit {0}

-- whichever limit the selection meets, there are too many pairs
abbrev pub fault_of : ExpandFault → DetectFault
fault_of expand.Memory = Memory
fault_of _ = Limit Pairs 10001
