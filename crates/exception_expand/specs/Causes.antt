-- What each refusal says. Want of memory alone is free.
use Rattle.std.specs.Prelude.{◌≡◌, ℕ, ◌<◌, Bool, List, ◌++◌, map, length, Contains, Some, count_by}
use Rattle.sdcv_base.specs.declared.limits.LimitName.{LimitName}
use Rattle.sdcv_base.specs.declared.limits.LimitName.TheVariants as limit
use Rattle.net_model.specs.declared.claims.Claim.{Claim}
use Rattle.net_paths.specs.Those.{AreThose}
use Rattle.linked_types.specs.declared.names.Linked.{Linked}
use Rattle.script_types.specs.declared.scripts.Command.{Command}
use Rattle.script_types.specs.declared.scripts.Script.{Script}
use Rattle.selected_types.specs.declared.faults.ExpandFault.{ExpandFault}
use Rattle.selected_types.specs.declared.faults.ExpandFault.TheVariants.{Limit, Memory}
use Rattle.run_options.specs.declared.judging.Judging.{Judging}
use Rattle.exception_expand.specs.Selections.{Chosen, IsSelected, script_pairs, claim_of}
use Rattle.exception_expand.specs.Asking.{Asked, asked}
use Rattle.exception_expand.specs.Pairs.{is_judged}

-- more than so many are selected among the pairs that come first
pub record HasMore {A : Type 0} (Holds : A → Type 0) (all : List A) (most : ℕ) : Type 0 where
  pub first : List A
  pub rest : List A
  pub whole : all ≡ first ++ rest
  pub found : List A
  pub those : AreThose Holds first found
  pub more : most < length found

-- more than so many of the claims need a verdict
pub record HasMoreJudged (l : Linked) (script : Script) (judging : Judging) (most : ℕ) : Type 0 where
  pub chosen : List Chosen
  pub those : AreThose (IsSelected l script judging) (script_pairs l script) chosen
  pub claims : List Claim
  pub claimed : map Some claims ≡ map (claim_of l script judging) chosen
  pub more : most < count_by (is_judged l.design) claims

-- a claiming command has more than four through sets
pub record HasManySets (script : Script) (hold : Bool) : Type 0 where
  pub command : Command
  pub by : Asked
  pub stands : Contains script.commands command
  pub claiming : asked hold command.what ≡ Some by
  pub more : 4 < length by.exception.through

-- the count is above its limit; the number is the limit plus 1
abbrev pub IsOverLimit : Linked → Script → Judging → LimitName → ℕ → Type 0
IsOverLimit l script judging limit.Through number = (number ≡ 5) × HasManySets script judging.hold
IsOverLimit l script judging limit.Pairs number = (number ≡ 100001) × HasMore (IsSelected l script judging) (script_pairs l script) 100000
IsOverLimit l script judging limit.Judged number = (number ≡ 10001) × HasMoreJudged l script judging 10000
IsOverLimit l script judging _ number = ⊥

-- the refusals of a selection
abbrev pub IsExpandCause : Linked → Script → Judging → ExpandFault → Type 0
IsExpandCause l script judging (Limit what number) = IsOverLimit l script judging what number
IsExpandCause l script judging Memory = Unit {0}
IsExpandCause l script judging _ = ⊥
