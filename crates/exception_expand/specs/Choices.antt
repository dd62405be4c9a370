-- What is kept of a design, and found of one exception.
use Rattle.std.specs.Prelude.{◌≡◌, ℕ, ◌<◌, ◌≤◌, nat_lt, ◌||◌, Bool, true, List, length}
use Rattle.sdcv_base.specs.declared.limits.LimitName.{LimitName}
use Rattle.sdcv_base.specs.declared.limits.LimitName.TheVariants as limit
use Rattle.net_paths.specs.Those.{AreThose}
use Rattle.net_model.specs.declared.claims.Start.{Start}
use Rattle.net_model.specs.declared.claims.Start.TheVariants.{Reg as RegStart, Input as InputStart}
use Rattle.linked_types.specs.declared.names.Linked.{Linked}
use Rattle.linked_types.specs.declared.names.CellName.{CellName}
use Rattle.script_types.specs.declared.scripts.Exception.{Exception}
use Rattle.script_types.specs.declared.scripts.Script.{Script}
use Rattle.selected_types.specs.declared.faults.ExpandFault.{ExpandFault}
use Rattle.selected_types.specs.declared.faults.ExpandFault.TheVariants.{Limit, Memory}
use Rattle.exception_expand.specs.declared.choices.Choice.{Choice}
use Rattle.exception_expand.specs.declared.lists.Lists.{Lists}
use Rattle.exception_expand.specs.declared.points.Points.{Points}
use Rattle.exception_expand.specs.Points.{start_points, all_starts, all_ends, is_driven, has_mark, IsFrom, IsTo}
use Rattle.exception_expand.specs.Selections.{sets_of, all_pairs, Selects, exception_warnings}
use Rattle.exception_expand.specs.Causes.{HasMore}

-- for each of so many inputs a mark, true where a clocked cell drives it which is cut out
pub record AreDriven (cells : List CellName) (inputs : ℕ) (marks : List Bool) : Type 0 where
  pub as_many : length marks ≡ inputs
  pub driven : (i : ℕ) → i < inputs → has_mark marks i ≡ is_driven cells i

-- the registers, inputs and outputs of a design, the number of its port bits among the inputs, and for each input whether a
-- clocked cell drives it which is cut out
pub record ArePointsOf (l : Linked) (p : Points) : Type 0 where
  pub starts : p.starts ≡ start_points l.design
  pub ends : p.ends ≡ all_ends l.design
  pub ports : p.ports ≡ length l.names.ins
  pub driven : AreDriven l.names.cells (length l.design.inputs) p.driven

-- an input begins paths, by these
abbrev pub has_begun : Points → Start → Bool
has_begun p (RegStart r) = true
has_begun p (InputStart i) = nat_lt i p.ports || has_mark p.driven i

-- the starts and the ends that an exception means, in the order of the design, and its through sets
pub record AreListsOf (l : Linked) (script : Script) (strict : Bool) (e : Exception) (lists : Lists) : Type 0 where
  pub starts : AreThose (IsFrom l script strict e.edge e.from) (all_starts l) lists.starts
  pub sets : lists.sets ≡ sets_of l script e
  pub ends : AreThose (IsTo l script strict e.to) (all_ends l.design) lists.ends

-- exactly the pairs that an exception selects, which are at most so many, with its through sets and its warnings
pub record IsChoiceOf (l : Linked) (script : Script) (strict : Bool) (e : Exception) (most : ℕ) (c : Choice) : Type 0 where
  pub pairs : AreThose (Selects l script strict e) (all_pairs l) c.pairs
  pub few : length c.pairs ≤ most
  pub sets : c.sets ≡ sets_of l script e
  pub few_sets : length e.through ≤ 4
  pub warnings : c.warnings ≡ exception_warnings l script strict e

-- an exception has too many through sets, or selects more than so many pairs
abbrev pub IsTooMuch : Linked → Script → Bool → Exception → ℕ → LimitName → ℕ → Type 0
IsTooMuch l script strict e most limit.Through number = (number ≡ 5) × (4 < length e.through)
IsTooMuch l script strict e most limit.Pairs number = (number ≡ 100001) × HasMore (Selects l script strict e) (all_pairs l) most
IsTooMuch l script strict e most _ number = ⊥

abbrev pub IsChoiceCause : Linked → Script → Bool → Exception → ℕ → ExpandFault → Type 0
IsChoiceCause l script strict e most (Limit what number) = IsTooMuch l script strict e most what number
IsChoiceCause l script strict e most Memory = Unit {0}
IsChoiceCause l script strict e most _ = ⊥
