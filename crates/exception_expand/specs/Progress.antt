-- What the commands before a place select, and what one command adds.
use Rattle.std.specs.Prelude.{◌≡◌, ℕ, ◌-◌, ◌≤◌, ◌++◌, Bool, List, map, take, length, All, Option, Some, None}
use Rattle.net_model.specs.Netlist.{IsSound}
use Rattle.net_paths.specs.Those.{AreThose}
use Rattle.linked_types.specs.Usable.{IsUsable}
use Rattle.linked_types.specs.declared.names.Linked.{Linked}
use Rattle.selected_types.specs.declared.faults.ExpandFault.{ExpandFault}
use Rattle.selected_types.specs.declared.faults.ExpandFault.TheVariants.{Memory}
use Rattle.script_types.specs.declared.scripts.What.{What}
use Rattle.script_types.specs.declared.scripts.Command.{Command}
use Rattle.script_types.specs.declared.scripts.Script.{Script}
use Rattle.sdcv_base.specs.Seqs.{each_at}
use Rattle.sdc_objects.specs.Tables.{IsTablesOf}
use Rattle.run_options.specs.declared.judging.Judging.{Judging}
use Rattle.exception_expand.specs.declared.sides.Side.{Side}
use Rattle.selected_types.specs.declared.selections.Selected.{Selected}
use Rattle.exception_expand.specs.declared.tasks.Task.{Task}
use Rattle.exception_expand.specs.Naming.{AreRegCells}
use Rattle.exception_expand.specs.Sides.{most_pairs}
use Rattle.exception_expand.specs.Asking.{Asked, asked}
use Rattle.exception_expand.specs.Choices.{ArePointsOf, IsChoiceCause}
use Rattle.exception_expand.specs.Selections as spec

-- the design is sound, the tables, the points and the places of cells are its own, and lists mean what they mean in a run of this kind
pub record IsTask (t : Task) : Type 0 where
  pub usable : IsUsable t.scope.linked.now
  pub sound : IsSound t.scope.linked.now.design
  pub tables : IsTablesOf t.scope.linked.now t.scope.tables.now
  pub points : ArePointsOf t.scope.linked.now t.points.now
  pub cells : AreRegCells t.scope.linked.now t.cells.now
  pub strict : t.scope.strict ≡ t.judging.strict

-- exactly what the commands before a place select
pub record IsUpTo (l : Linked) (script : Script) (judging : Judging) (k : ℕ) (s : Selected) : Type 0 where
  pub chosen : List spec.Chosen
  pub those : AreThose (spec.IsSelected l script judging) (each_at (spec.pairs_at l) 0 (take k script.commands)) chosen
  pub none_after : (place : ℕ) → k ≤ place → spec.count_at chosen place ≡ 0
  pub pairs : s.pairs ≡ map (spec.line_of l script) chosen
  pub claims : map Some s.claims ≡ map (spec.claim_of l script judging) chosen
  pub commands : s.commands ≡ each_at (spec.lines_at l script judging chosen) 0 (take k script.commands)
  pub sets : All (λ (c : Command). spec.HasFewSets judging.hold c.what) (take k script.commands)
  pub few : length s.claims ≤ 100000

-- exactly what one command selects is added
pub record Adds (l : Linked) (script : Script) (judging : Judging) (line : ℕ) (what : What) (old new : Selected) : Type 0 where
  pub more : List Side
  pub those : AreThose (spec.SelectsBy l script judging what) (spec.all_sides l) more
  pub commands : new.commands ≡ old.commands ++ spec.lines_by l script judging (length more) line what
  pub pairs : new.pairs ≡ old.pairs ++ map (spec.side_line l (length new.commands)) more
  pub claims : map Some new.claims ≡ map Some old.claims ++ map (λ s. spec.claim_by l script judging s what) more
  pub sets : spec.HasFewSets judging.hold what
  pub few : length new.claims ≤ 100000

-- what is asked selects too much, where so many claims stand already
abbrev pub IsAskCause : Linked → Script → Bool → ℕ → Option Asked → ExpandFault → Type 0
IsAskCause l script strict claims None fault = fault ≡ Memory
IsAskCause l script strict claims (Some by) fault = IsChoiceCause l script strict by.exception (most_pairs by.sides (100000 - claims)) fault

abbrev pub IsWhatCause : Linked → Script → Judging → ℕ → What → ExpandFault → Type 0
IsWhatCause l script judging claims what fault = IsAskCause l script judging.strict claims (asked judging.hold what) fault
