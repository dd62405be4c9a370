-- A script's selection in a linked design has one answer.
use Rattle.linked_types.specs.declared.names.Linked.{Linked}
use Rattle.script_types.specs.declared.scripts.Script.{Script}
use Rattle.selected_types.specs.declared.faults.ExpandFault.TheVariants as fault
use Rattle.run_options.specs.declared.judging.Judging.{Judging}
use Rattle.exception_expand.specs.Causes.{IsExpandCause}
use Rattle.exception_expand.specs.Selections.{IsSelectionOf}
use Rattle.exception_expand.proofs.OneSelection.{selection_same, selection_only}
use Rattle.one_design.specs.Answers.{IsOneAnswer}

-- two selections are equal, and beside one of them nothing is refused but for want of memory
pub one_selection : (l : Linked) (script : Script) (judging : Judging)
    → IsOneAnswer (IsSelectionOf l script judging) (IsExpandCause l script judging) fault.Memory
one_selection l script judging = record { same = selection_same l script judging; only = selection_only l script judging }
