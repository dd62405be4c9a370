use Rattle.std.proofs.Common.{sym, subst}
use Rattle.script_types.specs.declared.scripts.Script.{Script}
use Rattle.run_options.specs.Judging.{judging_by}
use Rattle.exception_expand.specs.Selections.{HasMultipliers, IsSelectionOf}
use Rattle.exception_expand.specs.Causes.{IsExpandCause}
use Rattle.mcp_detect.specs.Causes.{IsDetectCause}
use Rattle.mcp_detect.proofs.Registers.{multipliers}
use Rattle.mcp_detect.proofs.Counting.{few_pairs, cause_of_fault}
use Rattle.mcp_detect.proofs.selecting.selected.Goals as goal

pub expand-requires-clause-script : goal.expand-requires-clause-script
expand-requires-clause-script c = subst HasMultipliers (sym c.in_ok-script.ensures) multipliers

pub returns-in-Ok-clause-none : goal.returns-in-Ok-clause-none
returns-in-Ok-clause-none c =
    let l = c.args.linked.now in
    let judging = judging_by c.args.hazard 0 in
    few_pairs l c.args.hazard c.in-Ok.selected
    (subst (λ (s : Script). IsSelectionOf l s judging c.in-Ok.selected) c.in_ok-script.ensures c.in-Ok.ensures.ok)

pub returns-clause-err : goal.returns-clause-err
returns-clause-err c =
    let l = c.args.linked.now in
    let judging = judging_by c.args.hazard 0 in
    let fault = c.in-Err.fault in
    subst (IsDetectCause l) (sym c.fault_of.ensures)
    (cause_of_fault l c.args.hazard fault (subst (λ (s : Script). IsExpandCause l s judging fault) c.in_ok-script.ensures c.in-Err.ensures.err))
