use Rattle.std.proofs.Common.{sym, subst}
use Rattle.std.specs.Prelude.{All}
use Rattle.case_objects.specs.declared.values.CaseValue.{CaseValue}
use Rattle.case_objects.specs.CaseObjects.{resets_input}
use Rattle.case_objects.specs.Subjects.{Agree}
use Rattle.case_objects.specs.Stages.{IsInputOf}
use Rattle.case_objects.proofs.Meeting.{all_subjects}
use Rattle.case_objects.proofs.Fitting.{inputs_of}
use Rattle.case_objects.proofs.calls.case_objects.Goals as goal

pub check_resets-requires-clause-inputs : goal.check_resets-requires-clause-inputs
check_resets-requires-clause-inputs c =
    subst (All (λ (v : CaseValue). IsInputOf c.args.linked.now.design v.input)) (sym c.in_ok-values.ensures.ok)
    (inputs_of c.args.linked.now c.args.script.now)

pub check_inputs-requires : goal.check_inputs-requires
check_inputs-requires c =
    subst (All (λ (v : CaseValue). IsInputOf c.args.linked.now.design v.input)) (sym c.in_ok-values.ensures.ok)
    (inputs_of c.args.linked.now c.args.script.now)

pub returns-clause-none : goal.returns-clause-none
returns-clause-none c =
    let l = c.args.linked.now in
    let is = c.in_ok-values.ensures.ok in
    record {
      objects = c.in_ok-values.ensures.placed;
      no_reset = subst (All (λ (v : CaseValue). resets_input l.design v.input → ⊥)) is c.in_ok-check_resets.ensures.ok;
      agree = subst (Agree l.design) is (all_subjects l.design c.in_ok-values.values c.in_ok-check_inputs.ensures.ok c.in_ok-check_loads.ensures.ok);
    }
