use Rattle.std.proofs.Common.{arith, ◌≡◌, ◌∙◌, ◌+◌, List, ◌++◌, take, flat_map, ap, sym, subst, append-nil}
use Rattle.std.specs.Prelude.{All}
use Rattle.std.proofs.lemmas.List.{take_all}
use Rattle.std.proofs.lemmas.Result.{err_from_is_err_and}
use Rattle.list_laws.proofs.Joining.{flat_next}
use Rattle.script_types.specs.declared.objects.Object.{Object}
use Rattle.script_types.specs.declared.scripts.Command.{Command}
use Rattle.sdc_settings.specs.Settings.{case_objects}
use Rattle.case_objects.specs.declared.values.CaseValue.{CaseValue}
use Rattle.case_objects.specs.Values.{HasPlaces, command_values, values_by, object_values, case_values}
use Rattle.case_objects.specs.Causes.{IsObjectCause}
use Rattle.case_objects.proofs.Holding.{one_more, at_is_in}
use Rattle.case_objects.proofs.Commands.{place_cause, other_sets_none, other_has_none}
use Rattle.case_objects.proofs.found.case_values.Goals.{in-Case+in_ok-add_objects, in_default}
use Rattle.case_objects.proofs.found.case_values.Goals as goal

pub returns-in_err-add_objects-clause-err : goal.returns-in_err-add_objects-clause-err
returns-in_err-add_objects-clause-err c =
    let p = err_from_is_err_and c.from_residual.result c.from_residual.ensures.1 in
    let l = c.args.scope.now.linked.now in
    let commands = c.args.scope.now.script.now.commands in
    rw (p.1, p.2) (place_cause l commands c.item-command.result.now c.in_err-add_objects.field-0.0
    (at_is_in commands c.loop-k.k c.item-command.result.now c.item-command.ensures)
    (subst (λ (objects : List Object). IsObjectCause l c.item-command.result.now.line objects c.in_err-add_objects.field-0.0)
    (sym (ap case_objects c.in-Case.is)) c.in_err-add_objects.ensures.err))

pub loop-k-preserved : goal.loop-k-preserved
loop-k-preserved c =
    let l = c.args.scope.now.linked.now in
    let x : Command = c.item-command.result.now in
    let commands : List Command = c.args.scope.now.script.now.commands in
    let sets : Command → List CaseValue = command_values l in
    let Fit : Command → Type 0 = λ (x : Command). All (HasPlaces l) (case_objects x.what) in
    let before = flat_map sets (take c.loop-k.k commands) in
    let next : before ++ sets x ≡ flat_map sets (take (c.loop-k.k + 1) commands) = sym (flat_next sets commands c.loop-k.k x c.item-command.ensures) in
    let more : Fit x → All Fit (take (c.loop-k.k + 1) commands) = λ fit.
    one_more Fit commands c.loop-k.k x c.item-command.ensures c.loop-k.invariant.placed fit in
    elim c.match-command.branch [
      | in-Case+in_ok-add_objects w ↦
          let made : sets x ≡ flat_map (object_values l x.line w.in-Case.value) w.in-Case.objects = ap (values_by l x.line) w.in-Case.is in
          record {
            values = w.values-is ∙ w.in_ok-add_objects.ensures.added
                ∙ ap (λ (vs : List CaseValue). vs ++ flat_map (object_values l x.line w.in-Case.value) w.in-Case.objects) c.loop-k.invariant.values
                ∙ ap (λ (vs : List CaseValue). before ++ vs) (sym made) ∙ next;
            placed = more (subst (All (HasPlaces l)) (sym (ap case_objects w.in-Case.is)) w.in_ok-add_objects.ensures.placed);
          }
      | in_default w ↦
          record {
            values = w.values-is ∙ c.loop-k.invariant.values ∙ sym (append-nil before)
                ∙ ap (λ (vs : List CaseValue). before ++ vs) (sym (other_sets_none l x.line x.what w.in_default.not-Case)) ∙ next;
            placed = more (subst (All (HasPlaces l)) (sym (other_has_none x.what w.in_default.not-Case)) (λ i d low. absurd (omega (arith, low))));
          }
    ]

pub returns-clause-ok : goal.returns-clause-ok
unfolding case_values
returns-clause-ok c =
    c.loop-k.invariant.values ∙ ap (flat_map (command_values c.args.scope.now.linked.now))
    (take_all c.loop-k.k c.args.scope.now.script.now.commands (omega (arith, c.loop-k-test.false, c.len-k-end.ensures)))
