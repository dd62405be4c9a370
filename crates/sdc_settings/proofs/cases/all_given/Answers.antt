use Rattle.std.proofs.Common.{arith, ◌≡◌, ◌∙◌, ◌+◌, ◌<◌, ℕ, List, ◌++◌, length, map, take, ap, sym, subst, append-nil}
use Rattle.std.specs.Prelude.{All}
use Rattle.std.specs.List.{flat_map}
use Rattle.std.proofs.lemmas.List.{take_all}
use Rattle.std.proofs.lemmas.Result.{err_from_is_err_and}
use Rattle.std.proofs.lemmas.List.Elements.{All-more}
use Rattle.std.proofs.lemmas.Option.{slice_get_within, get_or_from_slice_get}
use Rattle.script_types.specs.declared.objects.Object.{Object}
use Rattle.script_types.specs.declared.scripts.Command.{Command}
use Rattle.sdc_settings.specs.declared.cases.Given.{Given}
use Rattle.sdc_settings.specs.Settings.{all_given, given, given_by, case_objects, case_places, IsCaseObject}
use Rattle.sdc_settings.specs.Causes.{IsObjectCause}
use Rattle.sdc_settings.proofs.Naming.{at_is_in, flat_next}
use Rattle.sdc_settings.proofs.Giving.{given_within, case_cause, other_gives_none, other_has_none}
use Rattle.sdc_settings.proofs.cases.all_given.Goals as goal
use Rattle.sdc_settings.proofs.cases.all_given.Goals.{in-Case+in_ok-places+in_ok-add_given, in_default}

pub returns-in_err-places-clause-err : goal.returns-in_err-places-clause-err
returns-in_err-places-clause-err c =
    let p = err_from_is_err_and c.from_residual.result c.from_residual.ensures.1 in
    rw (p.1, p.2) (case_cause c.args.inputs.now c.args.clock.now c.args.script.now.commands c.item-command.result.now c.in_err-places.field-0.0
    (at_is_in c.args.script.now.commands c.loop-k.k c.item-command.result.now c.item-command.ensures)
    (subst (λ (objects : List Object). IsObjectCause c.args.inputs.now c.args.clock.now c.item-command.result.now.line objects c.in_err-places.field-0.0)
    (sym (ap case_objects c.in-Case.is)) c.in_err-places.ensures.err))

pub returns-clause-ok : goal.returns-clause-ok
unfolding all_given
returns-clause-ok c =
    c.loop-k.invariant.givens ∙ ap (flat_map (λ (x : Command). given_by c.args.inputs.now c.args.clock.now x.line x.what))
    (take_all c.loop-k.k c.args.script.now.commands (omega (arith, c.loop-k-test.false, c.len-k-end.ensures)))

pub returns-clause-within : goal.returns-clause-within
returns-clause-within c =
    subst (All (λ (g : Given). g.input < length c.args.inputs.now)) (sym c.loop-k.invariant.givens)
    (given_within c.args.inputs.now c.args.clock.now (take c.loop-k.k c.args.script.now.commands))

pub loop-k-preserved : goal.loop-k-preserved
loop-k-preserved c =
    let x : Command = c.item-command.result.now in
    let commands : List Command = c.args.script.now.commands in
    let gives : Command → List Given = λ (x : Command). given_by c.args.inputs.now c.args.clock.now x.line x.what in
    let Fit : Command → Type 0 = λ (x : Command). All (IsCaseObject c.args.inputs.now c.args.clock.now) (case_objects x.what) in
    let next : flat_map gives (take c.loop-k.k commands) ++ gives x ≡ flat_map gives (take (c.loop-k.k + 1) commands) =
    flat_next gives commands c.loop-k.k x c.item-command.ensures in
    let more : Fit x → All Fit (take (c.loop-k.k + 1) commands) = λ fit.
    All-more Fit commands c.loop-k.k x (slice_get_within commands c.loop-k.k x c.item-command.ensures) c.loop-k.invariant.objects
    (subst Fit (sym (get_or_from_slice_get commands c.loop-k.k x x c.item-command.ensures)) fit) in
    elim c.match-command.branch [
      | in-Case+in_ok-places+in_ok-add_given w ↦
          let made : gives x ≡ map (given x.line w.in-Case.value) (flat_map (case_places c.args.inputs.now c.args.clock.now) w.in-Case.objects) =
          ap (given_by c.args.inputs.now c.args.clock.now x.line) w.in-Case.is in
          record {
            givens = w.givens-is ∙ w.in_ok-add_given.ensures ∙ ap (λ (l : List Given). l ++ map (given x.line w.in-Case.value) w.in_ok-places.places)
                c.loop-k.invariant.givens
                ∙ ap (λ (l : List ℕ). flat_map gives (take c.loop-k.k commands) ++ map (given x.line w.in-Case.value) l) w.in_ok-places.ensures.ok
                ∙ ap (λ (l : List Given). flat_map gives (take c.loop-k.k commands) ++ l) (sym made) ∙ next;
            objects = more (subst (All (IsCaseObject c.args.inputs.now c.args.clock.now)) (sym (ap case_objects w.in-Case.is)) w.in_ok-places.ensures.objects);
          }
      | in_default w ↦
          record {
            givens = w.givens-is ∙ c.loop-k.invariant.givens ∙ sym (append-nil (flat_map gives (take c.loop-k.k commands)))
                ∙ ap (λ (l : List Given). flat_map gives (take c.loop-k.k commands) ++ l)
                (sym (other_gives_none c.args.inputs.now c.args.clock.now x.line x.what w.in_default.not-Case))
                ∙ next;
            objects = more (subst (All (IsCaseObject c.args.inputs.now c.args.clock.now)) (sym (other_has_none x.what w.in_default.not-Case))
                (λ i d low. absurd (omega (arith, low))));
          }
    ]
