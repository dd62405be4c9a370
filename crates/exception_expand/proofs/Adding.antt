-- What one command adds.
use Rattle.std.proofs.Common.{arith, ◌≡◌, ◌∙◌, ℕ, ◌-◌, ◌≤◌, List, [], ◌∷◌, ◌++◌, length, map, flat_map, refl, sym, ap, subst, append-nil, length-append}
use Rattle.std.specs.Prelude.{Option, Some, None, slice_get, Contains}
use Rattle.std.proofs.lemmas.List.{map-append, length-map}
use Rattle.std.proofs.lemmas.Option.{slice_get_within, get_or_from_slice_get}
use Rattle.sdcv_base.specs.declared.limits.LimitName.TheVariants as limit
use Rattle.net_model.specs.declared.claims.Claim.{Claim}
use Rattle.net_model.specs.declared.claims.PinRef.{PinRef}
use Rattle.net_paths.specs.Those.{AreThose}
use Rattle.net_paths.proofs.Sifting.{those_none}
use Rattle.linked_types.specs.declared.names.Linked.{Linked}
use Rattle.selected_types.specs.declared.faults.ExpandFault.{ExpandFault}
use Rattle.selected_types.specs.declared.faults.ExpandFault.TheVariants.{TwoClocks, ClockNotPort, CaseTwice, CaseOnReset, CaseOnPin, Limit, Memory}
use Rattle.selected_types.specs.declared.faults.ExpandFault.TheVariants.{NoClock, Generated as GeneratedClock}
use Rattle.script_types.specs.declared.scripts.What.{What}
use Rattle.script_types.specs.declared.scripts.Command.{Command}
use Rattle.script_types.specs.declared.scripts.Script.{Script}
use Rattle.selected_types.specs.declared.warnings.Warning.{Warning}
use Rattle.run_options.specs.declared.judging.Judging.{Judging}
use Rattle.exception_expand.specs.declared.sides.Side.{Side}
use Rattle.exception_expand.specs.declared.choices.Choice.{Choice}
use Rattle.selected_types.specs.declared.selections.Selected.{Selected}
use Rattle.exception_expand.specs.Sides.{sides_by, most_pairs}
use Rattle.exception_expand.specs.Asking.{Asked, asked, listing_of}
use Rattle.exception_expand.specs.Pairs.{claim_for}
use Rattle.exception_expand.specs.Selections as spec
use Rattle.exception_expand.specs.Causes.{IsExpandCause}
use Rattle.exception_expand.specs.Choices.{IsChoiceOf, IsChoiceCause}
use Rattle.exception_expand.specs.Progress.{IsUpTo, Adds, IsAskCause, IsWhatCause}
use Rattle.exception_expand.proofs.Counting.{map_map}
use Rattle.exception_expand.proofs.Siding.{those_sides, few_sides, more_sides}
use Rattle.exception_expand.proofs.Stepping.{more_in_script}

-- what an exception selects
pub adds_choice : (l : Linked) (script : Script) (judging : Judging) (line : ℕ) (what : What) (by : Asked) (most : ℕ) (choice : Choice) (old new : Selected)
    → asked judging.hold what ≡ Some by → IsChoiceOf l script judging.strict by.exception most choice → most ≡ most_pairs by.sides (100000 - length old.claims)
    → length old.claims ≤ 100000
    → new.commands ≡ old.commands ++ spec.command_line line (listing_of by (length (flat_map (sides_by by.sides) choice.pairs))) choice.warnings ∷ []
    → new.pairs ≡ old.pairs ++ map (spec.side_line l (length new.commands)) (flat_map (sides_by by.sides) choice.pairs)
    → new.claims ≡ old.claims ++ map (claim_for (length l.names.ins) by.exception.kind by.exception.edge judging choice.sets) (flat_map (sides_by by.sides) choice.pairs)
    → Adds l script judging line what old new
adds_choice l script judging line what by most choice old new asks is room few commands pairs claims =
    let e = by.exception in
    let of = claim_for (length l.names.ins) e.kind e.edge judging in
    let more = flat_map (sides_by by.sides) choice.pairs in
    let listed = listing_of by (length more) in
    let fits : length choice.pairs ≤ most_pairs by.sides (100000 - length old.claims) = subst (λ (n : ℕ). length choice.pairs ≤ n) room is.few in
    record {
      more = more;
      those = subst (λ (o : Option Asked). AreThose (spec.IsAskedOf l script judging.strict o) (spec.all_sides l) more) (sym asks)
          (those_sides by.sides (spec.Selects l script judging.strict e) (spec.all_pairs l) choice.pairs is.pairs);
      commands = commands
          ∙ ap (λ (w : List Warning). old.commands ++ spec.command_line line listed w ∷ []) is.warnings
          ∙ ap (λ (o : Option Asked). old.commands ++ spec.lines_asked l script judging.strict (length more) line what o) (sym asks);
      pairs = pairs;
      claims = ap (map Some) claims ∙ map-append Some old.claims (map (of choice.sets) more)
          ∙ ap (λ (xs : List (Option Claim)). map Some old.claims ++ xs) (map_map Some (of choice.sets) more)
          ∙ ap (λ (sets : List (List PinRef)). map Some old.claims ++ map (λ (s : Side). Some (of sets s)) more) is.sets
          ∙ ap (λ (o : Option Asked). map Some old.claims ++ map (λ (s : Side). spec.claim_asked l script judging s o) more) (sym asks);
      sets = subst spec.AsksFewSets (sym asks) is.few_sets;
      few = omega (
        arith,
        ap (λ (xs : List Claim). length xs) claims,
        length-append old.claims (map (of choice.sets) more),
        length-map more (of choice.sets),
        few_sides by.sides choice.pairs (100000 - length old.claims) fits,
        few,
      );
    }

-- a command that asks nothing
pub adds_unasked : (l : Linked) (script : Script) (judging : Judging) (line : ℕ) (what : What) (old new : Selected) → asked judging.hold what ≡ None
    → length old.claims ≤ 100000 → new.commands ≡ old.commands ++ spec.lines_unasked line what → new.pairs ≡ old.pairs → new.claims ≡ old.claims
    → Adds l script judging line what old new
adds_unasked l script judging line what old new asks few commands pairs claims = record {
  more = [];
  those = subst (λ (o : Option Asked). AreThose (spec.IsAskedOf l script judging.strict o) (spec.all_sides l) []) (sym asks)
      (those_none (spec.IsAskedOf l script judging.strict None) (spec.all_sides l) (λ s selects. selects));
  commands = commands ∙ ap (λ (o : Option Asked). old.commands ++ spec.lines_asked l script judging.strict 0 line what o) (sym asks);
  pairs = pairs ∙ sym (append-nil old.pairs);
  claims = ap (map Some) claims ∙ sym (append-nil (map Some old.claims));
  sets = subst spec.AsksFewSets (sym asks) tt;
  few = omega (arith, few, ap (λ (xs : List Claim). length xs) claims);
}

contains_at : {A : Type 0} (xs : List A) (k : ℕ) (x : A) → slice_get xs k ≡ Some x → Contains xs x
contains_at xs k x here = (k, slice_get_within xs k x here, get_or_from_slice_get xs k x x here)

choice_cause : (l : Linked) (script : Script) (judging : Judging) (k : ℕ) (c : Command) (by : Asked) (old : Selected)
    → slice_get script.commands k ≡ Some c → asked judging.hold c.what ≡ Some by → IsUpTo l script judging k old → (fault : ExpandFault)
    → IsChoiceCause l script judging.strict by.exception (most_pairs by.sides (100000 - length old.claims)) fault
    → IsExpandCause l script judging fault
choice_cause l script judging k c by old here asks before (Limit limit.Through number) cause =
    (cause.0, record { command = c; by = by; stands = contains_at script.commands k c here; claiming = asks; more = cause.1 })
choice_cause l script judging k c by old here asks before (Limit limit.Pairs number) cause = (
  cause.0,
  more_in_script l script judging k c by old here asks before
      (more_sides by.sides (spec.Selects l script judging.strict by.exception) (spec.all_pairs l) (100000 - length old.claims) cause.1),
)
choice_cause l script judging k c by old here asks before (Limit limit.Nets number) cause = absurd cause
choice_cause l script judging k c by old here asks before (Limit limit.Registers number) cause = absurd cause
choice_cause l script judging k c by old here asks before (Limit limit.Inputs number) cause = absurd cause
choice_cause l script judging k c by old here asks before (Limit limit.Outputs number) cause = absurd cause
choice_cause l script judging k c by old here asks before (Limit limit.Instances number) cause = absurd cause
choice_cause l script judging k c by old here asks before (Limit limit.Pins number) cause = absurd cause
choice_cause l script judging k c by old here asks before (Limit limit.Judged number) cause = absurd cause
choice_cause l script judging k c by old here asks before (Limit limit.Hierarchy number) cause = absurd cause
choice_cause l script judging k c by old here asks before Memory cause = tt
choice_cause l script judging k c by old here asks before (TwoClocks first second) cause = absurd cause
choice_cause l script judging k c by old here asks before (ClockNotPort line) cause = absurd cause
choice_cause l script judging k c by old here asks before (CaseTwice first second) cause = absurd cause
choice_cause l script judging k c by old here asks before (CaseOnReset line name) cause = absurd cause
choice_cause l script judging k c by old here asks before (CaseOnPin line name) cause = absurd cause
choice_cause l script judging k c by old here asks before (NoClock name) cause = absurd cause
choice_cause l script judging k c by old here asks before (GeneratedClock line) cause = absurd cause

want_of_memory : (l : Linked) (script : Script) (judging : Judging) (fault : ExpandFault) → fault ≡ Memory → IsExpandCause l script judging fault
want_of_memory l script judging fault is = subst (IsExpandCause l script judging) (sym is) tt

ask_cause : (l : Linked) (script : Script) (judging : Judging) (k : ℕ) (c : Command) (old : Selected) → slice_get script.commands k ≡ Some c
    → IsUpTo l script judging k old → (o : Option Asked) → asked judging.hold c.what ≡ o → (fault : ExpandFault)
    → IsAskCause l script judging.strict (length old.claims) o fault → IsExpandCause l script judging fault
ask_cause l script judging k c old here before None asks fault cause = want_of_memory l script judging fault cause
ask_cause l script judging k c old here before (Some by) asks fault cause = choice_cause l script judging k c by old here asks before fault cause

-- the cause of a refusal at the command of a place
pub cause_at : (l : Linked) (script : Script) (judging : Judging) (k : ℕ) (c : Command) (old : Selected) → slice_get script.commands k ≡ Some c
    → IsUpTo l script judging k old → (fault : ExpandFault) → IsWhatCause l script judging (length old.claims) c.what fault
    → IsExpandCause l script judging fault
cause_at l script judging k c old here before fault cause =
    ask_cause l script judging k c old here before (asked judging.hold c.what) refl fault cause
