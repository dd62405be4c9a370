-- A script of few lines meets no limit.
use Rattle.std.proofs.Common.{arith, ◌≡◌, ◌∙◌, ℕ, ◌+◌, ◌≤◌, Bool, false, List, [], ◌∷◌, ◌++◌, length, refl, sym, ap, subst, inl, inr}
use Rattle.std.specs.Prelude.{Option, Some}
use Rattle.std.specs.Option.{option_map}
use Rattle.std.proofs.lemmas.List.{length-map}
use Rattle.std.proofs.lemmas.List.Sums.{count_by-le-length}
use Rattle.sdcv_base.specs.declared.limits.LimitName.{LimitName}
use Rattle.sdcv_base.specs.declared.limits.LimitName.TheVariants as limit
use Rattle.net_model.specs.declared.claims.Claim.{Claim}
use Rattle.net_model.proofs.Members.{In, In-from_Contains}
use Rattle.net_paths.specs.Those.{AreThose}
use Rattle.net_paths.proofs.Sifting.{those_same}
use Rattle.linked_types.specs.declared.names.Linked.{Linked}
use Rattle.script_types.specs.declared.scripts.Command.{Command}
use Rattle.script_types.specs.declared.scripts.Script.{Script}
use Rattle.selected_types.specs.declared.faults.ExpandFault.{ExpandFault}
use Rattle.selected_types.specs.declared.faults.ExpandFault.TheVariants as fault
use Rattle.run_options.specs.Judging.{judging_by}
use Rattle.exception_expand.specs.Asking.{Asked, asked}
use Rattle.exception_expand.specs.Causes.{HasMore, HasMoreJudged, HasManySets, IsOverLimit, IsExpandCause}
use Rattle.exception_expand.specs.Pairs.{is_judged}
use Rattle.exception_expand.specs.Selections as spec
use Rattle.exception_expand.specs.Selections.{Chosen}
use Rattle.exception_expand.proofs.OneSelection.{those_fewer}
use Rattle.multicycle_text.specs.Lines.{CheckLine, Setup, Hold}
use Rattle.multicycle_text.specs.Scripts.{exception_by, commands_from, script_by}

-- no line has through sets
no_sets : (number : ℕ) (lines : List CheckLine) (c : Command) (by : Asked) → In c (commands_from number lines) → asked false c.what ≡ Some by
    → by.exception.through ≡ []
no_sets number [] c by has is = absurd has
no_sets number (Setup x ∷ lines) c by (inl here) is =
    let asks : asked false (exception_by (Setup x)) ≡ Some by = ap (λ (d : Command). asked false d.what) here ∙ is in
    let none : Some [] ≡ Some by.exception.through = ap (option_map (λ (a : Asked). a.exception.through)) asks in
    cc
no_sets number (Hold x ∷ lines) c by (inl here) is =
    let asks : asked false (exception_by (Hold x)) ≡ Some by = ap (λ (d : Command). asked false d.what) here ∙ is in
    absurd cc
no_sets number (Setup x ∷ lines) c by (inr later) is = no_sets (number + 1) lines c by later is
no_sets number (Hold x ∷ lines) c by (inr later) is = no_sets (number + 1) lines c by later is

-- so none of their commands has too many
few_sets : (lines : List CheckLine) → ¬ HasManySets (script_by lines) false
few_sets lines many =
    let none = no_sets 1 lines many.command many.by (In-from_Contains (commands_from 1 lines) many.command many.stands) many.claiming in
    omega (arith, many.more, ap (λ (xs : List _). length xs) none)

-- a script that selects few pairs does not select more than its limit of them
few_pairs : (l : Linked) (script : Script) (chosen : List Chosen) → AreThose (spec.IsSelected l script (judging_by false 0)) (spec.script_pairs l script) chosen
    → length chosen ≤ 10000 → ¬ HasMore (spec.IsSelected l script (judging_by false 0)) (spec.script_pairs l script) 100000
few_pairs l script chosen those few many =
    let all : AreThose (spec.IsSelected l script (judging_by false 0)) (many.first ++ many.rest) chosen =
    subst (λ (xs : List Chosen). AreThose (spec.IsSelected l script (judging_by false 0)) xs chosen) many.whole those in
    omega (arith, many.more, few, those_fewer (spec.IsSelected l script (judging_by false 0)) many.first many.rest many.found chosen many.those all)

-- nor makes more claims that need a verdict
few_judged : (l : Linked) (script : Script) (hazard : Bool) (chosen : List Chosen)
    → AreThose (spec.IsSelected l script (judging_by false 0)) (spec.script_pairs l script) chosen → length chosen ≤ 10000
    → ¬ HasMoreJudged l script (judging_by hazard 0) 10000
few_judged l script hazard chosen those few many =
    let same : many.chosen ≡ chosen =
    those_same (spec.IsSelected l script (judging_by false 0)) (spec.script_pairs l script) many.chosen chosen many.those those in
    let claims : length many.claims ≡ length many.chosen =
    sym (length-map many.claims Some) ∙ ap (λ (os : List (Option Claim)). length os) many.claimed
    ∙ length-map many.chosen (spec.claim_of l script (judging_by hazard 0)) in
    omega (arith, many.more, few, claims, ap (λ (xs : List Chosen). length xs) same, count_by-le-length (is_judged l.design) many.claims)

-- whatever limit
within_limit : (l : Linked) (lines : List CheckLine) (hazard : Bool) (chosen : List Chosen) (what : LimitName) (number : ℕ)
    → AreThose (spec.IsSelected l (script_by lines) (judging_by false 0)) (spec.script_pairs l (script_by lines)) chosen → length chosen ≤ 10000
    → ¬ IsOverLimit l (script_by lines) (judging_by hazard 0) what number
within_limit l lines hazard chosen limit.Through number those few is = few_sets lines is.1
within_limit l lines hazard chosen limit.Pairs number those few is = few_pairs l (script_by lines) chosen those few is.1
within_limit l lines hazard chosen limit.Judged number those few is = few_judged l (script_by lines) hazard chosen those few is.1
within_limit l lines hazard chosen limit.Nets number those few is = is
within_limit l lines hazard chosen limit.Registers number those few is = is
within_limit l lines hazard chosen limit.Inputs number those few is = is
within_limit l lines hazard chosen limit.Outputs number those few is = is
within_limit l lines hazard chosen limit.Instances number those few is = is
within_limit l lines hazard chosen limit.Pins number those few is = is
within_limit l lines hazard chosen limit.Hierarchy number those few is = is

-- a script of few lines is refused for want of memory alone
pub memory_alone : (l : Linked) (lines : List CheckLine) (hazard : Bool) (chosen : List Chosen) (f : ExpandFault)
    → AreThose (spec.IsSelected l (script_by lines) (judging_by false 0)) (spec.script_pairs l (script_by lines)) chosen → length chosen ≤ 10000
    → IsExpandCause l (script_by lines) (judging_by hazard 0) f → f ≡ fault.Memory
memory_alone l lines hazard chosen (fault.Limit what number) those few is = absurd (within_limit l lines hazard chosen what number those few is)
memory_alone l lines hazard chosen fault.Memory those few is = refl
memory_alone l lines hazard chosen (fault.TwoClocks first second) those few is = absurd is
memory_alone l lines hazard chosen (fault.ClockNotPort line) those few is = absurd is
memory_alone l lines hazard chosen (fault.CaseTwice first second) those few is = absurd is
memory_alone l lines hazard chosen (fault.CaseOnReset line name) those few is = absurd is
memory_alone l lines hazard chosen (fault.CaseOnPin line name) those few is = absurd is
memory_alone l lines hazard chosen (fault.NoClock name) those few is = absurd is
memory_alone l lines hazard chosen (fault.Generated line) those few is = absurd is
