-- How many pairs are tried.
use Rattle.std.proofs.Common.{arith, ◌≡◌, ◌∙◌, ℕ, ◌+◌, ◌≤◌, Bool, true, false, cond, List, [], ◌∷◌, ◌++◌, length, map, refl, sym, ap, subst, append-nil, inl, inr}
use Rattle.std.specs.Prelude.{Option, Some, count_by}
use Rattle.std.proofs.lemmas.List.{length-map}
use Rattle.std.proofs.lemmas.List.Sums.{count_by-le-length, sum_by-append}
use Rattle.net_model.specs.declared.claims.Claim.{Claim}
use Rattle.net_model.proofs.Members.{In}
use Rattle.net_paths.specs.Those.{AreThose, All_seen, Taken, Left_out}
use Rattle.linked_types.specs.declared.names.Linked.{Linked}
use Rattle.run_options.specs.Judging.{judging_by}
use Rattle.selected_types.specs.declared.selections.PairLine.{PairLine}
use Rattle.selected_types.specs.declared.selections.Selected.{Selected}
use Rattle.sdcv_base.specs.declared.limits.LimitName.{LimitName}
use Rattle.sdcv_base.specs.declared.limits.LimitName.TheVariants as limit
use Rattle.selected_types.specs.declared.faults.ExpandFault.{ExpandFault}
use Rattle.selected_types.specs.declared.faults.ExpandFault.TheVariants as fault
use Rattle.exception_expand.specs.Causes as expand
use Rattle.exception_expand.specs.Causes.{HasMore, HasMoreJudged}
use Rattle.exception_expand.specs.Pairs.{is_judged}
use Rattle.exception_expand.specs.Selections as spec
use Rattle.exception_expand.specs.Selections.{Chosen, IsSelectionOf}
use Rattle.mcp_detect.specs.Causes.{HasManyPairs, HasFewPairs, IsDetectCause, fault_of}
use Rattle.mcp_detect.specs.Scripts.{registers_script}
use Rattle.mcp_detect.proofs.Registers.{each_of_registers, few_sets}

-- those of the first items are no more than those of all
those_fewer : {A : Type 0} (P : A → Type 0) (xs ys found all : List A) → AreThose P xs found → AreThose P (xs ++ ys) all → length found ≤ length all
those_fewer P _ ys _ all All_seen those = omega arith
those_fewer P _ ys _ _ (Taken x xs found holds rest) (Taken x' xs' all holds' rest') = omega (arith, those_fewer P xs ys found all rest rest')
those_fewer P _ ys _ all (Taken x xs found holds rest) (Left_out x' xs' all' not rest') = absurd (not holds)
those_fewer P _ ys found _ (Left_out x xs found' not rest) (Taken x' xs' all holds rest') = absurd (not holds)
those_fewer P _ ys found all (Left_out x xs found' not rest) (Left_out x' xs' all' not' rest') = those_fewer P xs ys found all rest rest'

-- a test that holds of each item counts them all
count_all : {A : Type 0} (p : A → Bool) (xs : List A) → ((x : A) → In x xs → p x ≡ true) → count_by p xs ≡ length xs
count_all p [] each = refl
count_all p (x ∷ xs) each =
    let one : cond {A = ℕ} (p x) 1 0 ≡ 1 = ap (λ (b : Bool). cond {A = ℕ} b 1 0) (each x (inl refl)) in
    let rest : count_by p xs ≡ length xs = count_all p xs (λ y has. each y (inr has)) in
    let joined : count_by p (x ∷ xs) ≡ (0 + cond {A = ℕ} (p x) 1 0) + count_by p xs = sum_by-append (λ y. cond {A = ℕ} (p y) 1 0) (x ∷ []) xs in
    omega (arith, one, rest, joined)

-- there are as many claims and lines as pairs
claims_chosen : (l : Linked) (hazard : Bool) (chosen : List Chosen) (claims : List Claim)
    → map Some claims ≡ map (spec.claim_of l registers_script (judging_by hazard 0)) chosen → length claims ≡ length chosen
claims_chosen l hazard chosen claims is =
    sym (length-map claims Some) ∙ ap (λ (xs : List (Option Claim)). length xs) is ∙ length-map chosen (spec.claim_of l registers_script (judging_by hazard 0))

pub as_many : (l : Linked) (hazard : Bool) (s : Selected) → IsSelectionOf l registers_script (judging_by hazard 0) s → length s.claims ≡ length s.pairs
as_many l hazard s is =
    claims_chosen l hazard is.chosen s.claims is.claims
    ∙ sym (ap (λ (xs : List PairLine). length xs) is.pairs ∙ length-map is.chosen (spec.line_of l registers_script))

-- at most 10,000
pub few_claims : (l : Linked) (hazard : Bool) (s : Selected) → IsSelectionOf l registers_script (judging_by hazard 0) s → length s.claims ≤ 10000
few_claims l hazard s is =
    omega (
      arith,
      is.judged,
      count_all (is_judged l.design) s.claims
          (λ claim has. (each_of_registers l hazard is.chosen s.claims is.those is.claims claim has).judged),
    )

-- a selection is not of too many pairs
pub few_pairs : (l : Linked) (hazard : Bool) (s : Selected) → IsSelectionOf l registers_script (judging_by hazard 0) s → HasFewPairs l
few_pairs l hazard s is many =
    let those : AreThose (spec.IsSelected l registers_script (judging_by false 0)) (many.first ++ many.rest) is.chosen =
    subst (λ (xs : List Chosen). AreThose (spec.IsSelected l registers_script (judging_by false 0)) xs is.chosen) many.whole is.those in
    omega (
      arith,
      many.more,
      few_claims l hazard s is,
      claims_chosen l hazard is.chosen s.claims is.claims,
      those_fewer (spec.IsSelected l registers_script (judging_by false 0)) many.first many.rest many.found is.chosen many.those those,
    )

-- a refusal for claims that need a verdict, or for pairs, is for more than 10,000 pairs
judged_many : (l : Linked) (hazard : Bool) → HasMoreJudged l registers_script (judging_by hazard 0) 10000 → HasManyPairs l
judged_many l hazard has = record {
  first = spec.script_pairs l registers_script;
  rest = [];
  whole = sym (append-nil (spec.script_pairs l registers_script));
  found = has.chosen;
  those = has.those;
  more = omega (arith, has.more, count_by-le-length (is_judged l.design) has.claims, claims_chosen l hazard has.chosen has.claims has.claimed);
}

pairs_many : (l : Linked) → HasMore (spec.IsSelected l registers_script (judging_by false 0)) (spec.script_pairs l registers_script) 100000 → HasManyPairs l
pairs_many l has = record { first = has.first; rest = has.rest; whole = has.whole; found = has.found; those = has.those; more = omega (arith, has.more) }

-- whatever limit is met
cause_of_limit : (l : Linked) (hazard : Bool) (what : LimitName) (number : ℕ)
    → expand.IsOverLimit l registers_script (judging_by hazard 0) what number → HasManyPairs l
cause_of_limit l hazard limit.Through number is = absurd (few_sets is.1)
cause_of_limit l hazard limit.Pairs number is = pairs_many l is.1
cause_of_limit l hazard limit.Judged number is = judged_many l hazard is.1
cause_of_limit l hazard limit.Nets number is = absurd is
cause_of_limit l hazard limit.Registers number is = absurd is
cause_of_limit l hazard limit.Inputs number is = absurd is
cause_of_limit l hazard limit.Outputs number is = absurd is
cause_of_limit l hazard limit.Instances number is = absurd is
cause_of_limit l hazard limit.Pins number is = absurd is
cause_of_limit l hazard limit.Hierarchy number is = absurd is

pub cause_of_fault : (l : Linked) (hazard : Bool) (f : ExpandFault)
    → expand.IsExpandCause l registers_script (judging_by hazard 0) f → IsDetectCause l (fault_of f)
cause_of_fault l hazard (fault.Limit what number) is = (refl, cause_of_limit l hazard what number is)
cause_of_fault l hazard fault.Memory is = tt
cause_of_fault l hazard (fault.TwoClocks first second) is = absurd is
cause_of_fault l hazard (fault.ClockNotPort line) is = absurd is
cause_of_fault l hazard (fault.CaseTwice first second) is = absurd is
cause_of_fault l hazard (fault.CaseOnReset line name) is = absurd is
cause_of_fault l hazard (fault.CaseOnPin line name) is = absurd is
cause_of_fault l hazard (fault.NoClock name) is = absurd is
cause_of_fault l hazard (fault.Generated line) is = absurd is
