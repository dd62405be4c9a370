-- The selection of a script, which is one and excludes each refusal but that of memory.
use Rattle.std.proofs.Common.{◌≡◌, ◌∙◌, ℕ, ◌≤◌, List, [], ◌∷◌, ◌++◌, map, length, refl, sym, ap, subst, arith}
use Rattle.std.specs.Prelude.{Some, count_by}
use Rattle.std.proofs.lemmas.List.Elements.{All-contains}
use Rattle.sdcv_base.specs.declared.limits.LimitName.{LimitName}
use Rattle.sdcv_base.specs.declared.limits.LimitName.TheVariants as limit
use Rattle.net_paths.specs.Those.{AreThose, All_seen, Taken, Left_out}
use Rattle.net_paths.proofs.Sifting.{those_same}
use Rattle.linked_types.specs.declared.names.Linked.{Linked}
use Rattle.script_types.specs.declared.scripts.Command.{Command}
use Rattle.script_types.specs.declared.scripts.Script.{Script}
use Rattle.sdcv_base.specs.Seqs.{each_at}
use Rattle.selected_types.specs.declared.faults.ExpandFault.{ExpandFault}
use Rattle.selected_types.specs.declared.faults.ExpandFault.TheVariants as fault
use Rattle.run_options.specs.declared.judging.Judging.{Judging}
use Rattle.selected_types.specs.declared.selections.Selected.{Selected}
use Rattle.exception_expand.specs.Causes.{HasMore, HasMoreJudged, HasManySets, IsOverLimit, IsExpandCause}
use Rattle.exception_expand.specs.Pairs.{is_judged}
use Rattle.exception_expand.specs.Selections.{Chosen, IsSelected, IsSelectionOf, HasFewSets, AsksFewSets, script_pairs, line_of, claim_of, lines_at}

-- lists of what there is are equal where the lists of options are
some_same : {A : Type 0} (xs ys : List A) → map Some xs ≡ map Some ys → xs ≡ ys
some_same [] [] same = refl
some_same [] (y ∷ ys) same = absurd cc
some_same (x ∷ xs) [] same = absurd cc
some_same {A} (x ∷ xs) (y ∷ ys) same =
    let first : x ≡ y = cc in
    let rest : map Some xs ≡ map Some ys = cc in
    ap (λ (z : A). z ∷ xs) first ∙ ap (λ (zs : List A). y ∷ zs) (some_same xs ys rest)

-- those of the first items are no more than those of all
pub those_fewer : {A : Type 0} (P : A → Type 0) (xs ys found all : List A) → AreThose P xs found → AreThose P (xs ++ ys) all → length found ≤ length all
those_fewer P _ ys _ all All_seen those = omega arith
those_fewer P _ ys _ _ (Taken x xs found holds rest) (Taken x' xs' all holds' rest') = omega (arith, those_fewer P xs ys found all rest rest')
those_fewer P _ ys _ all (Taken x xs found holds rest) (Left_out x' xs' all' not rest') = absurd (not holds)
those_fewer P _ ys found _ (Left_out x xs found' not rest) (Taken x' xs' all holds rest') = absurd (not holds)
those_fewer P _ ys found all (Left_out x xs found' not rest) (Left_out x' xs' all' not' rest') = those_fewer P xs ys found all rest rest'

-- a script selects one list of pairs, each with one claim, and one list of commands
pub selection_same : (l : Linked) (script : Script) (judging : Judging) (x y : Selected) → IsSelectionOf l script judging x → IsSelectionOf l script judging y
    → y ≡ x
selection_same l script judging x y first second =
    let chosen : second.chosen ≡ first.chosen =
    those_same (IsSelected l script judging) (script_pairs l script) second.chosen first.chosen second.those first.those in
    let commands : y.commands ≡ x.commands =
    second.commands ∙ ap (λ (xs : List Chosen). each_at (lines_at l script judging xs) 0 script.commands) chosen ∙ sym first.commands in
    let pairs : y.pairs ≡ x.pairs = second.pairs ∙ ap (map (line_of l script)) chosen ∙ sym first.pairs in
    let claims : y.claims ≡ x.claims =
    some_same y.claims x.claims (second.claims ∙ ap (map (claim_of l script judging)) chosen ∙ sym first.claims) in
    λ i. record { commands = commands i; pairs = pairs i; claims = claims i }

-- a script that selects pairs does not select more than the limit of them
not_more : (l : Linked) (script : Script) (judging : Judging) (s : Selected) → IsSelectionOf l script judging s
    → HasMore (IsSelected l script judging) (script_pairs l script) 100000 → ⊥
not_more l script judging s is many =
    let all : AreThose (IsSelected l script judging) (many.first ++ many.rest) is.chosen =
    subst (λ (xs : List Chosen). AreThose (IsSelected l script judging) xs is.chosen) many.whole is.those in
    let fewer = those_fewer (IsSelected l script judging) many.first many.rest many.found is.chosen many.those all in
    omega (arith, many.more, is.few, fewer)

-- nor makes it more claims that need a verdict
not_more_judged : (l : Linked) (script : Script) (judging : Judging) (s : Selected) → IsSelectionOf l script judging s
    → HasMoreJudged l script judging 10000 → ⊥
not_more_judged l script judging s is many =
    let chosen : many.chosen ≡ is.chosen =
    those_same (IsSelected l script judging) (script_pairs l script) many.chosen is.chosen many.those is.those in
    let claims : many.claims ≡ s.claims =
    some_same many.claims s.claims (many.claimed ∙ ap (map (claim_of l script judging)) chosen ∙ sym is.claims) in
    let count : count_by (is_judged l.design) many.claims ≡ count_by (is_judged l.design) s.claims = ap (count_by (is_judged l.design)) claims in
    omega (arith, many.more, is.judged, count)

-- nor has a command of it too many through sets
not_many_sets : (l : Linked) (script : Script) (judging : Judging) (s : Selected) → IsSelectionOf l script judging s → HasManySets script judging.hold → ⊥
not_many_sets l script judging s is many =
    let few : HasFewSets judging.hold many.command.what =
    All-contains (λ (c : Command). HasFewSets judging.hold c.what) script.commands many.command is.sets many.stands in
    let most : length many.by.exception.through ≤ 4 = subst AsksFewSets many.claiming few in
    omega (arith, many.more, most)

-- whatever limit it is
not_over : (l : Linked) (script : Script) (judging : Judging) (s : Selected) (what : LimitName) (number : ℕ) → IsSelectionOf l script judging s
    → IsOverLimit l script judging what number → ⊥
not_over l script judging s limit.Through number is over = not_many_sets l script judging s is over.1
not_over l script judging s limit.Pairs number is over = not_more l script judging s is over.1
not_over l script judging s limit.Judged number is over = not_more_judged l script judging s is over.1
not_over l script judging s limit.Nets number is over = over
not_over l script judging s limit.Registers number is over = over
not_over l script judging s limit.Inputs number is over = over
not_over l script judging s limit.Outputs number is over = over
not_over l script judging s limit.Instances number is over = over
not_over l script judging s limit.Pins number is over = over
not_over l script judging s limit.Hierarchy number is over = over

-- so a script that selects pairs is refused for want of memory alone
pub selection_only : (l : Linked) (script : Script) (judging : Judging) (s : Selected) (e : ExpandFault) → IsSelectionOf l script judging s
    → IsExpandCause l script judging e → e ≡ fault.Memory
selection_only l script judging s (fault.Limit what number) is cause = absurd (not_over l script judging s what number is cause)
selection_only l script judging s fault.Memory is cause = refl
selection_only l script judging s (fault.TwoClocks first second) is cause = absurd cause
selection_only l script judging s (fault.ClockNotPort line) is cause = absurd cause
selection_only l script judging s (fault.CaseTwice first later) is cause = absurd cause
selection_only l script judging s (fault.CaseOnReset line name) is cause = absurd cause
selection_only l script judging s (fault.CaseOnPin line name) is cause = absurd cause
selection_only l script judging s (fault.NoClock name) is cause = absurd cause
selection_only l script judging s (fault.Generated line) is cause = absurd cause
