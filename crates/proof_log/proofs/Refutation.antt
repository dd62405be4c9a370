-- A derivation that refutes leaves the formula no model.
use Rattle.std.proofs.Common.{◌≡◌, ℕ, zero, suc, Bool, true, Some, List, [], ◌∷◌, ◌++◌, map, subst, inl, inr}
use Rattle.std.specs.List.{All, AllByRecursion, slice_get}
use Rattle.std.proofs.lemmas.Bool.{false≢true, cases_Bool}
use Rattle.std.proofs.lemmas.Option.{slice_get_within, get_or_from_slice_get}
use Rattle.std.proofs.lemmas.List.Elements.{All-append, All-map, All-push, All-nil}
use Rattle.proof_log.specs.Clauses.{clause_true}
use Rattle.proof_log.specs.Formulas.{HasNoModel}
use Rattle.proof_log.specs.Derivations.{clause_named, known_clauses, Follows, AllFollow, Refutes}
use Rattle.proof_log.specs.declared.formulas.Formula.{Formula}
use Rattle.proof_log.specs.declared.derivations.DerivStep.{DerivStep}
use Rattle.proof_log.specs.declared.derivations.Derivation.{Derivation}
use Rattle.proof_log.proofs.Sound.{no_conflict, AllSetTrue-negated}

abbrev pub IsTrueIn : (ℕ → Bool) → List ℕ → Type 0
IsTrueIn v c = clause_true v c ≡ true

-- a clause that a number names is true where all are
pub true_named : (v : ℕ → Bool) (known : List (List ℕ)) → All (IsTrueIn v) known → (n : ℕ) (c : List ℕ) → clause_named known n ≡ Some c → clause_true v c ≡ true
true_named v known all zero c h = cc
true_named v known all (suc k) c h =
    let P : List ℕ → Type 0 = IsTrueIn v in
    subst P (get_or_from_slice_get known k c c h) (all k c (slice_get_within known k c h))

pub true_known : (v : ℕ → Bool) (formula : List (List ℕ)) (earlier : List DerivStep) → All (IsTrueIn v) formula
    → All (λ s. IsTrueIn v s.clause) earlier → All (IsTrueIn v) (known_clauses formula earlier)
true_known v formula earlier f e = All-append (IsTrueIn v) _ _ f (All-map (IsTrueIn v) (λ s. s.clause) earlier e)

-- the clause of a step that follows is true
pub follows_true : (v : ℕ → Bool) (formula : List (List ℕ)) (earlier : List DerivStep) (s : DerivStep) → All (IsTrueIn v) formula
    → All (λ s. IsTrueIn v s.clause) earlier → Follows formula earlier s → IsTrueIn v s.clause
follows_true v formula earlier s f e follows =
    elim (cases_Bool (clause_true v s.clause)) [
      | inl t ↦ t
      | inr n ↦ absurd (no_conflict v (known_clauses formula earlier) (true_named v _ (true_known v formula earlier f e)) s.hints _
          (AllSetTrue-negated v s.clause n) follows)
    ]

-- so are the clauses of steps that all follow
pub all_follow_true : (v : ℕ → Bool) (formula : List (List ℕ)) (steps earlier : List DerivStep) → All (IsTrueIn v) formula
    → All (λ s. IsTrueIn v s.clause) earlier → AllFollow formula earlier steps → AllByRecursion (IsTrueIn v) (map (λ s. s.clause) steps)
all_follow_true v formula [] earlier f e follow = tt
all_follow_true v formula (s ∷ ss) earlier f e follow =
    let t = follows_true v formula earlier s f e follow.0 in
    (t, all_follow_true v formula ss (earlier ++ s ∷ []) f (All-push (λ s. IsTrueIn v s.clause) earlier s e t) follow.1)

pub each_from_recursion : {X : Type 0} (P : X → Type 0) (xs : List X) (n : ℕ) (x : X) → AllByRecursion P xs → slice_get xs n ≡ Some x → P x
each_from_recursion P [] n x all h = cc
each_from_recursion P (y ∷ ys) zero x all h = let e : y ≡ x = cc in subst P e all.0
each_from_recursion P (y ∷ ys) (suc n) x all h = each_from_recursion P ys n x all.1 h

-- a refuted formula has no model
pub HasNoModel-from_refutes : (formula : Formula) (derivation : Derivation) → Refutes formula derivation → HasNoModel formula
HasNoModel-from_refutes formula derivation r v f =
    false≢true (each_from_recursion (IsTrueIn v) _ _ [] (all_follow_true v formula.clauses derivation.steps [] f (All-nil _) r.0) r.1)
