-- One more step of a derivation or a log.
use Rattle.std.proofs.Common.{◌≡◌, true, ℕ, ◌+◌, ◌-◌, ◌<◌, ◌≤◌, Some, List, [], ◌∷◌, ◌++◌, map, length, sym, ap, ◌∙◌, subst, arith}
use Rattle.std.specs.List.{All, slice_get}
use Rattle.std.proofs.lemmas.Bool.{false≢true}
use Rattle.std.proofs.lemmas.List.{append_assoc, append-nil, map-append, length-map, length_push, length-append, get_or_append_left}
use Rattle.std.proofs.lemmas.List.Elements.{All-push, All-nil}
use Rattle.proof_log.specs.Literals.{negated, InVars}
use Rattle.proof_log.specs.Clauses.{is_set, IsNormal}
use Rattle.proof_log.specs.Derivations.{LeadsToConflict, known_clauses, Follows, AllFollow}
use Rattle.proof_log.specs.NewClauses.{IsNew, AllNew, IsLogged, IsSpentLog}
use Rattle.proof_log.specs.declared.formulas.Formula.{Formula}
use Rattle.proof_log.specs.declared.derivations.DerivStep.{DerivStep}
use Rattle.proof_log.proofs.Named.{slice_get-append_right}
use Rattle.proof_log.proofs.Members.{is_set-nil}
use Rattle.sat_solver.specs.Searches.{search_of}
use Rattle.sat_solver.specs.Learning.{IsLearnt}
use Rattle.sat_solver.specs.Answers.{IsRefutation}

pub AllFollow-push : (formula : List (List ℕ)) (steps earlier : List DerivStep) (s : DerivStep) → AllFollow formula earlier steps
    → Follows formula (earlier ++ steps) s → AllFollow formula earlier (steps ++ s ∷ [])
AllFollow-push formula [] earlier s all here =
    let P : List DerivStep → Type 0 = λ es. Follows formula es s in (subst P (append-nil earlier) here, tt)
AllFollow-push formula (x ∷ xs) earlier s all here =
    let P : List DerivStep → Type 0 = λ es. Follows formula es s in
    (all.0, AllFollow-push formula xs (earlier ++ x ∷ []) s all.1 (subst P (sym (append_assoc earlier (x ∷ []) xs)) here))

pub AllNew-push : (formula : List (List ℕ)) (steps earlier : List DerivStep) (s : DerivStep) → AllNew formula earlier steps
    → IsNew (known_clauses formula (earlier ++ steps)) s.clause → AllNew formula earlier (steps ++ s ∷ [])
AllNew-push formula [] earlier s all here =
    let P : List DerivStep → Type 0 = λ es. IsNew (known_clauses formula es) s.clause in (subst P (append-nil earlier) here, tt)
AllNew-push formula (x ∷ xs) earlier s all here =
    let P : List DerivStep → Type 0 = λ es. IsNew (known_clauses formula es) s.clause in
    (all.0, AllNew-push formula xs (earlier ++ x ∷ []) s all.1 (subst P (sym (append_assoc earlier (x ∷ []) xs)) here))

known_clauses-push : (formula : List (List ℕ)) (steps : List DerivStep) (s : DerivStep) → known_clauses formula steps ++ s.clause
    ∷ [] ≡ known_clauses formula (steps ++ s ∷ [])
known_clauses-push formula steps s =
    append_assoc formula (map (λ t. t.clause) steps) (s.clause ∷ []) ∙ ap (λ xs. formula ++ xs) (sym (map-append (λ t. t.clause) steps (s ∷ [])))

-- what the solver has where so many clauses are learnt
pub record LogSoFar (formula : Formula) (budget vars : ℕ) (clauses : List (List ℕ)) (steps : List DerivStep) : Type 0 where
  pub vars_same : vars ≡ formula.vars
  pub known : clauses ≡ known_clauses formula.clauses steps
  pub follow : AllFollow formula.clauses [] steps
  pub new : AllNew formula.clauses [] steps
  pub logged : All (λ s. IsLogged formula.vars s.clause) steps
  pub short : length steps ≤ budget

pub log_none : (formula : Formula) (budget vars : ℕ) (clauses : List (List ℕ)) (steps : List DerivStep) → vars ≡ formula.vars
    → clauses ≡ formula.clauses → steps ≡ [] → LogSoFar formula budget vars clauses steps
log_none formula budget vars clauses steps v c e =
    rw e (record {
      vars_same = v;
      known = c ∙ sym (append-nil formula.clauses);
      follow = tt;
      new = tt;
      logged = All-nil (λ s. IsLogged formula.vars s.clause);
      short = omega arith;
    })

not_nil : (c : List ℕ) (u : ℕ) → is_set c u ≡ true → c ≡ [] → ⊥
not_nil c u h e = let f = ap (λ xs. is_set xs u) e ∙ is_set-nil u in false≢true (sym f ∙ h)

pub log_more : (formula : Formula) (budget vars vars' : ℕ) (clauses next : List (List ℕ)) (lits starts : List ℕ) (steps : List DerivStep)
    (s : DerivStep) (level u : ℕ) → LogSoFar formula budget vars clauses steps → length steps < budget
    → IsLearnt (search_of vars clauses lits starts) s level u → vars' ≡ vars → next ≡ clauses ++ s.clause ∷ [] → LogSoFar formula budget vars' next
    (steps ++ s ∷ [])
log_more formula budget vars vars' clauses next lits starts steps s level u log lt learnt v n =
    let F : List (List ℕ) → Type 0 = λ cs. LeadsToConflict cs (map negated s.clause) s.hints in
    let N : List (List ℕ) → Type 0 = λ cs. IsNew cs s.clause in
    let V : ℕ → Type 0 = λ x. All (InVars x) s.clause in
    record {
      vars_same = v ∙ log.vars_same;
      known = n ∙ ap (λ cs. cs ++ s.clause ∷ []) log.known ∙ known_clauses-push formula.clauses steps s;
      follow = AllFollow-push formula.clauses steps [] s log.follow (subst F log.known learnt.follows);
      new = AllNew-push formula.clauses steps [] s log.new (subst N log.known (u, _, learnt.new));
      logged = All-push (λ t. IsLogged formula.vars t.clause) steps s log.logged
          (record { normal = learnt.normal; in_vars = subst V log.vars_same learnt.in_vars; some = not_nil s.clause u learnt.new.inside });
      short = omega (arith, length_push steps s);
    }

-- the last step
pub refutation_from : (formula : Formula) (budget vars : ℕ) (clauses : List (List ℕ)) (steps : List DerivStep) (s : DerivStep)
    → LogSoFar formula budget vars clauses steps → s.clause ≡ [] → LeadsToConflict clauses [] s.hints → IsRefutation formula budget
    (record { steps = steps ++ s ∷ [] })
refutation_from formula budget vars clauses steps s log empty leads =
    let F : List (List ℕ) → Type 0 = λ cs. LeadsToConflict cs [] s.hints in
    let G : List ℕ → Type 0 = λ c. LeadsToConflict (known_clauses formula.clauses steps) (map negated c) s.hints in
    let N : List ℕ → Type 0 = IsNormal in
    let V : List ℕ → Type 0 = λ c. All (InVars formula.vars) c in
    let at_end : length (steps ++ s ∷ []) - 1 ≡ length (map (λ t. t.clause) steps) + 0 = omega (arith, length_push steps s, length-map steps (λ t. t.clause)) in
    record {
      refutes = (
        AllFollow-push formula.clauses steps [] s log.follow (subst G (sym empty) (subst F log.known leads)),
        ap (λ cs. slice_get cs (length (steps ++ s ∷ []) - 1)) (map-append (λ t. t.clause) steps (s ∷ []))
            ∙ slice_get-append_right (map (λ t. t.clause) steps) (s.clause ∷ []) (length (steps ++ s ∷ []) - 1) 0 at_end
            ∙ ap Some empty,
      );
      normal = All-push (λ t. IsNormal t.clause) steps s (λ k d h. (log.logged k d h).normal) (subst N (sym empty) tt);
      in_vars = All-push (λ t. All (InVars formula.vars) t.clause) steps s (λ k d h. (log.logged k d h).in_vars)
          (subst V (sym empty) (All-nil (InVars formula.vars)));
      short = omega (arith, length_push steps s, log.short);
    }

pub spent_from : (formula : Formula) (budget vars : ℕ) (clauses : List (List ℕ)) (steps : List DerivStep) → LogSoFar formula budget vars clauses steps
    → length steps ≡ budget → IsSpentLog formula (record { steps = steps }) budget
spent_from formula budget vars clauses steps log long = record { long = long; follow = log.follow; new = log.new; logged = log.logged }

All-front : (P : List ℕ → Type 0) (xs ys : List (List ℕ)) → All P (xs ++ ys) → All P xs
All-front P xs ys a = λ k d h. subst P (get_or_append_left xs ys d k h) (a k d (omega (arith, h, length-append xs ys)))

-- a search keeps what the log says
pub log_same : (formula : Formula) (budget vars vars' : ℕ) (clauses clauses' : List (List ℕ)) (steps : List DerivStep) → vars' ≡ vars
    → clauses' ≡ clauses → LogSoFar formula budget vars clauses steps → LogSoFar formula budget vars' clauses' steps
log_same formula budget vars vars' clauses clauses' steps v c log = record {
  vars_same = v ∙ log.vars_same;
  known = c ∙ log.known;
  follow = log.follow;
  new = log.new;
  logged = log.logged;
  short = log.short;
}

-- what holds of the engine's clauses holds of the formula's
pub holds_of_formula : (formula : Formula) (budget vars : ℕ) (clauses : List (List ℕ)) (steps : List DerivStep) (P : List ℕ → Type 0)
    → LogSoFar formula budget vars clauses steps → All P clauses → All P formula.clauses
holds_of_formula formula budget vars clauses steps P log all =
    let Q : List (List ℕ) → Type 0 = All P in
    All-front P formula.clauses (map (λ t. t.clause) steps) (subst Q log.known all)
