-- What is known of a query whose answer is of a kind.
use Rattle.std.proofs.Common.{◌≡◌, ◌≤◌, ℕ, List, subst, sym, refl, ap, inl, inr, All}
use Rattle.std.specs.Prelude.{◌⊎◌}
use Rattle.net_model.specs.Netlist.{IsSound}
use Rattle.net_model.specs.Fits.{Fits}
use Rattle.net_model.specs.Queries.{Query, IsAnswer, claim_query, clause_query}
use Rattle.net_model.specs.declared.netlist.Design.{Design}
use Rattle.net_model.specs.declared.cycles.Cycle.{Cycle}
use Rattle.net_model.specs.declared.claims.Claim.{Claim}
use Rattle.net_model.specs.declared.invariants.InvClause.{InvClause}
use Rattle.net_model.specs.declared.queries.Phase.{Phase}
use Rattle.net_model.specs.Fits.{NamesRegs}
use Rattle.proof_log.specs.Formulas.{IsModel}
use Rattle.proof_log.specs.NewClauses.{IsSpentLog}
use Rattle.proof_log.specs.declared.models.Model.{Model}
use Rattle.proof_log.specs.declared.derivations.Derivation.{Derivation}
use Rattle.sat_solver.specs.Answers.{IsRefutation}
use Rattle.cnf_encode.specs.Problems.{IsProblemFor, IsMadeFor, IsClaimQuery, IsClauseQuery}
use Rattle.cnf_encode.specs.declared.problems.Problem.{Problem}
use Rattle.verdicts.specs.Logs.{own_coding, IsFormulaFor, RefutesQuery, IsSpentOn}
use Rattle.verdicts.proofs.Refuting.{claim_refuted, clause_refuted}
use Rattle.verdict_types.specs.Forms.{IsInForm}
use Rattle.query_asks.proofs.Models.{has_answer}
use Rattle.query_asks.specs.Asks.{IsRefutedBy, IsFoundFor, IsRightOf}
use Rattle.query_asks.specs.declared.found.Found.{Found}
use Rattle.query_asks.specs.declared.asks.Asked.{Asked}
use Rattle.query_asks.specs.declared.asks.Asked.TheVariants.{Refuted, Answered, Spent}

-- what is known by the kind of the answer
pub refuted : (q : Query) (budget : ℕ) (asked : Asked) (derivation : Derivation) → asked ≡ Refuted derivation → IsRightOf q budget asked
    → IsRefutedBy q derivation
refuted q budget asked derivation is right = subst (IsRightOf q budget) is right

pub answered : (q : Query) (budget : ℕ) (asked : Asked) (found : Found) → asked ≡ Answered found → IsRightOf q budget asked → IsFoundFor q found
answered q budget asked found is right = subst (IsRightOf q budget) is right

pub spent : (q : Query) (budget : ℕ) (asked : Asked) (log : Derivation) → asked ≡ Spent log → IsRightOf q budget asked
    → IsSpentOn own_coding q budget log
spent q budget asked log is right = subst (IsRightOf q budget) is right

-- the queries that are asked here
pub claim_asks : (d : Design) (claim : Claim) (phase : Phase) (depth : ℕ) (kept : List InvClause) → Fits d claim → All (NamesRegs d) kept
    → depth ≤ 64 → IsClaimQuery d (claim_query d claim phase depth kept)
claim_asks d claim phase depth kept fits names few =
    record { claim = claim; phase = phase; depth = depth; inv = kept; fits = fits; few = few; names = names; is = refl }

pub clause_asks : (d : Design) (inv : List InvClause) (clause : InvClause) (phase : Phase) (depth : ℕ) → NamesRegs d clause → All (NamesRegs d) inv
    → depth ≤ 64 → IsClauseQuery d (clause_query d inv clause phase depth)
clause_asks d inv clause phase depth name names few =
    record { clause = clause; phase = phase; depth = depth; inv = inv; name = name; few = few; names = names; is = refl }

-- the problem of such a query is one of the design's
made_for : (d : Design) (q : Query) (problem : Problem) → IsClaimQuery d q ⊎ IsClauseQuery d q → IsProblemFor own_coding q problem → IsMadeFor d problem
made_for d q problem asks is = record { coding = own_coding; query = q; asks = asks; is = is }

-- a query of the design is one of its own design
own_query : (d : Design) (q : Query) → IsClaimQuery d q ⊎ IsClauseQuery d q → IsClaimQuery q.design q ⊎ IsClauseQuery q.design q
own_query d q (inl asks) = subst (λ (e : Design). IsClaimQuery e q ⊎ IsClauseQuery e q) (ap (λ (p : Query). p.design) (sym asks.is)) (inl asks)
own_query d q (inr asks) = subst (λ (e : Design). IsClaimQuery e q ⊎ IsClauseQuery e q) (ap (λ (p : Query). p.design) (sym asks.is)) (inr asks)

-- the formula of a problem is the query's
formula_of : (q : Query) (problem : Problem) → IsProblemFor own_coding q problem → IsFormulaFor own_coding q problem.formula
formula_of q problem is = (problem.frames, is.clauses)

pub spent_on : (q : Query) (problem : Problem) (budget : ℕ) (log : Derivation) → IsProblemFor own_coding q problem → IsSpentLog problem.formula log budget
    → IsSpentOn own_coding q budget log
spent_on q problem budget log is spends = (problem.formula, formula_of q problem is, spends)

-- where the formula of a query is refuted, no run answers it
no_answer : (d : Design) (q : Query) (derivation : Derivation) → IsSound d → IsClaimQuery d q ⊎ IsClauseQuery d q → RefutesQuery own_coding q derivation
    → (run : List Cycle) → ¬ IsAnswer q run
no_answer d q derivation sound (inl asks) refutes run =
    subst (λ (p : Query). ¬ IsAnswer p run) (sym asks.is)
    (claim_refuted own_coding d asks.claim asks.phase asks.depth asks.inv derivation sound asks.fits asks.names
    (subst (λ (p : Query). RefutesQuery own_coding p derivation) asks.is refutes) run)
no_answer d q derivation sound (inr asks) refutes run =
    subst (λ (p : Query). ¬ IsAnswer p run) (sym asks.is)
    (clause_refuted own_coding d asks.inv asks.clause asks.phase asks.depth derivation sound asks.name asks.names
    (subst (λ (p : Query). RefutesQuery own_coding p derivation) asks.is refutes) run)

pub unsatisfied : (d : Design) (q : Query) (problem : Problem) (budget : ℕ) (derivation : Derivation) → IsSound d
    → IsClaimQuery d q ⊎ IsClauseQuery d q → IsProblemFor own_coding q problem → IsRefutation problem.formula budget derivation → IsInForm derivation
    → IsRefutedBy q derivation
unsatisfied d q problem budget derivation sound asks is refutation form =
    let refutes : RefutesQuery own_coding q derivation = (problem.formula, formula_of q problem is, refutation.refutes) in
    record { refutes = refutes; none = no_answer d q derivation sound asks refutes; in_form = form }

-- where it has a model, some run answers it
pub satisfied : (d : Design) (q : Query) (problem : Problem) (model : Model) → IsSound d → IsClaimQuery d q ⊎ IsClauseQuery d q
    → IsProblemFor own_coding q problem
    → IsModel problem.formula model → IsFoundFor q (record { problem = problem; model = model })
satisfied d q problem model sound asks is holds =
    let own = own_query d q asks in
    record {
      found_in = record { made = made_for q.design q problem own is; model = holds };
      problem = is;
      asks = own;
      answer = has_answer d q problem model sound asks is holds;
    }
