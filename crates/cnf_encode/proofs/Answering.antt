-- A run that is read back from a model of a query's clauses answers the query.
use Rattle.std.proofs.Common.{◌≡◌, ℕ, ◌<◌, Bool, true, List, [], ◌∷◌, refl, sym, ◌∙◌, arith, ◌⊎◌, inl, inr, subst}
use Rattle.std.specs.Prelude.{All, nat_lt}
use Rattle.std.specs.List.{list_any}
use Rattle.std.proofs.lemmas.List.Elements.{All-head, All-tail, All-contains}
use Rattle.net_model.specs.Netlist.{IsSound}
use Rattle.net_model.specs.Cycles.{IsLinked, HasResets}
use Rattle.net_model.specs.declared.netlist.Design.{Design}
use Rattle.net_model.specs.declared.cycles.Cycle.{Cycle}
use Rattle.net_model.specs.Queries.{Query, AreCyclesOf, IsAnswer, claim_query, clause_query}
use Rattle.query_model.specs.Variables.{AllCodesTrue, code_true, by_number}
use Rattle.net_model.specs.Fits.{NamesRegs}
use Rattle.query_model.specs.Laws.{HasFreeBits, AgreesWith, NumberedModelsAnswer, HasRails, NumberedHaveRails}
use Rattle.query_laws.proofs.Railed.{claim_rails, numbered_rails}
use Rattle.query_laws.proofs.Claims.{claim_models, clause_models}
use Rattle.query_laws.proofs.Problems.{numbered_models}
use Rattle.query_model.specs.declared.keys.Coding.{Coding}
use Rattle.proof_log.specs.Literals.{lit_true}
use Rattle.proof_log.specs.Clauses.{clause_true}
use Rattle.proof_log.specs.Formulas.{IsModel, value_in}
use Rattle.proof_log.specs.declared.models.Model.{Model}
use Rattle.cnf_encode.specs.Problems.{IsClaimQuery, IsClauseQuery, IsProblemFor, IsMadeFor}
use Rattle.cnf_encode.specs.declared.problems.Problem.{Problem}
use Rattle.cnf_encode.proofs.Running.{IsReadBack, run_resets, run_free}

-- a literal's value is said in the same way of formulas and of queries
lit_same : (v : ℕ → Bool) (l : ℕ) → lit_true v l ≡ code_true v l
unfolding lit_true code_true
lit_same v l = refl

clause_same : (v : ℕ → Bool) (clause : List ℕ) → clause_true v clause ≡ list_any (code_true v) clause
clause_same v [] = refl
clause_same v (l ∷ ls) = rw (lit_same v l, clause_same v ls) refl

-- clauses that are all true
codes_true : (v : ℕ → Bool) (clauses : List (List ℕ)) → All (λ c. clause_true v c ≡ true) clauses → AllCodesTrue v clauses
codes_true v [] all = tt
codes_true v (c ∷ cs) all = (
  sym (clause_same v c) ∙ All-head (λ (x : List ℕ). clause_true v x ≡ true) c cs all,
  codes_true v cs (All-tail (λ (x : List ℕ). clause_true v x ≡ true) c cs all),
)

-- a query of the design, whose models answer it
record IsAnswered (coding : Coding) (d : Design) (q : Query) : Type 0 where
  design : q.design ≡ d
  some : 0 < q.cycles
  law : NumberedModelsAnswer coding q

answered : (coding : Coding) (d : Design) (q : Query) → IsSound d → IsClaimQuery d q ⊎ IsClauseQuery d q → IsAnswered coding d q
answered coding d q sound (inl asks) =
    subst (IsAnswered coding d) (sym asks.is)
    (record {
      design = refl;
      some = omega arith;
      law =
          numbered_models coding (claim_query d asks.claim asks.phase asks.depth asks.inv)
          (claim_models coding d asks.claim asks.phase asks.depth asks.inv sound asks.fits (λ i has. All-contains (NamesRegs d) asks.inv i asks.names has));
    })
answered coding d q sound (inr asks) =
    subst (IsAnswered coding d) (sym asks.is)
    (record {
      design = refl;
      some = omega arith;
      law =
          numbered_models coding (clause_query d asks.inv asks.clause asks.phase asks.depth)
          (clause_models coding d asks.inv asks.clause asks.phase asks.depth sound asks.name (λ i has. All-contains (NamesRegs d) asks.inv i asks.names has));
    })

-- the cycles that are read back are those of the query
cycles_of : (coding : Coding) (d : Design) (q : Query) (problem : Problem) (values : List Bool) (run : List Cycle) → IsAnswered coding d q
    → IsProblemFor coding q problem
    → IsReadBack d problem.frames values problem.live problem.cycles run → AreCyclesOf q run
cycles_of coding d q problem values run asked is done =
    record {
      linked = subst (λ (e : Design). IsLinked e run) (sym asked.design) done.linked;
      resets = λ t c at.
          subst (λ (e : Design). HasResets e (nat_lt t q.live) c) (sym asked.design)
          (subst (λ (n : ℕ). HasResets d (nat_lt t n) c) is.live (run_resets d problem.frames values problem.live problem.cycles run done t c at));
      count = done.count ∙ is.cycles;
    }

-- they answer it, and agree with the model
pub run_answers : (coding : Coding) (d : Design) (q : Query) (problem : Problem) (model : Model) (run : List Cycle) → IsSound d
    → IsClaimQuery d q ⊎ IsClauseQuery d q → IsProblemFor coding q problem → IsModel problem.formula model
    → IsReadBack d problem.frames model.values problem.live problem.cycles run
    → IsAnswer q run × AgreesWith d problem.frames (by_number problem.frames (value_in model.values)) run
run_answers coding d q problem model run sound asks is holds done =
    let asked = answered coding d q sound asks in
    let v = value_in model.values in
    let free : HasFreeBits q.design problem.frames (by_number problem.frames (value_in model.values)) run =
    subst (λ (e : Design). HasFreeBits e problem.frames (by_number problem.frames (value_in model.values)) run) (sym asked.design)
    (run_free d problem.frames model.values problem.live problem.cycles run done) in
    let found = asked.law problem.frames problem.formula.vars problem.formula.clauses v run is.clauses (codes_true v problem.formula.clauses holds.1)
    (cycles_of coding d q problem model.values run asked is done) free in
    (found.0, subst (λ (e : Design). AgreesWith e problem.frames (by_number problem.frames (value_in model.values)) run) asked.design found.1)

-- where hazards count, and the layers of its cycles have the rails of the model
pub run_rails : (coding : Coding) (d : Design) (q : Query) (problem : Problem) (model : Model) (run : List Cycle) → IsSound d → (asks : IsClaimQuery d q)
    → asks.claim.hazard ≡ true → IsProblemFor coding q problem → IsModel problem.formula model → IsReadBack d problem.frames model.values problem.live
    problem.cycles run → HasRails d asks.claim problem.frames (by_number problem.frames (value_in model.values)) run
run_rails coding d q problem model run sound asks hazard is holds done =
    let asked = answered coding d q sound (inl asks) in
    let v = value_in model.values in
    let law : NumberedHaveRails coding asks.claim q =
    subst (NumberedHaveRails coding asks.claim) (sym asks.is) (numbered_rails coding asks.claim (claim_query d asks.claim asks.phase asks.depth asks.inv)
    (claim_rails coding d asks.claim asks.phase asks.depth asks.inv sound asks.fits hazard)) in
    let free : HasFreeBits q.design problem.frames (by_number problem.frames (value_in model.values)) run =
    subst (λ (e : Design). HasFreeBits e problem.frames (by_number problem.frames (value_in model.values)) run) (sym asked.design)
    (run_free d problem.frames model.values problem.live problem.cycles run done) in
    subst (λ (e : Design). HasRails e asks.claim problem.frames (by_number problem.frames (value_in model.values)) run) asked.design
    (law problem.frames problem.formula.vars problem.formula.clauses v run is.clauses (codes_true v problem.formula.clauses holds.1)
    (cycles_of coding d q problem model.values run asked is done) free)

-- a problem that was made has a cycle
pub made_some : (d : Design) (problem : Problem) → IsSound d → IsMadeFor d problem → 0 < problem.cycles
made_some d problem sound made = let asked = answered made.coding d made.query sound made.asks in omega (arith, asked.some, made.is.cycles)
