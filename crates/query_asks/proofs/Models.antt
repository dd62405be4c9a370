-- A query whose formula has a model has an answer.
use Rattle.std.proofs.Common.{◌≡◌, ℕ, ◌<◌, Bool, true, List, [], ◌∷◌, length, get_or, refl, ap, subst, sym, ◌∙◌, arith, inl, inr, All}
use Rattle.std.specs.Prelude.{◌⊎◌, nat_lt}
use Rattle.std.specs.List.{list_any}
use Rattle.std.proofs.lemmas.List.Elements.{All-head, All-tail, All-contains}
use Rattle.std.proofs.lemmas.Option.{slice_get-get_or}
use Rattle.net_model.specs.Netlist.{IsSound}
use Rattle.net_model.specs.Fits.{NamesRegs}
use Rattle.net_model.specs.Cycles.{bit_at, AreFixedKept, AreResets}
use Rattle.net_model.specs.Queries.{Query, AreCyclesOf, live_of, claim_query, clause_query}
use Rattle.net_model.proofs.OneRun.{bits_exist}
use Rattle.net_model.specs.declared.netlist.Design.{Design}
use Rattle.net_model.specs.declared.queries.Phase.{Phase}
use Rattle.query_model.specs.Reads.{bit_key, input_key}
use Rattle.query_model.specs.Laws.{HasFreeBits, NumberedModelsAnswer}
use Rattle.query_model.specs.Variables.{AllCodesTrue, code_true, by_number}
use Rattle.query_laws.proofs.Claims.{claim_models, clause_models}
use Rattle.query_laws.proofs.Problems.{numbered_models}
use Rattle.proof_log.specs.Literals.{lit_true}
use Rattle.proof_log.specs.Clauses.{clause_true}
use Rattle.proof_log.specs.Formulas.{IsModel, value_in}
use Rattle.proof_log.specs.declared.models.Model.{Model}
use Rattle.cnf_encode.specs.Problems.{IsClaimQuery, IsClauseQuery, IsProblemFor}
use Rattle.cnf_encode.specs.declared.problems.Problem.{Problem}
use Rattle.verdicts.specs.Logs.{own_coding}
use Rattle.query_asks.specs.Asks.{HasAnswer}
use Rattle.query_asks.proofs.FreeCycles.{AreInputsFor, cycles_exist, lawful_exist, inputs_for}

-- a literal's value is said in the same way of formulas and of queries
lit_same : (v : ℕ → Bool) (l : ℕ) → lit_true v l ≡ code_true v l
unfolding lit_true code_true
lit_same v l = refl

clause_same : (v : ℕ → Bool) (clause : List ℕ) → clause_true v clause ≡ list_any (code_true v) clause
clause_same v [] = refl
clause_same v (l ∷ ls) = rw (lit_same v l, clause_same v ls) refl

codes_true : (v : ℕ → Bool) (clauses : List (List ℕ)) → All (λ c. clause_true v c ≡ true) clauses → AllCodesTrue v clauses
codes_true v [] all = tt
codes_true v (c ∷ cs) all = (
  sym (clause_same v c) ∙ All-head (λ (x : List ℕ). clause_true v x ≡ true) c cs all,
  codes_true v cs (All-tail (λ (x : List ℕ). clause_true v x ≡ true) c cs all),
)

-- a query about some cycles of a phase
record IsOfPhase (phase : Phase) (q : Query) : Type 0 where
  live : q.live ≡ live_of q.design phase
  some : 0 < q.cycles
  law : NumberedModelsAnswer own_coding q

-- the cycles whose free bits are those of a model answer the query
model_answers : (q : Query) (phase : Phase) (problem : Problem) (model : Model) → IsSound q.design → IsOfPhase phase q → IsProblemFor own_coding q problem
    → IsModel problem.formula model → HasAnswer q
model_answers q phase problem model sound of is holds =
    let d = q.design in
    let keys = problem.frames in
    let v = value_in model.values in
    let first = bits_exist (λ r. by_number keys v (bit_key d 0 r)) (length d.regs) in
    let rows : (t : ℕ) → (ins : List Bool) × AreInputsFor d (nat_lt t (live_of d phase)) (λ i. by_number keys v (input_key d t i)) ins =
    λ t. let row = lawful_exist d phase t sound in inputs_for d (nat_lt t (live_of d phase)) (λ i. by_number keys v (input_key d t i)) row.0 sound row.1 in
    let ins : ℕ → List Bool = λ t. (rows t).0 in
    let made = cycles_exist d first.0 ins q.cycles sound first.1 (λ t. (rows t).1.lawful.count) in
    let run = made.0 in
    let cycles : AreCyclesOf q run =
    record {
      linked =
          record {
            some = omega (arith, made.1.long, of.some);
            settled = made.1.settled;
            next = made.1.next;
            fixed = λ t o within.
                let c = get_or run t o in
                subst (AreFixedKept d) (sym (made.1.inputs t c (slice_get-get_or run t o within))) (rows t).1.lawful.fixed;
          };
      resets = λ t c at.
          subst (λ (n : ℕ). AreResets d (nat_lt t n) c.ins) (sym of.live)
          (subst (AreResets d (nat_lt t (live_of d phase))) (sym (made.1.inputs t c at)) (rows t).1.lawful.resets);
      count = made.1.long;
    } in
    let free : HasFreeBits d keys (by_number keys v) run =
    record {
      bits = λ c r at low has. sym (ap (λ (xs : List Bool). bit_at xs r) (made.1.first c at) ∙ first.2 r low);
      inputs = λ t c i at low fixed reset has.
          sym (ap (λ (xs : List Bool). bit_at xs i) (made.1.inputs t c at) ∙ (rows t).1.free i low fixed reset);
    } in
    (run, (of.law keys problem.formula.vars problem.formula.clauses v run is.clauses (codes_true v problem.formula.clauses holds.1) cycles free).0)

-- a query of a sound design has an answer where its formula has a model
pub has_answer : (d : Design) (q : Query) (problem : Problem) (model : Model) → IsSound d → IsClaimQuery d q ⊎ IsClauseQuery d q
    → IsProblemFor own_coding q problem
    → IsModel problem.formula model → HasAnswer q
has_answer d q problem model sound (inl asks) is holds =
    let claim = claim_query d asks.claim asks.phase asks.depth asks.inv in
    let law = claim_models own_coding d asks.claim asks.phase asks.depth asks.inv sound asks.fits
    (λ i has. All-contains (NamesRegs d) asks.inv i asks.names has) in
    subst HasAnswer (sym asks.is)
    (model_answers claim asks.phase problem model sound
    (record { live = refl; some = omega arith; law = numbered_models own_coding claim law })
    (subst (λ (p : Query). IsProblemFor own_coding p problem) asks.is is) holds)
has_answer d q problem model sound (inr asks) is holds =
    let clause = clause_query d asks.inv asks.clause asks.phase asks.depth in
    let law = clause_models own_coding d asks.inv asks.clause asks.phase asks.depth sound asks.name
    (λ i has. All-contains (NamesRegs d) asks.inv i asks.names has) in
    subst HasAnswer (sym asks.is)
    (model_answers clause asks.phase problem model sound
    (record { live = refl; some = omega arith; law = numbered_models own_coding clause law })
    (subst (λ (p : Query). IsProblemFor own_coding p problem) asks.is is) holds)
