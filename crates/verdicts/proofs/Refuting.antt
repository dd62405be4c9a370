-- A query whose formula is refuted has no answer.
use Rattle.std.proofs.Common.{◌≡◌, ℕ, ◌<◌, Bool, true, List, [], ◌∷◌, refl, sym, ◌∙◌, arith}
use Rattle.std.specs.Prelude.{All}
use Rattle.std.specs.List.{list_any}
use Rattle.std.proofs.lemmas.List.Elements.{All-nil, All-cons, All-contains}
use Rattle.net_model.specs.Netlist.{IsSound}
use Rattle.net_model.specs.Fits.{Fits}
use Rattle.net_model.proofs.Existence.{item_at}
use Rattle.net_model.specs.declared.netlist.Design.{Design}
use Rattle.net_model.specs.declared.cycles.Cycle.{Cycle}
use Rattle.net_model.specs.declared.claims.Claim.{Claim}
use Rattle.net_model.specs.declared.invariants.InvClause.{InvClause}
use Rattle.net_model.specs.declared.queries.Phase.{Phase}
use Rattle.net_model.specs.Queries.{Query, IsAnswer, claim_query, clause_query}
use Rattle.query_model.specs.Variables.{code_true, AllCodesTrue, IsProblemOf}
use Rattle.query_model.specs.declared.keys.Key.{Key}
use Rattle.net_model.specs.declared.queries.Phase.TheVariants.{Base}
use Rattle.net_model.specs.Fits.{NamesRegs}
use Rattle.query_model.specs.Laws.{AnswersHaveNumberedModels}
use Rattle.query_laws.proofs.Claims.{claim_answers, clause_answers}
use Rattle.query_laws.proofs.Problems.{numbered_answers}
use Rattle.query_model.specs.declared.keys.Coding.{Coding}
use Rattle.proof_log.specs.Literals.{lit_true}
use Rattle.proof_log.specs.Clauses.{clause_true}
use Rattle.proof_log.proofs.Refutation.{HasNoModel-from_refutes}
use Rattle.proof_log.specs.declared.derivations.Derivation.{Derivation}
use Rattle.verdicts.specs.Logs.{RefutesQuery, RefuteEach}

-- query_model and proof_log say alike what a literal and a clause are
lit_same : (v : ℕ → Bool) (l : ℕ) → code_true v l ≡ lit_true v l
unfolding code_true lit_true
lit_same v l = refl

clause_same : (v : ℕ → Bool) (clause : List ℕ) → list_any (code_true v) clause ≡ clause_true v clause
clause_same v [] = refl
clause_same v (l ∷ ls) = cc (lit_same v l, clause_same v ls)

all_true : (v : ℕ → Bool) (clauses : List (List ℕ)) → AllCodesTrue v clauses → All (λ c. clause_true v c ≡ true) clauses
all_true v [] hold = All-nil (λ c. clause_true v c ≡ true)
all_true v (c ∷ cs) hold = All-cons (λ c. clause_true v c ≡ true) c cs (sym (clause_same v c) ∙ hold.0) (all_true v cs hold.1)

-- where each answer gives a model, a refuted formula leaves none
pub none_where_refuted : (coding : Coding) (q : Query) (derivation : Derivation) → AnswersHaveNumberedModels coding q → RefutesQuery coding q derivation
    → (run : List Cycle) → ¬ IsAnswer q run
none_where_refuted coding q derivation law refuted run answer =
    let formula = refuted.0 in
    let keys = refuted.1.0 in
    let found = law keys formula.vars formula.clauses run refuted.1.1 answer in
    HasNoModel-from_refutes formula derivation refuted.2 found.0 (all_true found.0 formula.clauses found.1)

pub claim_refuted : (coding : Coding) (d : Design) (claim : Claim) (phase : Phase) (depth : ℕ) (kept : List InvClause) (derivation : Derivation)
    → IsSound d → Fits d claim → All (NamesRegs d) kept → RefutesQuery coding (claim_query d claim phase depth kept) derivation → (run : List Cycle)
    → ¬ IsAnswer (claim_query d claim phase depth kept) run
claim_refuted coding d claim phase depth kept derivation sound fits names =
    none_where_refuted coding (claim_query d claim phase depth kept) derivation
    (numbered_answers coding (claim_query d claim phase depth kept)
    (claim_answers coding d claim phase depth kept sound fits (λ i has. All-contains (NamesRegs d) kept i names has)))

pub clause_refuted : (coding : Coding) (d : Design) (kept : List InvClause) (clause : InvClause) (phase : Phase) (depth : ℕ) (derivation : Derivation)
    → IsSound d → NamesRegs d clause → All (NamesRegs d) kept → RefutesQuery coding (clause_query d kept clause phase depth) derivation
    → (run : List Cycle) → ¬ IsAnswer (clause_query d kept clause phase depth) run
clause_refuted coding d kept clause phase depth derivation sound name names =
    none_where_refuted coding (clause_query d kept clause phase depth) derivation
    (numbered_answers coding (clause_query d kept clause phase depth)
    (clause_answers coding d kept clause phase depth sound name (λ i has. All-contains (NamesRegs d) kept i names has)))

-- there is a derivation for each number below a count
pub at_each : (coding : Coding) (query : ℕ → Query) (count : ℕ) (derivations : List Derivation) → RefuteEach coding query count derivations → (k : ℕ)
    → k < count → (derivation : Derivation) × RefutesQuery coding (query k) derivation
at_each coding query count derivations all k low =
    let found = item_at derivations k (omega (arith, all.as_many, low)) in (found.0, all.each k found.0 found.1)

-- a base query of a clause reads no kept clause, so its formula is the same whatever they are
problem_same : (coding : Coding) (d : Design) (one other : List InvClause) (clause : InvClause) (depth : ℕ) (keys : List Key) (vars : ℕ)
    (clauses : List (List ℕ)) → IsProblemOf coding (clause_query d one clause Base depth) keys vars clauses
    → IsProblemOf coding (clause_query d other clause Base depth) keys vars clauses
problem_same coding d one other clause depth keys vars clauses is =
    record {
      over_keys = is.over_keys;
      formula =
          record {
            moved = is.formula.moved;
            are_moved = is.formula.are_moved;
            are_needed = is.formula.are_needed;
            are_clauses = is.formula.are_clauses;
          };
      vars_are = is.vars_are;
      clauses_are = is.clauses_are;
    }

pub base_refuted_same : (coding : Coding) (d : Design) (one other : List InvClause) (clause : InvClause) (depth : ℕ) (derivation : Derivation)
    → RefutesQuery coding (clause_query d one clause Base depth) derivation → RefutesQuery coding (clause_query d other clause Base depth) derivation
base_refuted_same coding d one other clause depth derivation refuted =
    let formula = refuted.0 in
    (formula, (refuted.1.0, problem_same coding d one other clause depth refuted.1.0 formula.vars formula.clauses refuted.1.1), refuted.2)
