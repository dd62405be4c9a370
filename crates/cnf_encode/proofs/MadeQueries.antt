-- The problems of the queries about a claim and about a clause.
use Rattle.std.proofs.Common.{◌≡◌, ℕ, ◌+◌, ◌^◌, ◌<◌, Bool, List, [], length, refl, ap, sym, ◌∙◌, subst}
use Rattle.std.specs.Prelude.{All, Contains, flat_map}
use Rattle.net_model.specs.Judge.{judged_count}
use Rattle.std.proofs.lemmas.List.Elements.{All-contains}
use Rattle.net_model.proofs.Members.{In-from_Contains}
use Rattle.net_model.specs.Netlist.{IsSound}
use Rattle.net_model.specs.Fits.{Fits}
use Rattle.net_model.specs.declared.netlist.Design.{Design}
use Rattle.net_model.specs.declared.cycles.Cycle.{Cycle}
use Rattle.net_model.specs.declared.claims.Claim.{Claim}
use Rattle.net_model.specs.declared.invariants.InvClause.{InvClause}
use Rattle.net_model.specs.declared.queries.Phase.{Phase}
use Rattle.net_model.specs.Queries.{Query, Question, live_of, only_in_step, claim_query, clause_query}
use Rattle.query_model.specs.Keys.{key, below}
use Rattle.query_model.specs.Reads.{bit_key, AreMoved}
use Rattle.query_model.specs.Defined.{Definition}
use Rattle.query_model.specs.Formula.{definitions, asked_clauses, AreMovedFor, AreNeeded}
use Rattle.query_model.specs.Variables.{number_of, by_number}
use Rattle.net_model.specs.Fits.{NamesRegs}
use Rattle.query_model.specs.Laws.{AgreesWith, AnswersHaveNumberedModels}
use Rattle.query_laws.proofs.Claims.{claim_answers, clause_answers}
use Rattle.query_laws.proofs.Problems.{numbered_answers}
use Rattle.query_model.specs.declared.keys.Key.{Key}
use Rattle.query_model.specs.declared.keys.KeyLit.{KeyLit}
use Rattle.query_model.specs.declared.keys.Coding.{Coding}
use Rattle.proof_log.specs.Formulas.{value_in}
use Rattle.cnf_encode.specs.Coded.{Adds}
use Rattle.frame_unroll.specs.Framed.{AreNeededOfClaim, AreNeededOfClause}
use Rattle.cnf_encode.specs.Listed.{Lists, claim_cycle, clause_cycle}
use Rattle.cnf_encode.specs.Problems.{IsCompleteFor}
use Rattle.cnf_encode.specs.declared.problems.Problem.{Problem}
use Rattle.cnf_encode.proofs.Coding.{number_from, number_to}
use Rattle.cnf_encode.proofs.Completing.{model_listed}
use Rattle.cnf_encode.proofs.Made.{IsMade, normals_made, made_exact, made_normal}

-- a query of some cycles, whatever it keeps
abbrev pub asking : Design → ℕ → ℕ → Question → Query
asking d live cycles question = record { design = d; live = live; cycles = cycles; kept = []; kept_below = 0; question = question }

-- what a problem is made of
pub record IsOf (problem : Problem) (keys : List Key) (live cycles : ℕ) (clauses : List (List ℕ)) : Type 0 where
  pub frames : problem.frames ≡ keys
  pub vars : problem.formula.vars ≡ length keys
  pub clauses_are : problem.formula.clauses ≡ clauses
  pub live_is : problem.live ≡ live
  pub cycles_are : problem.cycles ≡ cycles
  pub few : length keys < 2 ^ 31

-- a query with as many cycles, whose definitions and whose asked clauses were added
pub made : (coding : Coding) (q : Query) (moved : List (List Bool)) (problem : Problem) (keys : List Key) (asked : List (List KeyLit))
    (none defined clauses : List (List ℕ)) → AreMovedFor q.design q.question moved → IsOf problem keys q.live q.cycles clauses
    → AreNeeded (definitions coding q moved) asked keys → asked ≡ asked_clauses q → none ≡ [] → Lists keys (definitions coding q moved) none defined
    → Adds keys asked defined clauses → IsMade coding q moved problem
made coding q moved problem keys asked none defined clauses are_moved of needed asked_are empty lists adds =
    let defs : List Definition = definitions coding q moved in
    let needed_are : AreNeeded defs (asked_clauses q) keys = subst (λ (cs : List (List KeyLit)). AreNeeded defs cs keys) asked_are needed in
    let lists_are : Lists keys defs [] defined = subst (λ (old : List (List ℕ)). Lists keys defs old defined) empty lists in
    let adds_are : Adds keys (asked_clauses q) defined clauses = subst (λ (cs : List (List KeyLit)). Adds keys cs defined clauses) asked_are adds in
    let back : keys ≡ problem.frames = sym of.frames in
    record {
      are_moved = are_moved;
      are_needed = subst (λ (ks : List Key). AreNeeded defs (asked_clauses q) ks) back needed_are;
      live = of.live_is;
      cycles = of.cycles_are;
      vars = of.vars ∙ ap length back;
      few = subst (λ (ks : List Key). length ks < 2 ^ 31) back of.few;
      normals = normals_made coding q moved problem.frames defined problem.formula.clauses (subst (λ (ks : List Key). Lists ks defs [] defined) back lists_are)
          (subst (λ (new : List (List ℕ)). Adds problem.frames (asked_clauses q) defined new) (sym of.clauses_are)
          (subst (λ (ks : List Key). Adds ks (asked_clauses q) defined clauses) back adds_are));
    }

-- the needed keys of one coding are those of another one that is the same
pub claim_needed : (coding tabled : Coding) (d : Design) (claim : Claim) (cycles : ℕ) (moved : List (List Bool)) (asked : List (List KeyLit))
    (keys : List Key) → coding ≡ tabled → AreNeededOfClaim tabled d claim cycles moved asked keys → AreNeededOfClaim coding d claim cycles moved asked keys
claim_needed coding tabled d claim cycles moved asked keys same needed =
    subst (λ (k : Coding). AreNeededOfClaim k d claim cycles moved asked keys) (sym same) needed

pub clause_needed : (coding tabled : Coding) (d e : Design) (cycles : ℕ) (asked : List (List KeyLit)) (keys : List Key) → coding ≡ tabled → e ≡ d
    → AreNeededOfClause tabled e cycles asked keys → AreNeededOfClause coding d cycles asked keys
clause_needed coding tabled d e cycles asked keys same is needed =
    subst (λ (k : Coding). AreNeededOfClause k d cycles asked keys) (sym same)
    (subst (λ (f : Design). AreNeededOfClause tabled f cycles asked keys) is needed)

-- so it is where the cycles of a query about a claim were listed one by one
pub claim_made : (coding : Coding) (d : Design) (claim : Claim) (phase : Phase) (depth : ℕ) (inv : List InvClause) (moved : List (List Bool))
    (problem : Problem)
    (keys : List Key) (asked : List (List KeyLit)) (live cycles : ℕ) (none defined clauses : List (List ℕ)) → AreMoved d claim moved
    → IsOf problem keys live cycles clauses → live ≡ live_of d phase → cycles ≡ live_of d phase + depth + 1 + judged_count claim
    → AreNeededOfClaim coding d claim cycles moved asked keys → asked ≡ asked_clauses (claim_query d claim phase depth inv) → none ≡ []
    → Lists keys (flat_map (claim_cycle coding d claim moved live) (below cycles)) none defined → Adds keys asked defined clauses
    → IsMade coding (claim_query d claim phase depth inv) moved problem
claim_made coding d claim phase depth inv moved problem keys asked live cycles none defined clauses are_moved of live_is cycles_are needed asked_are empty
    lists adds =
    let q : Query = claim_query d claim phase depth inv in
    let of_query : IsOf problem keys q.live q.cycles clauses =
    subst (λ (n : ℕ). IsOf problem keys n q.cycles clauses) live_is (subst (λ (n : ℕ). IsOf problem keys live n clauses) cycles_are of) in
    let of_cycles : Lists keys (flat_map (claim_cycle coding d claim moved q.live) (below q.cycles)) none defined =
    subst (λ (n : ℕ). Lists keys (flat_map (claim_cycle coding d claim moved q.live) (below n)) none defined) cycles_are
    (subst (λ (n : ℕ). Lists keys (flat_map (claim_cycle coding d claim moved n) (below cycles)) none defined) live_is lists) in
    made coding q moved problem keys asked none defined clauses are_moved of_query
    (needed q depth (only_in_step phase depth) refl (sym cycles_are) refl) asked_are empty of_cycles adds

-- and where those of a query about a clause were
pub clause_made : (coding : Coding) (d e : Design) (inv : List InvClause) (clause : InvClause) (phase : Phase) (depth : ℕ) (problem : Problem)
    (keys : List Key) (asked : List (List KeyLit)) (live cycles : ℕ) (none defined clauses : List (List ℕ))
    → IsOf problem keys live cycles clauses → e ≡ d → live ≡ live_of d phase → cycles ≡ live_of d phase + depth + 1
    → AreNeededOfClause coding d cycles asked keys → asked ≡ asked_clauses (clause_query d inv clause phase depth) → none ≡ []
    → Lists keys (flat_map (clause_cycle coding e live) (below cycles)) none defined → Adds keys asked defined clauses
    → IsMade coding (clause_query d inv clause phase depth) [] problem
clause_made coding d e inv clause phase depth problem keys asked live cycles none defined clauses of same live_is cycles_are needed asked_are empty lists
    adds =
    let q : Query = clause_query d inv clause phase depth in
    let of_query : IsOf problem keys q.live q.cycles clauses =
    subst (λ (n : ℕ). IsOf problem keys n q.cycles clauses) live_is (subst (λ (n : ℕ). IsOf problem keys live n clauses) cycles_are of) in
    let of_design : Lists keys (flat_map (clause_cycle coding d live) (below cycles)) none defined =
    subst (λ (f : Design). Lists keys (flat_map (clause_cycle coding f live) (below cycles)) none defined) same lists in
    let of_cycles : Lists keys (flat_map (clause_cycle coding d q.live) (below q.cycles)) none defined =
    subst (λ (n : ℕ). Lists keys (flat_map (clause_cycle coding d q.live) (below n)) none defined) cycles_are
    (subst (λ (n : ℕ). Lists keys (flat_map (clause_cycle coding d n) (below cycles)) none defined) live_is of_design) in
    made coding q [] problem keys asked none defined clauses refl of_query (needed q clause refl (sym cycles_are) refl) asked_are empty of_cycles adds

-- values of keys that are the same agree with the same cycles
agrees_too : (d : Design) (keys : List Key) (v w : Key → Bool) (run : List Cycle) → ((k : Key) → Contains keys k → w k ≡ v k)
    → AgreesWith d keys v run → AgreesWith d keys w run
agrees_too d keys v w run same agrees =
    record {
      nets = λ t c n at low has. same (key t 0 0 n) has ∙ agrees.nets t c n at low has;
      bits = λ t c r at lt has. same (bit_key d t r) has ∙ agrees.bits t c r at lt has;
      captures = λ t c r at lt has. same (bit_key d (t + 1) r) has ∙ agrees.captures t c r at lt has;
    }

-- each answer gives a model that agrees with it
complete : (coding : Coding) (q : Query) (moved : List (List Bool)) (problem : Problem) → AnswersHaveNumberedModels coding q → IsMade coding q moved problem
    → IsCompleteFor q problem
complete coding q moved problem law is run answer =
    let keys = problem.frames in
    let found = law keys problem.formula.vars problem.formula.clauses run (made_exact coding q moved problem is).clauses answer in
    let made = model_listed problem.formula found.0 (made_normal coding q moved problem is) found.1 in (
      made.0,
      made.1,
      agrees_too q.design keys (by_number keys found.0) (by_number keys (value_in made.0.values)) run
          (λ k has. made.2 (number_of keys k) (number_from keys k) (rw is.vars (number_to keys k (In-from_Contains keys k has)))) found.2,
    )

pub claim_complete : (coding : Coding) (d : Design) (claim : Claim) (phase : Phase) (depth : ℕ) (inv : List InvClause) (moved : List (List Bool))
    (problem : Problem) → IsSound d → Fits d claim → All (NamesRegs d) inv → IsMade coding (claim_query d claim phase depth inv) moved problem
    → IsCompleteFor (claim_query d claim phase depth inv) problem
claim_complete coding d claim phase depth inv moved problem sound fits names is =
    complete coding (claim_query d claim phase depth inv) moved problem
    (numbered_answers coding (claim_query d claim phase depth inv) (claim_answers coding d claim phase depth inv sound fits
    (λ i has. All-contains (NamesRegs d) inv i names has))) is

pub clause_complete : (coding : Coding) (d : Design) (inv : List InvClause) (clause : InvClause) (phase : Phase) (depth : ℕ) (moved : List (List Bool))
    (problem : Problem) → IsSound d → NamesRegs d clause → All (NamesRegs d) inv → IsMade coding (clause_query d inv clause phase depth) moved problem
    → IsCompleteFor (clause_query d inv clause phase depth) problem
clause_complete coding d inv clause phase depth moved problem sound name names is =
    complete coding (clause_query d inv clause phase depth) moved problem
    (numbered_answers coding (clause_query d inv clause phase depth) (clause_answers coding d inv clause phase depth sound name
    (λ i has. All-contains (NamesRegs d) inv i names has))) is
