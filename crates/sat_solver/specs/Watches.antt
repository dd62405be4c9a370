-- What the watches of the clauses keep. The clause at the place k has the watches 2 * k and 2 * k + 1.
use Rattle.std.specs.Prelude.{◌≡◌, ℕ, ◌+◌, ◌*◌, ◌<◌, ◌≤◌, true, false, List, [], length, take, All, slice_index, slice_index_or}
use Rattle.proof_log.specs.Literals.{lit_var, negated}
use Rattle.proof_log.specs.Clauses.{is_set, IsNormal}
use Rattle.watch_lists.specs.Watchings.{Watching}
use Rattle.sat_solver.specs.Searches.{AllInVars, IsFalseAt}
use Rattle.sat_solver.specs.Trails.{Trailed, Extends}
use Rattle.sat_solver.specs.declared.propagation.Queue.{Queue}
use Rattle.sat_solver.specs.declared.propagation.Look.{Look}
use Rattle.sat_solver.specs.declared.propagation.Look.TheVariants.{Satisfied, Moves, Implies, Falsified}
use Rattle.sat_solver.specs.declared.propagation.Visit.{Visit}
use Rattle.sat_solver.specs.declared.propagation.Visit.TheVariants.{End, Next, Conflict}
use Rattle.sat_solver.specs.Learning.{OthersFalse}

-- the literal that a watch is on, 0 for none
abbrev pub watched : List ℕ → ℕ → ℕ
watched on n = slice_index on n

-- the clause at that place
abbrev pub clause_at : List (List ℕ) → ℕ → List ℕ
clause_at clauses k = slice_index_or clauses k []

-- a clause of two or more literals has its watches on two of them, and each other one on none
pub record AreWatches (clauses : List (List ℕ)) (on : List ℕ) : Type 0 where
  pub room : 2 * length clauses ≤ length on
  pub spare : (n : ℕ) → 2 * length clauses ≤ n → watched on n ≡ 0
  pub inside : (n : ℕ) → 0 < watched on n → is_set (clause_at clauses (lit_var n)) (watched on n) ≡ true
  pub both : (n : ℕ) → 0 < watched on n → 0 < watched on (negated n)
  pub apart : (n : ℕ) → 0 < watched on n → watched on n ≡ watched on (negated n) → ⊥
  pub short : (k : ℕ) → k < length clauses → watched on (2 * k) ≡ 0 → length (clause_at clauses k) < 2

-- where a watched literal's complement is among the first, the clause's other watched literal is among the second
abbrev pub Halves : List ℕ → List ℕ → List ℕ → Type 0
Halves on first second =
    (n : ℕ) → 0 < watched on n → is_set first (negated (watched on n)) ≡ true → is_set second (watched on (negated n)) ≡ true

-- what held of two fronts of the set literals still holds
abbrev pub KeepsHalves : List ℕ → List ℕ → List ℕ → List ℕ → Type 0
KeepsHalves lits on new new_on =
    (d s : ℕ) → d ≤ length lits → s ≤ length lits → Halves on (take d lits) (take s lits) → Halves new_on (take d new) (take s new)

-- a literal of the clause is set
abbrev pub HasTrue : List ℕ → List ℕ → Type 0
HasTrue set clause = (u : ℕ) × (is_set clause u ≡ true) × (is_set set u ≡ true)

-- the clause's literal at that place is another one, and not false
abbrev pub IsOpenAt : List ℕ → List ℕ → ℕ → ℕ → Type 0
IsOpenAt set clause other at =
    (at < length clause) × (slice_index clause at ≡ other → ⊥) × (is_set set (negated (slice_index clause at)) ≡ false)

-- what a clause's literals tell where one of its watched literals became false, and the other one is `other`
abbrev pub LookMeans : List ℕ → List ℕ → ℕ → Look → Type 0
LookMeans set clause other Satisfied = is_set set other ≡ true
LookMeans set clause other (Moves q at) = (is_set clause q ≡ true) × (q ≡ other → ⊥) × (is_set set (negated q) ≡ false)
LookMeans set clause other Implies = OthersFalse set clause other × (is_set set other ≡ false) × (is_set set (negated other) ≡ false)
LookMeans set clause other Falsified = OthersFalse set clause other × (is_set set (negated other) ≡ true)

-- the literals of the formula's variables have lists, and those of the watches that wait are the false one
pub record CanWalk (clauses : List (List ℕ)) (false_lit : ℕ) (t : Trailed) (w : Watching) : Type 0 where
  pub in_vars : AllInVars t.vars clauses
  pub normal : All IsNormal clauses
  pub watches : AreWatches clauses w.literals
  pub limit : w.limit ≡ 2 * t.vars + 2
  pub falsified : is_set t.lits (negated false_lit) ≡ true
  pub waits : (n : ℕ) → is_set w.waiting n ≡ true → watched w.literals n ≡ false_lit

-- what is done where watches are walked
pub record Walks (clauses : List (List ℕ)) (false_lit : ℕ) (t : Trailed) (w : Watching) (new_t : Trailed) (new_w : Watching) : Type 0 where
  pub can : CanWalk clauses false_lit new_t new_w
  pub extends : Extends clauses t new_t
  pub keeps : KeepsHalves t.lits w.literals new_t.lits new_w.literals

-- the watches that wait no more have a true partner where their literal is among the first set ones
abbrev pub AreWalked : ℕ → Trailed → Watching → Type 0
AreWalked done t w =
    (n : ℕ) → 0 < watched w.literals n → is_set w.waiting n ≡ false
    → is_set (take done t.lits) (negated (watched w.literals n)) ≡ true → is_set t.lits (watched w.literals (negated n)) ≡ true

-- a step of the walk: it is at its end, one watch is done, or the clause at that place is false
abbrev pub VisitMeans : List (List ℕ) → ℕ → Trailed → Watching → Trailed → Watching → Visit → Type 0
VisitMeans clauses false_lit t w new_t new_w End = (w.waiting ≡ []) × (new_t ≡ t) × (new_w ≡ w)
VisitMeans clauses false_lit t w new_t new_w Next =
    Walks clauses false_lit t w new_t new_w × (length new_w.waiting < length w.waiting)
    × ((done : ℕ) → done ≤ length t.lits → AreWalked done t w → AreWalked done new_t new_w)
VisitMeans clauses false_lit t w new_t new_w (Conflict place) =
    Walks clauses false_lit t w new_t new_w × IsFalseAt clauses new_t.lits place

-- what a queue knows of the clauses and the set literals
pub record IsQueued (clauses : List (List ℕ)) (t : Trailed) (q : Queue) : Type 0 where
  pub watches : AreWatches clauses q.watches.literals
  pub limit : q.watches.limit ≡ 2 * t.vars + 2
  pub none_waits : q.watches.waiting ≡ []
  pub few : q.done ≤ length t.lits
  pub most : q.looked ≤ length clauses
  pub walked : Halves q.watches.literals (take q.done t.lits) t.lits
  pub looked : (k : ℕ) → k < q.looked → k < length clauses → length (clause_at clauses k) < 2 → HasTrue t.lits (clause_at clauses k)

-- what is done where a queue is worked off
pub record Settles (clauses : List (List ℕ)) (t : Trailed) (q : Queue) (new_t : Trailed) (new_q : Queue) : Type 0 where
  pub queued : IsQueued clauses new_t new_q
  pub extends : Extends clauses t new_t
  pub keeps : KeepsHalves t.lits q.watches.literals new_t.lits new_q.watches.literals

-- an empty queue
pub record IsNewQueue (vars : ℕ) (q : Queue) : Type 0 where
  pub literals : q.watches.literals ≡ []
  pub waiting : q.watches.waiting ≡ []
  pub limit : q.watches.limit ≡ 2 * vars + 2
  pub done : q.done ≡ 0
  pub looked : q.looked ≡ 0

-- there may be more watches, on no literal
pub record HasMore (old new : Queue) : Type 0 where
  pub same : (n : ℕ) → watched new.watches.literals n ≡ watched old.watches.literals n
  pub longer : length old.watches.literals ≤ length new.watches.literals
  pub waiting : new.watches.waiting ≡ old.watches.waiting
  pub limit : new.watches.limit ≡ old.watches.limit
  pub done : new.done ≡ old.done
  pub looked : new.looked ≡ old.looked

-- there are watches for the clause at that place, on its first two literals, or on none where it has fewer
pub record IsAdded (place : ℕ) (lits : List ℕ) (old new : Queue) : Type 0 where
  pub room : 2 * place + 1 < length new.watches.literals
  pub others : (n : ℕ) → (n ≡ 2 * place → ⊥) → (n ≡ 2 * place + 1 → ⊥) → watched new.watches.literals n ≡ watched old.watches.literals n
  pub none : length lits < 2 → (n : ℕ) → watched new.watches.literals n ≡ watched old.watches.literals n
  pub first : 2 ≤ length lits → watched new.watches.literals (2 * place) ≡ slice_index lits 0
  pub second : 2 ≤ length lits → watched new.watches.literals (2 * place + 1) ≡ slice_index lits 1
  pub waiting : new.watches.waiting ≡ old.watches.waiting
  pub limit : new.watches.limit ≡ old.watches.limit
  pub done : new.done ≡ old.done
  pub looked : new.looked ≡ old.looked
