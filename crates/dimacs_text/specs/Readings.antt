-- A text that is read token by token.
use Rattle.std.specs.Prelude.{◌≡◌, ℕ, ◌+◌, List, [], length, All, Option, None, Some}
use Rattle.proof_log.specs.Literals.{InVars}
use Rattle.proof_log.specs.Clauses.{IsNormal, IsKeptOf}
use Rattle.dimacs_text.specs.Tokens.{Placed}
use Rattle.dimacs_text.specs.Texts.{Signed, greatest_var, IsBegun, AreCut, AreKept}
use Rattle.dimacs_text.specs.declared.counts.Counts.{Counts}
use Rattle.dimacs_text.specs.declared.readings.Reading.{Reading}

-- after a header: the clauses that are kept, how many there were, the literals of the clause that is begun, and the greatest variable
pub record IsReadAfter (placed : List Placed) (vars told : ℕ) (r : Reading) : Type 0 where
  pub numbers : List Signed
  pub clauses : List (List ℕ)
  pub begun : IsBegun vars told numbers placed
  pub cut : AreCut numbers clauses r.begun.items
  pub kept : AreKept clauses r.clauses
  pub count : r.count ≡ length clauses
  pub greatest : r.greatest ≡ greatest_var numbers
  pub begun_in_vars : All (InVars r.greatest) r.begun.items
  pub normal : All IsNormal r.clauses
  pub in_vars : All (λ c. All (InVars r.greatest) c) r.clauses

abbrev pub IsReadBy : List Placed → Option Counts → Reading → Type 0
IsReadBy placed None r = placed ≡ []
IsReadBy placed (Some h) r = IsReadAfter placed h.vars h.told r

-- these tokens are read
abbrev pub IsRead : List Placed → Reading → Type 0
IsRead placed r = IsReadBy placed r.header r

-- the clause that is begun is kept so, and nothing else changes
pub record IsKeptIn (old new : Reading) : Type 0 where
  pub header : new.header ≡ old.header
  pub count : new.count ≡ old.count
  pub begun : new.begun.items ≡ old.begun.items
  pub greatest : new.greatest ≡ old.greatest
  pub kept : IsKeptOf old.begun.items old.clauses new.clauses

-- the clause that was begun is ended
pub record IsEnded (old new : Reading) : Type 0 where
  pub header : new.header ≡ old.header
  pub count : new.count ≡ old.count + 1
  pub begun : new.begun.items ≡ []
  pub greatest : new.greatest ≡ old.greatest
  pub kept : IsKeptOf old.begun.items old.clauses new.clauses
