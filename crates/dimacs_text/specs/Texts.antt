-- Which text is which formula.
use Rattle.std.specs.Prelude.{◌≡◌, ◌≢◌, ℕ, ◌^◌, ◌<◌, ◌≤◌, max, Bool, List, [], ◌∷◌, ◌++◌, map, length, All}
use Rattle.proof_log.specs.Literals.{literal}
use Rattle.proof_log.specs.Clauses.{is_set, IsNormal, HasComplements}
use Rattle.proof_log.specs.Formulas.{IsFormula}
use Rattle.dimacs_text.specs.Tokens.{Placed, token_of, tokens}
use Rattle.dimacs_text.specs.declared.headed.Headed.{Headed}
use Rattle.dimacs_text.specs.declared.tokens.Token.{Token}
use Rattle.dimacs_text.specs.declared.tokens.Token.TheVariants.{Header, Number}

-- a number: whether it has no `-`, and its variable, or 0
abbrev pub Signed : Type 0
Signed = Bool × ℕ

abbrev pub number_token : Signed → Token
number_token n = Number n.0 n.1

abbrev pub lit_of : Signed → ℕ
lit_of n = literal n.1 n.0

-- the greatest variable of numbers, or 0
abbrev pub greatest_var : List Signed → ℕ
greatest_var [] = 0
greatest_var (n ∷ numbers) = max n.1 (greatest_var numbers)

-- a header, and after it these numbers, of its variables
pub record IsBegun (vars told : ℕ) (numbers : List Signed) (placed : List Placed) : Type 0 where
  pub is : map token_of placed ≡ Header vars told ∷ map number_token numbers
  pub few : vars < 2 ^ 31
  pub within : All (λ (n : Signed). n.1 ≤ vars) numbers

-- the clauses that numbers are, and the literals after the last 0: a 0 ends the clause that is begun, and any other number is a
-- literal of it
pub data AreCut : List Signed → List (List ℕ) → List ℕ → Type 0 where
  No_numbers : AreCut [] [] []
  Is_literal : (numbers : List Signed) (n : Signed) (clauses : List (List ℕ)) (begun : List ℕ) → n.1 ≢ 0 → AreCut numbers clauses begun
      → AreCut (numbers ++ n ∷ []) clauses (begun ++ lit_of n ∷ [])
  Is_end : (numbers : List Signed) (n : Signed) (clauses : List (List ℕ)) (begun : List ℕ) → n.1 ≡ 0 → AreCut numbers clauses begun
      → AreCut (numbers ++ n ∷ []) (clauses ++ begun ∷ []) []

-- the first clauses in their order as the second ones have them: each in normal form, or left out where two of its literals are
-- complements
pub data AreKept : List (List ℕ) → List (List ℕ) → Type 0 where
  No_more : AreKept [] []
  Is_kept : (clause normal : List ℕ) (clauses kept : List (List ℕ)) → IsNormal normal → ((l : ℕ) → is_set normal l ≡ is_set clause l)
      → AreKept clauses kept → AreKept (clause ∷ clauses) (normal ∷ kept)
  Is_true : (clause : List ℕ) (clauses kept : List (List ℕ)) → HasComplements clause → AreKept clauses kept → AreKept (clause ∷ clauses) kept

-- the text is a header and as many clauses as it tells, each with its 0; the formula has these clauses, and no variable above the
-- greatest one that stands there
pub record IsTextOf (text : List ℕ) (read : Headed) : Type 0 where
  pub numbers : List Signed
  pub clauses : List (List ℕ)
  pub begun : IsBegun read.vars (length clauses) numbers (tokens text)
  pub cut : AreCut numbers clauses []
  pub kept : AreKept clauses read.formula.clauses
  pub greatest : read.formula.vars ≡ greatest_var numbers

-- a formula whose variables are of its header
pub record IsHeaded (read : Headed) : Type 0 where
  pub formula : IsFormula read.formula
  pub within : read.formula.vars ≤ read.vars
  pub few : read.vars < 2 ^ 31
