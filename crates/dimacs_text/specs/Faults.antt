-- Why a text is no formula.
use Rattle.std.specs.Prelude.{◌≡◌, ◌≢◌, ℕ, ◌<◌, ◌⊎◌, Bool, List, [], ◌∷◌, ◌++◌, length}
use Rattle.dimacs_text.specs.Tokens.{Placed, tokens}
use Rattle.dimacs_text.specs.Texts.{Signed, IsBegun, AreCut}
use Rattle.dimacs_text.specs.declared.tokens.Token.{Token}
use Rattle.dimacs_text.specs.declared.tokens.Token.TheVariants.{Header, NoHeader, Number, NoNumber}
use Rattle.dimacs_text.specs.declared.faults.DimacsFault.{DimacsFault}
use Rattle.dimacs_text.specs.declared.faults.DimacsFault.TheVariants as fault

-- a line that begins as the header does
abbrev pub IsHeading : Token → Type 0
IsHeading (Header vars told) = Unit {0}
IsHeading NoHeader = Unit {0}
IsHeading token = ⊥

-- a word of a clause
abbrev pub IsWord : Token → Type 0
IsWord (Number positive var) = Unit {0}
IsWord NoNumber = Unit {0}
IsWord token = ⊥

-- the token stands first, on that line
abbrev pub StandsFirst : List Placed → ℕ → Token → Type 0
StandsFirst placed line token = (rest : List Placed) × (placed ≡ (line, token) ∷ rest)

-- the token stands on that line, after a header of so many variables and numbers of them
pub record StandsAfter (placed : List Placed) (vars line : ℕ) (token : Token) : Type 0 where
  pub front : List Placed
  pub rest : List Placed
  pub told : ℕ
  pub numbers : List Signed
  pub begun : IsBegun vars told numbers front
  pub is : placed ≡ front ++ (line, token) ∷ rest

-- a token that no formula has there
abbrev pub IsStop : List Placed → DimacsFault → Type 0
IsStop placed (fault.Word line) = (vars : ℕ) × StandsAfter placed vars line NoNumber
IsStop placed (fault.Header line) = StandsFirst placed line NoHeader ⊎ ((vars : ℕ) × (token : Token) × IsHeading token × StandsAfter placed vars line token)
IsStop placed (fault.Early line) = (token : Token) × IsWord token × StandsFirst placed line token
IsStop placed (fault.Variable line) = (vars : ℕ) × (positive : Bool) × (var : ℕ) × (vars < var) × StandsAfter placed vars line (Number positive var)
IsStop placed fault.Memory = Unit {0}
IsStop placed e = ⊥

-- tokens that end too early, or with another number of clauses than is told
abbrev pub IsShort : List Placed → DimacsFault → Type 0
IsShort placed fault.NoHeader = placed ≡ []
IsShort placed fault.Unfinished =
    (vars : ℕ) × (told : ℕ) × (numbers : List Signed) × (clauses : List (List ℕ)) × (begun : List ℕ) × IsBegun vars told numbers placed
    × AreCut numbers clauses begun × (begun ≢ [])
IsShort placed (fault.Count found told) =
    (vars : ℕ) × (numbers : List Signed) × (clauses : List (List ℕ)) × IsBegun vars told numbers placed × AreCut numbers clauses []
    × (found ≡ length clauses) × (found ≢ told)
IsShort placed e = ⊥

-- why the text is no formula; want of memory alone is free
abbrev pub IsCause : List ℕ → DimacsFault → Type 0
IsCause text e = IsStop (tokens text) e ⊎ IsShort (tokens text) e
