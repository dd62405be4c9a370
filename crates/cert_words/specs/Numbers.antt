-- The words of numbers and of literals.
use Rattle.std.specs.Prelude.{◌≡◌, ℕ, ◌<◌, ◌≤◌, ◌^◌, if◌then◌else◌, List, ◌∷◌, ◌++◌, codes}
use Rattle.std.specs.Fmt.{decimal}
use Rattle.proof_log.specs.Literals.{lit_var, lit_positive}

-- the word 0
abbrev pub zero_word : List ℕ
zero_word = codes "0"

-- a variable's number, after a `-` where the literal is its complement
abbrev pub lit_word : ℕ → List ℕ
lit_word l = if lit_positive l then decimal (lit_var l) else 45 ∷ decimal (lit_var l)

-- the literal of a variable below 2^31 that is above another one
pub record IsLitAbove (above l : ℕ) : Type 0 where
  pub above_it : above < lit_var l
  pub few : lit_var l < 2 ^ 31

-- a hint, after any other, is neither 0 nor too large
pub record IsHint (before h : ℕ) : Type 0 where
  pub some : 0 < h
  pub small : h < 2 ^ 63

-- the bytes are the beginning of the word of a variable above another one
pub record BeginsVar (above : ℕ) (piece : List ℕ) : Type 0 where
  pub more : List ℕ
  pub var : ℕ
  pub above_it : above < var
  pub few : var < 2 ^ 31
  pub is : piece ++ more ≡ decimal var

-- the bytes are the beginning of the word of such a literal
pub record BeginsLit (above : ℕ) (piece : List ℕ) : Type 0 where
  pub more : List ℕ
  pub lit : ℕ
  pub fits : IsLitAbove above lit
  pub is : piece ++ more ≡ lit_word lit

-- the bytes are the beginning of the word 0
abbrev pub MayBeZero : List ℕ → Type 0
MayBeZero piece = (more : List ℕ) × (piece ++ more ≡ zero_word)

-- the bytes are the beginning of the word of a hint
pub record BeginsHint (piece : List ℕ) : Type 0 where
  pub more : List ℕ
  pub hint : ℕ
  pub some : 0 < hint
  pub small : hint < 2 ^ 63
  pub is : piece ++ more ≡ decimal hint

-- the greatest number below 2^31 whose digits begin with those of the first number
pub record IsGreatestWith (number greatest : ℕ) : Type 0 where
  pub few : greatest < 2 ^ 31
  pub more : List ℕ
  pub begins : decimal number ++ more ≡ decimal greatest
  pub most : (w : List ℕ) (n : ℕ) → n < 2 ^ 31 → decimal number ++ w ≡ decimal n → n ≤ greatest

-- the bytes are the beginning of the word of a number that is at most so large
abbrev pub BeginsNumber : ℕ → List ℕ → Type 0
BeginsNumber most piece = (more : List ℕ) × (n : ℕ) × (n ≤ most) × (piece ++ more ≡ decimal n)
