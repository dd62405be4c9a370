-- Bits as digits.
use Rattle.std.proofs.Common.{◌≡◌, ◌≢◌, ℕ, ◌==◌, ◌<◌, Bool, true, false, ◌||◌, List, [], ◌∷◌, ◌++◌, map, length, Option, Some, None, MatchOption}
use Rattle.std.proofs.Common.{refl, sym, ap, ◌∙◌, arith}
use Rattle.std.specs.Prelude.{codes}
use Rattle.std.specs.List.{list_all}
use Rattle.std.proofs.lemmas.Bool.{and_parts}
use Rattle.std.proofs.lemmas.Bool.Decides.{nat_tests}
use Rattle.std.proofs.lemmas.List.{append_cancel_left}
use Rattle.witness_replay.specs.StimulusTexts.{digit_of, digits_of}

-- the digit 0 or 1
abbrev pub is_binary : ℕ → Bool
is_binary b = b == 48 || b == 49

all_binary : (bits : List Bool) → list_all is_binary (map digit_of bits) ≡ true
all_binary [] = refl
all_binary (true ∷ bits) = all_binary bits
all_binary (false ∷ bits) = all_binary bits

digit-one : (x : ℕ) → is_binary x ≡ true → digit_of (x == 49) ≡ x
digit-one x binary = grind (arith, nat_tests)

-- digits are those of the bits that are true at 1
pub digits-ones : (text : List ℕ) → list_all is_binary text ≡ true → map digit_of (map (λ b. b == 49) text) ≡ text
digits-ones [] all = refl
digits-ones (x ∷ xs) all =
    let (here, more) = and_parts _ _ all in
    let first = digit-one x here in
    let others = digits-ones xs more in cc

-- the digits of some bits
pub digits_of_ones : (text : List ℕ) → 0 < length text → list_all is_binary text ≡ true → text ≡ digits_of (map (λ b. b == 49) text)
digits_of_ones [] some all = absurd (omega arith)
digits_of_ones (x ∷ xs) some all = let e = digits-ones (x ∷ xs) all in cc

-- the digits of bits are `-`, or some digits
pub digits_are : (bits : List Bool) (text : List ℕ) → text ≡ digits_of bits → text ≢ codes "-" → (0 < length text) × (list_all is_binary text ≡ true)
digits_are [] text e other = absurd (other e)
digits_are (b ∷ bits) text e other = let len = ap length e in (omega arith, ap (list_all is_binary) e ∙ all_binary (b ∷ bits))

digit_same : (a b : Bool) → digit_of a ≡ digit_of b → a ≡ b
digit_same true true e = refl
digit_same true false e = absurd (omega arith)
digit_same false true e = absurd (omega arith)
digit_same false false e = refl

map_same : (a b : List Bool) → map digit_of a ≡ map digit_of b → a ≡ b
map_same [] [] e = refl
map_same [] (y ∷ b) e = cc
map_same (x ∷ a) [] e = cc
map_same (x ∷ a) (y ∷ b) e =
    let first : digit_of x ≡ digit_of y = cc in
    let others : map digit_of a ≡ map digit_of b = cc in
    let same = digit_same x y first in
    let rest = map_same a b others in cc

no_dash : (b : Bool) → digit_of b ≢ 45
no_dash true e = absurd (omega arith)
no_dash false e = absurd (omega arith)

-- digits say which bits they are
pub digits_same : (a b : List Bool) → digits_of a ≡ digits_of b → a ≡ b
digits_same [] [] e = refl
digits_same [] (y ∷ b) e = let first : digit_of y ≡ 45 = cc in absurd (no_dash y first)
digits_same (x ∷ a) [] e = let first : digit_of x ≡ 45 = cc in absurd (no_dash x first)
digits_same (x ∷ a) (y ∷ b) e = map_same (x ∷ a) (y ∷ b) e

-- so do the digits after a word
pub row_same : (word : List ℕ) (a b : List Bool) → word ++ digits_of a ≡ word ++ digits_of b → a ≡ b
row_same word a b e = digits_same a b (append_cancel_left word (digits_of a) (digits_of b) e)

-- bits of the digits after a word are bits of its line
pub row_from : (word line digits : List ℕ) → line ≡ word ++ digits → (o : Option (List Bool))
    → MatchOption o ((bits : List Bool) → digits ≢ digits_of bits) (λ bits. digits ≡ digits_of bits)
    → MatchOption o ((bits : List Bool) → line ≢ word ++ digits_of bits) (λ bits. line ≡ word ++ digits_of bits)
row_from word line digits is None none = λ bits e. none bits (append_cancel_left word digits (digits_of bits) (sym is ∙ e))
row_from word line digits is (Some bits) same = is ∙ ap (λ (x : List ℕ). word ++ x) same
