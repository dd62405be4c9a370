-- From what reads a number to what the number is.
use Rattle.std.proofs.Common.{◌≡◌, ◌&&◌, ap, ap₂, refl, true, false, Bool, ℕ, List, Option, None, Some, nat_le}
use Rattle.std.proofs.Common.{rules, arith, inl, inr}
use Rattle.std.specs.Str.{all_ascii_digits}
use Rattle.std.specs.Str.Parse.{digits_value}
use Rattle.std.specs.Prelude.{◌↔◌, ◌==◌, [], ◌∷◌, IsSome, IfSome}
use Rattle.std.proofs.lemmas.Bool.{cases_Bool, eqb-true}
use Rattle.std.proofs.lemmas.Str.Parse.{IsNumeralModel, numerals_by_value}
use Rattle.std.proofs.lemmas.Bool.Decides.{nat_tests}
use Rattle.sdcv_base.specs.Decimals.{IsDecimal}
use Rattle.dimacs_text.specs.Tokens.{are_digits, decimal_of, header_if, number, signed}

own : IsNumeralModel (λ ds. all_ascii_digits ds ≡ true) (digits_value 10)
own = numerals_by_value _ (search rules)

is_decimal : (text : List ℕ) (limit : ℕ) → IsDecimal text limit → (are_digits text && nat_le (digits_value 10 text) limit) ≡ true
is_decimal text limit d =
    let digits = own.from text d.digits in
    let some = d.some in let few = d.few in let small = d.small in
    grind (arith, nat_tests)

no_decimal : (text : List ℕ) (limit : ℕ) → (IsDecimal text limit → ⊥) → (are_digits text && nat_le (digits_value 10 text) limit) ≡ false
no_decimal text limit not = go (are_digits text && nat_le (digits_value 10 text) limit) refl
  where
    go : (b : Bool) → (are_digits text && nat_le (digits_value 10 text) limit) ≡ b → b ≡ false
    go false e = refl
    go true e = absurd (not (record {
      some = grind (arith, nat_tests);
      few = grind (arith, nat_tests);
      digits = own.to text (grind (arith, nat_tests));
      small = grind (arith, nat_tests);
    }))

-- what is read is the number of the digits
pub read_is : (limit : ℕ) (text : List ℕ) (read : Option ℕ) → (IsSome read ↔ IsDecimal text limit) → IfSome read (λ v. v ≡ digits_value 10 text)
    → read ≡ decimal_of limit text
unfolding decimal_of
read_is limit text None some value = rw (no_decimal text limit (λ d. let bad : false ≡ true = some.1 d in cc)) refl
read_is limit text (Some v) some value = rw (is_decimal text limit (some.0 refl)) (ap (λ (x : ℕ). Some x) value)

-- the header of the same numbers
pub header_same : (vars others told counts : Option ℕ) → vars ≡ others → told ≡ counts → header_if vars told ≡ header_if others counts
header_same vars others told counts v t = ap₂ header_if v t

-- a `-` and digits
pub number_dash : (word digits : List ℕ) → word ≡ 45 ∷ digits → number word ≡ signed false digits
unfolding number
number_dash word digits cut = rw cut refl

-- a word without a `-`
pub number_plain : (word : List ℕ) → ((rest : List ℕ) → word ≡ 45 ∷ rest → ⊥) → number word ≡ signed true word
unfolding number
number_plain [] none = refl
number_plain (x ∷ xs) none =
    elim (cases_Bool (x == 45)) [
      | inl hit ↦ absurd (none xs (ap (λ (y : ℕ). y ∷ xs) (eqb-true x 45 hit)))
      | inr miss ↦ rw miss refl
    ]
