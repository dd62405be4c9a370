-- From what reads a number to what the number is.
use Rattle.std.proofs.Common.{◌≡◌, ◌-◌, ◌^◌, ◌&&◌, ap, refl, true, false, Bool, ℕ, List, None, Some, nat_le, length}
use Rattle.std.specs.Str.{all_ascii_digits}
use Rattle.std.specs.Str.Parse.{digits_value}
use Rattle.std.proofs.lemmas.Str.Parse.{IsNumeralModel, numerals_by_value}
use Rattle.std.proofs.lemmas.Bool.Decides.{nat_tests}
use Rattle.sdcv_base.specs.Decimals.{IsDecimal}
use Rattle.refusal_words.specs.Numbers.{number_in}
use Rattle.std.proofs.Common.{rules, arith}

own : IsNumeralModel (λ ds. all_ascii_digits ds ≡ true) (digits_value 10)
own = numerals_by_value _ (search rules)

is_decimal : (text : List ℕ) (limit : ℕ) → IsDecimal text limit
    → (nat_le 1 (length text) && (nat_le (length text) 20 && (all_ascii_digits text && nat_le (digits_value 10 text) limit))) ≡ true
is_decimal text limit d =
    let digits = own.from text d.digits in
    let some = d.some in let few = d.few in let small = d.small in
    grind (arith, nat_tests)

no_decimal : (text : List ℕ) (limit : ℕ) → (IsDecimal text limit → ⊥)
    → (nat_le 1 (length text) && (nat_le (length text) 20 && (all_ascii_digits text && nat_le (digits_value 10 text) limit))) ≡ false
no_decimal text limit not = go _ refl
  where
    go : (b : Bool) → (nat_le 1 (length text) && (nat_le (length text) 20 && (all_ascii_digits text && nat_le (digits_value 10 text) limit))) ≡ b → b ≡ false
    go false e = refl
    go true e = absurd (not (record {
      some = grind (arith, nat_tests);
      few = grind (arith, nat_tests);
      digits = own.to text (grind (arith, nat_tests));
      small = grind (arith, nat_tests);
    }))

-- no number is read where there is none
pub number_none : (text : List ℕ) → (IsDecimal text (2 ^ 64 - 1) → ⊥) → None ≡ number_in text
unfolding number_in
number_none text not = rw (no_decimal text (2 ^ 64 - 1) not) refl

-- the number that is read is that of the digits
pub number_some : (text : List ℕ) (v : ℕ) → IsDecimal text (2 ^ 64 - 1) → v ≡ digits_value 10 text → Some v ≡ number_in text
unfolding number_in
number_some text v d e = rw (is_decimal text (2 ^ 64 - 1) d) (ap (λ (x : ℕ). Some x) e)
