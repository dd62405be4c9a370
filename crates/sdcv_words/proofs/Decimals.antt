-- From what reads a number to what the number is.
use Rattle.std.proofs.Common.{◌≡◌, ◌&&◌, ◌≤◌, ◌<◌, ap, refl, true, false, Bool, ℕ, List, None, Some, nat_le}
use Rattle.std.specs.Str.{all_ascii_digits}
use Rattle.std.specs.Str.Parse.{digits_value}
use Rattle.std.proofs.lemmas.Str.Parse.{IsNumeralModel, numerals_by_value}
use Rattle.std.proofs.lemmas.Bool.Decides.{nat_tests}
use Rattle.sdcv_base.specs.Decimals.{IsDecimal}
use Rattle.sdcv_words.specs.Numbers.{are_digits, number_in}
use Rattle.std.proofs.Common.{rules, arith}

own : IsNumeralModel (λ ds. all_ascii_digits ds ≡ true) (digits_value 10)
own = numerals_by_value _ (search rules)

-- the number that is read is that of the digits
pub is_decimal : (text : List ℕ) (limit : ℕ) → IsDecimal text limit → (are_digits text && nat_le (digits_value 10 text) limit) ≡ true
is_decimal text limit d =
    let digits = own.from text d.digits in
    let some = d.some in let few = d.few in let small = d.small in
    grind (arith, nat_tests)

pub no_decimal : (text : List ℕ) (limit : ℕ) → (IsDecimal text limit → ⊥) → (are_digits text && nat_le (digits_value 10 text) limit) ≡ false
no_decimal text limit not = go (are_digits text && nat_le (digits_value 10 text) limit) refl
  where
    go : (b : Bool) → (are_digits text && nat_le (digits_value 10 text) limit) ≡ b → b ≡ false
    go false e = refl
    go true e = absurd (not (record {
      some = grind (arith, nat_tests);
      few = grind (arith, nat_tests);
      digits = own.to text (grind (arith, nat_tests));
      small = grind (arith, nat_tests);
    }))

pub number_none : (least most : ℕ) (text : List ℕ) → (IsDecimal text most → ⊥) → None ≡ number_in least most text
unfolding number_in
number_none least most text not = rw (no_decimal text most not) refl

pub number_some : (least most : ℕ) (text : List ℕ) (v : ℕ) → IsDecimal text most → v ≡ digits_value 10 text → least ≤ v → Some v ≡ number_in least most text
unfolding number_in
number_some least most text v d e above =
    let enough : nat_le least (digits_value 10 text) ≡ true = grind (arith, nat_tests) in
    rw (is_decimal text most d, enough) (ap (λ (x : ℕ). Some x) e)

pub number_low : (least most : ℕ) (text : List ℕ) (v : ℕ) → IsDecimal text most → v ≡ digits_value 10 text → v < least → None ≡ number_in least most text
unfolding number_in
number_low least most text v d e below =
    let less : nat_le least (digits_value 10 text) ≡ false = grind (arith, nat_tests) in
    rw (is_decimal text most d, less) refl
