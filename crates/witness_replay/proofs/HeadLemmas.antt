-- A number that was written is read.
use Rattle.std.proofs.Common.{◌≡◌, ℕ, ◌<◌, ◌≤◌, ◌^◌, ◌↔◌, List, Option, Some, None, IsSome, IfSome, ap, ◌∙◌, sym, subst, arith}
use Rattle.std.specs.Fmt.{decimal}
use Rattle.std.specs.Str.Parse.{digits_value}
use Rattle.std.proofs.lemmas.Fmt.{decimal_is_IsNumeral, length-decimal-le}
use Rattle.sdcv_base.specs.Decimals.{IsDecimal}

written_decimal : (n limit : ℕ) → n < 2 ^ 64 → n ≤ limit → IsDecimal (decimal n) limit
written_decimal n limit fits within =
    let ((some, digits), value) = decimal_is_IsNumeral n fits in
    record {
      some = some;
      few = length-decimal-le 20 n (omega arith) (omega arith) fits;
      digits = digits;
      small = omega (arith, value);
    }

-- digits that are those of a number are read as it
pub read_back : (digits : List ℕ) (n limit : ℕ) (o : Option ℕ) → n < 2 ^ 64 → n ≤ limit → digits ≡ decimal n → IsSome o ↔ IsDecimal digits limit
    → IfSome o (λ v. v ≡ digits_value 10 digits) → o ≡ Some n
read_back digits n limit None fits within is some value =
    let none : IsSome {T = ℕ} None = some.1 (subst (λ (ds : List ℕ). IsDecimal ds limit) (sym is) (written_decimal n limit fits within)) in cc
read_back digits n limit (Some v) fits within is some value = ap (λ (x : ℕ). Some x) (value ∙ ap (digits_value 10) is ∙ (decimal_is_IsNumeral n fits).1)
