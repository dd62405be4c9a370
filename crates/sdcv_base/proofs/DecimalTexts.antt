-- The text of a number is read as that number.
use Rattle.std.proofs.Common.{arith, ◌≡◌, ℕ, ◌^◌, ◌<◌}
use Rattle.std.specs.Fmt.{decimal}
use Rattle.std.specs.Str.Parse.{digits_value}
use Rattle.std.proofs.lemmas.Fmt.{decimal_is_IsNumeral, length-decimal-le}
use Rattle.sdcv_base.specs.Decimals.{IsDecimal}

pub decimal_is_read : (n : ℕ) → n < 2 ^ 64 → IsDecimal (decimal n) n × (digits_value 10 (decimal n) ≡ n)
decimal_is_read n fits =
    let ((some, digits), value) = decimal_is_IsNumeral n fits in (
      record {
        some = some;
        few = length-decimal-le 20 n (omega arith) (omega arith) fits;
        digits = digits;
        small = omega (arith, value);
      },
      value,
    )
