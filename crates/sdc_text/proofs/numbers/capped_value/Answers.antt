use Rattle.std.proofs.Common.{◌≡◌, ℕ, zero, suc, ◌+◌, ◌*◌, ◌<◌, true, min, List, [], ◌∷◌, length, get_or, arith, rules, tests, ◌-◌}
use Rattle.std.proofs.lemmas.Bool.{and_parts}
use Rattle.std.specs.List.{list_all}
use Rattle.std.specs.Char.{is_ascii_digit, digit_value}
use Rattle.std.specs.Int.{IsInRange}
use Rattle.std.proofs.lemmas.Str.{digit_value_digit}
use Rattle.std.proofs.lemmas.Int.Digits.{digits_value_more}
use Rattle.sdc_text.proofs.numbers.capped_value.Goals as goal

in_range : (c : ℕ) → is_ascii_digit c ≡ true → IsInRange 48 57 c
in_range c e = search (rules, tests)

digit_at : (xs : List ℕ) (i : ℕ) → i < length xs → list_all is_ascii_digit xs ≡ true → IsInRange 48 57 (get_or xs i 0)
digit_at [] i here all = absurd (omega arith)
digit_at (x ∷ xs) zero here all = in_range x (and_parts _ _ all).0
digit_at (x ∷ xs) (suc i) here all = digit_at xs i (omega arith) (and_parts _ _ all).1

-- a digit more, where what is above 17 counts as 17
one_more : (v c d k n m : ℕ) → v ≡ min 17 m → d + 48 ≡ c → k ≡ min (v * 10 + (c - 48)) 17 → n ≡ m * 10 + d → k ≡ min 17 n
one_more v c d k n m value digit is next = omega arith

pub loop-byte-preserved : goal.loop-byte-preserved
loop-byte-preserved c =
    let t : List ℕ = c.args.text.now in
    let i : ℕ = c.loop-byte.byte-index in
    let here : i < length t = omega arith in
    let digit = digit_value_digit (get_or t i 0) (digit_at t i here c.requires) in
    one_more c.loop-byte.value (get_or t i 0) (digit_value (get_or t i 0)) _ _ _ c.loop-byte.invariant digit c.min-value.ensures (digits_value_more 10 t i here)
