use Rattle.std.proofs.Common.{◌≡◌, ◌∙◌, ℕ, ◌+◌, ◌*◌, ◌<◌, min, List, length, get_or, ap, arith}
use Rattle.std.specs.Char.{digit_value}
use Rattle.std.proofs.lemmas.Int.Digits.{digits_value_more}
use Rattle.script_notices.proofs.numbers.capped_value.Goals as goal

-- a digit more, where what is above 256 counts as 256
one_more : (v d k n m : ℕ) → v ≡ min 256 m → k ≡ min (v * 10 + d) 256 → n ≡ m * 10 + d → k ≡ min 256 n
one_more v d k n m value is next = omega arith

pub loop-byte-preserved : goal.loop-byte-preserved
loop-byte-preserved c =
    let t : List ℕ = c.args.number.now in
    let i : ℕ = c.loop-byte.byte-index in
    let here : i < length t = omega arith in
    one_more c.loop-byte.value (digit_value (get_or t i 0)) _ _ _ c.loop-byte.invariant
    (c.min-value.ensures ∙ ap (λ (d : ℕ). min (c.loop-byte.value * 10 + d) 256) c.digit_value.ensures) (digits_value_more 10 t i here)
