use Rattle.std.proofs.Common.{arith, ◌≡◌, ℕ, ◌+◌, ◌*◌, ◌^◌, ◌<◌, zero, suc, length, List, [], ◌∷◌, get_or, ap, ◌∙◌, subst, add-one}
use Rattle.std.proofs.Math.Nat.{pow-suc}
use Rattle.std.specs.Char.{digit_value}
use Rattle.std.specs.Str.Parse.{AllDigits}
use Rattle.std.proofs.lemmas.Int.Digits.{digits_value_more, digits_more}
use Rattle.sdcv_base.specs.Decimals.{IsDecimal}
use Rattle.sdcv_base.proofs.decimals.read_decimal.Goals as goal

digit_at : (xs : List ℕ) (i : ℕ) → i < length xs → AllDigits 10 xs → digit_value (get_or xs i 0) < 10
digit_at [] i here all = absurd (omega arith)
digit_at (x ∷ xs) zero here all = all.0
digit_at (x ∷ xs) (suc i) here all = digit_at xs i (omega arith) all.1

one_more : (v d i : ℕ) → v < 10 ^ i → d < 10 → v * 10 + d < 10 ^ (i + 1)
one_more v d i vs ds = rw (add-one i, pow-suc 10 i) (omega arith)

pub returns-in_default-clause-some : goal.returns-in_default-clause-some
returns-in_default-clause-some c =
    let t : List ℕ = c.args.text.now in
    let i : ℕ = c.loop-byte.byte-index in
    let here : i < length t = omega arith in
    ((λ e. cc), (λ (d : IsDecimal t c.args.limit). absurd (c.in_default.ensures.value (rw c.from.ensures (digit_at t i here d.digits)))))

pub loop-byte-preserved : goal.loop-byte-preserved
loop-byte-preserved c =
    let t : List ℕ = c.args.text.now in
    let i : ℕ = c.loop-byte.byte-index in
    let here : i < length t = omega arith in
    let is = c.in-Some.ensures.value in
    let e = digits_value_more 10 t i here in
    let small : digit_value (get_or t i 0) < 10 = subst (λ (x : ℕ). digit_value x < 10) c.from.ensures is.0 in
    let same : c.from-in-loop-byte.result ≡ digit_value (get_or t i 0) = c.from-in-loop-byte.ensures ∙ is.1 ∙ ap digit_value c.from.ensures in
    record {
      value = rw (e, same, c.loop-byte.invariant.value);
      digits = digits_more 10 t i here c.loop-byte.invariant.digits small;
      small = one_more _ _ _ c.loop-byte.invariant.small (rw same small);
    }
