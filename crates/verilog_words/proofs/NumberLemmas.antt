-- The number that the digits of a run write, byte by byte.
use Rattle.std.proofs.Common.{◌≡◌, ℕ, zero, suc, ◌+◌, ◌*◌, ◌<◌, ◌≤◌, Bool, true, false, List, [], ◌∷◌, ◌++◌, length, take, get_or, arith, refl, ap, ◌∙◌}
use Rattle.std.proofs.Common.{append-nil}
use Rattle.std.specs.Prelude.{if◌then◌else◌}
use Rattle.std.specs.List.{filter}
use Rattle.std.specs.Char.{digit_value, is_digit}
use Rattle.std.specs.Str.Parse.{digits_value, digits_value_after}
use Rattle.std.proofs.Math.Nat.{le-mul_of_pos_right}
use Rattle.std.proofs.lemmas.Int.Digits.{digits_value_push}
use Rattle.std.proofs.lemmas.List.Elements.{filter_more}
use Rattle.verilog_words.specs.Numbers.{run_value}

with_next : (radix b : ℕ) (ds : List ℕ) (d : Bool) → is_digit b radix ≡ d
    → digits_value radix (ds ++ (if is_digit b radix then b ∷ [] else []))
    ≡ (if is_digit b radix then digits_value radix ds * radix + digit_value b else digits_value radix ds)
with_next radix b ds true e = rw e (digits_value_push radix ds b)
with_next radix b ds false e = rw e (ap (digits_value radix) (append-nil ds))

-- one more byte is read
pub run_value_more : (radix : ℕ) (run : List ℕ) (i : ℕ) → i < length run
    → run_value radix (take (i + 1) run)
    ≡ (if is_digit (get_or run i 0) radix then run_value radix (take i run) * radix + digit_value (get_or run i 0) else run_value radix (take i run))
unfolding run_value
run_value_more radix run i below =
    let b = get_or run i 0 in
    ap (digits_value radix) (filter_more (λ b. is_digit b radix) run i 0 below)
    ∙ with_next radix b (filter (λ b. is_digit b radix) (take i run)) (is_digit b radix) refl

module _ (radix : ℕ) (some : 1 ≤ radix) where
  after_grows : (n : ℕ) (ds : List ℕ) → n ≤ digits_value_after radix n ds
  after_grows n [] = omega arith
  after_grows n (c ∷ cs) = omega (arith, le-mul_of_pos_right {m = radix} n some, after_grows (n * radix + digit_value c) cs)

  abbrev value_after : ℕ → List ℕ → ℕ
  value_after n run = digits_value_after radix n (filter (λ b. is_digit b radix) run)

  after_turn : (n b : ℕ) (front run : List ℕ) (d : Bool) → is_digit b radix ≡ d → ((m : ℕ) → value_after m front ≤ value_after m run)
      → value_after n (b ∷ front) ≤ value_after n (b ∷ run)
  after_turn n b front run true e less = rw e (less (n * radix + digit_value b))
  after_turn n b front run false e less = rw e (less n)

  after_front : (run : List ℕ) (i n : ℕ) → value_after n (take i run) ≤ value_after n run
  after_front run zero n = after_grows n (filter (λ b. is_digit b radix) run)
  after_front [] (suc i) n = omega arith
  after_front (b ∷ run) (suc i) n = after_turn n b (take i run) run (is_digit b radix) refl (after_front run i)

-- the front of a run writes no larger number
pub run_value_front : (radix : ℕ) (run : List ℕ) (i : ℕ) → 1 ≤ radix → run_value radix (take i run) ≤ run_value radix run
unfolding run_value
run_value_front radix run i some = after_front radix some run i 0
