-- Numbers that grow by digits.
use Rattle.std.proofs.Common.{◌⊎◌, inl, inr, min, ◌≡◌, ℕ, zero, suc, ◌+◌, ◌*◌, ◌/◌, ◌%◌, ◌<◌, ◌≤◌, ◌^◌, List, [], ◌∷◌, ◌++◌, length, refl}
use Rattle.std.proofs.Common.{sym, ap, ◌∙◌, append_assoc, append-nil, arith, subst}
use Rattle.std.specs.Fmt.{decimal}
use Rattle.cert_words.specs.Numbers.{IsGreatestWith}
use Rattle.std.specs.Char.{digit_value}
use Rattle.std.specs.Str.Parse.{digits_value, AllDigits}
use Rattle.std.proofs.lemmas.Fmt.{decimal_is_IsNumeral, decimal_step}
use Rattle.std.proofs.lemmas.Int.Digits.{digits_value_push}

-- the least and the greatest number that k digits make of one
abbrev pub low_of : ℕ → ℕ → ℕ
low_of zero v = v
low_of (suc k) v = 10 * low_of k v

abbrev pub high_of : ℕ → ℕ → ℕ
high_of zero v = v
high_of (suc k) v = 10 * high_of k v + 9

pub low_front : (k v : ℕ) → low_of k (10 * v) ≡ 10 * low_of k v
low_front zero v = refl
low_front (suc k) v = ap (λ x. 10 * x) (low_front k v)

pub low_mono : (k v w : ℕ) → v ≤ w → low_of k v ≤ low_of k w
low_mono zero v w le = le
low_mono (suc k) v w le = let more = low_mono k v w le in omega arith

pub high_front : (k v : ℕ) → high_of k (10 * v + 9) ≡ 10 * high_of k v + 9
high_front zero v = refl
high_front (suc k) v = ap (λ x. 10 * x + 9) (high_front k v)

pub high_mono : (k v w : ℕ) → v ≤ w → high_of k v ≤ high_of k w
high_mono zero v w le = le
high_mono (suc k) v w le = let more = high_mono k v w le in omega arith

pub low_longer : (j k v : ℕ) → j ≤ k → low_of j v ≤ low_of k v
low_longer j zero v le = let e : j ≡ 0 = omega arith in rw e (omega arith)
low_longer zero (suc k) v le = let more = low_longer zero k v (omega arith) in omega arith
low_longer (suc j) (suc k) v le = let more = low_longer j k v (omega arith) in omega arith

pub high_longer : (j k v : ℕ) → j ≤ k → high_of j v ≤ high_of k v
high_longer j zero v le = let e : j ≡ 0 = omega arith in rw e (omega arith)
high_longer zero (suc k) v le = let more = high_longer zero k v (omega arith) in omega arith
high_longer (suc j) (suc k) v le = let more = high_longer j k v (omega arith) in omega arith

digit_in : (ds : List ℕ) (c : ℕ) (w : List ℕ) → AllDigits 10 (ds ++ c ∷ w) → digit_value c < 10
digit_in [] c w all = all.0
digit_in (d ∷ ds) c w all = digit_in ds c w all.1

pub front_digits : (ds w : List ℕ) → AllDigits 10 (ds ++ w) → AllDigits 10 ds
front_digits [] w all = tt
front_digits (d ∷ ds) w all = (all.0, front_digits ds w all.1)

-- digits after digits
pub record IsBetween (ds w : List ℕ) : Type 0 where
  pub low : low_of (length w) (digits_value 10 ds) ≤ digits_value 10 (ds ++ w)
  pub high : digits_value 10 (ds ++ w) ≤ high_of (length w) (digits_value 10 ds)

pub value_between : (w ds : List ℕ) → AllDigits 10 (ds ++ w) → IsBetween ds w
value_between [] ds all =
    let e : digits_value 10 (ds ++ []) ≡ digits_value 10 ds = ap (digits_value 10) (append-nil ds) in
    record { low = omega arith; high = omega arith }
value_between (c ∷ w) ds all =
    let cut : (ds ++ c ∷ []) ++ w ≡ ds ++ c ∷ w = append_assoc ds (c ∷ []) w in
    let all' : AllDigits 10 ((ds ++ c ∷ []) ++ w) = subst (AllDigits 10) (sym cut) all in
    let rest = value_between w (ds ++ c ∷ []) all' in
    let v = digits_value 10 ds in
    let v' = digits_value 10 (ds ++ c ∷ []) in
    let push : v' ≡ v * 10 + digit_value c = digits_value_push 10 ds c in
    let small = digit_in ds c w all in
    let same : digits_value 10 ((ds ++ c ∷ []) ++ w) ≡ digits_value 10 (ds ++ c ∷ w) = ap (digits_value 10) cut in
    let a : low_of (length w) (10 * v) ≤ low_of (length w) v' = low_mono (length w) (10 * v) v' (omega arith) in
    let b : high_of (length w) v' ≤ high_of (length w) (10 * v + 9) = high_mono (length w) v' (10 * v + 9) (omega arith) in
    let fa = low_front (length w) v in
    let fb = high_front (length w) v in
    let rl = rest.low in
    let rh = rest.high in
    record { low = omega arith; high = omega arith }

-- a number whose digits begin with those of another
pub record IsGrown (k v n : ℕ) : Type 0 where
  pub low : low_of k v ≤ n
  pub high : n ≤ high_of k v

pub grown : (v n : ℕ) (w : List ℕ) → v < 2 ^ 64 → n < 2 ^ 64 → decimal v ++ w ≡ decimal n → IsGrown (length w) v n
grown v n w vs ns e =
    let ((some, digits), value) = decimal_is_IsNumeral n ns in
    let ((some', digits'), value') = decimal_is_IsNumeral v vs in
    let between = value_between w (decimal v) (subst (AllDigits 10) (sym e) digits) in
    let same : digits_value 10 (decimal v ++ w) ≡ digits_value 10 (decimal n) = ap (digits_value 10) e in
    let lowest : low_of (length w) (digits_value 10 (decimal v)) ≡ low_of (length w) v = ap (low_of (length w)) value' in
    let highest : high_of (length w) (digits_value 10 (decimal v)) ≡ high_of (length w) v = ap (high_of (length w)) value' in
    let bl = between.low in
    let bh = between.high in
    record { low = omega arith; high = omega arith }

low_some : (k v : ℕ) → 0 < v → 0 < low_of k v
low_some zero v some = some
low_some (suc k) v some = let more = low_some k v some in omega arith

-- and back
pub has_front : (k v n : ℕ) → 0 < v → n < 2 ^ 64 → IsGrown k v n → (w : List ℕ) × (decimal v ++ w ≡ decimal n)
has_front zero v n some small g =
    let gl = g.low in
    let gh = g.high in
    let e : v ≡ n = omega arith in
    ([], append-nil (decimal v) ∙ ap decimal e)
has_front (suc k) v n some small g =
    let gl = g.low in
    let gh = g.high in
    let one = low_some k v some in
    let shorter : IsGrown k v (n / 10) = record { low = omega arith; high = omega arith } in
    let front = has_front k v (n / 10) some (omega arith) shorter in
    let last : List ℕ = (48 + n % 10) ∷ [] in
    (front.0 ++ last, sym (append_assoc (decimal v) front.0 last) ∙ ap (λ x. x ++ last) front.1 ∙ sym (decimal_step n (omega arith) small))

pub at_least : (j v : ℕ) → v ≤ low_of j v
at_least zero v = omega arith
at_least (suc j) v = let more = at_least j v in omega arith

at_most : (j v : ℕ) → low_of j v ≤ high_of j v
at_most zero v = omega arith
at_most (suc j) v = let more = at_most j v in omega arith

shift : (j k : ℕ) → (j ≤ k) ⊎ (k < j) → (suc j ≤ suc k) ⊎ (suc k < suc j)
shift j k (inl le) = inl (omega arith)
shift j k (inr more) = inr (omega arith)

le_or_more : (j k : ℕ) → (j ≤ k) ⊎ (k < j)
le_or_more zero k = inl (omega arith)
le_or_more (suc j) zero = inr (omega arith)
le_or_more (suc j) (suc k) = shift j k (le_or_more j k)

most_at : (j k v n : ℕ) → IsGrown j v n → n < 2 ^ 31 → 2147483647 < 10 * low_of k v → (j ≤ k) ⊎ (k < j) → n ≤ high_of k v
most_at j k v n g few stop (inl le) = let h = high_longer j k v le in let gh = g.high in omega arith
most_at j k v n g few stop (inr more) = let l = low_longer (suc k) j v (omega arith) in let gl = g.low in absurd (omega arith)

most_by : (j k v n : ℕ) → IsGrown j v n → n < 2 ^ 31 → 2147483647 < 10 * low_of k v → n ≤ high_of k v
most_by j k v n g few stop = most_at j k v n g few stop (le_or_more j k)

-- no more digits fit after the last ones, so the greatest number of the last reach is the greatest
pub greatest_is : (k v low high g : ℕ) → 0 < v → low ≡ low_of k v → high ≡ high_of k v → low < 2 ^ 31 → 2147483647 < low * 10
    → g ≡ min high 2147483647 → IsGreatestWith v g
greatest_is k v low high g some low_is high_is few stop is =
    let a = at_least k v in
    let b = at_most k v in
    let here : IsGrown k v g = record { low = omega arith; high = omega arith } in
    let front = has_front k v g some (omega arith) here in
    record {
      few = omega arith;
      more = front.0;
      begins = front.1;
      most = λ w n small e. let h = most_by (length w) k v n (grown v n w (omega arith) (omega arith) e) small (omega arith) in omega arith;
    }
