-- Nets that are an instance's, and own ones that stand once each.
use Rattle.std.proofs.Common.{◌≡◌, ℕ, zero, suc, ◌+◌, ◌<◌, ◌≤◌, Bool, true, false, List, [], ◌∷◌, ◌++◌, length, refl, subst, arith}
use Rattle.std.proofs.Common.{inl, inr, ◌⊎◌, cond}
use Rattle.std.specs.Prelude.{count_by, ◌==◌, slice_index}
use Rattle.std.proofs.lemmas.Bool.{cases_lt}
use Rattle.net_model.proofs.Members.{In, In-cases, in_or}
use Rattle.net_model.proofs.Order.{count_append, count_cons}
use Rattle.net_model.proofs.Unique.{counted_contains}
use Rattle.net_model.proofs.Members.{In-from_Contains}

-- each is one of the instance's nets, or from a number on below another; and one that is not the instance's stands once
pub record IsSpread (nets : List ℕ) (from to : ℕ) (outs : List ℕ) : Type 0 where
  pub each : (n : ℕ) → In n outs → In n nets ⊎ ((from ≤ n) × (n < to))
  pub once : (n : ℕ) → (In n nets → ⊥) → count_by (λ m. m == n) outs ≤ 1

-- what is not in a list is not counted there
pub zero_of : (n : ℕ) (xs : List ℕ) → (In n xs → ⊥) → count_by (λ m. m == n) xs ≡ 0
zero_of n xs absent = elim (cases_lt 0 (count_by (λ m. m == n) xs)) [
  | inl some ↦ absurd (absent (In-from_Contains xs n (counted_contains n xs (omega (arith, some)))))
  | inr none ↦ omega (arith, none)
]

one_or : (b : Bool) → cond b 1 0 ≤ 1
one_or true = omega arith
one_or false = omega arith

one_count : (n x : ℕ) → count_by (λ m. m == n) (x ∷ []) ≤ 1
one_count n x = omega (arith, count_cons (λ m. m == n) x [], one_or (x == n))

pub spread_none : (nets : List ℕ) (a b : ℕ) → IsSpread nets a b []
spread_none nets a b = record { each = λ n has. absurd has; once = λ n absent. omega arith }

-- an own net
pub spread_own : (nets : List ℕ) (own : ℕ) → IsSpread nets own (own + 1) (own ∷ [])
spread_own nets own = record {
  each = λ n has. elim has [ inl same ↦ inr (omega (arith, same), omega (arith, same)) | inr rest ↦ absurd rest ];
  once = λ n absent. one_count n own;
}

-- nets of the instance
pub spread_all : (nets outs : List ℕ) (a b : ℕ) → ((n : ℕ) → In n outs → In n nets) → IsSpread nets a b outs
spread_all nets outs a b all = record {
  each = λ n has. inl (all n has);
  once = λ n absent. omega (arith, zero_of n outs (λ has. absent (all n has)));
}

pub spread_in : (nets : List ℕ) (a b x : ℕ) → In x nets → IsSpread nets a b (x ∷ [])
spread_in nets a b x here =
    spread_all nets (x ∷ []) a b (λ n has. elim has [ inl same ↦ subst (λ (m : ℕ). In m nets) same here | inr rest ↦ absurd rest ])

own_only : (nets : List ℕ) (n a b : ℕ) → (In n nets → ⊥) → In n nets ⊎ ((a ≤ n) × (n < b)) → (a ≤ n) × (n < b)
own_only nets n a b absent (inl here) = absurd (absent here)
own_only nets n a b absent (inr own) = own

wider : (nets : List ℕ) (n a b c d : ℕ) → c ≤ a → b ≤ d → In n nets ⊎ ((a ≤ n) × (n < b)) → In n nets ⊎ ((c ≤ n) × (n < d))
wider nets n a b c d low high (inl here) = inl here
wider nets n a b c d low high (inr own) = inr (omega (arith, low, own.0), omega (arith, high, own.1))

pub spread_wider : (nets outs : List ℕ) (a b c d : ℕ) → c ≤ a → b ≤ d → IsSpread nets a b outs → IsSpread nets c d outs
spread_wider nets outs a b c d low high s = record { each = λ n has. wider nets n a b c d low high (s.each n has); once = s.once }

-- two lists whose own nets are apart
pub spread_join : (nets xs ys : List ℕ) (a b a1 b1 a2 b2 : ℕ) → a ≤ a1 → b1 ≤ b → a ≤ a2 → b2 ≤ b
    → ((n : ℕ) → a1 ≤ n → n < b1 → a2 ≤ n → n < b2 → ⊥) → IsSpread nets a1 b1 xs → IsSpread nets a2 b2 ys → IsSpread nets a b (xs ++ ys)
spread_join nets xs ys a b a1 b1 a2 b2 low1 high1 low2 high2 apart sx sy = record {
  each = λ n has. elim (In-cases n xs ys has) [
    | inl left ↦ wider nets n a1 b1 a b low1 high1 (sx.each n left)
    | inr right ↦ wider nets n a2 b2 a b low2 high2 (sy.each n right)
  ];
  once = λ n absent. elim (in_or n xs) [
    | inl left ↦
        let (from, to) = own_only nets n a1 b1 absent (sx.each n left) in
        let none = zero_of n ys (λ right. let (from2, to2) = own_only nets n a2 b2 absent (sy.each n right) in apart n from to from2 to2) in
        omega (arith, count_append (λ m. m == n) xs ys, sx.once n absent, none)
    | inr not_left ↦ omega (arith, count_append (λ m. m == n) xs ys, zero_of n xs not_left, sy.once n absent)
  ];
}

-- a net at a place
pub index_in : (nets : List ℕ) (k : ℕ) → k < length nets → In (slice_index nets k) nets
index_in [] k lt = absurd (omega (arith, lt))
index_in (x ∷ xs) zero lt = inl refl
index_in (x ∷ xs) (suc k) lt = inr (index_in xs k (omega (arith, lt)))
