-- Lists of registers, as those of which something holds are appended.
use Rattle.std.proofs.Common.{arith, ◌≡◌, ℕ, zero, suc, ◌+◌, ◌<◌, ◌≤◌, Bool, true, false, not, MatchBool, IsTrue, ◌↔◌, List, [], ◌∷◌, ◌++◌, length, get_or}
use Rattle.std.proofs.Common.{Some, refl, sym, ap, subst, ◌∙◌, inl, inr, Contains, slice_get, append_assoc, append-nil, length-append}
use Rattle.std.proofs.lemmas.Bool.{cases_lt}
use Rattle.std.proofs.lemmas.List.Elements.{Contains-append_left, Contains-append_cases, Contains-push, Contains-push_cases, Contains-get_or, All-contains}
use Rattle.std.proofs.lemmas.Option.{slice_get_within, same_Some, get_or_from_slice_get}
use Rattle.net_model.specs.Netlist.{AllBelow}
use Rattle.inv_candidates.specs.Levels.{Ascends, IsGrown}

-- the item at a place is in the list
pub has_at : {X : Type 0} (xs : List X) (i : ℕ) (x : X) → slice_get xs i ≡ Some x → Contains xs x
has_at xs i x at = (i, slice_get_within xs i x at, get_or_from_slice_get xs i x x at)

-- what is below a limit wherever it is an item
pub below_from_contains : (limit : ℕ) (xs : List ℕ) → ((x : ℕ) → Contains xs x → x < limit) → AllBelow limit xs
below_from_contains limit xs each i d below = each (get_or xs i d) (Contains-get_or xs i d below)

-- the registers of a list that grew are of the design
pub below_grown : (Holds : ℕ → Type 0) (limit : ℕ) (old new : List ℕ) → ((r : ℕ) → Holds r → r < limit) → AllBelow limit old → IsGrown Holds old new
    → AllBelow limit new
below_grown Holds limit old new low all are = below_from_contains limit new (λ r has.
    elim (Contains-append_cases old are.more r (subst (λ l. Contains l r) are.whole has)) [
      | inl was ↦ All-contains (λ x. x < limit) old r all was
      | inr more ↦ low r (are.holds r more)
    ])

-- an item of joined lists, by its place
pub data IsJoinedAt {X : Type 0} (xs ys : List X) (i : ℕ) (x : X) : Type 0 where
  In_first : i < length xs → slice_get xs i ≡ Some x → IsJoinedAt xs ys i x
  In_second : (j : ℕ) → i ≡ length xs + j → slice_get ys j ≡ Some x → IsJoinedAt xs ys i x

pub joined_at : {X : Type 0} (xs ys : List X) (i : ℕ) (x : X) → slice_get (xs ++ ys) i ≡ Some x → IsJoinedAt xs ys i x
joined_at [] ys i x at = In_second i (omega arith) at
joined_at (y ∷ xs) ys zero x at = In_first (omega arith) at
joined_at (y ∷ xs) ys (suc i) x at = elim (joined_at xs ys i x at) [
  | In_first below here ↦ In_first (omega (arith, below)) here
  | In_second j is there ↦ In_second j (omega (arith, is)) there
]

-- nothing is looked at yet
pub grown_none : (Holds : ℕ → Type 0) (regs : List ℕ) → length regs ≤ 16 → IsGrown (λ r. (r < 0) × Holds r) regs regs
grown_none Holds regs few = record {
  more = [];
  whole = sym (append-nil regs);
  few = few;
  ascends = λ i j a b lt at_i at_j. absurd cc;
  fresh = λ r has. absurd (omega (arith, has.1));
  holds = λ r has. absurd (omega (arith, has.1));
  closed = λ r a has lt holds. absurd (omega (arith, holds.0));
  full = λ r short holds. absurd (omega (arith, holds.0));
}

ascends_push : (xs : List ℕ) (k : ℕ) → Ascends xs → ((r : ℕ) → Contains xs r → r < k) → Ascends (xs ++ k ∷ [])
ascends_push xs k ascends below i j a b lt at_i at_j =
    elim (joined_at xs (k ∷ []) j b at_j) [
      | In_first low here_j ↦ elim (joined_at xs (k ∷ []) i a at_i) [
        | In_first low_i here_i ↦ ascends i j a b lt here_i here_j
        | In_second p is there ↦ absurd (omega arith)
      ]
      | In_second q is there ↦
          let last : q ≡ 0 = (let within = slice_get_within (k ∷ []) q b there in omega (arith, within)) in
          let same : k ≡ b = same_Some k b (subst (λ n. slice_get (k ∷ []) n ≡ Some b) last there) in
          elim (joined_at xs (k ∷ []) i a at_i) [
            | In_first low_i here_i ↦ let less = below a (has_at xs i a here_i) in omega (arith, less, same)
            | In_second p is_i there_i ↦ absurd (omega arith)
          ]
    ]

-- the next register is appended
pub grown_push : (Holds : ℕ → Type 0) (k : ℕ) (old now : List ℕ) → length now < 16 → Holds k → (Contains now k → ⊥) → IsGrown (λ r. (r < k) × Holds r) old now
    → IsGrown (λ r. (r < k + 1) × Holds r) old (now ++ k ∷ [])
grown_push Holds k old now short holds fresh are = record {
  more = are.more ++ k ∷ [];
  whole = ap (λ l. l ++ k ∷ []) are.whole ∙ append_assoc old are.more (k ∷ []);
  few = let len = length-append now (k ∷ []) in omega (arith, len, short);
  ascends = ascends_push are.more k are.ascends (λ r has. (are.holds r has).0);
  fresh = λ r has. elim (Contains-push_cases are.more k r has) [
    | inl earlier ↦ are.fresh r earlier
    | inr same ↦ λ was. fresh (subst (λ l. Contains l k) (sym are.whole) (Contains-append_left old are.more k (subst (Contains old) (sym same) was)))
  ];
  holds = λ r has. elim (Contains-push_cases are.more k r has) [
    | inl earlier ↦ let (low, is) = are.holds r earlier in (omega (arith, low), is)
    | inr same ↦ (omega (arith, same), subst Holds same holds)
  ];
  closed = λ r a has lt (low, is). elim (Contains-push_cases are.more k a has) [
    | inl earlier ↦
        let (below, also) = are.holds a earlier in
        Contains-append_left now (k ∷ []) r (are.closed r a earlier lt (omega (arith, lt, below), is))
    | inr same ↦ Contains-append_left now (k ∷ []) r (are.full r short (omega (arith, lt, same), is))
  ];
  full = λ r less (low, is). elim (cases_lt r k) [
    | inl below ↦ Contains-append_left now (k ∷ []) r (are.full r short (below, is))
    | inr past ↦ let same : k ≡ r = omega (arith, low, past) in subst (Contains (now ++ k ∷ [])) same (Contains-push now k)
  ];
}

-- the next register is passed over: there is no more room, or nothing holds of it, or it is there
pub grown_skip : (Holds : ℕ → Type 0) (k : ℕ) (old now : List ℕ) → (length now < 16 → Holds k → Contains now k) → IsGrown (λ r. (r < k) × Holds r) old now
    → IsGrown (λ r. (r < k + 1) × Holds r) old now
grown_skip Holds k old now there are = record {
  more = are.more;
  whole = are.whole;
  few = are.few;
  ascends = are.ascends;
  fresh = are.fresh;
  holds = λ r has. let (low, is) = are.holds r has in (omega (arith, low), is);
  closed = λ r a has lt holds. let (below, also) = are.holds a has in are.closed r a has lt (omega (arith, lt, below), holds.1);
  full = λ r short holds. elim (cases_lt r k) [
    | inl below ↦ are.full r short (below, holds.1)
    | inr past ↦ let same : k ≡ r = omega (arith, holds.0, past) in subst (Contains now) same (there short (subst Holds (sym same) holds.1))
  ];
}

-- the same where it holds of other registers in the same way
pub grown_same : (P Q : ℕ → Type 0) (old new : List ℕ) → ((r : ℕ) → P r → Q r) → ((r : ℕ) → Q r → P r) → IsGrown P old new → IsGrown Q old new
grown_same P Q old new there back are = record {
  more = are.more;
  whole = are.whole;
  few = are.few;
  ascends = are.ascends;
  fresh = are.fresh;
  holds = λ r has. there r (are.holds r has);
  closed = λ r a has lt holds. are.closed r a has lt (back r holds);
  full = λ r short holds. are.full r short (back r holds);
}

-- all registers are looked at
pub grown_end : (Holds : ℕ → Type 0) (k : ℕ) (old now : List ℕ) → ((r : ℕ) → Holds r → r < k) → IsGrown (λ r. (r < k) × Holds r) old now
    → IsGrown Holds old now
grown_end Holds k old now low are = grown_same (λ r. (r < k) × Holds r) Holds old now (λ r both. both.1) (λ r holds. (low r holds, holds)) are

-- what a test says by its answer
pub said_true : (P Q : Type 0) (b : Bool) → MatchBool b P Q → b ≡ true → P
said_true P Q true said e = said
said_true P Q false said e = absurd cc

pub said_false : (P Q : Type 0) (b : Bool) → MatchBool b P Q → b ≡ false → Q
said_false P Q true said e = absurd cc
said_false P Q false said e = said

-- two facts, and whether a third holds
pub said_by : (P Q R : Type 0) (b : Bool) → P → Q → (IsTrue b ↔ R) → MatchBool (not b) (P × Q × ¬ R) (P → Q → R)
said_by P Q R true p q decides = λ p' q'. decides.0 refl
said_by P Q R false p q decides = (p, q, λ r. (let no = decides.1 r in absurd cc))
