-- How high trees are, and what fails with its part.
use Rattle.std.proofs.Common.{◌≡◌, ◌==◌, ℕ, zero, suc, ◌+◌, ◌-◌, ◌<◌, ◌≤◌, max, nat_le, Bool, true, false, List, length, drop, Option, Some, None}
use Rattle.std.proofs.Common.{refl, arith, if◌then◌else◌}
use Rattle.std.proofs.Math.Nat.{le-max_left, le-max_right}
use Rattle.std.proofs.lemmas.Bool.Decides.{nat_tests}
use Rattle.texts.specs.Fronts.{first}
use Rattle.lib_words.specs.Blanks.{after_space}
use Rattle.texts.specs.Reads.{Read, ◌>>=◌}
use Rattle.texts.specs.Rules.{most_nested}
use Rattle.texts.proofs.ReadLemmas.{bind_gave}
use Rattle.lib_func.specs.declared.operators.Level.{Level}
use Rattle.lib_func.specs.declared.operators.Level.TheVariants.{Or, And, Xor}
use Rattle.lib_func.specs.declared.stops.Stop.{Stop}
use Rattle.lib_func.specs.declared.stops.Stop.TheVariants as stop
use Rattle.lib_func.specs.Fails.{FailsBy, FailsWhole, Fails, itself, tree}
use Rattle.lib_func.specs.Trees.{Tree, NotTree, height, negated}
use Rattle.lib_func.specs.Operators.{after_operator, join}
use Rattle.lib_func.specs.Marks.{marks}
use Rattle.lib_func.specs.Functions.{chain_from, chain_of, chain_at, closed, atom_in, inverted_in, within, function_in, low_function}
use Rattle.lib_func.proofs.ChainLemmas.{chain_next}

-- each inversion adds one
pub height-negated : (n : ℕ) (f : Tree) → height (negated n f) ≡ height f + n
height-negated zero f = omega arith
height-negated (suc n) f = let more = height-negated n (NotTree f) in omega arith

-- an operator is 1 higher than its higher operand
pub height-join : (level : Level) (f g : Tree) → height (join level f g) ≡ max (height f) (height g) + 1
height-join Or f g = refl
height-join And f g = refl
height-join Xor f g = refl

pub join_left : (level : Level) (f g : Tree) → height f ≤ height (join level f g)
join_left level f g = let e = height-join level f g in let low = le-max_left (height f) (height g) in omega arith

pub join_right : (level : Level) (f g : Tree) → height g ≤ height (join level f g)
join_right level f g = let e = height-join level f g in let low = le-max_right (height f) (height g) in omega arith

-- a chain is as high as what was found of it
module _ (o : List ℕ → Read Tree) (level : Level) where
  higher_cases : (m : ℕ) (found : Tree) (s : List ℕ) (p : Tree × List ℕ) (a : Option (List ℕ)) → after_operator level s ≡ a
      → chain_from o level (suc m) found s ≡ Some p
      → ((more : Tree) (t : List ℕ) → chain_from o level m more t ≡ Some p → height more ≤ height p.0) → height found ≤ height p.0
  unfolding chain_from
  higher_cases m found s p None ea e ih =
      let same : Some (found, s) ≡ Some p = rw (ea, chain_from) at e in
      let here : (found, s) ≡ p = cc in
      rw (← here) (omega arith)
  higher_cases m found s p (Some t) ea e ih =
      let (q, eq, e2) = bind_gave (o t) (λ q. chain_from o level m (join level found q.0) q.1) p (rw (ea, chain_from) at e) in
      let low = join_left level found q.0 in
      let high = ih (join level found q.0) q.1 e2 in
      omega arith

  pub chain_higher : (m : ℕ) (found : Tree) (s : List ℕ) (p : Tree × List ℕ) → chain_from o level m found s ≡ Some p → height found ≤ height p.0
  unfolding chain_from
  chain_higher zero found s p e = absurd cc
  chain_higher (suc m) found s p e = higher_cases m found s p (after_operator level s) refl e (λ more t. chain_higher m more t p)

-- what fails because its part fails, where what it gives is no lower than the part
pub fails_through : {A B : Type 0} (root : A → Tree) (whole : B → Tree) (e : Stop) (a : Option A) (b : Option B) → FailsBy root e a → (a ≡ None → b ≡ None)
    → ((y : B) → b ≡ Some y → (x : A) × (a ≡ Some x) × (height (root x) ≤ height (whole y))) → FailsBy whole e b
fails_through root whole stop.NoFunction a b h none made = none h
fails_through root whole stop.Deep a b h none made =
    λ y ey. let (x, ex, low) = made y ey in let high = h x ex in omega arith
fails_through root whole stop.Memory a b h none made = tt

-- the same of the first of two steps
pub bind_fails : {A B : Type 0} (root : A → Tree) (whole : B → Tree) (e : Stop) (o : Option A) (f : A → Option B) → FailsBy root e o
    → ((x : A) (y : B) → f x ≡ Some y → height (root x) ≤ height (whole y)) → FailsBy whole e (o >>= f)
bind_fails root whole e o f h low =
    fails_through root whole e o (o >>= f) h (λ none. rw none refl)
    (λ y ey. let (x, ex, fx) = bind_gave o f y ey in (x, ex, low x y fx))

-- the same of a tree that is at hand
pub root_fails : {B : Type 0} (whole : B → Tree) (e : Stop) (f : Tree) (b : Option B) → FailsWhole e (Some f)
    → ((y : B) → b ≡ Some y → height f ≤ height (whole y)) → FailsBy whole e b
root_fails whole e f b h low = fails_through itself whole e (Some f) b h (λ none. absurd cc) (λ y ey. (f, refl, low y ey))

-- the rules of the grammar fail with their parts
closed_keeps : (p q : Tree × List ℕ) (b : Bool) (r : List ℕ) → (if b then Some (p.0, r) else None) ≡ Some q → height p.0 ≤ height q.0
closed_keeps p q true r e = let same : (p.0, r) ≡ q = cc in rw (← same) (omega arith)
closed_keeps p q false r e = absurd cc

pub atom_fails : (d : ℕ) (s : List ℕ) (e : Stop) → (first (after_space s) == 40) ≡ true → 0 < d → Fails e (chain_at (d - 1) Or (drop 1 (after_space s)))
    → Fails e (atom_in (within d) s)
unfolding atom_in within closed
atom_fails zero s e here deep h = absurd (omega arith)
atom_fails (suc d) s e here deep h =
    let less : suc d - 1 ≡ d = omega arith in
    let inner : Fails e (chain_at d Or (drop 1 (after_space s))) = rw less at h in
    rw here (bind_fails tree tree e (chain_at d Or (drop 1 (after_space s))) closed inner
    (λ p q eq. closed_keeps p q (first (after_space p.1) == 41) (drop 1 (after_space p.1)) eq))

-- what is inverted is no lower than its atom
turned_higher : (m n : ℕ) (f : Tree) (r : List ℕ) (q : Tree × List ℕ) → Some (negated m (negated n f), r) ≡ Some q
    → (height f ≤ height q.0) × (height (negated n f) ≤ height q.0)
turned_higher m n f r q e =
    let outer = height-negated m (negated n f) in
    let inner = height-negated n f in
    let same : (negated m (negated n f), r) ≡ q = cc in
    rw (← same) (omega arith, omega arith)

module _ (inner : List ℕ → Read Tree) (s : List ℕ) (e : Stop) where
  pub inverted_fails : Fails e (atom_in inner (marks 33 0 (length s) s).1) → Fails e (inverted_in inner s)
  unfolding inverted_in
  inverted_fails h =
      let b = marks 33 0 (length s) s in
      bind_fails tree tree e (atom_in inner b.1) (λ p. let after = marks 39 0 (length p.1) p.1 in Some (negated b.0 (negated after.0 p.0), after.1)) h
      (λ p q eq. (turned_higher b.0 (marks 39 0 (length p.1) p.1).0 p.0 (marks 39 0 (length p.1) p.1).1 q eq).0)

  pub inverted_high : (f : Tree) (r : List ℕ) → atom_in inner (marks 33 0 (length s) s).1 ≡ Some (f, r)
      → FailsWhole e (Some (negated (marks 39 0 (length r) r).0 f)) → Fails e (inverted_in inner s)
  unfolding inverted_in
  inverted_high f r there h =
      let b = marks 33 0 (length s) s in
      let after = marks 39 0 (length r) r in
      let turned = negated after.0 f in
      rw there (root_fails tree e turned (Some (negated b.0 turned, after.1)) h (λ q eq. (turned_higher b.0 after.0 f after.1 q eq).1))

module _ (o : List ℕ → Read Tree) (level : Level) (e : Stop) where
  pub first_fails : (s : List ℕ) → Fails e (o s) → Fails e (chain_of o level s)
  unfolding chain_of
  first_fails s h =
      bind_fails tree tree e (o s) (λ p. chain_from o level (length s) p.0 p.1) h (λ p q eq. chain_higher o level (length s) p.0 p.1 q eq)

  pub next_fails : (m : ℕ) (found : Tree) (s t : List ℕ) → 0 < m → after_operator level s ≡ Some t → Fails e (o t) → Fails e (chain_from o level m found s)
  next_fails m found s t some there h =
      let (n, one, step) = chain_next o level m found s t some there in
      rw step (bind_fails tree tree e (o t) (λ p. chain_from o level n (join level found p.0) p.1) h
      (λ p q eq. let low = join_right level found p.0 in let high = chain_higher o level n (join level found p.0) p.1 q eq in omega arith))

  pub join_fails : (n : ℕ) (found f : Tree) (r : List ℕ) → FailsWhole e (Some (join level found f)) → Fails e (chain_from o level n (join level found f) r)
  join_fails n found f r h = root_fails tree e (join level found f) (chain_from o level n (join level found f) r) h
      (λ q eq. chain_higher o level n (join level found f) r q eq)

end_keeps : (p : Tree × List ℕ) (f : Tree) (b : Bool) → (if b then Some p.0 else None) ≡ Some f → height p.0 ≤ height f
end_keeps p f true e = let same : p.0 ≡ f = cc in rw (← same) (omega arith)
end_keeps p f false e = absurd cc

pub function_fails : (d : ℕ) (s : List ℕ) (e : Stop) → Fails e (chain_at d Or s) → FailsWhole e (function_in d s)
unfolding function_in
function_fails d s e h =
    bind_fails tree itself e (chain_at d Or s) (λ p. if length (after_space p.1) == 0 then Some p.0 else None) h
    (λ p f eq. end_keeps p f (length (after_space p.1) == 0) eq)

-- a function that is low enough, one that is too high, and none
pub low_some : (s : List ℕ) (f : Tree) → function_in most_nested s ≡ Some f → height f ≤ most_nested → low_function s ≡ Some f
unfolding low_function
low_some s f e low = let fits : nat_le (height f) most_nested ≡ true = grind (arith, nat_tests) in rw (e, fits) refl

pub low_none : (s : List ℕ) → function_in most_nested s ≡ None → low_function s ≡ None
unfolding low_function
low_none s e = rw e refl

low_cases : (s : List ℕ) (o : Option Tree) → function_in most_nested s ≡ o → ((f : Tree) → o ≡ Some f → most_nested < height f) → low_function s ≡ None
unfolding low_function
low_cases s None e high = rw e refl
low_cases s (Some f) e high =
    let over = high f refl in
    let unfit : nat_le (height f) most_nested ≡ false = grind (arith, nat_tests) in
    rw (e, unfit) refl

pub low_high : (s : List ℕ) → ((f : Tree) → function_in most_nested s ≡ Some f → most_nested < height f) → low_function s ≡ None
low_high s high = low_cases s (function_in most_nested s) refl high
