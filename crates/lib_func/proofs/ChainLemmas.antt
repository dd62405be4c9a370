-- One turn of the loops over operands and over inversions, and the end of a whole text.
use Rattle.std.proofs.Common.{◌≡◌, ◌==◌, ℕ, zero, suc, ◌+◌, ◌-◌, ◌<◌, false, List, length, Some, None, refl, arith}
use Rattle.std.proofs.lemmas.Bool.Decides.{nat_tests}
use Rattle.texts.specs.Reads.{Read, ◌>>=◌}
use Rattle.lib_func.specs.declared.operators.Level.{Level}
use Rattle.lib_func.specs.declared.operators.Level.TheVariants.{Or}
use Rattle.lib_func.specs.Trees.{Tree, NotTree, negated}
use Rattle.lib_words.specs.Blanks.{after_space}
use Rattle.lib_func.specs.Operators.{after_operator, join}
use Rattle.lib_func.specs.Functions.{chain_from, chain_of, chain_at, function_in}

module _ (o : List ℕ → Read Tree) (level : Level) where
  -- an operand stands there
  pub chain_some : (s : List ℕ) (f : Tree) (r : List ℕ) → o s ≡ Some (f, r) → chain_of o level s ≡ chain_from o level (length s) f r
  unfolding chain_of
  chain_some s f r e = rw e refl

  -- no operator follows
  pub chain_stop : (m : ℕ) (found : Tree) (s : List ℕ) → 0 < m → after_operator level s ≡ None → chain_from o level m found s ≡ Some (found, s)
  unfolding chain_from
  chain_stop zero found s some e = absurd (omega arith)
  chain_stop (suc m) found s some e = rw (e, chain_from) refl

  -- an operator follows
  pub chain_next : (m : ℕ) (found : Tree) (s t : List ℕ) → 0 < m → after_operator level s ≡ Some t
      → (n : ℕ) × (m ≡ n + 1) × (chain_from o level m found s ≡ (o t >>= λ p. chain_from o level n (join level found p.0) p.1))
  unfolding chain_from
  chain_next zero found s t some e = absurd (omega arith)
  chain_next (suc m) found s t some e = (m, omega arith, rw (e, chain_from) refl)

  -- an operator follows, and an operand
  pub chain_more : (m : ℕ) (found : Tree) (s t : List ℕ) (f : Tree) (r : List ℕ) → 0 < m → after_operator level s ≡ Some t → o t ≡ Some (f, r)
      → (n : ℕ) × (m ≡ n + 1) × (chain_from o level m found s ≡ chain_from o level n (join level found f) r)
  unfolding chain_from
  chain_more zero found s t f r some e good = absurd (omega arith)
  chain_more (suc m) found s t f r some e good = (m, omega arith, rw (e, good, chain_from) refl)

-- one inversion of those that are left
pub negated_step : (count i : ℕ) (f : Tree) → i < count → negated (count - i) f ≡ negated (count - (i + 1)) (NotTree f)
negated_step count i f lt = let k : count - i ≡ suc (count - (i + 1)) = omega arith in rw k refl

-- only white space follows the function
pub function_ends : (d : ℕ) (s : List ℕ) (f : Tree) (r : List ℕ) → chain_at d Or s ≡ Some (f, r) → length (after_space r) ≡ 0 → function_in d s ≡ Some f
unfolding function_in
function_ends d s f r e ended = rw (e, ended) refl

-- something else follows it
pub function_trails : (d : ℕ) (s : List ℕ) (f : Tree) (r : List ℕ) → chain_at d Or s ≡ Some (f, r) → 0 < length (after_space r) → function_in d s ≡ None
unfolding function_in
function_trails d s f r e more = let differs : (length (after_space r) == 0) ≡ false = grind (arith, nat_tests) in rw (e, differs) refl
