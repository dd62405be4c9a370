-- Where deeper parentheses may stand, the same functions are read.
use Rattle.std.proofs.Common.{◌≡◌, ◌==◌, ℕ, zero, suc, ◌+◌, ◌≤◌, Bool, true, false, List, length, drop, Option, Some, None, refl, arith, if◌then◌else◌}
use Rattle.texts.specs.Fronts.{first}
use Rattle.texts.specs.Reads.{Read}
use Rattle.texts.specs.Rules.{most_nested}
use Rattle.texts.proofs.ReadLemmas.{bind_gave}
use Rattle.lib_words.specs.Blanks.{after_space}
use Rattle.lib_func.specs.declared.operators.Level.{Level}
use Rattle.lib_func.specs.declared.operators.Level.TheVariants.{Or, And, Xor}
use Rattle.lib_func.specs.Trees.{Tree, negated}
use Rattle.lib_func.specs.Marks.{marks}
use Rattle.lib_func.specs.Operators.{after_operator, join}
use Rattle.lib_func.specs.Functions.{chain_from, chain_of, chain_at, closed, atom_in, inverted_in, xor_in, and_in, or_in, within, function_in, function_of}

-- what one rule reads, the other reads too
abbrev Grows : (List ℕ → Read Tree) → (List ℕ → Read Tree) → Type 0
Grows o more = (s : List ℕ) (p : Tree × List ℕ) → o s ≡ Some p → more s ≡ Some p

module _ (level : Level) (o more : List ℕ → Read Tree) (grows : Grows o more) where
  rest_cases : (m : ℕ) (found : Tree) (s : List ℕ) (p : Tree × List ℕ) (a : Option (List ℕ)) → after_operator level s ≡ a
      → chain_from o level (suc m) found s ≡ Some p
      → ((f : Tree) (t : List ℕ) → chain_from o level m f t ≡ Some p → chain_from more level m f t ≡ Some p) → chain_from more level (suc m) found s ≡ Some p
  unfolding chain_from
  rest_cases m found s p None ea e ih = rw (ea, chain_from) (rw (ea, chain_from) at e)
  rest_cases m found s p (Some t) ea e ih =
      let (q, eq, e2) = bind_gave (o t) (λ q. chain_from o level m (join level found q.0) q.1) p (rw (ea, chain_from) at e) in
      rw (ea, chain_from, grows t q eq) (ih (join level found q.0) q.1 e2)

  rest_grows : (m : ℕ) (found : Tree) (s : List ℕ) (p : Tree × List ℕ) → chain_from o level m found s ≡ Some p → chain_from more level m found s ≡ Some p
  unfolding chain_from
  rest_grows zero found s p e = absurd cc
  rest_grows (suc m) found s p e = rest_cases m found s p (after_operator level s) refl e (λ f t. rest_grows m f t p)

  chain_grows : Grows (chain_of o level) (chain_of more level)
  unfolding chain_of
  chain_grows s p e =
      let (q, eq, e2) = bind_gave (o s) (λ q. chain_from o level (length s) q.0 q.1) p e in
      rw (grows s q eq) (rest_grows (length s) q.0 q.1 p e2)

module _ (inner more : List ℕ → Read Tree) (grows : Grows inner more) where
  atom_cases : (s : List ℕ) (p : Tree × List ℕ) (b : Bool) → (first (after_space s) == 40) ≡ b → atom_in inner s ≡ Some p → atom_in more s ≡ Some p
  unfolding atom_in
  atom_cases s p true eb e =
      let (q, eq, e2) = bind_gave (inner (drop 1 (after_space s))) closed p (rw eb at e) in
      rw (eb, grows (drop 1 (after_space s)) q eq) e2
  atom_cases s p false eb e = rw eb (rw eb at e)

  atom_grows : Grows (atom_in inner) (atom_in more)
  atom_grows s p e = atom_cases s p (first (after_space s) == 40) refl e

  inverted_grows : Grows (inverted_in inner) (inverted_in more)
  unfolding inverted_in
  inverted_grows s p e =
      let b = marks 33 0 (length s) s in
      let (q, eq, e2) = bind_gave (atom_in inner b.1)
      (λ q. let after = marks 39 0 (length q.1) q.1 in Some (negated b.0 (negated after.0 q.0), after.1)) p e in
      rw (atom_grows b.1 q eq) e2

  or_grows : Grows (or_in inner) (or_in more)
  or_grows =
      let xors = chain_grows Xor (inverted_in inner) (inverted_in more) inverted_grows in
      let ands = chain_grows And (xor_in inner) (xor_in more) xors in
      chain_grows Or (and_in inner) (and_in more) ands

within_grows : (n m : ℕ) → n ≤ m → Grows (within n) (within m)
unfolding within
within_grows zero m le s p e = absurd cc
within_grows (suc n) zero le s p e = absurd (omega arith)
within_grows (suc n) (suc m) le s p e = or_grows (within n) (within m) (within_grows n m (omega arith)) s p e

-- a function within some depth is the same function within a greater one
pub function_grows : (n m : ℕ) (s : List ℕ) (f : Tree) → n ≤ m → function_in n s ≡ Some f → function_in m s ≡ Some f
unfolding function_in
function_grows n m s f le e =
    let (p, ep, e2) = bind_gave (chain_at n Or s) (λ p. if length (after_space p.1) == 0 then Some p.0 else None) f e in
    rw (or_grows (within n) (within m) (within_grows n m le) s p ep) e2

-- a function that is low enough is the function that the text is
pub function_same : (s : List ℕ) (f : Tree) → function_in most_nested s ≡ Some f → function_of s ≡ Some f
function_same s f e = function_grows most_nested (length s + most_nested) s f (omega arith) e
