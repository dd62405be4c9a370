-- Bits of literals where a graph grows.
use Rattle.std.proofs.Common.{◌≡◌, ◌<◌, ℕ, zero, suc, ◌+◌, ◌*◌, ◌/◌, ◌%◌, Bool, true, false, not, ◌&&◌, ◌||◌, ◌==◌, if◌then◌else◌, List, [], ◌∷◌, ◌++◌, length, slice_get, slice_index_or, Some, ◌⊎◌, inl, inr}
use Rattle.std.proofs.Common.{refl, ap, arith, sym, subst, ◌∙◌}
use Rattle.std.proofs.lemmas.Option.{slice_get_within, same_Some}
use Rattle.net_model.specs.Form.{xor}
use Rattle.and_graphs.specs.declared.graphs.AndLine.{AndLine}
use Rattle.and_graphs.specs.declared.graphs.AndGraph.{AndGraph}
use Rattle.and_graphs.specs.Graphs.{literal_bit, bits_after, all_bits, bit_of, IsIn, IsOrdered, Means, Keeps}

length_more : {A : Type 0} (xs : List A) (x : A) → length (xs ++ x ∷ []) ≡ length xs + 1
length_more [] x = refl
length_more (y ∷ xs) x = let more = length_more xs x in omega arith

at_front : (xs : List Bool) (x : Bool) (v : ℕ) → v < length xs → slice_index_or (xs ++ x ∷ []) v false ≡ slice_index_or xs v false
at_front [] x v low = absurd (omega arith)
at_front (y ∷ xs) x zero low = refl
at_front (y ∷ xs) x (suc v) low = at_front xs x v (omega arith)

at_end : (xs : List Bool) (x : Bool) → slice_index_or (xs ++ x ∷ []) (length xs) false ≡ x
at_end [] x = refl
at_end (y ∷ xs) x = at_end xs x

-- as many bits as before, and one for each line
pub bits_length : (gs : List AndLine) (bits : List Bool) → length (bits_after gs bits) ≡ length bits + length gs
unfolding bits_after
bits_length [] bits = omega arith
bits_length (g ∷ gs) bits =
    let x = literal_bit bits g.left && literal_bit bits g.right in
    let go = bits_length gs (bits ++ x ∷ []) in
    let more = length_more bits x in
    omega arith

-- the bits of one line more are those before, and its own
pub bits_more : (gs : List AndLine) (h : AndLine) (bits : List Bool)
    → bits_after (gs ++ h ∷ []) bits ≡ bits_after gs bits ++ (literal_bit (bits_after gs bits) h.left && literal_bit (bits_after gs bits) h.right) ∷ []
unfolding bits_after
bits_more [] h bits = refl
bits_more (g ∷ gs) h bits = bits_more gs h (bits ++ (literal_bit bits g.left && literal_bit bits g.right) ∷ [])

-- the variables before the lines keep their bits
pub bits_before : (gs : List AndLine) (bits : List Bool) (v : ℕ) → v < length bits
    → slice_index_or (bits_after gs bits) v false ≡ slice_index_or bits v false
unfolding bits_after
bits_before [] bits v low = refl
bits_before (g ∷ gs) bits v low =
    let x = literal_bit bits g.left && literal_bit bits g.right in
    let more = length_more bits x in
    bits_before gs (bits ++ x ∷ []) v (omega arith) ∙ at_front bits x v low

-- the variable of a literal
half : (l n : ℕ) → l < 2 * n → l / 2 < n
half l n low = omega arith

even : (n : ℕ) → (2 * n) % 2 ≡ 0
even n = omega arith

twice : (n : ℕ) → (2 * n) / 2 ≡ n
twice n = omega arith

stays : (bits : List Bool) (x : Bool) (l : ℕ) → l / 2 < length bits → literal_bit (bits ++ x ∷ []) l ≡ literal_bit bits l
stays bits x l low = ap (λ (b : Bool). if l % 2 == 0 then b else not b) (at_front bits x (l / 2) low)

-- a variable's own literal has its bit
positive : (bits : List Bool) (n : ℕ) → literal_bit bits (2 * n) ≡ slice_index_or bits n false
positive bits n = rw (even n, twice n) refl

-- a line was added at the end
pub record IsPushed (h : AndLine) (old new : AndGraph) : Type 0 where
  pub front : new.front ≡ old.front
  pub lines : new.lines ≡ old.lines ++ h ∷ []

pushed_bits : (h : AndLine) (old new : AndGraph) (front : List Bool) → IsPushed h old new
    → all_bits new.lines front
    ≡ all_bits old.lines front ++ (bit_of old front h.left && bit_of old front h.right) ∷ []
pushed_bits h old new front p = ap (λ (gs : List AndLine). all_bits gs front) p.lines ∙ bits_more old.lines h (false ∷ front)

-- so many variables as the graph has
count_of : (g : AndGraph) (front : List Bool) → length front ≡ g.front → length (all_bits g.lines front) ≡ 1 + g.front + length g.lines
count_of g front len = let all = bits_length g.lines (false ∷ front) in omega arith

-- an item of a list with one more item
one_more : {X : Type 0} (xs : List X) (x : X) (k : ℕ) (y : X) → slice_get (xs ++ x ∷ []) k ≡ Some y → (slice_get xs k ≡ Some y) ⊎ ((k ≡ length xs) × (x ≡ y))
one_more [] x zero y at = inr (refl, same_Some x y at)
one_more [] x (suc k) y at = absurd (omega (arith, slice_get_within (x ∷ []) (suc k) y at))
one_more (z ∷ xs) x zero y at = inl at
one_more (z ∷ xs) x (suc k) y at =
    elim (one_more xs x k y at) [ inl here ↦ inl here | inr last ↦ inr (omega (arith, last.0), last.1) ]

-- a line whose literals the graph has keeps the order
pushed_ordered : (h : AndLine) (old new : AndGraph) → IsPushed h old new → IsIn old h.left → IsIn old h.right → IsOrdered old → IsOrdered new
pushed_ordered h old new p left right ordered k line at =
    let same = p.front in
    elim (one_more old.lines h k line (ap (λ (gs : List AndLine). slice_get gs k) (sym p.lines) ∙ at)) [
      | inl before ↦ let low = ordered k line before in (omega (arith, same, low.0), omega (arith, same, low.1))
      | inr last ↦
          let on_left = ap (λ (x : AndLine). x.left) last.1 in
          let on_right = ap (λ (x : AndLine). x.right) last.1 in
          (omega (arith, same, last.0, on_left, left), omega (arith, same, last.0, on_right, right))
    ]

-- what literals mean stays
pub pushed_keeps : (h : AndLine) (old new : AndGraph) → IsPushed h old new → IsIn old h.left → IsIn old h.right → Keeps old new
pushed_keeps h old new p left right = record {
  front = p.front;
  ordered = pushed_ordered h old new p left right;
  means = λ l f m. record {
    here =
        let more = ap (λ (gs : List AndLine). length gs) p.lines ∙ length_more old.lines h in
        let same = p.front in
        let here = m.here in
        omega arith;
    bit = λ front len.
        let len_old : length front ≡ old.front = len ∙ p.front in
        let all = count_of old front len_old in
        let low : l / 2 < length (all_bits old.lines front) = let here = m.here in half l (length (all_bits old.lines front)) (omega arith) in
        ap (λ (bits : List Bool). literal_bit bits l) (pushed_bits h old new front p)
        ∙ stays (all_bits old.lines front) (bit_of old front h.left && bit_of old front h.right) l low
        ∙ m.bit front len_old;
  };
}

-- the literal of the line means the conjunction
pub pushed_means : (h : AndLine) (old new : AndGraph) (l : ℕ) → IsPushed h old new → l ≡ 2 * (old.front + length old.lines + 1)
    → (f g : List Bool → Bool) → Means old h.left f → Means old h.right g → Means new l (λ x. f x && g x)
pushed_means h old new l p at f g a b = record {
  here = let more = ap (λ (gs : List AndLine). length gs) p.lines ∙ length_more old.lines h in let same = p.front in omega arith;
  bit = λ front len.
      let len_old : length front ≡ old.front = len ∙ p.front in
      let all : old.front + length old.lines + 1 ≡ length (all_bits old.lines front) = let count = count_of old front len_old in omega arith in
      rw (at, all) (positive (all_bits new.lines front) (length (all_bits old.lines front)))
      ∙ ap (λ (bits : List Bool). slice_index_or bits (length (all_bits old.lines front)) false) (pushed_bits h old new front p)
      ∙ at_end (all_bits old.lines front) (bit_of old front h.left && bit_of old front h.right)
      ∙ rw (a.bit front len_old, b.bit front len_old) refl;
}

-- a literal means what is the same at each front
pub means_same : (g : AndGraph) (l : ℕ) (f h : List Bool → Bool) → ((x : List Bool) → length x ≡ g.front → f x ≡ h x) → Means g l f → Means g l h
means_same g l f h same m = record { here = m.here; bit = λ front len. m.bit front len ∙ same front len }

-- what a literal means is the same at each front
pub same_bits : (g : AndGraph) (l : ℕ) (f h : List Bool → Bool) → Means g l f → Means g l h → (x : List Bool) → length x ≡ g.front → f x ≡ h x
same_bits g l f h m n x len = sym (m.bit x len) ∙ n.bit x len

-- what literals mean stays from graph to graph
pub keeps_on : (a b c : AndGraph) → Keeps a b → Keeps b c → Keeps a c
keeps_on a b c first second = record {
  front = second.front ∙ first.front;
  ordered = λ o. second.ordered (first.ordered o);
  means = λ l f m. second.means l f (first.means l f m);
}

-- the constant literals
pub means_constant : (g : AndGraph) (l : ℕ) (bit : Bool) → l ≡ (if bit then 1 else 0) → Means g l (λ _. bit)
means_constant g l false at = record {
  here = omega arith;
  bit = λ front len. rw at (positive (all_bits g.lines front) 0 ∙ bits_before g.lines (false ∷ front) 0 (omega arith));
}
means_constant g l true at = record {
  here = omega arith;
  bit = λ front len. rw at (ap not (bits_before g.lines (false ∷ front) 0 (omega arith)));
}

-- the literals of variables in front
pub means_variable : (g : AndGraph) (place l : ℕ) → place < g.front → l ≡ 2 * (place + 1) → Means g l (λ x. slice_index_or x place false)
means_variable g place l low at = record {
  here = omega arith;
  bit = λ front len.
      let e : place + 1 ≡ suc place = omega arith in
      rw (at, e) (positive (all_bits g.lines front) (suc place) ∙ bits_before g.lines (false ∷ front) (suc place) (omega arith));
}

and_false : (a : Bool) → (a && false) ≡ false
and_false true = refl
and_false false = refl

and_true : (a : Bool) → (a && true) ≡ a
and_true true = refl
and_true false = refl

and_same : (a : Bool) → (a && a) ≡ a
and_same true = refl
and_same false = refl

and_not : (a : Bool) → (not a && a) ≡ false
and_not true = refl
and_not false = refl

-- a conjunction with the constant 0 is 0
pub both_zero_left : (g : AndGraph) (a : ℕ) (f h : List Bool → Bool) → a ≡ 0 → Means g a f → Means g a (λ x. f x && h x)
both_zero_left g a f h at m =
    means_same g a f (λ x. f x && h x)
    (λ x len. let e = same_bits g a f (λ _. false) m (means_constant g a false at) x len in rw e refl) m

pub both_zero_right : (g : AndGraph) (b : ℕ) (f h : List Bool → Bool) → b ≡ 0 → Means g b h → Means g b (λ x. f x && h x)
both_zero_right g b f h at m =
    means_same g b h (λ x. f x && h x)
    (λ x len. let e = same_bits g b h (λ _. false) m (means_constant g b false at) x len in rw e (sym (and_false (f x)))) m

-- a conjunction with the constant 1 is the other literal
pub both_one_left : (g : AndGraph) (a b : ℕ) (f h : List Bool → Bool) → a ≡ 1 → Means g a f → Means g b h → Means g b (λ x. f x && h x)
both_one_left g a b f h at m n =
    means_same g b h (λ x. f x && h x)
    (λ x len. let e = same_bits g a f (λ _. true) m (means_constant g a true at) x len in rw e refl) n

pub both_one_right : (g : AndGraph) (a b : ℕ) (f h : List Bool → Bool) → b ≡ 1 → Means g a f → Means g b h → Means g a (λ x. f x && h x)
both_one_right g a b f h at m n =
    means_same g a f (λ x. f x && h x)
    (λ x len. let e = same_bits g b h (λ _. true) n (means_constant g b true at) x len in rw e (sym (and_true (f x)))) m

-- a conjunction of a literal with itself is that literal
pub both_same : (g : AndGraph) (a b : ℕ) (f h : List Bool → Bool) → a ≡ b → Means g a f → Means g b h → Means g a (λ x. f x && h x)
both_same g a b f h at m n =
    let n_too : Means g a h = subst (λ (l : ℕ). Means g l h) (sym at) n in
    means_same g a f (λ x. f x && h x) (λ x len. let e = same_bits g a h f n_too m x len in rw e (sym (and_same (f x)))) m

-- a conjunction of a literal with its complement is 0
pub both_apart : (g : AndGraph) (a : ℕ) (f h : List Bool → Bool) → Means g a f → Means g a (λ x. not (h x)) → Means g 0 (λ x. f x && h x)
both_apart g a f h m n =
    means_same g 0 (λ _. false) (λ x. f x && h x)
    (λ x len. let e = same_bits g a f (λ y. not (h y)) m n x len in rw e (sym (and_not (h x)))) (means_constant g 0 false refl)

either_bits : (a b : Bool) → not (not a && not b) ≡ (a || b)
either_bits true b = refl
either_bits false true = refl
either_bits false false = refl

-- a disjunction by complements
pub means_either : (g : AndGraph) (l : ℕ) (f h : List Bool → Bool) → Means g l (λ x. not (not (f x) && not (h x))) → Means g l (λ x. f x || h x)
means_either g l f h m = means_same g l (λ x. not (not (f x) && not (h x))) (λ x. f x || h x) (λ x len. either_bits (f x) (h x)) m

differ_bits : (a b : Bool) → ((a && not b) || (not a && b)) ≡ xor a b
differ_bits true true = refl
differ_bits true false = refl
differ_bits false true = refl
differ_bits false false = refl

-- whether two bits differ, by conjunctions
pub means_differs : (g : AndGraph) (l : ℕ) (f h : List Bool → Bool) → Means g l (λ x. (f x && not (h x)) || (not (f x) && h x))
    → Means g l (λ x. xor (f x) (h x))
means_differs g l f h m =
    means_same g l (λ x. (f x && not (h x)) || (not (f x) && h x)) (λ x. xor (f x) (h x)) (λ x len. differ_bits (f x) (h x)) m
