-- What a scan tells of each rule of the grammar: where it gives something the scan goes on, and where it gives nothing the scan fails.
use Rattle.std.proofs.Common.{◌≡◌, ◌==◌, ℕ, zero, suc, ◌+◌, ◌-◌, ◌<◌, ◌≤◌, Bool, true, false, List, [], ◌∷◌, length, drop, Option, Some, None, is_some}
use Rattle.std.proofs.Common.{◌⊎◌, inl, inr, ◌||◌, refl, sym, subst, ◌∙◌, arith, length-drop, if◌then◌else◌}
use Rattle.std.proofs.lemmas.Bool.{eqb-true}
use Rattle.std.proofs.lemmas.Bool.Decides.{nat_tests}
use Rattle.std.specs.List.{prefix_len}
use Rattle.texts.specs.Bytes.{is_letter, is_word}
use Rattle.texts.specs.Fronts.{first}
use Rattle.texts.specs.Reads.{Read, ◌>>=◌}
use Rattle.lib_words.specs.Blanks.{is_blank, after_space}
use Rattle.lib_func.specs.declared.operators.Level.{Level}
use Rattle.lib_func.specs.declared.operators.Level.TheVariants.{Or, And, Xor}
use Rattle.lib_func.specs.declared.scans.Spot.TheVariants.{Before, Name, After}
use Rattle.lib_func.specs.Trees.{Tree, negated}
use Rattle.lib_func.specs.Marks.{marks}
use Rattle.lib_func.specs.Operators.{after_operator, begins_operand, is_or, is_and, join}
use Rattle.lib_func.specs.Scans.{begun, followed, turned}
use Rattle.lib_func.specs.Functions.{chain_from, chain_of, chain_at, leaf_at, closed, atom_in, inverted_in, xor_in, and_in, or_in, within, function_in}
use Rattle.lib_func.proofs.Scanning.{scan, scan_same, scan_end, black, space_within, before_space, operand_space, before_on, before_stop, operand_stop, at_mark}
use Rattle.lib_func.proofs.Scanning.{some_first, letter_some, drop_less, named, word_less, marks_pass, marks_end}

-- a rule begins at s, and goes on at r after an operand
pub record GoesOn (Ends : List ℕ → Type 0) (s r : List ℕ) : Type 0 where
  pub same : (k : ℕ) → scan (Before k) s ≡ scan (After k) r
  pub ends : Ends r
  pub shorter : length r < length s

-- what a rule gives at s, where it ends as told
abbrev Tells : (List ℕ → Type 0) → List ℕ → Read Tree → Type 0
Tells Ends s None = (k : ℕ) → scan (Before k) s ≡ false
Tells Ends s (Some p) = GoesOn Ends s p.1

-- anything may follow
abbrev Any : List ℕ → Type 0
Any r = Unit {0}

-- fails `'` follows
abbrev Quiet : List ℕ → Type 0
Quiet r = (first (after_space r) == 39) ≡ false

-- what cannot follow an operand of a level, and a chain
abbrev OperandEnds : Level → List ℕ → Type 0
OperandEnds Xor r = Quiet r
OperandEnds And r = Quiet r × (after_operator Xor r ≡ None)
OperandEnds Or r = (Quiet r × (after_operator Xor r ≡ None)) × (after_operator And r ≡ None)

abbrev ChainEnds : Level → List ℕ → Type 0
ChainEnds level r = OperandEnds level r × (after_operator level r ≡ None)

-- a constant or a name
module _ (t : List ℕ) (white : is_blank t ≡ false) where
  letter_tells : (b : Bool) → is_letter (first t) ≡ b → (first t == 48) ≡ false → (first t == 49) ≡ false → (first t == 40) ≡ false → (first t == 33) ≡ false
      → Tells Any t (leaf_at t)
  unfolding leaf_at begun
  letter_tells true e no_zero no_one no_paren no_mark =
      let some = letter_some t e in
      let word : is_word (first t) ≡ true = rw e refl in
      let goes : GoesOn Any t (drop (prefix_len is_word t) t) = record {
        same = λ k. before_on k (Name k) t white (rw (no_zero, no_one, e) refl) ∙ named k t word some;
        ends = tt;
        shorter = word_less t word some;
      } in
      rw (no_zero, no_one, e) goes
  letter_tells false e no_zero no_one no_paren no_mark =
      let stops : (k : ℕ) → scan (Before k) t ≡ false = λ k. before_stop k t white (rw (no_zero, no_one, e, no_paren, no_mark) refl) in
      rw (no_zero, no_one, e) stops

  one_tells : (b : Bool) → (first t == 49) ≡ b → (first t == 48) ≡ false → (first t == 40) ≡ false → (first t == 33) ≡ false → Tells Any t (leaf_at t)
  unfolding leaf_at begun
  one_tells true e no_zero no_paren no_mark =
      let goes : GoesOn Any t (drop 1 t) = record {
        same = λ k. before_on k (After k) t white (rw (no_zero, e) refl);
        ends = tt;
        shorter = drop_less t (some_first t 49 e refl);
      } in
      rw (no_zero, e) goes
  one_tells false e no_zero no_paren no_mark = letter_tells (is_letter (first t)) refl no_zero e no_paren no_mark

  zero_tells : (b : Bool) → (first t == 48) ≡ b → (first t == 40) ≡ false → (first t == 33) ≡ false → Tells Any t (leaf_at t)
  unfolding leaf_at begun
  zero_tells true e no_paren no_mark =
      let goes : GoesOn Any t (drop 1 t) = record {
        same = λ k. before_on k (After k) t white (rw e refl);
        ends = tt;
        shorter = drop_less t (some_first t 48 e refl);
      } in
      rw e goes
  zero_tells false e no_paren no_mark = one_tells (first t == 49) refl e no_paren no_mark

  leaf_tells : (first t == 40) ≡ false → (first t == 33) ≡ false → Tells Any t (leaf_at t)
  leaf_tells no_paren no_mark = zero_tells (first t == 48) refl no_paren no_mark

  -- an opening parenthesis
  opens : (k : ℕ) → (first t == 40) ≡ true → scan (Before k) t ≡ scan (Before (k + 1)) (drop 1 t)
  unfolding begun
  opens k here = let same : first t ≡ 40 = eqb-true (first t) 40 here in before_on k (Before (k + 1)) t white (rw same refl)

-- where an operator that is tested does not come
test_none : {A : Type 0} (b : Bool) (x : A) → (if b then Some x else None) ≡ None → b ≡ false
test_none true x e = absurd cc
test_none false x e = refl

two_none : {A : Type 0} (a b : Bool) (x y : A) → (if a then Some x else (if b then Some y else None)) ≡ None → (a ≡ false) × (b ≡ false)
two_none true b x y e = absurd cc
two_none false true x y e = absurd cc
two_none false false x y e = (refl, refl)

-- what does not come after a whole chain
record IsOver (b : ℕ) : Type 0 where
  pub quote : (b == 39) ≡ false
  pub xor : (b == 94) ≡ false
  pub and : is_and b ≡ false
  pub operand : begins_operand b ≡ false
  pub or : is_or b ≡ false

over : (r : List ℕ) → ChainEnds Or r → IsOver (first (after_space r))
unfolding after_operator
over r (((quote, xor), and), or) =
    let t = after_space r in
    let (no_and, no_operand) = two_none (is_and (first t)) (begins_operand (first t)) (drop 1 t) t and in
    record {
      quote = quote;
      xor = test_none (first t == 94) (drop 1 t) xor;
      and = no_and;
      operand = no_operand;
      or = test_none (is_or (first t)) (drop 1 t) or;
    }

-- a chain that has ended goes on at a `)` alone
over_follows : (k b : ℕ) → IsOver b → (b == 41) ≡ false → followed k b ≡ None
unfolding followed
over_follows k b o no_paren = rw (o.operand, o.or, o.and, o.xor, o.quote, no_paren) refl

top_follows : (b : ℕ) → IsOver b → (p : Bool) → (b == 41) ≡ p → followed 0 b ≡ None
unfolding followed
top_follows b o true here = rw (o.operand, o.or, o.and, o.xor, o.quote, here) refl
top_follows b o false no_paren = over_follows 0 b o no_paren

open_fails : (k : ℕ) (u : List ℕ) → is_blank u ≡ false → followed (k + 1) (first u) ≡ None → scan (After (k + 1)) u ≡ false
open_fails k [] white e = let some : (k + 1 == 0) ≡ false = grind (arith, nat_tests) in scan_end (After (k + 1)) ∙ some
open_fails k (b ∷ s) white e = operand_stop (k + 1) (b ∷ s) white e (omega arith)

-- the closing parenthesis
closes : (k : ℕ) (r : List ℕ) → (first (after_space r) == 41) ≡ true → scan (After (k + 1)) r ≡ scan (After k) (drop 1 (after_space r))
unfolding followed
closes k r here =
    let some : (k + 1 == 0) ≡ false = grind (arith, nat_tests) in
    let less : k + 1 - 1 ≡ k = omega arith in
    operand_space (k + 1) r ∙ at_mark (k + 1) 41 (After k) (after_space r) (black r) here (rw (some, less) refl)

close_tells : (t : List ℕ) (p : Tree × List ℕ) (c : Bool) → (first (after_space p.1) == 41) ≡ c → ((k : ℕ) → scan (Before k) t ≡ scan (After (k + 1)) p.1)
    → ChainEnds Or p.1 → length p.1 < length t → Tells Any t (closed p)
unfolding closed
close_tells t p true e same ends less =
    let within = space_within p.1 in
    let goes : GoesOn Any t (drop 1 (after_space p.1)) = record {
      same = λ k. same k ∙ closes k p.1 e;
      ends = tt;
      shorter = omega (arith, length-drop 1 (after_space p.1));
    } in
    rw e goes
close_tells t p false e same ends less =
    let u = after_space p.1 in
    let stops : (k : ℕ) → scan (Before k) t ≡ false =
    λ k. same k ∙ operand_space (k + 1) p.1 ∙ open_fails k u (black p.1) (over_follows (k + 1) (first u) (over p.1 ends) e) in
    rw e stops

inner_tells : (t : List ℕ) → is_blank t ≡ false → (first t == 40) ≡ true → (o : Read Tree) → Tells (ChainEnds Or) (drop 1 t) o → Tells Any t (o >>= closed)
inner_tells t white here None fails = λ k. opens t white k here ∙ fails (k + 1)
inner_tells t white here (Some p) goes =
    let less = goes.shorter in
    let within = length-drop 1 t in
    close_tells t p (first (after_space p.1) == 41) refl (λ k. opens t white k here ∙ goes.same (k + 1)) goes.ends (omega arith)

-- from a text to the same after white space
spaced_tells : (s : List ℕ) (o : Read Tree) → Tells Any (after_space s) o → Tells Any s o
spaced_tells s None fails = λ k. before_space k s ∙ fails k
spaced_tells s (Some p) goes =
    let within = space_within s in
    let less = goes.shorter in
    record { same = λ k. before_space k s ∙ goes.same k; ends = tt; shorter = omega arith }

module _ (inner : List ℕ → Read Tree) (d : ℕ) (tells : (s : List ℕ) → length s < d → Tells (ChainEnds Or) s (inner s)) where
  atom_cases : (s : List ℕ) (b : Bool) → (first (after_space s) == 40) ≡ b → (first (after_space s) == 33) ≡ false → length s ≤ d
      → Tells Any (after_space s) (atom_in inner s)
  unfolding atom_in
  atom_cases s true e no_mark low =
      let t = after_space s in
      let within = space_within s in
      let less = drop_less t (some_first t 40 e refl) in
      let found : Tells Any t (inner (drop 1 t) >>= closed) = inner_tells t (black s) e (inner (drop 1 t)) (tells (drop 1 t) (omega arith)) in
      rw e found
  atom_cases s false e no_mark low =
      let t = after_space s in
      let found : Tells Any t (leaf_at t) = leaf_tells t (black s) e no_mark in
      rw e found

  atom_tells : (s : List ℕ) → (first (after_space s) == 33) ≡ false → length s ≤ d → Tells Any s (atom_in inner s)
  atom_tells s no_mark low = spaced_tells s (atom_in inner s) (atom_cases s (first (after_space s) == 40) refl no_mark low)

  bang : (k : ℕ) (t : List ℕ) → is_blank t ≡ false → (first t == 33) ≡ true → scan (Before k) t ≡ scan (Before k) (drop 1 t)
  unfolding begun
  bang k t white here = let same : first t ≡ 33 = eqb-true (first t) 33 here in before_on k (Before k) t white (rw same refl)

  quotes : (k : ℕ) (t : List ℕ) → is_blank t ≡ false → (first t == 39) ≡ true → scan (After k) t ≡ scan (After k) (drop 1 t)
  unfolding followed
  quotes k t white here = at_mark k 39 (After k) t white here refl

  quoted_tells : (s : List ℕ) (b : ℕ × List ℕ) → ((k : ℕ) → scan (Before k) s ≡ scan (Before k) b.1) → length b.1 ≤ length s → (o : Read Tree)
      → Tells Any b.1 o → Tells Quiet s (o >>= λ p. let after = marks 39 0 (length p.1) p.1 in Some (negated b.0 (negated after.0 p.0), after.1))
  quoted_tells s b same within None fails = λ k. same k ∙ fails k
  quoted_tells s b same within (Some p) goes =
      let ended = marks_end 39 (length p.1) 0 p.1 refl (omega arith) in
      let shorter = goes.shorter in
      let left = ended.within in
      record {
        same = λ k. same k ∙ goes.same k ∙ marks_pass 39 (After k) (operand_space k) (quotes k) (length p.1) 0 p.1;
        ends = ended.none;
        shorter = omega arith;
      }

  inverted_tells : (s : List ℕ) → length s ≤ d → Tells (OperandEnds Xor) s (inverted_in inner s)
  unfolding inverted_in
  inverted_tells s low =
      let b = marks 33 0 (length s) s in
      let ended = marks_end 33 (length s) 0 s refl (omega arith) in
      let within = ended.within in
      quoted_tells s b (λ k. marks_pass 33 (Before k) (before_space k) (bang k) (length s) 0 s) within (atom_in inner b.1)
      (atom_tells b.1 ended.none (omega arith))

-- from an operator to the next operand
record Crosses (r t : List ℕ) : Type 0 where
  pub same : (k : ℕ) → scan (After k) r ≡ scan (Before k) t
  pub within : length t ≤ length r

some_is : {A : Type 0} (b : Bool) (x y : A) → (if b then Some x else None) ≡ Some y → (b ≡ true) × (x ≡ y)
some_is true x y e = (refl, cc)
some_is false x y e = absurd cc

or_cases : (a b : Bool) → (a || b) ≡ true → (a ≡ true) ⊎ (b ≡ true)
or_cases true b e = inl refl
or_cases false b e = inr e

-- a written operator
written : (r : List ℕ) (n : ℕ) → (first (after_space r) == n) ≡ true → ((k : ℕ) → followed k n ≡ Some (Before k)) → Crosses r (drop 1 (after_space r))
written r n here e =
    let within = space_within r in
    record {
      same = λ k. operand_space k r ∙ at_mark k n (Before k) (after_space r) (black r) here (e k);
      within = omega (arith, length-drop 1 (after_space r));
    }

written_two : (r : List ℕ) (m n : ℕ) → ((first (after_space r) == m) ≡ true) ⊎ ((first (after_space r) == n) ≡ true)
    → ((k : ℕ) → followed k m ≡ Some (Before k)) → ((k : ℕ) → followed k n ≡ Some (Before k)) → Crosses r (drop 1 (after_space r))
written_two r m n (inl here) em en = written r m here em
written_two r m n (inr here) em en = written r n here en

-- the next operand stands side by side
side : (k : ℕ) (u : List ℕ) → is_blank u ≡ false → begins_operand (first u) ≡ true → scan (After k) u ≡ scan (Before k) u
unfolding turned followed
side k [] white e = absurd cc
side k (b ∷ s) white e = scan_same (After k) (Before k) b s (rw (white, e) refl)

adjacent : (r : List ℕ) → begins_operand (first (after_space r)) ≡ true → Crosses r (after_space r)
adjacent r e = record {
  same = λ k. operand_space k r ∙ side k (after_space r) (black r) e;
  within = space_within r;
}

or_crosses : (r t : List ℕ) → after_operator Or r ≡ Some t → Crosses r t
unfolding after_operator followed
or_crosses r t e =
    let u = after_space r in
    let (here, same) = some_is (is_or (first u)) (drop 1 u) t e in
    subst (Crosses r) same (written_two r 43 124 (or_cases (first u == 43) (first u == 124) here) (λ k. refl) (λ k. refl))

and_pick : {A : Type 0} (a b : Bool) (x y z : A) → (if a then Some x else (if b then Some y else None)) ≡ Some z
    → ((a ≡ true) × (x ≡ z)) ⊎ ((b ≡ true) × (y ≡ z))
and_pick true b x y z e = inl (refl, cc)
and_pick false true x y z e = inr (refl, cc)
and_pick false false x y z e = absurd cc

and_cases : (r t : List ℕ) → ((is_and (first (after_space r)) ≡ true) × (drop 1 (after_space r) ≡ t)) ⊎ ((begins_operand (first (after_space r)) ≡ true)
    × (after_space r ≡ t)) → Crosses r t
unfolding followed
and_cases r t (inl (here, same)) =
    let u = after_space r in
    subst (Crosses r) same (written_two r 42 38 (or_cases (first u == 42) (first u == 38) here) (λ k. refl) (λ k. refl))
and_cases r t (inr (here, same)) = subst (Crosses r) same (adjacent r here)

xor_crosses : (r t : List ℕ) → after_operator Xor r ≡ Some t → Crosses r t
unfolding after_operator followed
xor_crosses r t e =
    let u = after_space r in
    let (here, same) = some_is (first u == 94) (drop 1 u) t e in
    subst (Crosses r) same (written r 94 here (λ k. refl))

crosses : (level : Level) (r t : List ℕ) → after_operator level r ≡ Some t → Crosses r t
unfolding after_operator
crosses Or r t e = or_crosses r t e
crosses And r t e =
    let u = after_space r in
    and_cases r t (and_pick (is_and (first u)) (begins_operand (first u)) (drop 1 u) u t e)
crosses Xor r t e = xor_crosses r t e

-- a chain goes on from r, after an operand, to what follows its last one
record ComesTo (level : Level) (r u : List ℕ) : Type 0 where
  pub same : (k : ℕ) → scan (After k) r ≡ scan (After k) u
  pub ends : ChainEnds level u
  pub within : length u ≤ length r

abbrev TellsRest : Level → List ℕ → Read Tree → Type 0
TellsRest level r None = (k : ℕ) → scan (After k) r ≡ false
TellsRest level r (Some p) = ComesTo level r p.1

module _ (level : Level) (o : List ℕ → Read Tree) (d : ℕ) (tells : (s : List ℕ) → length s ≤ d → Tells (OperandEnds level) s (o s)) where
  -- so many operands are told of
  abbrev TellsBelow : ℕ → Type 0
  TellsBelow n = (found : Tree) (r : List ℕ) → length r < n → length r ≤ d → OperandEnds level r → TellsRest level r (chain_from o level n found r)

  -- the rest after a further operand that was read
  onward : (r t v : List ℕ) (x : Read Tree) → Crosses r t → GoesOn (OperandEnds level) t v → TellsRest level v x → TellsRest level r x
  onward r t v None across goes fails = λ k. across.same k ∙ goes.same k ∙ fails k
  onward r t v (Some p) across goes comes =
      let first_less = across.within in
      let less = goes.shorter in
      let last = comes.within in
      record { same = λ k. across.same k ∙ goes.same k ∙ comes.same k; ends = comes.ends; within = omega arith }

  next_tells : (n : ℕ) (found : Tree) (r t : List ℕ) → length r < n + 1 → length r ≤ d → Crosses r t → TellsBelow n → (x : Read Tree)
      → Tells (OperandEnds level) t x → TellsRest level r (x >>= λ p. chain_from o level n (join level found p.0) p.1)
  next_tells n found r t room low across ih None fails = λ k. across.same k ∙ fails k
  next_tells n found r t room low across ih (Some p) goes =
      let within = across.within in
      let less = goes.shorter in
      onward r t p.1 (chain_from o level n (join level found p.0) p.1) across goes (ih (join level found p.0) p.1 (omega arith) (omega arith) goes.ends)

  rest_cases : (n : ℕ) (found : Tree) (r : List ℕ) → length r < n + 1 → length r ≤ d → OperandEnds level r → TellsBelow n → (a : Option (List ℕ))
      → after_operator level r ≡ a → TellsRest level r (chain_from o level (suc n) found r)
  unfolding chain_from
  rest_cases n found r room low ends ih None e =
      let stops : ComesTo level r r = record { same = λ k. refl; ends = (ends, e); within = omega arith } in
      rw (e, chain_from) stops
  rest_cases n found r room low ends ih (Some t) e =
      let across = crosses level r t e in
      let within = across.within in
      let found_more = next_tells n found r t room low across ih (o t) (tells t (omega arith)) in
      rw (e, chain_from) found_more

  rest_tells : (n : ℕ) → TellsBelow n
  rest_tells zero found r room low ends = absurd (omega arith)
  rest_tells (suc n) found r room low ends = rest_cases n found r (omega arith) low ends (rest_tells n) (after_operator level r) refl

  after_first : (s u : List ℕ) (x : Read Tree) → GoesOn (OperandEnds level) s u → TellsRest level u x → Tells (ChainEnds level) s x
  after_first s u None goes fails = λ k. goes.same k ∙ fails k
  after_first s u (Some p) goes comes =
      let less = goes.shorter in
      let within = comes.within in
      record { same = λ k. goes.same k ∙ comes.same k; ends = comes.ends; shorter = omega arith }

  first_tells : (s : List ℕ) → length s ≤ d → (x : Read Tree) → Tells (OperandEnds level) s x
      → Tells (ChainEnds level) s (x >>= λ p. chain_from o level (length s) p.0 p.1)
  first_tells s low None fails = fails
  first_tells s low (Some p) goes =
      let less = goes.shorter in
      after_first s p.1 (chain_from o level (length s) p.0 p.1) goes (rest_tells (length s) p.0 p.1 less (omega arith) goes.ends)

  chain_tells : (s : List ℕ) → length s ≤ d → Tells (ChainEnds level) s (chain_of o level s)
  unfolding chain_of
  chain_tells s low = first_tells s low (o s) (tells s low)

module _ (inner : List ℕ → Read Tree) (d : ℕ) (tells : (s : List ℕ) → length s < d → Tells (ChainEnds Or) s (inner s)) where
  xor_tells : (s : List ℕ) → length s ≤ d → Tells (ChainEnds Xor) s (xor_in inner s)
  xor_tells s low = chain_tells Xor (inverted_in inner) d (inverted_tells inner d tells) s low

  and_tells : (s : List ℕ) → length s ≤ d → Tells (ChainEnds And) s (and_in inner s)
  and_tells s low = chain_tells And (xor_in inner) d xor_tells s low

  or_tells : (s : List ℕ) → length s ≤ d → Tells (ChainEnds Or) s (or_in inner s)
  or_tells s low = chain_tells Or (and_in inner) d and_tells s low

-- fails text that is left has as many parentheses as may be open
within_tells : (d : ℕ) (s : List ℕ) → length s < d → Tells (ChainEnds Or) s (within d s)
unfolding within
within_tells zero s less = absurd (omega arith)
within_tells (suc d) s less = or_tells (within d) d (within_tells d) s (omega arith)

end_reached : (u : List ℕ) → length u ≡ 0 → scan (After 0) u ≡ true
end_reached [] e = scan_end (After 0)
end_reached (b ∷ s) e = absurd (omega arith)

end_cases : (s : List ℕ) (p : Tree × List ℕ) (c : Bool) → (length (after_space p.1) == 0) ≡ c → GoesOn (ChainEnds Or) s p.1
    → is_some (if length (after_space p.1) == 0 then Some p.0 else None) ≡ scan (Before 0) s
end_cases s p true e goes =
    let u = after_space p.1 in
    rw e (sym (goes.same 0 ∙ operand_space 0 p.1 ∙ end_reached u (eqb-true (length u) 0 e)))
end_cases s p false e goes =
    let u = after_space p.1 in
    let some : 0 < length u = grind (arith, nat_tests) in
    rw e (sym (goes.same 0 ∙ operand_space 0 p.1 ∙ operand_stop 0 u (black p.1) (top_follows (first u) (over p.1 goes.ends) (first u == 41) refl) some))

whole_tells : (s : List ℕ) (o : Read Tree) → Tells (ChainEnds Or) s o
    → is_some (o >>= λ p. if length (after_space p.1) == 0 then Some p.0 else None) ≡ scan (Before 0) s
whole_tells s None fails = sym (fails 0)
whole_tells s (Some p) goes = end_cases s p (length (after_space p.1) == 0) refl goes

-- a text is a function exactly where the scan ends well
pub function_tells : (d : ℕ) (s : List ℕ) → length s ≤ d → is_some (function_in d s) ≡ scan (Before 0) s
unfolding function_in
function_tells d s low = whole_tells s (chain_at d Or s) (or_tells (within d) d (within_tells d) s low)
