-- What is known of a run so far, and of one more cycle; and there is one such run.
use Rattle.std.proofs.Common.{◌≡◌, ℕ, zero, suc, ◌+◌, ◌<◌, Bool, List, [], ◌∷◌, ◌++◌, length, get_or, Some}
use Rattle.std.proofs.Common.{refl, sym, ◌∙◌, subst, arith, ◌⊎◌, inl, inr, add-one}
use Rattle.std.specs.Prelude.{All, slice_get}
use Rattle.std.proofs.lemmas.List.{same_lists}
use Rattle.std.proofs.lemmas.List.Elements.{All-nil, All-cons, All-append}
use Rattle.std.proofs.lemmas.Option.{slice_get_within, slice_get-get_or, same_Some}
use Rattle.net_model.specs.Netlist.{IsSound}
use Rattle.net_model.proofs.Settling.{All-at}
use Rattle.net_model.specs.declared.netlist.Design.{Design}
use Rattle.net_model.specs.declared.cycles.Stimulus.{Stimulus}
use Rattle.net_model.specs.declared.terns.Tern.{Tern}
use Rattle.firm_runs.specs.Cycles3.{tern_at, IsSettled3, AreCaptures3, AreKnownBits, AreKnownInputs, IsKnownRun}
use Rattle.firm_runs.proofs.Settled3.{settled_once3}
use Rattle.firm_runs.specs.declared.free_bits.FreeBits.{FreeBits}
use Rattle.firm_runs.specs.declared.cycles.Cycle3.{Cycle3}

-- the first t cycles, and the register values of the next one
pub record RunSoFar3 (d : Design) (free : FreeBits) (s : Stimulus) (run : List Cycle3) (bits : List Tern) (t : ℕ) : Type 0 where
  pub count : length run ≡ t
  pub settled : All (IsSettled3 d) run
  pub state : (c : Cycle3) → slice_get run 0 ≡ Some c → AreKnownBits d s.state c.bits
  pub inputs : (k : ℕ) (c : Cycle3) (ins : List Bool) → slice_get run k ≡ Some c → slice_get s.inputs k ≡ Some ins → AreKnownInputs d free k ins c.ins
  pub next : (k : ℕ) (before c : Cycle3) → slice_get run k ≡ Some before → slice_get run (k + 1) ≡ Some c → AreCaptures3 d before c.bits
  pub begins : t ≡ 0 → AreKnownBits d s.state bits
  pub follows : (k : ℕ) (c : Cycle3) → slice_get run k ≡ Some c → k + 1 ≡ t → AreCaptures3 d c bits
  pub bits_len : length bits ≡ length d.regs

pub run_none3 : (d : Design) (free : FreeBits) (s : Stimulus) (bits : List Tern) → AreKnownBits d s.state bits → RunSoFar3 d free s [] bits 0
run_none3 d free s bits known =
    record {
      count = refl;
      settled = All-nil (IsSettled3 d);
      state = λ c at. absurd (omega (arith, slice_get_within [] 0 c at));
      inputs = λ k c ins at row. absurd (omega (arith, slice_get_within [] k c at));
      next = λ k before c at. absurd (omega (arith, slice_get_within [] k before at));
      begins = λ e. known;
      follows = λ k c at. absurd (omega (arith, slice_get_within [] k c at));
      bits_len = known.count;
    }

-- an item of a list with one more item
pushed : {X : Type 0} (xs : List X) (x : X) (k : ℕ) (y : X) → slice_get (xs ++ x ∷ []) k ≡ Some y → (slice_get xs k ≡ Some y) ⊎ ((k ≡ length xs) × (x ≡ y))
pushed [] x zero y at = inr (refl, same_Some x y at)
pushed [] x (suc k) y at = absurd (omega (arith, slice_get_within (x ∷ []) (suc k) y at))
pushed (z ∷ xs) x zero y at = inl at
pushed (z ∷ xs) x (suc k) y at =
    elim (pushed xs x k y at) [ inl here ↦ inl here | inr last ↦ inr (omega (arith, last.0), last.1) ]

length_pushed : {X : Type 0} (xs : List X) (x : X) → length (xs ++ x ∷ []) ≡ length xs + 1
length_pushed [] x = refl
length_pushed (y ∷ xs) x = omega (arith, length_pushed xs x)

state_more : (d : Design) (free : FreeBits) (s : Stimulus) (run : List Cycle3) (bits : List Tern) (t : ℕ) (c : Cycle3) → c.bits ≡ bits
    → RunSoFar3 d free s run bits t → (x : Cycle3) → slice_get (run ++ c ∷ []) 0 ≡ Some x → AreKnownBits d s.state x.bits
state_more d free s run bits t c same done x at =
    elim (pushed run c 0 x at) [
      | inl here ↦ done.state x here
      | inr last ↦ subst (λ (y : Cycle3). AreKnownBits d s.state y.bits) last.1
          (subst (AreKnownBits d s.state) (sym same) (done.begins (sym done.count ∙ sym last.0)))
    ]

inputs_more : (d : Design) (free : FreeBits) (s : Stimulus) (run : List Cycle3) (bits : List Tern) (row : List Bool) (t : ℕ) (c : Cycle3)
    → slice_get s.inputs t ≡ Some row → AreKnownInputs d free t row c.ins → RunSoFar3 d free s run bits t → (k : ℕ) (x : Cycle3) (ins : List Bool)
    → slice_get (run ++ c ∷ []) k ≡ Some x → slice_get s.inputs k ≡ Some ins → AreKnownInputs d free k ins x.ins
inputs_more d free s run bits row t c here known done k x ins at there =
    elim (pushed run c k x at) [
      | inl first ↦ done.inputs k x ins first there
      | inr last ↦
          let now : k ≡ t = last.0 ∙ done.count in
          let same : row ≡ ins = same_Some row ins (sym here ∙ subst (λ (i : ℕ). slice_get s.inputs i ≡ Some ins) now there) in
          subst (λ (i : ℕ). AreKnownInputs d free i ins x.ins) (sym now)
          (subst (λ (xs : List Bool). AreKnownInputs d free t xs x.ins) same
          (subst (λ (y : Cycle3). AreKnownInputs d free t row y.ins) last.1 known))
    ]

next_more : (d : Design) (free : FreeBits) (s : Stimulus) (run : List Cycle3) (bits : List Tern) (t : ℕ) (c : Cycle3) → c.bits ≡ bits
    → RunSoFar3 d free s run bits t → (k : ℕ) (before after : Cycle3) → slice_get (run ++ c ∷ []) k ≡ Some before
    → slice_get (run ++ c ∷ []) (k + 1) ≡ Some after → AreCaptures3 d before after.bits
next_more d free s run bits t c same done k before after at after_at =
    elim (pushed run c k before at) [
      | inl first ↦ elim (pushed run c (k + 1) after after_at) [
        | inl second ↦ done.next k before after first second
        | inr last ↦ subst (λ (y : Cycle3). AreCaptures3 d before y.bits) last.1
            (subst (AreCaptures3 d before) (sym same) (done.follows k before first (last.0 ∙ done.count)))
      ]
      | inr end_ ↦ elim (pushed run c (k + 1) after after_at) [
        | inl second ↦ absurd (omega (arith, end_.0, slice_get_within run (k + 1) after second))
        | inr last ↦ absurd (omega (arith, end_.0, last.0))
      ]
    ]

follows_more : (d : Design) (run : List Cycle3) (t : ℕ) (c : Cycle3) (next : List Tern) → length run ≡ t → AreCaptures3 d c next → (k : ℕ) (x : Cycle3)
    → slice_get (run ++ c ∷ []) k ≡ Some x → k + 1 ≡ t + 1 → AreCaptures3 d x next
follows_more d run t c next count captures k x at is =
    elim (pushed run c k x at) [
      | inl here ↦ absurd (omega (arith, slice_get_within run k x here))
      | inr last ↦ subst (λ (y : Cycle3). AreCaptures3 d y next) last.1 captures
    ]

pub run_more3 : (d : Design) (free : FreeBits) (s : Stimulus) (run : List Cycle3) (bits next : List Tern) (row : List Bool) (t : ℕ) (c : Cycle3)
    → slice_get s.inputs t ≡ Some row → c.bits ≡ bits → AreKnownInputs d free t row c.ins → IsSettled3 d c → AreCaptures3 d c next
    → RunSoFar3 d free s run bits t → RunSoFar3 d free s (run ++ c ∷ []) next (t + 1)
run_more3 d free s run bits next row t c here same known settled captures done =
    record {
      count = omega (arith, length_pushed run c, done.count);
      settled = All-append (IsSettled3 d) run (c ∷ []) done.settled (All-cons (IsSettled3 d) c [] settled (All-nil (IsSettled3 d)));
      state = state_more d free s run bits t c same done;
      inputs = inputs_more d free s run bits row t c here known done;
      next = next_more d free s run bits t c same done;
      begins = λ e. absurd (omega arith);
      follows = follows_more d run t c next done.count captures;
      bits_len = captures.count;
    }

pub run_known3 : (d : Design) (free : FreeBits) (s : Stimulus) (run : List Cycle3) (bits : List Tern) → RunSoFar3 d free s run bits (length s.inputs)
    → IsKnownRun d free s run
run_known3 d free s run bits done =
    record { count = done.count; settled = done.settled; state = done.state; inputs = done.inputs; next = done.next }

-- the cycles of two such runs are the same, where their register values are
alike_once3 : (d : Design) (free : FreeBits) (s : Stimulus) (p q : List Cycle3) → IsSound d → IsKnownRun d free s p → IsKnownRun d free s q → (t : ℕ)
    → (a b : Cycle3) → slice_get p t ≡ Some a → slice_get q t ≡ Some b → ((r : ℕ) → r < length d.regs → tern_at a.bits r ≡ tern_at b.bits r) → a ≡ b
alike_once3 d free s p q sound is too t a b at there bits =
    let low = slice_get_within p t a at in
    let row = slice_get-get_or s.inputs t [] (omega (arith, is.count)) in
    let ins = is.inputs t a (get_or s.inputs t []) at row in
    let other = too.inputs t b (get_or s.inputs t []) there row in
    settled_once3 d a b sound (All-at (IsSettled3 d) p t a at is.settled) (All-at (IsSettled3 d) q t b there too.settled)
    (record { bits = bits; ins = λ i lt. ins.each i lt ∙ sym (other.each i lt) })

-- the cycles of two such runs are the same
cycle_once3 : (d : Design) (free : FreeBits) (s : Stimulus) (p q : List Cycle3) → IsSound d → IsKnownRun d free s p → IsKnownRun d free s q → (t : ℕ)
    → (a b : Cycle3) → slice_get p t ≡ Some a → slice_get q t ≡ Some b → a ≡ b
cycle_once3 d free s p q sound is too zero a b at there =
    alike_once3 d free s p q sound is too zero a b at there (λ r lt. (is.state a at).each r lt ∙ sym ((too.state b there).each r lt))
cycle_once3 d free s p q sound is too (suc t) a b at there =
    let low = slice_get_within p (suc t) a at in
    let less = slice_get_within q (suc t) b there in
    let x = get_or p t a in
    let y = get_or q t b in
    let x_at : slice_get p t ≡ Some x = slice_get-get_or p t a (omega arith) in
    let y_at : slice_get q t ≡ Some y = slice_get-get_or q t b (omega arith) in
    let same : x ≡ y = cycle_once3 d free s p q sound is too t x y x_at y_at in
    let after_at : slice_get p (t + 1) ≡ Some a = subst (λ (i : ℕ). slice_get p i ≡ Some a) (sym (add-one t)) at in
    let next : slice_get q (t + 1) ≡ Some b = subst (λ (i : ℕ). slice_get q i ≡ Some b) (sym (add-one t)) there in
    let other : AreCaptures3 d x b.bits = subst (λ (z : Cycle3). AreCaptures3 d z b.bits) (sym same) (too.next t y b y_at next) in
    alike_once3 d free s p q sound is too (suc t) a b at there (λ r lt. (is.next t x a x_at after_at).each r lt ∙ sym (other.each r lt))

-- there is one such run
pub run_once3 : (d : Design) (free : FreeBits) (s : Stimulus) (p q : List Cycle3) → IsSound d → IsKnownRun d free s p → IsKnownRun d free s q → p ≡ q
run_once3 d free s p q sound is too =
    same_lists p q (is.count ∙ sym too.count)
    (λ t o within.
    cycle_once3 d free s p q sound is too t (get_or p t o) (get_or q t o) (slice_get-get_or p t o within)
    (slice_get-get_or q t o (omega (arith, is.count, too.count))))
