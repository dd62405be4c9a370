-- The drawn runs, from cycle to cycle.
use Rattle.std.proofs.Common.{◌≡◌, ℕ, zero, suc, ◌+◌, ◌*◌, ◌<◌, ◌≤◌, Bool, false, List, []}
use Rattle.std.proofs.Common.{◌∷◌, ◌++◌, length, get_or, Some, refl, ap, subst, sym, ◌∙◌, arith, inl, inr}
use Rattle.std.proofs.Common.{suc-mul, zero-mul, ext_get_or}
use Rattle.std.specs.Prelude.{◌⊎◌, slice_get, nat_lt}
use Rattle.std.proofs.lemmas.Option.{slice_get_within, slice_get-get_or, same_Some}
use Rattle.net_model.specs.Cycles.{bit_at, capture, IsSettled, IsNext, HasFixed}
use Rattle.net_model.specs.Stimuli.{AreInputs}
use Rattle.net_model.specs.LaneBits.{lane_row, lane_cycle}
use Rattle.net_model.proofs.Settling.{All-at}
use Rattle.net_model.specs.declared.netlist.Design.{Design}
use Rattle.net_model.specs.declared.cycles.Cycle.{Cycle}
use Rattle.net_model.specs.declared.claims.End.TheVariants.{Reg as RegEnd}
use Rattle.net_model.specs.declared.lane_words.Lanes.{Lanes}
use Rattle.net_sim.specs.LaneRows.{IsOnlyRow}
use Rattle.net_sim.specs.Runs.{AreCaptures}
use Rattle.net_sim.proofs.LaneSettling.{length-lane_row}
use Rattle.net_model.specs.Held.{free_below}
use Rattle.drawn_runs.specs.Drawn.{words_before, AreFirst, AreFree, IsDrawn}
use Rattle.drawn_runs.specs.Sims.{AreFirst64, IsDrawnCycle, IsRunTo, AreBitsOf, IsCycleOf}
use Rattle.drawn_runs.proofs.Stepping.{length_pushed}
use Rattle.drawn_runs.proofs.Filling.{inputs_same}

-- before the first cycle as many words are drawn as there are registers
pub words_none : (d : Design) → words_before d 0 ≡ length d.regs
words_none d = omega (arith, zero-mul (free_below d (length d.inputs)))

-- in each cycle as many as there are free inputs
pub words_more : (d : Design) (t : ℕ) → words_before d t + free_below d (length d.inputs) ≡ words_before d (t + 1)
words_more d t =
    let free = free_below d (length d.inputs) in
    let e : t + 1 ≡ suc t = omega arith in
    let product : (t + 1) * free ≡ t * free + free = ap (λ (k : ℕ). k * free) e ∙ suc-mul t free in
    omega (arith, product)

-- an item of a list with one more is an earlier one, or that one
pub pushed : {X : Type 0} (xs : List X) (x : X) (k : ℕ) (y : X) → slice_get (xs ++ x ∷ []) k ≡ Some y
    → (slice_get xs k ≡ Some y) ⊎ ((k ≡ length xs) × (x ≡ y))
pushed [] x zero y at = inr (refl, same_Some x y at)
pushed [] x (suc k) y at = absurd (omega (arith, slice_get_within (x ∷ []) (suc k) y at))
pushed (z ∷ xs) x zero y at = inl at
pushed (z ∷ xs) x (suc k) y at =
    elim (pushed xs x k y at) [ inl here ↦ inl here | inr last ↦ inr (omega (arith, last.0), last.1) ]

-- no cycle yet
pub run_none : (d : Design) (i : ℕ) (bits : List Bool) → AreFirst d i bits → IsRunTo d i 0 bits []
run_none d i bits first =
    record {
      count = refl;
      each = λ k c at. absurd (omega (arith, slice_get_within [] k c at));
      next = λ k before c at. absurd (omega (arith, slice_get_within [] k before at));
      first = λ c at. absurd (omega (arith, slice_get_within [] 0 c at));
      begins = λ e. first;
      follows = λ k c at. absurd (omega (arith, slice_get_within [] k c at));
    }

each_more : (d : Design) (i t : ℕ) (bits : List Bool) (run : List Cycle) (c : Cycle) → IsDrawnCycle d i t c → IsRunTo d i t bits run → (k : ℕ) (x : Cycle)
    → slice_get (run ++ c ∷ []) k ≡ Some x → IsDrawnCycle d i k x
each_more d i t bits run c is done k x at =
    elim (pushed run c k x at) [
      | inl here ↦ done.each k x here
      | inr last ↦
          let e : t ≡ k = sym (last.0 ∙ done.count) in
          subst (λ (y : Cycle). IsDrawnCycle d i k y) last.1 (subst (λ (n : ℕ). IsDrawnCycle d i n c) e is)
    ]

next_more : (d : Design) (i t : ℕ) (bits : List Bool) (run : List Cycle) (c : Cycle) → c.bits ≡ bits → IsRunTo d i t bits run → (k : ℕ) (before x : Cycle)
    → slice_get (run ++ c ∷ []) k ≡ Some before → slice_get (run ++ c ∷ []) (k + 1) ≡ Some x → IsNext d before x
next_more d i t bits run c same done k before x at then =
    elim (pushed run c k before at) [
      | inl first ↦ elim (pushed run c (k + 1) x then) [
        | inl second ↦ done.next k before x first second
        | inr last ↦ λ r low. ap (λ (y : Cycle). bit_at y.bits r) (sym last.1) ∙
            (ap (λ (row : List Bool). bit_at row r) same ∙ done.follows k before first (last.0 ∙ done.count) r low)
      ]
      | inr end_ ↦ elim (pushed run c (k + 1) x then) [
        | inl second ↦ absurd (omega (arith, end_.0, slice_get_within run (k + 1) x second))
        | inr last ↦ absurd (omega (arith, end_.0, last.0))
      ]
    ]

first_more : (d : Design) (i t : ℕ) (bits : List Bool) (run : List Cycle) (c : Cycle) → c.bits ≡ bits → IsRunTo d i t bits run → (x : Cycle)
    → slice_get (run ++ c ∷ []) 0 ≡ Some x → AreFirst d i x.bits
first_more d i t bits run c same done x at =
    elim (pushed run c 0 x at) [
      | inl here ↦ done.first x here
      | inr last ↦
          let e : bits ≡ x.bits = sym same ∙ ap (λ (y : Cycle). y.bits) last.1 in
          subst (AreFirst d i) e (done.begins (sym done.count ∙ sym last.0))
    ]

pub follows_more : (d : Design) (t : ℕ) (run : List Cycle) (c : Cycle) (next : List Bool) → length run ≡ t → AreCaptures d c next → (k : ℕ) (x : Cycle)
    → slice_get (run ++ c ∷ []) k ≡ Some x → k + 1 ≡ t + 1 → (r : ℕ) → r < length d.regs
    → bit_at next r ≡ capture d (RegEnd r) x
follows_more d t run c next count captures k x at is r low =
    elim (pushed run c k x at) [
      | inl here ↦ absurd (omega (arith, slice_get_within run k x here))
      | inr last ↦ captures.each r low ∙ ap (capture d (RegEnd r)) last.1
    ]

-- one cycle more
pub run_more : (d : Design) (i t : ℕ) (bits next : List Bool) (run : List Cycle) (c : Cycle) → IsDrawnCycle d i t c → c.bits ≡ bits → AreCaptures d c next
    → IsRunTo d i t bits run → IsRunTo d i (t + 1) next (run ++ c ∷ [])
run_more d i t bits next run c is same captures done =
    record {
      count = omega (arith, length_pushed run c, done.count);
      each = each_more d i t bits run c is done;
      next = next_more d i t bits run c same done;
      first = first_more d i t bits run c same done;
      begins = λ e. absurd (omega arith);
      follows = follows_more d t run c next done.count captures;
    }

-- so many cycles are a beginning of the drawn run
pub drawn_run : (d : Design) (i t : ℕ) (bits : List Bool) (run : List Cycle) → 0 < t → t ≤ d.reset_len + 64 → IsRunTo d i t bits run → IsDrawn d i run
drawn_run d i t bits run some few done =
    record {
      from_reset =
          record {
            linked =
                record {
                  some = omega (arith, done.count);
                  settled = λ k o within. (done.each k (get_or run k o) (slice_get-get_or run k o within)).settled;
                  next = done.next;
                  fixed = λ k o within. (done.each k (get_or run k o) (slice_get-get_or run k o within)).lawful.fixed;
                };
            resets = λ k c at. (done.each k c at).lawful.resets;
          };
      short = omega (arith, done.count);
      first = done.first;
      inputs = λ k c at. (done.each k c at).free;
    }

cycle_settled : (d : Design) (i t : ℕ) (run : List Cycle) (c : Cycle) → IsDrawn d i run → slice_get run t ≡ Some c → IsSettled d c
cycle_settled d i t run c drawn at = All-at (IsSettled d) run t c at drawn.from_reset.linked.settled

-- each drawn run begins with the drawn bits
pub bits_first : (d : Design) (i : ℕ) (bits : List Lanes) → i < 64 → AreFirst64 d bits → AreBitsOf d i 0 (lane_row i bits)
bits_first d i bits lt first run c drawn at =
    let shape = (cycle_settled d i 0 run c drawn at).shape in
    ext_get_or false c.bits (lane_row i bits) (shape.bits ∙ sym (length-lane_row i bits ∙ first.count))
    (λ r within. drawn.first c at r (omega (arith, shape.bits)) ∙ sym (first.each i lt r (omega (arith, shape.bits))))

cycle_same : (a b : Cycle) → a.bits ≡ b.bits → a.ins ≡ b.ins → a.nets ≡ b.nets → a ≡ b
cycle_same a b bits ins nets =
    let made : List Bool → List Bool → List Bool → Cycle = λ x y z. record { bits = x; ins = y; nets = z } in
    ap (λ (x : List Bool). made x a.ins a.nets) bits ∙ (ap (λ (y : List Bool). made b.bits y a.nets) ins ∙ ap (made b.bits b.ins) nets)

-- the cycle that is settled by the drawn bits is that of each drawn run
pub cycle_first : (d : Design) (i t : ℕ) (bits ins nets : List Lanes) → AreBitsOf d i t (lane_row i bits) → AreInputs d (nat_lt t d.reset_len) (lane_row i ins)
    → AreFree d i (words_before d t) (lane_row i ins) → IsOnlyRow d i bits ins nets → IsCycleOf d i t (lane_cycle i bits ins nets)
cycle_first d i t bits ins nets of_bits lawful free only run c drawn at =
    let settled = cycle_settled d i t run c drawn at in
    let row : AreInputs d (nat_lt t d.reset_len) c.ins = record {
      count = settled.shape.ins;
      fixed = All-at (HasFixed d) run t c at drawn.from_reset.linked.fixed;
      resets = drawn.from_reset.resets t c at;
    } in
    let same_bits = of_bits run c drawn at in
    let same_ins = inputs_same d i (words_before d t) (nat_lt t d.reset_len) c.ins (lane_row i ins) row lawful (drawn.inputs t c at) free in
    cycle_same c (lane_cycle i bits ins nets) same_bits same_ins (only c settled same_bits same_ins)

-- the captures of a cycle are the register bits of the next one, in each drawn run
pub bits_next : (d : Design) (i t : ℕ) (here : Cycle) (next : List Bool) → IsCycleOf d i t here → AreCaptures d here next → AreBitsOf d i (t + 1) next
bits_next d i t here next is captures run c drawn at =
    let shape = (cycle_settled d i (t + 1) run c drawn at).shape in
    let within = slice_get_within run (t + 1) c at in
    let there : slice_get run t ≡ Some (get_or run t c) = slice_get-get_or run t c (omega (arith, within)) in
    let same = is run (get_or run t c) drawn there in
    ext_get_or false c.bits next (shape.bits ∙ sym captures.count)
    (λ r low.
    drawn.from_reset.linked.next t (get_or run t c) c there at r (omega (arith, shape.bits))
    ∙ (ap (capture d (RegEnd r)) same ∙ sym (captures.each r (omega (arith, shape.bits)))))
