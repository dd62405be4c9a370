-- The cycle that the literals show is that of the run.
use Rattle.std.proofs.Common.{◌≡◌, ℕ, zero, suc, ◌<◌, ◌-◌, ◌==◌, Bool, true, false, not, if◌then◌else◌, List, length, Some, refl, ap, sym, ◌∙◌, subst, arith, inl, inr, ext_get_or}
use Rattle.std.specs.Prelude.{slice_get, nat_lt}
use Rattle.std.proofs.lemmas.Bool.{lt-ltb, le-ltb, cases_lt, ne_eqb}
use Rattle.net_model.specs.Netlist.{IsSound}
use Rattle.net_model.specs.Cycles.{bit_at, IsSettled, HasFixed, IsRun}
use Rattle.net_model.specs.Stimuli.{AreInputs}
use Rattle.net_model.specs.declared.netlist.Design.{Design}
use Rattle.net_model.specs.declared.cycles.Cycle.{Cycle}
use Rattle.net_model.specs.declared.claims.Claim.{Claim}
use Rattle.net_model.proofs.Settling.{All-at}
use Rattle.net_model.proofs.Unique.{settled_same}
use Rattle.and_graphs.specs.declared.graphs.AndGraph.{AndGraph}
use Rattle.claim_monitor.specs.Fronts.{sizes_of, reset_place, IsFront}
use Rattle.claim_monitor.specs.Shown.{AreCycleLiterals, is_live, shown_row, shown_cycle}
use Rattle.claim_monitor.specs.declared.cycle_literals.Literals.{Literals}
use Rattle.claim_monitor.proofs.InputLits.{inputs_same}

-- the last cycle of the reset is over where this one is no longer in it
not_last : (k t : ℕ) → not (nat_lt k t) ≡ nat_lt t (suc k)
not_last k t =
    elim (cases_lt k t) [
      | inl low ↦ ap not (lt-ltb k t low) ∙ sym (le-ltb t (suc k) (omega arith))
      | inr high ↦ ap not (le-ltb k t high) ∙ sym (lt-ltb t (suc k) (omega arith))
    ]

-- the bits in front tell whether the reset is active
in_reset : (d : Design) (claim : Claim) (run : List Cycle) (t : ℕ) (c : Cycle) (x : List Bool) → IsFront d claim run t c x
    → not (is_live (sizes_of d claim) x) ≡ nat_lt t d.reset_len
in_reset d claim run t c x front = by d.reset_len refl
  where
    by : (n : ℕ) → d.reset_len ≡ n → not (is_live (sizes_of d claim) x) ≡ nat_lt t d.reset_len
    by zero none =
        ap (λ (n : ℕ). not (if n == 0 then true else bit_at x (reset_place (sizes_of d claim) (n - 1)))) none
        ∙ sym (ap (nat_lt t) none ∙ le-ltb t 0 (omega arith))
    by (suc k) some =
        let apart : (suc k == 0) ≡ false = ne_eqb (suc k) 0 (omega arith) in
        let back : suc k - 1 ≡ k = omega arith in
        ap (λ (n : ℕ). not (if n == 0 then true else bit_at x (reset_place (sizes_of d claim) (n - 1)))) some
        ∙ (ap (λ (b : Bool). not (if b then true else bit_at x (reset_place (sizes_of d claim) (suc k - 1)))) apart
        ∙ (ap (λ (n : ℕ). not (bit_at x (reset_place (sizes_of d claim) n))) back
        ∙ (ap not (front.resets k (omega arith)) ∙ (not_last k t ∙ sym (ap (nat_lt t) some)))))

-- the input bits of a run's cycle are lawful
run_inputs : (d : Design) (run : List Cycle) (t : ℕ) (c : Cycle) → IsRun d run → slice_get run t ≡ Some c → AreInputs d (nat_lt t d.reset_len) c.ins
run_inputs d run t c is at =
    record {
      count = (All-at (IsSettled d) run t c at is.linked.settled).shape.ins;
      fixed = All-at (HasFixed d) run t c at is.linked.fixed;
      resets = is.resets t c at;
    }

-- where the bits in front show a cycle of a run, the literals show that cycle
pub shown_is : (g : AndGraph) (d : Design) (claim : Claim) (ls : Literals) (run : List Cycle) (t : ℕ) (c : Cycle) (x : List Bool) → IsSound d
    → AreCycleLiterals g d (sizes_of d claim) ls → length x ≡ g.front → IsRun d run → IsFront d claim run t c x → shown_cycle g x ls ≡ c
shown_is g d claim ls run t c x sound literals len is front =
    let shown = literals.nets.settled x len in
    let settled = All-at (IsSettled d) run t c front.at is.linked.settled in
    let bits : shown_row g x ls.bits ≡ c.bits =
    ext_get_or false (shown_row g x ls.bits) c.bits (shown.shape.bits ∙ sym settled.shape.bits)
    (λ r within. let low : r < length d.regs = omega (arith, shown.shape.bits) in literals.regs x r len low ∙ front.regs r low) in
    let lawful : AreInputs d (nat_lt t d.reset_len) (shown_row g x ls.ins) =
    subst (λ (active : Bool). AreInputs d active (shown_row g x ls.ins)) (in_reset d claim run t c x front) (literals.ins.lawful x len) in
    let ins : shown_row g x ls.ins ≡ c.ins =
    inputs_same d (nat_lt t d.reset_len) (shown_row g x ls.ins) c.ins lawful (run_inputs d run t c is front.at)
    (λ i low free. literals.ins.free x len i low free ∙ front.inputs.each i low free) in
    settled_same d (shown_cycle g x ls) c sound shown settled bits ins
