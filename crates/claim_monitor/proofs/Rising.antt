-- The bad literal rises exactly beside runs that violate the claim.
use Rattle.std.proofs.Common.{◌≡◌, ℕ, zero, suc, ◌<◌, ◌+◌, ◌-◌, Bool, true, false, cond, List, [], ◌∷◌, length, refl, ap, sym, ◌∙◌, arith}
use Rattle.std.specs.Prelude.{◌↔◌, count_by}
use Rattle.std.proofs.lemmas.List.Sums.{sum_by-append}
use Rattle.std.proofs.lemmas.Option.{slice_get_within}
use Rattle.net_model.specs.Netlist.{IsSound}
use Rattle.net_model.specs.Cycles.{IsRun}
use Rattle.net_model.specs.Judge.{IsViolatedAt, Holds}
use Rattle.net_model.specs.declared.netlist.Design.{Design}
use Rattle.net_model.specs.declared.cycles.Cycle.{Cycle}
use Rattle.net_model.specs.declared.claims.Claim.{Claim}
use Rattle.and_graphs.specs.Runs.{bad_at}
use Rattle.and_graphs.specs.declared.aigs.Latch.{Latch}
use Rattle.and_graphs.specs.declared.aigs.Aig.{Aig}
use Rattle.claim_monitor.specs.Fronts.{sizes_of, latch_count}
use Rattle.claim_monitor.specs.Watches.{IsCaughtAt, AreOfRun, Watches}
use Rattle.claim_monitor.specs.Rises.{IsViolatedBy, RisesWithin, AreBitsOf, NeverRises}
use Rattle.claim_monitor.proofs.FrontRows.{HaveFlags}
use Rattle.claim_monitor.proofs.RunsExist.{run_exists}
use Rattle.claim_monitor.proofs.FreeRows.{bits_of_run}

-- a violation is caught in a cycle of the run
caught_at : (d : Design) (claim : Claim) (run : List Cycle) (t : ℕ) → IsViolatedAt d.reset_len d claim run t → (n : ℕ) × (n < length run)
    × IsCaughtAt d claim run n
caught_at d claim run t v = (t + v.r, slice_get_within run (t + v.r) v.c v.c_at, (t, v, refl))

pub rises_where_violated : (d : Design) (claim : Claim) (a : Aig) (run : List Cycle) (any : List Bool) (ins : ℕ → List Bool) → Watches d claim a
    → IsRun d run → AreOfRun d run any ins → RisesWithin a any ins (length run) ↔ IsViolatedBy d claim run
rises_where_violated d claim a run any ins w is bits = (
  λ up. let caught = (w.bad run any ins up.0 is bits up.1).0 up.2 in (caught.0, caught.1),
  λ violated.
      let at = caught_at d claim run violated.0 violated.1 in
      (at.0, at.1, (w.bad run any ins at.0 is bits at.1).1 at.2),
)

-- how many latches begin with any bit
abbrev any_count : List Latch → ℕ
any_count = count_by (λ (x : Latch). x.is_any)

count_first : (x : Latch) (xs : List Latch) (b : Bool) → x.is_any ≡ b → any_count (x ∷ xs) ≡ cond b 1 0 + any_count xs
count_first x xs b is = omega (arith, sum_by-append (λ (y : Latch). cond y.is_any 1 0) (x ∷ []) xs, ap (λ (t : Bool). cond {A = ℕ} t 1 0) is)

pub flags_any : (xs : List Latch) (m n : ℕ) → HaveFlags xs m n → any_count xs ≡ m
flags_any [] zero n flags = refl
flags_any [] (suc m) n flags = cc
flags_any (x ∷ xs) zero zero flags = cc
flags_any (x ∷ xs) zero (suc n) flags =
    let off : x.is_any ≡ false = cc in
    let rest : HaveFlags xs 0 n = cc in
    omega (arith, count_first x xs false off, flags_any xs 0 n rest)
flags_any (x ∷ xs) (suc m) n flags =
    let on : x.is_any ≡ true = cc in
    let rest : HaveFlags xs m n = cc in
    omega (arith, count_first x xs true on, flags_any xs m n rest)

low_where : (b : Bool) → (b ≡ true → ⊥) → b ≡ false
low_where true apart = absurd (apart refl)
low_where false apart = refl

pub never_rises : (d : Design) (claim : Claim) (a : Aig) → IsSound d → Watches d claim a → Holds d claim → NeverRises a
never_rises d claim a sound w holds any ins bits t =
    let regs = bits.firsts ∙ flags_any a.latches (length d.regs) (latch_count (sizes_of d claim) - length d.regs) w.latches in
    let one = run_exists d any ins (t + 1) sound regs (λ u. bits.inputs u ∙ w.inputs) (omega arith) in
    low_where (bad_at a any ins t)
    (λ up.
    let caught = (w.bad one.run any ins t one.from_reset one.bits (omega (arith, one.count))).0 up in
    holds one.run caught.0 one.from_reset caught.1)

pub holds_where_low : (d : Design) (claim : Claim) (a : Aig) → Watches d claim a → NeverRises a → Holds d claim
holds_where_low d claim a w never run t is violated =
    let has = bits_of_run d run is in
    let regs = has.regs ∙ sym (flags_any a.latches (length d.regs) (latch_count (sizes_of d claim) - length d.regs) w.latches) in
    let bits : AreBitsOf a has.any has.ins = record { firsts = regs; inputs = λ u. has.are.count u ∙ sym w.inputs } in
    let up = (rises_where_violated d claim a run has.any has.ins w is has.are).1 (t, violated) in
    let no : true ≡ false = sym up.2 ∙ never has.any has.ins bits up.0 in
    cc
