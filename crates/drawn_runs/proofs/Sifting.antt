-- Which clauses are left after so many cycles.
use Rattle.std.proofs.Common.{◌≡◌, ℕ, zero, suc, ◌+◌, ◌<◌, ◌≤◌, Bool, true, false, cond, List, []}
use Rattle.std.proofs.Common.{◌∷◌, ◌++◌, length, filter, Some, refl, ap, subst, sym, ◌∙◌, arith, inl, inr}
use Rattle.std.specs.Prelude.{◌&&◌, ◌==◌, ◌^◌, ◌-◌, slice_get}
use Rattle.std.proofs.lemmas.Bool.{both_ways, cases_lt, eq-eqb, eqb-true}
use Rattle.std.proofs.lemmas.Option.{slice_get_within}
use Rattle.net_model.specs.Cycles.{capture}
use Rattle.net_model.specs.Queries.{clause_holds}
use Rattle.net_model.specs.LaneBits.{lane, lane_row, in_each_lane}
use Rattle.net_model.specs.LaneLaws.{lanes_same}
use Rattle.net_model.proofs.LaneWords.{lane_ones, ones_are}
use Rattle.net_model.proofs.OneRun.{bits_exist}
use Rattle.net_model.specs.declared.netlist.Design.{Design}
use Rattle.net_model.specs.declared.cycles.Cycle.{Cycle}
use Rattle.net_model.specs.declared.claims.End.TheVariants.{Reg as RegEnd}
use Rattle.net_model.specs.declared.invariants.InvClause.{InvClause}
use Rattle.net_model.specs.declared.lane_words.Lanes.{Lanes}
use Rattle.drawn_runs.specs.Drawn.{HoldsBelow, HoldsDrawn, FailsDrawn}
use Rattle.drawn_runs.specs.Sims.{IsRunTo, IsSettledAt, cycle_of}
use Rattle.drawn_runs.specs.Sifts.{in_each, bits_cycle, holds64}
use Rattle.drawn_runs.specs.Survivors.{IsSifted, No_more, Is_left, Is_out}
use Rattle.drawn_runs.specs.declared.sims.Sim.{Sim}
use Rattle.drawn_runs.proofs.Running.{run_more, drawn_run}

pub and_left : (a b : Bool) → (a && b) ≡ true → a ≡ true
and_left true b e = refl
and_left false b e = e

pub and_right : (a b : Bool) → (a && b) ≡ true → b ≡ true
and_right true b e = e
and_right false b e = cc

and_true : (a : Bool) → (a && true) ≡ false → a ≡ false
and_true true e = e
and_true false e = refl

-- where a test holds for each number, it holds for each
pub in_each-at : (n : ℕ) (test : ℕ → Bool) → in_each n test ≡ true → (i : ℕ) → i < n → test i ≡ true
unfolding in_each
in_each-at zero test all i lt = absurd (omega arith)
in_each-at (suc n) test all i lt =
    elim (cases_lt i n) [
      | inl low ↦ in_each-at n test (and_left (in_each n test) (test n) all) i low
      | inr high ↦ let e : n ≡ i = omega arith in subst (λ (k : ℕ). test k ≡ true) e (and_right (in_each n test) (test n) all)
    ]

-- and where it does not, it fails for one
pub in_each-fails : (n : ℕ) (test : ℕ → Bool) → in_each n test ≡ false → (i : ℕ) × (i < n) × (test i ≡ false)
unfolding in_each
in_each-fails zero test none = absurd (both_ways true none refl)
in_each-fails (suc n) test none = by (test n) refl (λ rest. in_each-fails n test rest) where
  by : (b : Bool) → test n ≡ b → (in_each n test ≡ false → (i : ℕ) × (i < n) × (test i ≡ false)) → (i : ℕ) × (i < suc n) × (test i ≡ false)
  by false is rest = (n, omega arith, is)
  by true is rest =
      let found = rest (and_true (in_each n test) (subst (λ (b : Bool). (in_each n test && b) ≡ false) is none)) in
      (found.0, omega (arith, found.1), found.2)

-- a word is all ones exactly where each of its lanes is 1
pub full_is : (w : Lanes) (test : ℕ → Bool) → w.0 < 2 ^ 64 → ((i : ℕ) → i < 64 → lane w i ≡ test i) → (w.0 == 2 ^ 64 - 1) ≡ in_each 64 test
full_is w test low lanes = by (in_each 64 test) refl (w.0 == 2 ^ 64 - 1) refl where
  by : (all : Bool) → in_each 64 test ≡ all → (full : Bool) → (w.0 == 2 ^ 64 - 1) ≡ full → (w.0 == 2 ^ 64 - 1) ≡ in_each 64 test
  by true all true full = full ∙ sym all
  by false all false full = full ∙ sym all
  by true all false full =
      let made : w ≡ in_each_lane true = lanes_same w (λ _. true) low (λ i lt. lanes i lt ∙ in_each-at 64 test all i lt) in
      let e : w.0 ≡ 2 ^ 64 - 1 = ap (λ (x : Lanes). x.0) (made ∙ sym ones_are) in
      absurd (both_ways (w.0 == 2 ^ 64 - 1) full (eq-eqb w.0 (2 ^ 64 - 1) e))
  by false all true full =
      let e : w.0 ≡ 2 ^ 64 - 1 = eqb-true w.0 (2 ^ 64 - 1) full in
      let one = in_each-fails 64 test all in
      let is : lane w one.0 ≡ true = ap (λ (n : ℕ). lane (record { 0 = n }) one.0) e ∙ lane_ones one.0 one.1 in
      absurd (both_ways (lane w one.0) (lanes one.0 one.1 ∙ one.2) is)

-- whether a clause holds depends on the register bits alone
pub holds_by_bits : (clause : InvClause) (c : Cycle) (i : ℕ) (bits : List Lanes) → c.bits ≡ lane_row i bits
    → clause_holds c clause ≡ clause_holds (bits_cycle i bits) clause
holds_by_bits clause c i bits same =
    ap (λ (row : List Bool). clause_holds (record { bits = row; ins = []; nets = [] }) clause) same

pub push_at : {X : Type 0} (xs : List X) (x : X) (n : ℕ) → length xs ≡ n → slice_get (xs ++ x ∷ []) n ≡ Some x
push_at [] x zero e = refl
push_at [] x (suc n) e = absurd (omega (arith, e))
push_at (y ∷ xs) x zero e = absurd (omega (arith, e))
push_at (y ∷ xs) x (suc n) e = push_at xs x n (omega (arith, e))

-- a clause that fails in a lane of a live cycle fails in a drawn run
pub fails_drawn : (d : Design) (t : ℕ) (sim : Sim) (clause : InvClause) → d.reset_len ≤ t → t < d.reset_len + 64 → IsSettledAt d t sim
    → holds64 sim.bits clause ≡ false → FailsDrawn d clause
fails_drawn d t sim clause live few at none =
    let one = in_each-fails 64 (λ i. clause_holds (bits_cycle i sim.bits) clause) none in
    let i = one.0 in
    let c = cycle_of i sim in
    let ran = at.ran i one.1 in
    let next = bits_exist (λ r. capture d (RegEnd r) c) (length d.regs) in
    let more : IsRunTo d i (t + 1) next.0 (ran.0 ++ c ∷ []) =
    run_more d i t (lane_row i sim.bits) next.0 ran.0 c (at.each i one.1) refl (record { count = next.1; each = next.2 }) ran.1 in
    record {
      number = i;
      low = one.1;
      run = ran.0 ++ c ∷ [];
      drawn = drawn_run d i (t + 1) next.0 (ran.0 ++ c ∷ []) (omega arith) (omega arith) more;
      t = t;
      c = c;
      is_live = live;
      at = push_at ran.0 c t ran.1.count;
      fails = one.2;
    }

-- a clause that holds in each lane of a cycle, and before, holds up to it
pub holds_more : (d : Design) (t : ℕ) (sim : Sim) (clause : InvClause) → IsSettledAt d t sim → holds64 sim.bits clause ≡ true → HoldsBelow d t clause
    → HoldsBelow d (t + 1) clause
holds_more d t sim clause at all before i run k c lt drawn live low there =
    elim (cases_lt k t) [
      | inl early ↦ before i run k c lt drawn live early there
      | inr late ↦
          let e : k ≡ t = omega arith in
          let here : slice_get run t ≡ Some c = subst (λ (n : ℕ). slice_get run n ≡ Some c) e there in
          let same : c.bits ≡ lane_row i sim.bits = ap (λ (x : Cycle). x.bits) (at.only i lt run c drawn here) in
          holds_by_bits clause c i sim.bits same ∙ in_each-at 64 (λ j. clause_holds (bits_cycle j sim.bits) clause) all i lt
    ]

-- nothing is asked of cycles before the first
pub sifted_none : (d : Design) (clauses : List InvClause) → IsSifted (HoldsBelow d 0) (FailsDrawn d) clauses clauses
sifted_none d [] = No_more
sifted_none d (clause ∷ clauses) = Is_left clause clauses clauses (λ i run t c lt drawn live low at. absurd (omega arith)) (sifted_none d clauses)

-- what stays may be said otherwise
pub sifted_same : (Stays Goes Other : InvClause → Type 0) (clauses left : List InvClause) → ((clause : InvClause) → Stays clause → Other clause)
    → IsSifted Stays Goes clauses left → IsSifted Other Goes clauses left
sifted_same Stays Goes Other _ _ change No_more = No_more
sifted_same Stays Goes Other _ _ change (Is_left clause clauses left stays rest) =
    Is_left clause clauses left (change clause stays) (sifted_same Stays Goes Other clauses left change rest)
sifted_same Stays Goes Other _ _ change (Is_out clause clauses left goes rest) =
    Is_out clause clauses left goes (sifted_same Stays Goes Other clauses left change rest)

-- a filter leaves out some more
pub sifted_more : (Stays Goes Other : InvClause → Type 0) (test : InvClause → Bool) (clauses left : List InvClause)
    → ((clause : InvClause) → Stays clause → test clause ≡ true → Other clause) → ((clause : InvClause) → test clause ≡ false → Goes clause)
    → IsSifted Stays Goes clauses left → IsSifted Other Goes clauses (filter test left)
sifted_more Stays Goes Other test _ _ change fails No_more = No_more
sifted_more Stays Goes Other test _ _ change fails (Is_left clause clauses left stays rest) =
    by (test clause) refl (sifted_more Stays Goes Other test clauses left change fails rest) where
      by : (b : Bool) → test clause ≡ b → IsSifted Other Goes clauses (filter test left)
          → IsSifted Other Goes (clause ∷ clauses) (cond b (clause ∷ filter test left) (filter test left))
      by true is more = Is_left clause clauses (filter test left) (change clause stays is) more
      by false is more = Is_out clause clauses (filter test left) (fails clause is) more
sifted_more Stays Goes Other test _ _ change fails (Is_out clause clauses left goes rest) =
    Is_out clause clauses (filter test left) goes (sifted_more Stays Goes Other test clauses left change fails rest)

-- the clauses that are left after a cycle
pub sifted_next : (d : Design) (t : ℕ) (sim : Sim) (clauses left fewer : List InvClause) → t < d.reset_len + 64
    → (d.reset_len ≤ t → fewer ≡ filter (holds64 sim.bits) left) → (t < d.reset_len → fewer ≡ left) → IsSettledAt d t sim
    → IsSifted (HoldsBelow d t) (FailsDrawn d) clauses left → IsSifted (HoldsBelow d (t + 1)) (FailsDrawn d) clauses fewer
sifted_next d t sim clauses left fewer few live before at sifted =
    elim (cases_lt t d.reset_len) [
      | inl early ↦
          let same = sifted_same (HoldsBelow d t) (FailsDrawn d) (HoldsBelow d (t + 1)) clauses left
          (λ clause holds i run k c lt drawn is_live low there. holds i run k c lt drawn is_live (omega arith) there) sifted in
          subst (IsSifted (HoldsBelow d (t + 1)) (FailsDrawn d) clauses) (sym (before early)) same
      | inr late ↦
          let more = sifted_more (HoldsBelow d t) (FailsDrawn d) (HoldsBelow d (t + 1)) (holds64 sim.bits) clauses left
          (λ clause holds all. holds_more d t sim clause at all holds) (λ clause none. fails_drawn d t sim clause late few at none) sifted in
          subst (IsSifted (HoldsBelow d (t + 1)) (FailsDrawn d) clauses) (sym (live late)) more
    ]

-- after all cycles of the drawn runs
pub survivors_are : (d : Design) (clauses left : List InvClause) → IsSifted (HoldsBelow d (d.reset_len + 64)) (FailsDrawn d) clauses left
    → IsSifted (HoldsDrawn d) (FailsDrawn d) clauses left
survivors_are d clauses left sifted =
    sifted_same (HoldsBelow d (d.reset_len + 64)) (FailsDrawn d) (HoldsDrawn d) clauses left
    (λ clause holds i run t c lt drawn live at.
    let within = slice_get_within run t c at in
    holds i run t c lt drawn live (omega (arith, within, drawn.short)) at) sifted
