-- A violation goes along with the cycles from before the toggle to the last judged capture.
use Rattle.std.proofs.Common.{◌≡◌, ℕ, ◌+◌, ◌-◌, ◌<◌, ◌≤◌, List, Some, subst, arith}
use Rattle.std.specs.Prelude.{slice_get}
use Rattle.net_model.specs.Judge.{judged_count}
use Rattle.net_model.specs.Judge.{IsViolatedAt}
use Rattle.net_model.specs.declared.netlist.Design.{Design}
use Rattle.net_model.specs.declared.cycles.Cycle.{Cycle}
use Rattle.net_model.specs.declared.claims.Claim.{Claim}

-- the cycles of one list from s on, so many of them, stand in another one from u on
abbrev pub GoesAlong : ℕ → ℕ → ℕ → List Cycle → List Cycle → Type 0
GoesAlong s u count a b = (i : ℕ) (c : Cycle) → i < count → slice_get a (s + i) ≡ Some c → slice_get b (u + i) ≡ Some c

pub violated_along : (d : Design) (claim : Claim) (a b : List Cycle) (live other s u : ℕ) → other ≤ u → GoesAlong s u (1 + judged_count claim) a b
    → IsViolatedAt live d claim a (s + 1) → IsViolatedAt other d claim b (u + 1)
violated_along d claim a b live other s u low along v =
    let at : (i j k : ℕ) (c : Cycle) → i < 1 + judged_count claim → j ≡ s + i → k ≡ u + i → slice_get a j ≡ Some c → slice_get b k ≡ Some c =
    λ i j k c less there here found.
    subst (λ (p : ℕ). slice_get b p ≡ Some c) (let e : u + i ≡ k = omega (arith, here) in e)
    (along i c less (subst (λ (p : ℕ). slice_get a p ≡ Some c) there found)) in
    record {
      stale = v.stale;
      toggles =
          record {
            before = v.toggles.before;
            now = v.toggles.now;
            before_at = at 0 (s + 1 - 1) (u + 1 - 1) v.toggles.before (omega arith) (omega arith) (omega arith) v.toggles.before_at;
            now_at = at 1 (s + 1) (u + 1) v.toggles.now (omega (arith, v.judged)) (omega arith) (omega arith) v.toggles.now_at;
            is_live = omega (arith, low);
            stale_is = v.toggles.stale_is;
            differs = v.toggles.differs;
            edge_is = v.toggles.edge_is;
          };
      r = v.r;
      judged = v.judged;
      before = v.before;
      c = v.c;
      before_at = at v.r (s + 1 + v.r - 1) (u + 1 + v.r - 1) v.before (omega (arith, v.judged)) (omega arith) (omega arith) v.before_at;
      c_at = at (v.r + 1) (s + 1 + v.r) (u + 1 + v.r) v.c (omega (arith, v.judged)) (omega arith) (omega arith) v.c_at;
      bad = v.bad;
    }
