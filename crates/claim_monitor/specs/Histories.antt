-- Literals of what latches take next that keep bits of the cycles before.
use Rattle.std.specs.Prelude.{◌≡◌, ℕ, zero, suc, ◌+◌, ◌-◌, ◌<◌, Bool, true, false, if◌then◌else◌, List, ◌++◌, map, length}
use Rattle.net_model.specs.Cycles.{bit_at, capture}
use Rattle.net_model.specs.Judge.{judged_count, start_bit}
use Rattle.net_model.specs.declared.netlist.Design.{Design}
use Rattle.net_model.specs.declared.claims.Claim.{Claim}
use Rattle.and_graphs.specs.Graphs.{Means, bit_of}
use Rattle.and_graphs.specs.declared.graphs.AndGraph.{AndGraph}
use Rattle.and_graphs.specs.declared.aigs.Latch.{Latch}
use Rattle.claim_monitor.specs.Fronts.{sizes_of, reset_place, start_place, toggle_place, capture_place, early_place}
use Rattle.claim_monitor.specs.Shown.{AreIn, shown_row, shown_cycle}
use Rattle.claim_monitor.specs.Tells.{toggle_bit}
use Rattle.claim_monitor.specs.declared.bads.Judged.{Judged}
use Rattle.claim_monitor.specs.declared.sizes.Sizes.{Sizes}
use Rattle.claim_monitor.specs.declared.cycle_literals.Literals.{Literals}

-- the literals that a claim is judged by: its start, the toggle of its start where captures are judged, its end's capture
pub record AreJudged (g : AndGraph) (d : Design) (claim : Claim) (ls : Literals) (judged : Judged) : Type 0 where
  pub start : Means g judged.start (λ x. start_bit claim.start (shown_cycle g x ls))
  pub toggle : 0 < judged_count claim → Means g judged.toggle (λ x. toggle_bit (sizes_of d claim) claim.edge claim.start x (shown_cycle g x ls))
  pub capture : Means g judged.capture (λ x. capture d claim.end (shown_cycle g x ls))

-- what latch k of a row takes next: the first one the bit of now, each other one that of the latch before it
abbrev pub taken : AndGraph → ℕ → ℕ → ℕ → List Bool → Bool
taken g now first zero x = bit_of g x now
taken g now first (suc k) x = bit_at x (first + k)

-- a literal for each of n latches in a row, which keep a bit of the cycles before
pub record IsHistory (g : AndGraph) (now first n : ℕ) (row : List ℕ) : Type 0 where
  pub count : length row ≡ n
  pub in_ : AreIn g row
  pub each : (k : ℕ) (x : List Bool) → k < n → length x ≡ g.front → bit_at (shown_row g x row) k ≡ taken g now first k x

-- literals for the latches after those of the registers: the reset's with the live one after them, the start's bits, its toggles,
-- and the capture
pub record AreHistories (g : AndGraph) (s : Sizes) (judged : Judged) (rest : List ℕ) : Type 0 where
  pub one : ℕ
  pub live : List ℕ
  pub starts : List ℕ
  pub toggles : List ℕ
  pub captures : List ℕ
  pub rows : rest ≡ live ++ (starts ++ (toggles ++ captures))
  pub is_one : Means g one (λ x. true)
  pub of_live : IsHistory g one (reset_place s 0) (s.resets + 1) live
  pub of_starts : IsHistory g judged.start (start_place s 0) s.judged starts
  pub of_toggles : IsHistory g judged.toggle (toggle_place s 0) (s.judged - 1) toggles
  pub of_captures : IsHistory g judged.capture (capture_place s) (if s.has_capture then 1 else 0) captures

-- a latch that takes a literal next
abbrev pub latch_of : Bool → ℕ → Latch
latch_of is_any next = record { next = next; is_any = is_any }

-- those latches were added, and all begin with 0
pub record AddsHistories (g : AndGraph) (s : Sizes) (judged : Judged) (old new : List Latch) : Type 0 where
  pub rest : List ℕ
  pub histories : AreHistories g s judged rest
  pub added : new ≡ old ++ map (latch_of false) rest

-- the latch of a claim of the early side was added, where there is one
pub record AddsEarly (g : AndGraph) (s : Sizes) (early : ℕ) (old new : List Latch) : Type 0 where
  pub row : List ℕ
  pub history : IsHistory g early (early_place s) (if s.has_early then 1 else 0) row
  pub added : new ≡ old ++ map (latch_of false) row

-- the latches of a monitor: those of registers, which begin with any bit, and those after them, which begin with 0
pub record AreLatches (g : AndGraph) (s : Sizes) (captures : List ℕ) (judged : Judged) (early : ℕ) (latches : List Latch) : Type 0 where
  pub rest : List ℕ
  pub last : List ℕ
  pub histories : AreHistories g s judged rest
  pub history : IsHistory g early (early_place s) (if s.has_early then 1 else 0) last
  pub made : latches ≡ map (latch_of true) captures ++ map (latch_of false) (rest ++ last)
