-- The run of a stimulus that violates a claim, and where.
use Rattle.std.specs.Prelude.{◌≡◌, ℕ, ◌<◌, ◌+◌, ◌-◌, Bool, true, false, List, All, length, Some, slice_get}
use Rattle.net_model.specs.Cycles.{IsSettled, IsRun}
use Rattle.net_model.specs.Stimuli.{IsLawful, StandsFor}
use Rattle.net_model.specs.Judge.{judged_count, start_bit, IsBadOn}
use Rattle.net_model.specs.declared.netlist.Design.{Design}
use Rattle.net_model.specs.declared.cycles.Cycle.{Cycle}
use Rattle.net_model.specs.declared.cycles.Stimulus.{Stimulus}
use Rattle.net_model.specs.declared.claims.Claim.{Claim}
use Rattle.witness_replay.specs.Replays.{IsFirstViolation, IsReplay}
use Rattle.witness_replay.specs.declared.outcomes.Replay.TheVariants.{Violated, Holds}
use Rattle.run_views.specs.declared.outcomes.Violation.{Violation}

-- a judged capture of a toggle is bad: by the cycle r after the toggle and the one before it, and the start's bit before the
-- toggle
pub record IsBadAfter (d : Design) (claim : Claim) (run : List Cycle) (toggle r : ℕ) : Type 0 where
  pub judged : r < judged_count claim
  pub stale : Cycle
  pub before : Cycle
  pub now : Cycle
  pub stale_at : slice_get run (toggle - 1) ≡ Some stale
  pub before_at : slice_get run (toggle + r - 1) ≡ Some before
  pub now_at : slice_get run (toggle + r) ≡ Some now
  pub bad : IsBadOn claim.early claim.hazard d claim (start_bit claim.start stale) before now

-- the cycle whose capture that is: the one r after the toggle, or on the early side the one before
abbrev pub judged_cycle : Bool → ℕ → ℕ → ℕ
judged_cycle false toggle r = toggle + r
judged_cycle true toggle r = toggle + r - 1

-- the cycle of the first bad one
pub record IsFirstBad (d : Design) (claim : Claim) (run : List Cycle) (toggle cycle : ℕ) : Type 0 where
  pub r : ℕ
  pub bad : IsBadAfter d claim run toggle r
  pub least : (q : ℕ) → q < r → ¬ IsBadAfter d claim run toggle q
  pub cycle_is : cycle ≡ judged_cycle claim.early toggle r

-- the one run of a lawful stimulus, its first toggle that violates the claim, and the first bad capture of that toggle
pub record IsViolation (d : Design) (claim : Claim) (s : Stimulus) (v : Violation) : Type 0 where
  pub lawful : IsLawful d s
  pub is_run : IsRun d v.run
  pub stands : StandsFor s v.run
  pub first : IsFirstViolation d claim v.run (Violated v.toggle)
  pub judged : IsFirstBad d claim v.run v.toggle v.judged

-- the one run of a lawful stimulus violates the claim at no toggle
abbrev pub NeverViolated : Design → Claim → Stimulus → Type 0
NeverViolated d claim s = IsReplay d claim s Holds

-- settled cycles, among them a toggle, the cycle before it, and a judged cycle
pub record IsShowable (d : Design) (v : Violation) : Type 0 where
  pub settled : All (IsSettled d) v.run
  pub after : 0 < v.toggle
  pub toggle_in : v.toggle < length v.run
  pub judged_in : v.judged < length v.run
