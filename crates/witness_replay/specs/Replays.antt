-- What a replay answers.
use Rattle.std.specs.Prelude.{◌≡◌, ℕ, ◌<◌, Bool, List, length, All, Some, slice_get, nat_lt}
use Rattle.net_model.specs.Cycles.{AreFixedKept, AreResets}
use Rattle.net_model.specs.Judge.{IsViolatedAt}
use Rattle.net_model.specs.Stimuli.{IsLawful, HasOneRun}
use Rattle.net_model.specs.declared.netlist.Design.{Design}
use Rattle.net_model.specs.declared.cycles.Cycle.{Cycle}
use Rattle.net_model.specs.declared.cycles.Stimulus.{Stimulus}
use Rattle.net_model.specs.declared.claims.Claim.{Claim}
use Rattle.witness_replay.specs.declared.outcomes.Replay.{Replay}
use Rattle.witness_replay.specs.declared.outcomes.Replay.TheVariants.{Violated, Holds}
use Rattle.witness_replay.specs.declared.faults.ReplayFault.{ReplayFault}
use Rattle.witness_replay.specs.declared.faults.ReplayFault.TheVariants.{Shape, NotReset, Memory}

-- a bit for each register, one for each input in each cycle, and at least one cycle
pub record HasStimulusShape (d : Design) (s : Stimulus) : Type 0 where
  pub state : length s.state ≡ length d.regs
  pub some : 0 < length s.inputs
  pub rows : All (λ ins. length ins ≡ length d.inputs) s.inputs

-- these input bits keep fixed inputs, and have resets active or else inactive
abbrev pub AreSettingsKept : Design → Bool → List Bool → Type 0
AreSettingsKept d active ins = AreFixedKept d ins × AreResets d active ins

-- in that cycle a reset or fixed input has another value
pub record IsNotReset (d : Design) (s : Stimulus) (t : ℕ) : Type 0 where
  pub ins : List Bool
  pub at : slice_get s.inputs t ≡ Some ins
  pub differs : ¬ AreSettingsKept d (nat_lt t d.reset_len) ins

-- a run is violated first at t, or at no t
abbrev pub IsFirstViolation : Design → Claim → List Cycle → Replay → Type 0
IsFirstViolation d claim run (Violated t) = IsViolatedAt d.reset_len d claim run t × ((u : ℕ) → u < t → ¬ IsViolatedAt d.reset_len d claim run u)
IsFirstViolation d claim run Holds = (t : ℕ) → ¬ IsViolatedAt d.reset_len d claim run t

-- the answer for a lawful stimulus: the least t at which its one run violates the claim, if there is one
pub record IsReplay (d : Design) (claim : Claim) (s : Stimulus) (answer : Replay) : Type 0 where
  pub lawful : IsLawful d s
  pub one : HasOneRun d s
  pub first : IsFirstViolation d claim one.run answer

-- why a stimulus is refused
abbrev pub IsReplayCause : Design → Stimulus → ReplayFault → Type 0
IsReplayCause d s Shape = ¬ HasStimulusShape d s
IsReplayCause d s (NotReset t) = IsNotReset d s t
IsReplayCause d s Memory = Unit {0}
