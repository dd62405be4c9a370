-- The run of a stimulus that was replayed.
use Rattle.std.proofs.Common.{◌≡◌, ℕ, ◌+◌, ◌<◌, Bool, true, false, List, length, sym, subst, arith}
use Rattle.std.proofs.lemmas.Option.{slice_get_within}
use Rattle.net_model.specs.Cycles.{IsLinked, IsRun}
use Rattle.net_model.specs.Judge.{IsViolatedAt}
use Rattle.net_model.specs.Stimuli.{IsLawful, StandsFor}
use Rattle.net_model.specs.declared.netlist.Design.{Design}
use Rattle.net_model.specs.declared.cycles.Cycle.{Cycle}
use Rattle.net_model.specs.declared.cycles.Stimulus.{Stimulus}
use Rattle.net_model.specs.declared.claims.Claim.{Claim}
use Rattle.net_sim.proofs.Running.{lawful_run}
use Rattle.witness_replay.specs.Replays.{IsFirstViolation, IsReplay}
use Rattle.witness_replay.specs.declared.outcomes.Replay.{Replay}
use Rattle.witness_replay.specs.declared.outcomes.Replay.TheVariants.{Violated}
use Rattle.run_views.specs.Violations.{judged_cycle, IsFirstBad, IsShowable, IsViolation}
use Rattle.run_views.specs.declared.outcomes.Violation.{Violation}

-- the run of a lawful stimulus, whose first violation was replayed
pub record IsReplayed (d : Design) (claim : Claim) (s : Stimulus) (run : List Cycle) (toggle : ℕ) : Type 0 where
  pub lawful : IsLawful d s
  pub is_run : IsRun d run
  pub stands : StandsFor s run
  pub first : IsFirstViolation d claim run (Violated toggle)

pub replayed : (d : Design) (claim : Claim) (s : Stimulus) (answer : Replay) (toggle : ℕ) (run : List Cycle) → answer ≡ Violated toggle
    → IsReplay d claim s answer → IsLinked d run → StandsFor s run → IsReplayed d claim s run toggle
replayed d claim s answer toggle run answer_is replay linked stands =
    let from_reset = lawful_run d s run replay.lawful linked stands in
    let same : run ≡ replay.one.run = replay.one.only run from_reset stands in
    let there = subst (λ (a : Replay). IsFirstViolation d claim replay.one.run a) answer_is replay.first in
    record {
      lawful = replay.lawful;
      is_run = from_reset;
      stands = stands;
      first = subst (λ (r : List Cycle). IsFirstViolation d claim r (Violated toggle)) (sym same) there;
    }

-- a toggle is in the run, after its first cycle
pub toggle_in : (d : Design) (claim : Claim) (s : Stimulus) (run : List Cycle) (toggle : ℕ) → IsReplayed d claim s run toggle
    → (0 < toggle) × (toggle < length run)
toggle_in d claim s run toggle is =
    let v : IsViolatedAt d.reset_len d claim run toggle = is.first.0 in
    (omega (arith, v.toggles.is_live), slice_get_within run toggle v.toggles.now v.toggles.now_at)

pub violation_of : (d : Design) (claim : Claim) (s : Stimulus) (v : Violation) → IsReplayed d claim s v.run v.toggle
    → IsFirstBad d claim v.run v.toggle v.judged → IsViolation d claim s v
violation_of d claim s v is bad =
    record { lawful = is.lawful; is_run = is.is_run; stands = is.stands; first = is.first; judged = bad }

-- the cycle whose capture is judged is in the run
judged_in : (early : Bool) (toggle r cycle len : ℕ) → toggle + r < len → cycle ≡ judged_cycle early toggle r → cycle < len
judged_in false toggle r cycle len low is = omega arith
judged_in true toggle r cycle len low is = omega arith

-- such a run can be shown
pub showable : (d : Design) (claim : Claim) (s : Stimulus) (v : Violation) → IsReplayed d claim s v.run v.toggle
    → IsFirstBad d claim v.run v.toggle v.judged → IsShowable d v
showable d claim s v is first =
    let toggle = toggle_in d claim s v.run v.toggle is in
    let within = slice_get_within v.run (v.toggle + first.r) first.bad.now first.bad.now_at in
    record {
      settled = is.is_run.linked.settled;
      after = toggle.0;
      toggle_in = toggle.1;
      judged_in = judged_in claim.early v.toggle first.r v.judged (length v.run) within first.cycle_is;
    }
