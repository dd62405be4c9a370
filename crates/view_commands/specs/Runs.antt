-- A pair of a report, and the run in a design that violates its claim.
use Rattle.std.specs.Prelude.{◌≡◌, ◌<◌, Some, length, slice_get}
use Rattle.net_model.specs.Netlist.{IsSound}
use Rattle.net_model.specs.Fits.{Fits}
use Rattle.net_model.specs.declared.claims.Claim.{Claim}
use Rattle.net_model.specs.declared.cycles.Stimulus.{Stimulus}
use Rattle.run_options.specs.Judging.{CanJudge}
use Rattle.run_views.specs.Violations.{IsShowable, IsViolation}
use Rattle.design_stages.specs.declared.designs.Designed.{Designed}
use Rattle.view_commands.specs.declared.pairs.ViolatedPair.{ViolatedPair}
use Rattle.view_commands.specs.declared.runs.PairRun.{PairRun}

-- a pair of the report, and a claim that can be judged
pub record IsViolatedPair (p : ViolatedPair) : Type 0 where
  pub in_report : p.asked.place < length p.report.pairs
  pub judging : CanJudge p.asked.judging

-- a sound design, a claim of it that fits it, and a run of the stimulus that violates the claim
pub record IsPairRun (d : Designed) (s : Stimulus) (r : PairRun) : Type 0 where
  pub sound : IsSound d.linked.design
  pub claim : Claim
  pub at : slice_get d.selected.claims r.place ≡ Some claim
  pub fits : Fits d.linked.design claim
  pub violates : IsViolation d.linked.design claim s r.violation
  pub showable : IsShowable d.linked.design r.violation
