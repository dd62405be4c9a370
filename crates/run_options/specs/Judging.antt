-- How claims may be judged.
use Rattle.std.specs.Prelude.{◌≡◌, ℕ, ◌≤◌, Bool, false}
use Rattle.run_options.specs.declared.judging.Judging.{Judging}

-- with hazards or without, and false paths over this lag
abbrev pub judging_by : Bool → ℕ → Judging
judging_by hazard lag = record { hazard = hazard; lag = lag; hold = false; strict = false }

-- false paths are judged at most eight captures after the first
pub record CanJudge (judging : Judging) : Type 0 where
  pub lag : judging.lag ≤ 8
