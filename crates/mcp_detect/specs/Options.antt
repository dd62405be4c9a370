-- How pairs are tried.
use Rattle.std.specs.Prelude.{◌<◌, ◌≤◌}
use Rattle.verdict_types.specs.declared.outcomes.Limits.{Limits}
use Rattle.mcp_detect.specs.declared.options.DetectOptions.{DetectOptions}

-- depths, budgets and multipliers that the searches take; the smallest multiplier that claims anything is 2
pub record AreInRange (o : DetectOptions) : Type 0 where
  pub depth : o.depth ≤ 64
  pub budget : 0 < o.budget
  pub inv_depth : o.inv_depth ≤ 8
  pub some : 2 ≤ o.bound
  pub most : o.bound ≤ 16

-- how far the search for a verdict goes
abbrev pub limits_of : DetectOptions → Limits
limits_of o = record { depth = o.depth; budget = o.budget }
