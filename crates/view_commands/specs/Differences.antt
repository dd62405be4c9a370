-- How a report differs from an older one.
use Rattle.std.specs.Prelude.{◌≡◌, ◌⊎◌, ℕ, List, [], ◌∷◌}
use Rattle.report_rows.specs.Reads.{IsReport}
use Rattle.report_rows.specs.declared.reports.Report.{Report}
use Rattle.report_groups.specs.Differences.{differences_text}
use Rattle.view_commands.specs.Reports.{IsNoReport}
use Rattle.view_commands.specs.declared.stops.Stop.{Stop}

-- the text says how the report that one text is differs from that of the other
pub record IsDifference (old new text : List ℕ) : Type 0 where
  pub was : Report
  pub is : Report
  pub was_read : IsReport old was
  pub is_read : IsReport new is
  pub told : text ≡ differences_text was is

-- the older text is a report, and the newer one of that name is none
pub record IsNewRefused (old new_name new : List ℕ) (stop : Stop) : Type 0 where
  pub was : Report
  pub was_read : IsReport old was
  pub why : IsNoReport new_name new stop

-- one of the texts is no report, the older one first
abbrev pub IsUntold : List ℕ → List ℕ → List ℕ → List ℕ → Stop → Type 0
IsUntold old_name old new_name new stop = IsNoReport old_name old stop ⊎ IsNewRefused old new_name new stop

-- 0 where nothing is told, and else 1
abbrev pub status_of : List ℕ → ℕ
status_of [] = 0
status_of (byte ∷ bytes) = 1
