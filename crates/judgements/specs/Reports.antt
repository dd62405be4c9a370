-- The bytes of a report.
use Rattle.std.specs.Prelude.{ℕ, Bool, true, false, List, Vec}
use Rattle.std.specs.List.{flat_map}
use Rattle.std.specs.declared.alloc.Global.{Global}
use Rattle.selected_types.specs.declared.notices.Notices.{Notices}
use Rattle.selected_types.specs.declared.selections.Selected.{Selected}
use Rattle.verdict_types.specs.declared.outcomes.Verdict.{Verdict}
use Rattle.run_options.specs.declared.options.RunOptions.{RunOptions}
use Rattle.report_text.specs.Reports as text
use Rattle.report_json.specs.Reports.{json_text}

-- the bytes of lines, one line after the other
abbrev pub joined : List (Vec ℕ Global) → List ℕ
joined lines = flat_map (λ (line : Vec ℕ Global). line.items) lines

-- the report as JSON, where that is asked for, and else as printed lines
abbrev pub report_bytes : Bool → RunOptions → Notices → Selected → List Verdict → List ℕ
report_bytes true options notices selected verdicts = json_text options notices selected verdicts
report_bytes false options notices selected verdicts = text.report_bytes options notices selected verdicts
