use Rattle.std.proofs.Common.{◌≡◌, ◌∙◌, ap, false, List, ℕ, ◌++◌, ◌∷◌, []}
use Rattle.serde_json.specs.View.{view}
use Rattle.serde_json.specs.Written.{has_float, compact_text}
use Rattle.report_json.proofs.Floats.{report_has_none}
use Rattle.report_json.proofs.reports.write_json.Goals as goal

pub returns : goal.returns
returns c =
    let o = c.args.options.now in
    let n = c.args.notices.now in
    let selected = c.args.selected.now in
    let vs = c.args.verdicts.now in
    let none : has_float (view c.in_ok-report.report) ≡ false = ap has_float c.in_ok-report.ensures ∙ report_has_none o n selected vs in
    c.in_ok-push.ensures.items ∙ ap (λ (text : List ℕ). text ++ 10 ∷ []) (c.in_ok-text.ensures.text none ∙ ap compact_text c.in_ok-report.ensures)
