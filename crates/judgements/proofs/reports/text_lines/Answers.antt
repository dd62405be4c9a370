use Rattle.std.proofs.Common.{◌≡◌, ◌∙◌, ℕ, ap}
use Rattle.std.specs.Prelude.{Vec}
use Rattle.std.specs.List.{concat}
use Rattle.std.specs.declared.alloc.Global.{Global}
use Rattle.std.proofs.lemmas.Result.{IfOk-weaker}
use Rattle.report_text.specs.Reports.{bytes_of_lines, report_lines, report_bytes}
use Rattle.report_text.proofs.ReadBack.{bytes_joined}
use Rattle.judgements.specs.Reports.{joined}
use Rattle.judgements.proofs.reports.text_lines.Goals as goal

pub returns : goal.returns
returns c =
    let o = c.args.options.now in
    let n = c.args.notices.now in
    let s = c.args.selected.now in
    let vs = c.args.verdicts.now in
    IfOk-weaker c.write_report.result (λ (lines : Vec (Vec ℕ Global) Global). bytes_of_lines lines.items ≡ report_lines o n s vs)
    (λ (lines : Vec (Vec ℕ Global) Global). joined lines.items ≡ report_bytes o n s vs)
    (λ lines is. bytes_joined lines.items ∙ ap concat is) c.write_report.ensures
