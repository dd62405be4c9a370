use Rattle.std.proofs.Common.{◌++◌, ◌∷◌, [], ◌∙◌, ap, List, ℕ, arith}
use Rattle.witness_replay.specs.StimulusTexts.{line_of}
use Rattle.report_text.specs.Notices.{cut_text}
use Rattle.report_text.specs.Reports.{bytes_of_lines}
use Rattle.report_text.proofs.Lining.{line_added}
use Rattle.report_text.proofs.cuts.add_cuts.Goals as goal

pub loop-row-preserved : goal.loop-row-preserved
loop-row-preserved c =
    line_added cut_text c.as_slice-row-items.result.now c.loop-row.row-index c.row-item.result (bytes_of_lines c.args.lines.now.items)
    (bytes_of_lines c.loop-row.lines.items) (bytes_of_lines c.add_line.new.lines.items) (omega arith) c.row-item.is
    (c.in_ok-add_line.ensures ∙ ap (λ (text : List ℕ). bytes_of_lines c.loop-row.lines.items ++ line_of text ∷ []) c.in_ok-cut_text.ensures)
    c.loop-row.invariant
