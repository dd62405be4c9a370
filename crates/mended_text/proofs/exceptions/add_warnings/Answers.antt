use Rattle.std.proofs.Common.{◌+◌, ◌++◌, ◌∷◌, [], ◌∙◌, ap, List, ℕ, arith}
use Rattle.witness_replay.specs.StimulusTexts.{line_of}
use Rattle.report_text.specs.Words.{warning_line}
use Rattle.mended_text.proofs.Telling.{line_added}
use Rattle.mended_text.proofs.exceptions.add_warnings.Goals as goal

pub loop-warning-preserved : goal.loop-warning-preserved
loop-warning-preserved c =
    line_added (warning_line (c.args.told.now.place + 1)) c.as_slice-warning-items.result.now c.loop-warning.warning-index c.warning-item.result
    c.args.lines.now c.loop-warning.lines c.add.new.self (omega arith) c.warning-item.is
    (c.in_ok-add.ensures ∙ ap (λ (text : List ℕ). c.loop-warning.lines ++ line_of text ∷ []) c.in_ok-warning_line.ensures) c.loop-warning.invariant
