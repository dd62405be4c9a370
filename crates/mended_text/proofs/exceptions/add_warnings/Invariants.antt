use Rattle.std.proofs.Common.{◌≡◌, ◌++◌, map, take}
use Rattle.witness_replay.specs.StimulusTexts.{line_of}
use Rattle.report_text.specs.Words.{warning_line}
use Rattle.mended_text.proofs.exceptions.add_warnings.Given as goal

abbrev pub invariant-loop-warning : goal.invariant-loop-warning
invariant-loop-warning l = l.lines ≡ l.initial.lines ++ map line_of (map (warning_line l.number) (take l.warning-index l.warning-items))
