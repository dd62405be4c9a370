use Rattle.std.proofs.Common.{◌≡◌, ◌++◌, map, take}
use Rattle.witness_replay.specs.StimulusTexts.{line_of}
use Rattle.report_text.specs.Notices.{cut_text}
use Rattle.report_text.specs.Reports.{bytes_of_lines}
use Rattle.report_text.proofs.cuts.add_cuts.Given as goal

abbrev pub invariant-loop-row : goal.invariant-loop-row
invariant-loop-row l =
    bytes_of_lines l.lines.items ≡ bytes_of_lines l.initial.lines.items ++ map line_of (map cut_text (take l.row-index l.row-items))
