use Rattle.std.proofs.Common.{◌≡◌, take}
use Rattle.std.specs.Prelude.{flat_map}
use Rattle.witness_replay.specs.StimulusTexts.{line_of}
use Rattle.report_groups.proofs.differences.differences_text.Given as goal

abbrev pub invariant-loop-line : goal.invariant-loop-line
invariant-loop-line l = l.out.items ≡ flat_map line_of (take l.line-index l.line-items)
