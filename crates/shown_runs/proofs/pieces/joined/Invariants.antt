use Rattle.std.proofs.Common.{◌≡◌, take}
use Rattle.std.specs.Prelude.{flat_map}
use Rattle.witness_replay.specs.StimulusTexts.{line_of}
use Rattle.shown_runs.proofs.pieces.joined.Given as goal

abbrev pub invariant-loop-line : goal.invariant-loop-line
invariant-loop-line l = l.text.items ≡ flat_map line_of (take l.line-index l.lines)
