use Rattle.std.proofs.Common.{◌≡◌, ◌++◌, map, take}
use Rattle.witness_replay.specs.StimulusTexts.{line_of, input_line}
use Rattle.report_text.proofs.blocks.add_inputs.Given as goal

abbrev pub invariant-loop-bits : goal.invariant-loop-bits
invariant-loop-bits l = l.report ≡ l.initial.report ++ map line_of (map input_line (take l.bits-index l.bits-items))
