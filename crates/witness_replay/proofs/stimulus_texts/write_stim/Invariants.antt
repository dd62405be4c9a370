use Rattle.std.proofs.Common.{◌≡◌, ◌++◌, map, take}
use Rattle.std.specs.Prelude.{flat_map}
use Rattle.witness_replay.specs.StimulusTexts.{line_of, input_line}
use Rattle.witness_replay.proofs.stimulus_texts.write_stim.Given as goal

abbrev pub invariant-loop-ins : goal.invariant-loop-ins
invariant-loop-ins l = l.out.items ≡ l.initial.out.items ++ flat_map line_of (map input_line (take l.ins-index l.ins-items))
