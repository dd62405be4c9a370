use Rattle.std.proofs.Common.{◌≡◌, ◌++◌, map, take}
use Rattle.witness_replay.specs.StimulusTexts.{digit_of}
use Rattle.witness_replay.proofs.stimulus_texts.push_bits.Given as goal

abbrev pub invariant-loop-bit : goal.invariant-loop-bit
invariant-loop-bit l = l.out.items ≡ l.initial.out.items ++ map digit_of (take l.bit-index l.bit-items)
