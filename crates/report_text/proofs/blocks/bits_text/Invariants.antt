use Rattle.std.proofs.Common.{◌≡◌, map, take, string_bytes}
use Rattle.witness_replay.specs.StimulusTexts.{digit_of}
use Rattle.report_text.proofs.blocks.bits_text.Given as goal

abbrev pub invariant-loop-bit : goal.invariant-loop-bit
invariant-loop-bit l = string_bytes l.text ≡ map digit_of (take l.bit-index l.bit-items)
