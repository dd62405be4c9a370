use Rattle.std.proofs.Common.{◌≡◌, ◌+◌, ◌++◌, length, map}
use Rattle.witness_replay.specs.StimulusTexts.{input_line}
use Rattle.witness_replay.specs.BlockParts.{left, next_number}
use Rattle.witness_replay.proofs.stimulus_reads.take_inputs.Given as goal

abbrev pub invariant-loop : goal.invariant-loop
invariant-loop l = record {
  cut : left l.fn.lines ≡ map input_line l.rows ++ left l.lines;
  count : length l.rows ≡ l.counter;
  number : next_number l.lines ≡ next_number l.fn.lines + l.counter;
}
