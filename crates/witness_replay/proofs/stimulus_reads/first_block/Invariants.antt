use Rattle.std.proofs.Common.{◌≡◌, ◌+◌, length}
use Rattle.witness_replay.specs.Blocks.{from_block}
use Rattle.witness_replay.specs.BlockParts.{left, next_number}
use Rattle.witness_replay.proofs.stimulus_reads.first_block.Given as goal

abbrev pub invariant-loop-line : goal.invariant-loop-line
invariant-loop-line l = record {
  same : left l.block ≡ left l.ahead;
  passed : next_number l.block ≡ next_number l.ahead;
  found : from_block l.title (left l.fn.report) ≡ from_block l.title (left l.block);
  total : next_number l.block + length (left l.block) ≡ next_number l.fn.report + length (left l.fn.report);
}

abbrev pub decreases-loop-line : goal.decreases-loop-line
decreases-loop-line l = length (left l.ahead)
