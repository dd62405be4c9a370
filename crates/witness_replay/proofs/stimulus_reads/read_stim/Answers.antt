use Rattle.std.proofs.Common.{◌<◌, ◌^◌, length, arith}
use Rattle.std.proofs.lemmas.Result.{IfErr-weaker}
use Rattle.witness_replay.specs.Blocks.{IsStimCause}
use Rattle.witness_replay.specs.BlockParts.{left, next_number, IsBlockFault}
use Rattle.witness_replay.proofs.StimLemmas.{at_fault, recalls, none_written}
use Rattle.witness_replay.proofs.WrittenLemmas.{written_first}
use Rattle.witness_replay.proofs.stimulus_reads.read_stim.Goals as goal

pub returns-in_err-block-clause-back : goal.returns-in_err-block-clause-back
returns-in_err-block-clause-back c =
    let none = rw c.in_err-block.ensures.ok_part at c.in_ok-find_block.ensures.left in
    λ s written. absurd (none_written c.args.number c.args.report.now s none written)

pub returns-clause-err : goal.returns-clause-err
returns-clause-err c =
    let number = c.args.number in
    let report = c.args.report.now in
    let block = c.in_ok-block.block in
    let small : length report < 2 ^ 64 = omega arith in
    let found = rw c.in_ok-block.ensures.ok_part at c.in_ok-find_block.ensures.left in
    let total = rw c.in_ok-block.ensures.ok_part at c.in_ok-find_block.ensures.number in
    IfErr-weaker c.read_block.result (IsBlockFault number (left block) (next_number block)) (IsStimCause number report)
    (at_fault number (next_number block) report (left block) small found.0 found.1 total) c.read_block.ensures.err

pub returns-clause-only : goal.returns-clause-only
returns-clause-only c =
    let small : length c.args.report.now < 2 ^ 64 = omega arith in
    let found = rw c.in_ok-block.ensures.ok_part at c.in_ok-find_block.ensures.left in
    recalls c.args.number (next_number c.in_ok-block.block) c.args.report.now (left c.in_ok-block.block) small found.0 c.read_block.result
    c.read_block.ensures.ok c.read_block.ensures.err

pub returns-clause-back : goal.returns-clause-back
returns-clause-back c =
    let small : length c.args.report.now < 2 ^ 64 = omega arith in
    let found = rw c.in_ok-block.ensures.ok_part at c.in_ok-find_block.ensures.left in
    λ s written. recalls c.args.number (next_number c.in_ok-block.block) c.args.report.now (left c.in_ok-block.block) small found.0
    c.read_block.result c.read_block.ensures.ok c.read_block.ensures.err s
    (written_first c.args.number c.args.report.now s written)
