use Rattle.std.proofs.Common.{length, refl, sym, ap, ◌∙◌, arith}
use Rattle.witness_replay.specs.BlockParts.{left}
use Rattle.witness_replay.proofs.WrittenLemmas.{block_here, block_later, no_block}
use Rattle.witness_replay.proofs.stimulus_reads.first_block.Goals as goal

pub returns-then-is_head-clause-left : goal.returns-then-is_head-clause-left
returns-then-is_head-clause-left c =
    let cut = c.loop-line.invariant.same ∙ c.in-Some.ensures.line in
    let count = ap length cut in (
      c.loop-line.invariant.found ∙ block_here c.args.title.now c.args.opening.now c.in-Some.line.now (left c.loop-line.block)
          (left c.next_line.new.self) c.requires (sym c.is_head.ensures ∙ c.if-is_head.true) cut,
      omega arith,
    )

pub loop-line-preserved : goal.loop-line-preserved
loop-line-preserved c =
    let cut = c.loop-line.invariant.same ∙ c.in-Some.ensures.line in
    let count = ap length cut in
    let passed = c.in-Some.ensures.number in
    record {
      same = refl;
      passed = refl;
      found = c.loop-line.invariant.found ∙ block_later c.args.title.now c.args.opening.now c.in-Some.line.now (left c.loop-line.block)
          (left c.next_line.new.self) c.requires (sym c.is_head.ensures ∙ c.if-is_head.false) cut;
      total = omega arith;
    }

pub returns-clause-left : goal.returns-clause-left
returns-clause-left c = c.loop-line.invariant.found ∙ no_block c.args.title.now (left c.loop-line.block)
    (c.loop-line.invariant.same ∙ c.in_default.ensures.line.0)
