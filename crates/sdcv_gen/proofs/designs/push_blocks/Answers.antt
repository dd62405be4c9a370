use Rattle.std.proofs.Common.{arith}
use Rattle.sdcv_gen.specs.Texts.{numbered_block}
use Rattle.sdcv_gen.proofs.Numbering.{added, added_all}
use Rattle.sdcv_gen.proofs.designs.push_blocks.Goals as goal

pub loop-k-preserved : goal.loop-k-preserved
loop-k-preserved c =
    added numbered_block c.args.blocks.now c.args.out.now.items c.loop-k.out.items c.push_numbered.new.out.items c.loop-k.k _ (omega arith) c.loop-k.invariant c.in_ok-push_numbered.ensures

pub returns : goal.returns
returns c = added_all numbered_block c.args.blocks.now c.args.out.now.items c.loop-k.out.items c.loop-k.k (omega arith) c.loop-k.invariant
