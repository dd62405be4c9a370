use Rattle.std.proofs.Common.{arith}
use Rattle.sdcv_gen.specs.declared.blocks.Block.TheVariants.{Tied}
use Rattle.sdcv_gen.specs.Texts.{output_text}
use Rattle.sdcv_gen.proofs.Numbering.{added, added_all}
use Rattle.sdcv_gen.proofs.designs.push_outputs.Goals as goal

pub loop-k-preserved : goal.loop-k-preserved
loop-k-preserved c =
    added (λ number block. output_text number) c.args.blocks.now c.args.out.now.items c.loop-k.out.items c.push_output.new.out.items c.loop-k.k Tied (omega arith) c.loop-k.invariant c.in_ok-push_output.ensures

pub returns : goal.returns
returns c = added_all (λ number block. output_text number) c.args.blocks.now c.args.out.now.items c.loop-k.out.items c.loop-k.k (omega arith) c.loop-k.invariant
