use Rattle.std.proofs.Common.{arith}
use Rattle.sdcv_gen.specs.Texts.{exception_line}
use Rattle.sdcv_gen.proofs.Numbering.{added, added_all}
use Rattle.sdcv_gen.proofs.constraints.push_exceptions.Goals as goal

pub loop-k-preserved : goal.loop-k-preserved
loop-k-preserved c =
    added exception_line c.args.blocks.now c.args.out.now.items c.loop-k.out.items c.push_exception.new.out.items c.loop-k.k _ (omega arith) c.loop-k.invariant c.in_ok-push_exception.ensures

pub returns : goal.returns
returns c = added_all exception_line c.args.blocks.now c.args.out.now.items c.loop-k.out.items c.loop-k.k (omega arith) c.loop-k.invariant
