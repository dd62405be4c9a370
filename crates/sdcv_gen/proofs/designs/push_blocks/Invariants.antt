use Rattle.std.proofs.Common.{◌≡◌, ◌++◌, take}
use Rattle.sdcv_gen.specs.Texts.{numbered, numbered_block}
use Rattle.sdcv_gen.proofs.designs.push_blocks.Given as goal

abbrev pub invariant-loop-k : goal.invariant-loop-k
invariant-loop-k l = l.out.items ≡ l.initial.out.items ++ numbered numbered_block 0 (take l.k l.blocks)
