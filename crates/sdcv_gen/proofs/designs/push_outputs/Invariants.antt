use Rattle.std.proofs.Common.{◌≡◌, ◌++◌, take}
use Rattle.sdcv_gen.specs.Texts.{numbered, output_text}
use Rattle.sdcv_gen.proofs.designs.push_outputs.Given as goal

abbrev pub invariant-loop-k : goal.invariant-loop-k
invariant-loop-k l = l.out.items ≡ l.initial.out.items ++ numbered (λ number block. output_text number) 0 (take l.k l.blocks)
