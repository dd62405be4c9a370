use Rattle.std.proofs.Common.{◌≡◌, ◌++◌, take}
use Rattle.sdcv_gen.specs.Texts.{numbered, exception_line}
use Rattle.sdcv_gen.proofs.constraints.push_exceptions.Given as goal

abbrev pub invariant-loop-k : goal.invariant-loop-k
invariant-loop-k l = l.out.items ≡ l.initial.out.items ++ numbered exception_line 0 (take l.k l.blocks)
