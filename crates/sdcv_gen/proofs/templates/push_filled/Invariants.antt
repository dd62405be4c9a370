use Rattle.std.proofs.Common.{◌≡◌, ◌++◌, take}
use Rattle.std.specs.Prelude.{flat_map}
use Rattle.sdcv_gen.specs.Texts.{filled_byte}
use Rattle.sdcv_gen.proofs.templates.push_filled.Given as goal

abbrev pub invariant-loop-byte : goal.invariant-loop-byte
invariant-loop-byte l = l.out.items ≡ l.initial.out.items ++ flat_map (filled_byte l.suffix) (take l.byte-index l.byte-items)
