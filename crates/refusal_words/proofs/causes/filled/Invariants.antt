use Rattle.std.proofs.Common.{◌≡◌, take, string_bytes}
use Rattle.std.specs.Prelude.{flat_map}
use Rattle.refusal_words.specs.Causes.{filling}
use Rattle.refusal_words.proofs.causes.filled.Given as goal

abbrev pub invariant-loop-byte : goal.invariant-loop-byte
invariant-loop-byte l = string_bytes l.out ≡ flat_map (filling l.said l.cells) (take l.byte-index l.cause)
