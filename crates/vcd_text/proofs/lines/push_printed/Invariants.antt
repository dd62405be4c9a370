use Rattle.std.proofs.Common.{◌≡◌, ◌++◌, map, take}
use Rattle.vcd_text.specs.Lines as lines
use Rattle.vcd_text.proofs.lines.push_printed.Given as goal

abbrev pub invariant-loop-byte : goal.invariant-loop-byte
invariant-loop-byte l = l.text.items ≡ l.fn.text.items ++ map lines.printed (take l.byte-index l.bytes)
