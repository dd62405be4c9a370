use Rattle.std.proofs.Common.{◌≡◌, ◌++◌, take}
use Rattle.cell_lib.proofs.pins.push_names.Given as goal

abbrev pub invariant-loop-name : goal.invariant-loop-name
invariant-loop-name l = l.found ≡ l.fn.found ++ take l.name-index l.names
