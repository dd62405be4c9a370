use Rattle.std.proofs.Common.{take}
use Rattle.assist_text.specs.Registers.{IsTable}
use Rattle.assist_text.proofs.registers.RegTable.new.Given as goal

abbrev pub invariant-loop-cell : goal.invariant-loop-cell
invariant-loop-cell l = IsTable (take l.cell-index l.cells) l.table
