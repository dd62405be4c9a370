use Rattle.std.proofs.Common.{List, take}
use Rattle.linked_types.specs.declared.names.CellName.{CellName}
use Rattle.assist_text.specs.Registers.{IsTable}
use Rattle.assist_text.specs.Named.{AreLits}
use Rattle.assist_text.proofs.names.literals.Given as goal

abbrev pub invariant-loop-setting : goal.invariant-loop-setting
invariant-loop-setting l = (cells : List CellName) → IsTable cells l.table → AreLits cells (take l.setting-index l.clause.lits) l.lits.items
