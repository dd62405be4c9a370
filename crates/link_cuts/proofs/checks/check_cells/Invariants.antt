use Rattle.std.proofs.Common.{◌≡◌, take, All}
use Rattle.std.specs.Prelude.{None}
use Rattle.link_defs.specs.declared.cuts.CutCell.{CutCell}
use Rattle.link_cuts.proofs.checks.check_cells.Given as goal

abbrev pub invariant-loop-cell : goal.invariant-loop-cell
invariant-loop-cell l = All (λ (x : CutCell). x.fault ≡ None) (take l.cell-index l.cells)
