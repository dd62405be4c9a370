use Rattle.std.proofs.Common.{◌≡◌, false, take, All}
use Rattle.link_defs.specs.declared.cuts.CutCell.{CutCell}
use Rattle.link_defs.specs.declared.cuts.CutPin.{CutPin}
use Rattle.link_cuts.specs.Outs.{is_driven}
use Rattle.link_cuts.proofs.driven.driven_place.Given as goal

abbrev pub invariant-loop-cell : goal.invariant-loop-cell
invariant-loop-cell l = All (λ (x : CutCell). All (λ (p : CutPin). is_driven l.driven p ≡ false) x.pins) (take l.cell l.cells)
