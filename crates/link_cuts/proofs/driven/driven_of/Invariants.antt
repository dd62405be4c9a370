use Rattle.std.proofs.Common.{◌≡◌, false, take, All}
use Rattle.link_defs.specs.declared.cuts.CutPin.{CutPin}
use Rattle.link_cuts.specs.Outs.{is_driven}
use Rattle.link_cuts.proofs.driven.driven_of.Given as goal

abbrev pub invariant-loop-pin : goal.invariant-loop-pin
invariant-loop-pin l = All (λ (p : CutPin). is_driven l.driven p ≡ false) (take l.pin l.pins)
