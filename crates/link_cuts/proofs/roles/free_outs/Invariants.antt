use Rattle.std.proofs.Common.{◌≡◌, take, map}
use Rattle.std.specs.Prelude.{filter}
use Rattle.link_defs.specs.declared.cuts.CutPin.{CutPin}
use Rattle.link_cuts.specs.Roles.{drives_by, number_in}
use Rattle.link_cuts.proofs.roles.free_outs.Given as goal

abbrev pub invariant-loop-k : goal.invariant-loop-k
invariant-loop-k l = l.outs ≡ map (λ (p : CutPin). number_in l.n p.net) (filter (drives_by l.n.pins.now.rows) (take l.k l.cell.pins))
