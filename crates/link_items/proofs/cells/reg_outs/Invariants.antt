use Rattle.std.proofs.Common.{◌≡◌, take}
use Rattle.link_defs.specs.Parts.{reg_outs}
use Rattle.link_items.proofs.cells.reg_outs.Given as goal

abbrev pub invariant-loop-k : goal.invariant-loop-k
invariant-loop-k l = l.list ≡ reg_outs l.nets l.conns l.own (take l.k l.outs)
