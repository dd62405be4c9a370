use Rattle.std.proofs.Common.{◌≡◌, take}
use Rattle.link_defs.specs.Parts.{comb_gates}
use Rattle.link_items.proofs.cells.comb_gates.Given as goal

abbrev pub invariant-loop-k : goal.invariant-loop-k
invariant-loop-k l = l.gates ≡ comb_gates l.nets l.conns l.ins l.own (take l.k l.outs)
