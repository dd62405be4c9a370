use Rattle.std.proofs.Common.{length, ap, arith}
use Rattle.link_items.proofs.Along.{length_wire_nets}
use Rattle.link_items.proofs.prims.push_prim.Goals as goal

pub prim_part-requires-clause-some : goal.prim_part-requires-clause-some
prim_part-requires-clause-some c =
    omega (arith, ap length c.in_ok-ins.ensures, length_wire_nets c.args.nets.now c.args.first c.args.terminals.now.ins.now, c.requires.some)
