use Rattle.std.proofs.Common.{arith, ◌<◌, ◌+◌, Bool, List, length, take, sym, subst}
use Rattle.net_model.proofs.Settling.{All-at}
use Rattle.inv_candidates.specs.Leading.{AreAdded}
use Rattle.inv_candidates.proofs.Marking.{added_none, added_more, added_all}
use Rattle.inv_candidates.proofs.sweeps.mark_all.Goals as goal

pub loop-k-init : goal.loop-k-init
loop-k-init c = added_none c.args.marks.now

pub loop-k-preserved : goal.loop-k-preserved
loop-k-preserved c =
    let low : c.at.result < length c.args.marks.now =
    All-at (λ n. n < length c.args.marks.now) c.args.nets.now c.loop-k.k c.at.result c.at.ensures c.requires in
    subst (λ (now : List Bool). AreAdded (take (c.loop-k.k + 1) c.args.nets.now) c.args.marks.now now) (sym c.put.ensures)
    (added_more c.args.nets.now c.loop-k.k c.at.result c.args.marks.now c.loop-k.marks c.at.ensures (omega (arith, low, c.loop-k.invariant.len))
    c.loop-k.invariant)

pub returns : goal.returns
returns c = added_all c.args.nets.now c.loop-k.k c.args.marks.now c.loop-k.marks (omega arith) c.loop-k.invariant
