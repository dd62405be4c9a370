use Rattle.std.proofs.Common.{◌∙◌, arith}
use Rattle.std.proofs.lemmas.List.{take_all}
use Rattle.link_items.proofs.Listing.{push_more, take_next}
use Rattle.cut_source.proofs.copies.copy_conns.Goals as goal

pub loop-k-preserved : goal.loop-k-preserved
loop-k-preserved c =
    push_more _ _ _ _ _ _ c.in_ok-push.ensures.ok c.loop-k.invariant c.in_ok-copy_conn.ensures
    (take_next c.args.conns.now c.loop-k.k c.item.result.now c.item.ensures)

pub returns : goal.returns
returns c = c.loop-k.invariant ∙ take_all c.loop-k.k c.args.conns.now (omega arith)
