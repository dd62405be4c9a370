use Rattle.std.proofs.Common.{List, ℕ, ap, sym, ◌∙◌, ◌++◌, [], ◌∷◌, false, arith}
use Rattle.linked_types.specs.declared.names.CutName.{CutName}
use Rattle.link_items.proofs.Listing.{push_more}
use Rattle.link_cuts.proofs.Counted.{named_next}
use Rattle.link_cuts.proofs.references.counted.Goals as goal

pub loop-k-preserved : goal.loop-k-preserved
loop-k-preserved c = λ count are.
    let build = λ (n : List ℕ). let q : CutName = record { cell = n; count = c.at.result; «open» = false } in q in
    push_more _ _ _ _ _ _ c.in_ok-push.ensures.ok (c.loop-k.invariant count are) (ap build c.in_ok-cell.ensures)
    (named_next count c.args.names.now c.args.counts.now c.loop-k.k c.index-names-k.result c.at.result (omega arith) c.index-names-k.is c.at.ensures are)
