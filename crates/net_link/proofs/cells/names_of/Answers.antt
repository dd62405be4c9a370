use Rattle.std.proofs.Common.{◌<◌, length, refl, arith}
use Rattle.link_items.specs.declared.made.LeafPlace.{LeafPlace}
use Rattle.link_items.proofs.Listing.{all_at}
use Rattle.net_link.specs.Numbers.{number_in}
use Rattle.net_link.proofs.Counting.{one_or_none}
use Rattle.net_link.proofs.Listed.{names_next, names_all}
use Rattle.net_link.proofs.cells.names_of.Goals as goal

pub loop-k-init : goal.loop-k-init
loop-k-init c = record { few = omega arith; left = rw c.new-list.ensures refl }

pub item-part-requires : goal.item-part-requires
item-part-requires c =
    all_at (λ (x : LeafPlace). x.part < length c.args.parts.now) c.args.leaves.now c.requires c.loop-k.k c.item-leaf.result.now c.item-leaf.ensures

pub loop-k-preserved : goal.loop-k-preserved
loop-k-preserved c =
    let n = c.args.n.now in
    record {
      few = omega (arith, c.loop-k.invariant.few, c.next_reg-reg.ensures, one_or_none c.item-part.result.now);
      left = names_next (number_in n.numbers.now n.nets) n.sources n.tree.now c.loop-k.reg c.next_reg-reg.result c.args.library.now c.args.parts.now
          c.args.leaves.now c.loop-k.k c.item-leaf.result.now c.item-part.result.now _ c.loop-k.list _ c.in_ok-cell.cell c.item-leaf.ensures
          c.item-part.ensures c.loop-k.invariant.left c.in_ok-cell.ensures c.in_ok-push.ensures.ok c.next_reg-reg.ensures;
    }

pub returns : goal.returns
returns c =
    let n = c.args.n.now in
    names_all (number_in n.numbers.now n.nets) n.sources n.tree.now c.loop-k.reg c.args.library.now c.args.parts.now c.args.leaves.now c.loop-k.k _
    c.loop-k.list (omega arith) c.loop-k.invariant.left
