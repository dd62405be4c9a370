use Rattle.std.proofs.Common.{List, ◌++◌, ap, ◌∙◌, arith}
use Rattle.std.specs.Prelude.{flat_map}
use Rattle.std.proofs.lemmas.List.{take_all}
use Rattle.netlist_types.specs.declared.sources.Item.{Item}
use Rattle.link_items.proofs.Listing.{step_more, flat_next}
use Rattle.cut_source.specs.Cuttable.{plan}
use Rattle.cut_source.specs.Items.{item_cut}
use Rattle.cut_source.proofs.modules.push_items_cut.Goals as goal

pub loop-k-preserved : goal.loop-k-preserved
loop-k-preserved c =
    let p = plan c.args.netlist.now.source.now c.args.netlist.now.library.now c.args.free.now in
    step_more c.args.list.now _ _ _ _ _ c.in_ok-push_cut.ensures c.loop-k.invariant
    (flat_next (item_cut p c.args.body.now) c.args.body.now.items c.loop-k.k c.item.result.now c.item.ensures)

pub returns : goal.returns
returns c =
    let p = plan c.args.netlist.now.source.now c.args.netlist.now.library.now c.args.free.now in
    c.loop-k.invariant ∙ ap (λ (is : List Item). c.args.list.now ++ flat_map (item_cut p c.args.body.now) is)
    (take_all c.loop-k.k c.args.body.now.items (omega arith))
