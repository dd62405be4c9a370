use Rattle.std.proofs.Common.{List, ◌++◌, [], ◌∷◌, ap, sym, ◌∙◌, arith}
use Rattle.std.specs.Prelude.{filter, if◌then◌else◌}
use Rattle.std.proofs.lemmas.List.{take_all}
use Rattle.netlist_types.specs.declared.sources.Item.{Item}
use Rattle.cut_source.specs.Cuttable.{plan, is_left}
use Rattle.cut_source.proofs.Leaving.{filter_next}
use Rattle.cut_source.proofs.modules.items_left.Goals as goal

pub loop-k-preserved : goal.loop-k-preserved
loop-k-preserved c =
    let p = plan c.args.netlist.now.source.now c.args.netlist.now.library.now c.args.free.now in
    c.in_ok-push_left.ensures
    ∙ ap (λ is. is ++ (if is_left p c.item.result.now then (c.item.result.now ∷ []) else [])) c.loop-k.invariant
    ∙ sym (filter_next (is_left p) c.args.items.now c.loop-k.k c.item.result.now c.item.ensures)

pub returns : goal.returns
returns c =
    let p = plan c.args.netlist.now.source.now c.args.netlist.now.library.now c.args.free.now in
    c.loop-k.invariant ∙ ap (λ (is : List Item). filter (is_left p) is) (take_all c.loop-k.k c.args.items.now (omega arith))
