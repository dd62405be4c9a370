use Rattle.std.proofs.Common.{ℕ, List, ap, sym, ◌∙◌, arith}
use Rattle.std.specs.Prelude.{flat_map}
use Rattle.std.proofs.lemmas.List.{take_all}
use Rattle.texts.specs.Names.{with_names}
use Rattle.netlist_types.specs.declared.sources.Item.{Item}
use Rattle.link_tops.proofs.Topping.{names_more}
use Rattle.cut_source.specs.Below.{inner_names}
use Rattle.cut_source.specs.Cuttable.{plan}
use Rattle.cut_source.proofs.below.add_all_inner.Goals as goal

pub loop-k-preserved : goal.loop-k-preserved
loop-k-preserved c =
    let p = plan c.args.netlist.now.source.now c.args.netlist.now.library.now c.args.free.now in
    c.in_ok-add_inner.ensures ∙ ap (λ (ns : List (List ℕ)). with_names ns (inner_names p c.item.result.now)) c.loop-k.invariant
    ∙ sym (names_more (inner_names p) c.args.names.now c.args.body.now.items c.loop-k.k c.item.result.now c.item.ensures)

pub returns : goal.returns
returns c =
    let p = plan c.args.netlist.now.source.now c.args.netlist.now.library.now c.args.free.now in
    c.loop-k.invariant ∙ ap (λ (is : List Item). with_names c.args.names.now (flat_map (inner_names p) is))
    (take_all c.loop-k.k c.args.body.now.items (omega arith))
