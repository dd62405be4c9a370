use Rattle.std.proofs.Common.{List, [], ◌∷◌, ◌++◌, ap, sym, ◌∙◌, arith}
use Rattle.std.specs.Prelude.{filter, flat_map, if◌then◌else◌}
use Rattle.std.proofs.lemmas.List.{take_all}
use Rattle.texts.specs.Names.{is_among}
use Rattle.netlist_types.specs.declared.sources.Module.{Module}
use Rattle.cut_source.specs.Cuttable.{plan}
use Rattle.cut_source.specs.Items.{items_cut}
use Rattle.cut_source.proofs.Leaving.{flat_filter_next}
use Rattle.cut_source.proofs.modules.items_cut.Goals as goal

pub loop-k-preserved : goal.loop-k-preserved
loop-k-preserved c =
    let p = plan c.args.netlist.now.source.now c.args.netlist.now.library.now c.args.free.now in
    let named = λ (m : Module). is_among m.name c.args.names.now in
    let m = c.item.result.now in
    c.in_ok-push_cuts.ensures ∙ ap (λ ms. ms ++ flat_map (items_cut p) (if named m then (m ∷ []) else [])) c.loop-k.invariant
    ∙ sym (flat_filter_next (items_cut p) named c.args.netlist.now.source.now.modules c.loop-k.k m c.item.ensures)

pub returns : goal.returns
returns c =
    let p = plan c.args.netlist.now.source.now c.args.netlist.now.library.now c.args.free.now in
    c.loop-k.invariant ∙ ap (λ (ms : List Module). flat_map (items_cut p) (filter (λ (m : Module). is_among m.name c.args.names.now) ms))
    (take_all c.loop-k.k c.args.netlist.now.source.now.modules (omega arith))
