use Rattle.std.proofs.Common.{List, [], ◌∷◌, ◌++◌, map, ap, sym, ◌∙◌, arith}
use Rattle.std.specs.Prelude.{filter, if◌then◌else◌}
use Rattle.std.proofs.lemmas.List.{take_all}
use Rattle.texts.specs.Names.{is_among}
use Rattle.netlist_types.specs.declared.sources.Module.{Module}
use Rattle.cut_source.specs.Cuttable.{plan, module_left}
use Rattle.cut_source.proofs.Leaving.{map_filter_next}
use Rattle.cut_source.proofs.modules.modules_left.Goals as goal

pub loop-k-preserved : goal.loop-k-preserved
loop-k-preserved c =
    let p = plan c.args.netlist.now.source.now c.args.netlist.now.library.now c.args.free.now in
    let named = λ (m : Module). is_among m.name c.args.names.now in
    let m = c.item.result.now in
    c.in_ok-push_module.ensures ∙ ap (λ ms. ms ++ map (module_left p) (if named m then (m ∷ []) else [])) c.loop-k.invariant
    ∙ sym (map_filter_next (module_left p) named c.args.netlist.now.source.now.modules c.loop-k.k m c.item.ensures)

pub returns : goal.returns
returns c =
    let p = plan c.args.netlist.now.source.now c.args.netlist.now.library.now c.args.free.now in
    c.loop-k.invariant ∙ ap (λ (ms : List Module). map (module_left p) (filter (λ (m : Module). is_among m.name c.args.names.now) ms))
    (take_all c.loop-k.k c.args.netlist.now.source.now.modules (omega arith))
