use Rattle.std.proofs.Common.{◌≡◌, ◌∙◌, ap, sym, List, cond, map, Some, slice_get}
use Rattle.net_model.specs.declared.netlist.Design.{Design}
use Rattle.std.specs.Option.{option_map}
use Rattle.std.proofs.lemmas.Option.{slice_get-map}
use Rattle.query_model.specs.Reads.{read_base}
use Rattle.query_model.specs.declared.keys.Key.{Key}
use Rattle.query_model.specs.declared.keys.KeyLit.{KeyLit}
use Rattle.frame_unroll.specs.Found.{with_key}
use Rattle.frame_unroll.proofs.Marks.{with_marked}
use Rattle.frame_unroll.proofs.found_keys.add_pins.Goals as goal

pub loop-i-preserved : goal.loop-i-preserved
loop-i-preserved c =
    let read = read_base c.args.tables.now.design c.args.cycle in
    let ins = c.args.ins.now in
    let lits : List KeyLit = map read ins in
    let is : c.base_lit-lit.result ≡ read c.at.result =
    c.base_lit-lit.ensures ∙ ap (λ (d : Design). read_base d c.args.cycle c.at.result) c.design-design.ensures in
    let at : slice_get lits c.loop-i.i ≡ Some c.base_lit-lit.result =
    slice_get-map read ins c.loop-i.i ∙ ap (option_map read) c.at.ensures ∙ sym (ap (λ (l : KeyLit). Some l) is) in
    c.in_ok-add_where.ensures
    ∙ (ap (λ (keys : List Key). cond c.at-counts.result (with_key keys c.base_lit-lit.result.key) keys) c.loop-i.invariant
    ∙ sym (with_marked c.args.found.now c.args.places.now lits c.loop-i.i c.at-counts.result c.base_lit-lit.result c.at-counts.ensures at))
