use Rattle.std.proofs.Common.{ℕ, List, ◌++◌, map, ap, sym, ◌∙◌}
use Rattle.std.proofs.lemmas.List.{map-append}
use Rattle.linked_types.specs.declared.names.PinName.{PinName}
use Rattle.link_defs.specs.CellNames.{clock_role, out_pins}
use Rattle.net_link.proofs.pins.tree_pins.Goals as goal

pub returns : goal.returns
returns c =
    let ins = map clock_role c.args.cell.now.inputs in
    let first = c.in_ok-push_clocks.ensures ∙ ap (λ (ps : List PinName). ps ++ ins) c.new-list.ensures in
    c.in_ok-push_clocks-2.ensures ∙ ap (λ (ps : List PinName). ps ++ map clock_role c.in_ok-outs.outs) first
    ∙ ap (λ (ns : List (List ℕ)). ins ++ map clock_role ns) c.in_ok-outs.ensures
    ∙ sym (map-append clock_role c.args.cell.now.inputs (out_pins c.args.cell.now.kind))
