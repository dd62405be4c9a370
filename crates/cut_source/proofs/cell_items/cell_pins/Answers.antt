use Rattle.std.proofs.Common.{List, ◌++◌, ap, sym, ◌∙◌, arith}
use Rattle.std.specs.Prelude.{flat_map}
use Rattle.std.specs.Option.{option_copied}
use Rattle.std.proofs.lemmas.List.{take_all}
use Rattle.netlist_types.specs.declared.sources.Conn.{Conn}
use Rattle.link_items.proofs.Listing.{flat_next}
use Rattle.cut_source.specs.Pins.{conn_pins}
use Rattle.cut_source.proofs.cell_items.cell_pins.Goals as goal

pub loop-k-preserved : goal.loop-k-preserved
loop-k-preserved c =
    let pins = conn_pins (option_copied c.args.cell) in
    c.in_ok-push_conn.ensures ∙ ap (λ ps. ps ++ pins c.item.result.now) c.loop-k.invariant
    ∙ sym (flat_next pins c.args.conns.now c.loop-k.k c.item.result.now c.item.ensures)

pub returns : goal.returns
returns c =
    c.loop-k.invariant ∙ ap (λ (cs : List Conn). flat_map (conn_pins (option_copied c.args.cell)) cs)
    (take_all c.loop-k.k c.args.conns.now (omega arith))
