use Rattle.std.proofs.Common.{◌≤◌, ℕ, List, length, ap, sym, subst, ◌∙◌, arith}
use Rattle.std.specs.Prelude.{fold}
use Rattle.std.proofs.lemmas.List.{take_all}
use Rattle.net_model.specs.Netlist.{AllBelow}
use Rattle.netlist_types.specs.declared.sources.Port.{Port}
use Rattle.link_defs.specs.Hierarchy.{wires_of}
use Rattle.link_defs.specs.Flatten.{numbers, join_bits, inner_nets}
use Rattle.link_items.proofs.Along.{length_numbers}
use Rattle.link_items.proofs.Listing.{all_at, fold_next}
use Rattle.link_items.proofs.joins.inner_nets.Goals as goal

pub loop-k-init : goal.loop-k-init
loop-k-init c =
    let made = c.in_ok-nets.ensures ∙ ap (λ n. numbers c.args.first n) c.len.ensures in
    record { len = ap length made ∙ length_numbers c.args.first (length c.args.body.now.nets); told = made }

pub join_port-requires-clause-bits : goal.join_port-requires-clause-bits
join_port-requires-clause-bits c =
    subst (λ (n : ℕ). AllBelow n c.item.result.now.bits) (sym c.loop-k.invariant.len)
    (all_at (λ (p : Port). AllBelow (length c.args.body.now.nets) p.bits) c.args.body.now.ports c.requires.bits c.loop-k.k c.item.result.now c.item.ensures)

pub join_port-requires-clause-width : goal.join_port-requires-clause-width
join_port-requires-clause-width c =
    all_at (λ (p : Port). length (wires_of c.args.conns.now p.name) ≤ length p.bits) c.args.body.now.ports c.requires.widths c.loop-k.k c.item.result.now
    c.item.ensures

pub loop-k-preserved : goal.loop-k-preserved
loop-k-preserved c = record {
  len = c.join_port.ensures.len ∙ c.loop-k.invariant.len;
  told = c.join_port.ensures.joined
      ∙ ap (λ (ns : List ℕ). join_bits c.args.outer.now ns c.item.result.now.bits (wires_of c.args.conns.now c.item.result.now.name)) c.loop-k.invariant.told
      ∙ sym (fold_next (λ (nets : List ℕ) (p : Port). join_bits c.args.outer.now nets p.bits (wires_of c.args.conns.now p.name))
      (numbers c.args.first (length c.args.body.now.nets)) c.args.body.now.ports c.loop-k.k c.item.result.now c.item.ensures);
}

pub returns : goal.returns
unfolding inner_nets
returns c =
    c.loop-k.invariant.told
    ∙ ap (λ (ps : List Port). fold (λ (nets : List ℕ) (p : Port). join_bits c.args.outer.now nets p.bits (wires_of c.args.conns.now p.name)) (numbers
    c.args.first (length c.args.body.now.nets)) ps) (take_all c.loop-k.k c.args.body.now.ports (omega arith))
