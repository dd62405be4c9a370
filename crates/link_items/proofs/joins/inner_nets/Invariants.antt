use Rattle.std.proofs.Common.{◌≡◌, ℕ, List, length, take}
use Rattle.std.specs.Prelude.{fold}
use Rattle.netlist_types.specs.declared.sources.Port.{Port}
use Rattle.link_defs.specs.Hierarchy.{wires_of}
use Rattle.link_defs.specs.Flatten.{numbers, join_bits}
use Rattle.link_items.proofs.joins.inner_nets.Given as goal

abbrev pub invariant-loop-k : goal.invariant-loop-k
invariant-loop-k l = record {
  len : length l.nets ≡ length l.body.nets;
  told : l.nets ≡ fold (λ (nets : List ℕ) (p : Port). join_bits l.outer nets p.bits (wires_of l.conns p.name)) (numbers l.first (length l.body.nets))
      (take l.k l.body.ports);
}
