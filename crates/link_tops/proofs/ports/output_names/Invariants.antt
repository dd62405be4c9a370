use Rattle.std.proofs.Common.{◌≡◌, take, not}
use Rattle.std.specs.Prelude.{flat_map}
use Rattle.netlist_types.specs.declared.sources.Port.{Port}
use Rattle.link_defs.specs.Circuits.{is_input}
use Rattle.link_tops.specs.Ports.{bit_names_if}
use Rattle.link_tops.proofs.ports.output_names.Given as goal

abbrev pub invariant-loop-k : goal.invariant-loop-k
invariant-loop-k l = l.list ≡ flat_map (λ (p : Port). bit_names_if (not (is_input p.dir)) l.body p) (take l.k l.body.ports)
