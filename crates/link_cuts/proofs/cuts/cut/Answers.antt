use Rattle.std.proofs.Common.{List, ℕ, ap, ◌∙◌}
use Rattle.link_design.specs.Trees.{tree_of}
use Rattle.link_cuts.specs.Cutting.{nets_at, with_nets}
use Rattle.link_cuts.proofs.Cutted.{cut_is, lawful_with}
use Rattle.link_cuts.proofs.Placed.{nets_below}
use Rattle.link_cuts.proofs.cuts.cut.Goals as goal

pub returns-clause-circuit : goal.returns-clause-circuit
returns-clause-circuit c =
    cut_is c.args.circuit c.in_ok-circuit.circuit c.args.cells.now (tree_of c.in_ok-pins.pins.rows.tree) c.in_ok-pins.pins.free c.in_ok-pins.pins.sinks
    c.in_ok-pins.ensures.free c.in_ok-pins.ensures.sinks
    (c.in_ok-circuit.ensures ∙ ap (λ (ns : List ℕ). with_nets c.args.circuit ns c.in_ok-sinks.sinks) c.in_ok-free.ensures
    ∙ ap (λ (ns : List ℕ). with_nets c.args.circuit (nets_at c.args.cells.now c.in_ok-pins.pins.free) ns) c.in_ok-sinks.ensures)

pub returns-clause-lawful : goal.returns-clause-lawful
returns-clause-lawful c =
    lawful_with c.args.circuit c.in_ok-circuit.circuit c.in_ok-free.free c.in_ok-sinks.sinks c.requires.lawful
    (rw c.in_ok-free.ensures (nets_below c.args.circuit.nets c.args.cells.now c.in_ok-pins.pins.free c.requires.nets c.in_ok-pins.ensures.free_at))
    (rw c.in_ok-sinks.ensures (nets_below c.args.circuit.nets c.args.cells.now c.in_ok-pins.pins.sinks c.requires.nets c.in_ok-pins.ensures.sinks_at))
    c.in_ok-circuit.ensures
