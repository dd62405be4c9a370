use Rattle.std.proofs.Common.{ℕ, ◌≤◌, ◌==◌, List, subst, sym, ◌∙◌}
use Rattle.std.specs.Prelude.{count_by}
use Rattle.net_model.specs.Netlist.{AllBelow}
use Rattle.link_design.proofs.Parted.{drivers_are, drivers_below}
use Rattle.link_design.proofs.rows.check_once.Goals as goal

pub driver_row-requires : goal.driver_row-requires
driver_row-requires c =
    subst (λ (ns : List ℕ). AllBelow c.args.circuit.now.nets ns) (drivers_are c.args.circuit.now ∙ sym c.in_ok-drivers.ensures)
    (drivers_below c.args.circuit.now c.requires)

pub returns-clause-ok : goal.returns-clause-ok
returns-clause-ok c = λ net.
    subst (λ (ns : List ℕ). count_by (λ m. m == net) ns ≤ 1) c.in_ok-drivers.ensures (c.in_ok-driver_row.ensures.once net)
