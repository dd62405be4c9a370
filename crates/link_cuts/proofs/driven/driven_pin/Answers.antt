use Rattle.std.proofs.Common.{List, ℕ, subst, sym, ◌∙◌}
use Rattle.net_model.specs.Netlist.{AllBelow}
use Rattle.link_design.proofs.Parted.{drivers_are, drivers_below}
use Rattle.link_cuts.specs.Cutting.{IsRowOf}
use Rattle.link_cuts.proofs.Checked.{pin_told}
use Rattle.link_cuts.proofs.driven.driven_pin.Goals as goal

pub row_of-requires : goal.row_of-requires
row_of-requires c =
    let k = c.args.circuit.now in
    subst (λ (ns : List ℕ). AllBelow k.nets ns) (drivers_are k ∙ sym c.in_ok-drivers.ensures) (drivers_below k c.requires.lawful)

pub returns : goal.returns
returns c =
    let k = c.args.circuit.now in
    pin_told k c.args.cells.now c.in_ok-driven.driven c.driven_place.result
    (subst (λ (ns : List ℕ). IsRowOf k.nets ns c.in_ok-driven.driven) c.in_ok-drivers.ensures c.in_ok-driven.ensures) c.driven_place.ensures
