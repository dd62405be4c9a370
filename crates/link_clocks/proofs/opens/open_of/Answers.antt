use Rattle.std.proofs.Common.{List, All, sym, subst}
use Rattle.net_model.specs.Form.{IsOver}
use Rattle.net_model.specs.declared.netlist.Gate.{Gate}
use Rattle.link_design.specs.Lawful.{IsLawfulPart}
use Rattle.link_clocks.proofs.Marking.{gates_over}
use Rattle.link_clocks.proofs.opens.open_of.Goals as goal

pub open_gates-requires : goal.open_gates-requires
open_gates-requires c =
    let (nets, lawful) = c.requires in
    subst (λ (gs : List Gate). All (λ (g : Gate). IsOver 7 g.func) gs) (sym c.as_slice-in-Some.ensures)
    (gates_over nets c.in-Comb.buffer c.in-Comb.ins c.in-Comb.gates (subst (IsLawfulPart nets) c.in-Comb.is lawful))
