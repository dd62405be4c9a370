use Rattle.std.proofs.Common.{List, All, length, ap, sym, ◌∙◌, subst}
use Rattle.net_model.specs.declared.netlist.Gate.{Gate}
use Rattle.link_defs.specs.Circuits.{part_gates}
use Rattle.link_design.specs.Walks.{IsReachable}
use Rattle.link_design.proofs.Walking.{part_reachable}
use Rattle.link_design.proofs.walks.Walk.hand_on.Goals as goal

pub reach_gates-requires-clause-gates : goal.reach_gates-requires-clause-gates
reach_gates-requires-clause-gates c =
    subst (λ (gs : List Gate). All (IsReachable (length c.args.self.now.tree)) gs) (ap part_gates c.in-Comb.is ∙ sym c.as_slice.ensures)
    (part_reachable (length c.args.self.now.tree) c.args.part.now c.requires.part)
