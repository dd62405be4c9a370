-- Each behaviour of a linked netlist is shown by exactly one run.
use Rattle.std.proofs.Common.{◌≡◌, ℕ, ◌+◌, Bool, List, length, ap, sym, ◌∙◌, arith}
use Rattle.std.proofs.lemmas.List.{length-map}
use Rattle.net_model.specs.declared.netlist.Design.{Design}
use Rattle.net_model.specs.declared.netlist.Gate.{Gate}
use Rattle.net_model.specs.declared.netlist.Reg.{Reg}
use Rattle.cell_types.specs.declared.libraries.Library.{Library}
use Rattle.icg_rewrite.specs.Rewritten.{rewritten}
use Rattle.icg_rewrite.specs.declared.clock_gates.Gated.{Gated}
use Rattle.icg_rewrite.proofs.Lists.{length-gated_regs}
use Rattle.link_defs.specs.declared.circuits.Circuit.{Circuit}
use Rattle.link_defs.specs.declared.cuts.CutSource.{CutSource}
use Rattle.linked_types.specs.declared.names.Linked.{Linked}
use Rattle.linked_types.specs.declared.options.LinkOptions.{LinkOptions}
use Rattle.link_defs.specs.Circuits.{regs_of}
use Rattle.link_defs.specs.Designs.{drivers_by, moved_reg, number_by}
use Rattle.link_defs.specs.GateOrders.{ClockPart}
use Rattle.link_defs.specs.GatedDesigns.{flops_of, IsGatedOf}
use Rattle.link_defs.specs.Links.{IsLinked}
use Rattle.netlist_runs.specs.Behaviours.{AreDriven, Behaves, IsShownByOneRun}
use Rattle.netlist_runs.proofs.Behaving.{IsDesigned, flops_count, one_run}
use Rattle.netlist_runs.proofs.Driven.{gated_driven}

-- the design of a circuit has its flops as registers
base_regs : (c : Circuit) (tree : List Bool) (order : List Gate) (gates : List ClockPart) (g : Gated) → IsGatedOf c tree order gates g
    → length g.design.regs ≡ length (flops_of c)
base_regs c tree order gates g is =
    ap (λ (rs : List Reg). length rs) is.design.regs ∙ length-map (regs_of c) (moved_reg (number_by (drivers_by c order))) ∙ flops_count c.parts

-- so has the rewritten one
rewritten_regs : (c : Circuit) (tree : List Bool) (order : List Gate) (gates : List ClockPart) (g : Gated) → IsGatedOf c tree order gates g
    → length (rewritten g).regs ≡ length (flops_of c)
unfolding rewritten
rewritten_regs c tree order gates g is =
    let base = base_regs c tree order gates g is in
    length-gated_regs g.design.nets g.design.regs g.of (is.each ∙ sym base) ∙ base

-- and the circuit's data inputs
rewritten_inputs : (c : Circuit) (tree : List Bool) (order : List Gate) (gates : List ClockPart) (g : Gated) → IsGatedOf c tree order gates g
    → length (rewritten g).inputs ≡ length c.inputs
unfolding rewritten
rewritten_inputs c tree order gates g is = ap (λ (ns : List ℕ). length ns) is.design.inputs ∙ length-map c.inputs (number_by (drivers_by c order))

-- what registers and clock gates read as data is driven, as the design without enables is sound
pub linked_driven : (s : CutSource) (lib : Library) (o : LinkOptions) (l : Linked) → (is : IsLinked s lib o l)
    → AreDriven is.circuit (drivers_by is.circuit is.order)
linked_driven s lib o l is = gated_driven is.circuit is.tree is.order is.gates is.gated is.clocked is.lawful is.gated_is

-- what is known of a linked design
designed : (s : CutSource) (lib : Library) (o : LinkOptions) (l : Linked) → (is : IsLinked s lib o l) → IsDesigned is.circuit is.tree is.order l.design
designed s lib o l is = record {
  sound = is.sound;
  regs = ap (λ (d : Design). length d.regs) is.design ∙ rewritten_regs is.circuit is.tree is.order is.gates is.gated is.gated_is;
  inputs = ap (λ (d : Design). length d.inputs) is.design ∙ rewritten_inputs is.circuit is.tree is.order is.gates is.gated is.gated_is;
  clocked = is.clocked;
  solutions = is.solutions;
  driven = linked_driven s lib o l is;
}

-- each of its behaviours is shown by exactly one run
pub linked_runs : (s : CutSource) (lib : Library) (o : LinkOptions) (l : Linked) → (is : IsLinked s lib o l) → (v : ℕ → ℕ → Bool) (bits : ℕ → List Bool)
    → Behaves is.circuit is.tree l.design v bits → (n : ℕ) → IsShownByOneRun l.design (drivers_by is.circuit is.order) v bits (n + 1)
linked_runs s lib o l is v bits b n =
    one_run is.circuit is.tree is.order l.design v bits (designed s lib o l is) b (n + 1) (omega arith)
