-- A design without clock gates is its own rewritten design.
use Rattle.std.proofs.Common.{◌≡◌, ℕ, List, [], ◌∷◌, ◌++◌, length, All, refl, ap, subst, sym, ◌∙◌, arith}
use Rattle.std.specs.Prelude.{Option, Some, None}
use Rattle.std.proofs.lemmas.List.{append-nil}
use Rattle.std.proofs.lemmas.List.Elements.{All-head, All-tail}
use Rattle.net_model.specs.declared.netlist.Reg.{Reg}
use Rattle.net_model.proofs.Members.{In-from_Contains}
use Rattle.graph_order.proofs.Marked.{contains_at}
use Rattle.icg_rewrite.specs.declared.clock_gates.ClockGate.{ClockGate}
use Rattle.icg_rewrite.specs.declared.clock_gates.Gated.{Gated}
use Rattle.icg_rewrite.specs.Faults.{HasRoom}
use Rattle.icg_rewrite.specs.Gated.{AreGated, IsBelowIfAny}
use Rattle.icg_rewrite.specs.Rewritten.{gated_reg, gated_regs, enable_gates, rewritten}
use Rattle.icg_rewrite.proofs.Lists.{rewritten_is}
use Rattle.link_design.proofs.Parted.{all_in}

-- a register behind none of no clock gates stays as it is
reg_alone : (nets : ℕ) (reg : Reg) (o : Option ℕ) → IsBelowIfAny 0 o → reg ≡ gated_reg nets reg o
reg_alone nets reg None below = refl
reg_alone nets reg (Some k) below = absurd (omega (arith, below))

-- so do all registers
regs_alone : (nets : ℕ) (regs : List Reg) (of : List (Option ℕ)) → length of ≡ length regs → All (IsBelowIfAny 0) of → regs ≡ gated_regs nets regs of
regs_alone nets [] of same below = refl
regs_alone nets (x ∷ xs) [] same below = absurd (omega (arith, same))
regs_alone nets (x ∷ xs) (o ∷ os) same below =
    ap (λ (r : Reg). r ∷ xs) (reg_alone nets x o (All-head (IsBelowIfAny 0) o os below))
    ∙ ap (λ (rs : List Reg). gated_reg nets x o ∷ rs) (regs_alone nets xs os (omega (arith, same)) (All-tail (IsBelowIfAny 0) o os below))

-- where there are no clock gates no register stands behind one
none_behind : (g : Gated) → AreGated g → g.gates ≡ [] → All (IsBelowIfAny 0) g.of
none_behind g are none = subst (λ (xs : List ClockGate). All (IsBelowIfAny (length xs)) g.of) none are.behind

-- such a design is its own rewritten design
pub alone_is : (g : Gated) → AreGated g → g.gates ≡ [] → g.design ≡ rewritten g
alone_is g are none =
    let d = g.design in
    rewritten_is g d.nets d.gates d.regs d.inputs d.outputs d.fixed d.resets (omega (arith, ap (λ (xs : List ClockGate). length xs) none))
    (sym (append-nil d.gates) ∙ ap (λ (xs : List ClockGate). d.gates ++ enable_gates d.nets 0 xs) (sym none))
    (regs_alone d.nets d.regs g.of are.each (none_behind g are none)) refl refl refl refl

-- and there is room for its enables, which are none
pub alone_fits : (g : Gated) → AreGated g → g.gates ≡ [] → HasRoom g
alone_fits g are none = record {
  pins = λ r full.
      let below : IsBelowIfAny 0 (Some full.gate) = all_in (IsBelowIfAny 0) g.of (none_behind g are none) (Some full.gate)
      (In-from_Contains g.of (Some full.gate) (contains_at g.of r (Some full.gate) full.behind)) in
      omega (arith, below);
  nets = omega (arith, are.sound.limits.nets, ap (λ (xs : List ClockGate). length xs) none);
}
