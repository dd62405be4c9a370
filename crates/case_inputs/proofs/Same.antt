-- A design without assumptions is itself.
use Rattle.std.proofs.Common.{◌≡◌, ℕ, ◌+◌, List, [], ◌++◌, refl, ap, ◌∙◌, arith, append-nil}
use Rattle.net_model.specs.declared.netlist.Design.{Design}
use Rattle.net_model.specs.declared.netlist.Fixed.{Fixed}
use Rattle.net_model.specs.declared.netlist.Gate.{Gate}
use Rattle.net_model.specs.declared.netlist.Reg.{Reg}
use Rattle.net_model.specs.declared.claims.PinRef.{PinRef}
use Rattle.case_inputs.specs.declared.loads.Owner.TheVariants as owner
use Rattle.case_inputs.specs.Assumed.{owner_pin, read_nets, assumed_gate, assumed_reg, assumed_design}
use Rattle.case_inputs.proofs.Parts.{by_number_same}

-- without assumptions pins read their own nets
own_nets : (n : ℕ) (pin : ℕ → PinRef) (nets : List ℕ) → read_nets n [] pin nets ≡ nets
own_nets n pin nets = by_number_same (λ (place net : ℕ). net) 0 nets (λ i x. refl)

abbrev with_ins : Gate → List ℕ → Gate
with_ins g ins = record { func = g.func; ins = ins; out = g.out }

abbrev with_reg_ins : Reg → List ℕ → Reg
with_reg_ins reg ins = record {
  next = reg.next;
  clear = reg.clear;
  preset = reg.preset;
  both = reg.both;
  ins = ins;
  outs = reg.outs;
}

own_gate : (n k : ℕ) (g : Gate) → assumed_gate n [] k g ≡ g
own_gate n k g = ap (λ (ins : List ℕ). with_ins g ins) (own_nets n (owner_pin (owner.Gate k)) g.ins)

own_reg : (n r : ℕ) (reg : Reg) → assumed_reg n [] r reg ≡ reg
own_reg n r reg = ap (λ (ins : List ℕ). with_reg_ins reg ins) (own_nets n (owner_pin (owner.Reg r)) reg.ins)

parts_same : (d : Design) (nets : ℕ) (gates : List Gate) (regs : List Reg) (inputs outputs : List ℕ) (fixed : List Fixed) → nets ≡ d.nets → gates ≡ d.gates
    → regs ≡ d.regs → inputs ≡ d.inputs → outputs ≡ d.outputs → fixed ≡ d.fixed
    → ◌≡◌ {A = Design} (record {
      nets = nets;
      gates = gates;
      regs = regs;
      inputs = inputs;
      outputs = outputs;
      fixed = fixed;
      resets = d.resets;
      reset_len = d.reset_len;
    }) d
parts_same d nets gates regs inputs outputs fixed a b c e f g = rw (a, b, c, e, f, g) refl

pub nothing_assumed : (d : Design) → assumed_design d [] [] ≡ d
unfolding assumed_design
nothing_assumed d =
    parts_same d (d.nets + 0) _ _ _ _ _ (omega arith)
    (by_number_same (assumed_gate d.nets []) 0 d.gates (own_gate d.nets))
    (by_number_same (assumed_reg d.nets []) 0 d.regs (own_reg d.nets))
    (append-nil d.inputs)
    (own_nets d.nets (owner_pin owner.Ports) d.outputs)
    (append-nil (d.fixed ++ []) ∙ append-nil d.fixed)
