-- The design under assumptions.
use Rattle.std.specs.Prelude.{ℕ, suc, ◌+◌, ◌<◌, ◌≤◌, List, [], ◌∷◌, ◌++◌, length, count_by, ◌==◌}
use Rattle.net_model.specs.Netlist.{AllBelow, held_inputs, setting_inputs}
use Rattle.net_model.specs.declared.netlist.Design.{Design}
use Rattle.net_model.specs.declared.netlist.Gate.{Gate}
use Rattle.net_model.specs.declared.netlist.Reg.{Reg}
use Rattle.net_model.specs.declared.netlist.Fixed.{Fixed}
use Rattle.net_model.specs.declared.claims.PinRef.{PinRef}
use Rattle.net_model.specs.declared.claims.PinRef.TheVariants.{GateIn, RegIn, OutPort}
use Rattle.case_inputs.specs.declared.assumptions.Assumed.{Assumed}
use Rattle.case_inputs.specs.declared.loads.Owner.{Owner}
use Rattle.case_inputs.specs.declared.loads.Owner.TheVariants as owner
use Rattle.case_inputs.specs.Ties.{read_net, pin_sets}

-- what is made of each item and its number, where the first has number k
abbrev pub by_number : {X Y : Type 0} → (ℕ → X → Y) → ℕ → List X → List Y
by_number f k [] = []
by_number f k (x ∷ xs) = f k x ∷ by_number f (suc k) xs

-- the load pin of this place
abbrev pub owner_pin : Owner → ℕ → PinRef
owner_pin (owner.Gate k) place = GateIn k place
owner_pin (owner.Reg r) place = RegIn r place
owner_pin owner.Ports place = OutPort place

-- the nets that pins read under the assumptions, place by place, where `nets` are their own
abbrev pub read_nets : ℕ → List (List PinRef) → (ℕ → PinRef) → List ℕ → List ℕ
read_nets n sets pin nets = by_number (λ (place net : ℕ). read_net n sets (pin place) net) 0 nets

-- a gate reads other nets, and is else the same
abbrev pub assumed_gate : ℕ → List (List PinRef) → ℕ → Gate → Gate
assumed_gate n sets k g = record { func = g.func; ins = read_nets n sets (owner_pin (owner.Gate k)) g.ins; out = g.out }

abbrev pub assumed_gates : ℕ → List (List PinRef) → List Gate → List Gate
assumed_gates n sets gates = by_number (assumed_gate n sets) 0 gates

-- so is a register
abbrev pub assumed_reg : ℕ → List (List PinRef) → ℕ → Reg → Reg
assumed_reg n sets r reg =
    record {
      next = reg.next;
      clear = reg.clear;
      preset = reg.preset;
      both = reg.both;
      ins = read_nets n sets (owner_pin (owner.Reg r)) reg.ins;
      outs = reg.outs;
    }

abbrev pub assumed_regs : ℕ → List (List PinRef) → List Reg → List Reg
assumed_regs n sets regs = by_number (assumed_reg n sets) 0 regs

-- a net for each assumption, from n on
abbrev pub new_nets : ℕ → List Assumed → List ℕ
new_nets n assumed = by_number (λ (net : ℕ) (a : Assumed). net) n assumed

-- the assumed value of an input
abbrev pub value_at : ℕ → Assumed → Fixed
value_at input a = record { input = input; value = a.value }

-- an input for each assumption, from number i on, with the assumed value
abbrev pub new_fixed : ℕ → List Assumed → List Fixed
new_fixed i assumed = by_number value_at i assumed

-- the design with a net and an input more for each assumption, last, which is fixed to the value; its load pins read the net. What drives
-- their own net stays
unfoldable pub assumed_design : Design → List Fixed → List Assumed → Design
assumed_design d fixed assumed =
    record {
      nets = d.nets + length assumed;
      gates = assumed_gates d.nets (pin_sets assumed) d.gates;
      regs = assumed_regs d.nets (pin_sets assumed) d.regs;
      inputs = d.inputs ++ new_nets d.nets assumed;
      outputs = read_nets d.nets (pin_sets assumed) (owner_pin owner.Ports) d.outputs;
      fixed = (d.fixed ++ fixed) ++ new_fixed (length d.inputs) assumed;
      resets = d.resets;
      reset_len = d.reset_len;
    }

-- these inputs are some of the design's, none of them twice, fixed or reset already
pub record CanFix (d : Design) (fixed : List Fixed) : Type 0 where
  pub in_range : AllBelow (length d.inputs) (setting_inputs fixed)
  pub once : (i : ℕ) → i < length d.inputs → count_by (λ m. m == i) (held_inputs d ++ setting_inputs fixed) ≤ 1
