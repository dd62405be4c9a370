-- The designs of which the worked calls speak.
use Rattle.std.specs.Prelude.{ℕ, false, List, [], ◌∷◌, Some, None}
use Rattle.net_model.specs.Form.{Form, PinForm, NotForm, AndForm, OrForm}
use Rattle.net_model.specs.declared.netlist.Design.{Design}
use Rattle.net_model.specs.declared.netlist.Gate.{Gate}
use Rattle.net_model.specs.declared.netlist.Reg.{Reg}
use Rattle.net_model.specs.declared.claims.PinRef.{PinRef}
use Rattle.net_model.specs.declared.claims.PinRef.TheVariants.{Net, GateIn}
use Rattle.icg_rewrite.specs.declared.clock_gates.Gated.{Gated}

-- a register that takes what these pins give, and drives this net
abbrev pub flop : Form → List ℕ → ℕ → Reg
flop next ins out = record { next = next; clear = None; preset = None; both = false; ins = ins; outs = (record { net = out; inverted = false }) ∷ [] }

-- a gate that drives this net with what another has
abbrev pub buffer : ℕ → ℕ → Gate
buffer from out = record { func = PinForm 0; ins = from ∷ []; out = out }

-- inputs, gates and registers, without fixed inputs and resets
abbrev pub plain : ℕ → List ℕ → List ℕ → List Gate → List Reg → Design
plain nets inputs outputs gates regs =
    record { nets = nets; gates = gates; regs = regs; inputs = inputs; outputs = outputs; fixed = []; resets = []; reset_len = 0 }

-- a register on net 1 that reads what a buffer makes of it, net 2, which is an output too
abbrev pub looped : Design
looped = plain 3 (0 ∷ []) (2 ∷ []) (buffer 1 2 ∷ []) (flop (PinForm 0) (2 ∷ []) 1 ∷ [])

-- the pin of the buffer, then its output
abbrev pub in_order : List (List PinRef)
in_order = (GateIn 0 0 ∷ []) ∷ (Net 2 ∷ []) ∷ []

-- a register that takes net 0, behind a clock gate whose enable is net 1
abbrev pub gated : Gated
gated = record {
  design = plain 3 (0 ∷ 1 ∷ []) [] [] (flop (PinForm 0) (0 ∷ []) 2 ∷ []);
  gates = (record { func = PinForm 0; ins = 1 ∷ []; parent = None }) ∷ [];
  of = Some 0 ∷ [];
}

-- the same with an enable, net 3: the register takes net 0 where it is 1, and else keeps its bit
abbrev pub enabled : Design
enabled =
    plain 4 (0 ∷ 1 ∷ []) [] (buffer 1 3 ∷ [])
    (flop (OrForm (AndForm (PinForm 1) (PinForm 0)) (AndForm (NotForm (PinForm 1)) (PinForm 2))) (0 ∷ 3 ∷ []) 2 ∷ [])
