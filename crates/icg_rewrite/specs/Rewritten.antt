-- The design in which a register behind a clock gate has an enable in its place.
use Rattle.std.specs.Prelude.{ℕ, suc, ◌+◌, List, [], ◌∷◌, ◌++◌, length, Option, Some, None, option_map, nat_lt, if◌then◌else◌}
use Rattle.net_model.specs.Form.{Form, ZeroForm, OneForm, PinForm, NotForm, AndForm, OrForm, XorForm}
use Rattle.net_model.specs.declared.netlist.Design.{Design}
use Rattle.net_model.specs.declared.netlist.Gate.{Gate}
use Rattle.net_model.specs.declared.netlist.Reg.{Reg}
use Rattle.icg_rewrite.specs.declared.clock_gates.ClockGate.{ClockGate}
use Rattle.icg_rewrite.specs.declared.clock_gates.Gated.{Gated}

-- the function with a new place before place w: the places from w on are one higher
abbrev pub raised : ℕ → Form → Form
raised w ZeroForm = ZeroForm
raised w OneForm = OneForm
raised w (PinForm i) = PinForm (if nat_lt i w then i else i + 1)
raised w (NotForm f) = NotForm (raised w f)
raised w (AndForm f g) = AndForm (raised w f) (raised w g)
raised w (OrForm f g) = OrForm (raised w f) (raised w g)
raised w (XorForm f g) = XorForm (raised w f) (raised w g)

-- (en and next) or (not en and own), where place w reads the enable and the place after it the own bit
abbrev pub next_or_own : ℕ → Form → Form
next_or_own w next = OrForm (AndForm (PinForm w) (raised w next)) (AndForm (NotForm (PinForm w)) (PinForm (w + 1)))

-- a register, and where it stands behind a clock gate the one with an enable: the net of its clock gate is a last pin, and
-- so the own bit has the next place
abbrev pub gated_reg : ℕ → Reg → Option ℕ → Reg
gated_reg nets reg None = reg
gated_reg nets reg (Some k) =
    record {
      next = next_or_own (length reg.ins) reg.next;
      clear = option_map (raised (length reg.ins)) reg.clear;
      preset = option_map (raised (length reg.ins)) reg.preset;
      both = reg.both;
      ins = reg.ins ++ (nets + k) ∷ [];
      outs = reg.outs;
    }

-- registers, each with the number of its clock gate, if it has one
abbrev pub gated_regs : ℕ → List Reg → List (Option ℕ) → List Reg
gated_regs nets [] of = []
gated_regs nets (reg ∷ regs) [] = []
gated_regs nets (reg ∷ regs) (gate ∷ of) = gated_reg nets reg gate ∷ gated_regs nets regs of

-- a function, and where there is a parent its bit at place w too
abbrev pub enable_func : ℕ → Form → Option ℕ → Form
enable_func w f None = f
enable_func w f (Some parent) = AndForm f (PinForm w)

-- pins, and where there is a parent its net as the last
abbrev pub enable_ins : ℕ → List ℕ → Option ℕ → List ℕ
enable_ins nets ins None = ins
enable_ins nets ins (Some parent) = ins ++ (nets + parent) ∷ []

-- the gate that tells whether clock gate k passes. The nets of clock gates come after those of the design, in their order
abbrev pub enable_gate : ℕ → ℕ → ClockGate → Gate
enable_gate nets k x =
    record {
      func = enable_func (length x.ins) x.func x.parent;
      ins = enable_ins nets x.ins x.parent;
      out = nets + k;
    }

-- the gates that tell whether the clock gates from number k on pass
abbrev pub enable_gates : ℕ → ℕ → List ClockGate → List Gate
enable_gates nets k [] = []
enable_gates nets k (x ∷ xs) = enable_gate nets k x ∷ enable_gates nets (suc k) xs

-- the design with a net and a gate more for each clock gate, last, and with enables for its gated registers
unfoldable pub rewritten : Gated → Design
rewritten g =
    record g.design {
      nets = g.design.nets + length g.gates;
      gates = g.design.gates ++ enable_gates g.design.nets 0 g.gates;
      regs = gated_regs g.design.nets g.design.regs g.of;
    }
