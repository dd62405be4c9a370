-- The branches below the clock: what a net there has.
use Rattle.std.specs.Prelude.{ℕ, true, false, ◌||◌, List, [], ◌∷◌, Contains, Some, None}
use Rattle.net_model.specs.Form.{Form, xor}
use Rattle.net_model.specs.declared.netlist.Gate.{Gate}
use Rattle.link_defs.specs.declared.circuits.Part.TheVariants as part
use Rattle.link_defs.specs.declared.circuits.Circuit.{Circuit}
use Rattle.link_defs.specs.Parts.{inverts}
use Rattle.link_design.specs.declared.branches.Branch.{Branch}

-- the branch of the clock's own nets
abbrev pub root_branch : Branch
root_branch = record { odd = false; above = None; lost = false }

-- the branch after a buffer or an inverter
abbrev pub past_buffer : Branch → Form → Branch
past_buffer b func = record { odd = xor b.odd (inverts func); above = b.above; lost = b.lost }

-- the branch after a clock gate, which is told by the net that it drives; where the gate gets the clock's complement it is lost
abbrev pub past_gate : Branch → ℕ → Branch
past_gate b out = record { odd = b.odd; above = Some out; lost = b.lost || b.odd }

-- the net is on this branch below the clock
pub data OnBranch (c : Circuit) : ℕ → Branch → Type 0 where
  Rooted : (net : ℕ) → Contains c.clocks net → OnBranch c net root_branch
  AfterBuffer : (from : ℕ) (gates : List Gate) (g : Gate) (b : Branch)
      → Contains c.parts (part.Comb true (from ∷ []) gates) → Contains gates g → OnBranch c from b → OnBranch c g.out (past_buffer b g.func)
  AfterGate : (clock : ℕ) (enables : List ℕ) (out : ℕ) (b : Branch) → Contains c.parts (part.Gate clock enables out) → OnBranch c clock b
      → OnBranch c out (past_gate b out)
