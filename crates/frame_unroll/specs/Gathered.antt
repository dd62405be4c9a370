-- Whose pins are read, and what they read on a rail of a layer.
use Rattle.std.specs.Prelude.{ℕ, Bool, List}
use Rattle.net_model.specs.declared.netlist.Design.{Design}
use Rattle.net_model.specs.declared.claims.Claim.{Claim}
use Rattle.net_model.specs.declared.claims.PinRef.{PinRef}
use Rattle.net_model.specs.declared.claims.PinRef.TheVariants.{GateIn, RegIn}
use Rattle.query_model.specs.Reads.{read_pin}
use Rattle.query_model.specs.Defined.{numbered}
use Rattle.query_model.specs.declared.keys.KeyLit.{KeyLit}
use Rattle.frame_unroll.specs.declared.gathered.Owner.{Owner}
use Rattle.frame_unroll.specs.declared.gathered.RailAt.{RailAt}
use Rattle.frame_unroll.specs.declared.gathered.Owner.TheVariants.{Gate, Reg}

-- the pin of a gate or a register at a place
abbrev pub pin_of : Owner → ℕ → PinRef
pin_of (Gate k) i = GateIn k i
pin_of (Reg r) i = RegIn r i

-- what an owner's pins on these nets read on a rail of a formula layer
abbrev pub reads_at : Design → Claim → List (List Bool) → Owner → List ℕ → RailAt → List KeyLit
reads_at d claim moved owner ins at =
    numbered (λ i n. read_pin d claim moved at.cycle at.layer at.rail (pin_of owner i) n) 0 ins
