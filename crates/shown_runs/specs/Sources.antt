-- Where pins take their values from.
use Rattle.std.specs.Prelude.{ℕ}
use Rattle.net_model.specs.declared.claims.PinRef.{PinRef}
use Rattle.net_model.specs.declared.claims.PinRef.TheVariants.{GateIn, RegIn}
use Rattle.shown_runs.specs.declared.sources.Reader.{Reader}
use Rattle.shown_runs.specs.declared.sources.Reader.TheVariants.{Gate, Reg}

-- the input pin of a gate or a register at a place
abbrev pub pin_of : Reader → ℕ → PinRef
pin_of (Gate k) place = GateIn k place
pin_of (Reg r) place = RegIn r place
