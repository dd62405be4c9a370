-- Where a fault of a netlist is right.
use Rattle.std.specs.Prelude.{◌≡◌, Result, Err}
use Rattle.netlist_types.specs.declared.faults.VerFault.{VerFault}
use Rattle.netlist_types.specs.declared.faults.VerFault.TheVariants as fault

-- the rules have that fault, or memory ran out
abbrev pub Fails : {B : Type 0} → VerFault → Result B VerFault → Type 0
Fails (fault.Syntax place) expected = expected ≡ Err (fault.Syntax place)
Fails (fault.Unsupported place word) expected = expected ≡ Err (fault.Unsupported place word)
Fails (fault.TwiceName name) expected = expected ≡ Err (fault.TwiceName name)
Fails (fault.Width place) expected = expected ≡ Err (fault.Width place)
Fails (fault.Deep place) expected = expected ≡ Err (fault.Deep place)
Fails fault.Memory expected = Unit {0}
