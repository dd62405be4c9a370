-- Refusals of one rule that go through to another.
use Rattle.std.proofs.Common.{◌≡◌, Result, Err}
use Rattle.netlist_types.specs.declared.faults.VerFault.{VerFault}
use Rattle.netlist_types.specs.declared.faults.VerFault.TheVariants as fault
use Rattle.verilog_scope.specs.Fails.{Fails}

-- what fails because its part fails
pub fails_through : {A B : Type 0} (e : VerFault) (a : Result A VerFault) (b : Result B VerFault) → Fails e a
    → ((why : VerFault) → a ≡ Err why → b ≡ Err why) → Fails e b
fails_through (fault.Syntax place) a b h through = through (fault.Syntax place) h
fails_through (fault.Unsupported place word) a b h through = through (fault.Unsupported place word) h
fails_through (fault.TwiceName name) a b h through = through (fault.TwiceName name) h
fails_through (fault.Width place) a b h through = through (fault.Width place) h
fails_through (fault.Deep place) a b h through = through (fault.Deep place) h
fails_through fault.Memory a b h through = tt
