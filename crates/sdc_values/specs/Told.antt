-- Where a fault of a script is right.
use Rattle.std.specs.Prelude.{◌≡◌, ◌≢◌, Result, Err}
use Rattle.script_types.specs.declared.faults.SdcFault.{SdcFault}
use Rattle.script_types.specs.declared.faults.SdcFault.TheVariants as fault

-- the fault is the expected one, or memory ran out
abbrev pub Fails : {B : Type 0} → SdcFault → Result B SdcFault → Type 0
Fails e expected = e ≢ fault.Memory → expected ≡ Err e
