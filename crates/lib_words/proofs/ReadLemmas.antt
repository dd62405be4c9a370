-- Refusals of one rule that go through to another.
use Rattle.std.proofs.Common.{◌≡◌, ℕ, Result, Err}
use Rattle.lib_words.specs.declared.faults.GroupFault.{GroupFault}
use Rattle.lib_words.specs.declared.faults.GroupFault.TheVariants as fault
use Rattle.lib_words.specs.Reads.{Fails}

-- what is refused where its part is, in a text of the same length
pub fails_through : {A B : Type 0} (old new : ℕ) → old ≡ new → (e : GroupFault) (a : Result A GroupFault) (b : Result B GroupFault) → Fails old e a
    → ((why : GroupFault) → a ≡ Err why → b ≡ Err why) → Fails new e b
fails_through old new same (fault.Syntax place) a b h f = (f (fault.Syntax place) h.0, rw (← same) h.1)
fails_through old new same (fault.Deep place) a b h f = (f (fault.Deep place) h.0, rw (← same) h.1)
fails_through old new same fault.Memory a b h f = tt
