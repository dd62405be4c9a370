-- What a run that is read back from a model has where the model says nothing.
use Rattle.std.specs.Prelude.{◌≡◌, ℕ, ◌<◌, false, List, length, Contains, None, Some, slice_get}
use Rattle.net_model.specs.Cycles.{bit_at}
use Rattle.net_model.specs.declared.netlist.Design.{Design}
use Rattle.net_model.specs.declared.cycles.Cycle.{Cycle}
use Rattle.query_model.specs.Reads.{bit_key, input_key}
use Rattle.query_model.specs.Defined.{set_in}
use Rattle.query_model.specs.declared.keys.Key.{Key}

-- register bits of the first cycle, and bits of inputs that are neither fixed nor reset, are 0 where they have no key
pub record HasZeros (d : Design) (keys : List Key) (run : List Cycle) : Type 0 where
  pub bits : (c : Cycle) (r : ℕ) → slice_get run 0 ≡ Some c → r < length d.regs → ¬ Contains keys (bit_key d 0 r) → bit_at c.bits r ≡ false
  pub inputs : (t : ℕ) (c : Cycle) (i : ℕ) → slice_get run t ≡ Some c → i < length d.inputs → set_in d.fixed i ≡ None → set_in d.resets i ≡ None
      → ¬ Contains keys (input_key d t i) → bit_at c.ins i ≡ false
