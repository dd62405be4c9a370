-- Free bits: register bits of the first cycle, and bits of inputs that are neither fixed nor reset.
use Rattle.std.specs.Prelude.{◌≡◌, ℕ, ◌<◌, Bool, false, List, length, None, Some, slice_get, nat_lt, if◌then◌else◌}
use Rattle.net_model.specs.Cycles.{bit_at}
use Rattle.net_model.specs.Stimuli.{AreInputs}
use Rattle.net_model.specs.declared.netlist.Design.{Design}
use Rattle.net_model.specs.declared.cycles.Stimulus.{Stimulus}
use Rattle.query_model.specs.Reads.{bit_key, input_key}
use Rattle.query_model.specs.Defined.{set_in}
use Rattle.query_model.specs.Formula.{has_key}
use Rattle.query_model.specs.Variables.{by_number}
use Rattle.query_model.specs.declared.keys.Key.{Key}
use Rattle.proof_log.specs.Formulas.{value_in}

-- the value of a key's variable, or 0 where the key has none
abbrev pub value_or_zero : List Key → List Bool → Key → Bool
value_or_zero keys values k = if has_key keys k then by_number keys (value_in values) k else false

-- a bit for each register, as the first cycle's keys have it
pub record AreFirstBits (d : Design) (keys : List Key) (values : List Bool) (bits : List Bool) : Type 0 where
  pub count : length bits ≡ length d.regs
  pub each : (r : ℕ) → r < length d.regs → bit_at bits r ≡ value_or_zero keys values (bit_key d 0 r)

-- a bit for each input in cycle t: fixed inputs are kept, resets are active below `live` and inactive after, and other
-- inputs are as their keys have it
pub record AreInputsAt (d : Design) (keys : List Key) (values : List Bool) (live t : ℕ) (ins : List Bool) : Type 0 where
  pub lawful : AreInputs d (nat_lt t live) ins
  pub free : (i : ℕ) → i < length d.inputs → set_in d.fixed i ≡ None → set_in d.resets i ≡ None
      → bit_at ins i ≡ value_or_zero keys values (input_key d t i)

-- the stimulus of a model: first bits, and input bits for each of so many cycles
pub record IsStimulusOf (d : Design) (keys : List Key) (values : List Bool) (live cycles : ℕ) (s : Stimulus) : Type 0 where
  pub count : length s.inputs ≡ cycles
  pub state : AreFirstBits d keys values s.state
  pub inputs : (t : ℕ) (ins : List Bool) → slice_get s.inputs t ≡ Some ins → AreInputsAt d keys values live t ins
