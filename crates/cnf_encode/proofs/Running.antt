-- The cycles that are read back: those that the stimulus of a model stands for.
use Rattle.std.proofs.Common.{◌≡◌, ℕ, zero, suc, ◌+◌, ◌<◌, Bool, List, [], ◌∷◌, ◌++◌, length, length-append, get_or, option_map, Some, refl, ap, sym}
use Rattle.std.proofs.Common.{◌∙◌, arith, ◌⊎◌, inl, inr, subst}
use Rattle.std.specs.Prelude.{slice_get, nat_lt}
use Rattle.std.proofs.lemmas.List.{length-map}
use Rattle.std.proofs.lemmas.Option.{slice_get_within, slice_get-get_or, slice_get-map, same_Some}
use Rattle.net_model.specs.Cycles.{IsLinked, HasResets}
use Rattle.net_model.specs.Stimuli.{StandsFor}
use Rattle.net_model.specs.declared.netlist.Design.{Design}
use Rattle.net_model.specs.declared.cycles.Cycle.{Cycle}
use Rattle.net_model.specs.declared.cycles.Stimulus.{Stimulus}
use Rattle.net_sim.specs.Runs.{IsLinkable}
use Rattle.query_model.specs.Reads.{bit_key, input_key}
use Rattle.query_model.specs.Laws.{HasFreeBits}
use Rattle.query_model.specs.Variables.{by_number}
use Rattle.query_model.specs.declared.keys.Key.{Key}
use Rattle.proof_log.specs.Formulas.{value_in}
use Rattle.cnf_encode.specs.FreeBits.{AreFirstBits, AreInputsAt, IsStimulusOf}
use Rattle.cnf_encode.specs.Runs.{HasZeros}
use Rattle.cnf_encode.proofs.KeyValues.{value_listed, value_not}

-- an item of a list with one more item
pushed : {X : Type 0} (xs : List X) (x : X) (k : ℕ) (y : X) → slice_get (xs ++ x ∷ []) k ≡ Some y → (slice_get xs k ≡ Some y) ⊎ ((k ≡ length xs) × (x ≡ y))
pushed [] x zero y at = inr (refl, same_Some x y at)
pushed [] x (suc k) y at = absurd (omega (arith, slice_get_within (x ∷ []) (suc k) y at))
pushed (z ∷ xs) x zero y at = inl at
pushed (z ∷ xs) x (suc k) y at =
    elim (pushed xs x k y at) [ inl here ↦ inl here | inr last ↦ inr (omega (arith, last.0), last.1) ]

-- the input bits of the first t cycles
pub record InputsSoFar (d : Design) (keys : List Key) (values : List Bool) (live : ℕ) (rows : List (List Bool)) (t : ℕ) : Type 0 where
  pub count : length rows ≡ t
  pub each : (k : ℕ) (ins : List Bool) → slice_get rows k ≡ Some ins → AreInputsAt d keys values live k ins

pub inputs_more : (d : Design) (keys : List Key) (values : List Bool) (live : ℕ) (rows : List (List Bool)) (t : ℕ) (ins : List Bool)
    → AreInputsAt d keys values live t ins
    → InputsSoFar d keys values live rows t → InputsSoFar d keys values live (rows ++ ins ∷ []) (t + 1)
inputs_more d keys values live rows t ins is done =
    record {
      count = omega (arith, length-append rows (ins ∷ []), done.count);
      each = λ k row at.
          elim (pushed rows ins k row at) [
            | inl here ↦ done.each k row here
            | inr last ↦
                subst (λ (i : ℕ). AreInputsAt d keys values live i row) (sym (last.0 ∙ done.count))
                (subst (λ (x : List Bool). AreInputsAt d keys values live t x) last.1 is)
          ];
    }

-- linked cycles can be made of it
pub linkable : (d : Design) (keys : List Key) (values : List Bool) (live cycles : ℕ) (s : Stimulus) → 0 < cycles
    → IsStimulusOf d keys values live cycles s → IsLinkable d s
linkable d keys values live cycles s some is =
    record {
      state = is.state.count;
      some = omega (arith, is.count);
      inputs = λ k ins within.
          let lawful = (is.inputs k (get_or s.inputs k ins) (slice_get-get_or s.inputs k ins within)).lawful in
          record { count = lawful.count; fixed = lawful.fixed };
    }

-- linked cycles that a model's stimulus stands for
pub record IsReadBack (d : Design) (keys : List Key) (values : List Bool) (live cycles : ℕ) (run : List Cycle) : Type 0 where
  pub count : length run ≡ cycles
  pub linked : IsLinked d run
  pub first : (c : Cycle) → slice_get run 0 ≡ Some c → AreFirstBits d keys values c.bits
  pub inputs : (k : ℕ) (c : Cycle) → slice_get run k ≡ Some c → AreInputsAt d keys values live k c.ins

abbrev ins_of : Cycle → List Bool
ins_of c = c.ins

pub is_read_back : (d : Design) (keys : List Key) (values : List Bool) (live cycles : ℕ) (s : Stimulus) (run : List Cycle)
    → IsStimulusOf d keys values live cycles s
    → IsLinked d run → StandsFor s run → IsReadBack d keys values live cycles run
is_read_back d keys values live cycles s run is linked stands =
    record {
      count = sym (length-map run ins_of) ∙ (ap length stands.inputs ∙ is.count);
      linked = linked;
      first = λ c at. subst (AreFirstBits d keys values) (sym (stands.state c at)) is.state;
      inputs = λ k c at.
          is.inputs k c.ins (ap (λ (rows : List (List Bool)). slice_get rows k) (sym stands.inputs) ∙ (slice_get-map ins_of run k ∙ ap (option_map ins_of) at));
    }

pub run_resets : (d : Design) (keys : List Key) (values : List Bool) (live cycles : ℕ) (run : List Cycle) → IsReadBack d keys values live cycles run
    → (k : ℕ) (c : Cycle)
    → slice_get run k ≡ Some c → HasResets d (nat_lt k live) c
run_resets d keys values live cycles run is k c at = (is.inputs k c at).lawful.resets

-- its free bits are those of the model where they have keys, and 0 elsewhere
pub run_free : (d : Design) (keys : List Key) (values : List Bool) (live cycles : ℕ) (run : List Cycle) → IsReadBack d keys values live cycles run
    → HasFreeBits d keys (by_number keys (value_in values)) run
run_free d keys values live cycles run is =
    record {
      bits = λ c r at low has. sym ((is.first c at).each r low ∙ value_listed keys values (bit_key d 0 r) has);
      inputs = λ k c i at low fixed reset has. sym ((is.inputs k c at).free i low fixed reset ∙ value_listed keys values (input_key d k i) has);
    }

pub run_zeros : (d : Design) (keys : List Key) (values : List Bool) (live cycles : ℕ) (run : List Cycle) → IsReadBack d keys values live cycles run
    → HasZeros d keys run
run_zeros d keys values live cycles run is =
    record {
      bits = λ c r at low none. (is.first c at).each r low ∙ value_not keys values (bit_key d 0 r) none;
      inputs = λ k c i at low fixed reset none. (is.inputs k c at).free i low fixed reset ∙ value_not keys values (input_key d k i) none;
    }
