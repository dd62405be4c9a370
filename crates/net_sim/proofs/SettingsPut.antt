-- The settings that are written so far, and one more; and what soundness says of settings.
use Rattle.std.proofs.Common.{◌≡◌, ◌≢◌, ℕ, ◌+◌, ◌<◌, ◌≤◌, Bool, true, false, not, List, map, length}
use Rattle.std.proofs.Common.{take, set, get_or, Some, refl, ap, subst, sym, ◌∙◌, arith, below_more, get_or-set_other, get_or-set_same, length-set}
use Rattle.std.proofs.Math.Bool.{beq}
use Rattle.std.specs.Prelude.{Contains, slice_get, option_map, count_by, ◌==◌}
use Rattle.std.proofs.lemmas.Option.{slice_get_within, slice_get-get_or, slice_get-map, get_or_from_slice_get}
use Rattle.std.proofs.lemmas.List.Elements.{All-contains, Contains-append_left, Contains-append_right, Contains-get_or}
use Rattle.net_model.specs.Netlist.{IsSound, setting_inputs, held_inputs, AllBelow}
use Rattle.net_model.specs.Cycles.{bit_at}
use Rattle.net_model.specs.Stimuli.{AreInputs}
use Rattle.net_model.proofs.Order.{count_append, count_contains, counted}
use Rattle.net_model.proofs.Settling.{All-at}
use Rattle.net_model.proofs.Sources.{count_until, taken_contains}
use Rattle.net_model.specs.declared.netlist.Design.{Design}
use Rattle.net_model.specs.declared.netlist.Fixed.{Fixed}
use Rattle.net_sim.specs.Settings.{set_bit, AreApart, AreSet}

abbrev pub input_of : Fixed → ℕ
input_of s = s.input

pub input_below : (limit : ℕ) (settings : List Fixed) (k : ℕ) (s : Fixed) → AllBelow limit (setting_inputs settings) → slice_get settings k ≡ Some s
    → s.input < limit
input_below limit settings k s below at =
    All-at (λ n. n < limit) (setting_inputs settings) k s.input (slice_get-map input_of settings k ∙ ap (option_map input_of) at) below

pub input_listed : (settings : List Fixed) (k : ℕ) (s : Fixed) → slice_get settings k ≡ Some s → Contains (setting_inputs settings) s.input
input_listed settings k s at =
    let there : slice_get (setting_inputs settings) k ≡ Some s.input = slice_get-map input_of settings k ∙ ap (option_map input_of) at in
    (k, slice_get_within (setting_inputs settings) k s.input there, get_or_from_slice_get (setting_inputs settings) k s.input s.input there)

-- the first k settings are written, and other inputs are as at the start
pub record SettingsDone (settings : List Fixed) (active : Bool) (start ins : List Bool) (k : ℕ) : Type 0 where
  pub len : length ins ≡ length start
  pub put : (j : ℕ) → j < k → (s : Fixed) → slice_get settings j ≡ Some s → bit_at ins s.input ≡ set_bit active s
  pub others : (i : ℕ) → ¬ Contains (setting_inputs settings) i → bit_at ins i ≡ bit_at start i

pub settings_more : (settings : List Fixed) (active : Bool) (start ins : List Bool) (k : ℕ) (t : Fixed) (v : Bool)
    → AllBelow (length start) (setting_inputs settings) → AreApart settings → slice_get settings k ≡ Some t → v ≡ set_bit active t
    → SettingsDone settings active start ins k → SettingsDone settings active start (set ins t.input v) (k + 1)
settings_more settings active start ins k t v below apart at value done =
    let low : t.input < length start = input_below (length start) settings k t below at in
    record {
      len = length-set ins t.input v ∙ done.len;
      put =
          below_more (λ j. (s : Fixed) → slice_get settings j ≡ Some s → bit_at (set ins t.input v) s.input ≡ set_bit active s) k
          (λ j lt s there. get_or-set_other ins t.input s.input v false (apart j k s t lt there at) ∙ done.put j lt s there)
          (λ s there.
          let same : t ≡ s = cc in
          subst (λ (u : Fixed). bit_at (set ins t.input v) u.input ≡ set_bit active u) same
          (get_or-set_same ins t.input v false (omega (arith, done.len)) ∙ value));
      others = λ i out. get_or-set_other ins t.input i v false
          (λ same. out (subst (Contains (setting_inputs settings)) (sym same) (input_listed settings k t at))) ∙ done.others i out;
    }

twice : (settings : List Fixed) (j k : ℕ) (s t : Fixed) → j < k → slice_get settings j ≡ Some s → slice_get settings k ≡ Some t → s.input ≡ t.input
    → 2 ≤ count_by (λ m. m == s.input) (setting_inputs settings)
twice settings j k s t lt at there same =
    let before : 1 ≤ count_by (λ m. m == s.input) (map input_of (take k settings)) =
    count_contains s.input (map input_of (take k settings)) (taken_contains input_of settings j k s lt at) in
    let here = counted s.input t.input (sym same) in
    omega (arith, before, here, count_until input_of (λ m. m == s.input) settings k t there)

held_below : (d : Design) (i : ℕ) → IsSound d → Contains (held_inputs d) i → i < length d.inputs
held_below d i sound has = All-contains (λ n. n < length d.inputs) (held_inputs d) i sound.in_range.held has

-- in a sound design no input has two settings
pub fixed_apart : (d : Design) → IsSound d → AreApart d.fixed
fixed_apart d sound j k s t lt at there same =
    let two = twice d.fixed j k s t lt at there same in
    let all = count_append (λ m. m == s.input) (setting_inputs d.fixed) (setting_inputs d.resets) in
    let low = held_below d s.input sound (Contains-append_left (setting_inputs d.fixed) (setting_inputs d.resets) s.input (input_listed d.fixed j s at)) in
    omega (arith, two, all, sound.once s.input low)

pub resets_apart : (d : Design) → IsSound d → AreApart d.resets
resets_apart d sound j k s t lt at there same =
    let two = twice d.resets j k s t lt at there same in
    let all = count_append (λ m. m == s.input) (setting_inputs d.fixed) (setting_inputs d.resets) in
    let low = held_below d s.input sound (Contains-append_right (setting_inputs d.fixed) (setting_inputs d.resets) s.input (input_listed d.resets j s at)) in
    omega (arith, two, all, sound.once s.input low)

fixed_not_reset : (d : Design) (i : ℕ) → IsSound d → Contains (setting_inputs d.fixed) i → ¬ Contains (setting_inputs d.resets) i
fixed_not_reset d i sound one other =
    let all = count_append (λ m. m == i) (setting_inputs d.fixed) (setting_inputs d.resets) in
    let low = held_below d i sound (Contains-append_left (setting_inputs d.fixed) (setting_inputs d.resets) i one) in
    omega (arith, count_contains i (setting_inputs d.fixed) one, count_contains i (setting_inputs d.resets) other, all, sound.once i low)

pub fixed_below : (d : Design) → IsSound d → AllBelow (length d.inputs) (setting_inputs d.fixed)
fixed_below d sound =
    λ k o within. held_below d _ sound (Contains-append_left (setting_inputs d.fixed) (setting_inputs d.resets) _
    (Contains-get_or (setting_inputs d.fixed) k o within))

pub resets_below : (d : Design) → IsSound d → AllBelow (length d.inputs) (setting_inputs d.resets)
resets_below d sound =
    λ k o within. held_below d _ sound (Contains-append_right (setting_inputs d.fixed) (setting_inputs d.resets) _
    (Contains-get_or (setting_inputs d.resets) k o within))

-- where resets are written after fixed inputs, both have their values
pub inputs_made : (d : Design) (active : Bool) (first second : List Bool) → IsSound d → length second ≡ length d.inputs → AreSet true d.fixed first
    → AreSet active d.resets second →
    ((i : ℕ) → ¬ Contains (setting_inputs d.resets) i → bit_at second i ≡ bit_at first i) → AreInputs d active second
inputs_made d active first second sound count fixed resets others =
    record {
      count = count;
      fixed = λ k o within.
          others (get_or d.fixed k o).input (fixed_not_reset d (get_or d.fixed k o).input sound
          (input_listed d.fixed k (get_or d.fixed k o) (slice_get-get_or d.fixed k o within)))
          ∙ fixed k o within;
      resets = resets;
    }

-- the first k settings are found in the input bits
abbrev pub SetBelow : List Fixed → Bool → List Bool → ℕ → Type 0
SetBelow settings active ins k = (j : ℕ) → j < k → (s : Fixed) → slice_get settings j ≡ Some s → bit_at ins s.input ≡ set_bit active s

pub set_more : (settings : List Fixed) (active : Bool) (ins : List Bool) (k : ℕ) (s : Fixed) → slice_get settings k ≡ Some s
    → bit_at ins s.input ≡ set_bit active s → SetBelow settings active ins k → SetBelow settings active ins (k + 1)
set_more settings active ins k s at is found =
    below_more (λ j. (t : Fixed) → slice_get settings j ≡ Some t → bit_at ins t.input ≡ set_bit active t) k found
    (λ t there. let same : s ≡ t = cc in subst (λ (u : Fixed). bit_at ins u.input ≡ set_bit active u) same is)

pub all_set : (settings : List Fixed) (active : Bool) (ins : List Bool) → SetBelow settings active ins (length settings) → AreSet active settings ins
all_set settings active ins found k o within = found k within _ (slice_get-get_or settings k o within)

-- what a test of two bits tells
pub same_bit : (a b : Bool) → not (beq a b) ≡ false → a ≡ b
same_bit true true e = refl
same_bit false false e = refl
same_bit true false e = cc
same_bit false true e = cc

pub other_bit : (a b : Bool) → not (beq a b) ≡ true → a ≢ b
other_bit true true e same = cc
other_bit false false e same = cc
other_bit true false e same = cc
other_bit false true e same = cc

-- an input that hasn't the bit of its setting
pub not_set : (settings : List Fixed) (active : Bool) (ins : List Bool) (k : ℕ) (s : Fixed) → slice_get settings k ≡ Some s
    → bit_at ins s.input ≢ set_bit active s → ¬ AreSet active settings ins
not_set settings active ins k s at differs found = differs (All-at (λ (t : Fixed). bit_at ins t.input ≡ set_bit active t) settings k s at found)
