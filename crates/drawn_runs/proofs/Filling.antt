-- The inputs that are written so far, and one more.
use Rattle.std.proofs.Common.{◌≡◌, ℕ, suc, ◌+◌, ◌<◌, Bool, true, false, not, List, [], ◌∷◌}
use Rattle.std.proofs.Common.{length, set, get_or, Some, refl, ap, subst, sym, ◌∙◌, arith, inl, inr}
use Rattle.std.proofs.Common.{below_more, get_or-set_other, get_or-set_same, ext_get_or}
use Rattle.std.specs.Prelude.{◌||◌, Contains, All, slice_get, if◌then◌else◌}
use Rattle.std.specs.List.{list_any}
use Rattle.std.proofs.lemmas.Bool.{both_ways, or_cases, or_left, eqb-true, eq-eqb}
use Rattle.std.proofs.lemmas.List.{map-set}
use Rattle.std.proofs.lemmas.List.Elements.{All-head, All-tail}
use Rattle.rand_pcg.specs.Lcg.{Lcg}
use Rattle.net_model.specs.Netlist.{AllBelow, setting_inputs}
use Rattle.net_model.specs.Cycles.{bit_at}
use Rattle.net_model.specs.LaneBits.{lane, lane_row, in_each_lane}
use Rattle.net_model.specs.declared.netlist.Design.{Design}
use Rattle.net_model.specs.declared.netlist.Fixed.{Fixed}
use Rattle.net_model.specs.declared.lane_words.Lanes.{Lanes}
use Rattle.net_model.specs.Stimuli.{AreInputs}
use Rattle.net_model.proofs.Members.{In, In-from_Contains}
use Rattle.net_sim.specs.Settings.{set_bit, AreApart}
use Rattle.net_sim.proofs.LaneSettling.{length-lane_row}
use Rattle.net_sim.proofs.SettingsPut.{SettingsDone, settings_more}
use Rattle.drawn_runs.specs.Draws.{after, word}
use Rattle.net_model.specs.Held.{sets, is_held, free_below}
use Rattle.drawn_runs.specs.Drawn.{AreFree}
use Rattle.drawn_runs.specs.Inputs.{AreDrawnTo}
use Rattle.drawn_runs.proofs.Stepping.{lane_at}

pub free_below-zero : (d : Design) → free_below d 0 ≡ 0
unfolding free_below
free_below-zero d = refl

free_below-more : (d : Design) (k : ℕ) → free_below d (k + 1) ≡ free_below d k + (if is_held d k then 0 else 1)
unfolding free_below
free_below-more d k = let e : k + 1 ≡ suc k = omega arith in ap (free_below d) e ∙ refl

-- a free input is one more
free_more : (d : Design) (k : ℕ) → is_held d k ≡ false → free_below d (k + 1) ≡ free_below d k + 1
free_more d k free = free_below-more d k ∙ ap (λ (b : Bool). free_below d k + (if b then 0 else 1)) free

-- a held one is none
held_more : (d : Design) (k : ℕ) → is_held d k ≡ true → free_below d (k + 1) ≡ free_below d k
held_more d k held =
    let e = ap (λ (b : Bool). free_below d k + (if b then 0 else 1)) held in omega (arith, free_below-more d k, e)

-- no input is written
pub drawn_none : (d : Design) (base : ℕ) (ins : List Lanes) (rng : Lcg) → rng ≡ after base → AreDrawnTo d base ins 0 rng
drawn_none d base ins rng is =
    record { next = is ∙ ap after (omega (arith, free_below-zero d)); put = λ j low free. absurd (omega arith) }

-- a free input is written
pub drawn_more : (d : Design) (base : ℕ) (ins : List Lanes) (rng later : Lcg) (k : ℕ) (w : Lanes) → k < length ins → is_held d k ≡ false
    → w ≡ word (base + free_below d k) → later ≡ after (base + free_below d k + 1) → AreDrawnTo d base ins k rng
    → AreDrawnTo d base (set ins k w) (k + 1) later
drawn_more d base ins rng later k w within free is next done =
    let blank = in_each_lane false in
    record {
      next = next ∙ ap after (omega (arith, free_more d k free));
      put =
          below_more (λ j. is_held d j ≡ false → get_or (set ins k w) j blank ≡ word (base + free_below d j)) k
          (λ j lt other. get_or-set_other ins k j w blank (omega arith) ∙ done.put j lt other)
          (λ again. get_or-set_same ins k w blank within ∙ is);
    }

-- a held input is passed over
pub drawn_passed : (d : Design) (base : ℕ) (ins : List Lanes) (rng : Lcg) (k : ℕ) → is_held d k ≡ true → AreDrawnTo d base ins k rng
    → AreDrawnTo d base ins (k + 1) rng
drawn_passed d base ins rng k held done =
    record {
      next = done.next ∙ ap after (omega (arith, held_more d k held));
      put =
          below_more (λ j. is_held d j ≡ false → get_or ins j (in_each_lane false) ≡ word (base + free_below d j)) k done.put
          (λ free. absurd (both_ways (is_held d k) free held));
    }

neither_right : (a b : Bool) → (a || b) ≡ false → b ≡ false
neither_right true b none = cc
neither_right false b none = none

neither_left : (a b : Bool) → (a || b) ≡ false → a ≡ false
neither_left true b none = none
neither_left false b none = refl

-- one more setting is written, in one lane
pub lane_settings_more : (i : ℕ) (settings : List Fixed) (active : Bool) (start ins : List Lanes) (k : ℕ) (t : Fixed) (w : Lanes)
    → AllBelow (length start) (setting_inputs settings) → AreApart settings → slice_get settings k ≡ Some t → lane w i ≡ set_bit active t
    → SettingsDone settings active (lane_row i start) (lane_row i ins) k
    → SettingsDone settings active (lane_row i start) (lane_row i (set ins t.input w)) (k + 1)
lane_settings_more i settings active start ins k t w below apart at is done =
    subst (λ (row : List Bool). SettingsDone settings active (lane_row i start) row (k + 1)) (sym (map-set (lane_at i) ins t.input w))
    (settings_more settings active (lane_row i start) (lane_row i ins) k t (lane w i)
    (subst (λ (n : ℕ). AllBelow n (setting_inputs settings)) (sym (length-lane_row i start)) below) apart at is done)

-- an input that no setting is of is not listed
pub not_listed : (settings : List Fixed) (input : ℕ) → list_any (sets input) settings ≡ false → ¬ Contains (setting_inputs settings) input
not_listed settings input none has = absent settings none (In-from_Contains (setting_inputs settings) input has) where
  absent : (fs : List Fixed) → list_any (sets input) fs ≡ false → In input (setting_inputs fs) → ⊥
  absent [] none has = absurd has
  absent (f ∷ fs) none (inl same) = both_ways (sets input f || list_any (sets input) fs) none (or_left _ _ (eq-eqb f.input input same))
  absent (f ∷ fs) none (inr more) = absent fs (neither_right (sets input f) (list_any (sets input) fs) none) more

-- an input that is not held is neither fixed nor reset
pub not_fixed : (d : Design) (input : ℕ) → is_held d input ≡ false → ¬ Contains (setting_inputs d.fixed) input
not_fixed d input free = not_listed d.fixed input (neither_left (list_any (sets input) d.fixed) (list_any (sets input) d.resets) free)

pub not_reset : (d : Design) (input : ℕ) → is_held d input ≡ false → ¬ Contains (setting_inputs d.resets) input
not_reset d input free = not_listed d.resets input (neither_right (list_any (sets input) d.fixed) (list_any (sets input) d.resets) free)

-- where a setting is of an input, the input has one bit in rows that are as the settings have them
set_same : (value : Fixed → Bool) (input : ℕ) (settings : List Fixed) (a b : List Bool) → All (λ (s : Fixed). bit_at a s.input ≡ value s) settings
    → All (λ (s : Fixed). bit_at b s.input ≡ value s) settings → list_any (sets input) settings ≡ true → bit_at a input ≡ bit_at b input
set_same value input [] a b p q some = cc
set_same value input (s ∷ rest) a b p q some =
    elim (or_cases (sets input s) (list_any (sets input) rest) some) [
      | inl here ↦
          let e : s.input ≡ input = eqb-true s.input input here in
          let both : bit_at a s.input ≡ bit_at b s.input = All-head (λ (t : Fixed). bit_at a t.input ≡ value t) s rest p ∙
          sym (All-head (λ (t : Fixed). bit_at b t.input ≡ value t) s rest q) in
          subst (λ (k : ℕ). bit_at a k ≡ bit_at b k) e both
      | inr later ↦ set_same value input rest a b (All-tail (λ (t : Fixed). bit_at a t.input ≡ value t) s rest p)
          (All-tail (λ (t : Fixed). bit_at b t.input ≡ value t) s rest q) later
    ]

-- there is one row of input bits of a drawn cycle
pub inputs_same : (d : Design) (i base : ℕ) (active : Bool) (a b : List Bool) → AreInputs d active a → AreInputs d active b → AreFree d i base a
    → AreFree d i base b → a ≡ b
inputs_same d i base active a b p q free other =
    ext_get_or false a b (p.count ∙ sym q.count)
    (λ k within. by k (omega (arith, p.count)) (list_any (sets k) d.fixed) refl (list_any (sets k) d.resets) refl) where
      by : (k : ℕ) → k < length d.inputs → (fixed : Bool) → list_any (sets k) d.fixed ≡ fixed → (reset : Bool) → list_any (sets k) d.resets ≡ reset
          → bit_at a k ≡ bit_at b k
      by k low true is reset e = set_same (λ s. s.value) k d.fixed a b p.fixed q.fixed is
      by k low false is true e = set_same (λ s. if active then s.value else not s.value) k d.resets a b p.resets q.resets e
      by k low false is false e = let none : is_held d k ≡ false = rw (is, e) refl in free k low none ∙ sym (other k low none)
