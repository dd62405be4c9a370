-- The literals of inputs that are written so far, and one more.
use Rattle.std.proofs.Common.{◌≡◌, ◌≢◌, ℕ, zero, suc, ◌<◌, ◌≤◌, ◌+◌, ◌-◌, Bool, true, false, if◌then◌else◌, List, length, set, Some, refl, ap, sym, ◌∙◌, subst, arith}
use Rattle.std.proofs.Common.{below_more, get_or-set_other, get_or-set_same, length-set}
use Rattle.std.proofs.Common.{not, [], ◌∷◌, inl, inr, ext_get_or}
use Rattle.std.specs.Prelude.{◌||◌, All, Contains, slice_get}
use Rattle.std.specs.List.{list_any}
use Rattle.std.proofs.lemmas.Bool.{both_ways, or_cases, or_left, eqb-true, eq-eqb}
use Rattle.std.proofs.lemmas.List.Elements.{All-set, All-head, All-tail}
use Rattle.net_model.specs.Stimuli.{AreInputs}
use Rattle.net_model.proofs.Members.{In, In-from_Contains}
use Rattle.net_model.specs.Netlist.{AllBelow, setting_inputs}
use Rattle.net_model.specs.Cycles.{bit_at}
use Rattle.net_model.specs.Held.{sets, is_held, free_below}
use Rattle.net_model.specs.declared.netlist.Design.{Design}
use Rattle.net_model.specs.declared.netlist.Fixed.{Fixed}
use Rattle.net_sim.specs.Settings.{set_bit, AreApart}
use Rattle.net_sim.proofs.SettingsPut.{SettingsDone, settings_more}
use Rattle.and_graphs.specs.Graphs.{IsIn, Means, bit_of}
use Rattle.and_graphs.specs.declared.graphs.AndGraph.{AndGraph}
use Rattle.claim_monitor.specs.Shown.{AreIn, shown_row}
use Rattle.claim_monitor.proofs.Showing.{shown_set, length-shown_row}

pub free_below-zero : (d : Design) → free_below d 0 ≡ 0
unfolding free_below
free_below-zero d = refl

pub free_below-more : (d : Design) (k : ℕ) → free_below d (k + 1) ≡ free_below d k + (if is_held d k then 0 else 1)
unfolding free_below
free_below-more d k = let e : k + 1 ≡ suc k = omega arith in ap (free_below d) e ∙ refl

pub free_more : (d : Design) (k : ℕ) → is_held d k ≡ false → free_below d (k + 1) ≡ free_below d k + 1
free_more d k free = free_below-more d k ∙ ap (λ (b : Bool). free_below d k + (if b then 0 else 1)) free

pub held_more : (d : Design) (k : ℕ) → is_held d k ≡ true → free_below d (k + 1) ≡ free_below d k
held_more d k held =
    let e = ap (λ (b : Bool). free_below d k + (if b then 0 else 1)) held in omega (arith, free_below-more d k, e)

-- there are no fewer free inputs below a later one
pub free_below_grows : (d : Design) (k n : ℕ) → free_below d k ≤ free_below d (k + n)
free_below_grows d k zero = let e : k + 0 ≡ k = omega arith in rw e (omega arith)
free_below_grows d k (suc n) =
    let e : k + suc n ≡ k + n + 1 = omega arith in
    let more = free_below-more d (k + n) in
    let go = free_below_grows d k n in
    rw e (omega arith)

-- a free input has a place among those in front
pub free_low : (d : Design) (k n : ℕ) → k < n → is_held d k ≡ false → free_below d k < free_below d n
free_low d k n low free =
    let grows = free_below_grows d (k + 1) (n - (k + 1)) in
    let e : k + 1 + (n - (k + 1)) ≡ n = omega arith in
    let more = free_more d k free in
    omega (arith, ap (free_below d) e)

-- no more are free than there are
pub free_most : (d : Design) (k : ℕ) → free_below d k ≤ k
free_most d zero = let e = free_below-zero d in omega arith
free_most d (suc k) =
    let e : suc k ≡ k + 1 = omega arith in
    let go = free_most d k in
    let more = free_below-more d k in
    rw e (elim (is_held d k) as (λ (b : Bool). free_below d (k + 1) ≡ free_below d k + (if b then 0 else 1) → free_below d (k + 1) ≤ k + 1) [
      | true ↦ λ same. omega arith
      | false ↦ λ same. omega arith
    ] more)

-- the free ones of the first k inputs have their literals
pub record FreeDone (g : AndGraph) (d : Design) (ins : List ℕ) (k : ℕ) : Type 0 where
  pub len : length ins ≡ length d.inputs
  pub in_ : AreIn g ins
  pub free : (x : List Bool) → length x ≡ g.front → (i : ℕ) → i < k → is_held d i ≡ false → bit_at (shown_row g x ins) i ≡ bit_at x (free_below d i)

pub free_put : (g : AndGraph) (d : Design) (ins : List ℕ) (k l : ℕ) → k < length d.inputs → Means g l (λ x. bit_at x (free_below d k)) → FreeDone g d ins k
    → FreeDone g d (set ins k l) (k + 1)
free_put g d ins k l low means done =
    record {
      len = length-set ins k l ∙ done.len;
      in_ = All-set (IsIn g) ins k l means.here done.in_;
      free = λ x len.
          let row = shown_row g x ins in
          let size = length-shown_row g x ins in
          let within : k < length row = let same = done.len in omega arith in
          rw (shown_set g x ins k l) (below_more (λ i. is_held d i ≡ false → bit_at (set row k (bit_of g x l)) i ≡ bit_at x (free_below d i)) k
          (λ i lt is. let other : i ≢ k = omega arith in get_or-set_other row k i (bit_of g x l) false other ∙ done.free x len i lt is)
          (λ is. get_or-set_same row k (bit_of g x l) false within ∙ means.bit x len));
    }

pub free_passed : (g : AndGraph) (d : Design) (ins : List ℕ) (k : ℕ) → is_held d k ≡ true → FreeDone g d ins k → FreeDone g d ins (k + 1)
free_passed g d ins k held done =
    record {
      len = done.len;
      in_ = done.in_;
      free = λ x len. below_more (λ i. is_held d i ≡ false → bit_at (shown_row g x ins) i ≡ bit_at x (free_below d i)) k (done.free x len)
          (λ is. let no : true ≡ false = sym held ∙ is in cc);
    }

neither_right : (a b : Bool) → (a || b) ≡ false → b ≡ false
neither_right true b none = cc
neither_right false b none = none

neither_left : (a b : Bool) → (a || b) ≡ false → a ≡ false
neither_left true b none = none
neither_left false b none = refl

-- an input that no setting is of is not listed
not_listed : (settings : List Fixed) (input : ℕ) → list_any (sets input) settings ≡ false → ¬ Contains (setting_inputs settings) input
not_listed settings input none has = absent settings none (In-from_Contains (setting_inputs settings) input has) where
  absent : (fs : List Fixed) → list_any (sets input) fs ≡ false → In input (setting_inputs fs) → ⊥
  absent [] none has = absurd has
  absent (f ∷ fs) none (inl same) = both_ways (sets input f || list_any (sets input) fs) none (or_left _ _ (eq-eqb f.input input same))
  absent (f ∷ fs) none (inr more) = absent fs (neither_right (sets input f) (list_any (sets input) fs) none) more

-- an input that is not held is neither fixed nor reset
pub not_fixed : (d : Design) (input : ℕ) → is_held d input ≡ false → ¬ Contains (setting_inputs d.fixed) input
not_fixed d input free = not_listed d.fixed input (neither_left (list_any (sets input) d.fixed) (list_any (sets input) d.resets) free)

pub not_reset : (d : Design) (input : ℕ) → is_held d input ≡ false → ¬ Contains (setting_inputs d.resets) input
not_reset d input free = not_listed d.resets input (neither_right (list_any (sets input) d.fixed) (list_any (sets input) d.resets) free)

-- where a setting is of an input, the input has one bit in rows that are as the settings have them
set_same : (value : Fixed → Bool) (input : ℕ) (settings : List Fixed) (a b : List Bool) → All (λ (s : Fixed). bit_at a s.input ≡ value s) settings
    → All (λ (s : Fixed). bit_at b s.input ≡ value s) settings → list_any (sets input) settings ≡ true → bit_at a input ≡ bit_at b input
set_same value input [] a b p q some = cc
set_same value input (s ∷ rest) a b p q some =
    elim (or_cases (sets input s) (list_any (sets input) rest) some) [
      | inl here ↦
          let e : s.input ≡ input = eqb-true s.input input here in
          let both : bit_at a s.input ≡ bit_at b s.input = All-head (λ (t : Fixed). bit_at a t.input ≡ value t) s rest p ∙
          sym (All-head (λ (t : Fixed). bit_at b t.input ≡ value t) s rest q) in
          subst (λ (k : ℕ). bit_at a k ≡ bit_at b k) e both
      | inr later ↦ set_same value input rest a b (All-tail (λ (t : Fixed). bit_at a t.input ≡ value t) s rest p)
          (All-tail (λ (t : Fixed). bit_at b t.input ≡ value t) s rest q) later
    ]

-- lawful input bits are one row where the free ones agree
pub inputs_same : (d : Design) (active : Bool) (a b : List Bool) → AreInputs d active a → AreInputs d active b
    → ((i : ℕ) → i < length d.inputs → is_held d i ≡ false → bit_at a i ≡ bit_at b i) → a ≡ b
inputs_same d active a b p q free =
    ext_get_or false a b (p.count ∙ sym q.count)
    (λ k within. by k (omega (arith, p.count)) (list_any (sets k) d.fixed) refl (list_any (sets k) d.resets) refl) where
      by : (k : ℕ) → k < length d.inputs → (fixed : Bool) → list_any (sets k) d.fixed ≡ fixed → (reset : Bool) → list_any (sets k) d.resets ≡ reset
          → bit_at a k ≡ bit_at b k
      by k low true is reset e = set_same (λ s. s.value) k d.fixed a b p.fixed q.fixed is
      by k low false is true e = set_same (λ s. if active then s.value else not s.value) k d.resets a b p.resets q.resets e
      by k low false is false e = let none : is_held d k ≡ false = rw (is, e) refl in free k low none

-- the first k settings have their literals
pub record SettingLitsDone (settings : List Fixed) (active : ℕ) (start ins : List ℕ) (k : ℕ) : Type 0 where
  pub len : length ins ≡ length start
  pub in_ : (g : AndGraph) (a : List Bool → Bool) → Means g active a → AreIn g start → AreIn g ins
  pub bits : (g : AndGraph) (a : List Bool → Bool) (x : List Bool) → Means g active a → length x ≡ g.front
      → SettingsDone settings (a x) (shown_row g x start) (shown_row g x ins) k

pub setting_lits_none : (settings : List Fixed) (active : ℕ) (ins : List ℕ) → SettingLitsDone settings active ins ins 0
setting_lits_none settings active ins =
    record {
      len = refl;
      in_ = λ g a m all. all;
      bits = λ g a x m len. record { len = refl; put = λ j lt. absurd (omega arith); others = λ i out. refl };
    }

pub setting_lits_more : (settings : List Fixed) (active : ℕ) (start ins : List ℕ) (k l : ℕ) (t : Fixed) → AllBelow (length start) (setting_inputs settings)
    → AreApart settings → slice_get settings k ≡ Some t
    → ((g : AndGraph) (a : List Bool → Bool) → Means g active a → Means g l (λ x. set_bit (a x) t)) → SettingLitsDone settings active start ins k
    → SettingLitsDone settings active start (set ins t.input l) (k + 1)
setting_lits_more settings active start ins k l t below apart at means done =
    record {
      len = length-set ins t.input l ∙ done.len;
      in_ = λ g a m all. All-set (IsIn g) ins t.input l (means g a m).here (done.in_ g a m all);
      bits = λ g a x m len.
          let size : length (shown_row g x start) ≡ length start = length-shown_row g x start in
          let low : AllBelow (length (shown_row g x start)) (setting_inputs settings) = subst (λ (n : ℕ). AllBelow n (setting_inputs settings)) (sym size) below in
          subst (λ (row : List Bool). SettingsDone settings (a x) (shown_row g x start) row (k + 1)) (sym (shown_set g x ins t.input l))
          (settings_more settings (a x) (shown_row g x start) (shown_row g x ins) k t (bit_of g x l) low apart at ((means g a m).bit x len) (done.bits g a x m len));
    }
