-- Each sound design has a lawful stimulus of each length.
use Rattle.std.proofs.Common.{◌≡◌, ◌≢◌, ℕ, zero, suc, ◌+◌, ◌<◌, ◌≤◌, Bool, false, not, List}
use Rattle.std.proofs.Common.{[], ◌∷◌, length, get_or, replicate, Some, refl, ap, subst, ◌∙◌, arith, inl, inr}
use Rattle.std.specs.Prelude.{count_by, slice_get, nat_lt, if◌then◌else◌, ◌==◌}
use Rattle.std.proofs.lemmas.Bool.{cases_eq}
use Rattle.std.proofs.lemmas.Bool.Decides.{nat_tests}
use Rattle.std.proofs.lemmas.List.{length-replicate}
use Rattle.std.proofs.lemmas.Option.{slice_get-get_or}
use Rattle.net_model.specs.Netlist.{IsSound, setting_inputs, held_inputs}
use Rattle.net_model.specs.Stimuli.{AreInputs, IsLawful, HasStimulus}
use Rattle.net_model.proofs.Order.{count_append, count_cons, counted}
use Rattle.net_model.proofs.OneRun.{bits_exist, has_one_run}
use Rattle.net_model.specs.declared.netlist.Design.{Design}
use Rattle.net_model.specs.declared.netlist.Fixed.{Fixed}
use Rattle.net_model.specs.declared.cycles.Stimulus.{Stimulus}

-- the bit that the first setting of an input gives it, or else the rest
abbrev given : (Fixed → Bool) → List Fixed → ℕ → Bool → Bool
given bit [] i rest = rest
given bit (f ∷ fs) i rest = if f.input == i then bit f else given bit fs i rest

abbrev settings_of : List Fixed → ℕ → ℕ
settings_of fs i = count_by (λ m. m == i) (setting_inputs fs)

-- a setting that stands in the list is counted
counted_setting : (fs : List Fixed) (k : ℕ) (f : Fixed) → slice_get fs k ≡ Some f → 1 ≤ settings_of fs f.input
counted_setting [] k f at = cc
counted_setting (x ∷ fs) zero f at =
    let same : x ≡ f = cc in
    omega (arith, count_cons (λ m. m == f.input) x.input (setting_inputs fs), counted f.input x.input (ap (λ (y : Fixed). y.input) same))
counted_setting (x ∷ fs) (suc k) f at =
    omega (arith, count_cons (λ m. m == f.input) x.input (setting_inputs fs), counted_setting fs k f at)

given_other : (bit : Fixed → Bool) (x : Fixed) (fs : List Fixed) (i : ℕ) (rest : Bool) → x.input ≢ i → given bit (x ∷ fs) i rest ≡ given bit fs i rest
given_other bit x fs i rest apart = grind (arith, nat_tests)

given_here : (bit : Fixed → Bool) (x : Fixed) (fs : List Fixed) (i : ℕ) (rest : Bool) → x.input ≡ i → given bit (x ∷ fs) i rest ≡ bit x
given_here bit x fs i rest same = grind (arith, nat_tests)

-- an input without a setting has the rest
given_none : (bit : Fixed → Bool) (fs : List Fixed) (i : ℕ) (rest : Bool) → settings_of fs i ≡ 0 → given bit fs i rest ≡ rest
given_none bit [] i rest none = refl
given_none bit (x ∷ fs) i rest none =
    elim (cases_eq x.input i) [
      | inl same ↦ absurd (omega (arith, count_cons (λ m. m == i) x.input (setting_inputs fs), counted i x.input same, none))
      | inr apart ↦ given_other bit x fs i rest apart ∙ given_none bit fs i rest (omega (arith, count_cons (λ m. m == i) x.input (setting_inputs fs), none))
    ]

-- an input with one setting has its bit
given_one : (bit : Fixed → Bool) (fs : List Fixed) (k : ℕ) (f : Fixed) (rest : Bool) → slice_get fs k ≡ Some f → settings_of fs f.input ≤ 1
    → given bit fs f.input rest ≡ bit f
given_one bit [] k f rest at once = cc
given_one bit (x ∷ fs) zero f rest at once =
    let same : x ≡ f = cc in
    given_here bit x fs f.input rest (ap (λ (y : Fixed). y.input) same) ∙ ap bit same
given_one bit (x ∷ fs) (suc k) f rest at once =
    elim (cases_eq x.input f.input) [
      | inl same ↦ absurd (omega (
        arith,
        count_cons (λ m. m == f.input) x.input
            (setting_inputs fs),
        counted f.input x.input same,
        counted_setting fs k f at,
        once,
      ))
      | inr apart ↦ given_other bit x fs f.input rest apart ∙ given_one bit fs k f rest at
          (omega (arith, count_cons (λ m. m == f.input) x.input (setting_inputs fs), once))
    ]

abbrev fixed_bit : Fixed → Bool
fixed_bit f = f.value

abbrev reset_bit : Bool → Fixed → Bool
reset_bit active f = if active then f.value else not f.value

-- a cycle's lawful input bits
abbrev lawful_bit : Design → Bool → ℕ → Bool
lawful_bit d active i = given fixed_bit d.fixed i (given (reset_bit active) d.resets i false)

-- fixed and reset inputs are inputs, each with one setting
held_once : (d : Design) (i : ℕ) → IsSound d → 1 ≤ settings_of d.fixed i + settings_of d.resets i
    → (i < length d.inputs) × (settings_of d.fixed i + settings_of d.resets i ≤ 1)
held_once d i sound some =
    let whole = count_append (λ m. m == i) (setting_inputs d.fixed) (setting_inputs d.resets) in
    let there = Rattle.net_model.proofs.Unique.counted_contains i (held_inputs d) (omega (arith, whole, some)) in
    let low : i < length d.inputs = subst (λ (m : ℕ). m < length d.inputs) there.2 (sound.in_range.held there.0 i there.1) in
    (low, omega (arith, whole, sound.once i low))

inputs_exist : (d : Design) (active : Bool) → IsSound d → (ins : List Bool) × AreInputs d active ins
inputs_exist d active sound =
    let made = bits_exist (lawful_bit d active) (length d.inputs) in (
      made.0,
      record {
        count = made.1;
        fixed = λ k o within.
            let f = get_or d.fixed k o in
            let at : slice_get d.fixed k ≡ Some f = slice_get-get_or d.fixed k o within in
            let once = held_once d f.input sound (omega (arith, counted_setting d.fixed k f at)) in
            made.2 f.input once.0 ∙ given_one fixed_bit d.fixed k f (given (reset_bit active) d.resets f.input false) at (omega (arith, once.1));
        resets = λ k o within.
            let f = get_or d.resets k o in
            let at : slice_get d.resets k ≡ Some f = slice_get-get_or d.resets k o within in
            let some = counted_setting d.resets k f at in
            let once = held_once d f.input sound (omega (arith, some)) in
            made.2 f.input once.0
            ∙ (given_none fixed_bit d.fixed f.input (given (reset_bit active) d.resets f.input false) (omega (arith, once.1, some))
            ∙ given_one (reset_bit active) d.resets k f false at (omega (arith, once.1)));
      },
    )

-- a list whose items are made one by one
list_exists : {X : Type 0} (P : ℕ → X → Type 0) (make : (t : ℕ) → (x : X) × P t x) (n : ℕ)
    → (xs : List X) × (length xs ≡ n) × ((t : ℕ) (x : X) → slice_get xs t ≡ Some x → P t x)
list_exists {X} P make zero = ([], refl, λ t x at. cc)
list_exists {X} P make (suc n) =
    let first = make 0 in
    let rest = list_exists (λ t. P (suc t)) (λ t. make (suc t)) n in
    (first.0 ∷ rest.0, omega (arith, rest.1), each first.0 rest.0 first.1 rest.2) where
      each : (y : X) (ys : List X) → P 0 y → ((t : ℕ) (x : X) → slice_get ys t ≡ Some x → P (suc t) x) → (t : ℕ) (x : X) → slice_get (y ∷ ys) t ≡ Some x → P t x
      each y ys here later zero x at = let same : y ≡ x = cc in subst (P 0) same here
      each y ys here later (suc t) x at = later t x at

-- a sound design has a lawful stimulus of each length, with the one run that it stands for
pub stimulus_exists : (d : Design) (cycles : ℕ) → IsSound d → 1 ≤ cycles → HasStimulus d cycles
stimulus_exists d cycles sound some =
    let rows = list_exists (λ t ins. AreInputs d (nat_lt t d.reset_len) ins) (λ t. inputs_exist d (nat_lt t d.reset_len) sound) cycles in
    let s : Stimulus = record { state = replicate (length d.regs) false; inputs = rows.0 } in
    let lawful : IsLawful d s = record { state = length-replicate (length d.regs) false; some = omega (arith, rows.1); inputs = rows.2 } in
    record { stimulus = s; count = rows.1; lawful = lawful; one_run = has_one_run d s sound lawful }
