-- Cycles exist in which all free bits are as they are given.
use Rattle.std.proofs.Common.{◌≡◌, ◌≢◌, ℕ, zero, suc, ◌+◌, ◌<◌, Bool, List, [], ◌∷◌, length, Option, Some, None, refl, ap, subst, sym, ◌∙◌, arith}
use Rattle.std.proofs.Common.{All, get_or}
use Rattle.std.specs.Prelude.{slice_get, nat_lt, Contains}
use Rattle.std.proofs.lemmas.Bool.{le-ltb}
use Rattle.std.proofs.lemmas.Bool.Decides.{nat_tests}
use Rattle.std.proofs.lemmas.List.Elements.{All-nil, All-cons, All-contains, Contains-append_left, Contains-append_right}
use Rattle.std.proofs.lemmas.Option.{slice_get-get_or}
use Rattle.net_model.specs.Netlist.{IsSound, setting_inputs, held_inputs}
use Rattle.net_model.specs.Cycles.{bit_at, capture, IsSettled, IsNext}
use Rattle.net_model.specs.Stimuli.{AreInputs}
use Rattle.net_model.specs.Queries.{live_of}
use Rattle.net_model.proofs.Existence.{item_at, settled_exists}
use Rattle.net_model.proofs.OneRun.{bits_exist}
use Rattle.net_model.proofs.Stimulating.{stimulus_exists}
use Rattle.net_model.specs.declared.netlist.Design.{Design}
use Rattle.net_model.specs.declared.netlist.Fixed.{Fixed}
use Rattle.net_model.specs.declared.cycles.Cycle.{Cycle}
use Rattle.net_model.specs.declared.claims.End.TheVariants.{Reg as RegEnd}
use Rattle.net_model.specs.declared.queries.Phase.{Phase}
use Rattle.net_model.specs.declared.queries.Phase.TheVariants.{Base, Step}
use Rattle.query_model.specs.Defined.{set_in}
use Rattle.verdicts.proofs.HeldInputs.{has_setting}

-- cycles from these register bits on, with the input bits that are given for each number
pub record AreCyclesFrom (d : Design) (bits : List Bool) (ins : ℕ → List Bool) (count : ℕ) (run : List Cycle) : Type 0 where
  pub long : length run ≡ count
  pub settled : All (IsSettled d) run
  pub next : (t : ℕ) (before c : Cycle) → slice_get run t ≡ Some before → slice_get run (t + 1) ≡ Some c → IsNext d before c
  pub first : (c : Cycle) → slice_get run 0 ≡ Some c → c.bits ≡ bits
  pub inputs : (t : ℕ) (c : Cycle) → slice_get run t ≡ Some c → c.ins ≡ ins t

later_next : (d : Design) (c : Cycle) (bits : List Bool) (ins : ℕ → List Bool) (count : ℕ) (run : List Cycle)
    → ((r : ℕ) → r < length d.regs → bit_at bits r ≡ capture d (RegEnd r) c) → AreCyclesFrom d bits ins count run → (t : ℕ) (before after : Cycle)
    → slice_get (c ∷ run) t ≡ Some before → slice_get (c ∷ run) (t + 1) ≡ Some after → IsNext d before after
later_next d c bits ins count run captured are zero before after at then =
    let same : c ≡ before = cc in
    subst (λ (x : Cycle). IsNext d x after) same (λ r low. ap (λ (xs : List Bool). bit_at xs r) (are.first after then) ∙ captured r low)
later_next d c bits ins count run captured are (suc t) before after at then =
    let e : suc t + 1 ≡ suc (t + 1) = omega arith in
    are.next t before after at (subst (λ (i : ℕ). slice_get (c ∷ run) i ≡ Some after) e then)

later_inputs : (d : Design) (c : Cycle) (bits : List Bool) (ins : ℕ → List Bool) (count : ℕ) (run : List Cycle) → c.ins ≡ ins 0
    → AreCyclesFrom d bits (λ t. ins (suc t)) count run → (t : ℕ) (x : Cycle) → slice_get (c ∷ run) t ≡ Some x → x.ins ≡ ins t
later_inputs d c bits ins count run here are zero x at = let same : c ≡ x = cc in ap (λ (y : Cycle). y.ins) (sym same) ∙ here
later_inputs d c bits ins count run here are (suc t) x at = are.inputs t x at

pub cycles_exist : (d : Design) (bits : List Bool) (ins : ℕ → List Bool) (count : ℕ) → IsSound d → length bits ≡ length d.regs
    → ((t : ℕ) → length (ins t) ≡ length d.inputs) → (run : List Cycle) × AreCyclesFrom d bits ins count run
cycles_exist d bits ins zero sound wide each = (
  [],
  record {
    long = refl;
    settled = All-nil (IsSettled d);
    next = λ t before c at. cc;
    first = λ c at. cc;
    inputs = λ t c at. cc;
  },
)
cycles_exist d bits ins (suc count) sound wide each =
    let nets = settled_exists d bits (ins 0) sound wide (each 0) in
    let c : Cycle = record { bits = bits; ins = ins 0; nets = nets.0 } in
    let next = bits_exist (λ r. capture d (RegEnd r) c) (length d.regs) in
    let more = cycles_exist d next.0 (λ t. ins (suc t)) count sound next.1 (λ t. each (suc t)) in (
      c ∷ more.0,
      record {
        long = omega (arith, more.1.long);
        settled = All-cons (IsSettled d) c more.0 nets.1 more.1.settled;
        next = later_next d c next.0 (λ t. ins (suc t)) count more.0 next.2 more.1;
        first = λ other at. let same : c ≡ other = cc in ap (λ (x : Cycle). x.bits) (sym same);
        inputs = later_inputs d c next.0 ins count more.0 refl more.1;
      },
    )

-- each cycle of a phase has lawful input bits
pub lawful_exist : (d : Design) (phase : Phase) (t : ℕ) → IsSound d → (ins : List Bool) × AreInputs d (nat_lt t (live_of d phase)) ins
lawful_exist d Base t sound =
    let made = stimulus_exists d (t + 1) sound (omega arith) in
    let row = item_at made.stimulus.inputs t (omega (arith, made.count)) in
    (row.0, made.lawful.inputs t row.0 row.1)
lawful_exist d Step t sound =
    let made = stimulus_exists d (d.reset_len + 1) sound (omega arith) in
    let row = item_at made.stimulus.inputs d.reset_len (omega (arith, made.count)) in
    let off : nat_lt d.reset_len d.reset_len ≡ nat_lt t 0 = le-ltb d.reset_len d.reset_len (omega arith) ∙ sym (le-ltb t 0 (omega arith)) in
    (row.0, subst (λ (active : Bool). AreInputs d active row.0) off (made.lawful.inputs d.reset_len row.0 row.1))

-- fixed and reset inputs are inputs of the design
held_low : (d : Design) (i : ℕ) → IsSound d → Contains (held_inputs d) i → i < length d.inputs
held_low d i sound has = All-contains (λ n. n < length d.inputs) (held_inputs d) i sound.in_range.held has

fixed_low : (d : Design) (k : ℕ) (f : Fixed) → IsSound d → slice_get d.fixed k ≡ Some f → f.input < length d.inputs
fixed_low d k f sound at =
    held_low d f.input sound (Contains-append_left (setting_inputs d.fixed) (setting_inputs d.resets) f.input (has_setting d.fixed k f f.input at refl))

reset_low : (d : Design) (k : ℕ) (f : Fixed) → IsSound d → slice_get d.resets k ≡ Some f → f.input < length d.inputs
reset_low d k f sound at =
    held_low d f.input sound (Contains-append_right (setting_inputs d.fixed) (setting_inputs d.resets) f.input (has_setting d.resets k f f.input at refl))

-- an input that a setting of the list names is set by the list
is_set : (fs : List Fixed) (k : ℕ) (f : Fixed) → slice_get fs k ≡ Some f → set_in fs f.input ≢ None
is_set [] k f at none = cc
is_set (x ∷ fs) zero f at none =
    let same : x ≡ f = cc in
    let input : x.input ≡ f.input = ap (λ (y : Fixed). y.input) same in
    grind (arith, nat_tests)
is_set (x ∷ fs) (suc k) f at none =
    let rest = is_set fs k f at in
    grind (arith, nat_tests)

-- a bit where neither list sets the input, and else another
abbrev where_free : Option Bool → Option Bool → Bool → Bool → Bool
where_free None None bit held = bit
where_free None (Some r) bit held = held
where_free (Some f) reset bit held = held

where_fixed : (fixed reset : Option Bool) (bit held : Bool) → fixed ≢ None → where_free fixed reset bit held ≡ held
where_fixed None reset bit held some = absurd (some refl)
where_fixed (Some f) reset bit held some = refl

where_reset : (fixed reset : Option Bool) (bit held : Bool) → reset ≢ None → where_free fixed reset bit held ≡ held
where_reset None None bit held some = absurd (some refl)
where_reset None (Some r) bit held some = refl
where_reset (Some f) reset bit held some = refl

where_none : (fixed reset : Option Bool) (bit held : Bool) → fixed ≡ None → reset ≡ None → where_free fixed reset bit held ≡ bit
where_none None None bit held fixed reset = refl
where_none None (Some r) bit held fixed reset = absurd cc
where_none (Some f) reset bit held fixed is = absurd cc

-- lawful input bits of a cycle, which are as they are given for inputs that are neither fixed nor reset
pub record AreInputsFor (d : Design) (active : Bool) (bit : ℕ → Bool) (ins : List Bool) : Type 0 where
  pub lawful : AreInputs d active ins
  pub free : (i : ℕ) → i < length d.inputs → set_in d.fixed i ≡ None → set_in d.resets i ≡ None → bit_at ins i ≡ bit i

pub inputs_for : (d : Design) (active : Bool) (bit : ℕ → Bool) (row : List Bool) → IsSound d → AreInputs d active row
    → (ins : List Bool) × AreInputsFor d active bit ins
inputs_for d active bit row sound is =
    let chosen : ℕ → Bool = λ i. where_free (set_in d.fixed i) (set_in d.resets i) (bit i) (bit_at row i) in
    let made = bits_exist chosen (length d.inputs) in (
      made.0,
      record {
        lawful =
            record {
              count = made.1;
              fixed = λ k o within.
                  let f = get_or d.fixed k o in
                  let at : slice_get d.fixed k ≡ Some f = slice_get-get_or d.fixed k o within in
                  made.2 f.input (fixed_low d k f sound at)
                  ∙ (where_fixed (set_in d.fixed f.input) (set_in d.resets f.input) (bit f.input) (bit_at row f.input) (is_set d.fixed k f at)
                  ∙ is.fixed k o within);
              resets = λ k o within.
                  let f = get_or d.resets k o in
                  let at : slice_get d.resets k ≡ Some f = slice_get-get_or d.resets k o within in
                  made.2 f.input (reset_low d k f sound at)
                  ∙ (where_reset (set_in d.fixed f.input) (set_in d.resets f.input) (bit f.input) (bit_at row f.input) (is_set d.resets k f at)
                  ∙ is.resets k o within);
            };
        free = λ i low fixed reset.
            made.2 i low ∙ where_none (set_in d.fixed i) (set_in d.resets i) (bit i) (bit_at row i) fixed reset;
      },
    )
