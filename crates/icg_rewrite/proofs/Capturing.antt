-- What registers with enables capture, and whether clock gates pass.
use Rattle.std.proofs.Common.{◌≡◌, ℕ, ◌+◌, ◌<◌, Bool, true, false, not, ◌&&◌, ◌||◌, List, [], ◌∷◌, ◌++◌, length, refl, ap, sym, ◌∙◌, arith, inl, inr}
use Rattle.std.specs.Prelude.{Option, Some, None, option_map, nat_lt, if◌then◌else◌, slice_index}
use Rattle.std.proofs.lemmas.Bool.{cases_lt}
use Rattle.std.proofs.lemmas.Bool.Decides.{nat_tests}
use Rattle.std.proofs.lemmas.List.{get_or_append_left, get_or-append-add, length_push}
use Rattle.net_model.specs.Form.{Form, ZeroForm, OneForm, PinForm, NotForm, AndForm, OrForm, XorForm, value, IsOver}
use Rattle.net_model.specs.FormLaws.{value_agrees}
use Rattle.net_model.specs.Netlist.{AllBelow, IsOptionOver}
use Rattle.net_model.specs.Mentions.{IsRegOver}
use Rattle.net_model.specs.Cycles.{bit_at, gate_pins, reg_pins, value_if_any, reg_capture}
use Rattle.net_model.proofs.RegCaptures.{capture_agrees}
use Rattle.net_model.specs.declared.netlist.Reg.{Reg}
use Rattle.icg_rewrite.specs.Rewritten.{raised, gated_reg, enable_func, enable_ins}
use Rattle.icg_rewrite.specs.Runs.{passes, gated_capture}

-- a net of the design has its bit where more bits follow
pub old_net : (n : ℕ) (nets row : List Bool) (net : ℕ) → length nets ≡ n → net < n → bit_at (nets ++ row) net ≡ bit_at nets net
old_net n nets row net len lt = get_or_append_left nets row false net (omega (arith, len))

-- the net of a clock gate has the gate's bit
pub new_net : (n : ℕ) (nets row : List Bool) (k : ℕ) → length nets ≡ n → bit_at (nets ++ row) (n + k) ≡ bit_at row k
new_net n nets row k len = ap (λ (m : ℕ). bit_at (nets ++ row) (m + k)) (sym len) ∙ get_or-append-add nets row k false

-- pins on nets of the design read what they read
pub old_pin : (n : ℕ) (nets row : List Bool) (ins : List ℕ) (i : ℕ) → length nets ≡ n → AllBelow n ins → i < length ins
    → gate_pins ins (nets ++ row) i ≡ gate_pins ins nets i
old_pin n nets row ins i len below lt = old_net n nets row (slice_index ins i) len (below i 0 lt)

-- so do the pins before a last one
front_pin : (n : ℕ) (nets row : List Bool) (ins : List ℕ) (last i : ℕ) → length nets ≡ n → AllBelow n ins → i < length ins
    → gate_pins (ins ++ last ∷ []) (nets ++ row) i ≡ gate_pins ins nets i
front_pin n nets row ins last i len below lt =
    ap (λ (net : ℕ). bit_at (nets ++ row) net) (get_or_append_left ins (last ∷ []) 0 i lt) ∙ old_pin n nets row ins i len below lt

-- a last pin on the net of a clock gate reads the gate's bit
last_pin : (n : ℕ) (nets row : List Bool) (ins : List ℕ) (k : ℕ) → length nets ≡ n → gate_pins (ins ++ (n + k) ∷ []) (nets ++ row) (length ins) ≡ bit_at row k
last_pin n nets row ins k len =
    let here : length ins ≡ length ins + 0 = omega arith in
    ap (λ (i : ℕ). gate_pins (ins ++ (n + k) ∷ []) (nets ++ row) i) here
    ∙ ap (λ (net : ℕ). bit_at (nets ++ row) net) (get_or-append-add ins ((n + k) ∷ []) 0 0)
    ∙ new_net n nets row k len

-- a function of nets of the design has its value
pub old_value : (n : ℕ) (nets row : List Bool) (f : Form) (ins : List ℕ) → length nets ≡ n → AllBelow n ins → IsOver (length ins) f
    → value f (gate_pins ins (nets ++ row)) ≡ value f (gate_pins ins nets)
old_value n nets row f ins len below over =
    value_agrees f (length ins) (gate_pins ins (nets ++ row)) (gate_pins ins nets) over (λ i lt. old_pin n nets row ins i len below lt)

and_one : (b : Bool) → b ≡ (b && true)
and_one true = refl
and_one false = refl

-- the gate of a clock gate tells whether it passes
pub enable_value : (n : ℕ) (nets row : List Bool) (f : Form) (ins : List ℕ) (parent : Option ℕ) → length nets ≡ n → AllBelow n ins → IsOver (length ins) f
    → value (enable_func (length ins) f parent) (gate_pins (enable_ins n ins parent) (nets ++ row)) ≡ (value f (gate_pins ins nets) && passes row parent)
enable_value n nets row f ins None len below over = old_value n nets row f ins len below over ∙ and_one (value f (gate_pins ins nets))
enable_value n nets row f ins (Some p) len below over =
    let own = value_agrees f (length ins) (gate_pins (ins ++ (n + p) ∷ []) (nets ++ row)) (gate_pins ins nets) over
    (λ i lt. front_pin n nets row ins (n + p) i len below lt) in
    let parent = last_pin n nets row ins p len in
    ap (λ (b : Bool). b && gate_pins (ins ++ (n + p) ∷ []) (nets ++ row) (length ins)) own
    ∙ ap (λ (b : Bool). value f (gate_pins ins nets) && b) parent

-- what a register's pin reads
pin_within : (ins : List ℕ) (nets : List Bool) (own : Bool) (i : ℕ) → i < length ins → reg_pins ins nets own i ≡ gate_pins ins nets i
pin_within ins nets own i lt = let hit : nat_lt i (length ins) ≡ true = grind (arith, nat_tests) in rw hit refl

-- the place after the pins reads the own bit
pin_after : (ins : List ℕ) (nets : List Bool) (own : Bool) (i : ℕ) → i ≡ length ins → reg_pins ins nets own i ≡ own
pin_after ins nets own i is = let miss : nat_lt i (length ins) ≡ false = grind (arith, nat_tests) in rw miss refl

-- a function with a new place before place w has its value, where the other places read what they read
raised_place : (w i : ℕ) (a b : ℕ → Bool) → i < w + 1 → ((j : ℕ) → j < w → b j ≡ a j) → b (w + 1) ≡ a w
    → b (if nat_lt i w then i else i + 1) ≡ a i
raised_place w i a b over below own = elim (cases_lt i w) [
  | inl lt ↦ let hit : nat_lt i w ≡ true = grind (arith, nat_tests) in rw hit (below i lt)
  | inr le ↦
      let miss : nat_lt i w ≡ false = grind (arith, nat_tests) in
      let here : i ≡ w = omega arith in
      rw (miss, here) own
]

pub value-raised : (w : ℕ) (f : Form) (a b : ℕ → Bool) → IsOver (w + 1) f → ((j : ℕ) → j < w → b j ≡ a j) → b (w + 1) ≡ a w
    → value (raised w f) b ≡ value f a
value-raised w ZeroForm a b over below own = refl
value-raised w OneForm a b over below own = refl
value-raised w (PinForm i) a b over below own = raised_place w i a b over below own
value-raised w (NotForm f) a b over below own = ap not (value-raised w f a b over below own)
value-raised w (AndForm f g) a b over below own =
    let l = value-raised w f a b over.0 below own in let r = value-raised w g a b over.1 below own in cc
value-raised w (OrForm f g) a b over below own =
    let l = value-raised w f a b over.0 below own in let r = value-raised w g a b over.1 below own in cc
value-raised w (XorForm f g) a b over below own =
    let l = value-raised w f a b over.0 below own in let r = value-raised w g a b over.1 below own in cc

-- so has a control
control_raised : (w : ℕ) (f : Option Form) (a b : ℕ → Bool) → IsOptionOver (w + 1) f → ((j : ℕ) → j < w → b j ≡ a j) → b (w + 1) ≡ a w
    → value_if_any (option_map (raised w) f) b ≡ value_if_any f a
control_raised w None a b over below own = refl
control_raised w (Some f) a b over below own = value-raised w f a b over below own

-- the next state or the own bit, by the enable
by_enable : (en next own : Bool) → ((en && next) || (not en && own)) ≡ (if en then next else own)
by_enable true true own = refl
by_enable true false own = refl
by_enable false next true = refl
by_enable false next false = refl

-- what a register with an enable captures, by the bit of its enable
captured_by : (reg : Reg) (clear preset next own : Bool) (a : ℕ → Bool) (en : Bool) → clear ≡ value_if_any reg.clear a → preset ≡ value_if_any reg.preset a
    → next ≡ value reg.next a → own ≡ a (length reg.ins)
    → (if clear && preset then reg.both else (if clear then false else (if preset then true else (if en then next else own)))) ≡ gated_capture en reg a
captured_by reg clear preset next own a true c p n o = rw (c, p, n) refl
captured_by reg clear preset next own a false c p n o = rw (c, p, o) refl

-- a register with an enable captures what a register behind its clock gate does
pub captured : (n : ℕ) (nets row : List Bool) (reg : Reg) (gate : Option ℕ) (own : Bool) → length nets ≡ n → AllBelow n reg.ins
    → IsRegOver (length reg.ins + 1) reg
    → reg_capture (gated_reg n reg gate) (reg_pins (gated_reg n reg gate).ins (nets ++ row) own)
    ≡ gated_capture (passes row gate) reg (reg_pins reg.ins nets own)
captured n nets row reg None own len below over =
    capture_agrees reg (length reg.ins + 1) (reg_pins reg.ins (nets ++ row) own) (reg_pins reg.ins nets own) over.next over.clear over.preset
    (λ i lt. elim (cases_lt i (length reg.ins)) [
      | inl less ↦
          pin_within reg.ins (nets ++ row) own i less
          ∙ (old_pin n nets row reg.ins i len below less ∙ sym (pin_within reg.ins nets own i less))
      | inr le ↦
          let here : i ≡ length reg.ins = omega arith in pin_after reg.ins (nets ++ row) own i here ∙ sym (pin_after reg.ins nets own i here)
    ])
captured n nets row reg (Some k) own len below over =
    let long : length (reg.ins ++ (n + k) ∷ []) ≡ length reg.ins + 1 = length_push reg.ins (n + k) in
    let a : ℕ → Bool = reg_pins reg.ins nets own in
    let b : ℕ → Bool = reg_pins (reg.ins ++ (n + k) ∷ []) (nets ++ row) own in
    let front : (j : ℕ) → j < length reg.ins → b j ≡ a j =
    λ j lt. pin_within (reg.ins ++ (n + k) ∷ []) (nets ++ row) own j (omega (arith, long))
    ∙ (front_pin n nets row reg.ins (n + k) j len below lt ∙ sym (pin_within reg.ins nets own j lt)) in
    let last : b (length reg.ins + 1) ≡ own = pin_after (reg.ins ++ (n + k) ∷ []) (nets ++ row) own (length reg.ins + 1) (sym long) in
    let here : a (length reg.ins) ≡ own = pin_after reg.ins nets own (length reg.ins) refl in
    let enable : b (length reg.ins) ≡ bit_at row k =
    pin_within (reg.ins ++ (n + k) ∷ []) (nets ++ row) own (length reg.ins) (omega (arith, long)) ∙ last_pin n nets row reg.ins k len in
    let same : b (length reg.ins + 1) ≡ a (length reg.ins) = last ∙ sym here in
    let clear = control_raised (length reg.ins) reg.clear a b over.clear front same in
    let preset = control_raised (length reg.ins) reg.preset a b over.preset front same in
    let next = value-raised (length reg.ins) reg.next a b over.next front same in
    rw (by_enable (b (length reg.ins)) (value (raised (length reg.ins) reg.next) b) (b (length reg.ins + 1)), enable)
    (captured_by reg (value_if_any (option_map (raised (length reg.ins)) reg.clear) b) (value_if_any (option_map (raised (length reg.ins)) reg.preset) b)
    (value (raised (length reg.ins) reg.next) b) (b (length reg.ins + 1)) a (bit_at row k) clear preset next same)
