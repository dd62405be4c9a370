-- The cells of gates and registers over the bits of their places.
use Rattle.std.proofs.Common.{◌≡◌, ℕ, zero, suc, ◌+◌, ◌<◌, Bool, true, false, not, cond, List, [], ◌∷◌, ◌++◌, map, length, Option, Some, None, refl}
use Rattle.std.proofs.Common.{ap, sym, ◌∙◌, arith, inl, inr, subst}
use Rattle.std.specs.Prelude.{slice_index, slice_index_or, ◌||◌, if◌then◌else◌}
use Rattle.std.proofs.lemmas.Bool.{or_left, or_right, cases_lt, eq-eqb, cond_below, cond_above}
use Rattle.net_model.specs.Form.{Form, ZeroForm, OneForm, PinForm, NotForm, AndForm, OrForm, XorForm, value, IsOver}
use Rattle.net_model.specs.FormLaws.{value_agrees}
use Rattle.net_model.specs.Netlist.{IsRegInRange, IsOptionOver}
use Rattle.net_model.specs.Cycles.{bit_at, gate_pins, reg_pins, reg_capture, value_if_any}
use Rattle.net_model.specs.declared.netlist.Design.{Design}
use Rattle.net_model.specs.declared.netlist.Reg.{Reg}
use Rattle.query_model.specs.Tables.{on_list}
use Rattle.net_model.specs.Mentions.{mentions, mentions_if_any}
use Rattle.net_model.specs.Mentions.{reads_own}
use Rattle.query_model.specs.Defined.{with_own}
use Rattle.query_model.proofs.Told.{TellEach, LitTells}
use Rattle.query_model.specs.declared.keys.Key.{Key}
use Rattle.query_model.specs.declared.keys.KeyLit.{KeyLit}

pub mapped_at : (f : ℕ → Bool) (ins : List ℕ) (tail : List Bool) (i : ℕ) → i < length ins → slice_index_or (map f ins ++ tail) i false ≡ f (slice_index ins i)
mapped_at f [] tail i lt = absurd (omega arith)
mapped_at f (n ∷ ns) tail zero lt = refl
mapped_at f (n ∷ ns) tail (suc i) lt = mapped_at f ns tail i (omega arith)

pub mapped_end : (f : ℕ → Bool) (ins : List ℕ) (own : Bool) → slice_index_or (map f ins ++ own ∷ []) (length ins) false ≡ own
mapped_end f [] own = refl
mapped_end f (n ∷ ns) own = mapped_end f ns own

append_nil : (xs : List Bool) → xs ++ [] ≡ xs
append_nil [] = refl
append_nil (x ∷ xs) = ap (λ ys. x ∷ ys) (append_nil xs)

-- a gate's function on the list of its nets' bits
pub on_gate : (f : Form) (ins : List ℕ) (nets : List Bool) → IsOver (length ins) f → on_list (value f) (map (bit_at nets) ins) ≡ value f (gate_pins ins nets)
on_gate f ins nets over =
    value_agrees f (length ins) (λ i. slice_index_or (map (bit_at nets) ins) i false) (gate_pins ins nets) over
    (λ i lt. ap (λ xs. slice_index_or xs i false) (sym (append_nil (map (bit_at nets) ins))) ∙ mapped_at (bit_at nets) ins [] i lt)

-- a value changes with the last place only where the function mentions it
pub value_but_last : (f : Form) (n : ℕ) (a b : ℕ → Bool) → IsOver (n + 1) f → ((i : ℕ) → i < n → a i ≡ b i) → (mentions n f ≡ true → a n ≡ b n)
    → value f a ≡ value f b
value_but_last ZeroForm n a b over same last = refl
value_but_last OneForm n a b over same last = refl
value_but_last (PinForm i) n a b over same last =
    elim (cases_lt i n) [
      | inl lt ↦ same i lt
      | inr le ↦ let e : i ≡ n = omega arith in let both = last (eq-eqb i n e) in subst (λ j. a j ≡ b j) (sym e) both
    ]
value_but_last (NotForm f) n a b over same last = ap not (value_but_last f n a b over same last)
value_but_last (AndForm f g) n a b over same last =
    let l = value_but_last f n a b over.0 same (λ m. last (or_left (mentions n f) (mentions n g) m)) in
    let r = value_but_last g n a b over.1 same (λ m. last (or_right (mentions n f) (mentions n g) m)) in cc
value_but_last (OrForm f g) n a b over same last =
    let l = value_but_last f n a b over.0 same (λ m. last (or_left (mentions n f) (mentions n g) m)) in
    let r = value_but_last g n a b over.1 same (λ m. last (or_right (mentions n f) (mentions n g) m)) in cc
value_but_last (XorForm f g) n a b over same last =
    let l = value_but_last f n a b over.0 same (λ m. last (or_left (mentions n f) (mentions n g) m)) in
    let r = value_but_last g n a b over.1 same (λ m. last (or_right (mentions n f) (mentions n g) m)) in cc

if_any_but_last : (o : Option Form) (n : ℕ) (a b : ℕ → Bool) → IsOptionOver (n + 1) o → ((i : ℕ) → i < n → a i ≡ b i)
    → (mentions_if_any n o ≡ true → a n ≡ b n) → value_if_any o a ≡ value_if_any o b
if_any_but_last None n a b over same last = refl
if_any_but_last (Some f) n a b over same last = value_but_last f n a b over same last

pub capture_but_last : (d : Design) (reg : Reg) (a b : ℕ → Bool) → IsRegInRange d reg → ((i : ℕ) → i < length reg.ins → a i ≡ b i)
    → (reads_own reg ≡ true → a (length reg.ins) ≡ b (length reg.ins)) → reg_capture reg a ≡ reg_capture reg b
capture_but_last d reg a b range same last =
    let n = length reg.ins in
    let next = value_but_last reg.next n a b range.next same (λ m. last
    (or_left (mentions n reg.next) (mentions_if_any n reg.clear || mentions_if_any n reg.preset) m)) in
    let clear = if_any_but_last reg.clear n a b range.clear same (λ m.
    last (or_right (mentions n reg.next) (mentions_if_any n reg.clear || mentions_if_any n reg.preset)
    (or_left (mentions_if_any n reg.clear) (mentions_if_any n reg.preset) m))) in
    let preset = if_any_but_last reg.preset n a b range.preset same
    (λ m. last (or_right (mentions n reg.next) (mentions_if_any n reg.clear || mentions_if_any n reg.preset)
    (or_right (mentions_if_any n reg.clear) (mentions_if_any n reg.preset) m))) in
    cc

abbrev pub own_bits : Reg → Bool → List Bool → List Bool
own_bits reg own bits = bits ++ (if reads_own reg then own ∷ [] else [])

own_at : (reg : Reg) (f : ℕ → Bool) (ins : List ℕ) (own : Bool) → reads_own reg ≡ true → slice_index_or (own_bits reg own (map f ins)) (length ins) false ≡ own
own_at reg f ins own e = ap (λ (b : Bool). slice_index_or (map f ins ++ cond b (own ∷ []) []) (length ins) false) e ∙ mapped_end f ins own

-- a register's capture on the list of its nets' bits, and its own bit where it reads that
pub on_reg : (d : Design) (reg : Reg) (nets : List Bool) (own : Bool) → IsRegInRange d reg → on_list (reg_capture reg)
    (own_bits reg own (map (bit_at nets) reg.ins)) ≡ reg_capture reg (reg_pins reg.ins nets own)
on_reg d reg nets own range =
    capture_but_last d reg (λ i. slice_index_or (own_bits reg own (map (bit_at nets) reg.ins)) i false) (reg_pins reg.ins nets own) range
    (λ i lt. mapped_at (bit_at nets) reg.ins (if reads_own reg then own ∷ [] else []) i lt ∙ cond_below i (length reg.ins) (gate_pins reg.ins nets i) own lt)
    (λ m. own_at reg (bit_at nets) reg.ins own m ∙ cond_above (length reg.ins) (length reg.ins) (gate_pins reg.ins nets (length reg.ins)) own own
    (omega arith) refl)

pub tell_append : (kind : Key → Type 0) (v : Key → Bool) (ls ms : List KeyLit) (bs cs : List Bool) → TellEach kind v ls bs → TellEach kind v ms cs
    → TellEach kind v (ls ++ ms) (bs ++ cs)
tell_append kind v [] ms [] cs a b = b
tell_append kind v [] ms (c ∷ bs) cs a b = absurd a
tell_append kind v (l ∷ ls) ms [] cs a b = absurd a
tell_append kind v (l ∷ ls) ms (c ∷ bs) cs a b = (a.0, tell_append kind v ls ms bs cs a.1 b)

pub tell_own : (kind : Key → Type 0) (v : Key → Bool) (reg : Reg) (own : KeyLit) (bit : Bool) (ls : List KeyLit) (bs : List Bool)
    → LitTells kind v own bit → TellEach kind v ls bs → TellEach kind v (with_own reg own ls) (own_bits reg bit bs)
tell_own kind v reg own bit ls bs tells each =
    tell_append kind v ls (if reads_own reg then own ∷ [] else []) bs (if reads_own reg then bit ∷ [] else []) each (by_test (reads_own reg)) where
      by_test : (b : Bool) → TellEach kind v (cond b (own ∷ []) []) (cond b (bit ∷ []) [])
      by_test true = (tells, tt)
      by_test false = tt
