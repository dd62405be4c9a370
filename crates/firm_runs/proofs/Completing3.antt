-- What is known in three values is so in every completion: of the nets of a settled cycle, of layers and of captures.
use Rattle.std.proofs.Common.{◌≡◌, ℕ, zero, suc, ◌+◌, ◌<◌, ◌≤◌, Bool, true, false, if◌then◌else◌, List, [], ◌∷◌}
use Rattle.std.proofs.Common.{length, take, get_or, Option, Some, None, refl, sym, ◌∙◌, subst, arith, ◌⊎◌, inl, inr, below_more, add-one}
use Rattle.std.specs.Prelude.{Contains, slice_get, slice_index, nat_lt}
use Rattle.std.proofs.lemmas.Bool.{cases_lt, cases_eq}
use Rattle.std.proofs.lemmas.Bool.Decides.{nat_tests}
use Rattle.std.proofs.lemmas.Option.{slice_get_within, get_or_from_slice_get}
use Rattle.std.proofs.lemmas.List.Elements.{Contains-append_cases, Contains-append_right}
use borrow.Author.Tests.{ltb-true}
use Rattle.net_model.specs.Form.{value}
use Rattle.net_model.specs.FormLaws.{value_agrees}
use Rattle.net_model.specs.Netlist.{IsSound, IsGateInRange, IsRegInRange, source_nets, gate_nets, driven_nets}
use Rattle.net_model.specs.Fits.{IsEndIn}
use Rattle.net_model.specs.Cycles.{bit_at, reg_capture}
use Rattle.net_model.specs.Pins.{is_in, start_outs, start_nets}
use Rattle.net_model.specs.Layers.{net_at, held_set, pin_reads, layer_pins, late_reg_pins, late_reg_capture, capture_over, AreLayersTo}
use Rattle.net_model.specs.Ternary.{tern_of, Completes, IsCommonValue}
use Rattle.net_model.specs.Splitting.{cell_value, tern_value}
use Rattle.net_model.specs.Completions.{ReadsOnly, cell_common}
use Rattle.net_model.proofs.Settling.{All-at}
use Rattle.net_model.proofs.Order.{before}
use Rattle.net_model.proofs.Sources.{net_of}
use Rattle.net_model.proofs.LayerRows.{source_low}
use Rattle.net_model.proofs.RegCaptures.{capture_agrees}
use Rattle.net_model.proofs.Unique.{from_whole, from_taken, counted_contains}
use Rattle.net_model.specs.declared.netlist.Design.{Design}
use Rattle.net_model.specs.declared.netlist.Gate.{Gate}
use Rattle.net_model.specs.declared.netlist.Reg.{Reg}
use Rattle.net_model.specs.declared.netlist.RegOut.{RegOut}
use Rattle.net_model.specs.declared.cycles.Cycle.{Cycle}
use Rattle.net_model.specs.declared.terns.Tern.{Tern}
use Rattle.net_model.specs.declared.terns.Tern.TheVariants.{Zero, One, Unknown}
use Rattle.net_model.specs.declared.claims.PinRef.{PinRef}
use Rattle.net_model.specs.declared.claims.PinRef.TheVariants.{Net, GateIn, RegIn, OutPort}
use Rattle.net_model.specs.declared.claims.Start.{Start}
use Rattle.net_model.specs.declared.claims.End.{End}
use Rattle.net_model.specs.declared.claims.End.TheVariants.{Reg as RegEnd, Output as OutputEnd}
use Rattle.firm_runs.specs.Layers3.{late_reg_capture3, capture3_over}
use Rattle.firm_runs.specs.Cycles3.{tern_at}
use Rattle.firm_runs.specs.declared.cycles.Cycle3.{Cycle3}

-- a bit that a value may be
abbrev some_bit : Tern → Bool
some_bit Zero = false
some_bit One = true
some_bit Unknown = false

some_completes : (t : Tern) → Completes t (some_bit t)
some_completes Zero = refl
some_completes One = refl
some_completes Unknown = tt

-- a bit completes its own value
pub own_completes : (b : Bool) → Completes (tern_of b) b
own_completes true = refl
own_completes false = refl

-- these bits below n, and from there on some bit that completes the value
abbrev filled : ℕ → (ℕ → Tern) → (ℕ → Bool) → ℕ → Bool
filled n terns bits i = if nat_lt i n then bits i else some_bit (terns i)

filled_low : (n : ℕ) (terns : ℕ → Tern) (bits : ℕ → Bool) (i : ℕ) → i < n → filled n terns bits i ≡ bits i
filled_low n terns bits i lt = grind (arith, nat_tests)

filled_high : (n : ℕ) (terns : ℕ → Tern) (bits : ℕ → Bool) (i : ℕ) → n ≤ i → filled n terns bits i ≡ some_bit (terns i)
filled_high n terns bits i le = grind (arith, nat_tests)

filled_fits : (n : ℕ) (terns : ℕ → Tern) (bits : ℕ → Bool) → ((i : ℕ) → i < n → Completes (terns i) (bits i)) → (i : ℕ)
    → Completes (terns i) (filled n terns bits i)
filled_fits n terns bits fits i =
    elim (cases_lt i n) [
      | inl lt ↦ subst (Completes (terns i)) (sym (filled_low n terns bits i lt)) (fits i lt)
      | inr ge ↦ subst (Completes (terns i)) (sym (filled_high n terns bits i (omega arith))) (some_completes (terns i))
    ]

pub completes_by : (t : Tern) (b : Bool) → (t ≡ Zero → b ≡ false) → (t ≡ One → b ≡ true) → Completes t b
completes_by Zero b low high = low refl
completes_by One b low high = high refl
completes_by Unknown b low high = tt

-- what is known at one place is not both bits
pub completes_known : (b x : Bool) → Completes (tern_of b) x → x ≡ b
completes_known true x fits = fits
completes_known false x fits = fits

-- the bit of a cell completes its value, where the bits of its places complete theirs
pub cell_completes : (cell : (ℕ → Bool) → Bool) (n : ℕ) (terns : ℕ → Tern) (bits : ℕ → Bool) → n ≤ 7 → ReadsOnly n cell
    → ((i : ℕ) → i < n → Completes (terns i) (bits i)) → Completes (cell_value cell terns) (cell bits)
cell_completes cell n terns bits le over fits =
    let all = filled n terns bits in
    let same : cell all ≡ cell bits = over all bits (filled_low n terns bits) in
    let over_all : ReadsOnly 7 cell = λ a b agree. over a b (λ i lt. agree i (omega arith)) in
    let law : IsCommonValue cell terns (cell_value cell terns) = cell_common cell terns over_all in
    completes_by (cell_value cell terns) (cell bits)
    (λ is. sym same ∙ (law false).0 is all (λ i lt. filled_fits n terns bits fits i))
    (λ is. sym same ∙ (law true).0 is all (λ i lt. filled_fits n terns bits fits i))

pub moved : (x y : Tern) (p q : Bool) → x ≡ y → p ≡ q → Completes y q → Completes x p
moved x y p q e f fits = subst (λ (t : Tern). Completes t p) (sym e) (subst (Completes y) (sym f) fits)

abbrev pub CompleteAt : List (List Tern) → List (List Bool) → ℕ → ℕ → Type 0
CompleteAt a b l n = Completes (net_at Zero a l n) (net_at false b l n)

abbrev pub CompleteBelow : Design → List (List Tern) → List (List Bool) → ℕ → Type 0
CompleteBelow d a b l = (m : ℕ) → m < l → (n : ℕ) → n < d.nets → CompleteAt a b m n

pub by_test : (b : Bool) (x y : Tern) (p q : Bool) → (b ≡ true → Completes x p) → (b ≡ false → Completes y q)
    → Completes (if b then x else y) (if b then p else q)
by_test true x y p q inside outside = inside refl
by_test false x y p q inside outside = outside refl

-- so does what a pin reads
pub pin_completes : (sets : List (List PinRef)) (a : List (List Tern)) (b : List (List Bool)) (l : ℕ) (pin : PinRef) (n : ℕ)
    → ((m : ℕ) → m ≤ l → CompleteAt a b m n) → Completes (pin_reads Zero sets a l pin n) (pin_reads false sets b l pin n)
pin_completes sets a b zero pin n fits = fits 0 (omega arith)
pin_completes sets a b (suc l) pin n fits =
    by_test (is_in pin (get_or sets l [])) (pin_reads Zero sets a l pin n) (net_at Zero a (suc l) n) (pin_reads false sets b l pin n) (net_at false b (suc l) n)
    (λ is. pin_completes sets a b l pin n (λ m le. fits m (omega arith)))
    (λ is. fits (suc l) (omega arith))

pub false_true : false ≡ true → ⊥
false_true e = cc

pub true_or : (b : Bool) → (b ≡ true) ⊎ (b ≡ false)
true_or true = inl refl
true_or false = inr refl

pub not_nil : (n : ℕ) → Contains [] n → ⊥
not_nil n h = omega (arith, h.1)

not_cons : (x n : ℕ) (xs : List ℕ) → ¬ (x ≡ n) → (Contains xs n → ⊥) → Contains (x ∷ xs) n → ⊥
not_cons x n xs head rest (zero, within, same) = head same
not_cons x n xs head rest (suc k, within, same) = rest (k, omega arith, same)

pub contains_or : (xs : List ℕ) (n : ℕ) → Contains xs n ⊎ ¬ Contains xs n
contains_or [] n = inr (not_nil n)
contains_or (x ∷ xs) n =
    elim (cases_eq x n) [
      | inl here ↦ inl (0, omega arith, here)
      | inr apart ↦ elim (contains_or xs n) [
        | inl later ↦ inl (Contains-append_right (x ∷ []) xs n later)
        | inr none ↦ inr (not_cons x n xs apart none)
      ]
    ]

-- the layers in three values of a start that shows late values
abbrev pub AreTernsTo : Design → Start → List (List PinRef) → (RegOut → Tern) → List Tern → List (List Tern) → ℕ → Type 0
AreTernsTo d start sets late base rows last = AreLayersTo tern_value Zero d start sets late base rows last

-- the layers of bits
abbrev pub AreBitsTo : Design → Start → List (List PinRef) → (RegOut → Bool) → List Bool → List (List Bool) → ℕ → Type 0
AreBitsTo d start sets late base rows last = AreLayersTo value false d start sets late base rows last

-- late values and bits, and values and bits of the cycle, that complete each other
pub record AreCompleted (d : Design) (late3 : RegOut → Tern) (late : RegOut → Bool) (base3 : List Tern) (base : List Bool) : Type 0 where
  pub late_fits : (o : RegOut) → Completes (late3 o) (late o)
  pub base_fits : (n : ℕ) → n < d.nets → Completes (get_or base3 n Zero) (bit_at base n)

held_completes : (d : Design) (start : Start) (sets : List (List PinRef)) (late3 : RegOut → Tern) (late : RegOut
    → Bool) (base3 : List Tern) (base : List Bool) (a : List (List Tern)) (b : List (List Bool)) (last : ℕ) → AreTernsTo d start sets late3 base3 a last
    → AreBitsTo d start sets late base b last → (l : ℕ) → l ≤ last → CompleteBelow d a b l → (n : ℕ) → n < d.nets → is_in (Net n) (held_set sets l) ≡ true
    → CompleteAt a b l n
held_completes d start sets late3 late base3 base a b last s t zero le lower n low is = absurd (false_true is)
held_completes d start sets late3 late base3 base a b last s t (suc l) le lower n low is =
    subst (λ (m : ℕ). CompleteAt a b m n) (add-one l)
    (moved (net_at Zero a (l + 1) n) (net_at Zero a l n) (net_at false b (l + 1) n) (net_at false b l n) (s.held l (omega arith) n low is)
    (t.held l (omega arith) n low is) (lower l (omega arith) n low))

source_completes : (d : Design) (start : Start) (sets : List (List PinRef)) (late3 : RegOut → Tern) (late : RegOut
    → Bool) (base3 : List Tern) (base : List Bool) (a : List (List Tern)) (b : List (List Bool)) (last : ℕ) → IsSound d
    → AreCompleted d late3 late base3 base → AreTernsTo d start sets late3 base3 a last
    → AreBitsTo d start sets late base b last → (l : ℕ) → l ≤ last → CompleteBelow d a b l → (n : ℕ) → Contains (source_nets d) n → CompleteAt a b l n
source_completes d start sets late3 late base3 base a b last sound fit s t zero le lower n has =
    elim (contains_or (start_nets d start) n) [
      | inl here ↦
          let out = from_whole net_of (start_outs d start) n here in
          let at : get_or (start_outs d start) out.0 out.1 ≡ out.1 = get_or_from_slice_get (start_outs d start) out.0 out.1 out.1 out.2 in
          let within = slice_get_within (start_outs d start) out.0 out.1 out.2 in
          let o = get_or (start_outs d start) out.0 out.1 in
          subst (λ (m : ℕ). CompleteAt a b 0 m) out.3
          (subst (λ (o : RegOut). CompleteAt a b 0 o.net) at
          (moved (net_at Zero a 0 o.net) (late3 o) (net_at false b 0 o.net) (late o) (s.late_nets out.0 out.1 within) (t.late_nets out.0 out.1 within)
          (fit.late_fits o)))
      | inr out ↦ moved (net_at Zero a 0 n) (get_or base3 n Zero) (net_at false b 0 n) (bit_at base n) (s.others n has out)
          (t.others n has out) (fit.base_fits n (source_low d n sound has))
    ]
source_completes d start sets late3 late base3 base a b last sound fit s t (suc l) le lower n has =
    elim (true_or (is_in (Net n) (get_or sets l []))) [
      | inl is ↦ held_completes d start sets late3 late base3 base a b last s t (suc l) le lower n (source_low d n sound has) is
      | inr free ↦
          subst (λ (m : ℕ). CompleteAt a b m n) (add-one l)
          (moved (net_at Zero a (l + 1) n) (get_or base3 n Zero) (net_at false b (l + 1) n) (bit_at base n)
          (s.sources l (omega arith) n has free) (t.sources l (omega arith) n has free) (fit.base_fits n (source_low d n sound has)))
    ]

gate_completes : (d : Design) (start : Start) (sets : List (List PinRef)) (late3 : RegOut → Tern) (late : RegOut
    → Bool) (base3 : List Tern) (base : List Bool) (a : List (List Tern)) (b : List (List Bool)) (last : ℕ) → IsSound d
    → AreCompleted d late3 late base3 base → AreTernsTo d start sets late3 base3 a last
    → AreBitsTo d start sets late base b last → (l : ℕ) → l ≤ last → CompleteBelow d a b l → (k : ℕ)
    → ((j : ℕ) → j < k → (g : Gate) → slice_get d.gates j ≡ Some g → CompleteAt a b l g.out) → (h : Gate) → slice_get d.gates k ≡ Some h
    → CompleteAt a b l h.out
gate_completes d start sets late3 late base3 base a b last sound fit s t l le lower k below h here =
    let in_range = All-at (IsGateInRange d) d.gates k h here sound.in_range.gates in
    let known : (n : ℕ) → n < d.nets → Contains (before d k) n → (m : ℕ) → m ≤ l → CompleteAt a b m n =
    λ n low has m small. elim (cases_lt m l) [
      | inl lt ↦ lower m lt n low
      | inr ge ↦
          let same : m ≡ l = omega arith in
          subst (λ (i : ℕ). CompleteAt a b i n) (sym same)
          (elim (Contains-append_cases (source_nets d) (gate_nets (take k d.gates)) n has) [
            | inl first ↦ source_completes d start sets late3 late base3 base a b last sound fit s t l le lower n first
            | inr later ↦
                let gate = from_taken (λ (g : Gate). g.out) d.gates k n later in
                subst (λ (i : ℕ). CompleteAt a b l i) gate.4 (below gate.0 gate.2 gate.1 gate.3)
          ])
    ] in
    elim (true_or (is_in (Net h.out) (held_set sets l))) [
      | inl is ↦ held_completes d start sets late3 late base3 base a b last s t l le lower h.out in_range.out is
      | inr free ↦
          moved (net_at Zero a l h.out) (tern_value h.func (layer_pins Zero sets a l k h.ins)) (net_at false b l h.out)
          (value h.func (layer_pins false sets b l k h.ins)) (s.gates l le k h here free) (t.gates l le k h here free)
          (cell_completes (value h.func) (length h.ins) (layer_pins Zero sets a l k h.ins) (layer_pins false sets b l k h.ins) (omega (arith, in_range.few))
          (λ x y same. value_agrees h.func (length h.ins) x y in_range.func same)
          (λ i within. pin_completes sets a b l (GateIn k i) (slice_index h.ins i)
          (known (slice_index h.ins i) (in_range.ins i 0 within) (sound.in_order k h here i 0 within))))
    ]

gates_complete : (d : Design) (start : Start) (sets : List (List PinRef)) (late3 : RegOut → Tern) (late : RegOut
    → Bool) (base3 : List Tern) (base : List Bool) (a : List (List Tern)) (b : List (List Bool)) (last : ℕ) → IsSound d
    → AreCompleted d late3 late base3 base → AreTernsTo d start sets late3 base3 a last
    → AreBitsTo d start sets late base b last → (l : ℕ) → l ≤ last → CompleteBelow d a b l → (k : ℕ) → (j : ℕ) → j < k → (g : Gate)
    → slice_get d.gates j ≡ Some g → CompleteAt a b l g.out
gates_complete d start sets late3 late base3 base a b last sound fit s t l le lower zero j lt g at = absurd (omega arith)
gates_complete d start sets late3 late base3 base a b last sound fit s t l le lower (suc k) j lt g at =
    below_more (λ i. (h : Gate) → slice_get d.gates i ≡ Some h → CompleteAt a b l h.out) k
    (gates_complete d start sets late3 late base3 base a b last sound fit s t l le lower k)
    (λ h here. gate_completes d start sets late3 late base3 base a b last sound fit s t l le lower k
    (gates_complete d start sets late3 late base3 base a b last sound fit s t l le lower k) h here)
    j (omega arith) g at

-- the bits of each net in each layer complete its ternary value
pub layers_complete : (d : Design) (start : Start) (sets : List (List PinRef)) (late3 : RegOut → Tern) (late : RegOut
    → Bool) (base3 : List Tern) (base : List Bool) (a : List (List Tern)) (b : List (List Bool)) (last : ℕ) → IsSound d
    → AreCompleted d late3 late base3 base → AreTernsTo d start sets late3 base3 a last
    → AreBitsTo d start sets late base b last → (k : ℕ) → k ≤ last + 1 → CompleteBelow d a b k
layers_complete d start sets late3 late base3 base a b last sound fit s t zero le m lt n low = absurd (omega arith)
layers_complete d start sets late3 late base3 base a b last sound fit s t (suc k) le m lt n low =
    let lower = layers_complete d start sets late3 late base3 base a b last sound fit s t k (omega arith) in
    below_more (λ l. (n : ℕ) → n < d.nets → CompleteAt a b l n) k lower
    (λ i small.
    elim (Contains-append_cases (source_nets d) (gate_nets d.gates) i (counted_contains i (driven_nets d) (omega (arith, sound.one_driver i small)))) [
      | inl here ↦ source_completes d start sets late3 late base3 base a b last sound fit s t k (omega arith) lower i here
      | inr later ↦
          let gate = from_whole (λ (g : Gate). g.out) d.gates i later in
          subst (λ (x : ℕ). CompleteAt a b k x) gate.3 (gates_complete d start sets late3 late base3 base a b last sound fit s t k (omega arith) lower
          (length d.gates) gate.0 (slice_get_within d.gates gate.0 gate.1 gate.2) gate.1 gate.2)
    ])
    m (omega arith) n low

reg_completes : (d : Design) (sets : List (List PinRef)) (a : List (List Tern)) (b : List (List Bool)) (r : ℕ) (own3 : Tern) (own : Bool)
    → IsSound d → Completes own3 own
    → CompleteBelow d a b (length sets + 1) → (found : Option Reg) → slice_get d.regs r ≡ found
    → Completes (late_reg_capture3 sets a r found own3) (late_reg_capture sets b r found own)
reg_completes d sets a b r own3 own sound fits all None e = refl
reg_completes d sets a b r own3 own sound fits all (Some reg) e =
    let in_range = All-at (IsRegInRange d) d.regs r reg e sound.in_range.regs in
    cell_completes (reg_capture reg) (length reg.ins + 1) (late_reg_pins Zero sets a r reg own3) (late_reg_pins false sets b r reg own)
    (omega (arith, in_range.few))
    (λ x y same. capture_agrees reg (length reg.ins + 1) x y in_range.next in_range.clear in_range.preset same)
    (λ i lt.
    by_test (nat_lt i (length reg.ins)) (pin_reads Zero sets a (length sets) (RegIn r i) (slice_index reg.ins i)) own3
    (pin_reads false sets b (length sets) (RegIn r i) (slice_index reg.ins i)) own
    (λ is. pin_completes sets a b (length sets) (RegIn r i) (slice_index reg.ins i)
    (λ m le. all m (omega arith) (slice_index reg.ins i) (in_range.ins i 0 (ltb-true i (length reg.ins) is))))
    (λ is. fits))

-- the capture over the layers completes that in three values
pub capture_completes : (d : Design) (sets : List (List PinRef)) (a : List (List Tern)) (b : List (List Bool)) (e : End) (c3 : Cycle3) (c : Cycle)
    → IsSound d → IsEndIn d e → ((r : ℕ) → r < length d.regs → Completes (tern_at c3.bits r) (bit_at c.bits r)) → CompleteBelow d a b (length sets + 1)
    → Completes (capture3_over d sets a e c3) (capture_over d sets b e c)
capture_completes d sets a b (RegEnd r) c3 c sound is bits all =
    reg_completes d sets a b r (tern_at c3.bits r) (bit_at c.bits r) sound (bits r is) all (slice_get d.regs r) refl
capture_completes d sets a b (OutputEnd o) c3 c sound is bits all =
    pin_completes sets a b (length sets) (OutPort o) (slice_index d.outputs o)
    (λ m le. all m (omega arith) (slice_index d.outputs o) (sound.in_range.outputs o 0 is))
