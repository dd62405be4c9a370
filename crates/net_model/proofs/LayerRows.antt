-- The layers that are made so far, and one more.
use Rattle.std.proofs.Common.{◌≡◌, ◌≢◌, ℕ, zero, suc, ◌+◌, ◌-◌, ◌<◌, ◌≤◌, Bool, true, false, if◌then◌else◌, List, [], ◌∷◌, map, length, get_or}
use Rattle.std.proofs.Common.{Option, Some, None, refl, ap, sym, ◌∙◌, subst, arith, inl, inr, below_more, add-one}
use Rattle.std.specs.Prelude.{All, Contains, slice_get, slice_index, flat_map}
use Rattle.std.proofs.lemmas.Bool.{cases_lt, cases_eq}
use Rattle.std.proofs.lemmas.List.Elements.{Contains-append_left, Contains-append_right, Contains-get_or, All-nil, All-append, All-contains}
use Rattle.net_model.specs.Netlist.{IsSound, IsGateInRange, IsRegInRange, source_nets, reg_nets}
use Rattle.net_model.specs.Fits.{IsStartIn}
use Rattle.net_model.specs.Rows.{Applied}
use Rattle.net_model.specs.Cycles.{bit_at}
use Rattle.net_model.specs.Pins.{is_in, start_outs, start_nets, outs_of_reg}
use Rattle.net_model.specs.Layers.{row_at, net_at, held_set, layer_pins, AreLayerGates, AreLayersTo}
use Rattle.net_model.proofs.Settling.{All-at, ReadsPlaces}
use Rattle.net_model.proofs.Sources.{flat_has, out_contains}
use Rattle.net_model.proofs.Layered.{pin_kept}
use Rattle.net_model.specs.Layers.{first_value}
use Rattle.net_model.specs.RowChanges.{ChangesRow}
use Rattle.net_model.specs.declared.netlist.Design.{Design}
use Rattle.net_model.specs.declared.netlist.Reg.{Reg}
use Rattle.net_model.specs.declared.netlist.RegOut.{RegOut}
use Rattle.net_model.specs.declared.claims.PinRef.{PinRef}
use Rattle.net_model.specs.declared.claims.PinRef.TheVariants.{Net, GateIn}
use Rattle.net_model.specs.declared.claims.Start.{Start}
use Rattle.net_model.specs.declared.claims.Start.TheVariants.{Reg as RegStart, Input as InputStart}

pub map_base : {V : Type 0} (bit_value : Bool → V) (base : List Bool) (n : ℕ) → get_or (map bit_value base) n (bit_value false) ≡ bit_value (bit_at base n)
map_base bit_value [] n = refl
map_base bit_value (b ∷ base) zero = refl
map_base bit_value (b ∷ base) (suc n) = map_base bit_value base n

pub net_kept : {V : Type 0} (blank : V) (rows next : List (List V)) (m n : ℕ) → row_at next m ≡ row_at rows m → net_at blank next m n ≡ net_at blank rows m n
net_kept {V} blank rows next m n same = ap (λ (row : List V). get_or row n blank) same

pub gates_kept : {V : Type 0} (applied : Applied V) (reads : ReadsPlaces applied) (blank : V) (d : Design) (sets : List (List PinRef))
    (rows next : List (List V)) (l : ℕ) → IsSound d → ((m : ℕ) → m ≤ l → row_at next m ≡ row_at rows m) → AreLayerGates applied blank d sets rows l
    → AreLayerGates applied blank d sets next l
gates_kept applied reads blank d sets rows next l sound same gates k g at free =
    net_kept blank rows next l g.out (same l (omega arith))
    ∙ (gates k g at free
    ∙ sym (reads g.func (length g.ins) (layer_pins blank sets next l k g.ins) (layer_pins blank sets rows l k g.ins)
    (All-at (IsGateInRange d) d.gates k g at sound.in_range.gates).func
    (λ i lt. pin_kept blank sets next rows l (GateIn k i) (slice_index g.ins i) (λ m le. net_kept blank rows next m (slice_index g.ins i) (same m le)))))

-- the layers so far stay, where only later rows are written
pub layers_kept : {V : Type 0} (applied : Applied V) (reads : ReadsPlaces applied) (blank : V) (d : Design) (start : Start)
    (sets : List (List PinRef)) (late : RegOut → V) (base : List V) (rows next : List (List V)) (last : ℕ) → IsSound d → length next ≡ length rows
    → ((m : ℕ) → m ≤ last → row_at next m ≡ row_at rows m) → AreLayersTo applied blank d start sets late base rows last
    → AreLayersTo applied blank d start sets late base next last
layers_kept applied reads blank d start sets late base rows next last sound count same layers =
    record {
      count = omega (arith, count, layers.count);
      lens = λ l le. ap length (same l le) ∙ layers.lens l le;
      late_nets = λ k o lt. net_kept blank rows next 0 (get_or (start_outs d start) k o).net (same 0 (omega arith)) ∙ layers.late_nets k o lt;
      others = λ n has out. net_kept blank rows next 0 n (same 0 (omega arith)) ∙ layers.others n has out;
      held = λ l lt n low is. net_kept blank rows next (l + 1) n (same (l + 1) (omega arith))
          ∙ (layers.held l lt n low is ∙ sym (net_kept blank rows next l n (same l (omega arith))));
      sources = λ l lt n has free. net_kept blank rows next (l + 1) n (same (l + 1) (omega arith)) ∙ layers.sources l lt n has free;
      gates = λ l le. gates_kept applied reads blank d sets rows next l sound (λ m low. same m (omega arith)) (layers.gates l le);
    }

first_held : {V : Type 0} (blank : V) (bit_value : Bool → V) (sets : List (List PinRef)) (rows : List (List V)) (l : ℕ) (base : List Bool) (n : ℕ)
    → is_in (Net n) (held_set sets (l + 1)) ≡ true → first_value blank bit_value sets rows (l + 1) base n ≡ net_at blank rows l n
first_held {V} blank bit_value sets rows l base n is =
    let e : l + 1 - 1 ≡ l = omega arith in
    ap (λ (b : Bool). if b then net_at blank rows (l + 1 - 1) n else bit_value (bit_at base n)) is ∙ ap (λ (m : ℕ). net_at blank rows m n) e

first_free : {V : Type 0} (blank : V) (bit_value : Bool → V) (sets : List (List PinRef)) (rows : List (List V)) (l : ℕ) (base : List Bool) (n : ℕ)
    → is_in (Net n) (held_set sets (l + 1)) ≡ false → first_value blank bit_value sets rows (l + 1) base n ≡ bit_value (bit_at base n)
first_free {V} blank bit_value sets rows l base n is =
    ap (λ (b : Bool). if b then net_at blank rows (l + 1 - 1) n else bit_value (bit_at base n)) is

all_flat : {X : Type 0} (P : ℕ → Type 0) (f : X → List ℕ) (xs : List X) → ((k : ℕ) (x : X) → slice_get xs k ≡ Some x → All P (f x)) → All P (flat_map f xs)
all_flat P f [] each = All-nil P
all_flat P f (x ∷ xs) each = All-append P (f x) (flat_map f xs) (each 0 x refl) (all_flat P f xs (λ k y at. each (suc k) y at))

-- a source is a net of the design
pub source_low : (d : Design) (n : ℕ) → IsSound d → Contains (source_nets d) n → n < d.nets
source_low d n sound has =
    All-contains (λ m. m < d.nets) (source_nets d) n
    (All-append (λ m. m < d.nets) d.inputs (flat_map reg_nets d.regs) sound.in_range.inputs
    (all_flat (λ m. m < d.nets) reg_nets d.regs (λ k reg at. (All-at (IsRegInRange d) d.regs k reg at sound.in_range.regs).outs)))
    has

-- one more layer
pub layers_next : {V : Type 0} (applied : Applied V) (reads : ReadsPlaces applied) (bit_value : Bool → V) (d : Design) (start : Start)
    (sets : List (List PinRef)) (late : RegOut → V) (base : List Bool) (rows made next : List (List V)) (last : ℕ) → IsSound d
    → last + 1 < length rows → length base ≡ d.nets → AreLayersTo applied (bit_value false) d start sets late (map bit_value base) rows last →
    ((m : ℕ) → m ≤ last → row_at made m ≡ row_at rows m) → length (row_at made (last + 1)) ≡ length base
    → ((n : ℕ) → n < length base → net_at (bit_value false) made (last + 1) n ≡ first_value (bit_value false) bit_value sets rows
    (last + 1) base n) →
    length next ≡ length rows → ((m : ℕ) → m ≤ last → row_at next m ≡ row_at made m) → length (row_at next (last + 1)) ≡ d.nets
    → ((n : ℕ) → Contains (source_nets d) n → net_at (bit_value false) next (last + 1) n ≡ net_at (bit_value false) made (last + 1) n)
    → ((n : ℕ) → is_in (Net n) (held_set sets (last + 1)) ≡ true → net_at (bit_value false) next (last + 1) n ≡ net_at (bit_value false) made
    (last + 1) n) → AreLayerGates applied (bit_value false) d sets next (last + 1) →
    AreLayersTo applied (bit_value false) d start sets late (map bit_value base) next (last + 1)
layers_next {V} applied reads bit_value d start sets late base rows made next last sound room long layers below made_len made_row count below_next
    next_len sources held gates =
    let same : (m : ℕ) → m ≤ last → row_at next m ≡ row_at rows m = λ m le. below_next m le ∙ below m le in
    let kept = layers_kept applied reads (bit_value false) d start sets late (map bit_value base) rows next last sound count same layers in
    record {
      count = omega (arith, count);
      lens = λ l le. elim (cases_lt l (last + 1)) [
        | inl lt ↦ kept.lens l (omega arith)
        | inr ge ↦ let here : l ≡ last + 1 = omega arith in rw here next_len
      ];
      late_nets = kept.late_nets;
      others = kept.others;
      held =
          below_more (λ l. (n : ℕ) → n < d.nets → is_in (Net n) (get_or sets l []) ≡ true → net_at (bit_value false) next (l + 1) n ≡ net_at
          (bit_value false) next l n) last
          kept.held
          (λ n low is.
          let that : is_in (Net n) (held_set sets (last + 1)) ≡ true = subst (λ (m : ℕ). is_in (Net n) (held_set sets m) ≡ true) (sym (add-one last)) is in
          held n that ∙ (made_row n (omega arith) ∙ (first_held (bit_value false) bit_value sets rows last base n that
          ∙ sym (net_kept (bit_value false) rows next last n (same last (omega arith))))));
      sources =
          below_more (λ l. (n : ℕ) → Contains (source_nets d) n → is_in (Net n) (get_or sets l []) ≡ false → net_at (bit_value false) next
          (l + 1) n ≡ get_or (map bit_value base) n (bit_value false)) last
          kept.sources
          (λ n has free.
          let that : is_in (Net n) (held_set sets (last + 1)) ≡ false = subst (λ (m : ℕ). is_in (Net n) (held_set sets m) ≡ false) (sym (add-one last)) free in
          let low = source_low d n sound has in
          sources n has ∙ (made_row n (omega arith) ∙ (first_free (bit_value false) bit_value sets rows last base n that ∙ sym (map_base bit_value base n))));
      gates = λ l le. elim (cases_lt l (last + 1)) [
        | inl lt ↦ kept.gates l (omega arith)
        | inr ge ↦ let here : l ≡ last + 1 = omega arith in subst (AreLayerGates applied (bit_value false) d sets next) (sym here) gates
      ];
    }

start_in_sources : (d : Design) (start : Start) (k : ℕ) (o : RegOut) → IsStartIn d start → k < length (start_outs d start) → Contains (source_nets d)
    (get_or (start_outs d start) k o).net
start_in_sources d (RegStart r) k o is lt = of_reg (slice_get d.regs r) refl k o lt
  where
    of_reg : (found : Option Reg) → slice_get d.regs r ≡ found → (k : ℕ) (o : RegOut) → k < length (outs_of_reg found) → Contains (source_nets d)
        (get_or (outs_of_reg found) k o).net
    of_reg None e k o lt = absurd (omega arith)
    of_reg (Some reg) e k o lt =
        Contains-append_right d.inputs (flat_map reg_nets d.regs) (get_or reg.outs k o).net
        (flat_has reg_nets d.regs r reg (get_or reg.outs k o).net e (out_contains reg.outs k o lt))
start_in_sources d (InputStart i) zero o is lt =
    Contains-append_left d.inputs (flat_map reg_nets d.regs) (slice_index d.inputs i) (Contains-get_or d.inputs i 0 is)
start_in_sources d (InputStart i) (suc k) o is lt = absurd (omega arith)

-- the first layer
pub layers_first : {V : Type 0} (applied : Applied V) (bit_value : Bool → V) (d : Design) (start : Start) (sets : List (List PinRef))
    (late : RegOut → V) (base : List Bool) (made shown next : List (List V)) → IsSound d → IsStartIn d start → length base ≡ d.nets
    → 0 < length next →
    ((n : ℕ) → n < length base → net_at (bit_value false) made 0 n ≡ bit_value (bit_at base n)) →
    All (λ (o : RegOut). net_at (bit_value false) shown 0 o.net ≡ late o) (start_outs d start)
    → ((n : ℕ) → ¬ Contains (start_nets d start) n → net_at (bit_value false) shown 0 n ≡ net_at (bit_value false) made 0 n) →
    length (row_at next 0) ≡ d.nets → ((n : ℕ) → Contains (source_nets d) n → net_at (bit_value false) next 0 n ≡ net_at (bit_value false) shown 0 n)
    → AreLayerGates applied (bit_value false) d sets next 0 →
    AreLayersTo applied (bit_value false) d start sets late (map bit_value base) next 0
layers_first {V} applied bit_value d start sets late base made shown next sound is long room made_row late_nets others len sources gates =
    record {
      count = room;
      lens = λ l le. let here : l ≡ 0 = omega arith in rw here len;
      late_nets = λ k o lt. sources (get_or (start_outs d start) k o).net (start_in_sources d start k o is lt) ∙ late_nets k o lt;
      others = λ n has out. let low = source_low d n sound has in sources n has ∙ (others n out ∙ (made_row n (omega arith) ∙ sym (map_base bit_value base n)));
      held = λ l lt. absurd (omega arith);
      sources = λ l lt. absurd (omega arith);
      gates = λ l le. let here : l ≡ 0 = omega arith in subst (AreLayerGates applied (bit_value false) d sets next) (sym here) gates;
    }

-- a row keeps its length where one row is written
pub len_kept : {V : Type 0} (rows next : List (List V)) (l size m : ℕ) → ((k : ℕ) → k ≢ l → row_at next k ≡ row_at rows k)
    → length (row_at next l) ≡ size → length (row_at rows m) ≡ size → length (row_at next m) ≡ size
len_kept {V} rows next l size m below len before =
    elim (cases_eq m l) [
      | inl here ↦ rw here len
      | inr apart ↦ ap length (below m apart) ∙ before
    ]

-- each row is as long as before the change of one
pub length-ChangesRow : {V : Type 0} (layer : ℕ) (before now : List (List V)) → ChangesRow layer before now → (m : ℕ) → length (row_at now m) ≡ length
    (row_at before m)
length-ChangesRow layer before now kept m =
    elim (cases_eq m layer) [
      | inl here ↦ rw here kept.len
      | inr apart ↦ ap length (kept.others m apart)
    ]
