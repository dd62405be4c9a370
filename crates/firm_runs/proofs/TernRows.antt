-- The layers that are made so far in three values, and one more.
use Rattle.std.proofs.Common.{◌≡◌, ◌≢◌, ℕ, zero, suc, ◌+◌, ◌-◌, ◌<◌, ◌≤◌, Bool, true, false, if◌then◌else◌, List, [], length, set, get_or}
use Rattle.std.proofs.Common.{Option, Some, None, refl, ap, sym, ◌∙◌, subst, arith, inl, inr, below_more, add-one, get_or-set_same, length-set}
use Rattle.std.specs.Prelude.{All, Contains, slice_get, slice_index, flat_map}
use Rattle.std.proofs.lemmas.Bool.{cases_lt}
use Rattle.std.proofs.lemmas.List.Elements.{Contains-append_left, Contains-append_right, Contains-get_or}
use Rattle.net_model.specs.Netlist.{IsSound, reg_nets}
use Rattle.net_model.specs.Fits.{IsStartIn}
use Rattle.net_model.specs.Rows.{Applied}
use Rattle.net_model.specs.Pins.{is_in, start_outs, start_nets, outs_of_reg}
use Rattle.net_model.specs.Netlist.{source_nets}
use Rattle.net_model.specs.Layers.{row_at, net_at, held_set, AreLayerGates, AreLayersTo}
use Rattle.net_model.proofs.Settling.{ReadsPlaces}
use Rattle.net_model.proofs.Sources.{flat_has, out_contains}
use Rattle.net_model.proofs.Layered.{written, row_other, row_same, net_other}
use Rattle.net_model.proofs.LayerRows.{net_kept, layers_kept, source_low}
use Rattle.net_model.specs.declared.netlist.Design.{Design}
use Rattle.net_model.specs.declared.netlist.Reg.{Reg}
use Rattle.net_model.specs.declared.netlist.RegOut.{RegOut}
use Rattle.net_model.specs.declared.claims.PinRef.{PinRef}
use Rattle.net_model.specs.declared.claims.PinRef.TheVariants.{Net}
use Rattle.net_model.specs.declared.claims.Start.{Start}
use Rattle.net_model.specs.declared.claims.Start.TheVariants.{Reg as RegStart, Input as InputStart}
use Rattle.net_model.specs.declared.terns.Tern.{Tern}
use Rattle.net_model.specs.declared.terns.Tern.TheVariants.{Zero}
use Rattle.firm_runs.specs.Layers3.{first_tern}

pub record BaseDone3 (sets : List (List PinRef)) (l : ℕ) (base : List Tern)
    (start rows : List (List Tern)) (k : ℕ) : Type 0 where
  pub count : length rows ≡ length start
  pub below : (m : ℕ) → m ≢ l → row_at rows m ≡ row_at start m
  pub len : length (row_at rows l) ≡ length base
  pub row : (n : ℕ) → n < k → net_at Zero rows l n ≡ first_tern sets start l base n

pub base_more3 : (sets : List (List PinRef)) (l : ℕ) (base : List Tern) (start rows : List (List Tern))
    (k : ℕ) (v : Tern) → l < length rows → k < length base → v ≡ first_tern sets start l base k
    → BaseDone3 sets l base start rows k → BaseDone3 sets l base start (written rows l k v) (k + 1)
base_more3 sets l base start rows k v within low value done =
    record {
      count = length-set rows l (set (row_at rows l) k v) ∙ done.count;
      below = λ m apart. row_other rows l k m v apart ∙ done.below m apart;
      len = ap length (row_same rows l k v within) ∙ (length-set (row_at rows l) k v ∙ done.len);
      row =
          below_more (λ n. net_at Zero (written rows l k v) l n ≡ first_tern sets start l base n) k
          (λ n lt. net_other Zero rows l k l n v within (omega arith) ∙ done.row n lt)
          (ap (λ (row : List Tern). get_or row k Zero) (row_same rows l k v within) ∙ (get_or-set_same (row_at rows l) k v Zero (omega arith) ∙ value));
    }

first_held : (sets : List (List PinRef)) (rows : List (List Tern)) (l : ℕ) (base : List Tern) (n : ℕ)
    → is_in (Net n) (held_set sets (l + 1)) ≡ true → first_tern sets rows (l + 1) base n ≡ net_at Zero rows l n
first_held sets rows l base n is =
    let e : l + 1 - 1 ≡ l = omega arith in
    ap (λ (b : Bool). if b then net_at Zero rows (l + 1 - 1) n else get_or base n Zero) is ∙ ap (λ (m : ℕ). net_at Zero rows m n) e

first_free : (sets : List (List PinRef)) (rows : List (List Tern)) (l : ℕ) (base : List Tern) (n : ℕ)
    → is_in (Net n) (held_set sets (l + 1)) ≡ false → first_tern sets rows (l + 1) base n ≡ get_or base n Zero
first_free sets rows l base n is =
    ap (λ (b : Bool). if b then net_at Zero rows (l + 1 - 1) n else get_or base n Zero) is

-- one more layer
pub layers_next3 : (applied : Applied Tern) (reads : ReadsPlaces applied) (d : Design) (start : Start)
    (sets : List (List PinRef)) (late : RegOut → Tern) (base : List Tern) (rows made next : List (List Tern)) (last : ℕ) → IsSound d
    → last + 1 < length rows → length base ≡ d.nets → AreLayersTo applied Zero d start sets late base rows last →
    ((m : ℕ) → m ≤ last → row_at made m ≡ row_at rows m) → length (row_at made (last + 1)) ≡ length base
    → ((n : ℕ) → n < length base → net_at Zero made (last + 1) n ≡ first_tern sets rows
    (last + 1) base n) →
    length next ≡ length rows → ((m : ℕ) → m ≤ last → row_at next m ≡ row_at made m) → length (row_at next (last + 1)) ≡ d.nets
    → ((n : ℕ) → Contains (source_nets d) n → net_at Zero next (last + 1) n ≡ net_at Zero made (last + 1) n)
    → ((n : ℕ) → is_in (Net n) (held_set sets (last + 1)) ≡ true → net_at Zero next (last + 1) n ≡ net_at Zero made
    (last + 1) n) → AreLayerGates applied Zero d sets next (last + 1) →
    AreLayersTo applied Zero d start sets late base next (last + 1)
layers_next3 applied reads d start sets late base rows made next last sound room long layers below made_len made_row count below_next
    next_len sources held gates =
    let same : (m : ℕ) → m ≤ last → row_at next m ≡ row_at rows m = λ m le. below_next m le ∙ below m le in
    let kept = layers_kept applied reads Zero d start sets late base rows next last sound count same layers in
    record {
      count = omega (arith, count);
      lens = λ l le. elim (cases_lt l (last + 1)) [
        | inl lt ↦ kept.lens l (omega arith)
        | inr ge ↦ let here : l ≡ last + 1 = omega arith in rw here next_len
      ];
      late_nets = kept.late_nets;
      others = kept.others;
      held =
          below_more (λ l. (n : ℕ) → n < d.nets → is_in (Net n) (get_or sets l []) ≡ true → net_at Zero next (l + 1) n ≡ net_at
          Zero next l n) last
          kept.held
          (λ n low is.
          let that : is_in (Net n) (held_set sets (last + 1)) ≡ true = subst (λ (m : ℕ). is_in (Net n) (held_set sets m) ≡ true) (sym (add-one last)) is in
          held n that ∙ (made_row n (omega arith) ∙ (first_held sets rows last base n that
          ∙ sym (net_kept Zero rows next last n (same last (omega arith))))));
      sources =
          below_more (λ l. (n : ℕ) → Contains (source_nets d) n → is_in (Net n) (get_or sets l []) ≡ false → net_at Zero next
          (l + 1) n ≡ get_or base n Zero) last
          kept.sources
          (λ n has free.
          let that : is_in (Net n) (held_set sets (last + 1)) ≡ false = subst (λ (m : ℕ). is_in (Net n) (held_set sets m) ≡ false) (sym (add-one last)) free in
          let low = source_low d n sound has in
          sources n has ∙ (made_row n (omega arith) ∙ (first_free sets rows last base n that)));
      gates = λ l le. elim (cases_lt l (last + 1)) [
        | inl lt ↦ kept.gates l (omega arith)
        | inr ge ↦ let here : l ≡ last + 1 = omega arith in subst (AreLayerGates applied Zero d sets next) (sym here) gates
      ];
    }

pub start_in_sources : (d : Design) (start : Start) (k : ℕ) (o : RegOut) → IsStartIn d start → k < length (start_outs d start) → Contains (source_nets d)
    (get_or (start_outs d start) k o).net
start_in_sources d (RegStart r) k o is lt = of_reg (slice_get d.regs r) refl k o lt
  where
    of_reg : (found : Option Reg) → slice_get d.regs r ≡ found → (k : ℕ) (o : RegOut) → k < length (outs_of_reg found) → Contains (source_nets d)
        (get_or (outs_of_reg found) k o).net
    of_reg None e k o lt = absurd (omega arith)
    of_reg (Some reg) e k o lt =
        Contains-append_right d.inputs (flat_map reg_nets d.regs) (get_or reg.outs k o).net
        (flat_has reg_nets d.regs r reg (get_or reg.outs k o).net e (out_contains reg.outs k o lt))
start_in_sources d (InputStart i) zero o is lt =
    Contains-append_left d.inputs (flat_map reg_nets d.regs) (slice_index d.inputs i) (Contains-get_or d.inputs i 0 is)
start_in_sources d (InputStart i) (suc k) o is lt = absurd (omega arith)

-- the first layer
pub layers_first3 : (applied : Applied Tern) (d : Design) (start : Start) (sets : List (List PinRef))
    (late : RegOut → Tern) (base : List Tern) (made shown next : List (List Tern)) → IsSound d → IsStartIn d start → length base ≡ d.nets
    → 0 < length next →
    ((n : ℕ) → n < length base → net_at Zero made 0 n ≡ get_or base n Zero) →
    All (λ (o : RegOut). net_at Zero shown 0 o.net ≡ late o) (start_outs d start)
    → ((n : ℕ) → ¬ Contains (start_nets d start) n → net_at Zero shown 0 n ≡ net_at Zero made 0 n) →
    length (row_at next 0) ≡ d.nets → ((n : ℕ) → Contains (source_nets d) n → net_at Zero next 0 n ≡ net_at Zero shown 0 n)
    → AreLayerGates applied Zero d sets next 0 →
    AreLayersTo applied Zero d start sets late base next 0
layers_first3 applied d start sets late base made shown next sound is long room made_row late_nets others len sources gates =
    record {
      count = room;
      lens = λ l le. let here : l ≡ 0 = omega arith in rw here len;
      late_nets = λ k o lt. sources (get_or (start_outs d start) k o).net (start_in_sources d start k o is lt) ∙ late_nets k o lt;
      others = λ n has out. let low = source_low d n sound has in sources n has ∙ (others n out ∙ (made_row n (omega arith)));
      held = λ l lt. absurd (omega arith);
      sources = λ l lt. absurd (omega arith);
      gates = λ l le. let here : l ≡ 0 = omega arith in subst (AreLayerGates applied Zero d sets next) (sym here) gates;
    }
