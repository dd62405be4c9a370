-- Settled cycles in three values: they are made by writing inputs, registers and gates one after another, there is one for the
-- values of registers and inputs, and settled cycles of bits complete them.
use Rattle.std.proofs.Common.{◌≡◌, ◌≢◌, ℕ, ◌+◌, ◌<◌, Bool, false, not, List, [], map}
use Rattle.std.proofs.Common.{length, take, get_or, Option, Some, None, refl, ap, sym, ◌∙◌, subst, arith, inl, inr, below_more}
use Rattle.std.specs.Prelude.{All, Contains, slice_get, slice_index, nat_lt, flat_map}
use Rattle.std.proofs.lemmas.List.{same_lists, get_or_default}
use Rattle.std.proofs.lemmas.Option.{slice_get_within, get_or_from_slice_get, slice_get-get_or}
use Rattle.std.proofs.lemmas.List.Elements.{All-nil, All-cons, Contains-append_cases, Contains-append_left, Contains-append_right, Contains-get_or}
use borrow.Author.Tests.{ltb-true}
use Rattle.net_model.specs.Form.{value}
use Rattle.net_model.specs.FormLaws.{value_agrees}
use Rattle.net_model.specs.Rows.{AreGatesSettled, pins_of}
use Rattle.net_model.specs.Netlist.{before_reg, IsSound, IsGateInRange, IsRegInRange, source_nets, reg_nets}
use Rattle.net_model.specs.Fits.{IsStartIn, IsEndIn}
use Rattle.net_model.specs.Cycles.{bit_at, shown, gate_pins, reg_pins, reg_capture, reg_capture_in, capture, IsSettled}
use Rattle.net_model.specs.Pins.{start_outs, start_nets, outs_of_reg, late_value}
use Rattle.net_model.specs.Layers.{row_at, net_at}
use Rattle.net_model.specs.RowChanges.{ChangesRow}
use Rattle.net_model.specs.Judge.{start_bit}
use Rattle.net_model.specs.Ternary.{Completes}
use Rattle.net_model.specs.Splitting.{tern_value}
use Rattle.net_model.specs.Completions.{tern_agrees}
use Rattle.net_model.proofs.Settling.{All-at}
use Rattle.net_model.proofs.Sources.{net_of, input_apart, reg_apart, reg_out_in_range, plain_contains, flat_contains, out_contains}
use Rattle.net_model.proofs.NetOrder.{over_nets}
use Rattle.net_model.proofs.Unique.{from_whole, from_flat}
use Rattle.net_model.proofs.RegCaptures.{capture_agrees}
use Rattle.net_model.specs.declared.netlist.Design.{Design}
use Rattle.net_model.specs.declared.netlist.Reg.{Reg}
use Rattle.net_model.specs.declared.netlist.RegOut.{RegOut}
use Rattle.net_model.specs.declared.cycles.Cycle.{Cycle}
use Rattle.net_model.specs.declared.terns.Tern.{Tern}
use Rattle.net_model.specs.declared.terns.Tern.TheVariants.{Zero, One, Unknown}
use Rattle.net_model.specs.declared.claims.Start.{Start}
use Rattle.net_model.specs.declared.claims.Start.TheVariants.{Reg as RegStart, Input as InputStart}
use Rattle.net_model.specs.declared.claims.End.{End}
use Rattle.net_model.specs.declared.claims.End.TheVariants.{Reg as RegEnd, Output as OutputEnd}
use Rattle.firm_runs.specs.Cycles3.{tern_at, complement, start_value, ShowsValue, IsSettled3, reg_pins3, reg_capture3, capture3}
use Rattle.firm_runs.proofs.TernRows.{start_in_sources}
use Rattle.firm_runs.proofs.Completing3.{moved, cell_completes, by_test, not_nil}
use Rattle.firm_runs.specs.declared.cycles.Cycle3.{Cycle3}

-- each source is a net of a start
pub source_start : (d : Design) (n : ℕ) → Contains (source_nets d) n → (s : Start) × IsStartIn d s × Contains (start_nets d s) n
source_start d n has =
    elim (Contains-append_cases d.inputs (flat_map reg_nets d.regs) n has) [
      | inl here ↦ (InputStart here.0, here.1, (0, omega arith, get_or_default d.inputs here.0 0 n here.1 ∙ here.2))
      | inr later ↦
          let reg = from_flat reg_nets d.regs n later in (
            RegStart reg.0,
            slice_get_within d.regs reg.0 reg.1 reg.2,
            subst (λ (found : Option Reg). Contains (map net_of (outs_of_reg found)) n) (sym reg.2) reg.3,
          )
    ]

-- what holds of all outputs of a start holds at each of its nets
pub shown_both : (d : Design) (s : Start) (P Q : RegOut → Type 0) (n : ℕ) → All P (start_outs d s) → All Q (start_outs d s) → Contains (start_nets d s) n
    → (o : RegOut) × (o.net ≡ n) × P o × Q o
shown_both d s P Q n all more has =
    let out = from_whole net_of (start_outs d s) n has in
    (out.1, out.3, All-at P (start_outs d s) out.0 out.1 out.2 all, All-at Q (start_outs d s) out.0 out.1 out.2 more)

-- one change of a row after another
pub ChangesRow-again : (layer : ℕ) (a b c : List (List Tern)) → ChangesRow layer a b → ChangesRow layer b c → ChangesRow layer a c
ChangesRow-again layer a b c first second =
    record {
      count = second.count ∙ first.count;
      others = λ m apart. second.others m apart ∙ first.others m apart;
      len = second.len ∙ first.len;
    }

-- no change
pub ChangesRow-none : (layer : ℕ) (a : List (List Tern)) → ChangesRow layer a a
ChangesRow-none layer a = record { count = refl; others = λ m apart. refl; len = refl }

-- one more input is written
pub inputs_more3 : (d : Design) (ins : List Tern) (rows next : List (List Tern)) (i : ℕ) (v : Tern) → IsSound d → i < length d.inputs
    → slice_get ins i ≡ Some v → net_at Zero next 0 (slice_index d.inputs i) ≡ v
    → ((n : ℕ) → n ≢ slice_index d.inputs i → net_at Zero next 0 n ≡ net_at Zero rows 0 n)
    → ((j : ℕ) → j < i → net_at Zero rows 0 (slice_index d.inputs j) ≡ tern_at ins j)
    → (j : ℕ) → j < i + 1 → net_at Zero next 0 (slice_index d.inputs j) ≡ tern_at ins j
inputs_more3 d ins rows next i v sound low value here others done =
    let m = slice_index d.inputs i in
    let at : slice_get d.inputs i ≡ Some m = slice_get-get_or d.inputs i 0 low in
    let in_range : m < d.nets = sound.in_range.inputs i 0 low in
    below_more (λ j. net_at Zero next 0 (slice_index d.inputs j) ≡ tern_at ins j) i
    (λ j lt.
    let apart = input_apart d i m (slice_index d.inputs j) sound at in_range
    (plain_contains d.inputs j i (slice_index d.inputs j) lt (slice_get-get_or d.inputs j 0 (omega arith))) in
    others (slice_index d.inputs j) apart ∙ done j lt)
    (here ∙ sym (get_or_from_slice_get ins i v Zero value))

-- what is driven before a register is no net of the register
pub not_of_reg : (d : Design) (r n : ℕ) → IsSound d → Contains (before_reg d r) n → ¬ Contains (start_nets d (RegStart r)) n
not_of_reg d r n sound has = of_reg (slice_get d.regs r) refl
  where
    of_reg : (found : Option Reg) → slice_get d.regs r ≡ found → ¬ Contains (map net_of (outs_of_reg found)) n
    of_reg None e own = not_nil n own
    of_reg (Some reg) e own =
        let out = from_whole net_of reg.outs n own in
        let in_range = reg_out_in_range d r reg out.0 out.1 sound e out.2 in
        reg_apart d r out.0 reg out.1 n sound e out.2 in_range
        (Contains-append_left (before_reg d r) (map net_of (take out.0 reg.outs)) n has) (sym out.3)

-- the nets of an earlier register are driven before
earlier_reg : (d : Design) (q r : ℕ) (k : ℕ) (o : RegOut) → q < r → k < length (start_outs d (RegStart q)) → Contains (before_reg d r)
    (get_or (start_outs d (RegStart q)) k o).net
earlier_reg d q r k o lt within = of_reg (slice_get d.regs q) refl within
  where
    of_reg : (found : Option Reg) → slice_get d.regs q ≡ found → k < length (outs_of_reg found) → Contains (before_reg d r)
        (get_or (outs_of_reg found) k o).net
    of_reg None e small = absurd (omega arith)
    of_reg (Some reg) e small =
        Contains-append_right d.inputs (flat_map reg_nets (take r d.regs)) (get_or reg.outs k o).net
        (flat_contains reg_nets d.regs q r reg (get_or reg.outs k o).net lt e (out_contains reg.outs k o small))

-- one more register is written
pub regs_more3 : (d : Design) (bits : List Tern) (rows next : List (List Tern)) (r : ℕ) (v : Tern) → IsSound d → slice_get bits r ≡ Some v
    → ShowsValue d (row_at next 0) (RegStart r) v
    → ((n : ℕ) → ¬ Contains (start_nets d (RegStart r)) n → net_at Zero next 0 n ≡ net_at Zero rows 0 n)
    → ((q : ℕ) → q < r → ShowsValue d (row_at rows 0) (RegStart q) (tern_at bits q))
    → (q : ℕ) → q < r + 1 → ShowsValue d (row_at next 0) (RegStart q) (tern_at bits q)
regs_more3 d bits rows next r v sound value here others done =
    below_more (λ q. ShowsValue d (row_at next 0) (RegStart q) (tern_at bits q)) r
    (λ q lt k o within. others (get_or (start_outs d (RegStart q)) k o).net (not_of_reg d r (get_or (start_outs d (RegStart q)) k o).net sound
    (earlier_reg d q r k o lt within)) ∙ done q lt k o within)
    (subst (ShowsValue d (row_at next 0) (RegStart r)) (sym (get_or_from_slice_get bits r v Zero value)) here)

-- inputs, registers and gates that are written one after another are settled
pub settled_made3 : (d : Design) (bits ins nets row : List Tern) (first second : List (List Tern)) → IsSound d → length bits ≡ length d.regs
    → length ins ≡ length d.inputs → length nets ≡ d.nets → slice_get second 0 ≡ Some row
    → ((i : ℕ) → i < length d.inputs → net_at Zero first 0 (slice_index d.inputs i) ≡ tern_at ins i)
    → ((n : ℕ) → Contains d.inputs n → net_at Zero second 0 n ≡ net_at Zero first 0 n)
    → ((r : ℕ) → r < length d.regs → ShowsValue d (row_at second 0) (RegStart r) (tern_at bits r))
    → ((n : ℕ) → Contains (source_nets d) n → get_or nets n Zero ≡ get_or row n Zero) → AreGatesSettled tern_value Zero d.gates nets
    → IsSettled3 d (record { bits = bits; ins = ins; nets = nets })
settled_made3 d bits ins nets row first second sound some_bits some_ins some_nets at inputs kept regs sources gates =
    record { bits = some_bits; ins = some_ins; nets = some_nets; starts = starts; gates = gates }
  where
    c : Cycle3
    c = record { bits = bits; ins = ins; nets = nets }

    same : (n : ℕ) → Contains (source_nets d) n → tern_at nets n ≡ net_at Zero second 0 n
    same n has =
        sources n has ∙ ap (λ (xs : List Tern). get_or xs n Zero) (sym (get_or_from_slice_get second 0 row [] at))

    starts : (s : Start) → IsStartIn d s → ShowsValue d nets s (start_value s c)
    starts (RegStart r) is =
        λ k o lt. same (get_or (start_outs d (RegStart r)) k o).net (start_in_sources d (RegStart r) k o is lt) ∙ regs r is k o lt
    starts (InputStart i) is =
        let has : Contains d.inputs (slice_index d.inputs i) = Contains-get_or d.inputs i 0 is in
        All-cons (λ (o : RegOut). tern_at nets o.net ≡ late_value (tern_at ins i) (complement (tern_at ins i)) o)
        (record { net = slice_index d.inputs i; inverted = false }) []
        (same (slice_index d.inputs i) (Contains-append_left d.inputs (flat_map reg_nets d.regs) (slice_index d.inputs i) has)
        ∙ (kept (slice_index d.inputs i) has ∙ inputs i is))
        (All-nil (λ (o : RegOut). tern_at nets o.net ≡ late_value (tern_at ins i) (complement (tern_at ins i)) o))

-- two cycles with the same values of registers and inputs
pub record AreAlike (d : Design) (a b : Cycle3) : Type 0 where
  pub bits : (r : ℕ) → r < length d.regs → tern_at a.bits r ≡ tern_at b.bits r
  pub ins : (i : ℕ) → i < length d.inputs → tern_at a.ins i ≡ tern_at b.ins i

start_same : (d : Design) (a b : Cycle3) (s : Start) → IsStartIn d s → AreAlike d a b → start_value s a ≡ start_value s b
start_same d a b (RegStart r) is alike = alike.bits r is
start_same d a b (InputStart i) is alike = alike.ins i is

net_once3 : (d : Design) (a b : Cycle3) → IsSound d → IsSettled3 d a → IsSettled3 d b → AreAlike d a b → (n : ℕ) → n < d.nets
    → tern_at a.nets n ≡ tern_at b.nets n
net_once3 d a b sound s t alike =
    over_nets d (λ n. tern_at a.nets n ≡ tern_at b.nets n) sound
    (λ n has.
    let start = source_start d n has in
    let both = shown_both d start.0
    (λ (o : RegOut). tern_at a.nets o.net ≡ late_value (start_value start.0 a) (complement (start_value start.0 a)) o)
    (λ (o : RegOut). tern_at b.nets o.net ≡ late_value (start_value start.0 b) (complement (start_value start.0 b)) o) n
    (s.starts start.0 start.1) (t.starts start.0 start.1) start.2 in
    subst (λ m. tern_at a.nets m ≡ tern_at b.nets m) both.1
    (both.2 ∙ (ap (λ (v : Tern). late_value v (complement v) both.0) (start_same d a b start.0 start.1 alike) ∙ sym both.3)))
    (λ k g at all.
    s.gates k g at
    ∙ (tern_agrees g.func (length g.ins) (pins_of Zero g.ins a.nets) (pins_of Zero g.ins b.nets)
    (All-at (IsGateInRange d) d.gates k g at sound.in_range.gates).func (λ i within. all i 0 within)
    ∙ sym (t.gates k g at)))

same_rows : (xs ys : List Tern) (n : ℕ) → length xs ≡ n → length ys ≡ n → ((k : ℕ) → k < n → tern_at xs k ≡ tern_at ys k) → xs ≡ ys
same_rows xs ys n left right same =
    same_lists xs ys (left ∙ sym right)
    (λ k d within. get_or_default xs k d Zero within ∙ (same k (omega arith) ∙ get_or_default ys k Zero d (omega arith)))

-- there is one settled cycle
pub settled_once3 : (d : Design) (a b : Cycle3) → IsSound d → IsSettled3 d a → IsSettled3 d b → AreAlike d a b → a ≡ b
settled_once3 d a b sound s t alike =
    let bits = same_rows a.bits b.bits (length d.regs) s.bits t.bits alike.bits in
    let ins = same_rows a.ins b.ins (length d.inputs) s.ins t.ins alike.ins in
    let nets = same_rows a.nets b.nets d.nets s.nets t.nets (net_once3 d a b sound s t alike) in
    let made : List Tern → List Tern → List Tern → Cycle3 = λ x y z. record { bits = x; ins = y; nets = z } in
    ap (λ (x : List Tern). made x a.ins a.nets) bits
    ∙ (ap (λ (y : List Tern). made b.bits y a.nets) ins ∙ ap (λ (z : List Tern). made b.bits b.ins z) nets)

-- the bits of registers and inputs complete their values
pub record FitSources (d : Design) (c3 : Cycle3) (c : Cycle) : Type 0 where
  pub bits : (r : ℕ) → r < length d.regs → Completes (tern_at c3.bits r) (bit_at c.bits r)
  pub ins : (i : ℕ) → i < length d.inputs → Completes (tern_at c3.ins i) (bit_at c.ins i)

pub start_fits : (d : Design) (c3 : Cycle3) (c : Cycle) (s : Start) → IsStartIn d s → FitSources d c3 c → Completes (start_value s c3) (start_bit s c)
start_fits d c3 c (RegStart r) is fits = fits.bits r is
start_fits d c3 c (InputStart i) is fits = fits.ins i is

complement_fits : (v : Tern) (b : Bool) → Completes v b → Completes (complement v) (not b)
complement_fits Zero b fits = ap not fits
complement_fits One b fits = ap not fits
complement_fits Unknown b fits = tt

-- so do inverted outputs
pub shown_fits : (o : RegOut) (v : Tern) (b : Bool) → Completes v b → Completes (late_value v (complement v) o) (shown o b)
shown_fits o v b fits = by_test o.inverted (complement v) v (not b) b (λ is. complement_fits v b fits) (λ is. fits)

outs_show : (d : Design) (c : Cycle) (start : Start) → IsSettled d c → IsStartIn d start
    → All (λ (o : RegOut). bit_at c.nets o.net ≡ shown o (start_bit start c)) (start_outs d start)
outs_show d c (RegStart r) settled is = of_reg (slice_get d.regs r) refl
  where
    of_reg : (found : Option Reg) → slice_get d.regs r ≡ found → All (λ (o : RegOut). bit_at c.nets o.net ≡ shown o (bit_at c.bits r)) (outs_of_reg found)
    of_reg None e = All-nil (λ (o : RegOut). bit_at c.nets o.net ≡ shown o (bit_at c.bits r))
    of_reg (Some reg) e = settled.regs r reg e
outs_show d c (InputStart i) settled is =
    All-cons (λ (o : RegOut). bit_at c.nets o.net ≡ shown o (bit_at c.ins i)) (record { net = slice_index d.inputs i; inverted = false }) []
    (settled.inputs i is) (All-nil (λ (o : RegOut). bit_at c.nets o.net ≡ shown o (bit_at c.ins i)))

-- the bits of all nets complete their values
pub nets_fit : (d : Design) (c3 : Cycle3) (c : Cycle) → IsSound d → IsSettled3 d c3 → IsSettled d c → FitSources d c3 c → (n : ℕ) → n < d.nets
    → Completes (tern_at c3.nets n) (bit_at c.nets n)
nets_fit d c3 c sound s t fits =
    over_nets d (λ n. Completes (tern_at c3.nets n) (bit_at c.nets n)) sound
    (λ n has.
    let start = source_start d n has in
    let v = start_value start.0 c3 in
    let both = shown_both d start.0 (λ (o : RegOut). tern_at c3.nets o.net ≡ late_value v (complement v) o)
    (λ (o : RegOut). bit_at c.nets o.net ≡ shown o (start_bit start.0 c)) n (s.starts start.0 start.1) (outs_show d c start.0 t start.1) start.2 in
    subst (λ m. Completes (tern_at c3.nets m) (bit_at c.nets m)) both.1
    (moved (tern_at c3.nets both.0.net) (late_value v (complement v) both.0) (bit_at c.nets both.0.net) (shown both.0 (start_bit start.0 c)) both.2 both.3
    (shown_fits both.0 v (start_bit start.0 c) (start_fits d c3 c start.0 start.1 fits))))
    (λ k g at all.
    let in_range = All-at (IsGateInRange d) d.gates k g at sound.in_range.gates in
    moved (tern_at c3.nets g.out) (tern_value g.func (pins_of Zero g.ins c3.nets)) (bit_at c.nets g.out) (value g.func (gate_pins g.ins c.nets))
    (s.gates k g at) (t.gates k g at)
    (cell_completes (value g.func) (length g.ins) (pins_of Zero g.ins c3.nets) (gate_pins g.ins c.nets) (omega (arith, in_range.few))
    (λ x y same. value_agrees g.func (length g.ins) x y in_range.func same) (λ i within. all i 0 within)))

reg_fits : (d : Design) (c3 : Cycle3) (c : Cycle) (r : ℕ) → IsSound d → r < length d.regs → FitSources d c3 c
    → ((n : ℕ) → n < d.nets → Completes (tern_at c3.nets n) (bit_at c.nets n)) → (found : Option Reg) → slice_get d.regs r ≡ found
    → Completes (reg_capture3 c3 r found) (reg_capture_in c r found)
reg_fits d c3 c r sound low fits nets None e = refl
reg_fits d c3 c r sound low fits nets (Some reg) e =
    let in_range = All-at (IsRegInRange d) d.regs r reg e sound.in_range.regs in
    let own3 = tern_at c3.bits r in
    let own = bit_at c.bits r in
    cell_completes (reg_capture reg) (length reg.ins + 1) (reg_pins3 reg.ins c3.nets own3) (reg_pins reg.ins c.nets own) (omega (arith, in_range.few))
    (λ x y same. capture_agrees reg (length reg.ins + 1) x y in_range.next in_range.clear in_range.preset same)
    (λ i lt.
    by_test (nat_lt i (length reg.ins)) (tern_at c3.nets (slice_index reg.ins i)) own3 (bit_at c.nets (slice_index reg.ins i)) own
    (λ is. nets (slice_index reg.ins i) (in_range.ins i 0 (ltb-true i (length reg.ins) is)))
    (λ is. fits.bits r low))

-- so does what an end captures
pub capture_fits : (d : Design) (e : End) (c3 : Cycle3) (c : Cycle) → IsSound d → IsEndIn d e → IsSettled3 d c3 → IsSettled d c → FitSources d c3 c
    → Completes (capture3 d e c3) (capture d e c)
capture_fits d (RegEnd r) c3 c sound is s t fits = reg_fits d c3 c r sound is fits (nets_fit d c3 c sound s t fits) (slice_get d.regs r) refl
capture_fits d (OutputEnd o) c3 c sound is s t fits = nets_fit d c3 c sound s t fits (slice_index d.outputs o) (sound.in_range.outputs o 0 is)
