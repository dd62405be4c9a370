-- Literals in the layers that are made so far, and one more.
use Rattle.std.proofs.Common.{◌≡◌, ℕ, zero, suc, ◌<◌, ◌≤◌, ◌+◌, Bool, true, false, if◌then◌else◌, List, [], ◌∷◌, length, set, get_or, Some, refl, ap, sym, ◌∙◌, arith, inl, inr}
use Rattle.std.proofs.Common.{length-set}
use Rattle.std.specs.Prelude.{All, slice_get, slice_index}
use Rattle.std.proofs.lemmas.Bool.{cases_lt, cases_eq}
use Rattle.std.proofs.lemmas.List.{map-set, length-map}
use Rattle.std.proofs.lemmas.List.Elements.{All-set, All-get_or, All-head, All-tail, All-weaker}
use Rattle.std.proofs.lemmas.Option.{slice_get_within}
use Rattle.std.proofs.Math.ListN.{get_or-map}
use Rattle.net_model.specs.Form.{value, IsOver}
use Rattle.net_model.specs.FormLaws.{value_agrees}
use Rattle.net_model.specs.Netlist.{IsSound, AllBelow}
use Rattle.net_model.specs.Pins.{is_in}
use Rattle.net_model.specs.Layers.{row_at, net_at, held_set, pin_reads, layer_pins}
use Rattle.net_model.specs.RowChanges.{ChangesRow}
use Rattle.net_model.proofs.Layered.{written, row_other, row_same, LayerDone, layer_skip, layer_more}
use Rattle.net_model.specs.declared.arguments.Args.{Args}
use Rattle.net_model.specs.declared.netlist.Design.{Design}
use Rattle.net_model.specs.declared.netlist.Gate.{Gate}
use Rattle.net_model.specs.declared.claims.PinRef.{PinRef}
use Rattle.net_model.specs.declared.claims.PinRef.TheVariants.{Net, GateIn}
use Rattle.and_graphs.specs.Graphs.{IsIn, Means, Keeps, Lowers, bit_of}
use Rattle.and_graphs.specs.declared.graphs.AndGraph.{AndGraph}
use Rattle.and_graphs.proofs.Growing.{keeps_on}
use Rattle.claim_monitor.specs.Shown.{AreIn, shown_row}
use Rattle.claim_monitor.specs.Layered.{AreRowsFor, AreLayerLiterals, IsLayerSettled, shown_rows}
use Rattle.claim_monitor.proofs.Showing.{shown_set, shown_kept, length-shown_row, AreIn-kept, zero_in}
use Rattle.claim_monitor.proofs.NetLits.{net_in, net_bit, lowered}

-- a row that is shown
pub shown_row_at : (g : AndGraph) (x : List Bool) (rows : List (List ℕ)) (m : ℕ) → row_at (shown_rows g x rows) m ≡ shown_row g x (row_at rows m)
shown_row_at g x rows m = get_or-map (shown_row g x) rows m []

pub length-shown_rows : (g : AndGraph) (x : List Bool) (rows : List (List ℕ)) → length (shown_rows g x rows) ≡ length rows
length-shown_rows g x rows = length-map rows (shown_row g x)

-- one literal is written
pub shown_written : (g : AndGraph) (x : List Bool) (rows : List (List ℕ)) (l n lit : ℕ)
    → shown_rows g x (written rows l n lit) ≡ written (shown_rows g x rows) l n (bit_of g x lit)
shown_written g x rows l n lit =
    map-set (shown_row g x) rows l (set (row_at rows l) n lit)
    ∙ ap (λ (row : List Bool). set (shown_rows g x rows) l row)
    (shown_set g x (row_at rows l) n lit ∙ ap (λ (row : List Bool). set row n (bit_of g x lit)) (sym (shown_row_at g x rows l)))

-- rows show the same in a graph that keeps them
pub rows_kept : (old new : AndGraph) (x : List Bool) (rows : List (List ℕ)) → Keeps old new → All (AreIn old) rows → length x ≡ new.front
    → shown_rows new x rows ≡ shown_rows old x rows
rows_kept old new x [] keeps all len = refl
rows_kept old new x (row ∷ rows) keeps all len =
    let here = shown_kept old new x row keeps (All-head (AreIn old) row rows all) len in
    let rest = rows_kept old new x rows keeps (All-tail (AreIn old) row rows all) len in
    cc

pub rows_in_kept : (old new : AndGraph) (rows : List (List ℕ)) → Keeps old new → All (AreIn old) rows → All (AreIn new) rows
rows_in_kept old new rows keeps all = All-weaker (AreIn old) (AreIn new) (λ row in_. AreIn-kept old new row keeps in_) rows all

-- a literal of a row
pub row_net_in : (g : AndGraph) (rows : List (List ℕ)) (m n : ℕ) → m < length rows → n < length (row_at rows m) → All (AreIn g) rows
    → IsIn g (net_at 0 rows m n)
row_net_in g rows m n within low all = net_in g (row_at rows m) n low (All-get_or (AreIn g) rows m [] within all)

pub row_net_bit : (g : AndGraph) (x : List Bool) (rows : List (List ℕ)) (m n : ℕ) → n < length (row_at rows m)
    → bit_of g x (net_at 0 rows m n) ≡ net_at false (shown_rows g x rows) m n
row_net_bit g x rows m n low =
    net_bit g x (row_at rows m) n low ∙ ap (λ (row : List Bool). get_or row n false) (sym (shown_row_at g x rows m))

-- what a pin reads is a literal of the graph
pub pin_reads_in : (g : AndGraph) (sets : List (List PinRef)) (rows : List (List ℕ)) (l : ℕ) (pin : PinRef) (n : ℕ) → l < length rows
    → ((m : ℕ) → m ≤ l → n < length (row_at rows m)) → All (AreIn g) rows → IsIn g (pin_reads 0 sets rows l pin n)
pin_reads_in g sets rows zero pin n within low all = row_net_in g rows 0 n within (low 0 (omega arith)) all
pin_reads_in g sets rows (suc l) pin n within low all =
    let lower = pin_reads_in g sets rows l pin n (omega arith) (λ m le. low m (omega arith)) all in
    let here = row_net_in g rows (suc l) n within (low (suc l) (omega arith)) all in
    elim (is_in pin (held_set sets (suc l))) as
    (λ (b : Bool). IsIn g (if b then pin_reads 0 sets rows l pin n else net_at 0 rows (suc l) n)) [ true ↦ lower | false ↦ here ]

-- and shows what the pin reads
pub pin_reads_bit : (g : AndGraph) (x : List Bool) (sets : List (List PinRef)) (rows : List (List ℕ)) (l : ℕ) (pin : PinRef) (n : ℕ)
    → ((m : ℕ) → m ≤ l → n < length (row_at rows m)) → bit_of g x (pin_reads 0 sets rows l pin n) ≡ pin_reads false sets (shown_rows g x rows) l pin n
pin_reads_bit g x sets rows zero pin n low = row_net_bit g x rows 0 n (low 0 (omega arith))
pin_reads_bit g x sets rows (suc l) pin n low =
    let lower = pin_reads_bit g x sets rows l pin n (λ m le. low m (omega arith)) in
    let here = row_net_bit g x rows (suc l) n (low (suc l) (omega arith)) in
    elim (is_in pin (held_set sets (suc l))) as
    (λ (b : Bool). bit_of g x (if b then pin_reads 0 sets rows l pin n else net_at 0 rows (suc l) n)
    ≡ (if b then pin_reads false sets (shown_rows g x rows) l pin n else net_at false (shown_rows g x rows) (suc l) n)) [ true ↦ lower | false ↦ here ]

-- the literal of a gate in a layer
pub layer_means : (old new : AndGraph) (sets : List (List PinRef)) (rows : List (List ℕ)) (layer k : ℕ) (gate : Gate) (args : Args ℕ) (l : ℕ)
    → Keeps old new → layer < length rows → ((m : ℕ) → m ≤ layer → AllBelow (length (row_at rows m)) gate.ins) → IsOver (length gate.ins) gate.func
    → All (AreIn old) rows → AreLayerLiterals sets rows layer k gate.ins args → Lowers old args gate.func new l
    → Means new l (λ x. value gate.func (layer_pins false sets (shown_rows old x rows) layer k gate.ins))
layer_means old new sets rows layer k gate args l keeps within below over all are lowers =
    lowered old new gate.func (length gate.ins) args l (λ x. layer_pins false sets (shown_rows old x rows) layer k gate.ins) keeps over
    (λ i low. elim (cases_lt i (length gate.ins)) [
      | inl inside ↦ rw (are.pins i inside) (pin_reads_in old sets rows layer (GateIn k i) (slice_index gate.ins i) within
          (λ m le. below m le i 0 inside) all)
      | inr past ↦ rw (are.rest i past low) (zero_in old)
    ])
    (λ x i len inside. rw (are.pins i inside) (pin_reads_bit old x sets rows layer (GateIn k i) (slice_index gate.ins i) (λ m le. below m le i 0 inside)))
    lowers

-- the first k gates of a layer are settled
pub record LayerLitsDone (d : Design) (sets : List (List PinRef)) (l : ℕ) (first : AndGraph) (start : List (List ℕ)) (g : AndGraph) (rows : List (List ℕ))
    (k : ℕ) : Type 0 where
  pub keeps : Keeps first g
  pub are : AreRowsFor g d.nets l rows
  pub kept : ChangesRow l start rows
  pub bits : (x : List Bool) → length x ≡ g.front → LayerDone value false d sets l (shown_rows g x start) (shown_rows g x rows) k

pub layer_lits_none : (d : Design) (sets : List (List PinRef)) (l : ℕ) (g : AndGraph) (rows : List (List ℕ)) → AreRowsFor g d.nets l rows
    → LayerLitsDone d sets l g rows g rows 0
layer_lits_none d sets l g rows are =
    record {
      keeps = record { front = refl; ordered = λ o. o; means = λ lit f m. m };
      are = are;
      kept = record { count = refl; others = λ m apart. refl; len = refl };
      bits = λ x len. record {
        count = refl;
        below = λ m apart. refl;
        len = ap length (shown_row_at g x rows l) ∙ (length-shown_row g x (row_at rows l) ∙ are.lens l (omega arith));
        sources = λ n has. refl;
        held = λ n is. refl;
        gates = λ j lt. absurd (omega arith);
      };
    }

pub layer_lits_skip : (d : Design) (sets : List (List PinRef)) (l : ℕ) (first : AndGraph) (start : List (List ℕ)) (g : AndGraph) (rows : List (List ℕ))
    (k : ℕ) (gate : Gate) → slice_get d.gates k ≡ Some gate → is_in (Net gate.out) (held_set sets l) ≡ true
    → LayerLitsDone d sets l first start g rows k → LayerLitsDone d sets l first start g rows (k + 1)
layer_lits_skip d sets l first start g rows k gate at held done =
    record {
      keeps = done.keeps;
      are = done.are;
      kept = done.kept;
      bits = λ x len. layer_skip value false d sets l (shown_rows g x start) (shown_rows g x rows) k gate at held (done.bits x len);
    }

-- one literal is written into a row
pub row_written : (g : AndGraph) (nets l : ℕ) (rows : List (List ℕ)) (n lit : ℕ) → IsIn g lit → AreRowsFor g nets l rows
    → AreRowsFor g nets l (written rows l n lit)
row_written g nets l rows n lit here are =
    record {
      count = omega (arith, length-set rows l (set (row_at rows l) n lit), are.count);
      lens = λ m le. elim (cases_eq m l) [
        | inl same ↦ rw same (ap length (row_same rows l n lit are.count) ∙ (length-set (row_at rows l) n lit ∙ are.lens l (omega arith)))
        | inr apart ↦ ap length (row_other rows l n m lit apart) ∙ are.lens m le
      ];
      in_ = All-set (AreIn g) rows l (set (row_at rows l) n lit)
          (All-set (IsIn g) (row_at rows l) n lit here (All-get_or (AreIn g) rows l [] are.count are.in_)) are.in_;
    }

pub change_more : (l : ℕ) (start rows : List (List ℕ)) (n lit : ℕ) → l < length rows → ChangesRow l start rows → ChangesRow l start (written rows l n lit)
change_more l start rows n lit within kept =
    record {
      count = length-set rows l (set (row_at rows l) n lit) ∙ kept.count;
      others = λ m apart. row_other rows l n m lit apart ∙ kept.others m apart;
      len = ap length (row_same rows l n lit within) ∙ (length-set (row_at rows l) n lit ∙ kept.len);
    }

pub layer_lits_more : (d : Design) (sets : List (List PinRef)) (l : ℕ) (first : AndGraph) (start : List (List ℕ)) (old new : AndGraph)
    (rows : List (List ℕ)) (k : ℕ) (gate : Gate) (lit : ℕ) → IsSound d → slice_get d.gates k ≡ Some gate
    → is_in (Net gate.out) (held_set sets l) ≡ false → All (AreIn first) start → Keeps old new
    → Means new lit (λ x. value gate.func (layer_pins false sets (shown_rows old x rows) l k gate.ins)) → LayerLitsDone d sets l first start old rows k
    → LayerLitsDone d sets l first start new (written rows l gate.out lit) (k + 1)
layer_lits_more d sets l first start old new rows k gate lit sound at free of_start keeps means done =
    let are_new : AreRowsFor new d.nets l rows =
    record { count = done.are.count; lens = done.are.lens; in_ = rows_in_kept old new rows keeps done.are.in_ } in
    record {
      keeps = keeps_on first old new done.keeps keeps;
      are = row_written new d.nets l rows gate.out lit means.here are_new;
      kept = change_more l start rows gate.out lit done.are.count done.kept;
      bits = λ x len.
          let before : length x ≡ old.front = len ∙ keeps.front in
          let same : shown_rows new x rows ≡ shown_rows old x rows = rows_kept old new x rows keeps done.are.in_ len in
          let same_start : shown_rows new x start ≡ shown_rows old x start =
          rows_kept old new x start keeps (rows_in_kept first old start done.keeps of_start) len in
          let row : shown_rows new x (written rows l gate.out lit) ≡ written (shown_rows old x rows) l gate.out (bit_of new x lit) =
          shown_written new x rows l gate.out lit ∙ ap (λ (r : List (List Bool)). written r l gate.out (bit_of new x lit)) same in
          let within : l < length (shown_rows old x rows) = omega (arith, length-shown_rows old x rows, done.are.count) in
          rw (row, same_start) (layer_more value value_agrees false d sets l (shown_rows old x start) (shown_rows old x rows) k gate (bit_of new x lit) sound
          within at free (means.bit x len) (done.bits x before));
    }

-- all gates are settled
pub layer_lits_all : (d : Design) (sets : List (List PinRef)) (l : ℕ) (first : AndGraph) (start : List (List ℕ)) (g : AndGraph) (rows : List (List ℕ))
    (k : ℕ) → k ≡ length d.gates → LayerLitsDone d sets l first start g rows k → (x : List Bool) → length x ≡ g.front
    → IsLayerSettled d sets l (shown_rows g x start) (shown_rows g x rows)
layer_lits_all d sets l first start g rows k whole done x len =
    let settled = done.bits x len in
    record {
      sources = settled.sources;
      held = settled.held;
      gates = λ j gate at. let low = slice_get_within d.gates j gate at in settled.gates j (omega arith) gate at;
    }
