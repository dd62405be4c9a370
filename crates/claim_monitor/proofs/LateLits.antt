-- Literals where the start comes late.
use Rattle.std.proofs.Common.{◌≡◌, ◌≢◌, ℕ, zero, suc, ◌<◌, ◌≤◌, ◌+◌, ◌-◌, Bool, true, false, not, if◌then◌else◌, List, [], ◌∷◌, ◌++◌, length, map, replicate, set, get_or, Some, refl, ap, sym, ◌∙◌, subst, arith, below_more}
use Rattle.std.proofs.Common.{get_or-set_same}
use Rattle.std.specs.Prelude.{All, slice_get, slice_index}
use Rattle.std.proofs.lemmas.List.{length-replicate}
use Rattle.std.proofs.lemmas.List.Elements.{All-set, All-get_or, All-push, All-weaker, All-replicate, All-cons, All-nil}
use Rattle.std.proofs.lemmas.Option.{get_or_from_slice_get}
use Rattle.net_model.specs.Form.{value}
use Rattle.net_model.specs.FormLaws.{value_agrees}
use Rattle.net_model.specs.Netlist.{IsSound}
use Rattle.net_model.specs.Fits.{IsStartIn}
use Rattle.net_model.specs.Cycles.{bit_at, shown}
use Rattle.net_model.specs.Pins.{is_in, late_value}
use Rattle.net_model.specs.Layers.{row_at, net_at, held_set, first_value, AreLayersTo}
use Rattle.net_model.specs.RowChanges.{ChangesRow}
use Rattle.net_model.proofs.Layered.{written, row_same, net_other, LateDone, late_more}
use Rattle.net_model.proofs.LayerRows.{length-ChangesRow, layers_first, layers_next}
use Rattle.net_model.specs.declared.netlist.Design.{Design}
use Rattle.net_model.specs.declared.netlist.Reg.{Reg}
use Rattle.net_model.specs.declared.netlist.RegOut.{RegOut}
use Rattle.net_model.specs.declared.claims.PinRef.{PinRef}
use Rattle.net_model.specs.declared.claims.PinRef.TheVariants.{Net}
use Rattle.net_model.specs.declared.claims.Start.{Start}
use Rattle.net_model.specs.declared.claims.Start.TheVariants.{Input as InputStart}
use Rattle.and_graphs.specs.Graphs.{IsIn, Means, Keeps, bit_of}
use Rattle.and_graphs.specs.declared.graphs.AndGraph.{AndGraph}
use Rattle.and_graphs.proofs.Growing.{keeps_on}
use Rattle.claim_monitor.specs.Shown.{AreIn, shown_row}
use Rattle.claim_monitor.specs.Layered.{AreRowsFor, IsLayerSettled, ShowsLate, base_literal, shown_rows}
use Rattle.claim_monitor.proofs.Showing.{shown_kept, length-shown_row, means_self, bit_kept, in_kept, AreIn-kept, zero_in}
use Rattle.claim_monitor.proofs.NetLits.{net_in, net_bit}
use Rattle.claim_monitor.proofs.LayerLits.{shown_row_at, shown_written, length-shown_rows, rows_kept, row_net_in, row_net_bit, change_more}

-- a row that changes is the same in the bits that it shows
pub shown_change : (g : AndGraph) (x : List Bool) (l : ℕ) (before now : List (List ℕ)) → ChangesRow l before now
    → ChangesRow l (shown_rows g x before) (shown_rows g x now)
shown_change g x l before now kept =
    record {
      count = length-shown_rows g x now ∙ (kept.count ∙ sym (length-shown_rows g x before));
      others = λ m apart. shown_row_at g x now m ∙ (ap (shown_row g x) (kept.others m apart) ∙ sym (shown_row_at g x before m));
      len = ap length (shown_row_at g x now l) ∙ (length-shown_row g x (row_at now l) ∙ (kept.len
          ∙ (sym (length-shown_row g x (row_at before l)) ∙ sym (ap length (shown_row_at g x before l)))));
    }

-- rows for layers are rows for those below
pub rows_below : (g : AndGraph) (nets last l : ℕ) (rows : List (List ℕ)) → l ≤ last → AreRowsFor g nets last rows → AreRowsFor g nets l rows
rows_below g nets last l rows le are =
    record { count = omega (arith, are.count); lens = λ m low. are.lens m (omega arith); in_ = are.in_ }

-- a base literal is the same while only its own layer's row changes
base_same : (sets : List (List PinRef)) (l : ℕ) (base : List ℕ) (start rows : List (List ℕ)) (n : ℕ) → ((m : ℕ) → m ≢ l → row_at rows m ≡ row_at start m)
    → base_literal sets rows l base n ≡ base_literal sets start l base n
base_same sets zero base start rows n others = refl
base_same sets (suc l) base start rows n others =
    let apart : suc l - 1 ≢ suc l = omega arith in
    ap (λ (row : List ℕ). if is_in (Net n) (held_set sets (suc l)) then get_or row n 0 else slice_index base n) (others (suc l - 1) apart)

base_in : (g : AndGraph) (sets : List (List PinRef)) (l : ℕ) (base : List ℕ) (rows : List (List ℕ)) (n : ℕ) → l < length rows → n < length base
    → ((m : ℕ) → m ≤ l → length (row_at rows m) ≡ length base) → AreIn g base → All (AreIn g) rows → IsIn g (base_literal sets rows l base n)
base_in g sets l base rows n within low lens of_base all =
    let same = lens (l - 1) (omega arith) in
    let held = row_net_in g rows (l - 1) n (omega arith) (omega arith) all in
    let free = net_in g base n low of_base in
    elim (is_in (Net n) (held_set sets l)) as (λ (b : Bool). IsIn g (if b then net_at 0 rows (l - 1) n else slice_index base n)) [ true ↦ held | false ↦ free ]

-- it shows the value that the net has first
pub base_bit : (g : AndGraph) (x : List Bool) (sets : List (List PinRef)) (l : ℕ) (base : List ℕ) (rows : List (List ℕ)) (n : ℕ) → n < length base
    → ((m : ℕ) → m ≤ l → length (row_at rows m) ≡ length base)
    → bit_of g x (base_literal sets rows l base n) ≡ first_value false (λ (b : Bool). b) sets (shown_rows g x rows) l (shown_row g x base) n
base_bit g x sets l base rows n low lens =
    let same = lens (l - 1) (omega arith) in
    let held = row_net_bit g x rows (l - 1) n (omega arith) in
    let free = net_bit g x base n low in
    elim (is_in (Net n) (held_set sets l)) as
    (λ (b : Bool). bit_of g x (if b then net_at 0 rows (l - 1) n else slice_index base n)
    ≡ (if b then net_at false (shown_rows g x rows) (l - 1) n else bit_at (shown_row g x base) n)) [ true ↦ held | false ↦ free ]

-- the literals of the first k nets are written
pub record BaseLitsDone (sets : List (List PinRef)) (l : ℕ) (base : List ℕ) (start rows : List (List ℕ)) (k : ℕ) : Type 0 where
  pub kept : ChangesRow l start rows
  pub in_ : (g : AndGraph) → AreIn g base → All (AreIn g) start → All (AreIn g) rows
  pub row : (n : ℕ) → n < k → net_at 0 rows l n ≡ base_literal sets start l base n

pub base_lits_none : (sets : List (List PinRef)) (l : ℕ) (base : List ℕ) (rows : List (List ℕ)) → BaseLitsDone sets l base rows rows 0
base_lits_none sets l base rows =
    record {
      kept = record { count = refl; others = λ m apart. refl; len = refl };
      in_ = λ g of_base all. all;
      row = λ n low. absurd (omega arith);
    }

pub base_lits_more : (sets : List (List PinRef)) (l : ℕ) (base : List ℕ) (start rows : List (List ℕ)) (k lit : ℕ) → l < length start → k < length base
    → ((m : ℕ) → m ≤ l → length (row_at start m) ≡ length base) → lit ≡ base_literal sets rows l base k → BaseLitsDone sets l base start rows k
    → BaseLitsDone sets l base start (written rows l k lit) (k + 1)
base_lits_more sets l base start rows k lit within low lens is done =
    let here : l < length rows = omega (arith, done.kept.count) in
    let len : length (row_at rows l) ≡ length base = done.kept.len ∙ lens l (omega arith) in
    let first : lit ≡ base_literal sets start l base k = is ∙ base_same sets l base start rows k done.kept.others in
    record {
      kept = change_more l start rows k lit here done.kept;
      in_ = λ g of_base all.
          let of_rows = done.in_ g of_base all in
          let of_lit : IsIn g lit = rw first (base_in g sets l base start k within low lens of_base all) in
          All-set (AreIn g) rows l (set (row_at rows l) k lit)
          (All-set (IsIn g) (row_at rows l) k lit of_lit (All-get_or (AreIn g) rows l [] here of_rows)) of_rows;
      row =
          below_more (λ n. net_at 0 (written rows l k lit) l n ≡ base_literal sets start l base n) k
          (λ n lt. net_other 0 rows l k l n lit here (omega arith) ∙ done.row n lt)
          (ap (λ (row : List ℕ). get_or row k 0) (row_same rows l k lit here) ∙ (get_or-set_same (row_at rows l) k lit 0 (omega arith) ∙ first));
    }

-- the first o nets of a register show the late literal
pub record LateRegDone (d : Design) (outs : List RegOut) (literal : ℕ) (start rows : List (List ℕ)) (o : ℕ) : Type 0 where
  pub kept : ChangesRow 0 start rows
  pub in_ : (g : AndGraph) → IsIn g literal → All (AreIn g) start → All (AreIn g) rows
  pub bits : (g : AndGraph) (x : List Bool) → IsIn g literal → length x ≡ g.front
      → LateDone false (bit_of g x literal) (not (bit_of g x literal)) outs (shown_rows g x start) (shown_rows g x rows) o

pub late_reg_none : (d : Design) (outs : List RegOut) (literal : ℕ) (rows : List (List ℕ)) → LateRegDone d outs literal rows rows 0
late_reg_none d outs literal rows =
    record {
      kept = record { count = refl; others = λ m apart. refl; len = refl };
      in_ = λ g of all. all;
      bits = λ g x of len. record { count = refl; below = λ m apart. refl; len = refl; late = λ p low. absurd (omega arith); others = λ n out. refl };
    }

pub late_reg_more : (d : Design) (r : ℕ) (reg : Reg) (literal : ℕ) (start rows : List (List ℕ)) (o lit : ℕ) (out : RegOut) → IsSound d
    → 0 < length start → length (row_at start 0) ≡ d.nets → slice_get d.regs r ≡ Some reg → slice_get reg.outs o ≡ Some out
    → ((g : AndGraph) (f : List Bool → Bool) → Means g literal f → Means g lit (λ x. shown out (f x))) → LateRegDone d reg.outs literal start rows o
    → LateRegDone d reg.outs literal start (written rows 0 out.net lit) (o + 1)
late_reg_more d r reg literal start rows o lit out sound some wide at there means done =
    let here : 0 < length rows = omega (arith, done.kept.count) in
    record {
      kept = change_more 0 start rows out.net lit here done.kept;
      in_ = λ g of all.
          let of_rows = done.in_ g of all in
          All-set (AreIn g) rows 0 (set (row_at rows 0) out.net lit)
          (All-set (IsIn g) (row_at rows 0) out.net lit (means g (λ x. bit_of g x literal) (means_self g literal of)).here
          (All-get_or (AreIn g) rows 0 [] here of_rows)) of_rows;
      bits = λ g x of len.
          let b = bit_of g x literal in
          let rows_len : 0 < length (shown_rows g x rows) = omega (arith, length-shown_rows g x rows) in
          let wide_now : length (row_at (shown_rows g x rows) 0) ≡ d.nets =
          ap length (shown_row_at g x rows 0) ∙ (length-shown_row g x (row_at rows 0) ∙ (done.kept.len ∙ wide)) in
          subst (λ (now : List (List Bool)). LateDone false b (not b) reg.outs (shown_rows g x start) now (o + 1)) (sym (shown_written g x rows 0 out.net lit))
          (late_more false b (not b) d r reg (shown_rows g x start) (shown_rows g x rows) o out (bit_of g x lit) sound rows_len wide_now at there
          ((means g (λ y. bit_of g y literal) (means_self g literal of)).bit x len) (done.bits g x of len));
    }

-- the layers that are made so far
pub record LayersDone (d : Design) (start : Start) (sets : List (List PinRef)) (literal : ℕ) (base : List ℕ) (first g : AndGraph) (rows : List (List ℕ))
    (last : ℕ) : Type 0 where
  pub keeps : Keeps first g
  pub are : AreRowsFor g d.nets (length sets) rows
  pub layers : (x : List Bool) → length x ≡ g.front
      → AreLayersTo value false d start sets (late_value (bit_of g x literal) (not (bit_of g x literal))) (map (λ (b : Bool). b) (shown_row g x base))
      (shown_rows g x rows) last

pub layers_begun : (d : Design) (start : Start) (sets : List (List PinRef)) (literal : ℕ) (base : List ℕ) (old new : AndGraph)
    (rows made late next : List (List ℕ)) → IsSound d → IsStartIn d start → length base ≡ d.nets → IsIn old literal → AreIn old base
    → AreRowsFor old d.nets (length sets) rows → ChangesRow 0 rows made → ((n : ℕ) → n < length base → net_at 0 made 0 n ≡ slice_index base n)
    → ChangesRow 0 made late → ShowsLate new d start literal made late → Keeps old new → All (AreIn new) next → ChangesRow 0 late next
    → ((x : List Bool) → length x ≡ new.front → IsLayerSettled d sets 0 (shown_rows new x late) (shown_rows new x next))
    → LayersDone d start sets literal base old new next 0
layers_begun d start sets literal base old new rows made late next sound start_in long here of_base are first base_row second shows keeps all third settled =
    let are_made : (m : ℕ) → length (row_at made m) ≡ length (row_at rows m) = length-ChangesRow 0 rows made first in
    let wide : length (row_at next 0) ≡ d.nets =
    length-ChangesRow 0 late next third 0 ∙ (length-ChangesRow 0 made late second 0 ∙ (are_made 0 ∙ are.lens 0 (omega arith))) in
    record {
      keeps = keeps;
      are = record {
        count = omega (arith, third.count, second.count, first.count, are.count);
        lens = λ m le. length-ChangesRow 0 late next third m ∙ (length-ChangesRow 0 made late second m ∙ (are_made m ∙ are.lens m le));
        in_ = all;
      };
      layers = λ x len.
          let b = bit_of new x literal in
          let base_len = length-shown_row new x base in
          let made_wide : length (row_at made 0) ≡ length base = are_made 0 ∙ (are.lens 0 (omega arith) ∙ sym long) in
          layers_first value (λ (v : Bool). v) d start sets (late_value b (not b)) (shown_row new x base) (shown_rows new x made) (shown_rows new x late)
          (shown_rows new x next) sound start_in (base_len ∙ long) (omega (arith, length-shown_rows new x next, third.count, second.count, first.count, are.count))
          (λ n low.
          let inside : n < length base = omega arith in
          sym (row_net_bit new x made 0 n (omega arith)) ∙ (ap (bit_of new x) (base_row n inside) ∙ net_bit new x base n inside))
          (shows.late x len) (λ n out. shows.others x n len out)
          (ap length (shown_row_at new x next 0) ∙ (length-shown_row new x (row_at next 0) ∙ wide))
          (settled x len).sources (settled x len).gates;
    }

pub layers_on : (d : Design) (start : Start) (sets : List (List PinRef)) (literal : ℕ) (base : List ℕ) (first old new : AndGraph)
    (rows made next : List (List ℕ)) (last : ℕ) → IsSound d → last + 1 ≤ length sets → length base ≡ d.nets → IsIn first literal → AreIn first base
    → ChangesRow (last + 1) rows made → ((n : ℕ) → n < length base → net_at 0 made (last + 1) n ≡ base_literal sets rows (last + 1) base n)
    → Keeps old new → All (AreIn new) next → ChangesRow (last + 1) made next
    → ((x : List Bool) → length x ≡ new.front → IsLayerSettled d sets (last + 1) (shown_rows new x made) (shown_rows new x next))
    → LayersDone d start sets literal base first old rows last → LayersDone d start sets literal base first new next (last + 1)
layers_on d start sets literal base first old new rows made next last sound room long here of_base change base_row keeps all change_next settled done =
    record {
      keeps = keeps_on first old new done.keeps keeps;
      are = record {
        count = omega (arith, change_next.count, change.count, done.are.count);
        lens = λ m le. length-ChangesRow (last + 1) made next change_next m ∙ (length-ChangesRow (last + 1) rows made change m ∙ done.are.lens m le);
        in_ = all;
      };
      layers = λ x len.
          let before : length x ≡ old.front = len ∙ keeps.front in
          let same_rows : shown_rows new x rows ≡ shown_rows old x rows = rows_kept old new x rows keeps done.are.in_ len in
          let same_base : shown_row new x base ≡ shown_row old x base = shown_kept old new x base keeps (AreIn-kept first old base done.keeps of_base) len in
          let same_bit : bit_of new x literal ≡ bit_of old x literal = bit_kept old new x literal keeps (in_kept first old literal done.keeps here) len in
          let b = bit_of new x literal in
          let so_far : AreLayersTo value false d start sets (late_value b (not b)) (map (λ (v : Bool). v) (shown_row new x base)) (shown_rows new x rows) last =
          rw (same_bit, same_base, same_rows) (done.layers x before) in
          let base_len = length-shown_row new x base in
          let wide : (m : ℕ) → m ≤ last + 1 → length (row_at rows m) ≡ length base = λ m le. done.are.lens m (omega arith) ∙ sym long in
          let made_wide : length (row_at made (last + 1)) ≡ length base = length-ChangesRow (last + 1) rows made change (last + 1) ∙ wide (last + 1) (omega arith) in
          let shown_made = shown_change new x (last + 1) rows made change in
          let shown_next = shown_change new x (last + 1) made next change_next in
          layers_next value value_agrees (λ (v : Bool). v) d start sets (late_value b (not b)) (shown_row new x base) (shown_rows new x rows)
          (shown_rows new x made) (shown_rows new x next) last sound (omega (arith, length-shown_rows new x rows, done.are.count)) (base_len ∙ long) so_far
          (λ m le. shown_made.others m (omega arith))
          (ap length (shown_row_at new x made (last + 1)) ∙ (length-shown_row new x (row_at made (last + 1)) ∙ (made_wide ∙ sym base_len)))
          (λ n low.
          let inside : n < length base = omega arith in
          sym (row_net_bit new x made (last + 1) n (omega arith)) ∙ (ap (bit_of new x) (base_row n inside) ∙ base_bit new x sets (last + 1) base rows n inside wide))
          (shown_next.count ∙ shown_made.count) (λ m le. shown_next.others m (omega arith))
          (ap length (shown_row_at new x next (last + 1)) ∙ (length-shown_row new x (row_at next (last + 1))
          ∙ (length-ChangesRow (last + 1) made next change_next (last + 1) ∙ (made_wide ∙ long))))
          (settled x len).sources (settled x len).held (settled x len).gates;
    }

-- so many rows, with the constant 0 for each net
pub record AreEmptyRows (nets : ℕ) (rows : List (List ℕ)) (k : ℕ) : Type 0 where
  pub count : length rows ≡ k
  pub each : All (λ (row : List ℕ). row ≡ replicate nets 0) rows

pub empty_more : (nets : ℕ) (rows : List (List ℕ)) (row : List ℕ) (k : ℕ) → row ≡ replicate nets 0 → AreEmptyRows nets rows k
    → AreEmptyRows nets (rows ++ row ∷ []) (k + 1)
empty_more nets rows row k is done =
    record {
      count = more rows row ∙ ap (λ (n : ℕ). n + 1) done.count;
      each = All-push (λ (r : List ℕ). r ≡ replicate nets 0) rows row done.each is;
    }
  where
    more : (xs : List (List ℕ)) (x : List ℕ) → length (xs ++ x ∷ []) ≡ length xs + 1
    more [] x = refl
    more (y ∷ xs) x = let go = more xs x in omega arith

pub empty_rows_for : (g : AndGraph) (nets last : ℕ) (rows : List (List ℕ)) (k : ℕ) → k ≡ last + 1 → AreEmptyRows nets rows k → AreRowsFor g nets last rows
empty_rows_for g nets last rows k whole done =
    record {
      count = omega (arith, done.count);
      lens = λ m le.
          let within : m < length rows = omega (arith, done.count) in
          ap length (All-get_or (λ (r : List ℕ). r ≡ replicate nets 0) rows m [] within done.each) ∙ length-replicate nets 0;
      in_ = All-weaker (λ (r : List ℕ). r ≡ replicate nets 0) (AreIn g)
          (λ r is. rw is (All-replicate (IsIn g) nets 0 (zero_in g))) rows done.each;
    }

-- the net of an input shows a late literal
pub late_input : (g : AndGraph) (d : Design) (i net literal : ℕ) (rows : List (List ℕ)) → slice_get d.inputs i ≡ Some net → 0 < length rows
    → net < length (row_at rows 0) → IsIn g literal → ShowsLate g d (InputStart i) literal rows (written rows 0 net literal)
late_input g d i net literal rows at some low of =
    let here : slice_index d.inputs i ≡ net = get_or_from_slice_get d.inputs i net 0 at in
    let out : RegOut = record { net = slice_index d.inputs i; inverted = false } in
    record {
      in_ = λ all. All-set (AreIn g) rows 0 (set (row_at rows 0) net literal)
          (All-set (IsIn g) (row_at rows 0) net literal of (All-get_or (AreIn g) rows 0 [] some all)) all;
      late = λ x len.
          let shows : net_at false (shown_rows g x (written rows 0 net literal)) 0 (slice_index d.inputs i) ≡ bit_of g x literal =
          rw (here, shown_written g x rows 0 net literal)
          (ap (λ (row : List Bool). get_or row net false) (row_same (shown_rows g x rows) 0 net (bit_of g x literal) (omega (arith, length-shown_rows g x rows)))
          ∙ get_or-set_same (row_at (shown_rows g x rows) 0) net (bit_of g x literal) false
          (omega (arith, ap length (shown_row_at g x rows 0), length-shown_row g x (row_at rows 0)))) in
          All-cons (λ (o : RegOut). net_at false (shown_rows g x (written rows 0 net literal)) 0 o.net ≡ shown o (bit_of g x literal)) out [] shows
          (All-nil (λ (o : RegOut). net_at false (shown_rows g x (written rows 0 net literal)) 0 o.net ≡ shown o (bit_of g x literal)));
      others = λ x n len other.
          let apart : n ≢ net = λ same. other (0, omega arith, here ∙ sym same) in
          ap (λ (now : List (List Bool)). net_at false now 0 n) (shown_written g x rows 0 net literal)
          ∙ net_other false (shown_rows g x rows) 0 net 0 n (bit_of g x literal) (omega (arith, length-shown_rows g x rows)) apart;
    }
