-- The nets that a late start moves, layer by layer.
use Rattle.std.proofs.Common.{◌≡◌, ℕ, zero, suc, ◌+◌, ◌<◌, ◌≤◌, Bool, true, false, cond, List, [], ◌∷◌, ◌++◌, length, get_or, Some, refl}
use Rattle.std.proofs.Common.{ap, sym, ◌∙◌, subst, arith, below_more, add-one, inl, inr, ◌⊎◌, map}
use Rattle.std.specs.Prelude.{Contains, nat_eq, slice_get, slice_index, take, ◌||◌, ◌==◌}
use Rattle.std.specs.List.{list_any}
use Rattle.std.proofs.lemmas.Bool.{cases_Bool, cases_lt, or_left, or_right, or_cases, false_from_ne_true, both_ways, eq-eqb, eqb-true}
use Rattle.std.proofs.lemmas.List.{get_or_append_left, get_or_push, get_or_past, length-append, length-map, get_or-map, map-append}
use Rattle.std.proofs.lemmas.List.Elements.{All-from_get_or, All-get_or, Contains-append_left, Contains-get_or}
use Rattle.std.proofs.lemmas.List.Folds.{list_any_at}
use Rattle.std.proofs.lemmas.Map.Views.{Contains-from_any}
use Rattle.net_model.specs.Netlist.{IsSound, IsGateInRange, AllBelow, source_nets, gate_nets}
use Rattle.net_model.specs.Fits.{IsStartIn}
use Rattle.net_model.specs.Paths.{To_gate}
use Rattle.net_model.specs.Pins.{is_in, start_nets}
use Rattle.net_model.specs.Layers.{row_at, net_at, held_set, pin_reads, layer_pins}
use Rattle.net_model.proofs.Order.{out_before, not_yet}
use Rattle.net_model.proofs.PinTests.{is_in-Contains, Contains-is_in}
use Rattle.net_model.proofs.Settling.{All-at}
use Rattle.net_model.proofs.Layered.{pin_kept}
use Rattle.net_model.proofs.LayerRows.{net_kept}
use Rattle.net_model.specs.declared.netlist.Design.{Design}
use Rattle.net_model.specs.declared.netlist.Gate.{Gate}
use Rattle.net_model.specs.declared.claims.Claim.{Claim}
use Rattle.net_model.specs.declared.claims.PinRef.{PinRef}
use Rattle.net_model.specs.declared.claims.PinRef.TheVariants.{Net, GateIn}
use Rattle.net_paths.proofs.Growing.{gate_of_pin}
use Rattle.indexmap.specs.IndexSet.{IndexSet, insert_key}
use Rattle.query_model.specs.Keys.{below}
use Rattle.query_model.specs.Reads.{any_below, AreMoved}
use Rattle.frame_unroll.specs.Moves.{marks_of, rows_of, AreThose, Lists, Gate_moves, NetMoves, IsSpread, SetMoves, Driver_moves, Taken_moves, IsTaken, AreGatesMoved}
use Rattle.frame_unroll.proofs.Listed.{lists_insert, lists_stay}
use Rattle.frame_unroll.proofs.Starting.{start_source, start_low}

true-false : true ≡ false → ⊥
true-false e = cc

some_is : {X : Type 0} (x y : X) → Some x ≡ Some y → x ≡ y
some_is x y e = cc

same_truth : (a b : Bool) → (a ≡ true → b ≡ true) → (b ≡ true → a ≡ true) → a ≡ b
same_truth true b to from = sym (to refl)
same_truth false true to from = from refl
same_truth false false to from = refl

any_at : (n i : ℕ) (f : ℕ → Bool) → i < n → f i ≡ true → any_below n f ≡ true
any_at zero i f lt is = absurd (omega arith)
any_at (suc n) i f lt is =
    elim (cases_lt i n) [
      | inl below ↦ or_left (any_below n f) (f n) (any_at n i f below is)
      | inr last ↦ let e : i ≡ n = omega arith in or_right (any_below n f) (f n) (subst (λ (m : ℕ). f m ≡ true) e is)
    ]

some_below : (n : ℕ) (f : ℕ → Bool) → any_below n f ≡ true → (i : ℕ) × (i < n) × (f i ≡ true)
some_below zero f is = cc
some_below (suc n) f is =
    elim (or_cases (any_below n f) (f n) is) [
      | inl below ↦ let more = some_below n f below in (more.0, omega (arith, more.1), more.2)
      | inr here ↦ (n, omega arith, here)
    ]

any_same : (n : ℕ) (f g : ℕ → Bool) → ((i : ℕ) → i < n → f i ≡ g i) → any_below n f ≡ any_below n g
any_same zero f g same = refl
any_same (suc n) f g same =
    ap (λ (b : Bool). b || f n) (any_same n f g (λ i lt. same i (omega arith))) ∙ ap (λ (b : Bool). any_below n g || b) (same n (omega arith))

-- the numbers below n, one by one
length-below : (n : ℕ) → length (below n) ≡ n
length-below zero = refl
length-below (suc n) = let more = length-append (below n) (n ∷ []) in let rest = length-below n in omega arith

below_at : (n i : ℕ) → i < n → get_or (below n) i 0 ≡ i
below_at zero i lt = absurd (omega arith)
below_at (suc n) i lt =
    let len = length-below n in
    elim (cases_lt i n) [
      | inl less ↦ get_or_append_left (below n) (n ∷ []) 0 i (omega arith) ∙ below_at n i less
      | inr past ↦ let e : i ≡ n = omega arith in get_or_push (below n) n 0 i (omega arith) ∙ sym e
    ]

-- the marks of listed nets
length-marks_of : (count : ℕ) (nets : List ℕ) → length (marks_of count nets) ≡ count
length-marks_of count nets = length-map (below count) (λ n. list_any (λ m. n == m) nets) ∙ length-below count

mark_is : (count : ℕ) (nets : List ℕ) (n : ℕ) → n < count → get_or (marks_of count nets) n false ≡ list_any (λ m. n == m) nets
mark_is count nets n lt =
    get_or-map (λ k. list_any (λ m. k == m) nets) (below count) n 0 false (let len = length-below count in omega arith)
    ∙ ap (λ k. list_any (λ m. k == m) nets) (below_at count n lt)

listed_true : (nets : List ℕ) (n : ℕ) → Contains nets n → list_any (λ m. n == m) nets ≡ true
listed_true nets n has = list_any_at (λ m. n == m) nets has.0 n has.1 (ap (λ m. n == m) has.2 ∙ eq-eqb n n refl)

true_listed : (nets : List ℕ) (n : ℕ) → list_any (λ m. n == m) nets ≡ true → Contains nets n
true_listed nets n is = Contains-from_any {eq = λ (q m : ℕ). q == m} (λ x y e. eqb-true x y e) n nets is

mark_yes : (count : ℕ) (nets : List ℕ) (n : ℕ) → n < count → Contains nets n → get_or (marks_of count nets) n false ≡ true
mark_yes count nets n lt has = mark_is count nets n lt ∙ listed_true nets n has

from_mark : (count : ℕ) (nets : List ℕ) (n : ℕ) → get_or (marks_of count nets) n false ≡ true → Contains nets n
from_mark count nets n is =
    elim (cases_lt n count) [
      | inl lt ↦ true_listed nets n (sym (mark_is count nets n lt) ∙ is)
      | inr past ↦
          let len = length-marks_of count nets in
          let none : get_or (marks_of count nets) n false ≡ false = get_or_past (marks_of count nets) n false (omega arith) in
          absurd (both_ways (get_or (marks_of count nets) n false) none is)
    ]

-- the marks of a layer, by the set that lists its nets
module _ {S : Type 0} (count : ℕ) (layers : List (IndexSet ℕ S)) (l n : ℕ) (here : IndexSet ℕ S) (within : l < length layers) (at : here ≡ get_or layers l here) where
  row_is : row_at (rows_of count (map (λ (s : IndexSet ℕ S). s.keys) layers)) l ≡ marks_of count here.keys
  row_is =
      let lists : List (List ℕ) = map (λ (s : IndexSet ℕ S). s.keys) layers in
      let same : get_or lists l [] ≡ here.keys = get_or-map (λ (s : IndexSet ℕ S). s.keys) layers l here [] within ∙ ap (λ (s : IndexSet ℕ S). s.keys) (sym at) in
      let low : l < length lists = let len = length-map layers (λ (s : IndexSet ℕ S). s.keys) in omega arith in
      get_or-map (marks_of count) lists l [] [] low ∙ ap (marks_of count) same

  pub net_listed : n < count → net_at false (rows_of count (map (λ (s : IndexSet ℕ S). s.keys) layers)) l n ≡ list_any (λ m. n == m) here.keys
  net_listed lt = ap (λ (row : List Bool). get_or row n false) row_is ∙ mark_is count here.keys n lt

  pub net_in_row : n < length (row_at (rows_of count (map (λ (s : IndexSet ℕ S). s.keys) layers)) l) → n < count
  net_in_row lt = let len = ap length row_is ∙ length-marks_of count here.keys in omega arith

pub length-rows_of : {S : Type 0} (count : ℕ) (layers : List (IndexSet ℕ S)) → length (rows_of count (map (λ (s : IndexSet ℕ S). s.keys) layers)) ≡ length layers
length-rows_of {S} count layers = length-map (map (λ (s : IndexSet ℕ S). s.keys) layers) (marks_of count) ∙ length-map layers (λ (s : IndexSet ℕ S). s.keys)

-- two gates that drive one net are one
same_gate : (d : Design) (j k : ℕ) (h g : Gate) → IsSound d → slice_get d.gates j ≡ Some h → slice_get d.gates k ≡ Some g → h.out ≡ g.out → j ≡ k
same_gate d j k h g sound at there same =
    elim (cases_lt j k) [
      | inl less ↦
          let low = All-at (IsGateInRange d) d.gates k g there sound.in_range.gates in
          absurd (not_yet d k g h.out sound there low.out (out_before d j k h less at) same)
      | inr past ↦ elim (cases_lt k j) [
        | inl more ↦
            let low = All-at (IsGateInRange d) d.gates j h at sound.in_range.gates in
            absurd (not_yet d j h g.out sound at low.out (out_before d k j g more there) (sym same))
        | inr other ↦ omega arith
      ]
    ]

-- no gate drives the net of an input or a register
source_apart : (d : Design) (k : ℕ) (g : Gate) (n : ℕ) → IsSound d → slice_get d.gates k ≡ Some g → g.out ≡ n → Contains (source_nets d) n → ⊥
source_apart d k g n sound at is has =
    let low = All-at (IsGateInRange d) d.gates k g at sound.in_range.gates in
    not_yet d k g n sound at low.out (Contains-append_left (source_nets d) (gate_nets (take k d.gates)) n has) (sym is)

-- a pin that its layer's set has not
pub free_pin : (sets : List (List PinRef)) (rows : List (List Bool)) (l : ℕ) (pin : PinRef) (n : ℕ) → is_in pin (held_set sets l) ≡ false
    → pin_reads false sets rows l pin n ≡ net_at false rows l n
free_pin sets rows zero pin n free = refl
free_pin sets rows (suc l) pin n free = ap (λ (b : Bool). cond b (pin_reads false sets rows l pin n) (net_at false rows (suc l) n)) free

held_pin : (sets : List (List PinRef)) (rows : List (List Bool)) (l : ℕ) (pin : PinRef) (n : ℕ) → is_in pin (held_set sets (suc l)) ≡ true
    → pin_reads false sets rows (suc l) pin n ≡ pin_reads false sets rows l pin n
held_pin sets rows l pin n is = ap (λ (b : Bool). cond b (pin_reads false sets rows l pin n) (net_at false rows (suc l) n)) is

-- the nets that pins in the set of a layer move there
module _ (d : Design) (sets : List (List PinRef)) (rows : List (List Bool)) (l : ℕ) (pin : PinRef) where
  -- a driver pin
  one_driver : (n m : ℕ) (p : PinRef) → p ≡ Net n → SetMoves d sets rows l p m → (m ≡ n) × (net_at false rows l m ≡ true)
  one_driver n _ _ is (Driver_moves m moved) = (grind arith, moved)
  one_driver n _ _ is (Taken_moves k i g at within free reads) = absurd (grind arith)

  pub driver_lists : (n : ℕ) (nets : List ℕ) → pin ≡ Net n → net_at false rows l n ≡ true → Lists (SetMoves d sets rows l pin) nets (insert_key nat_eq nets n)
  driver_lists n nets is moved =
      lists_insert (SetMoves d sets rows l pin) nets n (subst (λ (p : PinRef). SetMoves d sets rows l p n) (sym is) (Driver_moves n moved))
      (λ m moves. (one_driver n m pin is moves).0)

  pub driver_stays : (n : ℕ) (nets : List ℕ) → pin ≡ Net n → net_at false rows l n ≡ false → Lists (SetMoves d sets rows l pin) nets nets
  driver_stays n nets is still =
      lists_stay (SetMoves d sets rows l pin) nets (λ m moves.
      let (same, moved) = one_driver n m pin is moves in
      true-false (sym moved ∙ (ap (net_at false rows l) same ∙ still)))

  -- a gate's pin
  one_taken : (k i m : ℕ) (g : Gate) (p : PinRef) → p ≡ GateIn k i → slice_get d.gates k ≡ Some g → SetMoves d sets rows l p m
      → (m ≡ g.out) × (is_in (Net g.out) (held_set sets (suc l)) ≡ false) × (pin_reads false sets rows l (GateIn k i) (slice_index g.ins i) ≡ true)
  one_taken k i _ g _ is at (Driver_moves m moved) = absurd (grind arith)
  one_taken k i _ g _ is at (Taken_moves j q h there within free reads) =
      let same : j ≡ k = grind arith in
      let place : q ≡ i = grind arith in
      let one : h ≡ g = some_is h g (sym there ∙ (ap (slice_get d.gates) same ∙ at)) in (
        ap (λ (x : Gate). x.out) one,
        subst (λ (x : Gate). is_in (Net x.out) (held_set sets (suc l)) ≡ false) one free,
        subst (λ (x : ℕ). pin_reads false sets rows l (GateIn x i) (slice_index g.ins i) ≡ true) same
            (subst (λ (x : ℕ). pin_reads false sets rows l (GateIn j x) (slice_index g.ins x) ≡ true) place
            (subst (λ (x : Gate). pin_reads false sets rows l (GateIn j q) (slice_index x.ins q) ≡ true) one reads)),
      )

  pub taken_lists : (k i : ℕ) (g : Gate) (nets : List ℕ) → pin ≡ GateIn k i → slice_get d.gates k ≡ Some g → i < length g.ins
      → is_in (Net g.out) (held_set sets (suc l)) ≡ false → pin_reads false sets rows l (GateIn k i) (slice_index g.ins i) ≡ true
      → Lists (SetMoves d sets rows l pin) nets (insert_key nat_eq nets g.out)
  taken_lists k i g nets is at within free reads =
      lists_insert (SetMoves d sets rows l pin) nets g.out
      (subst (λ (p : PinRef). SetMoves d sets rows l p g.out) (sym is) (Taken_moves k i g at within free reads))
      (λ m moves. (one_taken k i m g pin is at moves).0)

  pub taken_stays : (k i : ℕ) (g : Gate) (nets : List ℕ) → pin ≡ GateIn k i → slice_get d.gates k ≡ Some g
      → (is_in (Net g.out) (held_set sets (suc l)) ≡ true) ⊎ (pin_reads false sets rows l (GateIn k i) (slice_index g.ins i) ≡ false)
      → Lists (SetMoves d sets rows l pin) nets nets
  taken_stays k i g nets is at why =
      lists_stay (SetMoves d sets rows l pin) nets (λ m moves.
      let (same, free, reads) = one_taken k i m g pin is at moves in
      elim why [ inl has ↦ true-false (sym has ∙ free) | inr still ↦ true-false (sym reads ∙ still) ])

-- the nets of a layer are those that are listed
record IsListed (d : Design) (rows : List (List Bool)) (l : ℕ) (found : List ℕ) : Type 0 where
  yes : (n : ℕ) → n < d.nets → Contains found n → net_at false rows l n ≡ true
  from : (n : ℕ) → net_at false rows l n ≡ true → Contains found n

-- a gate's output that a pin of it moves
moved_out : (d : Design) (sets : List (List PinRef)) (rows : List (List Bool)) (l : ℕ) (found : List ℕ) (k : ℕ) (g : Gate) (m : ℕ) → IsSound d
    → IsListed d rows l found → slice_get d.gates k ≡ Some g → Contains found m → (n : ℕ) → NetMoves d sets l m n → n ≡ g.out
    → any_below (length g.ins) (layer_pins false sets rows l k g.ins) ≡ true
moved_out d sets rows l found k g m sound listed at has _ (_, leads, Gate_moves j i h there apart free) is =
    let e : j ≡ k = same_gate d j k h g sound there at is in
    let (q, at_q, low, reads) = gate_of_pin d m j i (GateIn j i) leads refl in
    let same : q ≡ g = some_is q g (sym at_q ∙ (ap (slice_get d.gates) e ∙ at)) in
    let within : i < length g.ins = subst (λ (x : Gate). i < length x.ins) same low in
    let net : slice_index g.ins i ≡ m = subst (λ (x : Gate). slice_index x.ins i ≡ m) same reads in
    let range = All-at (IsGateInRange d) d.gates k g at sound.in_range.gates in
    let m_low : m < d.nets = subst (λ (x : ℕ). x < d.nets) net (All-get_or (λ (x : ℕ). x < d.nets) g.ins i 0 within range.ins) in
    let apart_k : is_in (GateIn k i) (held_set sets l) ≡ false = subst (λ (x : ℕ). is_in (GateIn x i) (held_set sets l) ≡ false) e apart in
    any_at (length g.ins) i (layer_pins false sets rows l k g.ins) within
    (free_pin sets rows l (GateIn k i) (slice_index g.ins i) apart_k ∙ (ap (net_at false rows l) net ∙ listed.yes m m_low has))

-- the gates of a layer whose first nets are spread
gates_from : (d : Design) (sets : List (List PinRef)) (rows : List (List Bool)) (l : ℕ) (first found : List ℕ) → IsSound d → IsSpread d sets l first found
    → IsListed d rows l found
    → ((k : ℕ) (g : Gate) → slice_get d.gates k ≡ Some g → is_in (Net g.out) (held_set sets l) ≡ false → Contains first g.out
    → any_below (length g.ins) (layer_pins false sets rows l k g.ins) ≡ true)
    → ((k i : ℕ) (g : Gate) → slice_get d.gates k ≡ Some g → i < length g.ins → is_in (Net g.out) (held_set sets l) ≡ false
    → is_in (GateIn k i) (held_set sets l) ≡ true → layer_pins false sets rows l k g.ins i ≡ true → Contains first g.out) → AreGatesMoved d sets rows l
gates_from d sets rows l first found sound spread listed early held k g at free =
    let range = All-at (IsGateInRange d) d.gates k g at sound.in_range.gates in
    same_truth (net_at false rows l g.out) (any_below (length g.ins) (layer_pins false sets rows l k g.ins))
    (λ is. elim (spread.only g.out (listed.from g.out is)) [
      | inl was ↦ early k g at free was
      | inr by ↦ moved_out d sets rows l found k g by.0 sound listed at by.1 g.out by.2 refl
    ])
    (λ any.
    let (i, within, is) = some_below (length g.ins) (layer_pins false sets rows l k g.ins) any in
    listed.yes g.out range.out (elim (cases_Bool (is_in (GateIn k i) (held_set sets l))) [
      | inl in_set ↦ spread.kept g.out (held k i g at within free in_set is)
      | inr apart ↦ spread.all (slice_index g.ins i) g.out
          (listed.from (slice_index g.ins i) (sym (free_pin sets rows l (GateIn k i) (slice_index g.ins i) apart) ∙ is))
          (GateIn k i, To_gate k g i at within, Gate_moves k i g at apart free)
    ]))

-- the rows up to a last one tell which nets a late start moves
pub record AreMovedTo (d : Design) (claim : Claim) (rows : List (List Bool)) (last : ℕ) : Type 0 where
  pub count : length rows ≡ last + 1
  pub lens : (l : ℕ) → l ≤ last → length (row_at rows l) ≡ d.nets
  pub late : (n : ℕ) → Contains (start_nets d claim.start) n → net_at false rows 0 n ≡ true
  pub others : (n : ℕ) → Contains (source_nets d) n → ¬ Contains (start_nets d claim.start) n → net_at false rows 0 n ≡ false
  pub held : (l : ℕ) → l < last → (n : ℕ) → n < d.nets → is_in (Net n) (get_or claim.through l []) ≡ true → net_at false rows (l + 1) n ≡ net_at false rows l n
  pub sources : (l : ℕ) → l < last → (n : ℕ) → Contains (source_nets d) n → is_in (Net n) (get_or claim.through l []) ≡ false
      → net_at false rows (l + 1) n ≡ false
  pub gates : (l : ℕ) → l ≤ last → AreGatesMoved d claim.through rows l

gates_kept : (d : Design) (sets : List (List PinRef)) (rows next : List (List Bool)) (l : ℕ) → ((m : ℕ) → m ≤ l → row_at next m ≡ row_at rows m)
    → AreGatesMoved d sets rows l → AreGatesMoved d sets next l
gates_kept d sets rows next l same gates k g at free =
    net_kept false rows next l g.out (same l (omega arith))
    ∙ (gates k g at free
    ∙ sym (any_same (length g.ins) (layer_pins false sets next l k g.ins) (layer_pins false sets rows l k g.ins)
    (λ i lt. pin_kept false sets next rows l (GateIn k i) (slice_index g.ins i) (λ m le. net_kept false rows next m (slice_index g.ins i) (same m le)))))

-- the first layer
pub moved_first : (d : Design) (claim : Claim) (first found : List ℕ) → IsSound d → IsStartIn d claim.start
    → AreThose (Contains (start_nets d claim.start)) first → IsSpread d claim.through 0 first found → AreMovedTo d claim (rows_of d.nets (found ∷ [])) 0
moved_first d claim first found sound is those spread =
    record {
      count = refl;
      lens = λ l le. let here : l ≡ 0 = omega arith in rw here (length-marks_of d.nets found);
      late = λ n has. listed.yes n (start_low d claim n sound is has) (spread.kept n (those.all n has));
      others = λ n has none. false_from_ne_true (net_at false rows 0 n) (λ moved. elim (spread.only n (listed.from n moved)) [
        | inl was ↦ none (those.only n was)
        | inr by ↦ driven n by.0 by.2 has
      ]);
      held = λ l lt. absurd (omega arith);
      sources = λ l lt. absurd (omega arith);
      gates = λ l le. let here : l ≡ 0 = omega arith in subst (AreGatesMoved d claim.through rows) (sym here)
          (gates_from d claim.through rows 0 first found sound spread listed
          (λ k g at free was. absurd (source_apart d k g g.out sound at refl (start_source d claim.start g.out is (those.only g.out was))))
          (λ k i g at within free in_set. absurd (true-false (sym in_set))));
    }
  where
    rows : List (List Bool)
    rows = rows_of d.nets (found ∷ [])

    listed : IsListed d rows 0 found
    listed = record { yes = λ n lt has. mark_yes d.nets found n lt has; from = λ n e. from_mark d.nets found n e }

    driven : (n m : ℕ) → NetMoves d claim.through 0 m n → Contains (source_nets d) n → ⊥
    driven _ m (_, leads, Gate_moves j i h there apart free) has = source_apart d j h h.out sound there refl has

-- one more layer
pub moved_next : (d : Design) (claim : Claim) (layers : List (List ℕ)) (first found : List ℕ) (last : ℕ) → IsSound d
    → AreMovedTo d claim (rows_of d.nets layers) last → AreThose (IsTaken d claim.through (rows_of d.nets layers) last) first
    → IsSpread d claim.through (last + 1) first found → AreMovedTo d claim (rows_of d.nets (layers ++ found ∷ [])) (last + 1)
moved_next d claim layers first found last sound moved those spreads =
    record {
      count = omega (arith, all, moved.count);
      lens = λ l le. elim (cases_lt l (last + 1)) [
        | inl lt ↦ ap length (same l (omega arith)) ∙ moved.lens l (omega arith)
        | inr ge ↦ let here : l ≡ last + 1 = omega arith in rw here (ap length new ∙ length-marks_of d.nets found)
      ];
      late = λ n has. net_kept false rows next 0 n (same 0 (omega arith)) ∙ moved.late n has;
      others = λ n has none. net_kept false rows next 0 n (same 0 (omega arith)) ∙ moved.others n has none;
      held =
          below_more (λ l. (n : ℕ) → n < d.nets → is_in (Net n) (get_or claim.through l []) ≡ true → net_at false next (l + 1) n ≡ net_at false next l n) last
          (λ l lt n low is. net_kept false rows next (l + 1) n (same (l + 1) (omega arith))
          ∙ (moved.held l lt n low is ∙ sym (net_kept false rows next l n (same l (omega arith)))))
          (λ n low is. held_here n low is ∙ sym (net_kept false rows next last n (same last (omega arith))));
      sources =
          below_more (λ l. (n : ℕ) → Contains (source_nets d) n → is_in (Net n) (get_or claim.through l []) ≡ false → net_at false next (l + 1) n ≡ false) last
          (λ l lt n has free. net_kept false rows next (l + 1) n (same (l + 1) (omega arith)) ∙ moved.sources l lt n has free)
          source_here;
      gates = λ l le. elim (cases_lt l (last + 1)) [
        | inl lt ↦ gates_kept d claim.through rows next l (λ m low. same m (omega arith)) (moved.gates l (omega arith))
        | inr ge ↦ let here : l ≡ last + 1 = omega arith in subst (AreGatesMoved d claim.through next) (sym (here ∙ add-one last)) gates_here
      ];
    }
  where
    rows : List (List Bool)
    rows = rows_of d.nets layers

    next : List (List Bool)
    next = rows_of d.nets (layers ++ found ∷ [])

    pushed : next ≡ rows ++ marks_of d.nets found ∷ []
    pushed = map-append (marks_of d.nets) layers (found ∷ [])

    all : length next ≡ length rows + 1
    all = ap length pushed ∙ length-append rows (marks_of d.nets found ∷ [])

    same : (m : ℕ) → m ≤ last → row_at next m ≡ row_at rows m
    same m le =
        ap (λ (r : List (List Bool)). row_at r m) pushed
        ∙ get_or_append_left rows (marks_of d.nets found ∷ []) [] m (let c = moved.count in omega arith)

    new : row_at next (last + 1) ≡ marks_of d.nets found
    new =
        ap (λ (r : List (List Bool)). row_at r (last + 1)) pushed ∙ get_or_push rows (marks_of d.nets found) [] (last + 1) moved.count

    spread : IsSpread d claim.through (suc last) first found
    spread = subst (λ (m : ℕ). IsSpread d claim.through m first found) (add-one last) spreads

    listed : IsListed d next (suc last) found
    listed = subst (λ (m : ℕ). IsListed d next m found) (add-one last) (record {
      yes = λ n lt has. ap (λ (row : List Bool). get_or row n false) new ∙ mark_yes d.nets found n lt has;
      from = λ n e. from_mark d.nets found n (sym (ap (λ (row : List Bool). get_or row n false) new) ∙ e);
    })

    -- what pins read in the layers before stays
    reads_same : (pin : PinRef) (n : ℕ) → pin_reads false claim.through next last pin n ≡ pin_reads false claim.through rows last pin n
    reads_same pin n = pin_kept false claim.through next rows last pin n (λ m le. net_kept false rows next m n (same m le))

    -- a net whose driver pin is in the set
    taken_held : (n : ℕ) → is_in (Net n) (held_set claim.through (suc last)) ≡ true → IsTaken d claim.through rows last n → net_at false rows last n ≡ true
    taken_held _ is (_, has, Driver_moves n moved_before) = moved_before
    taken_held _ is (_, has, Taken_moves k i g at within free reads) = absurd (true-false (sym is ∙ free))

    moves_held : (n m : ℕ) → is_in (Net n) (held_set claim.through (suc last)) ≡ true → NetMoves d claim.through (suc last) m n → ⊥
    moves_held _ m is (_, leads, Gate_moves j i h there apart free) = true-false (sym is ∙ free)

    held_here : (n : ℕ) → n < d.nets → is_in (Net n) (get_or claim.through last []) ≡ true → net_at false next (last + 1) n ≡ net_at false rows last n
    held_here n low is =
        ap (λ (m : ℕ). net_at false next m n) (add-one last) ∙ same_truth (net_at false next (suc last) n) (net_at false rows last n)
        (λ now. elim (spread.only n (listed.from n now)) [
          | inl was ↦ taken_held n is (those.only n was)
          | inr by ↦ absurd (moves_held n by.0 is by.2)
        ])
        (λ then. listed.yes n low (spread.kept n (those.all n (Net n, Contains-is_in (Net n) (get_or claim.through last []) is, Driver_moves n then))))

    -- the net of an input or a register that isn't in the set
    taken_source : (n : ℕ) → is_in (Net n) (held_set claim.through (suc last)) ≡ false → Contains (source_nets d) n → IsTaken d claim.through rows last n → ⊥
    taken_source _ free has (_, in_set, Driver_moves n then) =
        true-false (sym (is_in-Contains (Net n) (held_set claim.through (suc last)) in_set) ∙ free)
    taken_source _ free has (_, in_set, Taken_moves k i g at within free_out reads) = source_apart d k g g.out sound at refl has

    moves_source : (n m : ℕ) → Contains (source_nets d) n → NetMoves d claim.through (suc last) m n → ⊥
    moves_source _ m has (_, leads, Gate_moves j i h there apart free) = source_apart d j h h.out sound there refl has

    source_here : (n : ℕ) → Contains (source_nets d) n → is_in (Net n) (get_or claim.through last []) ≡ false → net_at false next (last + 1) n ≡ false
    source_here n has free =
        ap (λ (m : ℕ). net_at false next m n) (add-one last) ∙ false_from_ne_true (net_at false next (suc last) n)
        (λ now. elim (spread.only n (listed.from n now)) [
          | inl was ↦ taken_source n free has (those.only n was)
          | inr by ↦ moves_source n by.0 has by.2
        ])

    -- a gate's output that a pin in the set moves
    taken_gate : (k : ℕ) (g : Gate) → slice_get d.gates k ≡ Some g → is_in (Net g.out) (held_set claim.through (suc last)) ≡ false → (n : ℕ) → n ≡ g.out
        → IsTaken d claim.through rows last n → any_below (length g.ins) (layer_pins false claim.through next (suc last) k g.ins) ≡ true
    taken_gate k g at free _ is (_, in_set, Driver_moves n then) =
        absurd (true-false (sym (is_in-Contains (Net n) (held_set claim.through (suc last)) in_set)
        ∙ (ap (λ (m : ℕ). is_in (Net m) (held_set claim.through (suc last))) is ∙ free)))
    taken_gate k g at free _ is (_, in_set, Taken_moves j i h there within free_out reads) =
        let e : j ≡ k = same_gate d j k h g sound there at is in
        let one : h ≡ g = some_is h g (sym there ∙ (ap (slice_get d.gates) e ∙ at)) in
        let has : is_in (GateIn k i) (held_set claim.through (suc last)) ≡ true =
        subst (λ (m : ℕ). is_in (GateIn m i) (held_set claim.through (suc last)) ≡ true) e
        (is_in-Contains (GateIn j i) (held_set claim.through (suc last)) in_set) in
        let here : pin_reads false claim.through rows last (GateIn k i) (slice_index g.ins i) ≡ true =
        subst (λ (m : ℕ). pin_reads false claim.through rows last (GateIn m i) (slice_index g.ins i) ≡ true) e
        (subst (λ (x : Gate). pin_reads false claim.through rows last (GateIn j i) (slice_index x.ins i) ≡ true) one reads) in
        any_at (length g.ins) i (layer_pins false claim.through next (suc last) k g.ins) (subst (λ (x : Gate). i < length x.ins) one within)
        (held_pin claim.through next last (GateIn k i) (slice_index g.ins i) has ∙ (reads_same (GateIn k i) (slice_index g.ins i) ∙ here))

    gates_here : AreGatesMoved d claim.through next (suc last)
    gates_here =
        gates_from d claim.through next (suc last) first found sound spread listed
        (λ k g at free was. taken_gate k g at free g.out refl (those.only g.out was))
        (λ k i g at within free in_set is. those.all g.out (
          GateIn k i,
          Contains-is_in (GateIn k i) (held_set claim.through (suc last)) in_set,
          Taken_moves k i g at within free
              (sym (reads_same (GateIn k i) (slice_index g.ins i))
              ∙ (sym (held_pin claim.through next last (GateIn k i) (slice_index g.ins i) in_set) ∙ is)),
        ))

-- the first nets of a layer are nets of the design
pub starts_low : (d : Design) (claim : Claim) (first : List ℕ) → IsSound d → IsStartIn d claim.start → AreThose (Contains (start_nets d claim.start)) first
    → AllBelow d.nets first
starts_low d claim first sound is those i x lt =
    let n : ℕ = get_or first i x in
    start_low d claim n sound is (those.only n (Contains-get_or first i x lt))

pub taken_low : (d : Design) (claim : Claim) (layers : List (List ℕ)) (first : List ℕ) (last : ℕ) → IsSound d → AreMovedTo d claim (rows_of d.nets layers) last
    → AreThose (IsTaken d claim.through (rows_of d.nets layers) last) first → AllBelow d.nets first
taken_low d claim layers first last sound moved those i x lt = let n : ℕ = get_or first i x in low n (those.only n (Contains-get_or first i x lt))
  where
    low : (n : ℕ) → IsTaken d claim.through (rows_of d.nets layers) last n → n < d.nets
    low _ (_, has, Driver_moves n then) =
        elim (cases_lt n d.nets) [
          | inl less ↦ less
          | inr past ↦
              let len = moved.lens last (omega arith) in
              absurd (true-false (sym then ∙ get_or_past (row_at (rows_of d.nets layers) last) n false (omega arith)))
        ]
    low _ (_, has, Taken_moves k i g at within free reads) = let range = All-at (IsGateInRange d) d.gates k g at sound.in_range.gates in range.out

-- the same said of the sets that list the nets
module _ {S : Type 0} (d : Design) (claim : Claim) (layers : List (IndexSet ℕ S)) (first : List ℕ) (last : ℕ) where
  pub taken_by : (lists : List (IndexSet ℕ S)) → lists ≡ layers
      → AreThose (IsTaken d claim.through (rows_of d.nets (map (λ (s : IndexSet ℕ S). s.keys) lists)) last) first
      → AreThose (IsTaken d claim.through (rows_of d.nets (map (λ (s : IndexSet ℕ S). s.keys) layers)) last) first
  taken_by lists same those =
      subst (λ (xs : List (IndexSet ℕ S)). AreThose (IsTaken d claim.through (rows_of d.nets (map (λ (s : IndexSet ℕ S). s.keys) xs)) last) first) same those

  pub moved_more : (next : IndexSet ℕ S) → IsSound d → AreMovedTo d claim (rows_of d.nets (map (λ (s : IndexSet ℕ S). s.keys) layers)) last
      → AreThose (IsTaken d claim.through (rows_of d.nets (map (λ (s : IndexSet ℕ S). s.keys) layers)) last) first
      → IsSpread d claim.through (last + 1) first next.keys
      → AreMovedTo d claim (rows_of d.nets (map (λ (s : IndexSet ℕ S). s.keys) (layers ++ next ∷ []))) (last + 1)
  moved_more next sound moved those spread =
      subst (λ (lists : List (List ℕ)). AreMovedTo d claim (rows_of d.nets lists) (last + 1))
      (sym (map-append (λ (s : IndexSet ℕ S). s.keys) layers (next ∷ [])))
      (moved_next d claim (map (λ (s : IndexSet ℕ S). s.keys) layers) first next.keys last sound moved those spread)

-- all layers
pub moved_all : (d : Design) (claim : Claim) (rows : List (List Bool)) → AreMovedTo d claim rows (length claim.through) → AreMoved d claim rows
moved_all d claim rows moved =
    record {
      count = moved.count;
      lens = All-from_get_or (λ (row : List Bool). length row ≡ d.nets) rows [] (λ l lt. moved.lens l (omega (arith, moved.count)));
      late = moved.late;
      others = moved.others;
      held = moved.held;
      sources = moved.sources;
      gates = moved.gates;
    }
