-- What the literals of the layers tell, in plain mode.
use Rattle.std.proofs.Common.{◌≡◌, ℕ, zero, suc, ◌<◌, ◌≤◌, Bool, true, false, not, cond, List, [], ◌∷◌, length, refl, ap, sym}
use Rattle.std.proofs.Common.{◌∙◌, arith, inl, inr, subst, add-one, below_more}
use Rattle.std.specs.Prelude.{All, Contains, slice_get, slice_index, slice_index_or, if◌then◌else◌, ◌||◌, ◌&&◌}
use Rattle.std.proofs.lemmas.Bool.{cases_Bool, cases_eq, cases_lt, or_parts, eq-eqb}
use Rattle.net_model.specs.Form.{value}
use Rattle.net_model.specs.FormLaws.{value_agrees}
use Rattle.net_model.specs.Netlist.{IsSound}
use Rattle.net_model.specs.Fits.{IsStartIn, IsEndIn}
use Rattle.net_model.specs.Cycles.{bit_at, shown, IsSettled}
use Rattle.net_model.specs.Judge.{start_bit}
use Rattle.net_model.specs.Pins.{is_in, start_nets, start_outs}
use Rattle.net_model.specs.Layers.{net_at, held_set, pin_reads, layer_pins, AreLayers}
use Rattle.net_model.proofs.Settling.{All-at}
use Rattle.net_model.specs.declared.netlist.Design.{Design}
use Rattle.net_model.specs.declared.netlist.RegOut.{RegOut}
use Rattle.net_model.specs.declared.cycles.Cycle.{Cycle}
use Rattle.net_model.specs.declared.claims.Claim.{Claim}
use Rattle.net_model.specs.declared.claims.PinRef.{PinRef}
use Rattle.net_model.specs.declared.claims.PinRef.TheVariants.{Net}
use Rattle.query_model.specs.Keys.{key, lit, opposite}
use Rattle.query_model.specs.Reads.{read, read_base, read_late, read_pin, is_start_net, any_below, AreMoved}
use Rattle.net_model.proofs.Members.{In, from_map}
use Rattle.query_model.proofs.Tabled.{value_opposite}
use Rattle.query_model.proofs.Told.{LitTells, ReadTells}
use Rattle.query_model.proofs.Based.{placed}
use Rattle.net_model.proofs.Still.{IsStill, stays}
use Rattle.net_model.proofs.Flipped.{start_shows}
use Rattle.query_model.specs.declared.keys.Key.{Key}

-- the layers of a cycle in which the start shows the other bit
pub record IsFlipped (d : Design) (claim : Claim) (moved : List (List Bool)) (c : Cycle) (rows : List (List Bool)) : Type 0 where
  pub sound : IsSound d
  pub settled : IsSettled d c
  pub plain : claim.hazard ≡ false
  pub start_in : IsStartIn d claim.start
  pub end_in : IsEndIn d claim.end
  pub are_moved : AreMoved d claim moved
  pub layers : AreLayers value false d claim.start claim.through (λ o. shown o (not (start_bit claim.start c))) c.nets rows

-- what isn't marked as moved is still
abbrev pub IsUnmoved : List (List Bool) → ℕ → ℕ → Type 0
IsUnmoved moved l n = net_at false moved l n ≡ false

abbrev pub IsUnmovedPin : List (List PinRef) → List (List Bool) → ℕ → PinRef → ℕ → Type 0
IsUnmovedPin sets moved l pin n = pin_reads false sets moved l pin n ≡ false

none_below : (n : ℕ) (f : ℕ → Bool) → any_below n f ≡ false → (i : ℕ) → i < n → f i ≡ false
none_below zero f e i lt = absurd (omega arith)
none_below (suc n) f e i lt =
    let parts = or_parts (any_below n f) (f n) e in
    below_more (λ j. f j ≡ false) n (none_below n f parts.0) parts.1 i (omega arith)

pub moved_still : (d : Design) (claim : Claim) (moved : List (List Bool)) → AreMoved d claim moved → IsStill d claim.through (IsUnmoved moved)
    (IsUnmovedPin claim.through moved)
moved_still d claim moved are =
    record {
      held = λ l n lt low u is. sym (are.held l lt n low is) ∙ subst (λ m. net_at false moved m n ≡ false) (sym (add-one l)) u;
      gates = λ l k g le at free u i lt. none_below (length g.ins) (layer_pins false claim.through moved l k g.ins) (sym (are.gates l le k g at free) ∙ u) i lt;
      first = λ pin n p. p;
      later = λ l pin n p is. sym (ap (λ (b : Bool). cond b (pin_reads false claim.through moved l pin n) (net_at false moved (suc l) n)) is) ∙ p;
      own = λ l pin n p is. sym (ap (λ (b : Bool). cond b (pin_reads false claim.through moved l pin n) (net_at false moved (suc l) n)) is) ∙ p;
    }

pub false_true : {X : Type 0} (b : Bool) → b ≡ true → b ≡ false → X
false_true b e f = let no : true ≡ false = sym e ∙ f in absurd cc

pub unmoved_same : (d : Design) (claim : Claim) (moved : List (List Bool)) (c : Cycle) (rows : List (List Bool)) → IsFlipped d claim moved c rows
    → (l : ℕ) → l ≤ length claim.through → (n : ℕ) → n < d.nets → net_at false moved l n ≡ false → net_at false rows l n ≡ bit_at c.nets n
unmoved_same d claim moved c rows flip l le n low =
    stays value false d claim.start claim.through (λ o. shown o (not (start_bit claim.start c))) c.nets rows (IsUnmoved moved)
    (IsUnmovedPin claim.through moved)
    (record {
      reads = value_agrees;
      sound = flip.sound;
      settled = flip.settled.gates;
      layers = flip.layers;
      still = moved_still d claim moved flip.are_moved;
      start_same = λ m has u. false_true (net_at false moved 0 m) (flip.are_moved.late m has) u;
    })
    l le n low

shown_not : (o : RegOut) (b : Bool) → shown o (not b) ≡ not (shown o b)
shown_not o b = by_sign o.inverted b where
  by_sign : (i b : Bool) → cond i (not (not b)) (not b) ≡ not (cond i (not b) b)
  by_sign true b = refl
  by_sign false b = refl

pub start_flipped : (d : Design) (claim : Claim) (moved : List (List Bool)) (c : Cycle) (rows : List (List Bool)) → IsFlipped d claim moved c rows
    → (n : ℕ) → In n (start_nets d claim.start) → net_at false rows 0 n ≡ not (bit_at c.nets n)
start_flipped d claim moved c rows flip n has =
    let of = from_map (λ (o : RegOut). o.net) n (start_outs d claim.start) has in
    let at = placed of.0 (start_outs d claim.start) of.1 in
    let late = All-at (λ (o : RegOut). net_at false rows 0 o.net ≡ shown o (not (start_bit claim.start c))) (start_outs d claim.start) at.0 of.0 at.1
    flip.layers.late_nets in
    let shows = All-at (λ (o : RegOut). bit_at c.nets o.net ≡ shown o (start_bit claim.start c)) (start_outs d claim.start) at.0 of.0 at.1
    (start_shows d claim.start c flip.settled flip.start_in) in
    subst (λ m. net_at false rows 0 m ≡ not (bit_at c.nets m)) of.2 (late ∙ shown_not of.0 (start_bit claim.start c) ∙ ap not (sym shows))

-- what a net's literal in a layer tells
abbrev pub LayerTells : (Key → Type 0) → (Key → Bool) → Design → Claim → List (List Bool) → ℕ → List (List Bool) → ℕ → ℕ → Type 0
LayerTells kind v d claim moved t rows l n = LitTells kind v (read d claim moved t (suc l) 0 n) (net_at false rows l n)

-- a net's own key in a layer, where it is read
abbrev pub OwnTells : (Key → Type 0) → (Key → Bool) → Design → Claim → List (List Bool) → ℕ → List (List Bool) → ℕ → ℕ → Type 0
OwnTells kind v d claim moved t rows l n =
    net_at false moved l n ≡ true → is_in (Net n) (held_set claim.through l) ≡ false → (l ≡ 0 → is_start_net d claim n ≡ false)
    → LitTells kind v (lit true (key t (suc l) 0 n)) (net_at false rows l n)

any_from : (n : ℕ) (xs : List ℕ) → Rattle.std.specs.List.list_any (λ m. Rattle.std.specs.Prelude.nat_eq m n) xs ≡ true → In n xs
any_from n [] e = cc
any_from n (x ∷ xs) e =
    elim (Rattle.std.proofs.lemmas.Bool.or_cases (Rattle.std.specs.Prelude.nat_eq x n)
    (Rattle.std.specs.List.list_any (λ m. Rattle.std.specs.Prelude.nat_eq m n) xs) e) [
      | inl here ↦ inl (Rattle.std.proofs.lemmas.Bool.eqb-true x n here)
      | inr later ↦ inr (any_from n xs later)
    ]

pub start_net_in : (d : Design) (claim : Claim) (n : ℕ) → is_start_net d claim n ≡ true → In n (start_nets d claim.start)
start_net_in d claim n e = any_from n (start_nets d claim.start) e

-- the literal that is read where the net is moved and not held
late_tells : (kind : Key → Type 0) (v : Key → Bool) (d : Design) (claim : Claim) (moved : List (List Bool)) (t : ℕ) (c : Cycle)
    (rows : List (List Bool)) → IsFlipped d claim moved c rows → (l n : ℕ) → ReadTells kind v d t (bit_at c.nets) n
    → ((l ≡ 0 → is_start_net d claim n ≡ false) → LitTells kind v (lit true (key t (suc l) 0 n)) (net_at false rows l n))
    → LitTells kind v (read_late d claim t l 0 n) (net_at false rows l n)
late_tells kind v d claim moved t c rows flip zero n base own = by_start (is_start_net d claim n) refl claim.hazard flip.plain where
  by_start : (s : Bool) → is_start_net d claim n ≡ s → (h : Bool) → h ≡ false
      → LitTells kind v (cond (s && not h) (opposite (read_base d t n)) (lit true (key t 1 0 n))) (net_at false rows 0 n)
  by_start true e false p = λ has. value_opposite v (read_base d t n) ∙ ap not (base has)
      ∙ sym (start_flipped d claim moved c rows flip n (start_net_in d claim n e))
  by_start false e false p = own (λ z. e)
  by_start true e true p = absurd cc
  by_start false e true p = absurd cc
late_tells kind v d claim moved t c rows flip (suc l) n base own = own (λ z. absurd (omega arith))

-- what is read in the layer before, where the net is held
held_tells : (kind : Key → Type 0) (v : Key → Bool) (d : Design) (claim : Claim) (moved : List (List Bool)) (t : ℕ) (c : Cycle)
    (rows : List (List Bool)) → IsFlipped d claim moved c rows → (l n : ℕ) → l ≤ length claim.through → n < d.nets
    → ((j : ℕ) → j < l → LayerTells kind v d claim moved t rows j n) → is_in (Net n) (held_set claim.through l) ≡ true
    → LitTells kind v (read d claim moved t l 0 n) (net_at false rows l n)
held_tells kind v d claim moved t c rows flip zero n le low lower is = cc
held_tells kind v d claim moved t c rows flip (suc l) n le low lower is =
    λ has. lower l (omega arith) has ∙ sym (flip.layers.held l (omega arith) n low is) ∙ ap (λ m. net_at false rows m n) (add-one l)

pub layer_tells : (kind : Key → Type 0) (v : Key → Bool) (d : Design) (claim : Claim) (moved : List (List Bool)) (t : ℕ) (c : Cycle)
    (rows : List (List Bool)) → IsFlipped d claim moved c rows → (l n : ℕ) → l ≤ length claim.through → n < d.nets
    → ReadTells kind v d t (bit_at c.nets) n → ((j : ℕ) → j < l → LayerTells kind v d claim moved t rows j n)
    → OwnTells kind v d claim moved t rows l n → LayerTells kind v d claim moved t rows l n
layer_tells kind v d claim moved t c rows flip l n le low base lower own = by_tests (net_at false moved l n) refl
    (is_in (Net n) (held_set claim.through l)) refl where
      by_tests : (m : Bool) → net_at false moved l n ≡ m → (h : Bool) → is_in (Net n) (held_set claim.through l) ≡ h
          → LitTells kind v (cond (not m) (read_base d t n) (cond h (read d claim moved t l 0 n) (read_late d claim t l 0 n))) (net_at false rows l n)
      by_tests false m h e = λ has. base has ∙ sym (unmoved_same d claim moved c rows flip l le n low m)
      by_tests true m true e = held_tells kind v d claim moved t c rows flip l n le low lower e
      by_tests true m false e = late_tells kind v d claim moved t c rows flip l n base (own m e)

-- and what a pin's literal tells
pub pin_tells : (kind : Key → Type 0) (v : Key → Bool) (d : Design) (claim : Claim) (moved : List (List Bool)) (t : ℕ) (rows : List (List Bool))
    (l : ℕ) (pin : PinRef) (n : ℕ) → ((j : ℕ) → j ≤ l → LayerTells kind v d claim moved t rows j n)
    → LitTells kind v (read_pin d claim moved t (suc l) 0 pin n) (pin_reads false claim.through rows l pin n)
pin_tells kind v d claim moved t rows zero pin n tell = tell 0 (omega arith)
pin_tells kind v d claim moved t rows (suc l) pin n tell = by_test (is_in pin (slice_index_or claim.through l []))
    (pin_tells kind v d claim moved t rows l pin n (λ j le. tell j (omega arith))) where
      by_test : (b : Bool) → LitTells kind v (read_pin d claim moved t (suc l) 0 pin n) (pin_reads false claim.through rows l pin n)
          → LitTells kind v (cond b (read_pin d claim moved t (suc l) 0 pin n) (read d claim moved t (suc (suc l)) 0 n))
          (cond b (pin_reads false claim.through rows l pin n) (net_at false rows (suc l) n))
      by_test true before = before
      by_test false before = tell (suc l) (omega arith)
