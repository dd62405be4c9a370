-- What the rails of the layers tell, where hazards count.
use Rattle.std.proofs.Common.{◌≡◌, ℕ, zero, suc, ◌<◌, ◌≤◌, Bool, true, false, not, cond, List, [], map, length, refl, ap, sym, ◌∙◌, arith, subst, add-one}
use Rattle.std.specs.Prelude.{slice_index, slice_index_or, ◌&&◌}
use Rattle.net_model.specs.FormLaws.{IsOver-weaker}
use Rattle.net_model.specs.Netlist.{IsSound, IsGateInRange}
use Rattle.net_model.specs.Fits.{IsStartIn, IsEndIn}
use Rattle.net_model.specs.Rows.{AreGatesSettled, pins_of}
use Rattle.net_model.specs.Cycles.{bit_at, gate_pins, IsSettled}
use Rattle.net_model.specs.Pins.{is_in}
use Rattle.net_model.specs.Layers.{net_at, held_set, pin_reads, AreLayers}
use Rattle.net_model.specs.Ternary.{tern_of}
use Rattle.net_model.specs.Splitting.{tern_value}
use Rattle.net_model.specs.Completions.{tern_agrees, tern_on_bits}
use Rattle.net_model.proofs.Settling.{All-at}
use Rattle.net_model.proofs.LayerRows.{map_base}
use Rattle.net_model.proofs.Still.{stays}
use Rattle.net_model.specs.declared.netlist.Design.{Design}
use Rattle.net_model.specs.declared.cycles.Cycle.{Cycle}
use Rattle.net_model.specs.declared.claims.Claim.{Claim}
use Rattle.net_model.specs.declared.claims.PinRef.{PinRef}
use Rattle.net_model.specs.declared.claims.PinRef.TheVariants.{Net}
use Rattle.net_model.specs.declared.terns.Tern.{Tern}
use Rattle.net_model.specs.declared.terns.Tern.TheVariants.{Zero, Unknown}
use Rattle.query_model.specs.Keys.{key, lit, opposite, lit_value}
use Rattle.query_model.specs.Reads.{read, read_base, read_late, read_pin, is_start_net, AreMoved}
use Rattle.query_model.proofs.Tabled.{value_opposite}
use Rattle.query_model.proofs.Told.{ReadTells}
use Rattle.query_laws.proofs.Late.{IsUnmoved, IsUnmovedPin, moved_still, false_true}
use Rattle.query_model.specs.Laws.{may_one, may_zero}
use Rattle.query_laws.proofs.RailValues.{RailTells}
use Rattle.query_model.specs.declared.keys.Key.{Key}
use Rattle.query_model.specs.declared.keys.KeyLit.{KeyLit}

-- the layers of a cycle in which the start is unknown
pub record IsHazy (d : Design) (claim : Claim) (moved : List (List Bool)) (c : Cycle) (rows : List (List Tern)) : Type 0 where
  pub sound : IsSound d
  pub settled : IsSettled d c
  pub hazard : claim.hazard ≡ true
  pub start_in : IsStartIn d claim.start
  pub end_in : IsEndIn d claim.end
  pub are_moved : AreMoved d claim moved
  pub layers : AreLayers tern_value Zero d claim.start claim.through (λ _. Unknown) (map tern_of c.nets) rows

-- a settled cycle's known bits are settled as ternary values
settled_terns : (d : Design) (c : Cycle) → IsSound d → IsSettled d c → AreGatesSettled tern_value Zero d.gates (map tern_of c.nets)
settled_terns d c sound settled k g at =
    let range = All-at (IsGateInRange d) d.gates k g at sound.in_range.gates in
    map_base tern_of c.nets g.out
    ∙ (ap tern_of (settled.gates k g at)
    ∙ (sym (tern_on_bits g.func (gate_pins g.ins c.nets) (IsOver-weaker (length g.ins) 7 g.func (omega (arith, range.few)) range.func))
    ∙ tern_agrees g.func (length g.ins) (λ i. tern_of (gate_pins g.ins c.nets i)) (pins_of Zero g.ins (map tern_of c.nets)) range.func
    (λ i lt. sym (map_base tern_of c.nets (slice_index g.ins i)))))

-- a net that isn't moved has its known bit
pub unmoved_known : (d : Design) (claim : Claim) (moved : List (List Bool)) (c : Cycle) (rows : List (List Tern)) → IsHazy d claim moved c rows
    → (l : ℕ) → l ≤ length claim.through → (n : ℕ) → n < d.nets → net_at false moved l n ≡ false → net_at Zero rows l n ≡ tern_of (bit_at c.nets n)
unmoved_known d claim moved c rows hazy l le n low u =
    stays tern_value Zero d claim.start claim.through (λ _. Unknown) (map tern_of c.nets) rows (IsUnmoved moved) (IsUnmovedPin claim.through moved)
    (record {
      reads = tern_agrees;
      sound = hazy.sound;
      settled = settled_terns d c hazy.sound hazy.settled;
      layers = hazy.layers;
      still = moved_still d claim moved hazy.are_moved;
      start_same = λ m has v. false_true (net_at false moved 0 m) (hazy.are_moved.late m has) v;
    })
    l le n low u
    ∙ map_base tern_of c.nets n

known_one : (b : Bool) → b ≡ may_one (tern_of b)
known_one true = refl
known_one false = refl

known_zero : (b : Bool) → not b ≡ may_zero (tern_of b)
known_zero true = refl
known_zero false = refl

-- a literal and its opposite are the rails of a known bit
pub known_rails : (kind : Key → Type 0) (v : Key → Bool) (l : KeyLit) (b : Bool) → (kind l.key → lit_value v l ≡ b) → RailTells kind v l (opposite l)
    (tern_of b)
known_rails kind v l b tells =
    (λ has. tells has ∙ known_one b, λ has. value_opposite v l ∙ (ap not (tells has) ∙ known_zero b))

-- what the rails of a net in a layer tell
abbrev pub LayerMay : (Key → Type 0) → (Key → Bool) → Design → Claim → List (List Bool) → ℕ → List (List Tern) → ℕ → ℕ → Type 0
LayerMay kind v d claim moved t rows l n =
    RailTells kind v (read d claim moved t (suc l) 0 n) (read d claim moved t (suc l) 1 n) (net_at Zero rows l n)

-- and the net's own keys, where they are read
abbrev pub OwnMay : (Key → Type 0) → (Key → Bool) → Design → Claim → List (List Bool) → ℕ → List (List Tern) → ℕ → ℕ → Type 0
OwnMay kind v d claim moved t rows l n =
    net_at false moved l n ≡ true → is_in (Net n) (held_set claim.through l) ≡ false → RailTells kind v (lit true (key t (suc l) 0 n))
    (lit true (key t (suc l) 1 n)) (net_at Zero rows l n)

-- where hazards count, a moved net that isn't held is read by its own keys
pub read_own : (d : Design) (claim : Claim) (t l rail n : ℕ) → claim.hazard ≡ true → read_late d claim t l rail n ≡ lit true (key t (suc l) rail n)
read_own d claim t zero rail n mode = by_mode (is_start_net d claim n) claim.hazard mode
  where
    by_mode : (s h : Bool) → h ≡ true → cond (s && not h) (opposite (read_base d t n)) (lit true (key t 1 rail n)) ≡ lit true (key t 1 rail n)
    by_mode true true e = refl
    by_mode false true e = refl
    by_mode true false e = absurd cc
    by_mode false false e = absurd cc
read_own d claim t (suc l) rail n mode = refl

held_may : (kind : Key → Type 0) (v : Key → Bool) (d : Design) (claim : Claim) (moved : List (List Bool)) (t : ℕ) (c : Cycle)
    (rows : List (List Tern)) → IsHazy d claim moved c rows → (l n : ℕ) → l ≤ length claim.through → n < d.nets
    → ((j : ℕ) → j < l → LayerMay kind v d claim moved t rows j n) → is_in (Net n) (held_set claim.through l) ≡ true
    → RailTells kind v (read d claim moved t l 0 n) (read d claim moved t l 1 n) (net_at Zero rows l n)
held_may kind v d claim moved t c rows hazy zero n le low lower is = cc
held_may kind v d claim moved t c rows hazy (suc l) n le low lower is =
    let same : net_at Zero rows l n ≡ net_at Zero rows (suc l) n = sym (hazy.layers.held l (omega arith) n low is) ∙ ap (λ m. net_at Zero rows m n)
    (add-one l) in
    subst (λ (x : Tern). RailTells kind v (read d claim moved t (suc l) 0 n) (read d claim moved t (suc l) 1 n) x) same (lower l (omega arith))

pub layer_may : (kind : Key → Type 0) (v : Key → Bool) (d : Design) (claim : Claim) (moved : List (List Bool)) (t : ℕ) (c : Cycle)
    (rows : List (List Tern)) → IsHazy d claim moved c rows → (l n : ℕ) → l ≤ length claim.through → n < d.nets
    → ReadTells kind v d t (bit_at c.nets) n → ((j : ℕ) → j < l → LayerMay kind v d claim moved t rows j n) → OwnMay kind v d claim moved t rows l n
    → LayerMay kind v d claim moved t rows l n
layer_may kind v d claim moved t c rows hazy l n le low base lower own = by_tests (net_at false moved l n) refl (is_in (Net n) (held_set claim.through l)) refl
  where
    chosen : Bool → Bool → ℕ → KeyLit → KeyLit
    chosen m h rail bit = cond (not m) bit (cond h (read d claim moved t l rail n) (read_late d claim t l rail n))

    by_tests : (m : Bool) → net_at false moved l n ≡ m → (h : Bool) → is_in (Net n) (held_set claim.through l) ≡ h
        → RailTells kind v (chosen m h 0 (read_base d t n)) (chosen m h 1 (opposite (read_base d t n))) (net_at Zero rows l n)
    by_tests false m h e =
        subst (λ (x : Tern). RailTells kind v (read_base d t n) (opposite (read_base d t n)) x)
        (sym (unmoved_known d claim moved c rows hazy l le n low m)) (known_rails kind v (read_base d t n) (bit_at c.nets n) base)
    by_tests true m true e = held_may kind v d claim moved t c rows hazy l n le low lower e
    by_tests true m false e =
        subst (λ (x : KeyLit). RailTells kind v x (read_late d claim t l 1 n) (net_at Zero rows l n)) (sym (read_own d claim t l 0 n hazy.hazard))
        (subst (λ (x : KeyLit). RailTells kind v (lit true (key t (suc l) 0 n)) x (net_at Zero rows l n)) (sym (read_own d claim t l 1 n hazy.hazard))
        (own m e))

-- what the rails of a pin tell
pub pin_may : (kind : Key → Type 0) (v : Key → Bool) (d : Design) (claim : Claim) (moved : List (List Bool)) (t : ℕ) (rows : List (List Tern)) (l : ℕ)
    (pin : PinRef) (n : ℕ) → ((j : ℕ) → j ≤ l → LayerMay kind v d claim moved t rows j n)
    → RailTells kind v (read_pin d claim moved t (suc l) 0 pin n) (read_pin d claim moved t (suc l) 1 pin n)
    (pin_reads Zero claim.through rows l pin n)
pin_may kind v d claim moved t rows zero pin n tell = tell 0 (omega arith)
pin_may kind v d claim moved t rows (suc l) pin n tell = by_test (is_in pin (slice_index_or claim.through l []))
    (pin_may kind v d claim moved t rows l pin n (λ j le. tell j (omega arith)))
  where
    chosen : Bool → ℕ → KeyLit
    chosen b rail = cond b (read_pin d claim moved t (suc l) rail pin n) (read d claim moved t (suc (suc l)) rail n)

    by_test : (b : Bool) → RailTells kind v (read_pin d claim moved t (suc l) 0 pin n) (read_pin d claim moved t (suc l) 1 pin n)
        (pin_reads Zero claim.through rows l pin n) → RailTells kind v (chosen b 0) (chosen b 1)
        (cond b (pin_reads Zero claim.through rows l pin n) (net_at Zero rows (suc l) n))
    by_test true before = before
    by_test false before = tell (suc l) (omega arith)
