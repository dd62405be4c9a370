-- The definitions of the layers of a cycle, where hazards count.
use Rattle.std.proofs.Common.{◌≡◌, ℕ, zero, suc, ◌+◌, ◌<◌, ◌≤◌, Bool, true, false, not, cond, List, [], ◌∷◌, length, Some, refl, ap, sym, ◌∙◌, arith}
use Rattle.std.proofs.Common.{inl, inr, ◌⊎◌, subst, add-one, below_more}
use Rattle.std.specs.Prelude.{All, Contains, slice_get, flat_map, filter, ◌==◌}
use Rattle.std.proofs.lemmas.Bool.{cases_lt, and_from, both_ways, eq-eqb}
use Rattle.net_model.specs.Form.{value}
use Rattle.net_model.specs.FormLaws.{IsOver-weaker}
use Rattle.net_model.specs.Completions.{ReadsOnly, value_reads}
use Rattle.net_model.specs.Netlist.{IsGateInRange, source_nets}
use Rattle.net_model.specs.Cycles.{bit_at}
use Rattle.net_model.specs.Pins.{is_in, start_nets, start_outs}
use Rattle.net_model.specs.Layers.{net_at, held_set, pin_reads}
use Rattle.net_model.proofs.Settling.{All-at}
use Rattle.net_model.proofs.LayerRows.{source_low}
use Rattle.net_model.proofs.Members.{In, In-left, In-right, In-flat, In-from_Contains, from_map, in_or}
use Rattle.net_model.proofs.NetOrder.{over_nets}
use Rattle.net_model.specs.declared.netlist.Design.{Design}
use Rattle.net_model.specs.declared.netlist.Gate.{Gate}
use Rattle.net_model.specs.declared.netlist.RegOut.{RegOut}
use Rattle.net_model.specs.declared.cycles.Cycle.{Cycle}
use Rattle.net_model.specs.declared.claims.Claim.{Claim}
use Rattle.net_model.specs.declared.claims.PinRef.TheVariants.{Net, GateIn}
use Rattle.net_model.specs.declared.terns.Tern.{Tern}
use Rattle.net_model.specs.declared.terns.Tern.TheVariants.{Zero, Unknown}
use Rattle.query_model.specs.Keys.{key, lit, AllTrue, below}
use Rattle.query_model.specs.Reads.{read_pin, is_start_net}
use Rattle.query_model.specs.Defined.{Definition, numbered, rails, unit, covering, settling, has_own, layer_gate, layer_definitions, start_units}
use Rattle.query_model.proofs.Members.{In-below}
use Rattle.query_model.proofs.Tabled.{Covers}
use Rattle.query_model.proofs.Told.{ReadTells}
use Rattle.query_model.proofs.Runs.{CodingCovers, AnyKey, Forces, unit_says}
use Rattle.query_model.proofs.Needs.{any_in}
use Rattle.query_model.proofs.Based.{placed, in_numbered}
use Rattle.query_model.proofs.Lists.{length-numbered}
use Rattle.query_model.proofs.Prime.{in_filter}
use Rattle.query_model.specs.Laws.{may_one, may_zero}
use Rattle.query_model.proofs.Hazard.{RailsTell, Settles}
use Rattle.query_laws.proofs.RailValues.{RailTells, AreRails, on_terns, rails_give, rails_true}
use Rattle.query_laws.proofs.TernCells.{on_gate_terns}
use Rattle.query_laws.proofs.Hazy.{IsHazy, LayerMay, OwnMay, layer_may, pin_may}
use Rattle.query_model.specs.declared.keys.Key.{Key}
use Rattle.query_model.specs.declared.keys.KeyLit.{KeyLit}
use Rattle.query_model.specs.declared.keys.Coding.{Coding}

-- a coding whose cubes cover each cell, and settle it
pub record IsCoding (coding : Coding) : Type 0 where
  pub covers : CodingCovers coding
  pub settles : (cell : (ℕ → Bool) → Bool) (places : ℕ) → places ≤ 7 → ReadsOnly 7 cell → Settles cell places (settling coding cell places)

-- the definition of an output's rails gives its value
pub given_rails : (coding : Coding) (kind : Key → Type 0) (v : Key → Bool) (cell : (ℕ → Bool) → Bool) (hs ls : List KeyLit) (high low : Key)
    (ts : List Tern) → IsCoding coding → length hs ≡ length ts → length ts ≤ 7 → ReadsOnly 7 cell → RailsTell kind v hs ls ts
    → AllTrue v (rails coding cell hs ls high low).clauses → ((c : List KeyLit) (l : KeyLit) → In c (rails coding cell hs ls high low).clauses
    → In l c → kind l.key) → AreRails v (lit true high) (lit true low) (on_terns cell ts)
given_rails coding kind v cell hs ls high low ts is len few only tell all has =
    rails_give kind v cell hs ls (lit true high) (lit true low) (covering coding cell (length hs)) (settling coding cell (length hs)) ts few only
    (subst (λ n. Covers cell (length ts) (covering coding cell n)) (sym len) (is.covers cell (length ts) few only))
    (subst (λ n. Settles cell (length ts) (settling coding cell n)) (sym len) (is.settles cell (length ts) few only))
    tell all has

-- and rails that have the value make it true
pub true_rails : (coding : Coding) (v : Key → Bool) (cell : (ℕ → Bool) → Bool) (hs ls : List KeyLit) (high low : Key) (ts : List Tern)
    → IsCoding coding → length hs ≡ length ts → length ts ≤ 7 → ReadsOnly 7 cell → RailsTell AnyKey v hs ls ts → AreRails v (lit true high)
    (lit true low) (on_terns cell ts) → AllTrue v (rails coding cell hs ls high low).clauses
true_rails coding v cell hs ls high low ts is len few only tell are =
    rails_true v cell hs ls (lit true high) (lit true low) (covering coding cell (length hs)) (settling coding cell (length hs)) ts few only
    (subst (λ n. Covers cell (length ts) (covering coding cell n)) (sym len) (is.covers cell (length ts) few only))
    (subst (λ n. Settles cell (length ts) (settling coding cell n)) (sym len) (is.settles cell (length ts) few only))
    tell are

pub numbered_rails : (kind : Key → Type 0) (v : Key → Bool) (f g : ℕ → ℕ → KeyLit) (h : ℕ → ℕ → Tern) (i : ℕ) (ins : List ℕ)
    → ((j n : ℕ) → slice_get ins j ≡ Some n → RailTells kind v (f (i + j) n) (g (i + j) n) (h (i + j) n)) → RailsTell kind v (numbered f i ins)
    (numbered g i ins) (numbered h i ins)
numbered_rails kind v f g h i [] tell = tt
numbered_rails kind v f g h i (n ∷ ns) tell =
    let first : RailTells kind v (f i n) (g i n) (h i n) = subst (λ m. RailTells kind v (f m n) (g m n) (h m n)) (omega arith) (tell 0 n refl) in (
      first.0,
      (
        first.1,
        numbered_rails kind v f g h (i + 1) ns (λ j m e. subst (λ k. RailTells kind v (f k m) (g k m) (h k m)) (omega arith)
            (tell (suc j) m e)),
      ),
    )

abbrev pub pin_rails : Design → Claim → List (List Bool) → ℕ → ℕ → ℕ → ℕ → Gate → List KeyLit
pin_rails d claim moved t rail l k g = numbered (λ i n. read_pin d claim moved t (suc l) rail (GateIn k i) n) 0 g.ins

abbrev pub hazy_gate : Coding → Design → Claim → List (List Bool) → ℕ → ℕ → ℕ → Gate → Definition
hazy_gate coding d claim moved t l k g =
    rails coding (value g.func) (pin_rails d claim moved t 0 l k g) (pin_rails d claim moved t 1 l k g) (key t (suc l) 0 g.out) (key t (suc l) 1 g.out)

pub hazy_gate_is : (coding : Coding) (d : Design) (claim : Claim) (moved : List (List Bool)) (t l k : ℕ) (g : Gate)
    → has_own claim moved l g.out ≡ true → claim.hazard ≡ true → layer_gate coding d claim moved t l k g ≡ hazy_gate coding d claim moved t l k g ∷ []
hazy_gate_is coding d claim moved t l k g own mode = by_tests (has_own claim moved l g.out) own claim.hazard mode _
  where
    by_tests : (o : Bool) → o ≡ true → (h : Bool) → h ≡ true → (xs : List Definition)
        → cond (not o) [] (cond h (hazy_gate coding d claim moved t l k g ∷ []) xs) ≡ hazy_gate coding d claim moved t l k g ∷ []
    by_tests true a true b xs = refl
    by_tests true a false b xs = absurd cc
    by_tests false a h b xs = absurd cc

-- the values that a gate's pins read in a layer
abbrev pub layer_terns : Claim → List (List Tern) → ℕ → ℕ → Gate → List Tern
layer_terns claim rows l k g = numbered (λ i n. pin_reads Zero claim.through rows l (GateIn k i) n) 0 g.ins

pub gate_may_tell : (kind : Key → Type 0) (v : Key → Bool) (d : Design) (claim : Claim) (moved : List (List Bool)) (t : ℕ) (rows : List (List Tern))
    (l k : ℕ) (g : Gate) → IsGateInRange d g → ((j : ℕ) → j < l → (n : ℕ) → n < d.nets → LayerMay kind v d claim moved t rows j n)
    → All (LayerMay kind v d claim moved t rows l) g.ins → RailsTell kind v (pin_rails d claim moved t 0 l k g) (pin_rails d claim moved t 1 l k g)
    (layer_terns claim rows l k g)
gate_may_tell kind v d claim moved t rows l k g range lower pins =
    numbered_rails kind v (λ i n. read_pin d claim moved t (suc l) 0 (GateIn k i) n) (λ i n. read_pin d claim moved t (suc l) 1 (GateIn k i) n)
    (λ i n. pin_reads Zero claim.through rows l (GateIn k i) n) 0 g.ins
    (λ j n at.
    let low = All-at (λ m. m < d.nets) g.ins j n at range.ins in
    pin_may kind v d claim moved t rows l (GateIn k (0 + j)) n
    (λ i le. elim (cases_lt i l) [
      | inl less ↦ lower i less n low
      | inr same ↦ let e : l ≡ i = omega arith in subst (λ m. LayerMay kind v d claim moved t rows m n) e
          (All-at (LayerMay kind v d claim moved t rows l) g.ins j n at pins)
    ]))

pub gate_reads_few : (d : Design) (g : Gate) → IsGateInRange d g → ReadsOnly 7 (value g.func)
gate_reads_few d g range = value_reads 7 g.func (IsOver-weaker (length g.ins) 7 g.func (omega (arith, range.few)) range.func)

-- what a net of the start shows in the first layer
pub start_unknown : (d : Design) (claim : Claim) (moved : List (List Bool)) (c : Cycle) (rows : List (List Tern)) → IsHazy d claim moved c rows
    → (n : ℕ) → In n (start_nets d claim.start) → net_at Zero rows 0 n ≡ Unknown
start_unknown d claim moved c rows hazy n has =
    let of = from_map (λ (o : RegOut). o.net) n (start_outs d claim.start) has in
    let at = placed of.0 (start_outs d claim.start) of.1 in
    subst (λ m. net_at Zero rows 0 m ≡ Unknown) of.2 (All-at (λ (o : RegOut). net_at Zero rows 0 o.net ≡ Unknown) (start_outs d claim.start) at.0 of.0
    at.1 hazy.layers.late_nets)

abbrev pub net_units : ℕ → ℕ → List Definition
net_units t n = unit true (key t 1 0 n) ∷ unit true (key t 1 1 n) ∷ []

pub units_are : (d : Design) (claim : Claim) (t : ℕ) → claim.hazard ≡ true → start_units d claim t 0 ≡ flat_map (net_units t)
    (filter (is_start_net d claim) (below d.nets))
units_are d claim t mode = by_mode claim.hazard mode
  where
    by_mode : (h : Bool) → h ≡ true → cond h (flat_map (net_units t) (filter (is_start_net d claim) (below d.nets))) [] ≡ flat_map (net_units t)
        (filter (is_start_net d claim) (below d.nets))
    by_mode true e = refl
    by_mode false e = absurd cc

-- the units of a start's net stand in the first layer
unit_in : (coding : Coding) (d : Design) (claim : Claim) (moved : List (List Bool)) (t n : ℕ) (def : Definition) → claim.hazard ≡ true → n < d.nets
    → In n (start_nets d claim.start) → In def (net_units t n) → In def (layer_definitions coding d claim moved t 0)
unit_in coding d claim moved t n def mode low has here =
    let is : is_start_net d claim n ≡ true = any_in (λ x. x == n) n (start_nets d claim.start) has (eq-eqb n n refl) in
    let kept = in_filter (is_start_net d claim) n (below d.nets) (In-below d.nets n low) is in
    In-left def (start_units d claim t 0) (flat_map (λ x. x) (numbered (layer_gate coding d claim moved t 0) 0 d.gates))
    (subst (In def) (sym (units_are d claim t mode)) (In-flat (net_units t) def n (filter (is_start_net d claim) (below d.nets)) kept here))

-- a source is not read by a key of its own, apart from the start's
source_may : (coding : Coding) (kind : Key → Type 0) (v : Key → Bool) (d : Design) (claim : Claim) (moved : List (List Bool)) (t : ℕ) (c : Cycle)
    (rows : List (List Tern)) → IsHazy d claim moved c rows → (l : ℕ) → l ≤ length claim.through
    → Forces kind v (layer_definitions coding d claim moved t l) → (n : ℕ) → n < d.nets → Contains (source_nets d) n
    → OwnMay kind v d claim moved t rows l n
source_may coding kind v d claim moved t c rows hazy zero le forces n low has m free =
    by_start (in_or n (start_nets d claim.start))
  where
    Here : Type 0
    Here = RailTells kind v (lit true (key t 1 0 n)) (lit true (key t 1 1 n)) (net_at Zero rows 0 n)

    unknown : In n (start_nets d claim.start) → Here
    unknown is =
        let high = unit_in coding d claim moved t n (unit true (key t 1 0 n)) hazy.hazard low is (inl refl) in
        let low_in = unit_in coding d claim moved t n (unit true (key t 1 1 n)) hazy.hazard low is (inr (inl refl)) in
        subst (λ (x : Tern). RailTells kind v (lit true (key t 1 0 n)) (lit true (key t 1 1 n)) x) (sym (start_unknown d claim moved c rows hazy n is)) (
          λ k. unit_says v true (key t 1 0 n) (forces.clauses (unit true (key t 1 0 n)) (key t 1 0 n) high (inl refl) k),
          λ k. unit_says v true (key t 1 1 n) (forces.clauses (unit true (key t 1 1 n)) (key t 1 1 n) low_in (inl refl) k),
        )

    by_start : In n (start_nets d claim.start) ⊎ (In n (start_nets d claim.start) → ⊥) → Here
    by_start (inl is) = unknown is
    by_start (inr other) =
        let still = hazy.are_moved.others n has (λ h. other (In-from_Contains (start_nets d claim.start) n h)) in
        absurd (both_ways (net_at false moved 0 n) still m)
source_may coding kind v d claim moved t c rows hazy (suc l) le forces n low has m free =
    let still = hazy.are_moved.sources l (omega arith) n has free in
    absurd (both_ways (net_at false moved (suc l) n) (subst (λ i. net_at false moved i n ≡ false) (add-one l) still) m)

-- the definition of a gate's rails stands in the layer
gate_in : (coding : Coding) (d : Design) (claim : Claim) (moved : List (List Bool)) (t l k : ℕ) (g : Gate) → claim.hazard ≡ true
    → slice_get d.gates k ≡ Some g → has_own claim moved l g.out ≡ true → In (hazy_gate coding d claim moved t l k g)
    (layer_definitions coding d claim moved t l)
gate_in coding d claim moved t l k g mode at own =
    let def = hazy_gate coding d claim moved t l k g in
    let here : In def (layer_gate coding d claim moved t l k g) = subst (In def) (sym (hazy_gate_is coding d claim moved t l k g own mode)) (inl refl) in
    let row : In (layer_gate coding d claim moved t l k g) (numbered (layer_gate coding d claim moved t l) 0 d.gates) =
    subst (λ i. In (layer_gate coding d claim moved t l i g) (numbered (layer_gate coding d claim moved t l) 0 d.gates)) (omega arith)
    (in_numbered (layer_gate coding d claim moved t l) 0 d.gates k g at) in
    In-right def (start_units d claim t l) (flat_map (λ x. x) (numbered (layer_gate coding d claim moved t l) 0 d.gates))
    (In-flat (λ x. x) def (layer_gate coding d claim moved t l k g) (numbered (layer_gate coding d claim moved t l) 0 d.gates) row here)

-- a gate's rails in a layer tell what the gate shows there
gate_may : (coding : Coding) (kind : Key → Type 0) (v : Key → Bool) (d : Design) (claim : Claim) (moved : List (List Bool)) (t : ℕ) (c : Cycle)
    (rows : List (List Tern)) → IsCoding coding → IsHazy d claim moved c rows → (l : ℕ) → l ≤ length claim.through
    → Forces kind v (layer_definitions coding d claim moved t l) → ((j : ℕ) → j < l → (n : ℕ) → n < d.nets → LayerMay kind v d claim moved t rows j n)
    → (k : ℕ) (g : Gate) → slice_get d.gates k ≡ Some g → All (LayerMay kind v d claim moved t rows l) g.ins
    → OwnMay kind v d claim moved t rows l g.out
gate_may coding kind v d claim moved t c rows is hazy l le forces lower k g at pins m free =
    let range = All-at (IsGateInRange d) d.gates k g at hazy.sound.in_range.gates in
    let own = and_from (net_at false moved l g.out) (not (is_in (Net g.out) (held_set claim.through l))) m (ap not free) in
    let def = hazy_gate coding d claim moved t l k g in
    let there = gate_in coding d claim moved t l k g hazy.hazard at own in
    let hs = pin_rails d claim moved t 0 l k g in
    let ls = pin_rails d claim moved t 1 l k g in
    let ts = layer_terns claim rows l k g in
    let high = key t (suc l) 0 g.out in
    let low = key t (suc l) 1 g.out in
    let len_hs : length hs ≡ length g.ins = length-numbered (λ i n. read_pin d claim moved t (suc l) 0 (GateIn k i) n) 0 g.ins in
    let len_ts : length ts ≡ length g.ins = length-numbered (λ i n. pin_reads Zero claim.through rows l (GateIn k i) n) 0 g.ins in
    let few : length ts ≤ 7 = omega (arith, range.few) in
    let shows : net_at Zero rows l g.out ≡ on_terns (value g.func) ts =
    hazy.layers.gates l le k g at free ∙ sym (on_gate_terns g.func (λ i n. pin_reads Zero claim.through rows l (GateIn k i) n) g.ins range.func) in
    let tell = gate_may_tell kind v d claim moved t rows l k g range lower pins in
    let given : (out : Key) → In out def.outs → kind out → AreRails v (lit true high) (lit true low) (on_terns (value g.func) ts) =
    λ out in_outs has. given_rails coding kind v (value g.func) hs ls high low ts is (len_hs ∙ sym len_ts) few (gate_reads_few d g range) tell
    (forces.clauses def out there in_outs has) (forces.closed def out there in_outs has) in
    subst (λ (x : Tern). RailTells kind v (lit true high) (lit true low) x) (sym shows)
    (λ has. (given high (inl refl) has).0, λ has. (given low (inr (inl refl)) has).1)

layer_may_told : (coding : Coding) (kind : Key → Type 0) (v : Key → Bool) (d : Design) (claim : Claim) (moved : List (List Bool)) (t : ℕ) (c : Cycle)
    (rows : List (List Tern)) → IsCoding coding → IsHazy d claim moved c rows → ((n : ℕ) → n < d.nets → ReadTells kind v d t (bit_at c.nets) n)
    → (l : ℕ) → l ≤ length claim.through → Forces kind v (layer_definitions coding d claim moved t l)
    → ((j : ℕ) → j < l → (n : ℕ) → n < d.nets → LayerMay kind v d claim moved t rows j n) → (n : ℕ) → n < d.nets
    → LayerMay kind v d claim moved t rows l n
layer_may_told coding kind v d claim moved t c rows is hazy base l le forces lower =
    over_nets d (LayerMay kind v d claim moved t rows l) hazy.sound
    (λ n has.
    let low = source_low d n hazy.sound has in
    layer_may kind v d claim moved t c rows hazy l n le low (base n low) (λ j lt. lower j lt n low)
    (source_may coding kind v d claim moved t c rows hazy l le forces n low has))
    (λ k g at pins.
    let range = All-at (IsGateInRange d) d.gates k g at hazy.sound.in_range.gates in
    layer_may kind v d claim moved t c rows hazy l g.out le range.out (base g.out range.out) (λ j lt. lower j lt g.out range.out)
    (gate_may coding kind v d claim moved t c rows is hazy l le forces lower k g at pins))

layers_may_below : (coding : Coding) (kind : Key → Type 0) (v : Key → Bool) (d : Design) (claim : Claim) (moved : List (List Bool)) (t : ℕ)
    (c : Cycle) (rows : List (List Tern)) → IsCoding coding → IsHazy d claim moved c rows
    → ((n : ℕ) → n < d.nets → ReadTells kind v d t (bit_at c.nets) n)
    → ((l : ℕ) → l ≤ length claim.through → Forces kind v (layer_definitions coding d claim moved t l)) → (l : ℕ) → l ≤ length claim.through + 1
    → (j : ℕ) → j < l → (n : ℕ) → n < d.nets → LayerMay kind v d claim moved t rows j n
layers_may_below coding kind v d claim moved t c rows is hazy base forces zero le j lt = absurd (omega arith)
layers_may_below coding kind v d claim moved t c rows is hazy base forces (suc l) le j lt =
    let lower = layers_may_below coding kind v d claim moved t c rows is hazy base forces l (omega arith) in
    below_more (λ i. (n : ℕ) → n < d.nets → LayerMay kind v d claim moved t rows i n) l lower
    (layer_may_told coding kind v d claim moved t c rows is hazy base l (omega arith) (forces l (omega arith)) lower) j (omega arith)

-- what makes the layers' definitions of needed keys true tells the layers
pub layers_may : (coding : Coding) (kind : Key → Type 0) (v : Key → Bool) (d : Design) (claim : Claim) (moved : List (List Bool)) (t : ℕ) (c : Cycle)
    (rows : List (List Tern)) → IsCoding coding → IsHazy d claim moved c rows → ((n : ℕ) → n < d.nets → ReadTells kind v d t (bit_at c.nets) n)
    → ((l : ℕ) → l ≤ length claim.through → Forces kind v (layer_definitions coding d claim moved t l)) → (l : ℕ) → l ≤ length claim.through → (n : ℕ)
    → n < d.nets → LayerMay kind v d claim moved t rows l n
layers_may coding kind v d claim moved t c rows is hazy base forces l le n low =
    layers_may_below coding kind v d claim moved t c rows is hazy base forces (length claim.through + 1) (omega arith) l (omega arith) n low

-- the other way round: keys that say the layers
pub record SaysRails (v : Key → Bool) (d : Design) (claim : Claim) (t : ℕ) (rows : List (List Tern)) : Type 0 where
  pub high : (l n : ℕ) → l ≤ length claim.through → n < d.nets → v (key t (suc l) 0 n) ≡ may_one (net_at Zero rows l n)
  pub low : (l n : ℕ) → l ≤ length claim.through → n < d.nets → v (key t (suc l) 1 n) ≡ may_zero (net_at Zero rows l n)

layers_may_said_below : (v : Key → Bool) (d : Design) (claim : Claim) (moved : List (List Bool)) (t : ℕ) (c : Cycle) (rows : List (List Tern))
    → IsHazy d claim moved c rows → ((n : ℕ) → n < d.nets → ReadTells AnyKey v d t (bit_at c.nets) n) → SaysRails v d claim t rows → (l : ℕ)
    → l ≤ length claim.through + 1 → (j : ℕ) → j < l → (n : ℕ) → n < d.nets → LayerMay AnyKey v d claim moved t rows j n
layers_may_said_below v d claim moved t c rows hazy base says zero le j lt = absurd (omega arith)
layers_may_said_below v d claim moved t c rows hazy base says (suc l) le j lt =
    let lower = layers_may_said_below v d claim moved t c rows hazy base says l (omega arith) in
    below_more (λ i. (n : ℕ) → n < d.nets → LayerMay AnyKey v d claim moved t rows i n) l lower
    (λ n low. layer_may AnyKey v d claim moved t c rows hazy l n (omega arith) low (base n low) (λ i less. lower i less n low)
    (λ m free. (λ any. says.high l n (omega arith) low, λ any. says.low l n (omega arith) low)))
    j (omega arith)

pub layers_may_said : (v : Key → Bool) (d : Design) (claim : Claim) (moved : List (List Bool)) (t : ℕ) (c : Cycle) (rows : List (List Tern))
    → IsHazy d claim moved c rows → ((n : ℕ) → n < d.nets → ReadTells AnyKey v d t (bit_at c.nets) n) → SaysRails v d claim t rows → (l : ℕ)
    → l ≤ length claim.through → (n : ℕ) → n < d.nets → LayerMay AnyKey v d claim moved t rows l n
layers_may_said v d claim moved t c rows hazy base says l le n low =
    layers_may_said_below v d claim moved t c rows hazy base says (length claim.through + 1) (omega arith) l (omega arith) n low
