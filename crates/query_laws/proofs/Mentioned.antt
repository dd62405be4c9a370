-- A property that the keys of a formula's parts have, and so each needed key.
use Rattle.std.proofs.Common.{◌≡◌, ℕ, zero, suc, ◌+◌, ◌-◌, ◌<◌, Bool, true, false, not, cond, List, [], ◌∷◌, ◌++◌, map, length, Option, Some, None}
use Rattle.std.proofs.Common.{refl, ap, sym, arith, inl, inr, subst}
use Rattle.std.specs.Prelude.{Contains, slice_get, slice_index, flat_map, nat_lt, if◌then◌else◌, ◌&&◌, filter}
use Rattle.std.proofs.lemmas.Bool.{and_from}
use Rattle.net_model.specs.Form.{value}
use Rattle.net_model.specs.Cycles.{reg_capture}
use Rattle.net_model.specs.Layers.{net_at, held_set}
use Rattle.net_model.specs.Pins.{is_in}
use Rattle.net_model.proofs.Members.{In, In-cases, In-from_Contains, from_map, from_flat}
use Rattle.net_model.specs.Judge.{judged_count}
use Rattle.net_model.specs.declared.netlist.Design.{Design}
use Rattle.net_model.specs.declared.netlist.Gate.{Gate}
use Rattle.net_model.specs.declared.netlist.Reg.{Reg}
use Rattle.net_model.specs.declared.claims.Claim.{Claim}
use Rattle.sdcv_base.specs.declared.kinds.Edge.{Edge}
use Rattle.sdcv_base.specs.declared.kinds.Edge.TheVariants.{Any, Rise, Fall}
use Rattle.net_model.specs.declared.claims.Start.{Start}
use Rattle.net_model.specs.declared.claims.Start.TheVariants.{Reg as RegStart, Input as InputStart}
use Rattle.net_model.specs.declared.claims.End.{End}
use Rattle.net_model.specs.declared.claims.End.TheVariants.{Reg as RegEnd, Output as OutputEnd}
use Rattle.net_model.specs.declared.claims.PinRef.{PinRef}
use Rattle.net_model.specs.declared.claims.PinRef.TheVariants.{Net, GateIn, RegIn, OutPort}
use Rattle.sdcv_base.specs.declared.kinds.Kind.{Kind}
use Rattle.sdcv_base.specs.declared.kinds.Kind.TheVariants.{False, Multi}
use Rattle.net_model.specs.declared.invariants.InvClause.{InvClause}
use Rattle.net_model.specs.declared.terns.Tern.{Tern}
use Rattle.net_model.specs.declared.terns.Tern.TheVariants.{Zero, One, Unknown}
use Rattle.query_model.specs.Keys.{key, lit, opposite, flipped, below}
use Rattle.query_model.specs.Tables.{outside, cube_clause, plain_clauses, barred, escapes, may_be, may_clause, must_clause, hazard_clauses}
use Rattle.query_model.specs.Reads.{bit_key, read_base, is_start_net, read_late, read, read_pin}
use Rattle.net_model.specs.Queries.{Query, Question, Violates, Breaks}
use Rattle.net_model.specs.Mentions.{reads_own}
use Rattle.query_model.specs.Defined.{Definition, numbered, plain, rails, unit, exclusive, both, covering, settling, set_in, unit_if}
use Rattle.query_model.specs.Defined.{input_definition, gate_definition, bit_definition, base_definitions, has_own, layer_gate, start_units}
use Rattle.query_model.specs.Defined.{layer_definitions, with_own, late_key, late_reg, end_definition, start_lit, capture_lit, late_capture_lit}
use Rattle.query_model.specs.Defined.{extra, toggle_key, change_key, differ_key, stale_key, bad_key, differ_definition, edge_definition, extra_definitions}
use Rattle.query_model.specs.Defined.{claim_definitions}
use Rattle.query_model.specs.Formula.{state_lit, clause_in, kept_clauses, alternatives, alternatives_at, early_alternatives}
use Rattle.query_model.specs.Formula.{plain_alternatives, hazard_alternatives}
use Rattle.query_model.specs.Formula.{stale_if_later, clean_clauses, bad_clauses, question_clauses, asked_clauses, question_definitions}
use Rattle.query_model.specs.Formula.{cycle_definitions, definitions, Mentions, IsNeeded, Asked, Used}
use Rattle.query_model.proofs.Members.{below_less}
use Rattle.query_model.proofs.Based.{placed, from_numbered}
use Rattle.query_model.proofs.Prime.{from_filter}
use Rattle.query_model.specs.declared.keys.Key.{Key}
use Rattle.query_model.specs.declared.keys.KeyLit.{KeyLit}
use Rattle.query_model.specs.declared.keys.Cube.{Cube}
use Rattle.query_model.specs.declared.keys.Coding.{Coding}

-- each literal's key has the property
abbrev AllHave : (Key → Type 0) → List KeyLit → Type 0
AllHave P ls = (l : KeyLit) → In l ls → P l.key

abbrev ClausesHave : (Key → Type 0) → List (List KeyLit) → Type 0
ClausesHave P cs = (c : List KeyLit) → In c cs → AllHave P c

-- the keys of layer 0 have it: those past the nets, what is read for a net, and the nets of inputs and gates
pub record BaseHas (P : Key → Type 0) (d : Design) : Type 0 where
  pub past : (c i : ℕ) → P (key c 0 0 (d.nets + i))
  pub reads : (c n : ℕ) → P (read_base d c n).key
  pub inputs : (c i : ℕ) → i < length d.inputs → P (key c 0 0 (slice_index d.inputs i))
  pub gates : (c k : ℕ) (g : Gate) → slice_get d.gates k ≡ Some g → P (key c 0 0 g.out)

-- so do those of a late start's layers: of nets with keys of their own there, of the start's nets, and of the late capture
pub record LayersHave (P : Key → Type 0) (d : Design) (claim : Claim) (moved : List (List Bool)) : Type 0 where
  pub own : (c l rail n : ℕ) → has_own claim moved l n ≡ true → P (key c (suc l) rail n)
  pub starts : (c rail n : ℕ) → is_start_net d claim n ≡ true → P (key c 1 rail n)
  pub ends : (c rail r : ℕ) → claim.end ≡ RegEnd r → P (late_key d claim c rail)

-- the keys of a function's clauses are those of its places and of its output
flipped_key : (b : Bool) (l : KeyLit) → (flipped b l).key ≡ l.key
flipped_key true l = refl
flipped_key false l = refl

outside_have : (P : Key → Type 0) (reads : List KeyLit) (ts : List Tern) → AllHave P reads → AllHave P (outside reads ts)
outside_have P [] ts own l has = absurd has
outside_have P (r ∷ rs) [] own l has = absurd has
outside_have P (r ∷ rs) (Zero ∷ ts) own l (inl here) = subst (λ (m : KeyLit). P m.key) here (own r (inl refl))
outside_have P (r ∷ rs) (Zero ∷ ts) own l (inr later) = outside_have P rs ts (λ m i. own m (inr i)) l later
outside_have P (r ∷ rs) (One ∷ ts) own l (inl here) = subst (λ (m : KeyLit). P m.key) here (own r (inl refl))
outside_have P (r ∷ rs) (One ∷ ts) own l (inr later) = outside_have P rs ts (λ m i. own m (inr i)) l later
outside_have P (r ∷ rs) (Unknown ∷ ts) own l has = outside_have P rs ts (λ m i. own m (inr i)) l has

rails_have : (P : Key → Type 0) (flip : Bool) (hs ls : List KeyLit) (ts : List Tern) → AllHave P hs → AllHave P ls
    → AllHave P (cond flip (barred hs ls ts) (escapes hs ls ts))
rails_have P true [] ls ts own_h own_l l has = absurd has
rails_have P false [] ls ts own_h own_l l has = absurd has
rails_have P true (h ∷ hs) [] ts own_h own_l l has = absurd has
rails_have P false (h ∷ hs) [] ts own_h own_l l has = absurd has
rails_have P true (h ∷ hs) (m ∷ ls) [] own_h own_l l has = absurd has
rails_have P false (h ∷ hs) (m ∷ ls) [] own_h own_l l has = absurd has
rails_have P true (h ∷ hs) (m ∷ ls) (Zero ∷ ts) own_h own_l l (inl here) = subst (λ (x : KeyLit). P x.key) here (own_l m (inl refl))
rails_have P true (h ∷ hs) (m ∷ ls) (Zero ∷ ts) own_h own_l l (inr later) = rails_have P true hs ls ts (λ x i. own_h x (inr i)) (λ x i. own_l x (inr i)) l later
rails_have P true (h ∷ hs) (m ∷ ls) (One ∷ ts) own_h own_l l (inl here) = subst (λ (x : KeyLit). P x.key) here (own_h h (inl refl))
rails_have P true (h ∷ hs) (m ∷ ls) (One ∷ ts) own_h own_l l (inr later) = rails_have P true hs ls ts (λ x i. own_h x (inr i)) (λ x i. own_l x (inr i)) l later
rails_have P true (h ∷ hs) (m ∷ ls) (Unknown ∷ ts) own_h own_l l has = rails_have P true hs ls ts (λ x i. own_h x (inr i)) (λ x i. own_l x (inr i)) l has
rails_have P false (h ∷ hs) (m ∷ ls) (Zero ∷ ts) own_h own_l l (inl here) = subst (λ (x : KeyLit). P x.key) here (own_h h (inl refl))
rails_have P false (h ∷ hs) (m ∷ ls) (Zero ∷ ts) own_h own_l l (inr later) = rails_have P false hs ls ts (λ x i. own_h x (inr i))
    (λ x i. own_l x (inr i)) l later
rails_have P false (h ∷ hs) (m ∷ ls) (One ∷ ts) own_h own_l l (inl here) = subst (λ (x : KeyLit). P x.key) here (own_l m (inl refl))
rails_have P false (h ∷ hs) (m ∷ ls) (One ∷ ts) own_h own_l l (inr later) = rails_have P false hs ls ts (λ x i. own_h x (inr i))
    (λ x i. own_l x (inr i)) l later
rails_have P false (h ∷ hs) (m ∷ ls) (Unknown ∷ ts) own_h own_l l has = rails_have P false hs ls ts (λ x i. own_h x (inr i)) (λ x i. own_l x (inr i)) l has

last_has : (P : Key → Type 0) (c : List KeyLit) (out : KeyLit) → AllHave P c → P out.key → AllHave P (c ++ out ∷ [])
last_has P c out own out_own l has =
    elim (In-cases l c (out ∷ []) has) [
      | inl inside ↦ own l inside
      | inr last ↦ elim last [ inl here ↦ subst (λ (x : KeyLit). P x.key) here out_own | inr none ↦ absurd none ]
    ]

plain_have : (P : Key → Type 0) (reads : List KeyLit) (out : KeyLit) (cubes : List Cube) → AllHave P reads → P out.key
    → ClausesHave P (plain_clauses reads out cubes)
plain_have P reads out cubes own out_own c has =
    let of = from_map (cube_clause reads out) c cubes has in
    subst (AllHave P) of.2 (last_has P (outside reads of.0.fixed) (flipped (not of.0.value) out) (outside_have P reads of.0.fixed own)
    (subst P (sym (flipped_key (not of.0.value) out)) out_own))

may_has : (P : Key → Type 0) (b : Bool) (high low : KeyLit) → P high.key → P low.key → P (may_be b high low).key
may_has P true high low h l = h
may_has P false high low h l = l

hazard_have : (P : Key → Type 0) (hs ls : List KeyLit) (high low : KeyLit) (rows cubes : List Cube) → AllHave P hs → AllHave P ls → P high.key
    → P low.key → ClausesHave P (hazard_clauses hs ls high low rows cubes)
hazard_have P hs ls high low rows cubes own_h own_l high_own low_own c has =
    elim (In-cases c (map (may_clause hs ls high low) rows) (map (must_clause hs ls high low) cubes) has) [
      | inl first ↦
          let of = from_map (may_clause hs ls high low) c rows first in
          subst (AllHave P) of.2 (last_has P (barred hs ls of.0.fixed) (may_be of.0.value high low) (rails_have P true hs ls of.0.fixed own_h own_l)
          (may_has P of.0.value high low high_own low_own))
      | inr second ↦
          let of = from_map (must_clause hs ls high low) c cubes second in
          subst (AllHave P) of.2 (last_has P (escapes hs ls of.0.fixed) (opposite (may_be (not of.0.value) high low))
          (rails_have P false hs ls of.0.fixed own_h own_l) (may_has P (not of.0.value) high low high_own low_own))
    ]

-- what a net or a pin reads in a layer
late_has : (P : Key → Type 0) (d : Design) (base : BaseHas P d) (claim : Claim) (moved : List (List Bool)) (layers : LayersHave P d claim moved)
    (c l rail n : ℕ) → has_own claim moved l n ≡ true → P (read_late d claim c l rail n).key
late_has P d base claim moved layers c zero rail n own = by_start (is_start_net d claim n && not claim.hazard)
  where
    by_start : (b : Bool) → P (cond b (opposite (read_base d c n)) (lit true (key c 1 rail n))).key
    by_start true = base.reads c n
    by_start false = layers.own c 0 rail n own
late_has P d base claim moved layers c (suc l) rail n own = layers.own c (suc l) rail n own

read_has : (P : Key → Type 0) (d : Design) (base : BaseHas P d) (claim : Claim) (moved : List (List Bool)) (layers : LayersHave P d claim moved)
    (c l rail n : ℕ) → P (read d claim moved c l rail n).key
read_has P d base claim moved layers c zero rail n = subst P (sym (flipped_key (Rattle.std.specs.Prelude.nat_eq rail 1) (read_base d c n))) (base.reads c n)
read_has P d base claim moved layers c (suc l) rail n = by_tests (net_at false moved l n) refl (is_in (Net n) (held_set claim.through l)) refl
    (read_has P d base claim moved layers c l rail n)
  where
    by_tests : (m : Bool) → net_at false moved l n ≡ m → (h : Bool) → is_in (Net n) (held_set claim.through l) ≡ h
        → P (read d claim moved c l rail n).key → P (cond (not m) (flipped (Rattle.std.specs.Prelude.nat_eq rail 1) (read_base d c n))
        (cond h (read d claim moved c l rail n) (read_late d claim c l rail n))).key
    by_tests false m h e lower = subst P (sym (flipped_key (Rattle.std.specs.Prelude.nat_eq rail 1) (read_base d c n))) (base.reads c n)
    by_tests true m true e lower = lower
    by_tests true m false e lower =
        late_has P d base claim moved layers c l rail n (and_from (net_at false moved l n) (not (is_in (Net n) (held_set claim.through l))) m (ap not e))

pin_has : (P : Key → Type 0) (d : Design) (base : BaseHas P d) (claim : Claim) (moved : List (List Bool)) (layers : LayersHave P d claim moved)
    (c l rail : ℕ) (pin : PinRef) (n : ℕ) → P (read_pin d claim moved c l rail pin n).key
pin_has P d base claim moved layers c zero rail pin n = read_has P d base claim moved layers c 0 rail n
pin_has P d base claim moved layers c (suc l) rail pin n = by_test (is_in pin (held_set claim.through l)) (pin_has P d base claim moved layers c l rail pin n)
  where
    by_test : (b : Bool) → P (read_pin d claim moved c l rail pin n).key
        → P (cond b (read_pin d claim moved c l rail pin n) (read d claim moved c (suc l) rail n)).key
    by_test true lower = lower
    by_test false lower = read_has P d base claim moved layers c (suc l) rail n

-- the definitions of a list mention only such keys
abbrev pub DefinitionsHave : (Key → Type 0) → List Definition → Type 0
DefinitionsHave P defs = (def : Definition) → In def defs → ClausesHave P def.clauses

no_definitions : (P : Key → Type 0) → DefinitionsHave P []
no_definitions P def has = absurd has

one_definition : (P : Key → Type 0) (def : Definition) → ClausesHave P def.clauses → DefinitionsHave P (def ∷ [])
one_definition P def own other (inl here) = subst (λ (x : Definition). ClausesHave P x.clauses) here own
one_definition P def own other (inr none) = absurd none

two_parts : (P : Key → Type 0) (xs ys : List Definition) → DefinitionsHave P xs → DefinitionsHave P ys → DefinitionsHave P (xs ++ ys)
two_parts P xs ys a b def has = elim (In-cases def xs ys has) [ inl l ↦ a def l | inr r ↦ b def r ]

each_part : {X : Type 0} (P : Key → Type 0) (f : X → List Definition) (xs : List X) → ((x : X) → In x xs → DefinitionsHave P (f x))
    → DefinitionsHave P (flat_map f xs)
each_part P f xs own def has = let of = from_flat f def xs has in own of.0 of.1 def of.2

unit_has : (P : Key → Type 0) (b : Bool) (k : Key) → P k → ClausesHave P (unit b k).clauses
unit_has P b k own c (inl here) = subst (AllHave P) here single
  where
    single : AllHave P (lit b k ∷ [])
    single l (inl same) = subst (λ (x : KeyLit). P x.key) same own
    single l (inr none) = absurd none
unit_has P b k own c (inr none) = absurd none

pair_have : (P : Key → Type 0) (x y : KeyLit) → P x.key → P y.key → AllHave P (x ∷ y ∷ [])
pair_have P x y own_x own_y l (inl same) = subst (λ (m : KeyLit). P m.key) same own_x
pair_have P x y own_x own_y l (inr (inl same)) = subst (λ (m : KeyLit). P m.key) same own_y
pair_have P x y own_x own_y l (inr (inr none)) = absurd none

triple_have : (P : Key → Type 0) (x y z : KeyLit) → P x.key → P y.key → P z.key → AllHave P (x ∷ y ∷ z ∷ [])
triple_have P x y z own_x own_y own_z l (inl same) = subst (λ (m : KeyLit). P m.key) same own_x
triple_have P x y z own_x own_y own_z l (inr later) = pair_have P y z own_y own_z l later

exclusive_have : (P : Key → Type 0) (z : Key) (x y : KeyLit) → P z → P x.key → P y.key → ClausesHave P (exclusive z x y).clauses
exclusive_have P z x y own_z own_x own_y c (inl e) = subst (AllHave P) e (triple_have P (lit false z) x y own_z own_x own_y)
exclusive_have P z x y own_z own_x own_y c (inr (inl e)) = subst (AllHave P) e (triple_have P (lit false z) (opposite x) (opposite y) own_z own_x own_y)
exclusive_have P z x y own_z own_x own_y c (inr (inr (inl e))) = subst (AllHave P) e (triple_have P (lit true z) (opposite x) y own_z own_x own_y)
exclusive_have P z x y own_z own_x own_y c (inr (inr (inr (inl e)))) = subst (AllHave P) e (triple_have P (lit true z) x (opposite y) own_z own_x own_y)
exclusive_have P z x y own_z own_x own_y c (inr (inr (inr (inr none)))) = absurd none

both_have : (P : Key → Type 0) (z : Key) (x y : KeyLit) → P z → P x.key → P y.key → ClausesHave P (both z x y).clauses
both_have P z x y own_z own_x own_y c (inl e) = subst (AllHave P) e (pair_have P (lit false z) x own_z own_x)
both_have P z x y own_z own_x own_y c (inr (inl e)) = subst (AllHave P) e (pair_have P (lit false z) y own_z own_y)
both_have P z x y own_z own_x own_y c (inr (inr (inl e))) = subst (AllHave P) e (triple_have P (lit true z) (opposite x) (opposite y) own_z own_x own_y)
both_have P z x y own_z own_x own_y c (inr (inr (inr none))) = absurd none

edge_have : (P : Key → Type 0) (edge : Edge) (z : Key) (x y : KeyLit) → P z → P x.key → P y.key → ClausesHave P (edge_definition edge z x y).clauses
edge_have P Any z x y own_z own_x own_y = exclusive_have P z x y own_z own_x own_y
edge_have P Rise z x y own_z own_x own_y = both_have P z x (opposite y) own_z own_x own_y
edge_have P Fall z x y own_z own_x own_y = both_have P z (opposite x) y own_z own_x own_y

-- what pins read
reads_have : (P : Key → Type 0) (d : Design) (base : BaseHas P d) (c : ℕ) (ins : List ℕ) → AllHave P (map (read_base d c) ins)
reads_have P d base c ins l has = let of = from_map (read_base d c) l ins has in subst (λ (x : KeyLit). P x.key) of.2 (base.reads c of.0)

pins_have : (P : Key → Type 0) (d : Design) (base : BaseHas P d) (claim : Claim) (moved : List (List Bool)) (layers : LayersHave P d claim moved)
    (c l rail : ℕ) (pin : ℕ → PinRef) (ins : List ℕ) → AllHave P (numbered (λ i n. read_pin d claim moved c l rail (pin i) n) 0 ins)
pins_have P d base claim moved layers c l rail pin ins m has =
    let of = from_numbered (λ i n. read_pin d claim moved c l rail (pin i) n) m 0 ins has in
    subst (λ (x : KeyLit). P x.key) of.3 (pin_has P d base claim moved layers c l rail (pin (0 + of.0)) of.1)

with_own_have : (P : Key → Type 0) (reg : Reg) (own : KeyLit) (pins : List KeyLit) → P own.key → AllHave P pins → AllHave P (with_own reg own pins)
with_own_have P reg own pins own_own pins_have_it = by_test (reads_own reg)
  where
    by_test : (b : Bool) → AllHave P (pins ++ cond b (own ∷ []) [])
    by_test true l has = last_has P pins own pins_have_it own_own l has
    by_test false l has = elim (In-cases l pins [] has) [ inl inside ↦ pins_have_it l inside | inr none ↦ absurd none ]

-- layer 0
unit_if_has : (P : Key → Type 0) (o : Option Bool) (flip : Bool) (k : Key) → P k → DefinitionsHave P (unit_if o flip k)
unit_if_has P None flip k own = no_definitions P
unit_if_has P (Some v) flip k own = one_definition P (unit (if flip then not v else v) k) (unit_has P (if flip then not v else v) k own)

base_have : (coding : Coding) (P : Key → Type 0) (d : Design) (base : BaseHas P d) (live c : ℕ) → DefinitionsHave P (base_definitions coding d live c)
base_have coding P d base live c =
    two_parts P (flat_map (input_definition d live c) (below (length d.inputs)))
    (map (gate_definition coding d c) d.gates ++ numbered (bit_definition coding d c) 0 d.regs)
    (each_part P (input_definition d live c) (below (length d.inputs))
    (λ i has.
    let own = base.inputs c i (below_less (length d.inputs) i has) in
    two_parts P (unit_if (set_in d.fixed i) false (key c 0 0 (slice_index d.inputs i)))
    (unit_if (set_in d.resets i) (not (nat_lt c live)) (key c 0 0 (slice_index d.inputs i)))
    (unit_if_has P (set_in d.fixed i) false (key c 0 0 (slice_index d.inputs i)) own)
    (unit_if_has P (set_in d.resets i) (not (nat_lt c live)) (key c 0 0 (slice_index d.inputs i)) own)))
    (two_parts P (map (gate_definition coding d c) d.gates) (numbered (bit_definition coding d c) 0 d.regs)
    (λ def has.
    let of = from_map (gate_definition coding d c) def d.gates has in
    let place = placed of.0 d.gates of.1 in
    subst (λ (x : Definition). ClausesHave P x.clauses) of.2
    (plain_have P (map (read_base d c) of.0.ins) (lit true (key c 0 0 of.0.out))
    (covering coding (value of.0.func) (length (map (read_base d c) of.0.ins))) (reads_have P d base c of.0.ins)
    (base.gates c place.0 of.0 place.1)))
    (λ def has.
    let of = from_numbered (bit_definition coding d c) def 0 d.regs has in
    let reads = with_own of.1 (lit true (bit_key d c (0 + of.0))) (map (read_base d c) of.1.ins) in
    subst (λ (x : Definition). ClausesHave P x.clauses) of.3
    (plain_have P reads (lit true (bit_key d (c + 1) (0 + of.0))) (covering coding (reg_capture of.1) (length reads))
    (with_own_have P of.1 (lit true (bit_key d c (0 + of.0))) (map (read_base d c) of.1.ins) (base.past c (0 + of.0))
    (reads_have P d base c of.1.ins)) (base.past (c + 1) (0 + of.0)))))

-- the layers
layer_gate_have : (coding : Coding) (P : Key → Type 0) (d : Design) (base : BaseHas P d) (claim : Claim) (moved : List (List Bool))
    (layers : LayersHave P d claim moved) (c l k : ℕ) (g : Gate) → DefinitionsHave P (layer_gate coding d claim moved c l k g)
layer_gate_have coding P d base claim moved layers c l k g = by_tests (has_own claim moved l g.out) refl claim.hazard
  where
    pins : ℕ → List KeyLit
    pins rail = numbered (λ i n. read_pin d claim moved c (suc l) rail (GateIn k i) n) 0 g.ins

    by_tests : (o : Bool) → has_own claim moved l g.out ≡ o → (h : Bool)
        → DefinitionsHave P (cond (not o) [] (cond h (rails coding (value g.func) (pins 0) (pins 1) (key c (suc l) 0 g.out) (key c (suc l) 1 g.out)
        ∷ []) (plain coding (value g.func) (pins 0) (key c (suc l) 0 g.out) ∷ [])))
    by_tests false own h = no_definitions P
    by_tests true own true =
        one_definition P (rails coding (value g.func) (pins 0) (pins 1) (key c (suc l) 0 g.out) (key c (suc l) 1 g.out))
        (hazard_have P (pins 0) (pins 1) (lit true (key c (suc l) 0 g.out)) (lit true (key c (suc l) 1 g.out))
        (covering coding (value g.func) (length (pins 0))) (settling coding (value g.func) (length (pins 0)))
        (pins_have P d base claim moved layers c (suc l) 0 (GateIn k) g.ins) (pins_have P d base claim moved layers c (suc l) 1 (GateIn k) g.ins)
        (layers.own c l 0 g.out own) (layers.own c l 1 g.out own))
    by_tests true own false =
        one_definition P (plain coding (value g.func) (pins 0) (key c (suc l) 0 g.out))
        (plain_have P (pins 0) (lit true (key c (suc l) 0 g.out)) (covering coding (value g.func) (length (pins 0)))
        (pins_have P d base claim moved layers c (suc l) 0 (GateIn k) g.ins) (layers.own c l 0 g.out own))

start_units_have : (P : Key → Type 0) (d : Design) (base : BaseHas P d) (claim : Claim) (moved : List (List Bool))
    (layers : LayersHave P d claim moved) (c l : ℕ) → DefinitionsHave P (start_units d claim c l)
start_units_have P d base claim moved layers c (suc l) = no_definitions P
start_units_have P d base claim moved layers c zero = by_mode claim.hazard
  where
    two : ℕ → List Definition
    two n = unit true (key c 1 0 n) ∷ unit true (key c 1 1 n) ∷ []

    by_mode : (h : Bool) → DefinitionsHave P (cond h (flat_map two (filter (is_start_net d claim) (below d.nets))) [])
    by_mode false = no_definitions P
    by_mode true =
        each_part P two (filter (is_start_net d claim) (below d.nets))
        (λ n has.
        let is = (from_filter (is_start_net d claim) n (below d.nets) has).1 in
        two_parts P (unit true (key c 1 0 n) ∷ []) (unit true (key c 1 1 n) ∷ [])
        (one_definition P (unit true (key c 1 0 n)) (unit_has P true (key c 1 0 n) (layers.starts c 0 n is)))
        (one_definition P (unit true (key c 1 1 n)) (unit_has P true (key c 1 1 n) (layers.starts c 1 n is))))

layer_have : (coding : Coding) (P : Key → Type 0) (d : Design) (base : BaseHas P d) (claim : Claim) (moved : List (List Bool))
    (layers : LayersHave P d claim moved) (c l : ℕ) → DefinitionsHave P (layer_definitions coding d claim moved c l)
layer_have coding P d base claim moved layers c l =
    two_parts P (start_units d claim c l) (flat_map (λ x. x) (numbered (layer_gate coding d claim moved c l) 0 d.gates))
    (start_units_have P d base claim moved layers c l)
    (λ def has.
    let list = from_flat (λ x. x) def (numbered (layer_gate coding d claim moved c l) 0 d.gates) has in
    let of = from_numbered (layer_gate coding d claim moved c l) list.0 0 d.gates list.1 in
    layer_gate_have coding P d base claim moved layers c l (0 + of.0) of.1 def (subst (In def) (sym of.3) list.2))

-- the end
end_have : (coding : Coding) (P : Key → Type 0) (d : Design) (base : BaseHas P d) (claim : Claim) (moved : List (List Bool))
    (layers : LayersHave P d claim moved) (c : ℕ) (e : End) → claim.end ≡ e → DefinitionsHave P (end_definition coding d claim moved c e)
end_have coding P d base claim moved layers c (OutputEnd o) is = no_definitions P
end_have coding P d base claim moved layers c (RegEnd r) is = by_reg (slice_get d.regs r)
  where
    late : ℕ → Key
    late rail = late_key d claim c rail

    ends : (rail : ℕ) → P (late_key d claim c rail)
    ends rail = layers.ends c rail r is

    by_reg : (o : Option Reg) → DefinitionsHave P (late_reg coding d claim moved c r o)
    by_reg None = no_definitions P
    by_reg (Some reg) = by_mode claim.hazard
      where
        pins : ℕ → List KeyLit
        pins rail = numbered (λ i n. read_pin d claim moved c (length claim.through + 1) rail (RegIn r i) n) 0 reg.ins

        reads : ℕ → Bool → List KeyLit
        reads rail positive = with_own reg (lit positive (bit_key d c r)) (pins rail)

        fine : (rail : ℕ) (positive : Bool) → AllHave P (reads rail positive)
        fine rail positive = with_own_have P reg (lit positive (bit_key d c r)) (pins rail) (base.past c r)
            (pins_have P d base claim moved layers c (length claim.through + 1) rail (RegIn r) reg.ins)

        by_mode : (h : Bool) → DefinitionsHave P (cond h (rails coding (reg_capture reg) (reads 0 true) (reads 1 false) (late 0) (late 1) ∷ [])
            (plain coding (reg_capture reg) (reads 0 true) (late 0) ∷ []))
        by_mode true =
            one_definition P (rails coding (reg_capture reg) (reads 0 true) (reads 1 false) (late 0) (late 1))
            (hazard_have P (reads 0 true) (reads 1 false) (lit true (late 0)) (lit true (late 1))
            (covering coding (reg_capture reg) (length (reads 0 true))) (settling coding (reg_capture reg) (length (reads 0 true))) (fine 0 true)
            (fine 1 false) (ends 0) (ends 1))
        by_mode false =
            one_definition P (plain coding (reg_capture reg) (reads 0 true) (late 0))
            (plain_have P (reads 0 true) (lit true (late 0)) (covering coding (reg_capture reg) (length (reads 0 true))) (fine 0 true) (ends 0))

-- the further keys
extra_has : (P : Key → Type 0) (d : Design) (base : BaseHas P d) (c i : ℕ) → P (extra d c i)
extra_has P d base c i =
    let e : d.nets + (length d.regs + i) ≡ d.nets + length d.regs + i = omega arith in
    subst (λ n. P (key c 0 0 n)) e (base.past c (length d.regs + i))

start_lit_has : (P : Key → Type 0) (d : Design) (base : BaseHas P d) (start : Start) (c : ℕ) → P (start_lit d start c).key
start_lit_has P d base (RegStart r) c = base.past c r
start_lit_has P d base (InputStart i) c = base.reads c (slice_index d.inputs i)

capture_lit_has : (P : Key → Type 0) (d : Design) (base : BaseHas P d) (e : End) (c : ℕ) → P (capture_lit d e c).key
capture_lit_has P d base (RegEnd r) c = base.past (c + 1) r
capture_lit_has P d base (OutputEnd o) c = base.reads c (slice_index d.outputs o)

late_lit_has : (P : Key → Type 0) (d : Design) (base : BaseHas P d) (claim : Claim) (moved : List (List Bool)) (layers : LayersHave P d claim moved)
    (c rail : ℕ) (e : End) → claim.end ≡ e → P (late_capture_lit d claim moved c rail e).key
late_lit_has P d base claim moved layers c rail (RegEnd r) is = layers.ends c rail r is
late_lit_has P d base claim moved layers c rail (OutputEnd o) is = pin_has P d base claim moved layers c (length claim.through + 1) rail (OutPort o)
    (slice_index d.outputs o)

differ_have : (P : Key → Type 0) (d : Design) (base : BaseHas P d) (claim : Claim) (moved : List (List Bool)) (layers : LayersHave P d claim moved)
    (c : ℕ) → ClausesHave P (differ_definition d claim moved c).clauses
differ_have P d base claim moved layers c = by_mode claim.hazard
  where
    by_mode : (h : Bool) → ClausesHave P (cond h (both (differ_key d c) (late_capture_lit d claim moved c 0 claim.end)
        (late_capture_lit d claim moved c 1 claim.end)) (exclusive (differ_key d c) (late_capture_lit d claim moved c 0 claim.end)
        (capture_lit d claim.end c))).clauses
    by_mode true = both_have P (differ_key d c) (late_capture_lit d claim moved c 0 claim.end) (late_capture_lit d claim moved c 1 claim.end)
        (extra_has P d base c 2) (late_lit_has P d base claim moved layers c 0 claim.end refl)
        (late_lit_has P d base claim moved layers c 1 claim.end refl)
    by_mode false = exclusive_have P (differ_key d c) (late_capture_lit d claim moved c 0 claim.end) (capture_lit d claim.end c)
        (extra_has P d base c 2) (late_lit_has P d base claim moved layers c 0 claim.end refl) (capture_lit_has P d base claim.end c)

extras_have : (P : Key → Type 0) (d : Design) (base : BaseHas P d) (claim : Claim) (moved : List (List Bool)) (layers : LayersHave P d claim moved)
    (c : ℕ) → DefinitionsHave P (extra_definitions d claim moved c)
extras_have P d base claim moved layers c def (inl here) = subst (λ (x : Definition). ClausesHave P x.clauses) here
    (edge_have P claim.edge (toggle_key d c) (start_lit d claim.start c) (start_lit d claim.start (c - 1)) (extra_has P d base c 0)
    (start_lit_has P d base claim.start c) (start_lit_has P d base claim.start (c - 1)))
extras_have P d base claim moved layers c def (inr (inl here)) = subst (λ (x : Definition). ClausesHave P x.clauses) here
    (exclusive_have P (change_key d c) (capture_lit d claim.end c) (capture_lit d claim.end (c - 1)) (extra_has P d base c 1)
    (capture_lit_has P d base claim.end c) (capture_lit_has P d base claim.end (c - 1)))
extras_have P d base claim moved layers c def (inr (inr (inl here))) = subst (λ (x : Definition). ClausesHave P x.clauses) here
    (differ_have P d base claim moved layers c)
extras_have P d base claim moved layers c def (inr (inr (inr later))) =
    let stale : ℕ → Definition = λ r. exclusive (stale_key d c (r + 1)) (start_lit d claim.start c) (start_lit d claim.start (c - r - 2)) in
    let of = from_map stale def (below (judged_count claim - 1)) later in
    subst (λ (x : Definition). ClausesHave P x.clauses) of.2 (exclusive_have P (stale_key d c (of.0 + 1)) (start_lit d claim.start c)
    (start_lit d claim.start (c - of.0 - 2)) (extra_has P d base c (2 + (of.0 + 1))) (start_lit_has P d base claim.start c)
    (start_lit_has P d base claim.start (c - of.0 - 2)))

claim_have : (coding : Coding) (P : Key → Type 0) (d : Design) (base : BaseHas P d) (claim : Claim) (moved : List (List Bool))
    (layers : LayersHave P d claim moved) (c : ℕ) → DefinitionsHave P (claim_definitions coding d claim moved c)
claim_have coding P d base claim moved layers c =
    two_parts P (flat_map (layer_definitions coding d claim moved c) (below (length claim.through + 1)))
    (end_definition coding d claim moved c claim.end ++ extra_definitions d claim moved c)
    (each_part P (layer_definitions coding d claim moved c) (below (length claim.through + 1)) (λ l has. layer_have coding P d base claim moved layers c l))
    (two_parts P (end_definition coding d claim moved c claim.end) (extra_definitions d claim moved c)
    (end_have coding P d base claim moved layers c claim.end refl) (extras_have P d base claim moved layers c))

-- so do those of the claim that a query asks about
abbrev pub QuestionHas : (Key → Type 0) → Design → List (List Bool) → Question → Type 0
QuestionHas P d moved (Violates claim offset clean) = LayersHave P d claim moved
QuestionHas P d moved (Breaks clause) = Unit {0}

question_have : (coding : Coding) (P : Key → Type 0) (d : Design) (base : BaseHas P d) (moved : List (List Bool)) (w : Question) (c : ℕ)
    → QuestionHas P d moved w → DefinitionsHave P (question_definitions coding d moved w c)
question_have coding P d base moved (Violates claim offset clean) c layers = claim_have coding P d base claim moved layers c
question_have coding P d base moved (Breaks clause) c layers = no_definitions P

definitions_have : (coding : Coding) (P : Key → Type 0) (q : Query) (moved : List (List Bool)) → BaseHas P q.design
    → QuestionHas P q.design moved q.question → DefinitionsHave P (definitions coding q moved)
definitions_have coding P q moved base layers =
    each_part P (cycle_definitions coding q moved) (below q.cycles)
    (λ c has. two_parts P (base_definitions coding q.design q.live c) (question_definitions coding q.design moved q.question c)
    (base_have coding P q.design base q.live c) (question_have coding P q.design base moved q.question c layers))

-- what is asked
state_have : (P : Key → Type 0) (d : Design) (base : BaseHas P d) (clause : InvClause) (c : ℕ) → AllHave P (clause_in d clause c)
state_have P d base clause c l has = let of = from_map (state_lit d c) l clause.lits has in subst (λ (x : KeyLit). P x.key) of.2 (base.past c of.0.reg)

single_has : (P : Key → Type 0) (k : Key) → P k → AllHave P (lit true k ∷ [])
single_has P k own l (inl here) = subst (λ (x : KeyLit). P x.key) here own
single_has P k own l (inr none) = absurd none

cons_have : (P : Key → Type 0) (k : Key) (ls : List KeyLit) → P k → AllHave P ls → AllHave P (lit true k ∷ ls)
cons_have P k ls own rest l (inl here) = subst (λ (x : KeyLit). P x.key) here own
cons_have P k ls own rest l (inr later) = rest l later

stale_has : (P : Key → Type 0) (d : Design) (base : BaseHas P d) (c r : ℕ) → AllHave P (stale_if_later d c r)
stale_has P d base c zero l has = absurd has
stale_has P d base c (suc r) l has = single_has P (stale_key d c (suc r)) (extra_has P d base c (2 + suc r)) l has

one_alternative : (P : Key → Type 0) (alt : List KeyLit) → AllHave P alt → ClausesHave P (alt ∷ [])
one_alternative P alt own c (inl here) = subst (AllHave P) here own
one_alternative P alt own c (inr none) = absurd none

plain_alternatives_have : (P : Key → Type 0) (d : Design) (base : BaseHas P d) (k : Kind) (sets : List (List PinRef)) (c r : ℕ)
    → ClausesHave P (plain_alternatives k sets d c r)
plain_alternatives_have P d base False sets c r = one_alternative P _ (cons_have P (differ_key d c) (stale_if_later d c r) (extra_has P d base c 2)
    (stale_has P d base c r))
plain_alternatives_have P d base (Multi k) [] c r = one_alternative P _ (single_has P (change_key d c) (extra_has P d base c 1))
plain_alternatives_have P d base (Multi k) (set ∷ sets) c r = one_alternative P _
    (cons_have P (change_key d c) (lit true (differ_key d c) ∷ stale_if_later d c r) (extra_has P d base c 1)
    (cons_have P (differ_key d c) (stale_if_later d c r) (extra_has P d base c 2) (stale_has P d base c r)))

hazard_alternatives_have : (P : Key → Type 0) (d : Design) (base : BaseHas P d) (k : Kind) (sets : List (List PinRef)) (c : ℕ)
    → ClausesHave P (hazard_alternatives k sets d c)
hazard_alternatives_have P d base False sets c alt has = one_alternative P _ (single_has P (differ_key d c) (extra_has P d base c 2)) alt has
hazard_alternatives_have P d base (Multi k) (set ∷ sets) c alt has = one_alternative P _ (single_has P (differ_key d c) (extra_has P d base c 2)) alt has
hazard_alternatives_have P d base (Multi k) [] c alt (inl here) = subst (AllHave P) here (single_has P (change_key d c) (extra_has P d base c 1))
hazard_alternatives_have P d base (Multi k) [] c alt (inr later) = one_alternative P _ (single_has P (differ_key d c) (extra_has P d base c 2)) alt later

alternatives_have : (P : Key → Type 0) (d : Design) (base : BaseHas P d) (claim : Claim) (t : ℕ) → ClausesHave P (alternatives d claim t)
alternatives_have P d base claim t alt has =
    let of = from_flat (alternatives_at d claim t) alt (below (judged_count claim)) has in
    by_side of.0 claim.early claim.hazard alt of.2
  where
    by_side : (r : ℕ) (e h : Bool) → ClausesHave P (cond e (early_alternatives d t)
        (cond h (hazard_alternatives claim.kind claim.through d (t + r)) (plain_alternatives claim.kind claim.through d (t + r) r)))
    by_side r true h = one_alternative P _ (single_has P (differ_key d (t - 1)) (extra_has P d base (t - 1) 2))
    by_side r false true = hazard_alternatives_have P d base claim.kind claim.through (t + r)
    by_side r false false = plain_alternatives_have P d base claim.kind claim.through (t + r) r

clean_have : (P : Key → Type 0) (d : Design) (base : BaseHas P d) (claim : Claim) (t : ℕ) → ClausesHave P (clean_clauses d claim t)
clean_have P d base claim t c has =
    let of = from_map (λ (conditions : List KeyLit). lit false (toggle_key d t) ∷ map opposite conditions) c (alternatives d claim t) has in
    subst (AllHave P) of.2 (whole of.0 of.1)
  where
    whole : (alt : List KeyLit) → In alt (alternatives d claim t) → AllHave P (lit false (toggle_key d t) ∷ map opposite alt)
    whole alt in_alts l (inl here) = subst (λ (x : KeyLit). P x.key) here (extra_has P d base t 0)
    whole alt in_alts l (inr later) = let from = from_map opposite l alt later in subst (λ (x : KeyLit). P x.key) from.2
        (alternatives_have P d base claim t alt in_alts from.0 from.1)

bad_have : (P : Key → Type 0) (d : Design) (base : BaseHas P d) (claim : Claim) (t : ℕ) → ClausesHave P (bad_clauses d claim t)
bad_have P d base claim t c (inl here) = subst (AllHave P) here (single_has P (toggle_key d t) (extra_has P d base t 0))
bad_have P d base claim t c (inr (inl here)) =
    subst (AllHave P) here
    (λ l has. let of = from_numbered (λ a (conditions : List KeyLit). lit true (bad_key d t a)) l 0 (alternatives d claim t) has in
    subst (λ (x : KeyLit). P x.key) of.3 (extra_has P d base t (20 + (0 + of.0))))
bad_have P d base claim t c (inr (inr later)) =
    let conditions_of : ℕ → List KeyLit → List (List KeyLit) = λ a conditions. map (λ condition. lit false (bad_key d t a) ∷ condition ∷ []) conditions in
    let list = from_flat (λ x. x) c (numbered conditions_of 0 (alternatives d claim t)) later in
    let of = from_numbered conditions_of list.0 0 (alternatives d claim t) list.1 in
    let there : In c (conditions_of (0 + of.0) of.1) = subst (In c) (sym of.3) list.2 in
    let from = from_map (λ condition. lit false (bad_key d t (0 + of.0)) ∷ condition ∷ []) c of.1 there in
    subst (AllHave P) from.2 (pair_have P (lit false (bad_key d t (0 + of.0))) from.0 (extra_has P d base t (20 + (0 + of.0)))
    (alternatives_have P d base claim t of.1 (Rattle.query_model.proofs.Based.in_place of.1 (alternatives d claim t) of.0 of.2) from.0 from.1))

asked_have : (P : Key → Type 0) (q : Query) → BaseHas P q.design → ClausesHave P (asked_clauses q)
asked_have P q base c has =
    elim (In-cases c (kept_clauses q) (question_clauses q q.question) has) [
      | inl kept ↦
          let of = from_flat (λ t. map (λ (clause : InvClause). clause_in q.design clause t) q.kept) c (below q.kept_below) kept in
          let from = from_map (λ (clause : InvClause). clause_in q.design clause of.0) c q.kept of.2 in
          subst (AllHave P) from.2 (state_have P q.design base from.0 of.0)
      | inr question ↦ of_question q.question c question
    ]
  where
    of_question : (w : Question) → ClausesHave P (question_clauses q w)
    of_question (Violates claim offset clean) x there =
        elim (In-cases x (flat_map (λ o. clean_clauses q.design claim (q.live + 1 + o)) (below clean))
        (bad_clauses q.design claim (q.live + 1 + offset)) there) [
          | inl cleans ↦ let of = from_flat (λ o. clean_clauses q.design claim (q.live + 1 + o)) x (below clean) cleans in
              clean_have P q.design base claim (q.live + 1 + of.0) x of.2
          | inr bad ↦ bad_have P q.design base claim (q.live + 1 + offset) x bad
        ]
    of_question (Breaks clause) x there =
        let from = from_map (λ l. opposite l ∷ []) x (clause_in q.design clause (q.cycles - 1)) there in
        subst (AllHave P) from.2
        (λ l in_l. elim in_l [
          | inl here ↦ subst (λ (y : KeyLit). P y.key) here (state_have P q.design base clause (q.cycles - 1) from.0 from.1)
          | inr none ↦ absurd none
        ])

mentioned_has : (P : Key → Type 0) (cs : List (List KeyLit)) (k : Key) → ClausesHave P cs → Mentions cs k → P k
mentioned_has P cs k have (c, in_c, (l, in_l, same)) = subst P same (have c (In-from_Contains cs c in_c) l (In-from_Contains c l in_l))

-- each needed key of a query has it
pub needed_has : (coding : Coding) (P : Key → Type 0) (q : Query) (moved : List (List Bool)) (k : Key) → BaseHas P q.design
    → QuestionHas P q.design moved q.question → IsNeeded (definitions coding q moved) (asked_clauses q) k → P k
needed_has coding P q moved k base layers (Asked _ there) = mentioned_has P (asked_clauses q) k (asked_have P q base) there
needed_has coding P q moved k base layers (Used def out _ in_defs in_outs needed there) =
    mentioned_has P def.clauses k (definitions_have coding P q moved base layers def (In-from_Contains (definitions coding q moved) def in_defs)) there
