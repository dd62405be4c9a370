-- The keys that a key's definition reads are exactly those that its origin says.
use Rattle.std.proofs.Common.{◌≡◌, ℕ, zero, suc, ◌+◌, ◌-◌, ◌<◌, ◌≤◌, Bool, true, false, not, cond, List, [], ◌∷◌, ◌++◌, map, length, Option, Some}
use Rattle.std.proofs.Common.{None, refl, ap, sym, ◌∙◌, arith, inl, inr, ◌⊎◌, subst}
use Rattle.std.specs.Prelude.{slice_get, slice_index, flat_map, nat_lt, ◌==◌, ◌&&◌}
use Rattle.std.proofs.lemmas.Bool.{cond-true, cond-false, cond_both, cases_order, ltb-true, ltb-false, lt-ltb, le-ltb, eqb-true, eq-eqb, and_parts, and_from}
use Rattle.std.proofs.lemmas.Option.{slice_get_within}
use Rattle.net_model.specs.Form.{value}
use Rattle.net_model.specs.Netlist.{IsSound, IsGateInRange}
use Rattle.net_model.specs.Cycles.{reg_capture}
use Rattle.net_model.proofs.Members.{In, In-left, In-right, In-cases, In-from_Contains, Contains-from_In, In-map, from_map, from_flat}
use Rattle.net_model.proofs.Order.{not_yet, out_before}
use Rattle.net_model.proofs.Settling.{All-at}
use Rattle.net_model.specs.declared.netlist.Design.{Design}
use Rattle.net_model.specs.declared.netlist.Gate.{Gate}
use Rattle.net_model.specs.declared.netlist.Reg.{Reg}
use Rattle.net_model.specs.declared.invariants.InvClause.{InvClause}
use Rattle.query_model.specs.Keys.{key, lit, below}
use Rattle.query_model.specs.Reads.{bit_key, read_base}
use Rattle.net_model.specs.Queries.{Query, Breaks}
use Rattle.query_model.specs.Defined.{Definition, numbered, with_own, gate_definition, bit_definition, base_definitions, input_definition, unit}
use Rattle.query_model.specs.Defined.{unit_if, set_in}
use Rattle.query_model.specs.Formula.{Mentions, definitions, cycle_definitions, question_definitions}
use Rattle.query_model.proofs.Members.{below_less}
use Rattle.query_model.proofs.Needs.{base_in}
use Rattle.query_model.proofs.Based.{placed, in_place, from_numbered, in_numbered, from_unit_if}
use Rattle.query_model.specs.declared.keys.Key.{Key}
use Rattle.query_model.specs.declared.keys.KeyLit.{KeyLit}
use Rattle.query_model.specs.declared.keys.Coding.{Coding}
use Rattle.frame_unroll.specs.Counting.{counted}
use Rattle.frame_unroll.specs.Origins.{Uses, gate_of, of_gate, base_origin, gate_base, reg_base, reads_of_origin, clause_reads}
use Rattle.frame_unroll.specs.declared.origins.Origin.{Origin}
use Rattle.frame_unroll.specs.declared.origins.Origin.TheVariants.{Free, Gate as OfGate, Reg as OfReg}
use Rattle.frame_unroll.proofs.Saying.{Among, ReadsOf, plain_read, unit_read}

-- a key by its parts
pub key_at : (k : Key) (c l r p : ℕ) → c ≡ k.cycle → l ≡ k.layer → r ≡ k.rail → p ≡ k.point → key c l r p ≡ k
key_at k c l r p ec el er ep =
    ap (λ x. key x l r p) ec ∙ ap (λ x. key k.cycle x r p) el ∙ ap (λ x. key k.cycle k.layer x p) er ∙ ap (λ x. key k.cycle k.layer k.rail x) ep

-- a definition of the key reads the literal
pub use_by : (defs : List Definition) (def : Definition) (reads : List KeyLit) (k j : Key) → In def defs → In k def.outs → ReadsOf def reads
    → Among reads j → Uses defs k j
use_by defs def reads k j has out says a = (
  def,
  Contains-from_In defs def has,
  Contains-from_In def.outs k out,
  subst (Mentions def.clauses) a.2
      (says.given a.0 a.1),
)

-- two gates on one net are one
gates_apart : (d : Design) (i j : ℕ) (g h : Gate) → IsSound d → slice_get d.gates i ≡ Some g → slice_get d.gates j ≡ Some h → h.out ≡ g.out → j < i → ⊥
gates_apart d i j g h sound at_i at_j same lt =
    let range = All-at (IsGateInRange d) d.gates i g at_i sound.in_range.gates in
    not_yet d i g h.out sound at_i range.out (out_before d j i h lt at_j) same

pub gates_same : (d : Design) (i j : ℕ) (g h : Gate) → IsSound d → slice_get d.gates i ≡ Some g → slice_get d.gates j ≡ Some h → h.out ≡ g.out → j ≡ i
gates_same d i j g h sound at_i at_j same =
    elim (cases_order j i) [
      | inl e ↦ e
      | inr (inl less) ↦ absurd (gates_apart d i j g h sound at_i at_j same less)
      | inr (inr more) ↦ absurd (gates_apart d j i h g sound at_j at_i (sym same) more)
    ]

pub gate_found : (gs : List Gate) (s n i : ℕ) → gate_of gs s n ≡ Some i → (j : ℕ) × (g : Gate) × (i ≡ s + j) × (slice_get gs j ≡ Some g) × (g.out ≡ n)
gate_found [] s n i e = absurd cc
gate_found (g ∷ gs) s n i e = by_test (g.out == n) refl (gate_found gs (s + 1) n i) e
  where
    Found : List Gate → ℕ → Type 0
    Found hs t = (j : ℕ) × (h : Gate) × (i ≡ t + j) × (slice_get hs j ≡ Some h) × (h.out ≡ n)

    by_test : (b : Bool) → (g.out == n) ≡ b → (gate_of gs (s + 1) n ≡ Some i → Found gs (s + 1)) → cond b (Some s) (gate_of gs (s + 1) n) ≡ Some i
        → Found (g ∷ gs) s
    by_test true same rest at = let is : s ≡ i = cc in (0, g, omega (arith, is), refl, eqb-true g.out n same)
    by_test false apart rest at = let more = rest at in (suc more.0, more.1, omega (arith, more.2), more.3, more.4)

gate_there : (gs : List Gate) (s n j : ℕ) (g : Gate) → slice_get gs j ≡ Some g → g.out ≡ n → (i : ℕ) × (gate_of gs s n ≡ Some i)
gate_there [] s n j g at e = absurd cc
gate_there (h ∷ gs) s n zero g at e =
    let is : h ≡ g = cc in
    (s, cond-true (h.out == n) (Some s) (gate_of gs (s + 1) n) (eq-eqb h.out n (ap (λ (x : Gate). x.out) is ∙ e)))
gate_there (h ∷ gs) s n (suc j) g at e = cond_both (h.out == n) (Some s) (gate_of gs (s + 1) n) (λ o. (i : ℕ) × (o ≡ Some i)) (λ same. (s, refl))
    (λ apart. gate_there gs (s + 1) n j g at e)

-- the gate of its own net
pub gate_own : (d : Design) (i : ℕ) (g : Gate) → IsSound d → slice_get d.gates i ≡ Some g → gate_of d.gates 0 g.out ≡ Some i
gate_own d i g sound at =
    let there = gate_there d.gates 0 g.out i g at refl in
    let found = gate_found d.gates 0 g.out there.0 there.1 in
    let same : found.0 ≡ i = gates_same d i found.0 g found.1 sound at found.3 found.4 in
    let e : there.0 ≡ i = omega (arith, same, found.2) in
    there.1 ∙ ap Some e

-- the definitions of a cycle
base_of : (coding : Coding) (q : Query) (moved : List (List Bool)) (c : ℕ) (def : Definition) → c < q.cycles
    → In def (base_definitions coding q.design q.live c)
    → In def (definitions coding q moved)
base_of coding q moved c def lt has = base_in coding q moved c lt def has

zero_more : (r : ℕ) → 0 + r ≡ r
zero_more r = omega arith

gate_in : (coding : Coding) (d : Design) (live c i : ℕ) (g : Gate) → slice_get d.gates i ≡ Some g
    → In (gate_definition coding d c g) (base_definitions coding d live c)
gate_in coding d live c i g at =
    In-right (gate_definition coding d c g) (flat_map (input_definition d live c) (below (length d.inputs))) _
    (In-left (gate_definition coding d c g) (map (gate_definition coding d c) d.gates) _ (In-map (gate_definition coding d c) g d.gates
    (in_place g d.gates i at)))

bit_in : (coding : Coding) (d : Design) (live c r : ℕ) (reg : Reg) → slice_get d.regs r ≡ Some reg
    → In (bit_definition coding d c r reg) (base_definitions coding d live c)
bit_in coding d live c r reg at =
    In-right (bit_definition coding d c r reg) (flat_map (input_definition d live c) (below (length d.inputs))) _
    (In-right (bit_definition coding d c r reg) (map (gate_definition coding d c) d.gates) (numbered (bit_definition coding d c) 0 d.regs)
    (subst (λ (n : ℕ). In (bit_definition coding d c n reg) (numbered (bit_definition coding d c) 0 d.regs)) (zero_more r)
    (in_numbered (bit_definition coding d c) 0 d.regs r reg at)))

-- a register's bit in the cycle after
bit_at_next : (d : Design) (k : Key) (c r : ℕ) → c + 1 ≡ k.cycle → 0 ≡ k.layer → 0 ≡ k.rail → d.nets + r ≡ k.point → bit_key d (c + 1) r ≡ k
bit_at_next d k c r ec el er ep = key_at k (c + 1) 0 0 (d.nets + r) ec el er ep

-- the keys that a net or a bit reads are used
pub base_used : (coding : Coding) (q : Query) (moved : List (List Bool)) (k j : Key) → k.layer ≡ 0 → k.rail ≡ 0
    → Among (reads_of_origin coding q.design k (base_origin q.design q.cycles k)) j → Uses (definitions coding q moved) k j
base_used coding q moved k j layer rail =
    cond_both (nat_lt k.point d.nets) (cond (nat_lt k.cycle q.cycles) (of_gate (gate_of d.gates 0 k.point)) Free) bit_origin Goal
    (λ net. cond_both (nat_lt k.cycle q.cycles) (of_gate (gate_of d.gates 0 k.point)) Free Goal
    (λ early. of_net (ltb-true k.cycle q.cycles early) (gate_of d.gates 0 k.point) refl) (λ late a. absurd a.1))
    (λ past. cond_both (nat_lt 0 k.cycle && (nat_lt k.cycle (q.cycles + 1) && nat_lt k.point (d.nets + length d.regs))) (OfReg (k.point - d.nets)) Free Goal
    (λ says. let first = and_parts (nat_lt 0 k.cycle) (nat_lt k.cycle (q.cycles + 1) && nat_lt k.point (d.nets + length d.regs)) says in
    let second = and_parts (nat_lt k.cycle (q.cycles + 1)) (nat_lt k.point (d.nets + length d.regs)) first.1 in
    of_bit (ltb-false k.point d.nets past) (ltb-true 0 k.cycle first.0) (ltb-true k.cycle (q.cycles + 1) second.0)
    (slice_get d.regs (k.point - d.nets)) refl) (λ no_bit a. absurd a.1))
  where
    d : Design
    d = q.design

    Goal : Origin → Type 0
    Goal origin = Among (reads_of_origin coding d k origin) j → Uses (definitions coding q moved) k j

    bit_origin : Origin
    bit_origin = cond (nat_lt 0 k.cycle && (nat_lt k.cycle (q.cycles + 1) && nat_lt k.point (d.nets + length d.regs))) (OfReg (k.point - d.nets)) Free

    of_gate_at : (i : ℕ) (g : Gate) → k.cycle < q.cycles → slice_get d.gates i ≡ Some g → g.out ≡ k.point
        → Among (counted coding (value g.func) (map (read_base d k.cycle) g.ins)) j → Uses (definitions coding q moved) k j
    of_gate_at i g lt at out a =
        use_by (definitions coding q moved) (gate_definition coding d k.cycle g)
        (counted coding (value g.func) (map (read_base d k.cycle) g.ins)) k j
        (base_of coding q moved k.cycle (gate_definition coding d k.cycle g) lt (gate_in coding d q.live k.cycle i g at))
        (inl (key_at k k.cycle 0 0 g.out refl (sym layer) (sym rail) out))
        (plain_read coding (value g.func) (map (read_base d k.cycle) g.ins) (key k.cycle 0 0 g.out)) a

    of_net : k.cycle < q.cycles → (o : Option ℕ) → gate_of d.gates 0 k.point ≡ o → Goal (of_gate o)
    of_net lt None at a = absurd a.1
    of_net lt (Some i) at a =
        let found = gate_found d.gates 0 k.point i at in
        let place : i ≡ found.0 = omega (arith, found.2) in
        let there : slice_get d.gates i ≡ Some found.1 = ap (slice_get d.gates) place ∙ found.3 in
        of_gate_at i found.1 lt there found.4 (subst (λ (o : Option Gate). Among (gate_base coding d k.cycle o) j) there a)

    of_bit : d.nets ≤ k.point → 0 < k.cycle → k.cycle < q.cycles + 1 → (o : Option Reg) → slice_get d.regs (k.point - d.nets) ≡ o
        → Goal (OfReg (k.point - d.nets))
    of_bit past some few None at a = absurd (subst (λ (o : Option Reg). Among (reg_base coding d (k.cycle - 1) (k.point - d.nets) o) j) at a).1
    of_bit past some few (Some reg) at a =
        let c : ℕ = k.cycle - 1 in
        let r : ℕ = k.point - d.nets in
        let reads : List KeyLit = with_own reg (lit true (bit_key d c r)) (map (read_base d c) reg.ins) in
        let next : c + 1 ≡ k.cycle = omega (arith, some) in
        let point : d.nets + r ≡ k.point = omega (arith, past) in
        let lt : c < q.cycles = omega (arith, some, few) in
        use_by (definitions coding q moved) (bit_definition coding d c r reg) (counted coding (reg_capture reg) reads) k j
        (base_of coding q moved c (bit_definition coding d c r reg) lt (bit_in coding d q.live c r reg at))
        (inl (bit_at_next d k c r next (sym layer) (sym rail) point)) (plain_read coding (reg_capture reg) reads (bit_key d (c + 1) r))
        (subst (λ (o : Option Reg). Among (reg_base coding d c r o) j) at a)

-- what a definition of a net or a bit tells of its key
pub record BaseUse (coding : Coding) (d : Design) (cycles : ℕ) (k j : Key) : Type 0 where
  pub layer : k.layer ≡ 0
  pub rail : k.rail ≡ 0
  pub point : k.point < d.nets + length d.regs
  pub only : (j ≡ k) ⊎ Among (reads_of_origin coding d k (base_origin d cycles k)) j

gate_origin : (d : Design) (cycles c i : ℕ) (g : Gate) → IsSound d → c < cycles → slice_get d.gates i ≡ Some g
    → base_origin d cycles (key c 0 0 g.out) ≡ OfGate i
gate_origin d cycles c i g sound lt at =
    let range = All-at (IsGateInRange d) d.gates i g at sound.in_range.gates in
    cond-true (nat_lt g.out d.nets) _ _ (lt-ltb g.out d.nets range.out) ∙ cond-true (nat_lt c cycles) _ _ (lt-ltb c cycles lt)
    ∙ ap of_gate (gate_own d i g sound at)

bit_origin_is : (d : Design) (cycles c r : ℕ) → c < cycles → r < length d.regs → base_origin d cycles (bit_key d (c + 1) r) ≡ OfReg r
bit_origin_is d cycles c r lt low =
    let place : d.nets + r - d.nets ≡ r = omega arith in
    cond-false (nat_lt (d.nets + r) d.nets) _ _ (le-ltb (d.nets + r) d.nets (omega arith))
    ∙ cond-true (nat_lt 0 (c + 1) && (nat_lt (c + 1) (cycles + 1) && nat_lt (d.nets + r) (d.nets + length d.regs))) _ _
    (and_from _ _ (lt-ltb 0 (c + 1) (omega arith)) (and_from _ _ (lt-ltb (c + 1) (cycles + 1) (omega (arith, lt)))
    (lt-ltb (d.nets + r) (d.nets + length d.regs) (omega (arith, low)))))
    ∙ ap OfReg place

-- a key that defines itself alone
unit_use : (coding : Coding) (d : Design) (cycles : ℕ) (v : Bool) (out k j : Key) → out.layer ≡ 0 → out.rail ≡ 0 → out.point < d.nets → out ≡ k
    → Mentions (unit v out).clauses j → BaseUse coding d cycles k j
unit_use coding d cycles v out k j layer rail low same m =
    record {
      layer = ap (λ (x : Key). x.layer) (sym same) ∙ layer;
      rail = ap (λ (x : Key). x.rail) (sym same) ∙ rail;
      point = let e : k.point ≡ out.point = ap (λ (x : Key). x.point) (sym same) in omega (arith, e, low);
      only = elim ((unit_read v out).only j m) [
        | inl is ↦ elim is [ inl here ↦ inl (sym here ∙ same) | inr none ↦ absurd none ]
        | inr none ↦ absurd none.1
      ];
    }

gate_use : (coding : Coding) (d : Design) (cycles c i : ℕ) (g : Gate) (k j : Key) → IsSound d → c < cycles → slice_get d.gates i ≡ Some g → key c 0 0 g.out ≡ k
    → Mentions (gate_definition coding d c g).clauses j → BaseUse coding d cycles k j
gate_use coding d cycles c i g k j sound lt at same m = subst (λ (x : Key). BaseUse coding d cycles x j) same whole
  where
    own : Key
    own = key c 0 0 g.out

    range : IsGateInRange d g
    range = All-at (IsGateInRange d) d.gates i g at sound.in_range.gates

    read : Among (counted coding (value g.func) (map (read_base d c) g.ins)) j → Among (reads_of_origin coding d own (base_origin d cycles own)) j
    read a = subst (λ (o : Origin). Among (reads_of_origin coding d own o) j) (sym (gate_origin d cycles c i g sound lt at))
        (subst (λ (o : Option Gate). Among (gate_base coding d c o) j) (sym at) a)

    whole : BaseUse coding d cycles own j
    whole =
        record {
          layer = refl;
          rail = refl;
          point = omega (arith, range.out);
          only = elim ((plain_read coding (value g.func) (map (read_base d c) g.ins) own).only j m) [
            | inl is ↦ elim is [ inl here ↦ inl (sym here) | inr none ↦ absurd none ]
            | inr a ↦ inr (read a)
          ];
        }

bit_use : (coding : Coding) (d : Design) (cycles c r : ℕ) (reg : Reg) (k j : Key) → c < cycles → slice_get d.regs r ≡ Some reg → bit_key d (c + 1) r ≡ k
    → Mentions (bit_definition coding d c r reg).clauses j → BaseUse coding d cycles k j
bit_use coding d cycles c r reg k j lt at same m = subst (λ (x : Key). BaseUse coding d cycles x j) same whole
  where
    own : Key
    own = bit_key d (c + 1) r

    low : r < length d.regs
    low = slice_get_within d.regs r reg at

    reads : List KeyLit
    reads = with_own reg (lit true (bit_key d c r)) (map (read_base d c) reg.ins)

    before : c ≡ c + 1 - 1
    before = omega arith

    read : Among (counted coding (reg_capture reg) reads) j → Among (reads_of_origin coding d own (base_origin d cycles own)) j
    read a =
        subst (λ (o : Origin). Among (reads_of_origin coding d own o) j) (sym (bit_origin_is d cycles c r lt low))
        (subst (λ (n : ℕ). Among (reg_base coding d n r (slice_get d.regs r)) j) before (subst (λ (o : Option Reg). Among (reg_base coding d c r o) j)
        (sym at) a))

    whole : BaseUse coding d cycles own j
    whole =
        record {
          layer = refl;
          rail = refl;
          point = omega (arith, low);
          only = elim ((plain_read coding (reg_capture reg) reads own).only j m) [
            | inl is ↦ elim is [ inl here ↦ inl (sym here) | inr none ↦ absurd none ]
            | inr a ↦ inr (read a)
          ];
        }

-- the definitions of a cycle define nets and bits alone
pub base_use : (coding : Coding) (d : Design) (live cycles c : ℕ) (def : Definition) (k j : Key) → IsSound d → c < cycles
    → In def (base_definitions coding d live c)
    → In k def.outs → Mentions def.clauses j → BaseUse coding d cycles k j
base_use coding d live cycles c def k j sound lt has out m =
    elim (In-cases def (flat_map (input_definition d live c) (below (length d.inputs)))
    (map (gate_definition coding d c) d.gates ++ numbered (bit_definition coding d c) 0 d.regs) has) [
      | inl of_input ↦
          let at = from_flat (input_definition d live c) def (below (length d.inputs)) of_input in
          let i = at.0 in
          let net = key c 0 0 (slice_index d.inputs i) in
          let low : slice_index d.inputs i < d.nets = sound.in_range.inputs i 0 (below_less (length d.inputs) i at.1) in
          elim (In-cases def (unit_if (set_in d.fixed i) false net) (unit_if (set_in d.resets i) (not (nat_lt c live)) net) at.2) [
            | inl fixed ↦ let is = from_unit_if def (set_in d.fixed i) false net fixed in of_unit _ (slice_index d.inputs i) low is.2
            | inr reset ↦ let is = from_unit_if def (set_in d.resets i) (not (nat_lt c live)) net reset in of_unit _ (slice_index d.inputs i) low is.2
          ]
      | inr rest ↦ elim (In-cases def (map (gate_definition coding d c) d.gates) (numbered (bit_definition coding d c) 0 d.regs) rest) [
        | inl of_gates ↦
            let of = from_map (gate_definition coding d c) def d.gates of_gates in
            let place = placed of.0 d.gates of.1 in
            gate_use coding d cycles c place.0 of.0 k j sound lt place.1 (single (key c 0 0 of.0.out)
            (subst (λ (x : Definition). In k x.outs) (sym of.2) out)) (subst (λ (x : Definition). Mentions x.clauses j) (sym of.2) m)
        | inr of_regs ↦
            let of = from_numbered (bit_definition coding d c) def 0 d.regs of_regs in
            let place : 0 + of.0 ≡ of.0 = omega arith in
            let is : bit_definition coding d c of.0 of.1 ≡ def = ap (λ (n : ℕ). bit_definition coding d c n of.1) (sym place) ∙ of.3 in
            bit_use coding d cycles c of.0 of.1 k j lt of.2 (single (bit_key d (c + 1) of.0) (subst (λ (x : Definition). In k x.outs) (sym is) out))
            (subst (λ (x : Definition). Mentions x.clauses j) (sym is) m)
      ]
    ]
  where
    single : (z : Key) → In k (z ∷ []) → z ≡ k
    single z (inl here) = here
    single z (inr none) = absurd none

    of_unit : (v : Bool) (n : ℕ) → n < d.nets → unit v (key c 0 0 n) ≡ def → BaseUse coding d cycles k j
    of_unit v n low is = unit_use coding d cycles v (key c 0 0 n) k j refl refl low
        (single (key c 0 0 n) (subst (λ (x : Definition). In k x.outs) (sym is) out)) (subst (λ (x : Definition). Mentions x.clauses j) (sym is) m)

-- where a clause over register bits is asked about
pub clause_reads_used : (coding : Coding) (q : Query) (clause : InvClause) (moved : List (List Bool)) → q.question ≡ Breaks clause → (k : Key) (l : KeyLit)
    → In l (clause_reads coding q.design q.cycles k) → Uses (definitions coding q moved) k l.key
clause_reads_used coding q clause moved asks k l has =
    cond_both ((k.layer == 0) && (k.rail == 0)) (base_origin q.design q.cycles k) Free (λ origin. Among (reads_of_origin coding q.design k origin) l.key
    → Uses (definitions coding q moved) k l.key)
    (λ both. let parts = and_parts (k.layer == 0) (k.rail == 0) both in base_used coding q moved k l.key (eqb-true k.layer 0 parts.0)
    (eqb-true k.rail 0 parts.1)) (λ other a. absurd a.1) (l, has, refl)

pub clause_used_read : (coding : Coding) (q : Query) (clause : InvClause) (moved : List (List Bool)) → IsSound q.design → q.question ≡ Breaks clause
    → (k j : Key)
    → Uses (definitions coding q moved) k j → (j ≡ k) ⊎ Among (clause_reads coding q.design q.cycles k) j
clause_used_read coding q clause moved sound asks k j (def, has, out, m) =
    let at = from_flat (cycle_definitions coding q moved) def (below q.cycles) (In-from_Contains (definitions coding q moved) def has) in
    let in_base : In def (base_definitions coding q.design q.live at.0) =
    elim (In-cases def (base_definitions coding q.design q.live at.0) (question_definitions coding q.design moved q.question at.0) at.2) [
      | inl base ↦ base
      | inr of_question ↦ absurd (subst (λ w. In def (question_definitions coding q.design moved w at.0)) asks of_question)
    ] in
    let used = base_use coding q.design q.live q.cycles at.0 def k j sound (below_less q.cycles at.0 at.1) in_base (In-from_Contains def.outs k out) m in
    elim used.only [
      | inl same ↦ inl same
      | inr a ↦
          let both : ((k.layer == 0) && (k.rail == 0)) ≡ true = and_from (k.layer == 0) (k.rail == 0) (eq-eqb k.layer 0 used.layer)
          (eq-eqb k.rail 0 used.rail) in
          inr (subst (λ (o : Origin). Among (reads_of_origin coding q.design k o) j)
          (sym (cond-true ((k.layer == 0) && (k.rail == 0)) (base_origin q.design q.cycles k) Free both)) a)
    ]
