-- A used key is one that the key's definition reads, or the key itself.
use Rattle.std.proofs.Common.{◌≡◌, ℕ, zero, suc, ◌+◌, ◌-◌, ◌<◌, Bool, true, false, not, cond, List, [], ◌∷◌, ◌++◌, length, Option, Some, None, refl}
use Rattle.std.proofs.Common.{ap, sym, ◌∙◌, arith, inl, inr, ◌⊎◌, subst}
use Rattle.std.specs.Prelude.{slice_get, flat_map, filter, nat_lt, ◌==◌, ◌&&◌}
use Rattle.std.proofs.lemmas.Bool.{cond-true, cond-false, cases_Bool, lt-ltb, le-ltb, eq-eqb, and_from, or_left, or_right, not_from_true, not_from_false}
use Rattle.net_model.specs.Form.{value}
use Rattle.net_model.specs.Netlist.{IsSound, IsGateInRange}
use Rattle.net_model.specs.Fits.{Fits}
use Rattle.net_model.specs.Judge.{judged_count}
use Rattle.net_model.specs.Cycles.{reg_capture}
use Rattle.net_model.proofs.Members.{In, In-cases, In-from_Contains, from_map, from_flat}
use Rattle.net_model.proofs.Settling.{All-at}
use Rattle.net_model.specs.declared.netlist.Design.{Design}
use Rattle.net_model.specs.declared.netlist.Gate.{Gate}
use Rattle.net_model.specs.declared.netlist.Reg.{Reg}
use Rattle.net_model.specs.declared.claims.Claim.{Claim}
use Rattle.net_model.specs.declared.claims.End.{End}
use Rattle.net_model.specs.declared.claims.End.TheVariants.{Reg as RegEnd, Output as OutputEnd}
use Rattle.query_model.specs.Keys.{key, lit, below}
use Rattle.query_model.specs.Reads.{is_start_net}
use Rattle.net_model.specs.Queries.{Query, Violates}
use Rattle.query_model.specs.Defined.{Definition, numbered, exclusive, base_definitions, unit, has_own, layer_gate, start_units, layer_definitions}
use Rattle.query_model.specs.Defined.{late_key, late_reg, end_definition, start_lit, capture_lit, extra, change_key, stale_key}
use Rattle.query_model.specs.Defined.{toggle_definition, differ_definition, stale_definition, extra_definitions, claim_definitions}
use Rattle.query_model.specs.Defined.{gate_reads, plain_gate, rails_gate, reg_reads, plain_reg, rails_reg}
use Rattle.query_model.specs.Formula.{Mentions, definitions, cycle_definitions, question_definitions}
use Rattle.query_model.proofs.Members.{below_less}
use Rattle.query_model.proofs.Based.{from_numbered}
use Rattle.query_model.specs.declared.keys.Key.{Key}
use Rattle.query_model.specs.declared.keys.KeyLit.{KeyLit}
use Rattle.query_model.specs.declared.keys.Coding.{Coding}
use Rattle.frame_unroll.specs.Counting.{counted}
use Rattle.frame_unroll.specs.Origins.{Uses, gate_of, of_gate, base_origin, extra_origin, end_origin, has_rail, late_origin, layer_origin}
use Rattle.frame_unroll.specs.Origins.{claim_origin, reads_of_origin, gate_late, reg_late, late_reads, reads_in_layer, claim_reads}
use Rattle.frame_unroll.specs.Pairs.{reads_of, toggle_pair, differ_pair}
use Rattle.frame_unroll.specs.declared.origins.Origin.{Origin}
use Rattle.frame_unroll.specs.declared.origins.Origin.TheVariants.{Free, Stale}
use Rattle.frame_unroll.proofs.Saying.{Among, Among-left, Among-right, ReadsOf, plain_read, rails_reads, unit_read, exclusive_read}
use Rattle.frame_unroll.proofs.Using.{gate_own, base_use}
use Rattle.frame_unroll.proofs.Paired.{toggle_says, toggle_outs, differ_says, differ_outs}
use Rattle.frame_unroll.proofs.UsingLate.{zero_more, gate_layer, gate_says, reg_says, reg_counted, reg_listed, earlier, base_level}

-- the key itself, or one that its definition reads
abbrev IsRead : Coding → Design → Claim → List (List Bool) → ℕ → Key → Key → Type 0
IsRead coding d claim moved cycles k j = (j ≡ k) ⊎ Among (claim_reads coding d claim moved cycles k) j

single : (k z : Key) → In k (z ∷ []) → z ≡ k
single k z (inl here) = here
single k z (inr none) = absurd none

-- of a net or a bit
from_base : (coding : Coding) (d : Design) (claim : Claim) (moved : List (List Bool)) (live cycles c : ℕ) (def : Definition) (k j : Key) → IsSound d
    → c < cycles
    → In def (base_definitions coding d live c) → In k def.outs → Mentions def.clauses j → IsRead coding d claim moved cycles k j
from_base coding d claim moved live cycles c def k j sound lt has out m =
    let used = base_use coding d live cycles c def k j sound lt has out m in
    let origin : claim_origin d claim moved cycles k ≡ base_origin d cycles k =
    ap (layer_origin d claim moved cycles k) used.layer ∙ cond-false (not (k.rail == 0)) Free _ (not_from_true (k.rail == 0) (eq-eqb k.rail 0 used.rail))
    ∙ cond-true (nat_lt k.point (d.nets + length d.regs)) (base_origin d cycles k) _ (lt-ltb k.point (d.nets + length d.regs) used.point) in
    let reads : claim_reads coding d claim moved cycles k ≡ reads_of_origin coding d k (base_origin d cycles k) =
    ap (λ (o : Origin). reads_in_layer coding d claim moved k k.layer o) origin ∙ ap (λ (n : ℕ). reads_in_layer coding d claim moved k n
    (base_origin d cycles k))
    used.layer ∙ base_level coding d claim moved cycles k in
    elim used.only [ inl same ↦ inl same | inr a ↦ inr (subst (λ (ls : List KeyLit). Among ls j) (sym reads) a) ]

-- what a late key reads, where its layer has it
late_eval : (coding : Coding) (d : Design) (claim : Claim) (moved : List (List Bool)) (cycles c l rail p : ℕ) → c < cycles → l < length claim.through + 1
    → has_rail claim rail ≡ true → claim_reads coding d claim moved cycles (key c (suc l) rail p) ≡ late_reads coding d claim moved (key c (suc l) rail p) l
    (late_origin d claim moved l (key c (suc l) rail p))
late_eval coding d claim moved cycles c l rail p early low on =
    ap (late_reads coding d claim moved (key c (suc l) rail p) l)
    (cond-true (nat_lt c cycles && (nat_lt l (length claim.through + 1) && has_rail claim rail)) (late_origin d claim moved l (key c (suc l) rail p)) Free
    (and_from (nat_lt c cycles) (nat_lt l (length claim.through + 1) && has_rail claim rail) (lt-ltb c cycles early)
    (and_from (nat_lt l (length claim.through + 1)) (has_rail claim rail) (lt-ltb l (length claim.through + 1) low) on)))

gate_eval : (coding : Coding) (d : Design) (claim : Claim) (moved : List (List Bool)) (cycles c l rail i : ℕ) (g : Gate) → IsSound d → c < cycles
    → l < length claim.through + 1 → has_rail claim rail ≡ true → slice_get d.gates i ≡ Some g → has_own claim moved l g.out ≡ true
    → claim_reads coding d claim moved cycles (key c (suc l) rail g.out) ≡ gate_late coding d claim moved c l i (Some g)
gate_eval coding d claim moved cycles c l rail i g sound early low on at own =
    let range = All-at (IsGateInRange d) d.gates i g at sound.in_range.gates in
    late_eval coding d claim moved cycles c l rail g.out early low on
    ∙ ap (late_reads coding d claim moved (key c (suc l) rail g.out) l)
    (cond-true (nat_lt g.out d.nets) (cond (has_own claim moved l g.out) (of_gate (gate_of d.gates 0 g.out)) Free) _ (lt-ltb g.out d.nets range.out)
    ∙ cond-true (has_own claim moved l g.out) (of_gate (gate_of d.gates 0 g.out)) Free own ∙ ap of_gate (gate_own d i g sound at))
    ∙ ap (gate_late coding d claim moved c l i) at

reg_eval : (coding : Coding) (d : Design) (claim : Claim) (moved : List (List Bool)) (cycles c rail r : ℕ) (reg : Reg) → c < cycles → has_rail claim rail ≡ true
    → claim.end ≡ RegEnd r → slice_get d.regs r ≡ Some reg
    → claim_reads coding d claim moved cycles (late_key d claim c rail) ≡ reg_late coding d claim moved c r (Some reg)
reg_eval coding d claim moved cycles c rail r reg early on is at =
    let last : ℕ = length claim.through in
    let p : ℕ = d.nets + length d.regs in
    let k : Key = key c (suc last) rail p in
    let layer : last + 1 ≡ suc last = omega arith in
    ap (λ (n : ℕ). claim_reads coding d claim moved cycles (key c n rail p)) layer ∙ late_eval coding d claim moved cycles c last rail p early (omega arith) on
    ∙ ap (late_reads coding d claim moved k last)
    (cond-false (nat_lt p d.nets) _ (cond ((p == d.nets + length d.regs) && (last == length claim.through)) (end_origin claim.end) Free)
    (le-ltb p d.nets (omega arith))
    ∙ cond-true ((p == d.nets + length d.regs) && (last == length claim.through)) (end_origin claim.end) Free
    (and_from (p == d.nets + length d.regs) (last == length claim.through) (eq-eqb p (d.nets + length d.regs) refl)
    (eq-eqb last (length claim.through) refl))
    ∙ ap end_origin is)
    ∙ ap (reg_late coding d claim moved c r) at

on_low : (claim : Claim) → has_rail claim 0 ≡ true
on_low claim = or_left (0 == 0) (claim.hazard && (0 == 1)) (eq-eqb 0 0 refl)

on_high : (claim : Claim) → claim.hazard ≡ true → has_rail claim 1 ≡ true
on_high claim hazard = or_right (1 == 0) (claim.hazard && (1 == 1)) (and_from claim.hazard (1 == 1) hazard (eq-eqb 1 1 refl))

-- a definition of both rails: what it mentions is read, its own keys too
from_both : (coding : Coding) (d : Design) (claim : Claim) (moved : List (List Bool)) (cycles : ℕ) (def : Definition) (hs ls : List KeyLit) (high low k j : Key)
    → def.outs ≡ high ∷ low ∷ [] → ReadsOf def (rails_reads hs ls high low)
    → ((j : Key) → Among (rails_reads hs ls high low) j → Among (claim_reads coding d claim moved cycles k) j) → Mentions def.clauses j
    → IsRead coding d claim moved cycles k j
from_both coding d claim moved cycles def hs ls high low k j outs says reads m = inr (reads j (by_part (says.only j m)))
  where
    by_out : In j (high ∷ low ∷ []) → Among (rails_reads hs ls high low) j
    by_out (inl is) = Among-left (hs ++ lit true high ∷ []) (ls ++ lit true low ∷ []) j (Among-right hs (lit true high ∷ []) j (lit true high, inl refl, is))
    by_out (inr (inl is)) = Among-right (hs ++ lit true high ∷ []) (ls ++ lit true low ∷ []) j
        (Among-right ls (lit true low ∷ []) j (lit true low, inl refl, is))
    by_out (inr (inr none)) = absurd none

    by_part : In j def.outs ⊎ Among (rails_reads hs ls high low) j → Among (rails_reads hs ls high low) j
    by_part (inl out) = by_out (subst (In j) outs out)
    by_part (inr a) = a

-- a definition of one key
from_one : (coding : Coding) (d : Design) (claim : Claim) (moved : List (List Bool)) (cycles : ℕ) (def : Definition) (reads : List KeyLit) (out k j : Key)
    → def.outs ≡ out ∷ [] → ReadsOf def reads → (Among reads j → Among (claim_reads coding d claim moved cycles out) j) → In k def.outs
    → Mentions def.clauses j → IsRead coding d claim moved cycles k j
from_one coding d claim moved cycles def reads out k j outs says read has m =
    let same : out ≡ k = single k out (subst (In k) outs has) in
    subst (λ (x : Key). IsRead coding d claim moved cycles x j) same
    (elim (says.only j m) [
      | inl own ↦ inl (sym (single j out (subst (In j) outs own)))
      | inr a ↦ inr (read a)
    ])

-- one of two rails' keys
of_two : (coding : Coding) (d : Design) (claim : Claim) (moved : List (List Bool)) (cycles : ℕ) (x y k j : Key) → In k (x ∷ y ∷ [])
    → IsRead coding d claim moved cycles x j
    → IsRead coding d claim moved cycles y j → IsRead coding d claim moved cycles k j
of_two coding d claim moved cycles x y k j (inl same) a b = subst (λ (z : Key). IsRead coding d claim moved cycles z j) same a
of_two coding d claim moved cycles x y k j (inr (inl same)) a b = subst (λ (z : Key). IsRead coding d claim moved cycles z j) same b
of_two coding d claim moved cycles x y k j (inr (inr none)) a b = absurd none

-- of a gate's net in a layer
from_gate : (coding : Coding) (d : Design) (claim : Claim) (moved : List (List Bool)) (cycles c l i : ℕ) (g : Gate) (def : Definition) (k j : Key) → IsSound d
    → c < cycles → l < length claim.through + 1 → slice_get d.gates i ≡ Some g → In def (layer_gate coding d claim moved c l i g) → In k def.outs
    → Mentions def.clauses j → IsRead coding d claim moved cycles k j
from_gate coding d claim moved cycles c l i g def k j sound early low at has out m =
    elim (cases_Bool (has_own claim moved l g.out)) [
      | inl own ↦ by_mode own claim.hazard refl (subst (In def) (gate_layer coding d claim moved c l i g own) has)
      | inr other ↦ absurd (subst (In def) (cond-true (not (has_own claim moved l g.out)) [] _ (not_from_false (has_own claim moved l g.out) other)) has)
    ]
  where
    pins : ℕ → List KeyLit
    pins n = gate_reads d claim moved c (suc l) n i g

    counts : ℕ → List KeyLit
    counts n = counted coding (value g.func) (pins n)

    own_key : ℕ → Key
    own_key n = key c (suc l) n g.out

    f : ℕ → List KeyLit
    f n = counts n ++ lit true (own_key n) ∷ []

    eval : (rail : ℕ) → has_rail claim rail ≡ true → has_own claim moved l g.out ≡ true
        → claim_reads coding d claim moved cycles (own_key rail) ≡ gate_late coding d claim moved c l i (Some g)
    eval rail on own = gate_eval coding d claim moved cycles c l rail i g sound early low on at own

    of_plain : has_own claim moved l g.out ≡ true → plain_gate coding d claim moved c (suc l) i g ≡ def → IsRead coding d claim moved cycles k j
    of_plain own is =
        from_one coding d claim moved cycles (plain_gate coding d claim moved c (suc l) i g) (counts 0) (own_key 0) k j refl
        (plain_read coding (value g.func) (pins 0) (own_key 0))
        (λ a. subst (λ (ls : List KeyLit). Among ls j) (sym (eval 0 (on_low claim) own))
        (Among-left (f 0) _ j (Among-left (counts 0) (lit true (own_key 0) ∷ []) j a)))
        (subst (λ (x : Definition). In k x.outs) (sym is) out) (subst (λ (x : Definition). Mentions x.clauses j) (sym is) m)

    on_key : (rail : ℕ) → has_own claim moved l g.out ≡ true → claim.hazard ≡ true → has_rail claim rail ≡ true
        → Mentions (rails_gate coding d claim moved c (suc l) i g).clauses j → IsRead coding d claim moved cycles (own_key rail) j
    on_key rail own hazard on said =
        from_both coding d claim moved cycles (rails_gate coding d claim moved c (suc l) i g) (counts 0) (counts 1)
        (own_key 0) (own_key 1) (own_key rail) j refl
        (gate_says coding d claim moved c l i g)
        (λ z a. subst (λ (ls : List KeyLit). Among ls z) (sym (eval rail on own)) (subst (λ h. Among (f 0 ++ cond h (f 1) []) z) (sym hazard) a)) said

    of_rails : has_own claim moved l g.out ≡ true → claim.hazard ≡ true → rails_gate coding d claim moved c (suc l) i g ≡ def
        → IsRead coding d claim moved cycles k j
    of_rails own hazard is =
        let said = subst (λ (x : Definition). Mentions x.clauses j) (sym is) m in
        of_two coding d claim moved cycles (own_key 0) (own_key 1) k j (subst (λ (x : Definition). In k x.outs) (sym is) out)
        (on_key 0 own hazard (on_low claim) said) (on_key 1 own hazard (on_high claim hazard) said)

    by_mode : has_own claim moved l g.out ≡ true → (h : Bool) → claim.hazard ≡ h
        → In def (cond h (rails_gate coding d claim moved c (suc l) i g ∷ []) (plain_gate coding d claim moved c (suc l) i g ∷ []))
        → IsRead coding d claim moved cycles k j
    by_mode own true hazard (inl is) = of_rails own hazard is
    by_mode own true hazard (inr none) = absurd none
    by_mode own false plain_mode (inl is) = of_plain own is
    by_mode own false plain_mode (inr none) = absurd none

-- of a start's net, which is known
from_start : (d : Design) (claim : Claim) (c l : ℕ) (def : Definition) (k j : Key) → In def (start_units d claim c l) → In k def.outs
    → Mentions def.clauses j → j ≡ k
from_start d claim c (suc l) def k j has out m = absurd has
from_start d claim c zero def k j has out m = by_mode claim.hazard has
  where
    two : ℕ → List Definition
    two n = unit true (key c 1 0 n) ∷ unit true (key c 1 1 n) ∷ []

    of_unit : (z : Key) → unit true z ≡ def → j ≡ k
    of_unit z is =
        let same = single k z (subst (λ (x : Definition). In k x.outs) (sym is) out) in
        elim ((unit_read true z).only j (subst (λ (x : Definition). Mentions x.clauses j) (sym is) m)) [
          | inl own ↦ sym (single j z own) ∙ same
          | inr none ↦ absurd none.1
        ]

    by_net : (n : ℕ) → In def (two n) → j ≡ k
    by_net n (inl is) = of_unit (key c 1 0 n) is
    by_net n (inr (inl is)) = of_unit (key c 1 1 n) is
    by_net n (inr (inr none)) = absurd none

    by_mode : (h : Bool) → In def (cond h (flat_map two (filter (is_start_net d claim) (below d.nets))) []) → j ≡ k
    by_mode true there = let at = from_flat two def (filter (is_start_net d claim) (below d.nets)) there in by_net at.0 at.2
    by_mode false there = absurd there

-- of the late capture
from_end : (coding : Coding) (d : Design) (claim : Claim) (moved : List (List Bool)) (cycles c : ℕ) (def : Definition) (k j : Key) → IsSound d → c < cycles
    → (e : End)
    → claim.end ≡ e → In def (end_definition coding d claim moved c e) → In k def.outs → Mentions def.clauses j → IsRead coding d claim moved cycles k j
from_end coding d claim moved cycles c def k j sound early (OutputEnd o) is has out m = absurd has
from_end coding d claim moved cycles c def k j sound early (RegEnd r) is has out m = by_reg (slice_get d.regs r) refl has
  where
    own_key : ℕ → Key
    own_key n = late_key d claim c n

    of_plain : (reg : Reg) → slice_get d.regs r ≡ Some reg → plain_reg coding d claim moved c r reg ≡ def → IsRead coding d claim moved cycles k j
    of_plain reg at same =
        from_one coding d claim moved cycles (plain_reg coding d claim moved c r reg) (reg_counted coding d claim moved c r reg 0) (own_key 0) k j refl
        (plain_read coding (reg_capture reg) (reg_reads d claim moved c 0 true r reg) (own_key 0))
        (λ a. subst (λ (ls : List KeyLit). Among ls j) (sym (reg_eval coding d claim moved cycles c 0 r reg early (on_low claim) is at))
        (Among-left (reg_listed coding d claim moved c r reg 0) _ j (Among-left (reg_counted coding d claim moved c r reg 0) (lit true (own_key 0) ∷ []) j
        a)))
        (subst (λ (x : Definition). In k x.outs) (sym same) out) (subst (λ (x : Definition). Mentions x.clauses j) (sym same) m)

    on_key : (reg : Reg) (rail : ℕ) → slice_get d.regs r ≡ Some reg → claim.hazard ≡ true → has_rail claim rail ≡ true
        → Mentions (rails_reg coding d claim moved c r reg).clauses j → IsRead coding d claim moved cycles (own_key rail) j
    on_key reg rail at hazard on said =
        from_both coding d claim moved cycles (rails_reg coding d claim moved c r reg) (reg_counted coding d claim moved c r reg 0)
        (reg_counted coding d claim moved c r reg 1) (own_key 0) (own_key 1) (own_key rail) j refl (reg_says coding d claim moved c r reg)
        (λ z a. subst (λ (ls : List KeyLit). Among ls z) (sym (reg_eval coding d claim moved cycles c rail r reg early on is at))
        (subst (λ h. Among (reg_listed coding d claim moved c r reg 0 ++ cond h (reg_listed coding d claim moved c r reg 1) []) z) (sym hazard) a)) said

    by_mode : (reg : Reg) → slice_get d.regs r ≡ Some reg → (h : Bool) → claim.hazard ≡ h
        → In def (cond h (rails_reg coding d claim moved c r reg ∷ []) (plain_reg coding d claim moved c r reg ∷ [])) → IsRead coding d claim moved cycles k j
    by_mode reg at true hazard (inl same) =
        let said = subst (λ (x : Definition). Mentions x.clauses j) (sym same) m in
        of_two coding d claim moved cycles (own_key 0) (own_key 1) k j (subst (λ (x : Definition). In k x.outs) (sym same) out)
        (on_key reg 0 at hazard (on_low claim) said) (on_key reg 1 at hazard (on_high claim hazard) said)
    by_mode reg at true hazard (inr none) = absurd none
    by_mode reg at false plain_mode (inl same) = of_plain reg at same
    by_mode reg at false plain_mode (inr none) = absurd none

    by_reg : (o : Option Reg) → slice_get d.regs r ≡ o → In def (late_reg coding d claim moved c r o) → IsRead coding d claim moved cycles k j
    by_reg None at there = absurd there
    by_reg (Some reg) at there = by_mode reg at claim.hazard refl there

-- of the further points
extra_eval : (coding : Coding) (d : Design) (claim : Claim) (moved : List (List Bool)) (cycles c n : ℕ) → c < cycles → claim_reads coding d claim moved cycles
    (extra d c n) ≡ reads_in_layer coding d claim moved (extra d c n) 0 (extra_origin claim n)
extra_eval coding d claim moved cycles c n early =
    let p : ℕ = d.nets + length d.regs + n in
    let place : p - (d.nets + length d.regs) ≡ n = omega arith in
    ap (reads_in_layer coding d claim moved (extra d c n) 0)
    (cond-false (not (0 == 0)) Free _ (not_from_true (0 == 0) (eq-eqb 0 0 refl)) ∙ cond-false (nat_lt p (d.nets + length d.regs)) _ _
    (le-ltb p (d.nets + length d.regs) (omega arith))
    ∙ cond-true (nat_lt c cycles) (extra_origin claim (p - (d.nets + length d.regs))) Free (lt-ltb c cycles early) ∙ ap (extra_origin claim) place)

from_extra : (coding : Coding) (d : Design) (claim : Claim) (moved : List (List Bool)) (cycles c : ℕ) (def : Definition) (k j : Key) → c < cycles
    → In def (extra_definitions d claim moved c) → In k def.outs → Mentions def.clauses j → IsRead coding d claim moved cycles k j
from_extra coding d claim moved cycles c def k j early has out m = by_place has
  where
    read_at : (n : ℕ) (reads : List KeyLit) → reads_in_layer coding d claim moved (extra d c n) 0 (extra_origin claim n) ≡ reads → Among reads j
        → Among (claim_reads coding d claim moved cycles (extra d c n)) j
    read_at n reads same a = subst (λ (ls : List KeyLit). Among ls j) (sym (extra_eval coding d claim moved cycles c n early ∙ same)) a

    one_of : (n : ℕ) (this : Definition) (reads : List KeyLit) → this.outs ≡ extra d c n ∷ [] → ReadsOf this reads → reads_in_layer coding d claim moved
        (extra d c n) 0 (extra_origin claim n) ≡ reads → this ≡ def → IsRead coding d claim moved cycles k j
    one_of n this reads outs says same is =
        from_one coding d claim moved cycles this reads (extra d c n) k j outs says (read_at n reads same)
        (subst (λ (x : Definition). In k x.outs) (sym is) out) (subst (λ (x : Definition). Mentions x.clauses j) (sym is) m)

    of_stale : (r : ℕ) → r < judged_count claim - 1 → stale_definition d claim.start c r ≡ def → IsRead coding d claim moved cycles k j
    of_stale r lt is =
        let place : 2 + (r + 1) ≡ suc (suc (suc r)) = omega arith in
        let origin : extra_origin claim (2 + (r + 1)) ≡ Stale (r + 1) = ap (extra_origin claim) place
        ∙ cond-true (nat_lt r (judged_count claim - 1)) (Stale (r + 1)) Free (lt-ltb r (judged_count claim - 1) lt) in
        let reads : reads_in_layer coding d claim moved (extra d c (2 + (r + 1))) 0 (extra_origin claim (2 + (r + 1))) ≡ start_lit d claim.start c
        ∷ start_lit d claim.start (c - r - 2) ∷ [] =
        ap (reads_in_layer coding d claim moved (extra d c (2 + (r + 1))) 0) origin
        ∙ ap (λ (n : ℕ). start_lit d claim.start c ∷ start_lit d claim.start n ∷ []) (earlier c r) in
        one_of (2 + (r + 1)) (stale_definition d claim.start c r) (start_lit d claim.start c ∷ start_lit d claim.start (c - r - 2) ∷ []) refl
        (exclusive_read (stale_key d c (r + 1)) (start_lit d claim.start c) (start_lit d claim.start (c - r - 2))) reads is

    by_place : In def (extra_definitions d claim moved c) → IsRead coding d claim moved cycles k j
    by_place (inl is) = one_of 0 (toggle_definition d claim.edge claim.start c) (reads_of (toggle_pair d claim c)) (toggle_outs d claim c)
        (toggle_says d claim c) refl is
    by_place (inr (inl is)) = one_of 1 (exclusive (change_key d c) (capture_lit d claim.end c) (capture_lit d claim.end (c - 1)))
        (capture_lit d claim.end c ∷ capture_lit d claim.end (c - 1) ∷ []) refl
        (exclusive_read (change_key d c) (capture_lit d claim.end c) (capture_lit d claim.end (c - 1))) refl is
    by_place (inr (inr (inl is))) = one_of 2 (differ_definition d claim moved c) (reads_of (differ_pair d claim moved c)) (differ_outs d claim moved c)
        (differ_says d claim moved c) refl is
    by_place (inr (inr (inr later))) =
        let of = from_map (stale_definition d claim.start c) def (below (judged_count claim - 1)) later in
        of_stale of.0 (below_less (judged_count claim - 1) of.0 of.1) of.2

-- a used key is read
pub used_read : (coding : Coding) (q : Query) (claim : Claim) (offset clean : ℕ) (moved : List (List Bool)) → IsSound q.design → Fits q.design claim
    → q.question ≡ Violates claim offset clean → (k j : Key) → Uses (definitions coding q moved) k j
    → (j ≡ k) ⊎ ((l : KeyLit) × In l (claim_reads coding q.design claim moved q.cycles k) × (l.key ≡ j))
used_read coding q claim offset clean moved sound fits asks k j (def, has, outs, m) =
    elim (In-cases def (base_definitions coding d q.live c) (question_definitions coding d moved q.question c) at.2) [
      | inl base ↦ from_base coding d claim moved q.live q.cycles c def k j sound early base out m
      | inr of_question ↦ by_stage (subst (λ w. In def (question_definitions coding d moved w c)) asks of_question)
    ]
  where
    d : Design
    d = q.design

    at : (x : ℕ) × In x (below q.cycles) × In def (cycle_definitions coding q moved x)
    at = from_flat (cycle_definitions coding q moved) def (below q.cycles) (In-from_Contains (definitions coding q moved) def has)

    c : ℕ
    c = at.0

    early : c < q.cycles
    early = below_less q.cycles c at.1

    out : In k def.outs
    out = In-from_Contains def.outs k outs

    by_layer : (l : ℕ) → l < length claim.through + 1 → In def (layer_definitions coding d claim moved c l) → IsRead coding d claim moved q.cycles k j
    by_layer l low there =
        elim (In-cases def (start_units d claim c l) (flat_map (λ x. x) (numbered (layer_gate coding d claim moved c l) 0 d.gates)) there) [
          | inl unit_there ↦ inl (from_start d claim c l def k j unit_there out m)
          | inr of_gates ↦
              let list = from_flat (λ x. x) def (numbered (layer_gate coding d claim moved c l) 0 d.gates) of_gates in
              let of = from_numbered (layer_gate coding d claim moved c l) list.0 0 d.gates list.1 in
              let is : layer_gate coding d claim moved c l of.0 of.1 ≡ list.0 = ap (λ (n : ℕ). layer_gate coding d claim moved c l n of.1)
              (sym (zero_more of.0)) ∙ of.3 in
              from_gate coding d claim moved q.cycles c l of.0 of.1 def k j sound early low of.2 (subst (In def) (sym is) list.2) out m
        ]

    by_stage : In def (claim_definitions coding d claim moved c) → IsRead coding d claim moved q.cycles k j
    by_stage there =
        elim (In-cases def (flat_map (layer_definitions coding d claim moved c) (below (length claim.through + 1)))
        (end_definition coding d claim moved c claim.end ++ extra_definitions d claim moved c) there) [
          | inl of_layers ↦
              let l = from_flat (layer_definitions coding d claim moved c) def (below (length claim.through + 1)) of_layers in
              by_layer l.0 (below_less (length claim.through + 1) l.0 l.1) l.2
          | inr rest ↦ elim (In-cases def (end_definition coding d claim moved c claim.end) (extra_definitions d claim moved c) rest) [
            | inl of_end ↦ from_end coding d claim moved q.cycles c def k j sound early claim.end refl of_end out m
            | inr of_extra ↦ from_extra coding d claim moved q.cycles c def k j early of_extra out m
          ]
        ]
