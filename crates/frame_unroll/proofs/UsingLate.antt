-- The same of keys where a claim is asked about: the layers of a late start, its capture, and the further points of a cycle.
use Rattle.std.proofs.Common.{◌≡◌, ◌≢◌, ℕ, zero, suc, ◌+◌, ◌-◌, ◌<◌, Bool, true, false, not, cond, List, [], ◌∷◌, ◌++◌, map, length, Option}
use Rattle.std.proofs.Common.{Some, None, refl, ap, sym, ◌∙◌, arith, inl, inr, ◌⊎◌, subst, add-one}
use Rattle.std.specs.Prelude.{slice_get, flat_map, nat_lt, ◌==◌, ◌&&◌}
use Rattle.std.proofs.lemmas.Bool.{cond-false, cond_both, ltb-true, ltb-false, eqb-true, and_parts, or_cases, not-false, not_from_true}
use Rattle.net_model.specs.Form.{value}
use Rattle.net_model.specs.Netlist.{IsSound}
use Rattle.net_model.specs.Fits.{Fits}
use Rattle.net_model.specs.Judge.{judged_count}
use Rattle.net_model.specs.Cycles.{reg_capture}
use Rattle.net_model.proofs.Members.{In, In-left, In-right, In-cases, Contains-from_In, In-map, In-flat}
use Rattle.net_model.specs.declared.netlist.Design.{Design}
use Rattle.net_model.specs.declared.netlist.Gate.{Gate}
use Rattle.net_model.specs.declared.netlist.Reg.{Reg}
use Rattle.net_model.specs.declared.claims.Claim.{Claim}
use Rattle.net_model.specs.declared.claims.End.{End}
use Rattle.net_model.specs.declared.claims.End.TheVariants.{Reg as RegEnd, Output as OutputEnd}
use Rattle.query_model.specs.Keys.{key, lit, below}
use Rattle.net_model.specs.Queries.{Query, Violates}
use Rattle.query_model.specs.Defined.{Definition, numbered, plain, exclusive, base_definitions, has_own, layer_gate}
use Rattle.query_model.specs.Defined.{start_units, layer_definitions, late_key, late_reg, end_definition, start_lit, capture_lit}
use Rattle.query_model.specs.Defined.{extra, change_key, stale_key, toggle_definition, differ_definition, extra_definitions}
use Rattle.query_model.specs.Defined.{claim_definitions, gate_reads, reg_reads, plain_gate, rails_gate, plain_reg, rails_reg, stale_definition}
use Rattle.query_model.specs.Formula.{Mentions, definitions, cycle_definitions, question_definitions}
use Rattle.query_model.proofs.Members.{In-below}
use Rattle.query_model.proofs.Based.{placed, in_place, from_numbered, in_numbered}
use Rattle.query_model.specs.declared.keys.Key.{Key}
use Rattle.query_model.specs.declared.keys.KeyLit.{KeyLit}
use Rattle.query_model.specs.declared.keys.Coding.{Coding}
use Rattle.frame_unroll.specs.Counting.{counted}
use Rattle.frame_unroll.specs.Origins.{Uses, gate_of, of_gate, base_origin, extra_origin, end_origin, has_rail, late_origin, layer_origin}
use Rattle.frame_unroll.specs.Origins.{reads_of_origin, gate_late, reg_late, reads_in_layer, claim_reads}
use Rattle.frame_unroll.specs.Sites.{own_sign}
use Rattle.frame_unroll.specs.Pairs.{reads_of, toggle_pair, differ_pair}
use Rattle.frame_unroll.specs.declared.origins.Origin.{Origin}
use Rattle.frame_unroll.specs.declared.origins.Origin.TheVariants.{Free, Reg as OfReg, Stale}
use Rattle.frame_unroll.proofs.Saying.{Among, ReadsOf, plain_read, plain_out, rails_reads, rails_read, exclusive_read}
use Rattle.frame_unroll.proofs.Paired.{toggle_says, toggle_outs, differ_says, differ_outs}
use Rattle.frame_unroll.proofs.Tabled.{length-gate_reads, length-reg_reads}
use Rattle.frame_unroll.proofs.Using.{key_at, use_by, gate_found, base_used}

pub zero_more : (r : ℕ) → 0 + r ≡ r
zero_more r = omega arith

-- a definition of the claim stands in the query's list
pub claim_in : (coding : Coding) (q : Query) (claim : Claim) (offset clean : ℕ) (moved : List (List Bool)) (c : ℕ) (def : Definition)
    → q.question ≡ Violates claim offset clean → c < q.cycles → In def (claim_definitions coding q.design claim moved c)
    → In def (definitions coding q moved)
claim_in coding q claim offset clean moved c def asks lt has =
    In-flat (cycle_definitions coding q moved) def c (below q.cycles) (In-below q.cycles c lt)
    (In-right def (base_definitions coding q.design q.live c) (question_definitions coding q.design moved q.question c)
    (subst (λ w. In def (question_definitions coding q.design moved w c)) (sym asks) has))

layer_in : (coding : Coding) (d : Design) (claim : Claim) (moved : List (List Bool)) (c l : ℕ) (def : Definition) → l < length claim.through + 1
    → In def (layer_definitions coding d claim moved c l) → In def (claim_definitions coding d claim moved c)
layer_in coding d claim moved c l def lt has =
    In-left def (flat_map (layer_definitions coding d claim moved c) (below (length claim.through + 1)))
    (end_definition coding d claim moved c claim.end ++ extra_definitions d claim moved c)
    (In-flat (layer_definitions coding d claim moved c) def l (below (length claim.through + 1)) (In-below (length claim.through + 1) l lt) has)

gate_in : (coding : Coding) (d : Design) (claim : Claim) (moved : List (List Bool)) (c l i : ℕ) (g : Gate) (def : Definition) → slice_get d.gates i ≡ Some g
    → In def (layer_gate coding d claim moved c l i g) → In def (layer_definitions coding d claim moved c l)
gate_in coding d claim moved c l i g def at has =
    let layer : List (List Definition) = numbered (layer_gate coding d claim moved c l) 0 d.gates in
    In-right def (start_units d claim c l) (flat_map (λ x. x) layer)
    (In-flat (λ x. x) def (layer_gate coding d claim moved c l i g) layer
    (subst (λ (n : ℕ). In (layer_gate coding d claim moved c l n g) layer) (zero_more i)
    (in_numbered (layer_gate coding d claim moved c l) 0 d.gates i g at)) has)

pub gate_layer : (coding : Coding) (d : Design) (claim : Claim) (moved : List (List Bool)) (c l i : ℕ) (g : Gate) → has_own claim moved l g.out ≡ true
    → layer_gate coding d claim moved c l i g
    ≡ cond claim.hazard (rails_gate coding d claim moved c (suc l) i g ∷ []) (plain_gate coding d claim moved c (suc l) i g ∷ [])
gate_layer coding d claim moved c l i g own =
    cond-false (not (has_own claim moved l g.out)) [] (cond claim.hazard (rails_gate coding d claim moved c (suc l) i g ∷ [])
    (plain_gate coding d claim moved c (suc l) i g ∷ [])) (not_from_true (has_own claim moved l g.out) own)

pub gate_says : (coding : Coding) (d : Design) (claim : Claim) (moved : List (List Bool)) (c l i : ℕ) (g : Gate)
    → ReadsOf (rails_gate coding d claim moved c (suc l) i g) (rails_reads (counted coding (value g.func) (gate_reads d claim moved c (suc l) 0 i g))
    (counted coding (value g.func) (gate_reads d claim moved c (suc l) 1 i g)) (key c (suc l) 0 g.out) (key c (suc l) 1 g.out))
gate_says coding d claim moved c l i g =
    rails_read coding (value g.func) (gate_reads d claim moved c (suc l) 0 i g) (gate_reads d claim moved c (suc l) 1 i g) (key c (suc l) 0 g.out)
    (key c (suc l) 1 g.out) (length-gate_reads d claim moved c (suc l) 1 i g ∙ sym (length-gate_reads d claim moved c (suc l) 0 i g))

-- a key of a layer is on one of its rails
on_rail : (claim : Claim) (c l rail p : ℕ) → claim.hazard ≡ true → has_rail claim rail ≡ true → In (key c l rail p) (key c l 0 p ∷ key c l 1 p ∷ [])
on_rail claim c l rail p hazard has =
    elim (or_cases (rail == 0) (claim.hazard && (rail == 1)) has) [
      | inl low ↦ inl (ap (λ (n : ℕ). key c l n p) (sym (eqb-true rail 0 low)))
      | inr high ↦ inr (inl (ap (λ (n : ℕ). key c l n p) (sym (eqb-true rail 1 (and_parts claim.hazard (rail == 1) high).1))))
    ]

plain_rail : (claim : Claim) (rail : ℕ) → claim.hazard ≡ false → has_rail claim rail ≡ true → rail ≡ 0
plain_rail claim rail plain has =
    elim (or_cases (rail == 0) (claim.hazard && (rail == 1)) has) [
      | inl low ↦ eqb-true rail 0 low
      | inr high ↦ absurd (Rattle.std.proofs.Common.true≢false (sym (and_parts claim.hazard (rail == 1) high).0 ∙ plain))
    ]

-- a plain definition, whose own key stands beside what it reads
plain_use : (coding : Coding) (defs : List Definition) (cell : (ℕ → Bool) → Bool) (reads : List KeyLit) (out j : Key) → In (plain coding cell reads out) defs
    → Among ((counted coding cell reads ++ lit true out ∷ []) ++ []) j → Uses defs out j
plain_use coding defs cell reads out j has a = by_part (In-cases a.0 (counted coding cell reads ++ lit true out ∷ []) [] a.1)
  where
    by_read : In a.0 (counted coding cell reads) ⊎ In a.0 (lit true out ∷ []) → Uses defs out j
    by_read (inl inside) = use_by defs (plain coding cell reads out) (counted coding cell reads) out j has (inl refl) (plain_read coding cell reads out)
        (a.0, inside, a.2)
    by_read (inr (inl here)) =
        let same : out ≡ j = ap (λ (l : KeyLit). l.key) here ∙ a.2 in (
          plain coding cell reads out,
          Contains-from_In defs (plain coding cell reads out) has,
          Contains-from_In (out ∷ []) out (inl refl),
          subst (Mentions (plain coding cell reads out).clauses) same (plain_out coding cell reads out),
        )
    by_read (inr (inr none)) = absurd none

    by_part : In a.0 (counted coding cell reads ++ lit true out ∷ []) ⊎ In a.0 [] → Uses defs out j
    by_part (inl inside) = by_read (In-cases a.0 (counted coding cell reads) (lit true out ∷ []) inside)
    by_part (inr none) = absurd none

-- the keys that a net reads in a layer are used
gate_used : (coding : Coding) (q : Query) (claim : Claim) (offset clean : ℕ) (moved : List (List Bool)) (c l rail i : ℕ) (g : Gate) (j : Key) → IsSound q.design
    → q.question ≡ Violates claim offset clean → c < q.cycles → l < length claim.through + 1 → has_rail claim rail ≡ true
    → slice_get q.design.gates i ≡ Some g → has_own claim moved l g.out ≡ true → Among (gate_late coding q.design claim moved c l i (Some g)) j
    → Uses (definitions coding q moved) (key c (suc l) rail g.out) j
gate_used coding q claim offset clean moved c l rail i g j sound asks early low on at own =
    by_mode claim.hazard refl
  where
    d : Design
    d = q.design

    f : ℕ → List KeyLit
    f n = counted coding (value g.func) (gate_reads d claim moved c (suc l) n i g) ++ lit true (key c (suc l) n g.out) ∷ []

    listed : (def : Definition) → In def
        (cond claim.hazard (rails_gate coding d claim moved c (suc l) i g ∷ []) (plain_gate coding d claim moved c (suc l) i g ∷ []))
        → In def (definitions coding q moved)
    listed def has = claim_in coding q claim offset clean moved c def asks early
        (layer_in coding d claim moved c l def low (gate_in coding d claim moved c l i g def at (subst (In def) (sym
        (gate_layer coding d claim moved c l i g own)) has)))

    by_mode : (h : Bool) → claim.hazard ≡ h → Among (f 0 ++ cond h (f 1) []) j → Uses (definitions coding q moved) (key c (suc l) rail g.out) j
    by_mode true hazard a =
        use_by (definitions coding q moved) (rails_gate coding d claim moved c (suc l) i g) (f 0 ++ f 1) (key c (suc l) rail g.out) j
        (listed (rails_gate coding d claim moved c (suc l) i g) (subst (λ h. In (rails_gate coding d claim moved c (suc l) i g)
        (cond h (rails_gate coding d claim moved c (suc l) i g ∷ []) (plain_gate coding d claim moved c (suc l) i g ∷ []))) (sym hazard) (inl refl)))
        (on_rail claim c (suc l) rail g.out hazard on) (gate_says coding d claim moved c l i g) a
    by_mode false plain_mode a =
        subst (λ (n : ℕ). Uses (definitions coding q moved) (key c (suc l) n g.out) j) (sym (plain_rail claim rail plain_mode on))
        (plain_use coding (definitions coding q moved) (value g.func) (gate_reads d claim moved c (suc l) 0 i g) (key c (suc l) 0 g.out) j
        (listed (plain_gate coding d claim moved c (suc l) i g) (subst (λ h. In (plain_gate coding d claim moved c (suc l) i g)
        (cond h (rails_gate coding d claim moved c (suc l) i g ∷ []) (plain_gate coding d claim moved c (suc l) i g ∷ []))) (sym plain_mode) (inl refl))) a)

-- the late capture reads what counts on both rails
pub reg_says : (coding : Coding) (d : Design) (claim : Claim) (moved : List (List Bool)) (c r : ℕ) (reg : Reg)
    → ReadsOf (rails_reg coding d claim moved c r reg) (rails_reads (counted coding (reg_capture reg) (reg_reads d claim moved c 0 true r reg))
    (counted coding (reg_capture reg) (reg_reads d claim moved c 1 false r reg)) (late_key d claim c 0) (late_key d claim c 1))
reg_says coding d claim moved c r reg =
    rails_read coding (reg_capture reg) (reg_reads d claim moved c 0 true r reg) (reg_reads d claim moved c 1 false r reg) (late_key d claim c 0)
    (late_key d claim c 1) (length-reg_reads d claim moved c 1 false r reg ∙ sym (length-reg_reads d claim moved c 0 true r reg))

-- what the late capture reads of what counts, on a rail
abbrev pub reg_counted : (coding : Coding) → Design → Claim → List (List Bool) → ℕ → ℕ → Reg → ℕ → List KeyLit
reg_counted coding d claim moved c r reg rail = counted coding (reg_capture reg) (reg_reads d claim moved c rail (own_sign rail) r reg)

-- and beside it the late capture itself
abbrev pub reg_listed : (coding : Coding) → Design → Claim → List (List Bool) → ℕ → ℕ → Reg → ℕ → List KeyLit
reg_listed coding d claim moved c r reg rail = reg_counted coding d claim moved c r reg rail ++ lit true (late_key d claim c rail) ∷ []

-- the definition of the late capture stands in the list
end_in : (coding : Coding) (d : Design) (claim : Claim) (moved : List (List Bool)) (c r : ℕ) (reg : Reg) (def : Definition) → claim.end ≡ RegEnd r
    → slice_get d.regs r ≡ Some reg → In def (cond claim.hazard (rails_reg coding d claim moved c r reg ∷ []) (plain_reg coding d claim moved c r reg ∷ []))
    → In def (claim_definitions coding d claim moved c)
end_in coding d claim moved c r reg def is at has =
    In-right def (flat_map (layer_definitions coding d claim moved c) (below (length claim.through + 1)))
    (end_definition coding d claim moved c claim.end ++ extra_definitions d claim moved c)
    (In-left def (end_definition coding d claim moved c claim.end) (extra_definitions d claim moved c)
    (subst (λ e. In def (end_definition coding d claim moved c e)) (sym is)
    (subst (λ (o : Option Reg). In def (late_reg coding d claim moved c r o)) (sym at) has)))

reg_used : (coding : Coding) (q : Query) (claim : Claim) (offset clean : ℕ) (moved : List (List Bool)) (c rail r : ℕ) (reg : Reg) (j : Key) → IsSound q.design
    → q.question ≡ Violates claim offset clean → c < q.cycles → has_rail claim rail ≡ true → claim.end ≡ RegEnd r
    → slice_get q.design.regs r ≡ Some reg → Among (reg_late coding q.design claim moved c r (Some reg)) j → Uses (definitions coding q moved)
    (late_key q.design claim c rail) j
reg_used coding q claim offset clean moved c rail r reg j sound asks early on is at =
    by_mode claim.hazard refl
  where
    d : Design
    d = q.design

    listed : (def : Definition) → In def (cond claim.hazard (rails_reg coding d claim moved c r reg ∷ []) (plain_reg coding d claim moved c r reg ∷ []))
        → In def (definitions coding q moved)
    listed def has = claim_in coding q claim offset clean moved c def asks early (end_in coding d claim moved c r reg def is at has)

    by_mode : (h : Bool) → claim.hazard ≡ h → Among (reg_listed coding d claim moved c r reg 0 ++ cond h (reg_listed coding d claim moved c r reg 1) []) j
        → Uses (definitions coding q moved) (late_key d claim c rail) j
    by_mode true hazard a =
        use_by (definitions coding q moved) (rails_reg coding d claim moved c r reg)
        (rails_reads (reg_counted coding d claim moved c r reg 0) (reg_counted coding d claim moved c r reg 1) (late_key d claim c 0)
        (late_key d claim c 1)) (late_key d claim c rail) j
        (listed (rails_reg coding d claim moved c r reg) (subst (λ h. In (rails_reg coding d claim moved c r reg)
        (cond h (rails_reg coding d claim moved c r reg ∷ []) (plain_reg coding d claim moved c r reg ∷ []))) (sym hazard) (inl refl)))
        (on_rail claim c (length claim.through + 1) rail (d.nets + length d.regs) hazard on) (reg_says coding d claim moved c r reg) a
    by_mode false plain_mode a =
        subst (λ (n : ℕ). Uses (definitions coding q moved) (late_key d claim c n) j) (sym (plain_rail claim rail plain_mode on))
        (plain_use coding (definitions coding q moved) (reg_capture reg) (reg_reads d claim moved c 0 true r reg) (late_key d claim c 0) j
        (listed (plain_reg coding d claim moved c r reg) (subst (λ h. In (plain_reg coding d claim moved c r reg)
        (cond h (rails_reg coding d claim moved c r reg ∷ []) (plain_reg coding d claim moved c r reg ∷ []))) (sym plain_mode) (inl refl))) a)

-- the further points of a cycle
extra_in : (coding : Coding) (d : Design) (claim : Claim) (moved : List (List Bool)) (c : ℕ) (def : Definition) → In def (extra_definitions d claim moved c)
    → In def (claim_definitions coding d claim moved c)
extra_in coding d claim moved c def has =
    In-right def (flat_map (layer_definitions coding d claim moved c) (below (length claim.through + 1)))
    (end_definition coding d claim moved c claim.end ++ extra_definitions d claim moved c)
    (In-right def (end_definition coding d claim moved c claim.end) (extra_definitions d claim moved c) has)

stale_in : (d : Design) (claim : Claim) (moved : List (List Bool)) (c r : ℕ) → r < judged_count claim - 1 → In (stale_definition d claim.start c r)
    (extra_definitions d claim moved c)
stale_in d claim moved c r lt = inr (inr (inr (In-map (stale_definition d claim.start c) r (below (judged_count claim - 1))
    (In-below (judged_count claim - 1) r lt))))

pub earlier : (c r : ℕ) → c - (r + 1) - 1 ≡ c - r - 2
earlier c r = omega arith

extra_used : (coding : Coding) (q : Query) (claim : Claim) (offset clean : ℕ) (moved : List (List Bool)) (k j : Key) → q.question ≡ Violates claim offset clean
    → k.layer ≡ 0 → k.rail ≡ 0 → k.cycle < q.cycles → (n : ℕ) → q.design.nets + length q.design.regs + n ≡ k.point
    → Among (reads_in_layer coding q.design claim moved k 0 (extra_origin claim n)) j → Uses (definitions coding q moved) k j
extra_used coding q claim offset clean moved k j asks layer rail early = by_point
  where
    d : Design
    d = q.design

    c : ℕ
    c = k.cycle

    listed : (def : Definition) → In def (extra_definitions d claim moved c) → In def (definitions coding q moved)
    listed def has = claim_in coding q claim offset clean moved c def asks early (extra_in coding d claim moved c def has)

    own : (n : ℕ) → d.nets + length d.regs + n ≡ k.point → extra d c n ≡ k
    own n point = key_at k c 0 0 (d.nets + length d.regs + n) refl (sym layer) (sym rail) point

    by_point : (n : ℕ) → d.nets + length d.regs + n ≡ k.point → Among (reads_in_layer coding d claim moved k 0 (extra_origin claim n)) j
        → Uses (definitions coding q moved) k j
    by_point zero point a =
        let def : Definition = toggle_definition d claim.edge claim.start c in
        use_by (definitions coding q moved) def (reads_of (toggle_pair d claim c)) k j (listed def (inl refl))
        (subst (λ (outs : List Key). In k outs) (sym (toggle_outs d claim c)) (inl (own 0 point))) (toggle_says d claim c) a
    by_point (suc zero) point a =
        let def : Definition = exclusive (change_key d c) (capture_lit d claim.end c) (capture_lit d claim.end (c - 1)) in
        use_by (definitions coding q moved) def (capture_lit d claim.end c ∷ capture_lit d claim.end (c - 1) ∷ []) k j (listed def (inr (inl refl)))
        (inl (own 1 point)) (exclusive_read (change_key d c) (capture_lit d claim.end c) (capture_lit d claim.end (c - 1))) a
    by_point (suc (suc zero)) point a =
        use_by (definitions coding q moved) (differ_definition d claim moved c) (reads_of (differ_pair d claim moved c)) k j
        (listed (differ_definition d claim moved c) (inr (inr (inl refl))))
        (subst (λ (outs : List Key). In k outs) (sym (differ_outs d claim moved c)) (inl (own 2 point))) (differ_says d claim moved c) a
    by_point (suc (suc (suc r))) point a =
        cond_both (nat_lt r (judged_count claim - 1)) (Stale (r + 1)) Free (λ o. Among (reads_in_layer coding d claim moved k 0 o) j
        → Uses (definitions coding q moved) k j)
        (λ judged read.
        let lt = ltb-true r (judged_count claim - 1) judged in
        let there : d.nets + length d.regs + (2 + (r + 1)) ≡ k.point = omega (arith, point) in
        use_by (definitions coding q moved) (stale_definition d claim.start c r) (start_lit d claim.start c ∷ start_lit d claim.start (c - r - 2) ∷ []) k j
        (listed (stale_definition d claim.start c r) (stale_in d claim moved c r lt)) (inl (own (2 + (r + 1)) there))
        (exclusive_read (stale_key d c (r + 1)) (start_lit d claim.start c) (start_lit d claim.start (c - r - 2)))
        (subst (λ (n : ℕ). Among (start_lit d claim.start c ∷ start_lit d claim.start n ∷ []) j) (earlier c r) read)) (λ other read. absurd read.1) a

-- nets and bits read the same whether or not a claim is asked about
pub base_level : (coding : Coding) (d : Design) (claim : Claim) (moved : List (List Bool)) (cycles : ℕ) (k : Key) → reads_in_layer coding d claim moved k 0
    (base_origin d cycles k) ≡ reads_of_origin coding d k (base_origin d cycles k)
base_level coding d claim moved cycles k =
    cond_both (nat_lt k.point d.nets) (cond (nat_lt k.cycle cycles) (of_gate (gate_of d.gates 0 k.point)) Free) _ Same
    (λ net. cond_both (nat_lt k.cycle cycles) (of_gate (gate_of d.gates 0 k.point)) Free Same (λ early. of_net (gate_of d.gates 0 k.point)) (λ late. refl))
    (λ past. cond_both (nat_lt 0 k.cycle && (nat_lt k.cycle (cycles + 1) && nat_lt k.point (d.nets + length d.regs))) (OfReg (k.point - d.nets)) Free
    Same (λ yes_bit. refl) (λ no_bit. refl))
  where
    Same : Origin → Type 0
    Same o = reads_in_layer coding d claim moved k 0 o ≡ reads_of_origin coding d k o

    of_net : (o : Option ℕ) → Same (of_gate o)
    of_net None = refl
    of_net (Some i) = refl

-- the keys that a key's definition reads are used
pub reads_used : (coding : Coding) (q : Query) (claim : Claim) (offset clean : ℕ) (moved : List (List Bool)) → IsSound q.design → Fits q.design claim
    → q.question ≡ Violates claim offset clean → (k : Key) (l : KeyLit) → In l (claim_reads coding q.design claim moved q.cycles k)
    → Uses (definitions coding q moved) k l.key
reads_used coding q claim offset clean moved sound fits asks k m has = by_layer k.layer refl (m, has, refl)
  where
    d : Design
    d = q.design

    j : Key
    j = m.key

    Goal : ℕ → Origin → Type 0
    Goal n o = Among (reads_in_layer coding d claim moved k n o) j → Uses (definitions coding q moved) k j

    in_cycle : k.layer ≡ 0 → Goal 0 (layer_origin d claim moved q.cycles k 0)
    in_cycle layer =
        cond_both (not (k.rail == 0)) Free _ (Goal 0) (λ other a. absurd a.1)
        (λ e. let rail : k.rail ≡ 0 = eqb-true k.rail 0 (not-false (k.rail == 0) e) in
        cond_both (nat_lt k.point (d.nets + length d.regs)) (base_origin d q.cycles k) _ (Goal 0)
        (λ low a. base_used coding q moved k j layer rail (subst (λ (ls : List KeyLit). Among ls j) (base_level coding d claim moved q.cycles k) a))
        (λ high. cond_both (nat_lt k.cycle q.cycles) (extra_origin claim (k.point - (d.nets + length d.regs))) Free (Goal 0)
        (λ early a.
        let above = ltb-false k.point (d.nets + length d.regs) high in
        let point : d.nets + length d.regs + (k.point - (d.nets + length d.regs)) ≡ k.point = omega (arith, above) in
        extra_used coding q claim offset clean moved k j asks layer rail (ltb-true k.cycle q.cycles early) (k.point - (d.nets + length d.regs)) point a)
        (λ late a. absurd a.1)))

    of_net : (l : ℕ) → k.layer ≡ suc l → k.cycle < q.cycles → l < length claim.through + 1 → has_rail claim k.rail ≡ true
        → has_own claim moved l k.point ≡ true → (o : Option ℕ) → gate_of d.gates 0 k.point ≡ o → Goal (suc l) (of_gate o)
    of_net l layer early low on own None at a = absurd a.1
    of_net l layer early low on own (Some i) at a =
        let found = gate_found d.gates 0 k.point i at in
        let g = found.1 in
        let place : i ≡ found.0 = omega (arith, found.2) in
        let there : slice_get d.gates i ≡ Some g = ap (slice_get d.gates) place ∙ found.3 in
        let owns : has_own claim moved l g.out ≡ true = ap (has_own claim moved l) found.4 ∙ own in
        subst (λ (x : Key). Uses (definitions coding q moved) x j) (key_at k k.cycle (suc l) k.rail g.out refl (sym layer) refl found.4)
        (gate_used coding q claim offset clean moved k.cycle l k.rail i g j sound asks early low on there owns
        (subst (λ (o : Option Gate). Among (gate_late coding d claim moved k.cycle l i o) j) there a))

    of_end : (l : ℕ) → k.layer ≡ suc l → k.cycle < q.cycles → has_rail claim k.rail ≡ true → k.point ≡ d.nets + length d.regs
        → l ≡ length claim.through → (e : End) → claim.end ≡ e → Goal (suc l) (end_origin e)
    of_end l layer early on point last (OutputEnd o) is a = absurd a.1
    of_end l layer early on point last (RegEnd r) is a =
        let low : r < length d.regs = subst (λ e. Rattle.net_model.specs.Fits.IsEndIn d e) is fits.end_ in
        let reg = Rattle.query_model.proofs.Based.get_within d.regs r low in
        subst (λ (x : Key). Uses (definitions coding q moved) x j) (key_at k k.cycle (length claim.through + 1) k.rail (d.nets + length d.regs) refl
        (omega (arith, layer, last)) refl (sym point))
        (reg_used coding q claim offset clean moved k.cycle k.rail r reg.0 j sound asks early on is reg.1
        (subst (λ (o : Option Reg). Among (reg_late coding d claim moved k.cycle r o) j) reg.1 a))

    in_layer : (l : ℕ) → k.layer ≡ suc l → Goal (suc l) (layer_origin d claim moved q.cycles k (suc l))
    in_layer l layer =
        cond_both (nat_lt k.cycle q.cycles && (nat_lt l (length claim.through + 1) && has_rail claim k.rail)) (late_origin d claim moved l k) Free
        (Goal (suc l))
        (λ yes_late.
        let first = and_parts (nat_lt k.cycle q.cycles) (nat_lt l (length claim.through + 1) && has_rail claim k.rail) yes_late in
        let second = and_parts (nat_lt l (length claim.through + 1)) (has_rail claim k.rail) first.1 in
        let early = ltb-true k.cycle q.cycles first.0 in
        let low = ltb-true l (length claim.through + 1) second.0 in
        cond_both (nat_lt k.point d.nets) (cond (has_own claim moved l k.point) (of_gate (gate_of d.gates 0 k.point)) Free) _ (Goal (suc l))
        (λ net. cond_both (has_own claim moved l k.point) (of_gate (gate_of d.gates 0 k.point)) Free (Goal (suc l))
        (λ own. of_net l layer early low second.1 own (gate_of d.gates 0 k.point) refl) (λ other a. absurd a.1))
        (λ past. cond_both ((k.point == d.nets + length d.regs) && (l == length claim.through)) (end_origin claim.end) Free (Goal (suc l))
        (λ is_end.
        let parts = and_parts (k.point == d.nets + length d.regs) (l == length claim.through) is_end in
        of_end l layer early second.1 (eqb-true k.point (d.nets + length d.regs) parts.0) (eqb-true l (length claim.through) parts.1) claim.end refl)
        (λ other a. absurd a.1)))
        (λ other a. absurd a.1)

    by_layer : (n : ℕ) → k.layer ≡ n → Goal n (layer_origin d claim moved q.cycles k n)
    by_layer zero layer = in_cycle layer
    by_layer (suc l) layer = in_layer l layer
