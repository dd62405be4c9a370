-- Pairs define what the definitions of a cycle's further points do.
use Rattle.std.proofs.Common.{◌≡◌, ◌∙◌, ℕ, ◌+◌, ◌-◌, Bool, true, false, cond, List, [], ◌∷◌, refl, ap, sym, subst, arith}
use Rattle.sdcv_base.specs.declared.kinds.Edge.{Edge}
use Rattle.sdcv_base.specs.declared.kinds.Edge.TheVariants.{Any, Rise, Fall}
use Rattle.net_model.specs.declared.netlist.Design.{Design}
use Rattle.net_model.specs.declared.claims.Claim.{Claim}
use Rattle.query_model.specs.Defined.{Definition, exclusive, both, edge_definition, start_lit, capture_lit, late_capture_lit, toggle_key, differ_key, stale_key}
use Rattle.query_model.specs.Defined.{toggle_definition, differ_definition, stale_definition}
use Rattle.query_model.specs.declared.keys.Key.{Key}
use Rattle.query_model.specs.declared.keys.KeyLit.{KeyLit}
use Rattle.frame_unroll.specs.Pairs.{defined_by, reads_of, edge_pair, toggle_pair, differ_pair, stale_pair}
use Rattle.frame_unroll.specs.declared.pairs.Pair.{Pair}
use Rattle.frame_unroll.proofs.Saying.{ReadsOf, exclusive_read, both_read}

edge_pair_is : (edge : Edge) (z : Key) (x y : KeyLit) → defined_by (edge_pair edge z x y) ≡ edge_definition edge z x y
edge_pair_is Any z x y = refl
edge_pair_is Rise z x y = refl
edge_pair_is Fall z x y = refl

pub toggle_pair_is : (d : Design) (claim : Claim) (c : ℕ) (pair : Pair) → pair ≡ toggle_pair d claim c
    → defined_by pair ≡ toggle_definition d claim.edge claim.start c
toggle_pair_is d claim c pair is =
    ap defined_by is
    ∙ edge_pair_is claim.edge (toggle_key d c) (start_lit d claim.start c) (start_lit d claim.start (c - 1))

pub differ_pair_is : (d : Design) (claim : Claim) (moved : List (List Bool)) (c : ℕ) (pair : Pair) → pair ≡ differ_pair d claim moved c
    → defined_by pair ≡ differ_definition d claim moved c
differ_pair_is d claim moved c pair is = ap defined_by is ∙ by claim.hazard
  where
    first : KeyLit
    first = late_capture_lit d claim moved c 0 claim.end

    other : KeyLit
    other = late_capture_lit d claim moved c 1 claim.end

    now : KeyLit
    now = capture_lit d claim.end c

    by : (h : Bool) → cond h (both (differ_key d c) first (cond h other now)) (exclusive (differ_key d c) first (cond h other now))
        ≡ cond h (both (differ_key d c) first other) (exclusive (differ_key d c) first now)
    by true = refl
    by false = refl

pub stale_pair_is : (d : Design) (claim : Claim) (c r : ℕ) (pair : Pair) → pair ≡ stale_pair d claim c (r + 1)
    → defined_by pair ≡ stale_definition d claim.start c r
stale_pair_is d claim c r pair is =
    let before : c - (r + 1) - 1 ≡ c - r - 2 = omega arith in
    ap defined_by is ∙ ap (λ n. exclusive (stale_key d c (r + 1)) (start_lit d claim.start c) (start_lit d claim.start n)) before

-- the definition by a pair reads the two literals
pair_read : (pair : Pair) → ReadsOf (defined_by pair) (reads_of pair)
pair_read pair = by pair.both
  where
    by : (b : Bool) → ReadsOf (cond b (both pair.out pair.first pair.second) (exclusive pair.out pair.first pair.second)) (reads_of pair)
    by true = both_read pair.out pair.first pair.second
    by false = exclusive_read pair.out pair.first pair.second

pair_outs : (pair : Pair) → (defined_by pair).outs ≡ pair.out ∷ []
pair_outs pair = by pair.both
  where
    by : (b : Bool) → (cond b (both pair.out pair.first pair.second) (exclusive pair.out pair.first pair.second)).outs ≡ pair.out ∷ []
    by true = refl
    by false = refl

-- so does that of a toggle
pub toggle_says : (d : Design) (claim : Claim) (c : ℕ) → ReadsOf (toggle_definition d claim.edge claim.start c) (reads_of (toggle_pair d claim c))
toggle_says d claim c =
    subst (λ (def : Definition). ReadsOf def (reads_of (toggle_pair d claim c))) (toggle_pair_is d claim c (toggle_pair d claim c) refl)
    (pair_read (toggle_pair d claim c))

edge_out : (edge : Edge) (z : Key) (x y : KeyLit) → (edge_pair edge z x y).out ≡ z
edge_out Any z x y = refl
edge_out Rise z x y = refl
edge_out Fall z x y = refl

pub toggle_outs : (d : Design) (claim : Claim) (c : ℕ) → (toggle_definition d claim.edge claim.start c).outs ≡ toggle_key d c ∷ []
toggle_outs d claim c =
    ap (λ (def : Definition). def.outs) (sym (toggle_pair_is d claim c (toggle_pair d claim c) refl)) ∙ pair_outs (toggle_pair d claim c)
    ∙ ap (λ (k : Key). k ∷ []) (edge_out claim.edge (toggle_key d c) (start_lit d claim.start c) (start_lit d claim.start (c - 1)))

-- and that of a late capture that differs
pub differ_says : (d : Design) (claim : Claim) (moved : List (List Bool)) (c : ℕ)
    → ReadsOf (differ_definition d claim moved c) (reads_of (differ_pair d claim moved c))
differ_says d claim moved c =
    subst (λ (def : Definition). ReadsOf def (reads_of (differ_pair d claim moved c)))
    (differ_pair_is d claim moved c (differ_pair d claim moved c) refl) (pair_read (differ_pair d claim moved c))

pub differ_outs : (d : Design) (claim : Claim) (moved : List (List Bool)) (c : ℕ) → (differ_definition d claim moved c).outs ≡ differ_key d c ∷ []
differ_outs d claim moved c =
    ap (λ (def : Definition). def.outs) (sym (differ_pair_is d claim moved c (differ_pair d claim moved c) refl))
    ∙ pair_outs (differ_pair d claim moved c)
