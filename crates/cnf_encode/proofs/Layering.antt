-- The definitions of a gate's net and of the start's nets in a layer.
use Rattle.std.proofs.Common.{◌≡◌, ℕ, suc, ◌+◌, ◌<◌, inl, inr, Bool, true, false, not, cond}
use Rattle.std.proofs.Common.{Some, None, List, [], ◌∷◌, ◌++◌, refl, ap, sym, ◌∙◌, subst, arith, add-one}
use Rattle.std.specs.Prelude.{filter, flat_map, slice_get, Contains, ◌==◌}
use Rattle.std.specs.List.{list_any}
use Rattle.std.proofs.lemmas.Bool.{cases_Bool, cond-true, cond-false, eq-eqb, eqb-true, not_from_true, not_from_false}
use Rattle.net_model.specs.Form.{value}
use Rattle.std.proofs.lemmas.List.Folds.{list_any_at}
use Rattle.std.proofs.lemmas.List.Kept.{AllPairs-from_increasing}
use Rattle.std.proofs.lemmas.Map.Views.{Contains-from_any}
use Rattle.net_model.proofs.Members.{In, In-from_Contains, Contains-from_In}
use Rattle.net_model.specs.Netlist.{IsGateInRange, IsSound}
use Rattle.net_model.proofs.Settling.{All-at}
use Rattle.net_model.specs.declared.netlist.Design.{Design}
use Rattle.net_model.specs.declared.netlist.Gate.{Gate}
use Rattle.net_model.specs.declared.claims.Claim.{Claim}
use Rattle.query_model.specs.Keys.{below}
use Rattle.query_model.specs.Reads.{is_start_net}
use Rattle.net_model.specs.Fits.{IsStartIn}
use Rattle.net_model.specs.Pins.{start_nets}
use Rattle.frame_unroll.proofs.Starting.{start_low}
use Rattle.query_model.specs.Defined.{has_own, layer_gate}
use Rattle.query_model.specs.declared.keys.Coding.{Coding}
use Rattle.frame_unroll.specs.Sites.{gate_rail, late_gate_site, defined_on, defined_at}
use Rattle.cnf_encode.specs.Listed.{at_place}
use Rattle.query_model.specs.Defined.{plain_gate, rails_gate}
use Rattle.cnf_encode.specs.Placed.{IsInOrder}
use Rattle.cnf_encode.proofs.Covered.{through, Rises-from_pairs, below_is}
use Rattle.cnf_encode.proofs.Covering.{at_place_is}

-- a gate of a sound design
pub gate_in_range : (d : Design) (k : ℕ) (g : Gate) → IsSound d → slice_get d.gates k ≡ Some g → IsGateInRange d g
gate_in_range d k g sound at = All-at (IsGateInRange d) d.gates k g at sound.in_range.gates

-- the definition of a gate's net that has keys of its own after l through sets
pub layer_gate_is : (coding : Coding) (d : Design) (claim : Claim) (moved : List (List Bool)) (c l k : ℕ) (g : Gate) → slice_get d.gates k ≡ Some g
    → has_own claim moved l g.out ≡ true
    → at_place (layer_gate coding d claim moved c l) d.gates k ≡ defined_at coding (value g.func) (late_gate_site d claim moved c (l + 1) k g) ∷ []
layer_gate_is coding d claim moved c l k g at own =
    at_place_is (layer_gate coding d claim moved c l) d.gates k g at
    ∙ cond-false (not (has_own claim moved l g.out)) [] _ (not_from_true (has_own claim moved l g.out) own) ∙ by claim.hazard
    ∙ ap (λ n. defined_at coding (value g.func) (late_gate_site d claim moved c n k g) ∷ []) (sym (add-one l))
  where
    by : (h : Bool) → cond h (rails_gate coding d claim moved c (suc l) k g ∷ []) (plain_gate coding d claim moved c (suc l) k g ∷ [])
        ≡ defined_on coding (value g.func) (gate_rail d claim moved c (suc l) 0 k g) (cond h (Some (gate_rail d claim moved c (suc l) 1 k g)) None) ∷ []
    by true = refl
    by false = refl

-- and of one that has none
pub layer_none_at : (coding : Coding) (d : Design) (claim : Claim) (moved : List (List Bool)) (c l k : ℕ) (g : Gate) → slice_get d.gates k ≡ Some g
    → has_own claim moved l g.out ≡ false → at_place (layer_gate coding d claim moved c l) d.gates k ≡ []
layer_none_at coding d claim moved c l k g at other =
    at_place_is (layer_gate coding d claim moved c l) d.gates k g at
    ∙ cond-true (not (has_own claim moved l g.out)) [] _ (not_from_false (has_own claim moved l g.out) other)

-- the numbers that pass a test, one by one
filter_each : (p : ℕ → Bool) (xs : List ℕ) → flat_map (λ n. cond (p n) (n ∷ []) []) xs ≡ filter p xs
filter_each p [] = refl
filter_each p (x ∷ xs) = by (p x) (filter_each p xs)
  where
    by : (b : Bool) → flat_map (λ n. cond (p n) (n ∷ []) []) xs ≡ filter p xs → cond b (x ∷ []) [] ++ flat_map (λ n. cond (p n) (n ∷ []) []) xs ≡ cond b
        (x ∷ filter p xs) (filter p xs)
    by true rest = ap (λ (ys : List ℕ). x ∷ ys) rest
    by false rest = rest

-- all of them
each_kept : (p : ℕ → Bool) (xs : List ℕ) → ((n : ℕ) → In n xs → p n ≡ true) → flat_map (λ n. cond (p n) (n ∷ []) []) xs ≡ xs
each_kept p [] all = refl
each_kept p (x ∷ xs) all =
    ap (λ (b : Bool). cond b (x ∷ []) [] ++ flat_map (λ n. cond (p n) (n ∷ []) []) xs) (all x (inl refl))
    ∙ ap (λ (ys : List ℕ). x ∷ ys) (each_kept p xs (λ n has. all n (inr has)))

-- some numbers below a limit, each once and ascending, are those below it that are among them
pub in_order_is : (found row : List ℕ) (limit : ℕ) → IsInOrder found row → ((n : ℕ) → Contains found n → n < limit)
    → row ≡ filter (λ n. list_any (λ m. m == n) found) (below limit)
in_order_is found row limit ordered low =
    sym (each_kept among row (λ n has. listed n (ordered.only n (Contains-from_In row n has))))
    ∙ (through (λ n. cond (among n) (n ∷ []) []) limit 0 row
    (Rises-from_pairs 0 row (AllPairs-from_increasing row ordered.ascending) (λ n has. omega arith))
    (λ n has. let lt = low n (ordered.only n (Contains-from_In row n has)) in omega arith)
    (λ n a b. elim (cases_Bool (among n)) [
      | inl is ↦ inl (In-from_Contains row n (ordered.all n (from_listed n is)))
      | inr is_not ↦ inr (ap (λ (b : Bool). cond b (n ∷ []) []) is_not)
    ])
    ∙ (sym (ap (flat_map (λ n. cond (among n) (n ∷ []) [])) (below_is limit)) ∙ filter_each among (below limit)))
  where
    among : ℕ → Bool
    among n = list_any (λ m. m == n) found

    listed : (n : ℕ) → Contains found n → among n ≡ true
    listed n has = list_any_at (λ m. m == n) found has.0 n has.1 (ap (λ m. m == n) has.2 ∙ eq-eqb n n refl)

    from_listed : (n : ℕ) → among n ≡ true → Contains found n
    from_listed n is = Contains-from_any {eq = λ (q m : ℕ). m == q} (λ x y e. sym (eqb-true y x e)) n found is

-- the nets of a start, in order
pub starts_are : (d : Design) (claim : Claim) (found nets : List ℕ) → IsSound d → IsStartIn d claim.start → found ≡ start_nets d claim.start
    → IsInOrder found nets → nets ≡ filter (is_start_net d claim) (below d.nets)
starts_are d claim found nets sound is same ordered =
    in_order_is (start_nets d claim.start) nets d.nets (subst (λ (ns : List ℕ). IsInOrder ns nets) same ordered)
    (λ n has. start_low d claim n sound is has)
