-- What defines a key is a gate or a register of the design.
use Rattle.std.proofs.Common.{◌≡◌, ℕ, zero, suc, ◌+◌, ◌-◌, ◌<◌, ◌≤◌, Bool, true, false, cond, List, [], ◌∷◌, length, Option, Some, None, refl, sym}
use Rattle.std.proofs.Common.{subst, arith, nat_lt}
use Rattle.std.specs.Prelude.{◌==◌, ◌&&◌, not}
use Rattle.std.proofs.lemmas.Bool.{and_parts, ltb-true, ltb-false}
use Rattle.net_model.specs.Judge.{judged_count}
use Rattle.net_model.specs.Fits.{Fits, IsEndIn}
use Rattle.net_model.specs.declared.netlist.Design.{Design}
use Rattle.net_model.specs.declared.netlist.Gate.{Gate}
use Rattle.net_model.specs.declared.claims.Claim.{Claim}
use Rattle.net_model.specs.declared.claims.End.{End}
use Rattle.net_model.specs.declared.claims.End.TheVariants.{Reg as RegEnd, Output as OutputEnd}
use Rattle.query_model.specs.Defined.{has_own}
use Rattle.query_model.specs.declared.keys.Key.{Key}
use Rattle.frame_unroll.specs.declared.origins.Origin.{Origin}
use Rattle.frame_unroll.specs.declared.origins.Origin.TheVariants.{Free, Reg as OfReg, Stale}
use Rattle.frame_unroll.specs.Origins.{gate_of, of_gate, base_origin, clause_origin, extra_origin, end_origin, has_rail, late_origin, layer_origin}
use Rattle.frame_unroll.specs.Origins.{claim_origin}
use Rattle.frame_unroll.specs.Found.{IsOriginIn, IsOriginAt}
use Rattle.frame_unroll.proofs.Asking.{judged_few}

-- what holds of both values of a choice
pub if_holds : {X : Type 0} (P : X → Type 0) (b : Bool) (x y : X) → (b ≡ true → P x) → (b ≡ false → P y) → P (cond b x y)
if_holds P true x y on_true on_false = on_true refl
if_holds P false x y on_true on_false = on_false refl

gate_of-below : (gates : List Gate) (k net i : ℕ) → gate_of gates k net ≡ Some i → i < k + length gates
gate_of-below [] k net i is = absurd cc
gate_of-below (g ∷ gs) k net i is = by (g.out == net) is (gate_of-below gs (k + 1) net i)
  where
    by : (b : Bool) → cond b (Some k) (gate_of gs (k + 1) net) ≡ Some i → (gate_of gs (k + 1) net ≡ Some i → i < k + 1 + length gs) → i < k + length (g ∷ gs)
    by true here rest = let e : k ≡ i = cc in omega arith
    by false later rest = let lt = rest later in omega arith

of_gate_in : (d : Design) (gate : Option ℕ) → ((i : ℕ) → gate ≡ Some i → i < length d.gates) → IsOriginIn d (of_gate gate)
of_gate_in d None below = tt
of_gate_in d (Some i) below = below i refl

gate_in : (d : Design) (net : ℕ) → IsOriginIn d (of_gate (gate_of d.gates 0 net))
gate_in d net = of_gate_in d (gate_of d.gates 0 net) (λ i is. let lt = gate_of-below d.gates 0 net i is in omega arith)

of_gate_at : (d : Design) (claim : Claim) (layer : ℕ) (gate : Option ℕ) → layer ≤ length claim.through + 1 → IsOriginIn d (of_gate gate)
    → IsOriginAt d claim layer (of_gate gate)
of_gate_at d claim layer None within is = tt
of_gate_at d claim layer (Some i) within is = (is, within)

pub base_origin_in : (d : Design) (cycles : ℕ) (k : Key) → IsOriginIn d (base_origin d cycles k)
base_origin_in d cycles k =
    let is_bit = nat_lt 0 k.cycle && (nat_lt k.cycle (cycles + 1) && nat_lt k.point (d.nets + length d.regs)) in
    let net : Origin = cond (nat_lt k.cycle cycles) (of_gate (gate_of d.gates 0 k.point)) Free in
    let bit : Origin = cond is_bit (OfReg (k.point - d.nets)) Free in
    if_holds (IsOriginIn d) (nat_lt k.point d.nets) net bit
    (λ low. if_holds (IsOriginIn d) (nat_lt k.cycle cycles) (of_gate (gate_of d.gates 0 k.point)) Free (λ early. gate_in d k.point) (λ late. tt))
    (λ high. if_holds (IsOriginIn d) is_bit (OfReg (k.point - d.nets)) Free
    (λ both.
    let rest = and_parts (nat_lt 0 k.cycle) (nat_lt k.cycle (cycles + 1) && nat_lt k.point (d.nets + length d.regs)) both in
    let lt = ltb-true k.point (d.nets + length d.regs) ((and_parts (nat_lt k.cycle (cycles + 1)) (nat_lt k.point (d.nets + length d.regs)) rest.1).1) in
    let le = ltb-false k.point d.nets high in
    omega arith)
    (λ other. tt))

-- where it is asked about a clause over register bits
pub clause_origin_in : (d : Design) (cycles : ℕ) (k : Key) → IsOriginIn d (clause_origin d cycles k)
clause_origin_in d cycles k = if_holds (IsOriginIn d) ((k.layer == 0) && (k.rail == 0)) (base_origin d cycles k) Free
    (λ first. base_origin_in d cycles k) (λ other. tt)

extra_origin_in : (d : Design) (claim : Claim) (place : ℕ) → Fits d claim → IsOriginIn d (extra_origin claim place)
extra_origin_in d claim zero fits = tt
extra_origin_in d claim (suc zero) fits = tt
extra_origin_in d claim (suc (suc zero)) fits = tt
extra_origin_in d claim (suc (suc (suc r))) fits =
    if_holds (IsOriginIn d) (nat_lt r (judged_count claim - 1)) (Stale (r + 1)) Free
    (λ judged. omega (arith, ltb-true r (judged_count claim - 1) judged, judged_few d claim fits)) (λ other. tt)

cycle_origin_in : (d : Design) (claim : Claim) (moved : List (List Bool)) (cycles : ℕ) (k : Key) → Fits d claim
    → IsOriginIn d (layer_origin d claim moved cycles k 0)
cycle_origin_in d claim moved cycles k fits =
    let extra : Origin = cond (nat_lt k.cycle cycles) (extra_origin claim (k.point - (d.nets + length d.regs))) Free in
    let first : Origin = cond (nat_lt k.point (d.nets + length d.regs)) (base_origin d cycles k) extra in
    if_holds (IsOriginIn d) (not (k.rail == 0)) Free first (λ railed. tt)
    (λ plain. if_holds (IsOriginIn d) (nat_lt k.point (d.nets + length d.regs)) (base_origin d cycles k) extra (λ low. base_origin_in d cycles k)
    (λ high. if_holds (IsOriginIn d) (nat_lt k.cycle cycles) (extra_origin claim (k.point - (d.nets + length d.regs))) Free
    (λ early. extra_origin_in d claim (k.point - (d.nets + length d.regs)) fits) (λ late. tt)))

end_origin_at : (d : Design) (claim : Claim) (layer : ℕ) (end : End) → IsEndIn d end → IsOriginAt d claim layer (end_origin end)
end_origin_at d claim layer (RegEnd r) is = is
end_origin_at d claim layer (OutputEnd o) is = tt

late_origin_at : (d : Design) (claim : Claim) (moved : List (List Bool)) (l : ℕ) (k : Key) → Fits d claim → l ≤ length claim.through
    → IsOriginAt d claim (suc l) (late_origin d claim moved l k)
late_origin_at d claim moved l k fits within =
    let net : Origin = cond (has_own claim moved l k.point) (of_gate (gate_of d.gates 0 k.point)) Free in
    let is_late = (k.point == d.nets + length d.regs) && (l == length claim.through) in
    let late : Origin = cond is_late (end_origin claim.end) Free in
    if_holds (IsOriginAt d claim (suc l)) (nat_lt k.point d.nets) net late
    (λ low. if_holds (IsOriginAt d claim (suc l)) (has_own claim moved l k.point) (of_gate (gate_of d.gates 0 k.point)) Free
    (λ own. of_gate_at d claim (suc l) (gate_of d.gates 0 k.point) (omega arith) (gate_in d k.point)) (λ other. tt))
    (λ high. if_holds (IsOriginAt d claim (suc l)) is_late (end_origin claim.end) Free (λ is. end_origin_at d claim (suc l) claim.end fits.end_) (λ other. tt))

layer_origin_at : (d : Design) (claim : Claim) (moved : List (List Bool)) (cycles : ℕ) (k : Key) (l : ℕ) → Fits d claim → IsOriginAt d claim (suc l)
    (layer_origin d claim moved cycles k (suc l))
layer_origin_at d claim moved cycles k l fits =
    let in_time = nat_lt k.cycle cycles in
    let in_layers = nat_lt l (length claim.through + 1) in
    if_holds (IsOriginAt d claim (suc l)) (in_time && (in_layers && has_rail claim k.rail)) (late_origin d claim moved l k) Free
    (λ all.
    let rest = and_parts in_time (in_layers && has_rail claim k.rail) all in
    let lt = ltb-true l (length claim.through + 1) ((and_parts in_layers (has_rail claim k.rail) rest.1).0) in
    late_origin_at d claim moved l k fits (omega arith))
    (λ other. tt)

-- where it is asked about a claim: in a cycle itself
pub claim_origin_in : (d : Design) (claim : Claim) (moved : List (List Bool)) (cycles : ℕ) (k : Key) → Fits d claim → k.layer ≡ 0
    → IsOriginIn d (claim_origin d claim moved cycles k)
claim_origin_in d claim moved cycles k fits first =
    subst (λ (l : ℕ). IsOriginIn d (layer_origin d claim moved cycles k l)) (sym first) (cycle_origin_in d claim moved cycles k fits)

-- and in a layer after it
pub claim_origin_at : (d : Design) (claim : Claim) (moved : List (List Bool)) (cycles : ℕ) (k : Key) → Fits d claim → 0 < k.layer
    → IsOriginAt d claim k.layer (claim_origin d claim moved cycles k)
claim_origin_at d claim moved cycles k fits late =
    let e : suc (k.layer - 1) ≡ k.layer = omega arith in
    subst (λ (l : ℕ). IsOriginAt d claim l (layer_origin d claim moved cycles k l)) e (layer_origin_at d claim moved cycles k (k.layer - 1) fits)
