-- In a sound design no two inputs, gates or register bits have one point.
use Rattle.std.proofs.Common.{◌≡◌, ℕ, zero, suc, ◌+◌, ◌<◌, ◌≤◌, List, [], ◌∷◌, length, Some, ap, arith, inl, inr, ◌∙◌, get_or}
use Rattle.std.specs.Prelude.{slice_get, count_by, Contains, ◌==◌, flat_map, option_map}
use Rattle.std.proofs.lemmas.Bool.{cases_order}
use Rattle.std.proofs.lemmas.Option.{slice_get_within, slice_get-get_or, slice_get-map, get_or_from_slice_get}
use Rattle.std.proofs.lemmas.List.{length-map}
use Rattle.std.proofs.lemmas.List.Elements.{All-contains, All-from_get_or, All-map}
use Rattle.std.proofs.lemmas.List.FromFn.{length-range_with_len, get_or-range_with_len}
use Rattle.net_model.proofs.Order.{count_append, count_cons, count_contains, counted}
use Rattle.net_model.specs.Netlist.{IsSound, AllBelow, source_nets, reg_nets, gate_nets}
use Rattle.net_model.specs.declared.netlist.Design.{Design}
use Rattle.net_model.specs.declared.netlist.Gate.{Gate}
use Rattle.query_model.specs.Keys.{below}
use Rattle.cnf_encode.specs.Coned.{gate_points, bit_points}
use Rattle.cnf_encode.proofs.Covered.{below_is}
use Rattle.cnf_encode.specs.Placed.{StandOnce}

-- a point that stands at two places is counted twice
twice : (points : List ℕ) (j k p : ℕ) → j < k → slice_get points j ≡ Some p → slice_get points k ≡ Some p → 2 ≤ count_by (λ m. m == p) points
twice [] j k p lt at there = absurd cc
twice (x ∷ points) j zero p lt at there = absurd (omega arith)
twice (x ∷ points) zero (suc k) p lt at there =
    let same : x ≡ p = cc in
    let later : Contains points p = (k, slice_get_within points k p there, get_or_from_slice_get points k p p there) in
    omega (arith, count_cons (λ m. m == p) x points, counted p x same, count_contains p points later)
twice (x ∷ points) (suc j) (suc k) p lt at there =
    omega (arith, count_cons (λ m. m == p) x points, twice points j k p (omega arith) at there)

-- points that are each counted once
pub once_from_count : (points : List ℕ) → ((p : ℕ) → Contains points p → count_by (λ m. m == p) points ≤ 1) → StandOnce points
once_from_count points few j k p at there =
    let has : Contains points p = (j, slice_get_within points j p at, get_or_from_slice_get points j p p at) in
    let one = few p has in
    elim (cases_order j k) [
      | inl same ↦ same
      | inr (inl less) ↦ absurd (omega (arith, one, twice points j k p less at there))
      | inr (inr more) ↦ absurd (omega (arith, one, twice points k j p more there at))
    ]

-- of inputs
pub inputs_once : (d : Design) → IsSound d → StandOnce d.inputs
inputs_once d sound =
    once_from_count d.inputs (λ p has.
    let low : p < d.nets = All-contains (λ n. n < d.nets) d.inputs p sound.in_range.inputs has in
    let one = sound.one_driver p low in
    let sources = count_append (λ m. m == p) (source_nets d) (gate_nets d.gates) in
    let inputs = count_append (λ m. m == p) d.inputs (flat_map reg_nets d.regs) in
    omega (arith, one, sources, inputs))

-- of gates
pub gates_below : (d : Design) → IsSound d → AllBelow d.nets (gate_points d)
gates_below d sound = All-map (λ n. n < d.nets) (λ (g : Gate). g.out) d.gates (λ k g lt. let range = sound.in_range.gates k g lt in range.out)

pub gates_once : (d : Design) → IsSound d → StandOnce (gate_points d)
gates_once d sound =
    once_from_count (gate_points d) (λ p has.
    let low : p < d.nets = All-contains (λ n. n < d.nets) (gate_points d) p (gates_below d sound) has in
    let one = sound.one_driver p low in
    let sources = count_append (λ m. m == p) (source_nets d) (gate_nets d.gates) in
    omega (arith, one, sources))

-- the number at a place among those below n is that place
pub length-below : (n : ℕ) → length (below n) ≡ n
length-below n = ap length (below_is n) ∙ length-range_with_len 0 n

below_at : (n j : ℕ) → j < n → slice_get (below n) j ≡ Some j
below_at n j lt =
    let at : slice_get (below n) j ≡ Some (get_or (below n) j 0) = slice_get-get_or (below n) j 0 (omega (arith, length-below n)) in
    let is : get_or (below n) j 0 ≡ 0 + j = ap (λ (ns : List ℕ). get_or ns j 0) (below_is n) ∙ get_or-range_with_len 0 n j 0 lt in
    let same : get_or (below n) j 0 ≡ j = omega (arith, is) in
    at ∙ ap Some same

-- of register bits
pub bit_at_place : (d : Design) (j p : ℕ) → slice_get (bit_points d) j ≡ Some p → (p ≡ d.nets + j) × (j < length d.regs)
bit_at_place d j p at =
    let lt : j < length d.regs = omega (
      arith,
      slice_get_within (bit_points d) j p at,
      length-map (below (length d.regs)) (λ r. d.nets + r),
      length-below (length d.regs),
    ) in
    let is : slice_get (bit_points d) j ≡ Some (d.nets + j) = slice_get-map (λ r. d.nets + r) (below (length d.regs)) j
    ∙ ap (option_map (λ r. d.nets + r)) (below_at (length d.regs) j lt) in
    (cc, lt)

pub bits_once : (d : Design) → StandOnce (bit_points d)
bits_once d j k p at there = let a = bit_at_place d j p at in let b = bit_at_place d k p there in omega (arith, a.0, b.0)

pub bits_below : (d : Design) → AllBelow (d.nets + length d.regs) (bit_points d)
bits_below d =
    All-from_get_or (λ n. n < d.nets + length d.regs) (bit_points d) 0 (λ j lt.
    let a = bit_at_place d j (get_or (bit_points d) j 0) (slice_get-get_or (bit_points d) j 0 lt) in omega (arith, a.0, a.1))
