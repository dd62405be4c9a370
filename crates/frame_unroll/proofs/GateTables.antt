-- The gates that drive the nets, from the last gate to the first.
use Rattle.std.proofs.Common.{◌≡◌, ℕ, ◌+◌, ◌-◌, ◌<◌, ◌≤◌, Bool, List, [], drop, length, set, Option, Some, None, ap, sym, ◌∙◌, subst, arith, inl, inr}
use Rattle.std.proofs.Common.{get_or-set_other, get_or-set_same}
use Rattle.std.specs.Prelude.{slice_get, ◌==◌, if◌then◌else◌}
use Rattle.std.proofs.lemmas.Bool.{cases_eq, eq-eqb, ne_eqb}
use Rattle.std.proofs.lemmas.List.{drop_all}
use Rattle.net_model.specs.declared.netlist.Design.{Design}
use Rattle.net_model.specs.declared.netlist.Gate.{Gate}
use Rattle.frame_unroll.specs.Origins.{gate_of}
use Rattle.frame_unroll.specs.Found.{gate_at, AreNetGates}
use Rattle.frame_unroll.proofs.Driving.{from_place}

-- one more gate, going back
pub gates_back : (gates : List Gate) (table : List (Option ℕ)) (count i : ℕ) (gate : Gate) → i < count → slice_get gates (count - 1 - i) ≡ Some gate
    → gate.out < length table → ((n : ℕ) → gate_at table n ≡ gate_of (drop (count - i) gates) (count - i) n) → (n : ℕ)
    → gate_at (set table gate.out (Some (count - 1 - i))) n ≡ gate_of (drop (count - (i + 1)) gates) (count - (i + 1)) n
gates_back gates table count i gate lt at low done n =
    let k = count - 1 - i in
    let up : count - i ≡ k + 1 = omega arith in
    let down : count - (i + 1) ≡ k = omega arith in
    let rest : Option ℕ = gate_of (drop (k + 1) gates) (k + 1) n in
    let here : gate_of (drop (count - (i + 1)) gates) (count - (i + 1)) n ≡ (if gate.out == n then Some k else rest) =
    ap (λ (m : ℕ). gate_of (drop m gates) m n) down ∙ ap (λ (gs : List Gate). gate_of gs k n) (from_place gates k gate at) in
    elim (cases_eq n gate.out) [
      | inl same ↦
          let hit : gate_of (drop (count - (i + 1)) gates) (count - (i + 1)) n ≡ Some k = here ∙ ap (λ (b : Bool). if b then Some k else rest)
          (eq-eqb gate.out n (sym same)) in
          let now : gate_at (set table gate.out (Some k)) n ≡ Some k = subst (λ (m : ℕ). gate_at (set table gate.out (Some k)) m ≡ Some k) (sym same)
          (get_or-set_same table gate.out (Some k) None low) in
          now ∙ sym hit
      | inr apart ↦
          let miss : gate_of (drop (count - (i + 1)) gates) (count - (i + 1)) n ≡ rest = here ∙ ap (λ (b : Bool). if b then Some k else rest)
          (ne_eqb gate.out n (λ e. apart (sym e))) in
          get_or-set_other table gate.out n (Some k) None apart ∙ (done n ∙ ap (λ (m : ℕ). gate_of (drop m gates) m n) up ∙ sym miss)
    ]

-- before the first one
pub gates_none : (gates : List Gate) (table : List (Option ℕ)) (count n : ℕ) → count ≡ length gates → gate_at table n ≡ None
    → gate_at table n ≡ gate_of (drop (count - 0) gates) (count - 0) n
gates_none gates table count n all free =
    let none : drop (count - 0) gates ≡ [] = drop_all (count - 0) gates (omega arith) in
    free ∙ sym (ap (λ (gs : List Gate). gate_of gs (count - 0) n) none)

-- all gates
pub gates_all : (d : Design) (table : List (Option ℕ)) (count i : ℕ) → length table ≡ d.nets → count ≤ i
    → ((n : ℕ) → gate_at table n ≡ gate_of (drop (count - i) d.gates) (count - i) n) → AreNetGates d table
gates_all d table count i len le done =
    let all : count - i ≡ 0 = omega arith in
    record { len = len; gates = λ n. done n ∙ ap (λ (m : ℕ). gate_of (drop m d.gates) m n) all }
