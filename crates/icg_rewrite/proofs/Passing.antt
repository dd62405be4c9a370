-- In each cycle there is exactly one row of bits of the clock gates.
use Rattle.std.proofs.Common.{◌≡◌, ℕ, zero, suc, ◌+◌, ◌<◌, ◌≤◌, Bool, false, ◌&&◌, List, [], ◌∷◌, ◌++◌, length, refl, ap, sym}
use Rattle.std.proofs.Common.{◌∙◌, subst, arith, below_more, add-one}
use Rattle.std.specs.Prelude.{Option, Some, None, slice_get}
use Rattle.std.proofs.lemmas.List.{get_or_append_left, get_or-append-add, length_push, same_lists, get_or_default}
use Rattle.std.proofs.lemmas.Option.{slice_get_within}
use Rattle.net_model.specs.Form.{value}
use Rattle.net_model.specs.Cycles.{bit_at, gate_pins}
use Rattle.icg_rewrite.specs.declared.clock_gates.ClockGate.{ClockGate}
use Rattle.icg_rewrite.specs.declared.clock_gates.Gated.{Gated}
use Rattle.icg_rewrite.specs.Gated.{IsBelowIfAny, AreGated}
use Rattle.icg_rewrite.specs.Runs.{passes, ArePassing}
use Rattle.icg_rewrite.proofs.Lists.{item_at}

-- whether a clock gate passes, by the bits of the clock gates above it
abbrev passes_by : List Bool → List Bool → ClockGate → Bool
passes_by nets row x = value x.func (gate_pins x.ins nets) && passes row x.parent

-- the first k clock gates have their bits
record FirstPassing (gates : List ClockGate) (nets row : List Bool) (k : ℕ) : Type 0 where
  len : length row ≡ k
  each : (j : ℕ) → j < k → (x : ClockGate) → slice_get gates j ≡ Some x → bit_at row j ≡ passes_by nets row x

-- what rows that agree below k say of a clock gate below k
passes_same : (a b : List Bool) (k : ℕ) (gate : Option ℕ) → IsBelowIfAny k gate → ((j : ℕ) → j < k → bit_at a j ≡ bit_at b j) → passes a gate ≡ passes b gate
passes_same a b k None below same = refl
passes_same a b k (Some j) below same = same j below

-- one more clock gate
passing_more : (g : Gated) (nets row : List Bool) (k : ℕ) (x : ClockGate) → AreGated g → slice_get g.gates k ≡ Some x → FirstPassing g.gates nets row k
    → FirstPassing g.gates nets (row ++ passes_by nets row x ∷ []) (k + 1)
passing_more g nets row k x are at first =
    let kept : (j : ℕ) → j < k → bit_at row j ≡ bit_at (row ++ passes_by nets row x ∷ []) j =
    λ j lt. sym (get_or_append_left row (passes_by nets row x ∷ []) false j (omega (arith, first.len))) in
    let above : (j : ℕ) (y : ClockGate) → j ≤ k → slice_get g.gates j ≡ Some y → passes_by nets row y ≡ passes_by nets (row ++ passes_by nets row x ∷ []) y =
    λ j y le there. ap (λ (b : Bool). value y.func (gate_pins y.ins nets) && b)
    (passes_same row (row ++ passes_by nets row x ∷ []) j y.parent (are.gates j y there).parent (λ i lt. kept i (omega arith))) in
    let place : k ≡ length row + 0 = omega (arith, first.len) in
    record {
      len = length_push row (passes_by nets row x) ∙ ap (λ (n : ℕ). n + 1) first.len;
      each =
          below_more (λ j. (y : ClockGate) → slice_get g.gates j ≡ Some y → bit_at (row ++ passes_by nets row x ∷ []) j
          ≡ passes_by nets (row ++ passes_by nets row x ∷ []) y) k
          (λ j lt y there. sym (kept j lt) ∙ (first.each j lt y there ∙ above j y (omega arith) there))
          (λ y there.
          let same : x ≡ y = cc in
          ap (λ (i : ℕ). bit_at (row ++ passes_by nets row x ∷ []) i) place
          ∙ (get_or-append-add row (passes_by nets row x ∷ []) 0 false
          ∙ (ap (λ (z : ClockGate). passes_by nets row z) same ∙ above k y (omega arith) there)));
    }

first_passing : (g : Gated) (nets : List Bool) (k : ℕ) → AreGated g → k ≤ length g.gates → (row : List Bool) × FirstPassing g.gates nets row k
first_passing g nets zero are le = ([], record { len = refl; each = λ j lt. absurd (omega arith) })
first_passing g nets (suc k) are le =
    let more = first_passing g nets k are (omega arith) in
    let x = item_at g.gates k (omega arith) in (
      more.0 ++ passes_by nets more.0 x.0 ∷ [],
      subst (FirstPassing g.gates nets (more.0 ++ passes_by nets more.0 x.0 ∷ [])) (add-one k) (passing_more g nets more.0 k x.0 are x.1 more.1),
    )

-- the bits of the clock gates, where nets have these bits
pub row_of : (g : Gated) → AreGated g → List Bool → List Bool
row_of g are nets = (first_passing g nets (length g.gates) are (omega arith)).0

pub row_is_passing : (g : Gated) (are : AreGated g) (nets : List Bool) → ArePassing g.gates nets (row_of g are nets)
unfolding row_of
row_is_passing g are nets =
    let first = (first_passing g nets (length g.gates) are (omega arith)).1 in
    record { len = first.len; each = λ k x at. first.each k (slice_get_within g.gates k x at) x at }

-- rows of the clock gates agree below each number
agree_below : (g : Gated) (nets a b : List Bool) (k : ℕ) → AreGated g → ArePassing g.gates nets a → ArePassing g.gates nets b → k ≤ length g.gates
    → (j : ℕ) → j < k → bit_at a j ≡ bit_at b j
agree_below g nets a b zero are one other le = λ j lt. absurd (omega arith)
agree_below g nets a b (suc k) are one other le = λ j lt.
    let below = agree_below g nets a b k are one other (omega arith) in
    let x = item_at g.gates k (omega arith) in
    below_more (λ i. bit_at a i ≡ bit_at b i) k below
    (one.each k x.0 x.1 ∙ (ap (λ (bit : Bool). value x.0.func (gate_pins x.0.ins nets) && bit)
    (passes_same a b k x.0.parent (are.gates k x.0 x.1).parent below) ∙ sym (other.each k x.0 x.1)))
    j (omega arith)

-- so there is one
pub row_once : (g : Gated) (nets a b : List Bool) → AreGated g → ArePassing g.gates nets a → ArePassing g.gates nets b → a ≡ b
row_once g nets a b are one other =
    same_lists a b (one.len ∙ sym other.len)
    (λ k o lt. get_or_default a k o false lt ∙ (agree_below g nets a b (length g.gates) are one other (omega arith) k (omega (arith, one.len))
    ∙ get_or_default b k false o (omega (arith, one.len, other.len))))
