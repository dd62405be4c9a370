-- Designs with clock gates stay so where a clock gate is added, or a register put behind one.
use Rattle.std.proofs.Common.{◌≡◌, ℕ, zero, suc, ◌+◌, ◌<◌, List, [], ◌∷◌, ◌++◌, length, sym, subst, arith, inl, inr}
use Rattle.std.specs.Prelude.{All, Option, Some, None, slice_get, replicate}
use Rattle.std.proofs.lemmas.List.{length_push, length-replicate}
use Rattle.std.proofs.lemmas.List.Elements.{All-nil, All-cons, All-replicate}
use Rattle.net_model.specs.Form.{Form, PinForm}
use Rattle.net_model.specs.Netlist.{IsSound}
use Rattle.net_model.specs.declared.netlist.Design.{Design}
use Rattle.icg_rewrite.specs.declared.clock_gates.ClockGate.{ClockGate}
use Rattle.icg_rewrite.specs.declared.clock_gates.Gated.{Gated}
use Rattle.icg_rewrite.specs.Gated.{IsBelowIfAny, IsGateOf, AreGated}
use Rattle.icg_rewrite.proofs.Lists.{at_append}

-- without clock gates
pub none_gated : (d : Design) (gates : List ClockGate) (of : List (Option ℕ)) (count : ℕ) → IsSound d → gates ≡ [] → count ≡ length d.regs
    → of ≡ replicate count None → AreGated (record { design = d; gates = gates; of = of })
none_gated d gates of count sound none regs is =
    rw none
    (record {
      sound = sound;
      gates = λ k x at. cc;
      each = rw (is, regs) (length-replicate (length d.regs) None);
      behind = rw is (All-replicate (IsBelowIfAny 0) count None tt);
    })

-- a clock gate of one enable
pub one_enable : (d : Design) (k enable : ℕ) (func : Form) (ins : List ℕ) (parent : Option ℕ) → func ≡ PinForm 0 → ins ≡ enable ∷ [] → enable < d.nets
    → IsBelowIfAny k parent → IsGateOf d k (record { func = func; ins = ins; parent = parent })
one_enable d k enable func ins parent f i lt up =
    rw (f, i)
    (record {
      func = omega arith;
      ins = All-cons (λ (n : ℕ). n < d.nets) enable [] lt (All-nil (λ (n : ℕ). n < d.nets));
      few = omega arith;
      parent = up;
    })

-- the last clock gate
last_gate : (d : Design) (n k j : ℕ) (x y : ClockGate) → k ≡ n + j → slice_get (x ∷ []) j ≡ Some y → IsGateOf d n x → IsGateOf d k y
last_gate d n k zero x y is at own =
    let same : x ≡ y = cc in
    let here : n ≡ k = omega (arith, is) in
    subst (λ (m : ℕ). IsGateOf d m y) here (subst (IsGateOf d n) same own)
last_gate d n k (suc j) x y is at own = cc

-- what is below a number is below the next
below_next : (n : ℕ) (gate : Option ℕ) → IsBelowIfAny n gate → IsBelowIfAny (n + 1) gate
below_next n None below = tt
below_next n (Some k) below = omega (arith, below)

-- with a clock gate more
pub gate_added : (g : Gated) (gates : List ClockGate) (x : ClockGate) → gates ≡ g.gates ++ x ∷ [] → IsGateOf g.design (length g.gates) x → AreGated g
    → AreGated (record { design = g.design; gates = gates; of = g.of })
gate_added g gates x is own are =
    subst (λ (xs : List ClockGate). AreGated (record { design = g.design; gates = xs; of = g.of })) (sym is)
    (record {
      sound = are.sound;
      gates = λ k y at. elim (at_append g.gates (x ∷ []) k y at) [
        | inl old ↦ are.gates k y old
        | inr new ↦ last_gate g.design (length g.gates) k new.0 x y new.1 new.2 own
      ];
      each = are.each;
      behind = subst (λ (n : ℕ). All (IsBelowIfAny n) g.of) (sym (length_push g.gates x)) (λ k o lt. below_next (length g.gates) _ (are.behind k o lt));
    })
