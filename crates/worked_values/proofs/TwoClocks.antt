-- Two registers on two clocks, of which one is judged: where the register of the other is kept, it is not the netlist that is judged.
use Rattle.std.proofs.Common.{◌≡◌, ℕ, zero, suc, Bool, true, false, List, [], ◌∷◌, refl, ap, sym, ◌∙◌, arith}
use Rattle.std.specs.Prelude.{None}
use Rattle.sdcv_base.specs.Seqs.{is_marked}
use Rattle.net_model.specs.Form.{PinForm}
use Rattle.net_model.specs.declared.netlist.Reg.{Reg}
use Rattle.link_defs.specs.declared.circuits.Part.{Part}
use Rattle.link_defs.specs.declared.circuits.Part.TheVariants as part
use Rattle.link_defs.specs.Circuits.{OnTree, Root, Buffered, Gated}
use Rattle.link_defs.specs.Cuts.{IsEven}
use Rattle.link_defs.specs.Judged.{FlatNetlist, IsJudged, on_clock}

-- module top (input clk, ck2, d, output y); DFF a (.D(d), .CK(clk), .Q(qa)); DFF b (.D(qa), .CK(ck2), .Q(y)); endmodule
-- the nets are clk, ck2, d, qa, y
abbrev flop : ℕ → ℕ → Reg
flop from to = record { next = PinForm 0; clear = None; preset = None; both = false; ins = from ∷ []; outs = (record { net = to; inverted = false }) ∷ [] }

abbrev first : Part
first = part.Flop 0 (flop 2 3)

abbrev second : Part
second = part.Flop 1 (flop 3 4)

abbrev netlist : List Part → FlatNetlist
netlist parts = record {
  circuit = record { nets = 5; clocks = 0 ∷ []; inputs = 1 ∷ 2 ∷ []; outputs = 4 ∷ []; parts = parts };
  found = [];
  cells = [];
}

abbrev both : FlatNetlist
both = netlist (first ∷ second ∷ [])

-- no part hands the clock on, so its own net alone is on the tree
clock_alone : (net : ℕ) (odd : Bool) → OnTree both.circuit net odd → net ≡ 0
clock_alone net odd (Root clock (zero, below, is)) = sym is
clock_alone net odd (Root clock (suc k, below, is)) = absurd (omega (arith, below))
clock_alone net odd (Buffered from gates g even (zero, below, is) there on) = cc
clock_alone net odd (Buffered from gates g even (suc zero, below, is) there on) = cc
clock_alone net odd (Buffered from gates g even (suc (suc k), below, is) there on) = absurd (omega (arith, below))
clock_alone net odd (Gated clock enables out (zero, below, is) on) = cc
clock_alone net odd (Gated clock enables out (suc zero, below, is) on) = cc
clock_alone net odd (Gated clock enables out (suc (suc k), below, is) on) = absurd (omega (arith, below))

not_true : (b : Bool) → (b ≡ true → ⊥) → b ≡ false
not_true true apart = absurd (apart refl)
not_true false apart = refl

-- by each row the first register is on the clock, and the second one is not
first_is_even : (even : List Bool) → IsEven both.circuit even → is_marked even 0 ≡ true
first_is_even even is = (is 0).1 (Root 0 (0, omega arith, refl))

second_is_not : (even : List Bool) → IsEven both.circuit even → is_marked even 1 ≡ false
second_is_not even is = not_true (is_marked even 1) (λ hit. absurd (omega (arith, clock_alone 1 false ((is 1).0 hit))))

-- so the first stands as it stood, and nothing is left of the second
left : (even : List Bool) → IsEven both.circuit even → (on_clock even first ∷ on_clock even second ∷ []) ≡ (first ∷ part.Comb false [] [] ∷ [])
left even is = rw (first_is_even even is, second_is_not even is) refl

judged_parts : (j : FlatNetlist) → IsJudged true both j → j.circuit.parts ≡ (first ∷ part.Comb false [] [] ∷ [])
judged_parts j judged = ap (λ (n : FlatNetlist). n.circuit.parts) judged.is ∙ left judged.even (judged.even_is refl)

-- a netlist in which it stays on its own clock is not the one that is judged
register_of_another_clock_is_kept : ¬ IsJudged true both both
register_of_another_clock_is_kept judged =
    let same : (first ∷ second ∷ []) ≡ (first ∷ part.Comb false [] [] ∷ []) = judged_parts both judged in cc

-- nor is one in which it stands on the judged clock
register_of_another_clock_is_judged : ¬ IsJudged true both (netlist (first ∷ part.Flop 0 (flop 3 4) ∷ []))
register_of_another_clock_is_judged judged =
    let same : (first ∷ part.Flop 0 (flop 3 4) ∷ []) ≡ (first ∷ part.Comb false [] [] ∷ []) =
    judged_parts (netlist (first ∷ part.Flop 0 (flop 3 4) ∷ [])) judged in cc
