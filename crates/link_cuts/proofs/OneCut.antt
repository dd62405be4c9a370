-- What is left of a circuit is one circuit.
use Rattle.std.proofs.Common.{◌≡◌, ℕ, Bool, true, not, ◌&&◌, ◌||◌, List, [], ◌∷◌, ◌++◌, map, refl, ap, sym, ◌∙◌, arith, append-nil, inl, inr}
use Rattle.std.specs.Prelude.{Contains, flat_map}
use Rattle.std.specs.List.{list_any}
use Rattle.std.proofs.lemmas.Bool.{cases_Bool}
use Rattle.std.proofs.lemmas.List.Elements.{Contains-get_or, filter_agree}
use Rattle.net_model.proofs.Members.{In-from_Contains}
use Rattle.sdcv_base.specs.Seqs.{is_marked}
use Rattle.link_defs.specs.declared.circuits.Circuit.{Circuit}
use Rattle.link_defs.specs.declared.cuts.CutCell.{CutCell}
use Rattle.link_defs.specs.declared.cuts.CutPin.{CutPin}
use Rattle.link_defs.specs.declared.cuts.CutPin.{CutPin}
use Rattle.link_defs.specs.Circuits.{all_drivers}
use Rattle.link_defs.specs.Cuts.{Tree, IsTreeOf, IsCut, OwnedPin, owned_pins, net_of, may_read, is_in, stands_in, free_nets, is_clocked, reads_data, is_sink}
use Rattle.link_defs.specs.Cuts.{sink_pins, cut_circuit}

-- bits that are 1 together are one
bits_same : (a b : Bool) → (a ≡ true → b ≡ true) → (b ≡ true → a ≡ true) → a ≡ b
bits_same a b to from = elim (cases_Bool a) [
  | inl hit ↦ hit ∙ sym (to hit)
  | inr miss ↦ elim (cases_Bool b) [ inl hit ↦ from hit ∙ sym hit | inr none ↦ miss ∙ sym none ]
]

all_same : (c : Circuit) (s t : Tree) → IsTreeOf c s → IsTreeOf c t → (net : ℕ) → is_marked s.all net ≡ is_marked t.all net
all_same c s t is_s is_t net =
    bits_same (is_marked s.all net) (is_marked t.all net) (λ hit. (is_t.all net).1 ((is_s.all net).0 hit))
    (λ hit. (is_s.all net).1 ((is_t.all net).0 hit))

even_same : (c : Circuit) (s t : Tree) → IsTreeOf c s → IsTreeOf c t → (net : ℕ) → is_marked s.even net ≡ is_marked t.even net
even_same c s t is_s is_t net =
    bits_same (is_marked s.even net) (is_marked t.even net) (λ hit. (is_t.even net).1 ((is_s.even net).0 hit))
    (λ hit. (is_s.even net).1 ((is_t.even net).0 hit))

any_same : (s t : List Bool) → ((net : ℕ) → is_marked s net ≡ is_marked t net) → (pins : List CutPin)
    → list_any (λ (p : CutPin). is_marked s p.net) pins ≡ list_any (λ (p : CutPin). is_marked t p.net) pins
any_same s t same [] = refl
any_same s t same (p ∷ ps) =
    ap (λ (b : Bool). b || list_any (λ (q : CutPin). is_marked s q.net) ps) (same p.net) ∙ ap (λ (b : Bool). is_marked t p.net || b) (any_same s t same ps)

sink_agrees : (c : Circuit) (s t : Tree) (free : List ℕ) (p : OwnedPin) → IsTreeOf c s → IsTreeOf c t → is_sink c s free p ≡ is_sink c t free p
sink_agrees c s t free p is_s is_t =
    ap (λ (b : Bool). (p.cell.clocked && b) && reads_data c s free p.pin) (any_same s.even t.even (even_same c s t is_s is_t) p.cell.pins)
    ∙ ap (λ (b : Bool). is_clocked t p.cell
    && (not b && ((may_read p.pin.way && stands_in (all_drivers c) p.pin.net) || (is_in p.pin.way && stands_in free p.pin.net))))
    (all_same c s t is_s is_t p.pin.net)

-- the sinks go by the clock tree alone
sinks_agree : (c : Circuit) (s t : Tree) (cells : List CutCell) → IsTreeOf c s → IsTreeOf c t → sink_pins c s cells ≡ sink_pins c t cells
sinks_agree c s t cells is_s is_t =
    filter_agree (is_sink c s (free_nets c cells)) (is_sink c t (free_nets c cells)) (λ p. sink_agrees c s t (free_nets c cells) p is_s is_t)
    (flat_map owned_pins cells)

left_same : (c : Circuit) (s t : Tree) (cells : List CutCell) → sink_pins c s cells ≡ sink_pins c t cells → cut_circuit c s cells ≡ cut_circuit c t cells
unfolding cut_circuit
left_same c s t cells same = ap (λ (ps : List OwnedPin). record {
  nets = c.nets;
  clocks = c.clocks;
  inputs = c.inputs ++ free_nets c cells;
  outputs = c.outputs ++ map net_of ps;
  parts = c.parts;
}) same

pub one_cut : (c k j : Circuit) (cells : List CutCell) → IsCut c cells k → IsCut c cells j → k ≡ j
one_cut c k j [] one two = one.is ∙ left_same c one.tree two.tree [] refl ∙ sym two.is
one_cut c k j (x ∷ xs) one two =
    let here : Contains (x ∷ xs) x = Contains-get_or (x ∷ xs) 0 x (omega arith) in
    one.is ∙ left_same c one.tree two.tree (x ∷ xs) (sinks_agree c one.tree two.tree (x ∷ xs) (one.tree_is x here) (two.tree_is x here)) ∙ sym two.is

-- where nothing is cut, all is left
whole_is : (c : Circuit) (t : Tree) → c ≡ cut_circuit c t []
unfolding cut_circuit
whole_is c t =
    sym (ap (λ (ns : List ℕ). record { nets = c.nets; clocks = c.clocks; inputs = ns; outputs = c.outputs ++ []; parts = c.parts }) (append-nil c.inputs)
    ∙ ap (λ (ns : List ℕ). record { nets = c.nets; clocks = c.clocks; inputs = c.inputs; outputs = ns; parts = c.parts }) (append-nil c.outputs))

pub none_cut : (c : Circuit) → IsCut c [] c
none_cut c = record {
  tree = record { all = []; even = [] };
  tree_is = λ x has. absurd (In-from_Contains [] x has);
  is = whole_is c (record { all = []; even = [] });
}
