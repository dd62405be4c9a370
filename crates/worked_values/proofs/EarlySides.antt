-- The early side of a false path: which claims have one, and a capture that is bad on it.
use Rattle.std.proofs.Common.{◌≡◌, ℕ, Bool, true, false, List, [], ◌∷◌, length, None, Some, refl, inl, inr, subst, arith}
use Rattle.std.specs.Prelude.{Contains, slice_index_or, slice_get}
use Rattle.std.proofs.lemmas.List.Elements.{All-nil, All-cons}
use Rattle.sdcv_base.specs.declared.kinds.Kind.TheVariants.{False, Multi}
use Rattle.sdcv_base.specs.declared.kinds.Edge.TheVariants.{Any}
use Rattle.net_model.specs.Form.{PinForm, value}
use Rattle.net_model.specs.declared.netlist.Design.{Design}
use Rattle.net_model.specs.declared.netlist.Gate.{Gate}
use Rattle.net_model.specs.declared.netlist.RegOut.{RegOut}
use Rattle.net_model.specs.declared.cycles.Cycle.{Cycle}
use Rattle.net_model.specs.declared.claims.Claim.{Claim}
use Rattle.net_model.specs.declared.claims.Start.TheVariants.{Reg as RegStart}
use Rattle.net_model.specs.declared.claims.End.TheVariants.{Reg as RegEnd}
use Rattle.net_model.specs.Cycles.{shown}
use Rattle.net_model.specs.Fits.{IsSideFit}
use Rattle.net_model.specs.Judge.{IsEarlyBad}
use Rattle.net_model.specs.Layers.{row_at, net_at, AreLayers}
use Rattle.net_model.specs.Netlist.{source_nets}
use Rattle.net_model.specs.Pins.{start_nets}
use Rattle.net_model.proofs.Members.{In, In-from_Contains, Contains-from_In}

-- a multicycle path has no early side
multicycle_path_has_no_early_side : ¬ IsSideFit true (Multi 2) 0
multicycle_path_has_no_early_side fit = fit

-- and the early side of a false path no lag
early_side_with_a_lag_is_refused : ¬ IsSideFit true False 1
early_side_with_a_lag_is_refused fit = omega (arith, fit)

-- two registers in a row, the first one fed by an input
abbrev design : Design
design = record {
  nets = 3;
  gates = [];
  regs =
      record { next = PinForm 0; clear = None; preset = None; both = false; ins = 0 ∷ []; outs = record { net = 1; inverted = false } ∷ [] }
      ∷ record { next = PinForm 0; clear = None; preset = None; both = false; ins = 1 ∷ []; outs = record { net = 2; inverted = false } ∷ [] } ∷ [];
  inputs = 0 ∷ [];
  outputs = [];
  fixed = [];
  resets = [];
  reset_len = 0;
}

-- the early side of a false path from the first to the second
abbrev claim : Claim
claim = record { kind = False; edge = Any; lag = 0; hazard = false; early = true; start = RegStart 0; end = RegEnd 1; through = [] }

-- a cycle with this bit of the first register, and the input that it takes
abbrev cycle : Bool → Bool → Cycle
cycle first input = record { bits = first ∷ false ∷ []; ins = input ∷ []; nets = input ∷ first ∷ false ∷ [] }

-- that cycle's nets where the first register, which is 0, shows a 1
abbrev early_row : List (List Bool)
early_row = (true ∷ true ∷ false ∷ []) ∷ []

other_nets : (n : ℕ) → In n (source_nets design) → ¬ Contains (start_nets design (RegStart 0)) n
    → net_at false early_row 0 n ≡ slice_index_or (true ∷ false ∷ false ∷ []) n false
other_nets n (inl here) not = subst (λ i. net_at false early_row 0 i ≡ slice_index_or (true ∷ false ∷ false ∷ []) i false) here refl
other_nets n (inr (inl here)) not = absurd (not (Contains-from_In (start_nets design (RegStart 0)) n (inl here)))
other_nets n (inr (inr (inl here))) not = subst (λ i. net_at false early_row 0 i ≡ slice_index_or (true ∷ false ∷ false ∷ []) i false) here refl
other_nets n (inr (inr (inr none))) not = absurd none

no_gate : (k : ℕ) (g : Gate) → slice_get design.gates k ≡ Some g → ⊥
no_gate k g at = cc

early_layers : AreLayers value false design (RegStart 0) [] (λ o. shown o true) (cycle false true).nets early_row
early_layers = record {
  count = omega arith;
  lens = λ l le. let e : 0 ≡ l = omega (arith, le) in subst (λ i. length (row_at early_row i) ≡ 3) e refl;
  late_nets = All-cons (λ (o : RegOut). net_at false early_row 0 o.net ≡ shown o true) (record { net = 1; inverted = false }) [] refl
      (All-nil (λ (o : RegOut). net_at false early_row 0 o.net ≡ shown o true));
  others = λ n has not. other_nets n (In-from_Contains (source_nets design) n has) not;
  held = λ l lt. absurd (omega (arith, lt));
  sources = λ l lt. absurd (omega (arith, lt));
  gates = λ l le k g at. absurd (no_gate k g at);
}

-- the first register rises: the second one takes the 0 that it has before, and would take its 1 were it early
second_register_takes_an_early_bit : IsEarlyBad false design claim (cycle false true) (cycle true true)
second_register_takes_an_early_bit = (true, record { rows = early_row; layers = early_layers; capture = refl }, λ same. cc)
