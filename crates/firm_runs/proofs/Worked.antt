-- What is free, what is known of it, and what is shown firm, worked out by hand: the first input is a port, the second is free.
use Rattle.std.proofs.Common.{◌≡◌, ℕ, zero, suc, ◌+◌, ◌<◌, Bool, true, false, List, [], ◌∷◌, length, Some, refl, ap, sym, ◌∙◌, subst, arith}
use Rattle.std.specs.Prelude.{slice_get}
use Rattle.std.proofs.lemmas.List.Elements.{All-nil, All-cons}
use Rattle.std.proofs.lemmas.Option.{same_Some, slice_get_within}
use Rattle.net_model.proofs.Settling.{All-at}
use Rattle.net_model.specs.Fits.{IsStartIn}
use Rattle.net_model.specs.Cycles.{bit_at}
use Rattle.net_model.specs.Ternary.{tern_of}
use Rattle.net_model.specs.Pins.{late_value}
use Rattle.net_model.specs.declared.netlist.Design.{Design}
use Rattle.net_model.specs.declared.netlist.RegOut.{RegOut}
use Rattle.net_model.specs.declared.cycles.Stimulus.{Stimulus}
use Rattle.net_model.specs.declared.claims.Claim.{Claim}
use Rattle.net_model.specs.declared.claims.Start.{Start}
use Rattle.net_model.specs.declared.claims.Start.TheVariants.{Reg as RegStart, Input as InputStart}
use Rattle.net_model.specs.declared.claims.End.TheVariants.{Reg as RegEnd, Output as OutputEnd}
use Rattle.net_model.specs.declared.terns.Tern.{Tern}
use Rattle.net_model.specs.declared.terns.Tern.TheVariants.{Zero, One, Unknown}
use Rattle.sdcv_base.specs.declared.kinds.Kind.TheVariants.{Multi}
use Rattle.sdcv_base.specs.declared.kinds.Edge.TheVariants.{Any}
use Rattle.firm_runs.specs.Frees.{is_free, IsSink, known_bit}
use Rattle.firm_runs.specs.Cycles3.{tern_at, complement, start_value, ShowsValue, IsSettled3, AreCaptures3, AreKnownInputs, IsKnownRun}
use Rattle.firm_runs.specs.Firm.{AreApart, IsShownFirm}
use Rattle.firm_runs.specs.declared.free_bits.FreeBits.{FreeBits}
use Rattle.firm_runs.specs.declared.cycles.Cycle3.{Cycle3}

-- two inputs, on nets 0 and 1, and an output on this net
abbrev pub wires : ℕ → Design
wires out = record { nets = 2; gates = []; regs = []; inputs = 0 ∷ 1 ∷ []; outputs = out ∷ []; fixed = []; resets = []; reset_len = 0 }

-- the second input is free, and no output is a sink
abbrev pub second_free : FreeBits
second_free = record { first = 1; count = 1; sinks_from = 1 }

-- a multicycle path of two cycles from the first input to the output
abbrev pub path : Claim
path = record {
  kind = Multi 2;
  edge = Any;
  lag = 0;
  hazard = false;
  early = false;
  start = InputStart 0;
  end = OutputEnd 0;
  through = [];
}

-- both inputs rise
abbrev pub both_rise : Stimulus
both_rise = record { state = []; inputs = (false ∷ false ∷ []) ∷ (true ∷ true ∷ []) ∷ [] }

port_is_not_free : is_free second_free 0 ≡ false
port_is_not_free = refl

second_is_free : is_free second_free 1 ≡ true
second_is_free = refl

third_is_not_free : is_free second_free 2 ≡ false
third_is_not_free = refl

port_is_known : known_bit (wires 0) second_free 1 0 true ≡ One
port_is_known = refl

-- its bit in the stimulus is not asked
free_input_is_unknown : known_bit (wires 0) second_free 1 1 true ≡ Unknown
free_input_is_unknown = refl

-- a fixed one is known
fixed_input_is_known : known_bit (record (wires 0) { fixed = record { input = 1; value = true } ∷ [] }) second_free 1 1 true ≡ One
fixed_input_is_known = refl

-- a reset one is known while resets are active
reset_input_is_known_at_first : known_bit (record (wires 0) { resets = record { input = 1; value = true } ∷ []; reset_len = 1 }) second_free 0 1 true ≡ One
reset_input_is_known_at_first = refl

reset_input_is_unknown_later : known_bit (record (wires 0) { resets = record { input = 1; value = true } ∷ []; reset_len = 1 }) second_free 1 1 false ≡ Unknown
reset_input_is_unknown_later = refl

port_is_no_sink : ¬ IsSink second_free (OutputEnd 0)
port_is_no_sink sink = omega (arith, sink)

second_output_is_a_sink : IsSink second_free (OutputEnd 1)
second_output_is_a_sink = omega arith

register_is_no_sink : ¬ IsSink second_free (RegEnd 7)
register_is_no_sink sink = sink

bits_apart : AreApart One Zero
bits_apart = (true, refl, refl)

unknown_is_not_apart : (x : Tern) → ¬ AreApart Unknown x
unknown_is_not_apart x (true, left, right) = cc
unknown_is_not_apart x (false, left, right) = cc

-- a cycle in which the port has this value
abbrev row : Tern → Cycle3
row v = record { bits = []; ins = v ∷ Unknown ∷ []; nets = v ∷ Unknown ∷ [] }

shows : (v : Tern) (s : Start) → IsStartIn (wires 0) s → ShowsValue (wires 0) (v ∷ Unknown ∷ []) s (start_value s (row v))
shows v (RegStart r) is = absurd (omega (arith, is))
shows v (InputStart zero) is =
    All-cons (λ (o : RegOut). tern_at (v ∷ Unknown ∷ []) o.net ≡ late_value v (complement v) o) (record { net = 0; inverted = false }) [] refl
    (All-nil (λ (o : RegOut). tern_at (v ∷ Unknown ∷ []) o.net ≡ late_value v (complement v) o))
shows v (InputStart (suc zero)) is =
    All-cons (λ (o : RegOut). tern_at (v ∷ Unknown ∷ []) o.net ≡ late_value Unknown (complement Unknown) o) (record { net = 1; inverted = false }) [] refl
    (All-nil (λ (o : RegOut). tern_at (v ∷ Unknown ∷ []) o.net ≡ late_value Unknown (complement Unknown) o))
shows v (InputStart (suc (suc i))) is = absurd (omega (arith, is))

settled : (v : Tern) → IsSettled3 (wires 0) (row v)
settled v = record { bits = refl; ins = refl; nets = refl; starts = shows v; gates = λ k g at. cc }

known_first : (b : Bool) → AreKnownInputs (wires 0) second_free 0 (b ∷ b ∷ []) (tern_of b ∷ Unknown ∷ [])
known_first b = record { count = refl; each = each }
  where
    each : (i : ℕ) → i < 2 → tern_at (tern_of b ∷ Unknown ∷ []) i ≡ known_bit (wires 0) second_free 0 i (bit_at (b ∷ b ∷ []) i)
    each zero lt = refl
    each (suc zero) lt = refl
    each (suc (suc i)) lt = absurd (omega arith)

known_second : (b : Bool) → AreKnownInputs (wires 0) second_free 1 (b ∷ b ∷ []) (tern_of b ∷ Unknown ∷ [])
known_second b = record { count = refl; each = each }
  where
    each : (i : ℕ) → i < 2 → tern_at (tern_of b ∷ Unknown ∷ []) i ≡ known_bit (wires 0) second_free 1 i (bit_at (b ∷ b ∷ []) i)
    each zero lt = refl
    each (suc zero) lt = refl
    each (suc (suc i)) lt = absurd (omega arith)

abbrev two_rows : List Cycle3
two_rows = row Zero ∷ row One ∷ []

no_bits : (v : Tern) (c : Cycle3) → Some (row v) ≡ Some c → length c.bits ≡ 0
no_bits v c at = ap (λ (x : Cycle3). length x.bits) (sym (same_Some (row v) c at))

row_inputs : (t : ℕ) (c : Cycle3) (ins : List Bool) → slice_get two_rows t ≡ Some c → slice_get both_rise.inputs t ≡ Some ins
    → AreKnownInputs (wires 0) second_free t ins c.ins
row_inputs zero c ins at there =
    subst (λ (x : Cycle3). AreKnownInputs (wires 0) second_free 0 ins x.ins) (same_Some (row Zero) c at)
    (subst (λ (xs : List Bool). AreKnownInputs (wires 0) second_free 0 xs (Zero ∷ Unknown ∷ [])) (same_Some (false ∷ false ∷ []) ins there) (known_first false))
row_inputs (suc zero) c ins at there =
    subst (λ (x : Cycle3). AreKnownInputs (wires 0) second_free 1 ins x.ins) (same_Some (row One) c at)
    (subst (λ (xs : List Bool). AreKnownInputs (wires 0) second_free 1 xs (One ∷ Unknown ∷ [])) (same_Some (true ∷ true ∷ []) ins there) (known_second true))
row_inputs (suc (suc t)) c ins at there = absurd (omega (arith, slice_get_within two_rows (suc (suc t)) c at))

row_next : (t : ℕ) (before c : Cycle3) → slice_get two_rows t ≡ Some before → slice_get two_rows (t + 1) ≡ Some c → AreCaptures3 (wires 0) before c.bits
row_next zero before c at after_at = record { count = no_bits One c after_at; each = λ r lt. absurd (omega arith) }
row_next (suc t) before c at after_at = absurd (omega (arith, slice_get_within two_rows (suc t + 1) c after_at))

two_rows_are_known : IsKnownRun (wires 0) second_free both_rise two_rows
two_rows_are_known =
    record {
      count = refl;
      settled =
          All-cons (IsSettled3 (wires 0)) (row Zero) (row One ∷ []) (settled Zero)
          (All-cons (IsSettled3 (wires 0)) (row One) [] (settled One) (All-nil (IsSettled3 (wires 0))));
      state = λ c at. record { count = no_bits Zero c at; each = λ r lt. absurd (omega arith) };
      inputs = row_inputs;
      next = row_next;
    }

-- where the output shows the port, the violation is shown firm
pub port_to_output_is_firm : IsShownFirm (wires 0) second_free path both_rise 1
port_to_output_is_firm =
    record {
      run = two_rows;
      known = two_rows_are_known;
      violated =
          record {
            stale = false;
            toggles =
                record {
                  before = row Zero;
                  now = row One;
                  before_at = refl;
                  now_at = refl;
                  is_live = omega arith;
                  change = record { stale_is = refl; differs = refl; edge_is = tt };
                };
            r = 0;
            judged = omega arith;
            before = row Zero;
            c = row One;
            before_at = refl;
            c_at = refl;
            bad = (true, refl, refl);
          };
      no_sink = port_is_no_sink;
    }

-- where it shows the free input, the violation is not
pub free_input_to_output_is_not_firm : ¬ IsShownFirm (wires 1) second_free path both_rise 1
free_input_to_output_is_not_firm shown =
    let v = shown.violated in
    let first : 1 + v.r ≡ 1 = omega (arith, v.judged) in
    let at : slice_get shown.run 1 ≡ Some v.c = subst (λ (i : ℕ). slice_get shown.run i ≡ Some v.c) first v.c_at in
    let is = All-at (IsSettled3 (wires 1)) shown.run 1 v.c at shown.known.settled in
    let net : tern_at v.c.nets 1 ≡ tern_at v.c.ins 1 = is.starts (InputStart 1) (omega arith) 0 (record { net = 0; inverted = false }) (omega arith) in
    let input : tern_at v.c.ins 1 ≡ Unknown = (shown.known.inputs 1 v.c (true ∷ true ∷ []) at refl).each 1 (omega arith) in
    unknown_is_not_apart (tern_at v.before.nets 1) (subst (λ (x : Tern). AreApart x (tern_at v.before.nets 1)) (net ∙ input) v.bad)
