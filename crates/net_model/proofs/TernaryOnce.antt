-- The layers whose start is unknown, and the ternary capture, which is one value, as they are computed.
use Rattle.std.proofs.Common.{◌≡◌, ℕ, ◌+◌, ◌<◌, Bool, true, false, if◌then◌else◌, List, map, length, get_or, Option, Some, None, refl, sym, ◌∙◌, subst, arith}
use Rattle.std.specs.Prelude.{slice_get, slice_index, nat_lt}
use borrow.Author.Tests.{ltb-true}
use Rattle.net_model.specs.Netlist.{IsSound, IsGateInRange, IsRegInRange}
use Rattle.net_model.specs.Fits.{IsEndIn}
use Rattle.net_model.specs.Cycles.{bit_at, reg_capture}
use Rattle.net_model.specs.Pins.{start_outs, late_value}
use Rattle.net_model.specs.Layers.{pin_reads, layer_pins, late_reg_pins, AreLayersTo, AreLayers}
use Rattle.net_model.specs.Form.{value}
use Rattle.net_model.specs.FormLaws.{IsOver-weaker}
use Rattle.net_model.specs.Ternary.{tern_of, AreTernaryLayers, IsCommonValue, IsTernaryRegCapture, IsTernaryCaptureOver, IsTernaryCapture}
use Rattle.net_model.specs.Splitting.{cell_value, tern_value}
use Rattle.net_model.specs.Completions.{ReadsOnly, common_agrees, tern_agrees, tern_common, common_once, cell_common}
use Rattle.net_model.proofs.Settling.{All-at}
use Rattle.net_model.proofs.RegCaptures.{capture_agrees}
use Rattle.net_model.proofs.Layered.{pin_kept}
use Rattle.net_model.proofs.LayersOnce.{AgreeBelow, layers_once}
use Rattle.net_model.specs.declared.netlist.Design.{Design}
use Rattle.net_model.specs.declared.netlist.Reg.{Reg}
use Rattle.net_model.specs.declared.netlist.RegOut.{RegOut}
use Rattle.net_model.specs.declared.cycles.Cycle.{Cycle}
use Rattle.net_model.specs.declared.claims.Claim.{Claim}
use Rattle.net_model.specs.declared.claims.Start.{Start}
use Rattle.net_model.specs.declared.terns.Tern.{Tern}
use Rattle.net_model.specs.declared.terns.Tern.TheVariants.{Zero, Unknown}
use Rattle.net_model.specs.declared.claims.PinRef.{PinRef}
use Rattle.net_model.specs.declared.claims.PinRef.TheVariants.{RegIn, OutPort}
use Rattle.net_model.specs.declared.claims.End.{End}
use Rattle.net_model.specs.declared.claims.End.TheVariants.{Reg as RegEnd, Output as OutputEnd}

-- the capture of a register over these rows, its whole capture being one cell
abbrev pub tern_reg_capture : List (List PinRef) → List (List Tern) → ℕ → Option Reg → Bool → Tern
tern_reg_capture sets rows r None own = Zero
tern_reg_capture sets rows r (Some reg) own =
    cell_value (reg_capture reg) (late_reg_pins Zero sets rows r reg (tern_of own))

-- the capture of an end over what its pins read in the last layer
abbrev pub tern_capture_over : Design → List (List PinRef) → List (List Tern) → End → Cycle → Tern
tern_capture_over d sets rows (RegEnd r) c = tern_reg_capture sets rows r (slice_get d.regs r) (bit_at c.bits r)
tern_capture_over d sets rows (OutputEnd o) c = pin_reads Zero sets rows (length sets) (OutPort o) (slice_index d.outputs o)

-- the value of a cell depends on the places that it reads alone
pub cell_agrees : (cell : (ℕ → Bool) → Bool) (n : ℕ) (s t : ℕ → Tern) → ReadsOnly n cell → ((i : ℕ) → i < n → s i ≡ t i) → cell_value cell s ≡ cell_value cell t
unfolding cell_value
cell_agrees cell n s t over same = common_agrees 7 n cell s t (λ _. false) (λ _. false) over same (λ i lt. refl)

pub reads_capture : (d : Design) (r : ℕ) (reg : Reg) → IsSound d → slice_get d.regs r ≡ Some reg → ReadsOnly (length reg.ins + 1) (reg_capture reg)
reads_capture d r reg sound at a b same =
    let in_range = All-at (IsRegInRange d) d.regs r reg at sound.in_range.regs in
    capture_agrees reg (length reg.ins + 1) a b in_range.next in_range.clear in_range.preset same

by_test : (b : Bool) (p q own : Tern) → (b ≡ true → p ≡ q) → (if b then p else own) ≡ (if b then q else own)
by_test true p q own same = same refl
by_test false p q own same = refl

of_reg : (d : Design) (sets : List (List PinRef)) (a b : List (List Tern)) (r : ℕ) (own : Bool) → IsSound d → AgreeBelow Zero d a b (length sets + 1)
    → (found : Option Reg) → slice_get d.regs r ≡ found → tern_reg_capture sets a r found own ≡ tern_reg_capture sets b r found own
of_reg d sets a b r own sound agree None e = refl
of_reg d sets a b r own sound agree (Some reg) e =
    let in_range = All-at (IsRegInRange d) d.regs r reg e sound.in_range.regs in
    cell_agrees (reg_capture reg) (length reg.ins + 1) (late_reg_pins Zero sets a r reg (tern_of own)) (late_reg_pins Zero sets b r reg (tern_of own))
    (reads_capture d r reg sound e)
    (λ i lt.
    by_test (nat_lt i (length reg.ins)) (pin_reads Zero sets a (length sets) (RegIn r i) (slice_index reg.ins i))
    (pin_reads Zero sets b (length sets) (RegIn r i) (slice_index reg.ins i)) (tern_of own)
    (λ is. pin_kept Zero sets a b (length sets) (RegIn r i) (slice_index reg.ins i)
    (λ m le. agree m (omega arith) (slice_index reg.ins i) (in_range.ins i 0 (ltb-true i (length reg.ins) is)))))

capture_same : (d : Design) (sets : List (List PinRef)) (a b : List (List Tern)) (e : End) (c : Cycle) → IsSound d → IsEndIn d e
    → AgreeBelow Zero d a b (length sets + 1) → tern_capture_over d sets a e c ≡ tern_capture_over d sets b e c
capture_same d sets a b (RegEnd r) c sound is agree = of_reg d sets a b r (bit_at c.bits r) sound agree (slice_get d.regs r) refl
capture_same d sets a b (OutputEnd o) c sound is agree =
    pin_kept Zero sets a b (length sets) (OutPort o) (slice_index d.outputs o)
    (λ m le. agree m (omega arith) (slice_index d.outputs o) (sound.in_range.outputs o 0 is))

-- the ternary capture as it is computed
pub record IsComputedCapture (d : Design) (claim : Claim) (c : Cycle) (late : Tern) : Type 0 where
  pub rows : List (List Tern)
  pub layers : AreLayers tern_value Zero d claim.start claim.through (λ _. Unknown) (map tern_of c.nets) rows
  pub capture : tern_capture_over d claim.through rows claim.end c ≡ late

-- layers whose gates have the common values are those that are computed
pub computed_layers : (d : Design) (start : Start) (sets : List (List PinRef)) (base : List Bool) (rows : List (List Tern)) → IsSound d
    → AreTernaryLayers d start sets base rows → AreLayers tern_value Zero d start sets (λ _. Unknown) (map tern_of base) rows
computed_layers d start sets base rows sound are =
    let layers = are.layers in
    record {
      count = layers.count;
      lens = layers.lens;
      late_nets = layers.late_nets;
      others = layers.others;
      held = layers.held;
      sources = layers.sources;
      gates = λ l le k g at free.
          let in_range = All-at (IsGateInRange d) d.gates k g at sound.in_range.gates in
          let pins = layer_pins Zero sets rows l k g.ins in
          let over = IsOver-weaker (length g.ins) 7 g.func (omega (arith, in_range.few)) in_range.func in
          layers.gates l le k g at free ∙ common_once (value g.func) pins (are.applied g.func pins) (tern_value g.func pins) (are.common g.func pins over)
          (tern_common g.func pins over);
    }

-- and those that are computed have the common values
pub ternary_layers : (d : Design) (start : Start) (sets : List (List PinRef)) (base : List Bool) (rows : List (List Tern))
    → AreLayers tern_value Zero d start sets (λ _. Unknown) (map tern_of base) rows → AreTernaryLayers d start sets base rows
ternary_layers d start sets base rows layers =
    record { applied = tern_value; common = tern_common; layers = layers }

-- a register's whole capture reads at most seven places
pub reads_seven : (d : Design) (r : ℕ) (reg : Reg) → IsSound d → slice_get d.regs r ≡ Some reg → ReadsOnly 7 (reg_capture reg)
reads_seven d r reg sound at a b same =
    let in_range = All-at (IsRegInRange d) d.regs r reg at sound.in_range.regs in
    reads_capture d r reg sound at a b (λ i lt. same i (omega (arith, in_range.few)))

of_reg_computed : (d : Design) (sets : List (List PinRef)) (rows : List (List Tern)) (r : ℕ) (own : Bool) (late : Tern) → IsSound d → (found : Option Reg)
    → slice_get d.regs r ≡ found → IsTernaryRegCapture sets rows r found own late → tern_reg_capture sets rows r found own ≡ late
of_reg_computed d sets rows r own late sound None e is = is
of_reg_computed d sets rows r own late sound (Some reg) e is =
    let pins = late_reg_pins Zero sets rows r reg (tern_of own) in
    common_once (reg_capture reg) pins (cell_value (reg_capture reg) pins) late (cell_common (reg_capture reg) pins (reads_seven d r reg sound e)) is

-- a capture that has the common value is the one that is computed
pub computed_over : (d : Design) (sets : List (List PinRef)) (rows : List (List Tern)) (e : End) (c : Cycle) (late : Tern) → IsSound d
    → IsTernaryCaptureOver d sets rows e c late → tern_capture_over d sets rows e c ≡ late
computed_over d sets rows (RegEnd r) c late sound is = of_reg_computed d sets rows r (bit_at c.bits r) late sound (slice_get d.regs r) refl is
computed_over d sets rows (OutputEnd o) c late sound is = is

of_reg_ternary : (d : Design) (sets : List (List PinRef)) (rows : List (List Tern)) (r : ℕ) (own : Bool) (late : Tern) → IsSound d → (found : Option Reg)
    → slice_get d.regs r ≡ found → tern_reg_capture sets rows r found own ≡ late → IsTernaryRegCapture sets rows r found own late
of_reg_ternary d sets rows r own late sound None e is = is
of_reg_ternary d sets rows r own late sound (Some reg) e is =
    let pins = late_reg_pins Zero sets rows r reg (tern_of own) in
    subst (IsCommonValue (reg_capture reg) pins) is (cell_common (reg_capture reg) pins (reads_seven d r reg sound e))

-- and the one that is computed has the common value
pub ternary_over : (d : Design) (sets : List (List PinRef)) (rows : List (List Tern)) (e : End) (c : Cycle) (late : Tern) → IsSound d
    → tern_capture_over d sets rows e c ≡ late → IsTernaryCaptureOver d sets rows e c late
ternary_over d sets rows (RegEnd r) c late sound is = of_reg_ternary d sets rows r (bit_at c.bits r) late sound (slice_get d.regs r) refl is
ternary_over d sets rows (OutputEnd o) c late sound is = is

pub computed_capture : (d : Design) (claim : Claim) (c : Cycle) (late : Tern) → IsSound d → IsTernaryCapture d claim c late → IsComputedCapture d claim c late
computed_capture d claim c late sound is =
    record {
      rows = is.rows;
      layers = computed_layers d claim.start claim.through c.nets is.rows sound is.layers;
      capture = computed_over d claim.through is.rows claim.end c late sound is.capture;
    }

pub ternary_capture : (d : Design) (claim : Claim) (c : Cycle) (late : Tern) → IsSound d → IsComputedCapture d claim c late → IsTernaryCapture d claim c late
ternary_capture d claim c late sound is =
    record {
      rows = is.rows;
      layers = ternary_layers d claim.start claim.through c.nets is.rows is.layers;
      capture = ternary_over d claim.through is.rows claim.end c late sound is.capture;
    }

-- there is one ternary capture
pub ternary_once : (d : Design) (claim : Claim) (c : Cycle) (x y : Tern) → IsSound d → IsEndIn d claim.end → IsTernaryCapture d claim c x
    → IsTernaryCapture d claim c y → x ≡ y
ternary_once d claim c x y sound is s t =
    let p = computed_capture d claim c x sound s in
    let q = computed_capture d claim c y sound t in
    let agree = layers_once tern_value tern_agrees Zero d claim.start claim.through (λ _. Unknown) (map tern_of c.nets) p.rows q.rows
    (length claim.through) sound p.layers q.layers (length claim.through + 1) (omega arith) in
    sym p.capture ∙ (capture_same d claim.through p.rows q.rows claim.end c sound is agree ∙ q.capture)

both_unknown : (o : RegOut) → late_value Unknown Unknown o ≡ Unknown
both_unknown o = flat o.inverted
  where
    flat : (b : Bool) → (if b then Unknown else Unknown) ≡ Unknown
    flat true = refl
    flat false = refl

-- layers whose start shows unknown, inverted or not
pub unknown_layers : (d : Design) (start : Start) (sets : List (List PinRef)) (base : List Bool) (rows : List (List Tern)) (last : ℕ)
    → AreLayersTo tern_value Zero d start sets (late_value Unknown Unknown) (map tern_of base) rows last
    → AreLayersTo tern_value Zero d start sets (λ _. Unknown) (map tern_of base) rows last
unknown_layers d start sets base rows last layers =
    record {
      count = layers.count;
      lens = layers.lens;
      late_nets = λ k o lt. layers.late_nets k o lt ∙ both_unknown (get_or (start_outs d start) k o);
      others = layers.others;
      held = layers.held;
      sources = layers.sources;
      gates = layers.gates;
    }
