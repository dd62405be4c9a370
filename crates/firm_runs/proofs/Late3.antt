-- Late captures in three values: there is one, and the late capture of a cycle of bits completes it.
use Rattle.std.proofs.Common.{◌≡◌, ℕ, ◌+◌, ◌<◌, Bool, true, false, not, if◌then◌else◌, List, map, length, get_or}
use Rattle.std.proofs.Common.{Option, Some, None, refl, sym, ◌∙◌, subst, arith}
use Rattle.std.specs.Prelude.{slice_get, slice_index, nat_lt}
use Rattle.std.proofs.lemmas.Option.{get_or_from_slice_get}
use borrow.Author.Tests.{ltb-true}
use Rattle.net_model.specs.Form.{value}
use Rattle.net_model.specs.FormLaws.{value_agrees, IsOver-weaker}
use Rattle.net_model.specs.Netlist.{IsSound, IsRegInRange}
use Rattle.net_model.specs.Mentions.{IsRegOver}
use Rattle.net_model.specs.Fits.{Fits, IsEndIn}
use Rattle.net_model.specs.Cycles.{shown, reg_capture, IsSettled}
use Rattle.net_model.specs.Pins.{start_outs, late_value}
use Rattle.net_model.specs.Layers.{pin_reads, late_reg_pins, capture_over, AreLayersTo, AreLayers, IsLateCapture}
use Rattle.net_model.specs.Ternary.{tern_of, Completes, IsCommonValue}
use Rattle.net_model.specs.Splitting.{cell_value, tern_value}
use Rattle.net_model.specs.Completions.{ReadsOnly, tern_agrees, common_once, cell_common}
use Rattle.net_model.proofs.Settling.{All-at}
use Rattle.net_model.proofs.RegCaptures.{IsOptionOver-weaker}
use Rattle.net_model.proofs.Layered.{pin_kept}
use Rattle.net_model.proofs.LayersOnce.{AgreeBelow, layers_once}
use Rattle.net_model.proofs.LayersExist.{layers_exist}
use Rattle.net_model.proofs.LayerRows.{map_base}
use Rattle.net_model.proofs.TernaryOnce.{cell_agrees, reads_capture}
use Rattle.net_model.specs.declared.netlist.Design.{Design}
use Rattle.net_model.specs.declared.netlist.Reg.{Reg}
use Rattle.net_model.specs.declared.netlist.RegOut.{RegOut}
use Rattle.net_model.specs.declared.cycles.Cycle.{Cycle}
use Rattle.net_model.specs.declared.claims.Claim.{Claim}
use Rattle.net_model.specs.declared.claims.Start.{Start}
use Rattle.net_model.specs.declared.claims.PinRef.{PinRef}
use Rattle.net_model.specs.declared.claims.PinRef.TheVariants.{RegIn, OutPort}
use Rattle.net_model.specs.declared.claims.End.{End}
use Rattle.net_model.specs.declared.claims.End.TheVariants.{Reg as RegEnd, Output as OutputEnd}
use Rattle.net_model.specs.declared.terns.Tern.{Tern}
use Rattle.net_model.specs.declared.terns.Tern.TheVariants.{Zero}
use Rattle.firm_runs.specs.Cycles3.{tern_at, reg_pins3, reg_capture3, IsSettled3}
use Rattle.firm_runs.specs.Layers3.{late_reg_capture3, capture3_over, IsLateCapture3}
use Rattle.firm_runs.proofs.Completing3.{own_completes, layers_complete, capture_completes}
use Rattle.firm_runs.proofs.Settled3.{FitSources, nets_fit}
use Rattle.firm_runs.specs.declared.cycles.Cycle3.{Cycle3}

-- cells that give the same bits have one common value
pub cell_same : (f g : (ℕ → Bool) → Bool) (args : ℕ → Tern) → ReadsOnly 7 f → ((bits : ℕ → Bool) → f bits ≡ g bits) → cell_value f args ≡ cell_value g args
cell_same f g args over same =
    let over_g : ReadsOnly 7 g = λ a b agree. sym (same a) ∙ (over a b agree ∙ same b) in
    let law : IsCommonValue f args (cell_value f args) = cell_common f args over in
    let moved : IsCommonValue g args (cell_value f args) = λ b. (
      λ is bits fits. sym (same bits) ∙ (law b).0 is bits fits,
      λ all. (law b).1 (λ bits fits. same bits ∙ all bits fits),
    ) in
    common_once g args (cell_value f args) (cell_value g args) moved (cell_common g args over_g)

-- a register of a sound design reads at most seven places
pub reg_over : (d : Design) (r : ℕ) (reg : Reg) → IsSound d → slice_get d.regs r ≡ Some reg → IsRegOver 7 reg
reg_over d r reg sound at =
    let in_range = All-at (IsRegInRange d) d.regs r reg at sound.in_range.regs in
    record {
      next = IsOver-weaker (length reg.ins + 1) 7 reg.next (omega (arith, in_range.few)) in_range.next;
      clear = IsOptionOver-weaker (length reg.ins + 1) 7 reg.clear (omega (arith, in_range.few)) in_range.clear;
      preset = IsOptionOver-weaker (length reg.ins + 1) 7 reg.preset (omega (arith, in_range.few)) in_range.preset;
    }

-- what a register captures of these places
pub reg_read3 : (d : Design) (c : Cycle3) (r : ℕ) (reg : Reg) (own : Tern) (args : ℕ → Tern) (result : Tern) → IsSound d → slice_get d.regs r ≡ Some reg
    → slice_get c.bits r ≡ Some own → ((i : ℕ) → i < length reg.ins + 1 → args i ≡ reg_pins3 reg.ins c.nets own i)
    → result ≡ cell_value (reg_capture reg) args → result ≡ reg_capture3 c r (slice_get d.regs r)
reg_read3 d c r reg own args result sound at bit same is =
    let here : tern_at c.bits r ≡ own = get_or_from_slice_get c.bits r own Zero bit in
    rw (at, here) (is ∙ cell_agrees (reg_capture reg) (length reg.ins + 1) args (reg_pins3 reg.ins c.nets own) (reads_capture d r reg sound at) same)

-- what an end register captures of what its pins read in the last layer
pub late_read3 : (d : Design) (sets : List (List PinRef)) (rows : List (List Tern)) (e : End) (c : Cycle3) (r : ℕ) (reg : Reg) (own : Tern)
    (args : ℕ → Tern) (result : Tern) → IsSound d → e ≡ RegEnd r → slice_get d.regs r ≡ Some reg → slice_get c.bits r ≡ Some own
    → ((i : ℕ) → i < length reg.ins + 1 → args i ≡ late_reg_pins Zero sets rows r reg own i) → result ≡ cell_value (reg_capture reg) args
    → result ≡ capture3_over d sets rows e c
late_read3 d sets rows e c r reg own args result sound end_is at bit same is =
    let here : tern_at c.bits r ≡ own = get_or_from_slice_get c.bits r own Zero bit in
    rw (end_is, at, here) (is ∙ cell_agrees (reg_capture reg) (length reg.ins + 1) args (late_reg_pins Zero sets rows r reg own)
    (reads_capture d r reg sound at) same)

-- what an end output reads
pub late_output3 : (d : Design) (sets : List (List PinRef)) (rows : List (List Tern)) (e : End) (c : Cycle3) (o net : ℕ) (result : Tern) → e ≡ OutputEnd o
    → slice_get d.outputs o ≡ Some net → result ≡ pin_reads Zero sets rows (length sets) (OutPort o) net → result ≡ capture3_over d sets rows e c
late_output3 d sets rows e c o net result end_is at is =
    let here : slice_index d.outputs o ≡ net = get_or_from_slice_get d.outputs o net 0 at in
    rw (end_is, here) is

tern_of_if : (b stale : Bool) → (if b then tern_of (not stale) else tern_of stale) ≡ tern_of (if b then not stale else stale)
tern_of_if true stale = refl
tern_of_if false stale = refl

-- layers whose start shows a stale bit
pub stale_layers : (d : Design) (start : Start) (sets : List (List PinRef)) (stale : Bool) (base : List Tern) (rows : List (List Tern)) (last : ℕ)
    → AreLayersTo tern_value Zero d start sets (late_value (tern_of stale) (tern_of (not stale))) base rows last
    → AreLayersTo tern_value Zero d start sets (λ o. tern_of (shown o stale)) base rows last
stale_layers d start sets stale base rows last layers =
    record {
      count = layers.count;
      lens = layers.lens;
      late_nets = λ k o lt. layers.late_nets k o lt ∙ tern_of_if (get_or (start_outs d start) k o).inverted stale;
      others = layers.others;
      held = layers.held;
      sources = layers.sources;
      gates = layers.gates;
    }

by_test : (b : Bool) (p q own : Tern) → (b ≡ true → p ≡ q) → (if b then p else own) ≡ (if b then q else own)
by_test true p q own same = same refl
by_test false p q own same = refl

of_reg : (d : Design) (sets : List (List PinRef)) (a b : List (List Tern)) (r : ℕ) (own : Tern) → IsSound d → AgreeBelow Zero d a b (length sets + 1)
    → (found : Option Reg) → slice_get d.regs r ≡ found → late_reg_capture3 sets a r found own ≡ late_reg_capture3 sets b r found own
of_reg d sets a b r own sound agree None e = refl
of_reg d sets a b r own sound agree (Some reg) e =
    let in_range = All-at (IsRegInRange d) d.regs r reg e sound.in_range.regs in
    cell_agrees (reg_capture reg) (length reg.ins + 1) (late_reg_pins Zero sets a r reg own) (late_reg_pins Zero sets b r reg own)
    (reads_capture d r reg sound e)
    (λ i lt.
    by_test (nat_lt i (length reg.ins)) (pin_reads Zero sets a (length sets) (RegIn r i) (slice_index reg.ins i))
    (pin_reads Zero sets b (length sets) (RegIn r i) (slice_index reg.ins i)) own
    (λ is. pin_kept Zero sets a b (length sets) (RegIn r i) (slice_index reg.ins i)
    (λ m le. agree m (omega arith) (slice_index reg.ins i) (in_range.ins i 0 (ltb-true i (length reg.ins) is)))))

capture_same : (d : Design) (sets : List (List PinRef)) (a b : List (List Tern)) (e : End) (c : Cycle3) → IsSound d → IsEndIn d e
    → AgreeBelow Zero d a b (length sets + 1) → capture3_over d sets a e c ≡ capture3_over d sets b e c
capture_same d sets a b (RegEnd r) c sound is agree = of_reg d sets a b r (tern_at c.bits r) sound agree (slice_get d.regs r) refl
capture_same d sets a b (OutputEnd o) c sound is agree =
    pin_kept Zero sets a b (length sets) (OutPort o) (slice_index d.outputs o)
    (λ m le. agree m (omega arith) (slice_index d.outputs o) (sound.in_range.outputs o 0 is))

-- there is one late capture
pub late_once3 : (d : Design) (claim : Claim) (c : Cycle3) (stale : Bool) (x y : Tern) → IsSound d → IsEndIn d claim.end
    → IsLateCapture3 d claim c stale x → IsLateCapture3 d claim c stale y → x ≡ y
late_once3 d claim c stale x y sound is s t =
    let agree = layers_once tern_value tern_agrees Zero d claim.start claim.through (λ o. tern_of (shown o stale)) c.nets s.rows t.rows
    (length claim.through) sound s.layers t.layers (length claim.through + 1) (omega arith) in
    sym s.capture ∙ (capture_same d claim.through s.rows t.rows claim.end c sound is agree ∙ t.capture)

-- layers of bits over the cycle's own bits
bit_layers : (d : Design) (start : Start) (sets : List (List PinRef)) (late : RegOut → Bool) (base : List Bool) (rows : List (List Bool)) (last : ℕ)
    → AreLayersTo value false d start sets late (map (λ (b : Bool). b) base) rows last → AreLayersTo value false d start sets late base rows last
bit_layers d start sets late base rows last layers =
    record {
      count = layers.count;
      lens = layers.lens;
      late_nets = layers.late_nets;
      others = λ n has out. layers.others n has out ∙ map_base (λ (b : Bool). b) base n;
      held = layers.held;
      sources = λ l lt n has free. layers.sources l lt n has free ∙ map_base (λ (b : Bool). b) base n;
      gates = layers.gates;
    }

-- each settled cycle of bits has a late capture, which completes the one in three values
pub late_fits : (d : Design) (claim : Claim) (c3 : Cycle3) (c : Cycle) (stale : Bool) (late3 : Tern) → IsSound d → Fits d claim → IsSettled3 d c3
    → IsSettled d c → FitSources d c3 c → IsLateCapture3 d claim c3 stale late3 → (late : Bool) × IsLateCapture d claim c stale late × Completes late3 late
late_fits d claim c3 c stale late3 sound fits s t fit is =
    let last = length claim.through in
    let made = layers_exist value value_agrees (λ (b : Bool). b) stale (not stale) d claim.start claim.through c.nets sound fits.start t.shape.nets in
    let layers : AreLayers value false d claim.start claim.through (λ o. shown o stale) c.nets made.0 =
    bit_layers d claim.start claim.through (λ o. shown o stale) c.nets made.0 last made.1 in
    let all = layers_complete d claim.start claim.through (λ o. tern_of (shown o stale)) (λ o. shown o stale) c3.nets c.nets is.rows made.0 last sound
    (record { late_fits = λ o. own_completes (shown o stale); base_fits = nets_fit d c3 c sound s t fit }) is.layers layers (last + 1) (omega arith) in
    let late = capture_over d claim.through made.0 claim.end c in (
      late,
      record { rows = made.0; layers = layers; capture = refl },
      subst (λ (v : Tern). Completes v late) is.capture
          (capture_completes d claim.through is.rows made.0 claim.end c3 c sound fits.end_ fit.bits all),
    )
