-- Literals of captures where the start comes late.
use Rattle.std.proofs.Common.{◌≡◌, ℕ, ◌<◌, ◌≤◌, ◌+◌, Bool, false, not, List, length, Some, refl, ap, sym, ◌∙◌, subst, arith, inl, inr}
use Rattle.std.specs.Prelude.{slice_get, slice_index}
use Rattle.std.proofs.lemmas.Bool.{cases_lt, cond_below, cond_above}
use Rattle.std.proofs.lemmas.Option.{get_or_from_slice_get}
use Rattle.net_model.specs.Form.{value}
use Rattle.net_model.specs.Netlist.{IsSound, IsRegInRange}
use Rattle.net_model.specs.Cycles.{bit_at, shown, reg_capture}
use Rattle.net_model.specs.Judge.{start_bit}
use Rattle.net_model.specs.Layers.{row_at, pin_reads, late_reg_pins, capture_over, AreLayers, IsLateCapture}
use Rattle.net_model.proofs.Settling.{All-at}
use Rattle.net_model.specs.declared.arguments.Args.{Args}
use Rattle.net_model.specs.declared.netlist.Design.{Design}
use Rattle.net_model.specs.declared.netlist.Reg.{Reg}
use Rattle.net_model.specs.declared.cycles.Cycle.{Cycle}
use Rattle.net_model.specs.declared.claims.Claim.{Claim}
use Rattle.net_model.specs.declared.claims.PinRef.{PinRef}
use Rattle.net_model.specs.declared.claims.PinRef.TheVariants.{RegIn, OutPort}
use Rattle.net_model.specs.declared.claims.End.TheVariants.{Reg as RegEnd, Output as OutputEnd}
use Rattle.and_graphs.specs.Graphs.{IsIn, Means, Keeps, bit_of}
use Rattle.and_graphs.specs.declared.graphs.AndGraph.{AndGraph}
use Rattle.and_graphs.proofs.Growing.{means_same}
use Rattle.claim_monitor.specs.Shown.{AreLiteralsFor, shown_row, shown_cycle}
use Rattle.claim_monitor.specs.Captured.{LowersCapture}
use Rattle.claim_monitor.specs.Layered.{AreRowsFor, AreLateLiterals, shown_rows}
use Rattle.claim_monitor.specs.declared.cycle_literals.Literals.{Literals}
use Rattle.claim_monitor.proofs.Showing.{means_self, shown_bit}
use Rattle.claim_monitor.proofs.CaptureLits.{lowered_capture, reg_over, literals_kept, cycle_kept}
use Rattle.claim_monitor.proofs.LayerLits.{pin_reads_in, pin_reads_bit}

-- the literal of a register's late capture
pub late_reg_means : (old new : AndGraph) (d : Design) (sets : List (List PinRef)) (rows : List (List ℕ)) (ls : Literals) (r : ℕ) (reg : Reg)
    (own : ℕ) (args : Args ℕ) (l : ℕ) → IsSound d → slice_get d.regs r ≡ Some reg → slice_get ls.bits r ≡ Some own → Keeps old new
    → AreLiteralsFor old d ls → AreRowsFor old d.nets (length sets) rows → AreLateLiterals sets rows r reg.ins own args → LowersCapture old args reg new l
    → Means new l (λ x. capture_over d sets (shown_rows old x rows) (RegEnd r) (shown_cycle old x ls))
late_reg_means old new d sets rows ls r reg own args l sound at bit keeps literals are_rows are lowers =
    let range = All-at (IsRegInRange d) d.regs r reg at sound.in_range.regs in
    let own_in = All-at (IsIn old) ls.bits r own bit literals.in_bits in
    let last = length sets in
    let low : (i : ℕ) → i < length reg.ins → (m : ℕ) → m ≤ last → slice_index reg.ins i < length (row_at rows m) =
    λ i inside m le. let wide = are_rows.lens m le in let net = range.ins i 0 inside in omega arith in
    rw at (means_same new l (λ x. reg_capture reg (late_reg_pins false sets (shown_rows old x rows) r reg (bit_of old x own)))
    (λ x. reg_capture reg (late_reg_pins false sets (shown_rows old x rows) r reg (bit_at (shown_row old x ls.bits) r)))
    (λ x len. ap (λ (b : Bool). reg_capture reg (late_reg_pins false sets (shown_rows old x rows) r reg b)) (sym (shown_bit old x ls.bits r own bit)))
    (lowered_capture old new reg (length reg.ins + 1) args l (λ x. late_reg_pins false sets (shown_rows old x rows) r reg (bit_of old x own)) keeps
    (reg_over d r reg sound at)
    (λ i small. elim (cases_lt i (length reg.ins)) [
      | inl inside ↦ rw (are.pins i inside) (pin_reads_in old sets rows last (RegIn r i) (slice_index reg.ins i) are_rows.count (low i inside) are_rows.in_)
      | inr past ↦ rw (are.rest i past small) own_in
    ])
    (λ x i len small. elim (cases_lt i (length reg.ins)) [
      | inl inside ↦
          ap (bit_of old x) (are.pins i inside) ∙ (pin_reads_bit old x sets rows last (RegIn r i) (slice_index reg.ins i) (low i inside)
          ∙ cond_below i (length reg.ins) (pin_reads false sets (shown_rows old x rows) last (RegIn r i) (slice_index reg.ins i)) (bit_of old x own) inside)
      | inr past ↦
          ap (bit_of old x) (are.rest i past (omega (arith, range.few)))
          ∙ cond_above i (length reg.ins) (pin_reads false sets (shown_rows old x rows) last (RegIn r i) (slice_index reg.ins i)) (bit_of old x own)
          (bit_of old x own) past refl
    ])
    lowers))

-- the literal that an output port reads in the last layer
pub late_output_means : (g : AndGraph) (d : Design) (sets : List (List PinRef)) (rows : List (List ℕ)) (ls : Literals) (o net l : ℕ) → IsSound d
    → slice_get d.outputs o ≡ Some net → AreRowsFor g d.nets (length sets) rows → l ≡ pin_reads 0 sets rows (length sets) (OutPort o) net
    → Means g l (λ x. capture_over d sets (shown_rows g x rows) (OutputEnd o) (shown_cycle g x ls))
late_output_means g d sets rows ls o net l sound at are_rows is =
    let here : slice_index d.outputs o ≡ net = get_or_from_slice_get d.outputs o net 0 at in
    let small : net < d.nets = All-at (λ n. n < d.nets) d.outputs o net at sound.in_range.outputs in
    let low : (m : ℕ) → m ≤ length sets → net < length (row_at rows m) = λ m le. let wide = are_rows.lens m le in omega arith in
    let of_l : IsIn g l = rw is (pin_reads_in g sets rows (length sets) (OutPort o) net are_rows.count low are_rows.in_) in
    means_same g l (λ x. bit_of g x l) (λ x. capture_over d sets (shown_rows g x rows) (OutputEnd o) (shown_cycle g x ls))
    (λ x len. ap (bit_of g x) is ∙ (pin_reads_bit g x sets rows (length sets) (OutPort o) net low
    ∙ ap (pin_reads false sets (shown_rows g x rows) (length sets) (OutPort o)) (sym here))) (means_self g l of_l)

-- the late capture with the start flipped
pub flipped_late : (old made new : AndGraph) (d : Design) (claim : Claim) (ls : Literals) (late l : ℕ) (rows : List (List ℕ)) → Keeps old made
    → Keeps made new → AreLiteralsFor old d ls → Means old late (λ x. not (start_bit claim.start (shown_cycle old x ls)))
    → ((x : List Bool) → length x ≡ made.front → AreLayers value false d claim.start claim.through (λ o. shown o (bit_of made x late))
    (shown_row made x ls.nets) (shown_rows made x rows))
    → Means new l (λ x. capture_over d claim.through (shown_rows made x rows) claim.end (shown_cycle made x ls))
    → IsIn new l × ((x : List Bool) → length x ≡ new.front
    → IsLateCapture d claim (shown_cycle new x ls) (not (start_bit claim.start (shown_cycle new x ls))) (bit_of new x l))
flipped_late old made new d claim ls late l rows keeps then literals of_late layers means = (
  means.here,
  λ x len.
      let before : length x ≡ made.front = len ∙ then.front in
      let same_made : shown_cycle made x ls ≡ shown_cycle old x ls = cycle_kept old made d x ls keeps literals before in
      let same_new : shown_cycle new x ls ≡ shown_cycle made x ls = cycle_kept made new d x ls then (literals_kept old made d ls keeps literals) len in
      let bit : bit_of made x late ≡ not (start_bit claim.start (shown_cycle made x ls)) =
      (keeps.means late (λ y. not (start_bit claim.start (shown_cycle old y ls))) of_late).bit x before
      ∙ ap (λ (c : Cycle). not (start_bit claim.start c)) (sym same_made) in
      let made_late : IsLateCapture d claim (shown_cycle made x ls) (not (start_bit claim.start (shown_cycle made x ls))) (bit_of new x l) =
      record {
        rows = shown_rows made x rows;
        layers = subst (λ (b : Bool). AreLayers value false d claim.start claim.through (λ o. shown o b) (shown_row made x ls.nets) (shown_rows made x rows)) bit
            (layers x before);
        capture = sym (means.bit x len);
      } in
      subst (λ (c : Cycle). IsLateCapture d claim c (not (start_bit claim.start c)) (bit_of new x l)) (sym same_new) made_late,
)
