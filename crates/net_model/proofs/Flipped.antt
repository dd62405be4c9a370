-- The late capture of a start that shows the other bit than in the cycle.
use Rattle.std.proofs.Common.{◌≡◌, ◌≢◌, ℕ, ◌+◌, ◌<◌, Bool, true, false, not, List, [], length, Option, Some, None, refl, sym, ◌∙◌, arith, subst, inl, inr}
use Rattle.std.specs.Prelude.{All, slice_get, slice_index}
use Rattle.std.proofs.lemmas.Bool.{cases_lt, cond_below, cond_above}
use Rattle.std.proofs.lemmas.List.Elements.{All-contains, All-cons, All-nil}
use Rattle.net_model.specs.Form.{value}
use Rattle.net_model.specs.FormLaws.{value_agrees}
use Rattle.net_model.specs.Netlist.{IsSound, IsRegInRange}
use Rattle.net_model.specs.Fits.{IsStartIn, IsEndIn}
use Rattle.net_model.specs.Cycles.{bit_at, gate_pins, reg_pins, shown, capture, reg_capture_in, IsSettled}
use Rattle.net_model.specs.Pins.{outs_of_reg, start_nets, start_outs}
use Rattle.net_model.specs.Layers.{net_at, pin_reads, AreLayers, IsLateCapture, capture_over, late_reg_capture, late_reg_pins}
use Rattle.net_model.specs.Judge.{start_bit}
use Rattle.net_model.specs.Flipped.{IsLateByFlip}
use Rattle.net_model.proofs.Settling.{All-at}
use Rattle.net_model.proofs.Members.{In, In-from_Contains, Contains-from_In, from_map}
use Rattle.net_model.proofs.RegCaptures.{capture_agrees}
use Rattle.net_model.proofs.LateOnce.{late_capture_once}
use Rattle.net_model.proofs.Still.{IsStill, stays, pin_still}
use Rattle.net_model.specs.declared.netlist.Design.{Design}
use Rattle.net_model.specs.declared.netlist.Reg.{Reg}
use Rattle.net_model.specs.declared.netlist.RegOut.{RegOut}
use Rattle.net_model.specs.declared.cycles.Cycle.{Cycle}
use Rattle.net_model.specs.declared.claims.Claim.{Claim}
use Rattle.net_model.specs.declared.claims.PinRef.{PinRef}
use Rattle.net_model.specs.declared.claims.PinRef.TheVariants.{RegIn, OutPort}
use Rattle.net_model.specs.declared.claims.Start.{Start}
use Rattle.net_model.specs.declared.claims.Start.TheVariants.{Reg as RegStart, Input as InputStart}
use Rattle.net_model.specs.declared.claims.End.{End}
use Rattle.net_model.specs.declared.claims.End.TheVariants.{Reg as RegEnd, Output as OutputEnd}

-- a net of the start shows the start's bit
reg_shows : (d : Design) (r : ℕ) (c : Cycle) → IsSettled d c → r < length d.regs → (o : Option Reg) → slice_get d.regs r ≡ o
    → All (λ (x : RegOut). bit_at c.nets x.net ≡ shown x (bit_at c.bits r)) (outs_of_reg o)
reg_shows d r c settled lt None e = λ k x within. absurd (omega (arith, within))
reg_shows d r c settled lt (Some reg) e = settled.regs r reg e

pub start_shows : (d : Design) (start : Start) (c : Cycle) → IsSettled d c → IsStartIn d start
    → All (λ (x : RegOut). bit_at c.nets x.net ≡ shown x (start_bit start c)) (start_outs d start)
start_shows d (RegStart r) c settled is = reg_shows d r c settled is (slice_get d.regs r) refl
start_shows d (InputStart i) c settled is =
    let out : RegOut = record { net = slice_index d.inputs i; inverted = false } in
    All-cons (λ (x : RegOut). bit_at c.nets x.net ≡ shown x (bit_at c.ins i)) out [] (settled.inputs i is)
    (All-nil (λ (x : RegOut). bit_at c.nets x.net ≡ shown x (bit_at c.ins i)))

-- where the late start shows what it shows in the cycle, nothing is late
all_still : (d : Design) (sets : List (List PinRef)) → IsStill d sets (λ l n. Unit {0}) (λ l pin n. Unit {0})
all_still d sets =
    record {
      held = λ l n lt low u is. tt;
      gates = λ l k g le at free u i lt. tt;
      first = λ pin n p. tt;
      later = λ l pin n p is. tt;
      own = λ l pin n p is. tt;
    }

start_kept : (d : Design) (claim : Claim) (c : Cycle) (rows : List (List Bool)) → IsSettled d c → IsStartIn d claim.start
    → AreLayers value false d claim.start claim.through (λ o. shown o (start_bit claim.start c)) c.nets rows → (n : ℕ)
    → In n (start_nets d claim.start) → net_at false rows 0 n ≡ bit_at c.nets n
start_kept d claim c rows settled is layers n has =
    let of = from_map (λ (o : RegOut). o.net) n (start_outs d claim.start) has in
    let there = Contains-from_In (start_outs d claim.start) of.0 of.1 in
    let late = All-contains (λ (o : RegOut). net_at false rows 0 o.net ≡ shown o (start_bit claim.start c)) (start_outs d claim.start) of.0 layers.late_nets
    there in
    let shows = All-contains (λ (o : RegOut). bit_at c.nets o.net ≡ shown o (start_bit claim.start c)) (start_outs d claim.start) of.0
    (start_shows d claim.start c settled is) there in
    subst (λ m. net_at false rows 0 m ≡ bit_at c.nets m) of.2 (late ∙ sym shows)

kept_pin : (d : Design) (claim : Claim) (c : Cycle) (rows : List (List Bool)) → IsSound d → IsSettled d c → IsStartIn d claim.start
    → AreLayers value false d claim.start claim.through (λ o. shown o (start_bit claim.start c)) c.nets rows → (pin : PinRef) (n : ℕ) → n < d.nets
    → pin_reads false claim.through rows (length claim.through) pin n ≡ bit_at c.nets n
kept_pin d claim c rows sound settled is layers pin n low =
    pin_still false d claim.through (λ l m. Unit {0}) (λ l p m. Unit {0}) rows c.nets (all_still d claim.through) (length claim.through) pin n
    (λ j le. stays value false d claim.start claim.through (λ o. shown o (start_bit claim.start c)) c.nets rows (λ l m. Unit {0}) (λ l p m. Unit {0})
    (record {
      reads = value_agrees;
      sound = sound;
      settled = settled.gates;
      layers = layers;
      still = all_still d claim.through;
      start_same = λ m has u. start_kept d claim c rows settled is layers m (In-from_Contains (start_nets d claim.start) m has);
    })
    j le n low)
    tt

kept_reg : (d : Design) (claim : Claim) (c : Cycle) (rows : List (List Bool)) → IsSound d → IsSettled d c → IsStartIn d claim.start
    → AreLayers value false d claim.start claim.through (λ o. shown o (start_bit claim.start c)) c.nets rows → (r : ℕ) (o : Option Reg)
    → slice_get d.regs r ≡ o → late_reg_capture claim.through rows r o (bit_at c.bits r) ≡ reg_capture_in c r o
kept_reg d claim c rows sound settled is layers r None at = refl
kept_reg d claim c rows sound settled is layers r (Some reg) at =
    let range = All-at (IsRegInRange d) d.regs r reg at sound.in_range.regs in
    let own = bit_at c.bits r in
    let last = length reg.ins in
    let read : ℕ → Bool = λ i. pin_reads false claim.through rows (length claim.through) (RegIn r i) (slice_index reg.ins i) in
    capture_agrees reg (last + 1) (late_reg_pins false claim.through rows r reg own) (reg_pins reg.ins c.nets own) range.next range.clear range.preset
    (λ i lt. elim (cases_lt i last) [
      | inl small ↦
          sym (cond_below i last (read i) own small) ∙ kept_pin d claim c rows sound settled is layers (RegIn r i) (slice_index reg.ins i) (range.ins i 0 small)
          ∙ cond_below i last (gate_pins reg.ins c.nets i) own small
      | inr same ↦
          sym (cond_above i last (read i) own own same refl) ∙ cond_above i last (gate_pins reg.ins c.nets i) own own same refl
    ])

kept_end : (d : Design) (claim : Claim) (c : Cycle) (rows : List (List Bool)) → IsSound d → IsSettled d c → IsStartIn d claim.start
    → AreLayers value false d claim.start claim.through (λ o. shown o (start_bit claim.start c)) c.nets rows → (e : End) → IsEndIn d e
    → capture_over d claim.through rows e c ≡ capture d e c
kept_end d claim c rows sound settled is layers (OutputEnd o) lt = kept_pin d claim c rows sound settled is layers (OutPort o)
    (slice_index d.outputs o) (sound.in_range.outputs o 0 lt)
kept_end d claim c rows sound settled is layers (RegEnd r) lt = kept_reg d claim c rows sound settled is layers r (slice_get d.regs r) refl

pub ne_not : (a b : Bool) → a ≢ b → not a ≡ b
ne_not true true f = absurd (f refl)
ne_not true false f = refl
ne_not false true f = refl
ne_not false false f = absurd (f refl)

-- where it differs, the start's bit is not the stale one, and the one late capture with the start flipped differs; and the other way round
pub late_by_flip : (d : Design) (claim : Claim) → IsSound d → IsStartIn d claim.start → IsEndIn d claim.end → IsLateByFlip d claim
late_by_flip d claim sound start_in end_in c stale late settled flipped = (
  λ apart.
      let other : start_bit claim.start c ≢ stale =
      λ e.
      let kept = subst (λ (b : Bool). IsLateCapture d claim c b apart.0) (sym e) apart.1 in
      apart.2 (sym kept.capture ∙ kept_end d claim c kept.rows sound settled start_in kept.layers claim.end end_in) in
      let flip = ne_not (start_bit claim.start c) stale other in
      let same = late_capture_once d claim c stale late apart.0 sound end_in (subst (λ (b : Bool). IsLateCapture d claim c b late) flip flipped) apart.1 in
      (other, λ e. apart.2 (sym same ∙ e)),
  λ both.
      let flip = ne_not (start_bit claim.start c) stale both.0 in
      (late, subst (λ (b : Bool). IsLateCapture d claim c b late) flip flipped, both.1),
)
