-- The nets that the clock comes to, by marks: what hands it on from a net that is marked, and when nothing is left to be marked.
use Rattle.std.specs.Prelude.{◌≡◌, ◌⊎◌, ℕ, ◌<◌, ◌≤◌, Bool, true, false, List, length, All, Contains, Some, slice_get, slice_set}
use Rattle.sdcv_base.specs.Seqs.{is_marked}
use Rattle.net_model.specs.Form.{xor}
use Rattle.net_model.specs.declared.netlist.Gate.{Gate}
use Rattle.link_defs.specs.declared.circuits.Circuit.{Circuit}
use Rattle.link_defs.specs.declared.circuits.Part.{Part}
use Rattle.link_defs.specs.declared.circuits.Part.TheVariants as part
use Rattle.link_defs.specs.Circuits.{OnTree}
use Rattle.link_defs.specs.Parts.{inverts}
use Rattle.link_clocks.specs.declared.marks.ClockMarks.{ClockMarks}
use Rattle.link_clocks.specs.declared.marks.Reached.{Reached}
use Rattle.link_clocks.specs.declared.opens.Handed.{Handed}

-- the net is marked as one after an odd number of inversions, or after an even one
abbrev pub marked_at : ClockMarks → Bool → ℕ → Bool
marked_at m true net = is_marked m.odd net
marked_at m false net = is_marked m.even net

abbrev pub is_reached : ClockMarks → Reached → Bool
is_reached m r = marked_at m r.odd r.net

-- one mark more
abbrev pub with_mark : Bool → ℕ → ClockMarks → ClockMarks
with_mark true net m = record { even = m.even; odd = slice_set m.odd net true }
with_mark false net m = record { even = slice_set m.even net true; odd = m.odd }

-- marks of so many nets
pub record AreRows (nets : ℕ) (m : ClockMarks) : Type 0 where
  pub even_len : length m.even ≡ nets
  pub odd_len : length m.odd ≡ nets

-- a gate of a buffer or an inverter hands the clock on from a marked net
abbrev pub HandsGate : ClockMarks → ℕ → Gate → Reached → Type 0
HandsGate m from g to = (odd : Bool) × (to.net ≡ g.out) × (to.odd ≡ xor odd (inverts g.func)) × (marked_at m odd from ≡ true)

-- a part does
abbrev pub HandsOn : ClockMarks → Part → Reached → Type 0
HandsOn m (part.Comb true ins gates) to = (from : ℕ) × (g : Gate) × (slice_get ins 0 ≡ Some from) × Contains gates g × HandsGate m from g to
HandsOn m (part.Comb false ins gates) to = ⊥
HandsOn m (part.Flop clock reg) to = ⊥
HandsOn m (part.Gate clock enables out) to = (to.net ≡ out) × (to.odd ≡ false) × (marked_at m false clock ≡ true)

-- to a net that is not marked, or to none that is not
abbrev pub IsOpenGate : ClockMarks → ℕ → Gate → Reached → Type 0
IsOpenGate m from g to = HandsGate m from g to × (is_reached m to ≡ false)

abbrev pub IsClosedGate : ClockMarks → ℕ → Gate → Type 0
IsClosedGate m from g = (odd : Bool) → marked_at m odd from ≡ true → marked_at m (xor odd (inverts g.func)) g.out ≡ true

abbrev pub IsOpen : ClockMarks → Part → Reached → Type 0
IsOpen m p to = HandsOn m p to × (is_reached m to ≡ false)

abbrev pub IsClosed : ClockMarks → Part → Type 0
IsClosed m p = (to : Reached) → HandsOn m p to → is_reached m to ≡ true

abbrev pub AreClosed : ClockMarks → List Part → ℕ → ℕ → Type 0
AreClosed m parts from to = (k : ℕ) (p : Part) → from ≤ k → k < to → slice_get parts k ≡ Some p → IsClosed m p

-- the part at a place hands the clock on to a net that is not marked
abbrev pub IsOpenPart : ClockMarks → List Part → Handed → Type 0
IsOpenPart m parts h = (p : Part) × (slice_get parts h.place ≡ Some p) × IsOpen m p h.to

-- the clock comes to the net next: it is the clock's own, or a part hands it on to it
abbrev pub IsNext : Circuit → ClockMarks → Reached → Type 0
IsNext c m to = (Contains c.clocks to.net × (to.odd ≡ false)) ⊎ ((p : Part) × Contains c.parts p × HandsOn m p to)

pub record IsOpenAt (c : Circuit) (m : ClockMarks) (h : Handed) : Type 0 where
  pub next : IsNext c m h.to
  pub fresh : is_reached m h.to ≡ false
  pub place : h.place ≤ length c.parts

-- there is no such net
pub record AreAllMarked (c : Circuit) (m : ClockMarks) : Type 0 where
  pub clocks : All (λ (net : ℕ). is_marked m.even net ≡ true) c.clocks
  pub parts : (p : Part) → Contains c.parts p → IsClosed m p

-- the nets that are marked are on the clock tree so
abbrev pub AreOnTree : Circuit → ClockMarks → Type 0
AreOnTree c m = (net : ℕ) (odd : Bool) → marked_at m odd net ≡ true → OnTree c net odd

pub record IsMarking (c : Circuit) (m : ClockMarks) : Type 0 where
  pub rows : AreRows c.nets m
  pub on : AreOnTree c m
