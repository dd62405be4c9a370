-- The places of ends in a list, end by end.
use Rattle.std.proofs.Common.{arith, ◌≡◌, ℕ, ◌+◌, ◌≤◌, List, length, sym, ap, ◌∙◌, inl, inr}
use Rattle.std.specs.Prelude.{false, Option, Some, None, is_some, slice_get}
use Rattle.std.proofs.lemmas.Bool.{cases_lt}
use Rattle.std.proofs.lemmas.Option.{slice_get_within}
use Rattle.net_model.specs.Fits.{IsEndIn}
use Rattle.net_model.specs.declared.netlist.Design.{Design}
use Rattle.net_model.specs.declared.claims.End.{End}
use Rattle.net_model.specs.declared.claims.End.TheVariants.{Reg as RegEnd, Output as OutputEnd}
use Rattle.net_paths.specs.Aims.{place_of, HasRoom, AreRoomy, AreNoPlaces, ArePlacesUpTo, ArePlaces, IsPut}
use Rattle.net_paths.specs.Arrivals.{StandOnce}
use Rattle.net_paths.specs.declared.aims.Places.{Places}
use Rattle.net_paths.proofs.Growing.{some_is}

pub is_none : {A : Type 0} (o : Option A) → is_some o ≡ false → o ≡ None
is_none o e = grind arith

not_some : (n : ℕ) → None ≡ Some n → ⊥
not_some n e = grind arith

-- there is room for each end of the design
pub room_in : (d : Design) (p : Places) (end_ : End) → AreRoomy d p → IsEndIn d end_ → HasRoom p end_
room_in d p (RegEnd r) room low = omega (arith, room.regs, low)
room_in d p (OutputEnd o) room low = omega (arith, room.outputs, low)

pub places_first : (d : Design) (ends : List End) (p : Places) → AreNoPlaces d p → ArePlacesUpTo d ends 0 p
places_first d ends p are = record {
  room = are.room;
  listed = λ k end_ low at. absurd (omega (arith, low));
  placed = λ k end_ is. absurd (not_some k (sym (are.none end_) ∙ is));
}

-- the next end has had no place, and is given its own
pub places_more : (d : Design) (ends : List End) (k : ℕ) (end_ : End) (old new : Places) → slice_get ends k ≡ Some end_ → place_of old end_ ≡ None
    → IsPut end_ k old new → ArePlacesUpTo d ends k old → ArePlacesUpTo d ends (k + 1) new
places_more d ends k end_ old new here none put are = record {
  room = record { regs = put.regs ∙ are.room.regs; outputs = put.outputs ∙ are.room.outputs };
  listed = λ j e low at. elim (cases_lt j k) [
    | inl lower ↦
        let was : place_of old e ≡ Some j = are.listed j e lower at in
        elim (put.others e) [
          | inl same ↦ absurd (not_some j (sym none ∙ ap (place_of old) (sym same) ∙ was))
          | inr kept ↦ kept ∙ was
        ]
    | inr past ↦
        let last : j ≡ k = omega (arith, low, past) in
        let same : e ≡ end_ = some_is e end_ (sym at ∙ ap (slice_get ends) last ∙ here) in
        ap (place_of new) same ∙ put.placed ∙ ap Some (sym last)
  ];
  placed = λ j e is. elim (put.others e) [
    | inl same ↦
        let last : k ≡ j = some_is k j (sym put.placed ∙ ap (place_of new) (sym same) ∙ is) in
        (omega (arith, last), ap (slice_get ends) (sym last) ∙ here ∙ ap Some (sym same))
    | inr kept ↦
        let (low, at) = are.placed j e (sym kept ∙ is) in
        (omega (arith, low), at)
  ];
}

pub places_all : (d : Design) (ends : List End) (k : ℕ) (p : Places) → length ends ≤ k → ArePlacesUpTo d ends k p → ArePlaces d ends p
places_all d ends k p past are = record {
  room = are.room;
  listed = λ j e low at. are.listed j e (omega (arith, low, past)) at;
  placed = λ j e is. let (low, at) = are.placed j e is in (slice_get_within ends j e at, at);
}

-- an end that has a place stands there alone
pub stand_once : (d : Design) (ends : List End) (p : Places) → ArePlaces d ends p → StandOnce ends
stand_once d ends p are j k end_ first second =
    some_is j k (sym (are.listed j end_ (slice_get_within ends j end_ first) first) ∙ are.listed k end_ (slice_get_within ends k end_ second) second)
