-- The places of ends at whose pins paths arrive, pin by pin and net by net.
use Rattle.std.proofs.Common.{arith, ◌≡◌, ℕ, ◌+◌, ◌<◌, ◌≤◌, List, [], ◌∷◌, ◌++◌, length, sym, ap, ◌∙◌, subst, inl, inr}
use Rattle.std.specs.Prelude.{All, Some, None, slice_get, slice_index, Contains}
use Rattle.std.proofs.lemmas.Bool.{cases_lt}
use Rattle.std.proofs.lemmas.List.Elements.{Contains-append_left, Contains-append_right, Contains-append_cases}
use Rattle.std.proofs.lemmas.Option.{slice_get-get_or, slice_get_within}
use Rattle.net_model.specs.Fits.{IsEndIn}
use Rattle.net_model.specs.Paths.{LeadsTo, To_reg, To_output, HasPath}
use Rattle.net_model.specs.declared.netlist.Design.{Design}
use Rattle.net_model.specs.declared.claims.End.{End}
use Rattle.net_model.specs.declared.claims.End.TheVariants.{Reg as RegEnd, Output as OutputEnd}
use Rattle.net_model.specs.declared.claims.PinRef.{PinRef}
use Rattle.net_model.specs.declared.claims.PinRef.TheVariants.{Net, GateIn, RegIn, OutPort}
use Rattle.net_paths.specs.Levels.{MeetsAllAt, MeetsAtEnd}
use Rattle.net_paths.specs.Readers.{readers_at}
use Rattle.net_paths.specs.Aims.{pin_place, AreRoomy, HasRoomAt, ArePlaces}
use Rattle.net_paths.specs.Arrivals.{IsReach, IsArrival, ArrivesFrom, Adds, AreArrivals, IsInOrder, StandsAt}
use Rattle.net_paths.specs.Those.{AreThose}
use Rattle.net_paths.specs.declared.aims.Places.{Places}
use Rattle.net_paths.specs.declared.reaches.Reach.{Reach}
use Rattle.net_model.proofs.Settling.{All-at}
use Rattle.net_paths.proofs.Growing.{some_is, only_one}
use Rattle.net_paths.proofs.Levelling.{path_from_meets, meets_from_path}
use Rattle.net_paths.proofs.Readings.{reg_of_pin, port_of_pin}
use Rattle.net_paths.proofs.Sifting.{those_alike}

-- it holds of the number at one of the first places
pub Before : {X : Type 0} → (X → ℕ → Type 0) → List X → ℕ → ℕ → Type 0
Before {X} Holds xs i n = (j : ℕ) × (x : X) × (j < i) × (slice_get xs j ≡ Some x) × Holds x n

pub adds_nothing : (P : ℕ → Type 0) (xs : List ℕ) → ((n : ℕ) → ¬ P n) → Adds P xs xs
adds_nothing P xs never = record { kept = λ n has. has; only = λ n has. inl has; all = λ n holds. absurd (never n holds) }

pub adds_one : (P : ℕ → Type 0) (xs ys : List ℕ) (x : ℕ) → ys ≡ xs ++ x ∷ [] → P x → ((n : ℕ) → P n → n ≡ x) → Adds P xs ys
adds_one P xs ys x is holds alone = subst (Adds P xs) (sym is) (record {
  kept = λ n has. Contains-append_left xs (x ∷ []) n has;
  only = λ n has. elim (Contains-append_cases xs (x ∷ []) n has) [
    | inl before ↦ inl before
    | inr last ↦ inr (subst P (only_one x n last) holds)
  ];
  all = λ n more. Contains-append_right xs (x ∷ []) n (0, omega arith, sym (alone n more));
})

pub adds_none : {X : Type 0} (Holds : X → ℕ → Type 0) (xs : List X) (ns : List ℕ) → Adds (Before Holds xs 0) ns ns
unfolding Before
adds_none {X} Holds xs ns = adds_nothing (Before Holds xs 0) ns (λ n before. let (j, x, low, at, holds) = before in omega (arith, low))

pub adds_next : {X : Type 0} (Holds : X → ℕ → Type 0) (xs : List X) (i : ℕ) (x : X) (old mid new : List ℕ) → slice_get xs i ≡ Some x
    → Adds (Before Holds xs i) old mid → Adds (Holds x) mid new → Adds (Before Holds xs (i + 1)) old new
unfolding Before
adds_next {X} Holds xs i x old mid new here first second = record {
  kept = λ n has. second.kept n (first.kept n has);
  only = λ n has. elim (second.only n has) [
    | inl before ↦ elim (first.only n before) [
      | inl was ↦ inl was
      | inr (j, y, low, at, holds) ↦ inr (j, y, omega (arith, low), at, holds)
    ]
    | inr holds ↦ inr (i, x, omega arith, here, holds)
  ];
  all = λ n more.
      let (j, y, low, at, holds) = more in
      elim (cases_lt j i) [
        | inl lower ↦ second.kept n (first.all n (j, y, lower, at, holds))
        | inr past ↦
            let last : j ≡ i = omega (arith, low, past) in
            let same : y ≡ x = some_is y x (sym at ∙ ap (slice_get xs) last ∙ here) in
            second.all n (subst (λ z. Holds z n) same holds)
      ];
}

-- there is room for the end of a pin that reads a net
pub room_at : (d : Design) (p : Places) (net : ℕ) (pin : PinRef) → AreRoomy d p → LeadsTo d (Net net) pin → HasRoomAt p pin
room_at d p net (Net m) room reads = tt
room_at d p net (GateIn k i) room reads = tt
room_at d p net (RegIn r i) room reads =
    let (reg, at, low, from) = reg_of_pin d net r i reads in
    let within = slice_get_within d.regs r reg at in
    omega (arith, within, room.regs)
room_at d p net (OutPort o) room reads =
    let (low, from) = port_of_pin d net o reads in
    omega (arith, low, room.outputs)

-- the pins of a net are those of its readers
pub net_added : (r : Reach) (p : Places) (net i : ℕ) (old new : List ℕ) → IsReach r → length (readers_at r.readers.now.rows.items net) ≤ i
    → Adds (Before (IsArrival r p net) (readers_at r.readers.now.rows.items net) i) old new → Adds (ArrivesFrom r p net) old new
unfolding Before
net_added r p net i old new reach past adds =
    let row : List PinRef = readers_at r.readers.now.rows.items net in
    record {
      kept = adds.kept;
      only = λ n has. elim (adds.only n has) [
        | inl was ↦ inl was
        | inr (j, pin, low, at, arrival) ↦ inr (pin, arrival)
      ];
      all = λ n more.
          let (pin, arrival) = more in
          let (j, low, is) = reach.readers.all net pin arrival.reads tt in
          adds.all n (j, pin, omega (arith, low, past), slice_get-get_or row j pin low ∙ ap Some is, arrival);
    }

nothing_in : (n : ℕ) → Contains [] n → ⊥
nothing_in n (j, low, is) = omega (arith, low)

-- paths arrive from nets of the cone alone
pub all_arrived : (r : Reach) (p : Places) (i : ℕ) (found : List ℕ) → IsReach r → length r.cone.now.nets.items ≤ i
    → Adds (Before (ArrivesFrom r p) r.cone.now.nets.items i) [] found → AreArrivals r p found
unfolding Before
all_arrived r p i found reach past adds =
    let nets : List ℕ = r.cone.now.nets.items in
    record {
      only = λ place has. elim (adds.only place has) [
        | inl was ↦ absurd (nothing_in place was)
        | inr (j, net, low, at, arrives) ↦ (net, arrives)
      ];
      all = λ net place arrives.
          let (before, at, enough) = arrives.1.meets in
          let (j, low, is) = reach.noted.noted net before at in
          adds.all place (j, net, omega (arith, low, past), slice_get-get_or nets j net low ∙ ap Some is, arrives);
    }

no_place : (n : ℕ) → None ≡ Some n → ⊥
no_place n e = grind arith

-- the end of a pin at which all sets are met
met_end : (d : Design) (r : Reach) (p : Places) (ends : List End) (net : ℕ) (pin : PinRef) (place : ℕ) → ArePlaces d ends p
    → LeadsTo d (Net net) pin → MeetsAllAt r.launch.now.sets.now r.cone.now.levels pin net → pin_place p pin ≡ Some place
    → (end_ : End) × (slice_get ends place ≡ Some end_) × MeetsAtEnd d r.launch.now.sets.now r.cone.now.levels end_
met_end d r p ends net (Net m) place are reads meets is = absurd (no_place place is)
met_end d r p ends net (GateIn k i) place are reads meets is = absurd (no_place place is)
met_end d r p ends net (RegIn q i) place are reads meets is =
    let (reg, at, low, from) = reg_of_pin d net q i reads in
    let (within, stands) = are.placed place (RegEnd q) is in
    (RegEnd q, stands, (reg, at, (i, low, subst (MeetsAllAt r.launch.now.sets.now r.cone.now.levels (RegIn q i)) (sym from) meets)))
met_end d r p ends net (OutPort o) place are reads meets is =
    let (low, from) = port_of_pin d net o reads in
    let (within, stands) = are.placed place (OutputEnd o) is in
    (OutputEnd o, stands, subst (MeetsAllAt r.launch.now.sets.now r.cone.now.levels (OutPort o)) (sym from) meets)

-- an end stands at a place where paths arrive exactly where all sets are met at a pin of it
pub end_of_arrival : (r : Reach) (p : Places) (ends : List End) (net place : ℕ) → ArePlaces r.launch.now.design.now ends p → ArrivesFrom r p net place
    → (end_ : End) × (slice_get ends place ≡ Some end_) × MeetsAtEnd r.launch.now.design.now r.launch.now.sets.now r.cone.now.levels end_
end_of_arrival r p ends net place are (pin, arrival) =
    met_end r.launch.now.design.now r p ends net pin place are arrival.reads arrival.meets arrival.ends

pub arrival_of_end : (r : Reach) (p : Places) (ends : List End) (k : ℕ) (end_ : End) → ArePlaces r.launch.now.design.now ends p
    → slice_get ends k ≡ Some end_ → IsEndIn r.launch.now.design.now end_
    → MeetsAtEnd r.launch.now.design.now r.launch.now.sets.now r.cone.now.levels end_ → (net : ℕ) × ArrivesFrom r p net k
arrival_of_end r p ends k (RegEnd q) are here fits (reg, at, (i, low, meets)) =
    let arrival : IsArrival r p (slice_index reg.ins i) (RegIn q i) k = record {
      reads = To_reg q reg i at low;
      meets = meets;
      ends = are.listed k (RegEnd q) (slice_get_within ends k (RegEnd q) here) here;
    } in
    (slice_index reg.ins i, (RegIn q i, arrival))
arrival_of_end r p ends k (OutputEnd o) are here fits meets =
    let arrival : IsArrival r p (slice_index r.launch.now.design.now.outputs o) (OutPort o) k = record {
      reads = To_output o fits;
      meets = meets;
      ends = are.listed k (OutputEnd o) (slice_get_within ends k (OutputEnd o) here) here;
    } in
    (slice_index r.launch.now.design.now.outputs o, (OutPort o, arrival))

-- the ends at the places where paths arrive are those to which paths lead
pub ends_found : (r : Reach) (p : Places) (ends : List End) (arrived ordered places : List ℕ) (found : List End) → IsReach r
    → All (IsEndIn r.launch.now.design.now) ends → ArePlaces r.launch.now.design.now ends p → AreArrivals r p arrived → IsInOrder arrived ordered
    → places ≡ ordered → AreThose (StandsAt ends places) ends found
    → AreThose (λ end_. HasPath r.launch.now.design.now r.launch.now.start.now end_ r.launch.now.sets.now) ends found
ends_found r p ends arrived ordered places found reach fit are arrivals order is those =
    let d = r.launch.now.design.now in
    let start = r.launch.now.start.now in
    let sets = r.launch.now.sets.now in
    let levels = r.cone.now.levels in
    those_alike (StandsAt ends places) (λ end_. HasPath d start end_ sets) ends found
    (λ k x at stands.
    let (m, has, here) = stands in
    let (net, arrives) = arrivals.only m (order.only m (subst (λ (l : List ℕ). Contains l m) is has)) in
    let (end_, at', meets) = end_of_arrival r p ends net m are arrives in
    let same : end_ ≡ x = some_is end_ x (sym at' ∙ here) in
    path_from_meets d start x sets levels reach.launch.sound (All-at (IsEndIn d) ends k x at fit) reach.levels (subst (MeetsAtEnd d sets levels) same meets))
    (λ k x at path.
    let fits = All-at (IsEndIn d) ends k x at fit in
    let meets = meets_from_path d start x sets levels reach.launch.sound fits reach.levels path in
    let (net, arrives) = arrival_of_end r p ends k x are at fits meets in
    (k, subst (λ (l : List ℕ). Contains l k) (sym is) (order.all k (arrivals.all net k arrives)), at))
    those
