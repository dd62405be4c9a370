-- Levels that grow net by net, and what they say when no net is left.
use Rattle.std.proofs.Common.{arith, ◌≡◌, ◌≢◌, ℕ, zero, suc, ◌+◌, ◌<◌, ◌≤◌, List, [], ◌∷◌, ◌++◌, length, get_or, set, refl, sym, ap, ◌∙◌, subst, ◌⊎◌}
use Rattle.std.proofs.Common.{inl, inr, length-append, get_or-set_same, get_or-set_other, length-set}
use Rattle.std.specs.Prelude.{All, map, take, Option, Some, None, slice_get, slice_index, Contains}
use Rattle.std.proofs.Math.Seq.{get_or-append_seam}
use Rattle.std.proofs.Math.ListN.{get_or-append}
use Rattle.std.proofs.lemmas.List.{take_more, take_all, map-append, length-map, get_or-map}
use Rattle.net_model.specs.declared.netlist.RegOut.{RegOut}
use Rattle.std.proofs.lemmas.Bool.{cases_lt, cases_eq}
use Rattle.std.proofs.lemmas.List.Elements.{All-append, Contains-get_or, Contains-append_left, Contains-append_right, Contains-append_cases}
use Rattle.std.proofs.lemmas.Option.{slice_get_within, slice_get-get_or}
use Rattle.net_model.specs.Netlist.{AllBelow}
use Rattle.net_model.specs.Pins.{start_nets}
use Rattle.net_model.specs.Paths.{LeadsTo, Through_gate}
use Rattle.net_model.specs.declared.netlist.Design.{Design}
use Rattle.net_model.specs.declared.netlist.Gate.{Gate}
use Rattle.net_model.specs.declared.claims.Start.{Start}
use Rattle.net_model.specs.declared.claims.PinRef.{PinRef}
use Rattle.net_model.specs.declared.claims.PinRef.TheVariants.{Net, GateIn, RegIn, OutPort}
use Rattle.net_paths.specs.Levels.{advanced, Reaches, At_start, Goes_on, level_at, IsAtLeast, IsLevel, met_through}
use Rattle.net_paths.specs.Cones.{IsEmptyCone, AreNoted, IsPending, IsTold, IsGrowing, IsSeeded, IsRaised, IsUnchanged, Was, Is_now, IsGrown}
use Rattle.net_paths.specs.Cones.{IsPassed, IsToldAt}
use Rattle.net_paths.specs.declared.cones.Cone.{Cone}
use Rattle.net_paths.proofs.Advancing.{advanced_le}
use Rattle.net_paths.proofs.Levelling.{at_least_less, at_least_some}
use Rattle.net_paths.proofs.Reaching.{Lead, Into_gate, Out_of_gate, Into_reg, Into_port, lead_of}

pub some_is : {A : Type 0} (x y : A) → Some x ≡ Some y → x ≡ y
some_is x y e = grind arith

-- the one item of a list
pub only_one : (x n : ℕ) → Contains (x ∷ []) n → x ≡ n
only_one x n (zero, below, is) = is
only_one x n (suc i, below, is) = absurd (omega arith)

all_one : (P : ℕ → Type 0) (x : ℕ) → P x → All P (x ∷ [])
all_one P x has zero d below = has
all_one P x has (suc i) d below = absurd (omega arith)

-- the level of a net after one level is written
at_written : (levels : List (Option ℕ)) (net n met : ℕ) → net < length levels → n ≡ net → level_at (set levels net (Some met)) n ≡ Some met
at_written levels net n met within same = ap (level_at (set levels net (Some met))) same ∙ get_or-set_same levels net (Some met) None within

at_other : (levels : List (Option ℕ)) (net n met : ℕ) → n ≢ net → level_at (set levels net (Some met)) n ≡ level_at levels n
at_other levels net n met differs = get_or-set_other levels net n (Some met) None differs

at_least_total : (m : ℕ) (o : Option ℕ) (n : ℕ) → IsAtLeast m o → ¬ IsAtLeast n o → m ≤ n
at_least_total m None n at not = absurd at
at_least_total m (Some l) n at not = elim (cases_lt l n) [ inl less ↦ omega (arith, at, less) | inr past ↦ absurd (not past) ]

-- what stands at the places of a list with one more item
place_last : (xs ys : List ℕ) (x : ℕ) → ys ≡ xs ++ x ∷ [] → slice_get ys (length xs) ≡ Some x
place_last xs ys x e =
    let long : length (xs ++ x ∷ []) ≡ length xs + 1 = length-append xs (x ∷ []) in
    let here : slice_get (xs ++ x ∷ []) (length xs) ≡ Some x = slice_get-get_or (xs ++ x ∷ []) (length xs) 0 (omega (arith, long))
    ∙ ap Some (get_or-append_seam xs x [] 0) in
    subst (λ l. slice_get l (length xs) ≡ Some x) (sym e) here

place_before : (xs ys : List ℕ) (x i : ℕ) → ys ≡ xs ++ x ∷ [] → i < length xs → slice_get ys i ≡ slice_get xs i
place_before xs ys x i e lt =
    let long : length (xs ++ x ∷ []) ≡ length xs + 1 = length-append xs (x ∷ []) in
    let here : slice_get (xs ++ x ∷ []) i ≡ slice_get xs i = slice_get-get_or (xs ++ x ∷ []) i 0 (omega (arith, long))
    ∙ ap Some (get_or-append xs (x ∷ []) 0 i lt) ∙ sym (slice_get-get_or xs i 0 lt) in
    subst (λ l. slice_get l i ≡ slice_get xs i) (sym e) here

-- what a raised net means
pub raised_has : (net met : ℕ) (old new : Cone) → net < length old.levels → IsRaised net met old new → IsAtLeast met (level_at new.levels net)
raised_has net met old new within (Was at un) = subst (λ (l : List (Option ℕ)). IsAtLeast met (level_at l net)) (sym un.levels) at
raised_has net met old new within (Is_now not levels nets told) =
    let here : level_at new.levels net ≡ Some met = ap (λ (l : List (Option ℕ)). level_at l net) levels ∙ at_written old.levels net net met within refl in
    subst (IsAtLeast met) (sym here) (omega arith)

-- where nothing is changed
pub unchanged_grown : (old new : Cone) → IsUnchanged old new → IsGrown old new
unchanged_grown old new un = record {
  no_lower = λ n m had. subst (λ (l : List (Option ℕ)). IsAtLeast m (level_at l n)) (sym un.levels) had;
  longer = let e : length new.nets.items ≡ length old.nets.items = ap length un.nets in omega (arith, e);
  same = λ place lt. ap (λ (l : List ℕ). slice_get l place) un.nets;
  kept = λ n. inl (ap (λ (l : List (Option ℕ)). level_at l n) un.levels);
  told = un.told;
}

pub raised_grown : (net met : ℕ) (old new : Cone) → net < length old.levels → IsRaised net met old new → IsGrown old new
raised_grown net met old new within (Was at un) = unchanged_grown old new un
raised_grown net met old new within (Is_now not levels nets told) = record {
  no_lower = λ n m had. elim (cases_eq n net) [
    | inl same ↦
        let here : level_at new.levels n ≡ Some met = ap (λ (l : List (Option ℕ)). level_at l n) levels ∙ at_written old.levels net n met within same in
        subst (IsAtLeast m) (sym here) (at_least_total m (level_at old.levels net) met (subst (λ q. IsAtLeast m (level_at old.levels q)) same had) not)
    | inr differs ↦
        let there : level_at new.levels n ≡ level_at old.levels n = ap (λ (l : List (Option ℕ)). level_at l n) levels ∙ at_other old.levels net n met differs in
        subst (IsAtLeast m) (sym there) had
  ];
  longer = let e : length new.nets.items ≡ length (old.nets.items ++ net ∷ []) = ap length nets in let f = length-append old.nets.items (net ∷ []) in
      omega (arith, e, f);
  same = λ place lt. place_before old.nets.items new.nets.items net place nets lt;
  kept = λ n. elim (cases_eq n net) [
    | inl same ↦ inr (length old.nets.items, omega arith, place_last old.nets.items new.nets.items net nets ∙ ap Some (sym same))
    | inr differs ↦ inl (ap (λ (l : List (Option ℕ)). level_at l n) levels ∙ at_other old.levels net n met differs)
  ];
  told = told;
}

pub raised_told : (net met : ℕ) (old new : Cone) → IsRaised net met old new → new.told ≡ old.told
raised_told net met old new (Was at un) = un.told
raised_told net met old new (Is_now not levels nets told) = told

pub grown_same : (c : Cone) → IsGrown c c
grown_same c = record { no_lower = λ n m had. had; longer = omega arith; same = λ place lt. refl; kept = λ n. inl refl; told = refl }

pending_later : (c : Cone) (a b n : ℕ) → a ≤ b → IsPending c b n → IsPending c a n
pending_later c a b n le (place, past, at) = (place, omega (arith, le, past), at)

pending_stays : (old new : Cone) (next n : ℕ) → IsGrown old new → IsPending old next n → IsPending new next n
pending_stays old new next n grown (place, past, at) = (place, past, grown.same place (slice_get_within old.nets.items place n at) ∙ at)

pub grown_more : (a b c : Cone) → IsGrown a b → IsGrown b c → IsGrown a c
grown_more a b c first second = record {
  no_lower = λ n m had. second.no_lower n m (first.no_lower n m had);
  longer = omega (arith, first.longer, second.longer);
  same = λ place lt. second.same place (omega (arith, lt, first.longer)) ∙ first.same place lt;
  kept = λ n. elim (second.kept n) [
    | inl same ↦ elim (first.kept n) [ inl before ↦ inl (same ∙ before) | inr pending ↦ inr (pending_stays b c (length a.nets.items) n second pending) ]
    | inr pending ↦ inr (pending_later c (length a.nets.items) (length b.nets.items) n first.longer pending)
  ];
  told = second.told ∙ first.told;
}

pub unchanged_noted : (nets : ℕ) (old new : Cone) → AreNoted nets old → IsUnchanged old new → AreNoted nets new
unchanged_noted nets old new noted un = record {
  len = ap length un.levels ∙ noted.len;
  noted = λ n m e. subst (λ (l : List ℕ). Contains l n) (sym un.nets) (noted.noted n m (sym (ap (λ (l : List (Option ℕ)). level_at l n) un.levels) ∙ e));
  in_range = subst (AllBelow nets) (sym un.nets) noted.in_range;
}

pub raised_noted : (nets net met : ℕ) (old new : Cone) → net < nets → AreNoted nets old → IsRaised net met old new → AreNoted nets new
raised_noted nets net met old new below noted (Was at un) = unchanged_noted nets old new noted un
raised_noted nets net met old new below noted (Is_now not levels items told) = record {
  len = ap length levels ∙ length-set old.levels net (Some met) ∙ noted.len;
  noted = λ n m e. subst (λ (l : List ℕ). Contains l n) (sym items) (elim (cases_eq n net) [
    | inl same ↦ Contains-append_right old.nets.items (net ∷ []) n (0, omega arith, sym same)
    | inr differs ↦ Contains-append_left old.nets.items (net ∷ []) n
        (noted.noted n m (sym (ap (λ (l : List (Option ℕ)). level_at l n) levels ∙ at_other old.levels net n met differs) ∙ e))
  ]);
  in_range = subst (AllBelow nets) (sym items) (All-append (λ q. q < nets) old.nets.items (net ∷ []) noted.in_range (all_one (λ q. q < nets) net below));
}

raised_reached : (d : Design) (start : Start) (sets : List (List PinRef)) (net met : ℕ) (old new : Cone) → net < length old.levels
    → Reaches d start sets (Net net) met
    → ((n m : ℕ) → level_at old.levels n ≡ Some m → Reaches d start sets (Net n) m) → IsRaised net met old new → (n m : ℕ)
    → level_at new.levels n ≡ Some m → Reaches d start sets (Net n) m
raised_reached d start sets net met old new within reaches before (Was at un) n m e =
    before n m (sym (ap (λ (l : List (Option ℕ)). level_at l n) un.levels) ∙ e)
raised_reached d start sets net met old new within reaches before (Is_now not levels items told) n m e =
    elim (cases_eq n net) [
      | inl same ↦
          let here : level_at new.levels n ≡ Some met = ap (λ (l : List (Option ℕ)). level_at l n) levels ∙ at_written old.levels net n met within same in
          let equal : met ≡ m = some_is met m (sym here ∙ e) in
          subst (λ q. Reaches d start sets (Net q) m) (sym same) (subst (Reaches d start sets (Net net)) equal reaches)
      | inr differs ↦ before n m (sym (ap (λ (l : List (Option ℕ)). level_at l n) levels ∙ at_other old.levels net n met differs) ∙ e)
    ]

told_grown : (d : Design) (sets : List (List PinRef)) (old new : Cone) (n m : ℕ) → IsGrown old new → IsTold d sets old.levels n m → IsTold d sets new.levels n m
told_grown d sets old new n m grown told k g i at within is = grown.no_lower g.out (met_through sets k g.out i m) (told k g i at within is)

-- one net is raised
pub raised_growing : (d : Design) (start : Start) (sets : List (List PinRef)) (net met next : ℕ) (old new : Cone) → net < d.nets
    → Reaches d start sets (Net net) met → next ≤ length old.nets.items
    → IsGrowing d start sets old next → IsRaised net met old new → IsGrowing d start sets new next
raised_growing d start sets net met next old new below reaches here growing raised =
    let within : net < length old.levels = subst (λ n. net < n) (sym growing.noted.len) below in
    let grown : IsGrown old new = raised_grown net met old new within raised in
    record {
      noted = raised_noted d.nets net met old new below growing.noted raised;
      reached = raised_reached d start sets net met old new within reaches growing.reached raised;
      seeded = λ n starts. grown.no_lower n (advanced sets 0 (Net n)) (growing.seeded n starts);
      told = λ n m e. elim (grown.kept n) [
        | inl same ↦ elim (growing.told n m (sym same ∙ e)) [
          | inl pending ↦ inl (pending_stays old new next n grown pending)
          | inr told ↦ inr (told_grown d sets old new n m grown told)
        ]
        | inr pending ↦ inl (pending_later new next (length old.nets.items) n here pending)
      ];
    }

-- where nothing is changed, all is as it was
pub unchanged_growing : (d : Design) (start : Start) (sets : List (List PinRef)) (next : ℕ) (old new : Cone) → IsGrowing d start sets old next
    → IsUnchanged old new → IsGrowing d start sets new next
unchanged_growing d start sets next old new growing un =
    let level : (n : ℕ) → level_at new.levels n ≡ level_at old.levels n = λ n. ap (λ (l : List (Option ℕ)). level_at l n) un.levels in
    let grown : IsGrown old new = unchanged_grown old new un in
    record {
      noted = unchanged_noted d.nets old new growing.noted un;
      reached = λ n m e. growing.reached n m (sym (level n) ∙ e);
      seeded = λ n starts. grown.no_lower n (advanced sets 0 (Net n)) (growing.seeded n starts);
      told = λ n m e. elim (growing.told n m (sym (level n) ∙ e)) [
        | inl pending ↦ inl (pending_stays old new next n grown pending)
        | inr told ↦ inr (told_grown d sets old new n m grown told)
      ];
    }

pub passed_grown : (d : Design) (sets : List (List PinRef)) (met : ℕ) (pin : PinRef) (old new : Cone) → IsGrown old new
    → IsPassed d sets met pin old.levels → IsPassed d sets met pin new.levels
passed_grown d sets met (Net n) old new grown passed = tt
passed_grown d sets met (GateIn k i) old new grown passed = λ g at. grown.no_lower g.out (met_through sets k g.out i met) (passed g at)
passed_grown d sets met (RegIn r i) old new grown passed = tt
passed_grown d sets met (OutPort o) old new grown passed = tt

-- a net whose readers are all looked at has told them its level, or is noted again
pub told_from_passed : (d : Design) (sets : List (List PinRef)) (net met next : ℕ) (row : List PinRef) (old new : Cone)
    → ((k : ℕ) (g : Gate) (i : ℕ) → slice_get d.gates k ≡ Some g → i < length g.ins → slice_index g.ins i ≡ net → Contains row (GateIn k i))
    → level_at old.levels net ≡ Some met → next < length old.nets.items → IsGrown old new
    → ((j : ℕ) (pin : PinRef) → slice_get row j ≡ Some pin → IsPassed d sets met pin new.levels) → IsToldAt d sets net new next
told_from_passed d sets net met next row old new all level here grown passed m e =
    elim (grown.kept net) [
      | inl same ↦
          let equal : met ≡ m = some_is met m (sym level ∙ sym same ∙ e) in
          inr (subst (IsTold d sets new.levels net) equal (λ k g i at within is. let (j, low, there) = all k g i at within is in
          passed j (GateIn k i) (slice_get-get_or row j (GateIn k i) low ∙ ap Some there) g at))
      | inr pending ↦ inl (pending_later new (next + 1) (length old.nets.items) net (omega (arith, here)) pending)
    ]

-- the net at a place has told its readers
pub growing_more : (d : Design) (start : Start) (sets : List (List PinRef)) (net next : ℕ) (c : Cone) → slice_get c.nets.items next ≡ Some net
    → IsGrowing d start sets c next → IsToldAt d sets net c next → IsGrowing d start sets c (next + 1)
growing_more d start sets net next c here growing told = record {
  noted = growing.noted;
  reached = growing.reached;
  seeded = growing.seeded;
  told = λ n m e. elim (growing.told n m e) [
    | inl pending ↦
        let (place, past, at) = pending in
        elim (cases_eq place next) [
          | inl same ↦
              let is : net ≡ n = some_is net n (sym here ∙ subst (λ p. slice_get c.nets.items p ≡ Some n) same at) in
              subst (λ q. IsPending c (next + 1) q ⊎ IsTold d sets c.levels q m) is (told m (subst (λ q. level_at c.levels q ≡ Some m) (sym is) e))
          | inr differs ↦ inl (place, omega (arith, past, differs), at)
        ]
    | inr done ↦ inr done
  ];
}

-- a net without a level has nothing to tell
pub nothing_told : (d : Design) (sets : List (List PinRef)) (net next : ℕ) (c : Cone) → level_at c.levels net ≡ None → IsToldAt d sets net c next
nothing_told d sets net next c none m e = absurd (let bad : None ≡ Some m = sym none ∙ e in grind arith)

-- what the levels say of a pin that is reached
Covered : Design → List (List PinRef) → List (Option ℕ) → PinRef → ℕ → Type 0
Covered d sets levels (Net n) met = IsAtLeast met (level_at levels n)
Covered d sets levels (GateIn k i) met =
    (g : Gate) → slice_get d.gates k ≡ Some g → (before : ℕ) × (level_at levels (slice_index g.ins i) ≡ Some before) × (met ≤ advanced sets before (GateIn k i))
Covered d sets levels (RegIn r i) met = Unit {0}
Covered d sets levels (OutPort o) met = Unit {0}

AreTold : Design → List (List PinRef) → List (Option ℕ) → Type 0
AreTold d sets levels = (n m : ℕ) → level_at levels n ≡ Some m → IsTold d sets levels n m

covered_step : (d : Design) (sets : List (List PinRef)) (levels : List (Option ℕ)) (pin next : PinRef) (met : ℕ) → AreTold d sets levels
    → Lead d pin next → Covered d sets levels pin met
    → Covered d sets levels next (advanced sets met next)
unfolding Covered AreTold
covered_step d sets levels pin next met told (Into_gate k g i at here from to) covered =
    let level : IsAtLeast met (level_at levels (slice_index g.ins i)) = subst (λ q. Covered d sets levels q met) from covered in
    let (before, known, le) = at_least_some met (level_at levels (slice_index g.ins i)) level in
    subst (λ q. Covered d sets levels q (advanced sets met q)) (sym to) (λ h at'.
    let same : g ≡ h = some_is g h (sym at ∙ at') in
    (before, subst (λ (q : Gate). level_at levels (slice_index q.ins i) ≡ Some before) same known, advanced_le sets met before (GateIn k i) le))
covered_step d sets levels pin next met told (Out_of_gate k g i at here from to) covered =
    let input : Covered d sets levels (GateIn k i) met = subst (λ q. Covered d sets levels q met) from covered in
    let (before, known, le) = input g at in
    let out = told (slice_index g.ins i) before known k g i at here refl in
    subst (λ q. Covered d sets levels q (advanced sets met q)) (sym to)
    (at_least_less (advanced sets met (Net g.out)) (met_through sets k g.out i before) (level_at levels g.out)
    (advanced_le sets met (advanced sets before (GateIn k i)) (Net g.out) le) out)
covered_step d sets levels pin next met told (Into_reg r reg i at here from to) covered = subst (λ q. Covered d sets levels q (advanced sets met q)) (sym to) tt
covered_step d sets levels pin next met told (Into_port o here from to) covered = subst (λ q. Covered d sets levels q (advanced sets met q)) (sym to) tt

covered_all : (d : Design) (start : Start) (sets : List (List PinRef)) (levels : List (Option ℕ)) (pin : PinRef) (met : ℕ)
    → ((net : ℕ) → Contains (start_nets d start) net → IsAtLeast (advanced sets 0 (Net net)) (level_at levels net))
    → AreTold d sets levels → Reaches d start sets pin met → Covered d sets levels pin met
unfolding Covered
covered_all d start sets levels _ _ seeded told (At_start net starts) = seeded net starts
covered_all d start sets levels _ _ seeded told (Goes_on pin next met reaches leads) =
    covered_step d sets levels pin next met told (lead_of d pin next leads) (covered_all d start sets levels pin met seeded told reaches)

-- when no net is left, each net has its level
pub grown_levels : (d : Design) (start : Start) (sets : List (List PinRef)) (c : Cone) (next : ℕ) → length c.nets.items ≤ next
    → IsGrowing d start sets c next → (net : ℕ) → IsLevel d start sets net (level_at c.levels net)
unfolding Covered AreTold
grown_levels d start sets c next past growing net = record {
  some = λ met e. growing.reached net met e;
  greatest = λ met reaches. covered_all d start sets c.levels (Net net) met growing.seeded (λ n m e. elim (growing.told n m e) [
    | inl pending ↦ absurd (let (place, late, at) = pending in let low = slice_get_within c.nets.items place n at in omega (arith, past, late, low))
    | inr told ↦ told
  ]) reaches;
}

-- an empty cone has nothing that is not noted
pub empty_noted : (nets : ℕ) (c : Cone) → IsEmptyCone nets c → AreNoted nets c
empty_noted nets c empty = record {
  len = empty.len;
  noted = λ n m e. absurd (let bad : None ≡ Some m = sym (empty.empty n) ∙ e in grind arith);
  in_range = subst (AllBelow nets) (sym empty.none) (λ i x low. absurd (omega (arith, low)));
}

-- the first nets of the start
pub seeded_first : (d : Design) (start : Start) (sets : List (List PinRef)) (c : Cone) → IsEmptyCone d.nets c → IsSeeded d start sets [] c
seeded_first d start sets c empty = record {
  noted = empty_noted d.nets c empty;
  reached = λ n m e. absurd (let bad : None ≡ Some m = sym (empty.empty n) ∙ e in grind arith);
  seeded = λ n has. let (i, low, is) = has in absurd (omega (arith, low));
}

pub seeded_more : (d : Design) (start : Start) (sets : List (List PinRef)) (seeds : List ℕ) (net : ℕ) (old new : Cone) → net < d.nets
    → Contains (start_nets d start) net → IsSeeded d start sets seeds old → IsRaised net (advanced sets 0 (Net net)) old new
    → IsSeeded d start sets (seeds ++ net ∷ []) new
seeded_more d start sets seeds net old new below starts seeded raised =
    let met : ℕ = advanced sets 0 (Net net) in
    let within : net < length old.levels = subst (λ n. net < n) (sym seeded.noted.len) below in
    let grown : IsGrown old new = raised_grown net met old new within raised in
    record {
      noted = raised_noted d.nets net met old new below seeded.noted raised;
      reached = raised_reached d start sets net met old new within (At_start net starts) seeded.reached raised;
      seeded = λ n has. elim (Contains-append_cases seeds (net ∷ []) n has) [
        | inl earlier ↦ grown.no_lower n (advanced sets 0 (Net n)) (seeded.seeded n earlier)
        | inr last ↦
            let is : net ≡ n = only_one net n last in
            subst (λ q. IsAtLeast (advanced sets 0 (Net q)) (level_at new.levels q)) is (raised_has net met old new within raised)
      ];
    }

pub growing_first : (d : Design) (start : Start) (sets : List (List PinRef)) (c : Cone) → IsSeeded d start sets (start_nets d start) c
    → IsGrowing d start sets c 0
growing_first d start sets c seeded = record {
  noted = seeded.noted;
  reached = seeded.reached;
  seeded = seeded.seeded;
  told = λ n m e. let (i, low, is) = seeded.noted.noted n m e in inl (i, omega arith, slice_get-get_or c.nets.items i n low ∙ ap Some is);
}

-- the nets of one more output of the start
pub seeded_out : (d : Design) (start : Start) (sets : List (List PinRef)) (outs : List RegOut) (i : ℕ) (o : RegOut) (old new : Cone) → i < length outs
    → start_nets d start ≡ map (λ (o : RegOut). o.net) outs
    → AllBelow d.nets (map (λ (o : RegOut). o.net) outs) → IsSeeded d start sets (map (λ (o : RegOut). o.net) (take i outs)) old
    → IsRaised (get_or outs i o).net (advanced sets 0 (Net (get_or outs i o).net)) old new
    → IsSeeded d start sets (map (λ (o : RegOut). o.net) (take (i + 1) outs)) new
seeded_out d start sets outs i o old new here nets below seeded raised =
    let all : List ℕ = map (λ (o : RegOut). o.net) outs in
    let net : ℕ = (get_or outs i o).net in
    let within : i < length all = let e = length-map outs (λ (o : RegOut). o.net) in omega (arith, e, here) in
    let is : get_or all i 0 ≡ net = get_or-map (λ (o : RegOut). o.net) outs i o 0 here in
    let has : Contains (start_nets d start) net = subst (λ (l : List ℕ). Contains l net) (sym nets)
    (subst (Contains all) is (Contains-get_or all i 0 within)) in
    let low : net < d.nets = subst (λ n. n < d.nets) is (below i 0 within) in
    let more : map (λ (o : RegOut). o.net) (take (i + 1) outs) ≡ map (λ (o : RegOut). o.net) (take i outs) ++ net ∷ [] =
    ap (map (λ (o : RegOut). o.net)) (take_more outs i o here) ∙ map-append (λ (o : RegOut). o.net) (take i outs) (get_or outs i o ∷ []) in
    subst (λ (l : List ℕ). IsSeeded d start sets l new) (sym more) (seeded_more d start sets (map (λ (o : RegOut). o.net) (take i outs)) net old new
    low has seeded raised)

pub growing_from_outs : (d : Design) (start : Start) (sets : List (List PinRef)) (outs : List RegOut) (i : ℕ) (c : Cone) → length outs ≤ i
    → start_nets d start ≡ map (λ (o : RegOut). o.net) outs
    → IsSeeded d start sets (map (λ (o : RegOut). o.net) (take i outs)) c → IsGrowing d start sets c 0
growing_from_outs d start sets outs i c past nets seeded =
    growing_first d start sets c (subst (λ (l : List ℕ). IsSeeded d start sets l c) (ap (map (λ (o : RegOut). o.net)) (take_all i outs past) ∙ sym nets) seeded)

-- a start of one net
pub growing_from_net : (d : Design) (start : Start) (sets : List (List PinRef)) (net : ℕ) (old new : Cone) → net < d.nets → start_nets d start ≡ net
    ∷ [] → IsEmptyCone d.nets old → IsRaised net (advanced sets 0 (Net net)) old new → IsGrowing d start sets new 0
growing_from_net d start sets net old new below nets empty raised =
    let has : Contains (start_nets d start) net = subst (λ (l : List ℕ). Contains l net) (sym nets) (0, omega arith, refl) in
    growing_first d start sets new (subst (λ (l : List ℕ). IsSeeded d start sets l new) (sym nets)
    (seeded_more d start sets [] net old new below has (seeded_first d start sets old empty) raised))

-- the gate of a pin that a net leads to
pub gate_of_pin : (d : Design) (net k i : ℕ) (pin : PinRef) → LeadsTo d (Net net) pin → pin ≡ GateIn k i → (g : Gate) × (slice_get d.gates k ≡ Some g)
    × (i < length g.ins) × (slice_index g.ins i ≡ net)
gate_of_pin d net k i pin leads is =
    elim (lead_of d (Net net) pin leads) [
      | Into_gate j g p at here from to ↦
          let same_gate : j ≡ k = grind arith in
          let same_place : p ≡ i = grind arith in
          let same_net : slice_index g.ins p ≡ net = grind arith in (
            g,
            subst (λ n. slice_get d.gates n ≡ Some g) same_gate at,
            subst (λ n. n < length g.ins) same_place here,
            subst (λ n. slice_index g.ins n ≡ net) same_place same_net,
          )
      | Out_of_gate j g p at here from to ↦ absurd (grind arith)
      | Into_reg r reg p at here from to ↦ absurd (grind arith)
      | Into_port o here from to ↦ absurd (grind arith)
    ]

pub gate_is_reached : (d : Design) (start : Start) (sets : List (List PinRef)) (net met k i : ℕ) (pin : PinRef) (g : Gate) → LeadsTo d (Net net) pin
    → pin ≡ GateIn k i → slice_get d.gates k ≡ Some g → Reaches d start sets (Net net) met
    → Reaches d start sets (Net g.out) (advanced sets (advanced sets met pin) (Net g.out))
gate_is_reached d start sets net met k i pin g leads is at reaches =
    let (h, at', low, from) = gate_of_pin d net k i pin leads is in
    let same : h ≡ g = some_is h g (sym at' ∙ at) in
    let within : i < length g.ins = subst (λ (q : Gate). i < length q.ins) same low in
    let into : Reaches d start sets pin (advanced sets met pin) = Goes_on (Net net) pin met reaches leads in
    Goes_on pin (Net g.out) (advanced sets met pin) into (subst (λ q. LeadsTo d q (Net g.out)) (sym is) (Through_gate k g i at within))

pub gate_is_passed : (d : Design) (sets : List (List PinRef)) (met k i : ℕ) (pin : PinRef) (g : Gate) (levels : List (Option ℕ)) → pin ≡ GateIn k i
    → slice_get d.gates k ≡ Some g
    → IsAtLeast (advanced sets (advanced sets met pin) (Net g.out)) (level_at levels g.out) → IsPassed d sets met pin levels
gate_is_passed d sets met k i pin g levels is at least =
    let here : IsAtLeast (met_through sets k g.out i met) (level_at levels g.out) =
    subst (λ q. IsAtLeast (advanced sets (advanced sets met q) (Net g.out)) (level_at levels g.out)) is least in
    subst (λ q. IsPassed d sets met q levels) (sym is) (λ h at'.
    let same : g ≡ h = some_is g h (sym at ∙ at') in
    subst (λ (q : Gate). IsAtLeast (met_through sets k q.out i met) (level_at levels q.out)) same here)
