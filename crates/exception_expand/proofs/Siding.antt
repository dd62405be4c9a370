-- The sides of those of some pairs.
use Rattle.std.proofs.Common.{arith, ◌≡◌, ◌∙◌, ℕ, ◌+◌, ◌<◌, ◌≤◌, true, false, List, [], ◌∷◌, length, flat_map, refl, ap, subst, inl, inr}
use Rattle.std.specs.Prelude.{All}
use Rattle.std.proofs.lemmas.Grind.{flat_map-append}
use Rattle.std.proofs.lemmas.List.Elements.{All-contains}
use Rattle.net_model.specs.declared.netlist.Design.{Design}
use Rattle.linked_types.specs.declared.names.Linked.{Linked}
use Rattle.net_model.proofs.Members.{In, from_flat, Contains-from_In}
use Rattle.net_paths.specs.Those.{AreThose, All_seen, Taken, Left_out}
use Rattle.net_paths.proofs.Sifting.{those_append}
use Rattle.exception_expand.specs.declared.pairs.Pair.{Pair}
use Rattle.exception_expand.specs.declared.sides.Side.{Side}
use Rattle.exception_expand.specs.declared.sides.Sides.{Sides}
use Rattle.exception_expand.specs.declared.sides.Sides.TheVariants.{Late, Early, Both}
use Rattle.exception_expand.specs.Sides.{side, sides_by, HasSide, most_pairs}
use Rattle.exception_expand.specs.Pairs.{IsPairIn}
use Rattle.exception_expand.specs.Selections.{all_pairs, all_sides}
use Rattle.exception_expand.specs.Causes.{HasMore}
use Rattle.exception_expand.proofs.Ranging.{pair_in, all_from_in}

-- the side is one of these, and it holds of the pair
abbrev pub OfSides : Sides → (Pair → Type 0) → Side → Type 0
OfSides S P s = HasSide S s.early × P s.pair

-- these sides of a pair of which it holds
of_taken : (S : Sides) (P : Pair → Type 0) (p : Pair) → P p → AreThose (OfSides S P) (sides_by Both p) (sides_by S p)
of_taken Late P p holds =
    Taken (side false p) (side true p ∷ []) [] (refl, holds) (Left_out (side true p) [] [] (λ r. let is : true ≡ false = r.0 in cc) All_seen)
of_taken Early P p holds =
    Left_out (side false p) (side true p ∷ []) (side true p ∷ []) (λ r. let is : false ≡ true = r.0 in cc)
    (Taken (side true p) [] [] (refl, holds) All_seen)
of_taken Both P p holds = Taken (side false p) (side true p ∷ []) (side true p ∷ []) (tt, holds) (Taken (side true p) [] [] (tt, holds) All_seen)

-- none of a pair of which it does not
of_left : (S : Sides) (P : Pair → Type 0) (p : Pair) → ¬ P p → AreThose (OfSides S P) (sides_by Both p) []
of_left S P p not = Left_out (side false p) (side true p ∷ []) [] (λ r. not r.1) (Left_out (side true p) [] [] (λ r. not r.1) All_seen)

-- these sides of those pairs
pub those_sides : (S : Sides) (P : Pair → Type 0) (all some : List Pair) → AreThose P all some
    → AreThose (OfSides S P) (flat_map (sides_by Both) all) (flat_map (sides_by S) some)
those_sides S P _ _ All_seen = All_seen
those_sides S P _ _ (Taken p ps qs holds rest) =
    those_append (OfSides S P) (sides_by Both p) (sides_by S p) (flat_map (sides_by Both) ps) (flat_map (sides_by S) qs) (of_taken S P p holds)
    (those_sides S P ps qs rest)
those_sides S P _ _ (Left_out p ps qs not rest) =
    those_append (OfSides S P) (sides_by Both p) [] (flat_map (sides_by Both) ps) (flat_map (sides_by S) qs) (of_left S P p not)
    (those_sides S P ps qs rest)

-- how many they are
late_length : (ps : List Pair) → length (flat_map (sides_by Late) ps) ≡ length ps
late_length [] = refl
late_length (p ∷ ps) = omega (arith, late_length ps)

early_length : (ps : List Pair) → length (flat_map (sides_by Early) ps) ≡ length ps
early_length [] = refl
early_length (p ∷ ps) = omega (arith, early_length ps)

both_length : (ps : List Pair) → length (flat_map (sides_by Both) ps) ≡ length ps + length ps
both_length [] = refl
both_length (p ∷ ps) = omega (arith, both_length ps)

-- as many sides as there is room for, where the pairs are few enough
pub few_sides : (S : Sides) (ps : List Pair) (room : ℕ) → length ps ≤ most_pairs S room → length (flat_map (sides_by S) ps) ≤ room
few_sides Late ps room few = omega (arith, late_length ps)
few_sides Early ps room few = omega (arith, early_length ps)
few_sides Both ps room few = omega (arith, both_length ps)

-- and else more
pub many_sides : (S : Sides) (ps : List Pair) (room : ℕ) → most_pairs S room < length ps → room < length (flat_map (sides_by S) ps)
many_sides Late ps room many = omega (arith, late_length ps)
many_sides Early ps room many = omega (arith, early_length ps)
many_sides Both ps room many = omega (arith, both_length ps)

pub more_sides : (S : Sides) (P : Pair → Type 0) (all : List Pair) (room : ℕ) → HasMore P all (most_pairs S room)
    → HasMore (OfSides S P) (flat_map (sides_by Both) all) room
more_sides S P all room has = record {
  first = flat_map (sides_by Both) has.first;
  rest = flat_map (sides_by Both) has.rest;
  whole = ap (flat_map (sides_by Both)) has.whole ∙ flat_map-append (sides_by Both) has.first has.rest;
  found = flat_map (sides_by S) has.found;
  those = those_sides S P has.first has.found has.those;
  more = many_sides S has.found room has.more;
}

-- a side of a pair is a side of it
side_pair : (S : Sides) (p : Pair) (s : Side) → In s (sides_by S p) → p ≡ s.pair
side_pair Late p s (inl here) = ap (λ (x : Side). x.pair) here
side_pair Late p s (inr none) = absurd none
side_pair Early p s (inl here) = ap (λ (x : Side). x.pair) here
side_pair Early p s (inr none) = absurd none
side_pair Both p s (inl here) = ap (λ (x : Side). x.pair) here
side_pair Both p s (inr (inl here)) = ap (λ (x : Side). x.pair) here
side_pair Both p s (inr (inr none)) = absurd none

pub from_sides : (S : Sides) (ps : List Pair) (s : Side) → In s (flat_map (sides_by S) ps) → In s.pair ps
from_sides S ps s has =
    let by = from_flat (sides_by S) s ps has in
    subst (λ (p : Pair). In p ps) (side_pair S by.0 s by.2) by.1

-- the sides of pairs of the design are of pairs of the design
pub sides_in : (d : Design) (S : Sides) (ps : List Pair) → All (IsPairIn d) ps → All (λ (s : Side). IsPairIn d s.pair) (flat_map (sides_by S) ps)
sides_in d S ps are =
    all_from_in (λ (s : Side). IsPairIn d s.pair) (flat_map (sides_by S) ps)
    (λ s has. All-contains (IsPairIn d) ps s.pair are (Contains-from_In ps s.pair (from_sides S ps s has)))

pub side_in : (l : Linked) (s : Side) → In s (all_sides l) → IsPairIn l.design s.pair
side_in l s has = pair_in l s.pair (from_sides Both (all_pairs l) s has)
