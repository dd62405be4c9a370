-- Those of a list, and of lists that are made of it.
use Rattle.std.proofs.Common.{◌≡◌, List, [], ◌∷◌, ◌++◌, map, flat_map, refl, ap, subst, inl, inr}
use Rattle.net_model.proofs.Members.{In}
use Rattle.net_paths.specs.Those.{AreThose, All_seen, Taken, Left_out}
use Rattle.net_paths.proofs.Sifting.{those_append, those_map}

-- they stand in the list
pub those_in : {A : Type 0} (P : A → Type 0) (xs ys : List A) (y : A) → AreThose P xs ys → In y ys → In y xs
those_in P _ _ y All_seen has = absurd has
those_in P _ _ y (Taken x xs ys holds rest) (inl here) = inl here
those_in P _ _ y (Taken x xs ys holds rest) (inr later) = inr (those_in P xs ys y rest later)
those_in P _ _ y (Left_out x xs ys not rest) has = inr (those_in P xs ys y rest has)

-- it holds of nothing that is made of a list
pub those_none_made : {A B : Type 0} (f : A → B) (P : B → Type 0) (xs : List A) → ((x : A) → ¬ P (f x)) → AreThose P (map f xs) []
those_none_made f P [] never = All_seen
those_none_made f P (x ∷ xs) never = Left_out (f x) (map f xs) [] (never x) (those_none_made f P xs never)

-- the pairs of those of two lists
pub those_pairs : {A B C : Type 0} (pair : A → B → C) (P : A → Type 0) (Q : B → Type 0) (R : C → Type 0) (all some : List A) (bs found : List B)
    → ((a : A) (b : B) → P a → Q b → R (pair a b)) → ((a : A) (b : B) → R (pair a b) → P a) → ((a : A) (b : B) → R (pair a b) → Q b)
    → AreThose P all some → AreThose Q bs found
    → AreThose R (flat_map (λ a. map (pair a) bs) all) (flat_map (λ a. map (pair a) found) some)
those_pairs pair P Q R _ _ bs found there first second All_seen those = All_seen
those_pairs {A} {B} {C} pair P Q R _ _ bs found there first second (Taken x xs ys holds rest) those =
    those_append R (map (pair x) bs) (map (pair x) found) (flat_map (λ a. map (pair a) bs) xs) (flat_map (λ a. map (pair a) found) ys)
    (those_map (pair x) Q R bs found (λ b q. there x b holds q) (λ b r. second x b r) those)
    (those_pairs pair P Q R xs ys bs found there first second rest those)
those_pairs {A} {B} {C} pair P Q R _ _ bs found there first second (Left_out x xs ys not rest) those =
    those_append R (map (pair x) bs) [] (flat_map (λ a. map (pair a) bs) xs) (flat_map (λ a. map (pair a) found) ys)
    (those_none_made (pair x) R bs (λ b r. not (first x b r)))
    (those_pairs pair P Q R xs ys bs found there first second rest those)

-- a list whose first items are of those
pub record First {A : Type 0} (P : A → Type 0) (xs ys : List A) : Type 0 where
  pub first : List A
  pub rest : List A
  pub whole : xs ≡ first ++ rest
  pub those : AreThose P first ys

-- the first ones of those are those of the first items
pub those_first : {A : Type 0} (P : A → Type 0) (xs ys zs all : List A) → all ≡ ys ++ zs → AreThose P xs all → First P xs ys
those_first P _ [] zs _ is All_seen = record { first = []; rest = []; whole = refl; those = All_seen }
those_first P _ (y ∷ ys) zs _ is All_seen = absurd cc
those_first P _ [] zs _ is (Taken x xs all holds rest) = record { first = []; rest = x ∷ xs; whole = refl; those = All_seen }
those_first {A} P _ (y ∷ ys) zs _ is (Taken x xs all holds rest) =
    let same : x ≡ y = cc in
    let left : all ≡ ys ++ zs = cc in
    let more : First P xs ys = those_first P xs ys zs all left rest in
    record {
      first = x ∷ more.first;
      rest = more.rest;
      whole = ap (λ l. x ∷ l) more.whole;
      those = subst (λ (z : A). AreThose P (x ∷ more.first) (z ∷ ys)) same (Taken x more.first ys holds more.those);
    }
those_first {A} P _ ys zs _ is (Left_out x xs all not rest) =
    let more : First P xs ys = those_first P xs ys zs all is rest in
    record { first = x ∷ more.first; rest = more.rest; whole = ap (λ l. x ∷ l) more.whole; those = Left_out x more.first ys not more.those }

-- all of them, where it holds of all
pub those_everything : {A : Type 0} (P : A → Type 0) (xs : List A) → ((x : A) → P x) → AreThose P xs xs
those_everything P [] all = All_seen
those_everything P (x ∷ xs) all = Taken x xs xs (all x) (those_everything P xs all)
