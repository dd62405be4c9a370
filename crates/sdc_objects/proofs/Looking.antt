-- What one look into a table of names tells of a list.
use Rattle.std.proofs.Common.{arith, ◌≡◌, ◌≢◌, ◌∙◌, inl, inr, ℕ, Bool, true, List, [], ◌∷◌, ◌++◌, length, map, refl}
use Rattle.std.proofs.Common.{sym, ap, subst, length-append}
use Rattle.std.specs.Prelude.{Some, slice_get}
use Rattle.std.specs.Option.{option_map}
use Rattle.std.proofs.lemmas.Bool.{cases_Bool}
use Rattle.std.proofs.lemmas.List.{length-map}
use Rattle.std.proofs.lemmas.Option.{slice_get-map, slice_get_within}
use Rattle.std.proofs.Math.Seq.{get_or-append_seam, take-append_seam}
use Rattle.glob.specs.Match.{matches}
use Rattle.glob.specs.declared.indexes.Look.TheVariants.{Nowhere, At}
use Rattle.glob.specs.declared.owners.Owner.TheVariants.{Nobody, One}
use Rattle.glob.specs.Indexes.{IsLook, IsExact}
use Rattle.glob.specs.Owners.{IsOwner, IsOwnerAt}
use Rattle.sdcv_base.specs.Seqs.{each_at, where_true}
use Rattle.list_laws.proofs.Joining.{nothing_made, one_made, item_at}

-- the name of an item at a place
pub name_at : {A : Type 0} (name : A → List ℕ) (xs : List A) (k : ℕ) (x : A) → slice_get xs k ≡ Some x → slice_get (map name xs) k ≡ Some (name x)
name_at name xs k x here = slice_get-map name xs k ∙ ap (option_map name) here

-- what is made of the items of whose names the pattern matches one
abbrev pub matched : {A B : Type 0} → List ℕ → Bool → (A → List ℕ) → (ℕ → A → B) → ℕ → A → List B
matched pattern hier name made k x = where_true (matches pattern (name x) hier) (made k x)

pub nothing_matched : {A B : Type 0} (pattern : List ℕ) (hier : Bool) (name : A → List ℕ) (made : ℕ → A → B) (xs : List A)
    → IsLook (map name xs) pattern hier Nowhere → each_at (matched pattern hier name made) 0 xs ≡ []
nothing_matched pattern hier name made xs look =
    nothing_made (matched pattern hier name made) xs (λ k x here. rw (look k (name x) (name_at name xs k x here)) refl)

pub one_matched : {A B : Type 0} (pattern : List ℕ) (hier : Bool) (name : A → List ℕ) (made : ℕ → A → B) (xs : List A) (place : ℕ) (x : A)
    → slice_get xs place ≡ Some x → IsLook (map name xs) pattern hier (At place) → each_at (matched pattern hier name made) 0 xs ≡ made place x ∷ []
one_matched {A} {B} pattern hier name made xs place x here ((found, at, is), only) =
    let same : found ≡ name x = let e = sym at ∙ name_at name xs place x here in grind arith in
    let hit : matches pattern (name x) hier ≡ true = subst (λ (n : List ℕ). matches pattern n hier ≡ true) same is in
    let others : (j : ℕ) (y : A) → slice_get xs j ≡ Some y → j ≢ place → matched pattern hier name made j y ≡ [] =
    λ j y there other. elim (cases_Bool (matches pattern (name y) hier)) [
      | inl match ↦ absurd (other (only j (name y) (name_at name xs j y there) match))
      | inr miss ↦ rw miss refl
    ] in
    one_made (matched pattern hier name made) xs place x here others ∙ rw hit refl

-- a pattern that is a cell's name, `/` and a pin's name
pub owner_here : (names : List (List ℕ)) (pattern cell pin : List ℕ) (k : ℕ) → cell ++ 47 ∷ pin ≡ pattern → slice_get names k ≡ Some cell
    → IsOwnerAt names pattern (length cell) k
owner_here names pattern cell pin k is here = subst (λ (p : List ℕ). IsOwnerAt names p (length cell) k) is (record {
  within = omega (arith, length-append cell (47 ∷ pin));
  here = get_or-append_seam cell 47 pin 0;
  name = here ∙ ap (λ (n : List ℕ). Some n) (sym (take-append_seam cell (47 ∷ pin)));
})

-- what is made of the pins of a cell whose full names the pattern matches
abbrev pub pins_matched : {C P B : Type 0} → List ℕ → Bool → (C → List ℕ) → (C → List P) → (P → List ℕ) → (ℕ → ℕ → B) → ℕ → C → List B
pins_matched pattern hier cell pins pin made k c = each_at (λ place p. where_true (matches pattern (cell c ++ 47 ∷ pin p) hier) (made k place)) 0 (pins c)

-- none where the cell's name does not stand before a `/`
pub no_pins : {C P B : Type 0} (pattern : List ℕ) (hier : Bool) (cell : C → List ℕ) (pins : C → List P) (pin : P → List ℕ)
    (made : ℕ → ℕ → B) (cells : List C) (k : ℕ) (c : C)
    → IsExact pattern hier → slice_get cells k ≡ Some c → ((slash : ℕ) → ¬ IsOwnerAt (map cell cells) pattern slash k)
    → pins_matched pattern hier cell pins pin made k c ≡ []
no_pins pattern hier cell pins pin made cells k c exact here never =
    nothing_made (λ place p. where_true (matches pattern (cell c ++ 47 ∷ pin p) hier) (made k place)) (pins c) (λ place p there.
    elim (cases_Bool (matches pattern (cell c ++ 47 ∷ pin p) hier)) [
      | inl match ↦ absurd (never (length (cell c)) (owner_here (map cell cells) pattern (cell c) (pin p) k ((exact (cell c ++ 47 ∷ pin p)).0 match)
          (name_at cell cells k c here)))
      | inr miss ↦ rw miss refl
    ])

pub owned_by_nobody : {C P B : Type 0} (pattern : List ℕ) (hier : Bool) (cell : C → List ℕ) (pins : C → List P) (pin : P → List ℕ)
    (made : ℕ → ℕ → B) (cells : List C)
    → IsOwner (map cell cells) pattern hier Nobody → each_at (pins_matched pattern hier cell pins pin made) 0 cells ≡ []
owned_by_nobody pattern hier cell pins pin made cells (never, exact) =
    nothing_made (pins_matched pattern hier cell pins pin made) cells (λ k c here. no_pins pattern hier cell pins pin made cells k c exact here
    (λ slash at. never slash k at.within at))

pub owned_by_one : {C P B : Type 0} (pattern : List ℕ) (hier : Bool) (cell : C → List ℕ) (pins : C → List P) (pin : P → List ℕ)
    (made : ℕ → ℕ → B) (cells : List C) (k : ℕ) (c : C)
    → slice_get cells k ≡ Some c → IsOwner (map cell cells) pattern hier (One k)
    → each_at (pins_matched pattern hier cell pins pin made) 0 cells ≡ pins_matched pattern hier cell pins pin made k c
owned_by_one pattern hier cell pins pin made cells k c here ((within, stands, only), exact) =
    one_made (pins_matched pattern hier cell pins pin made) cells k c here (λ j y there other.
    no_pins pattern hier cell pins pin made cells j y exact there (λ slash at. other (only slash j at.within at)))

-- an item at the place that a look finds
pub look_item : {A : Type 0} (name : A → List ℕ) (xs : List A) (pattern : List ℕ) (hier : Bool) (place : ℕ) → IsLook (map name xs) pattern hier (At place)
    → (x : A) × (slice_get xs place ≡ Some x)
look_item name xs pattern hier place ((found, at, is), only) =
    item_at xs place (omega (arith, slice_get_within (map name xs) place found at, length-map xs name))
