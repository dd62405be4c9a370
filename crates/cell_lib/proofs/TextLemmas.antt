-- From the groups of a text to its library.
use Rattle.std.proofs.Common.{◌≡◌, ℕ, ◌+◌, ◌<◌, ◌≤◌, Bool, true, false, not, List, [], ◌∷◌, ◌++◌, length, map, take, drop, get_or, slice_get, Option}
use Rattle.std.proofs.Common.{Some, None, is_some, Ok, Err, inl, refl, sym, ap, ◌∙◌, subst}
use Rattle.std.specs.List.{IsDistinct, AllByRecursion}
use Rattle.std.specs.Str.{bytes_eq}
use Rattle.std.proofs.Math.ListN.{drop_of_length-le}
use Rattle.std.proofs.lemmas.Bool.{and_parts, or_parts, not-true}
use Rattle.texts.specs.Names.{is_among, are_distinct}
use Rattle.std.proofs.Math.Bool.{and-false}
use Rattle.std.proofs.lemmas.List.{map_more, take_more, take-map, take-append-drop}
use Rattle.std.proofs.lemmas.Option.{slice_get-map, slice_get-get_or, slice_get_within, get_or_from_slice_get}
use Rattle.texts.proofs.NameLemmas.{are_distinct-push, are_distinct_front}
use Rattle.texts.proofs.ReadLemmas.{split_at}
use Rattle.lib_words.specs.declared.groups.CellGroup.{CellGroup}
use Rattle.lib_words.specs.Groups as words
use Rattle.cell_types.specs.declared.libraries.Cell.{Cell}
use Rattle.cell_types.specs.Libraries.{IsLawful}
use Rattle.cell_lib.specs.Cells.{cell_of}
use Rattle.lib_words.specs.declared.faults.GroupFault.{GroupFault}
use Rattle.lib_words.specs.declared.faults.GroupFault.TheVariants as group_fault
use Rattle.lib_words.specs.Reads.{Fails}
use Rattle.cell_lib.specs.Told.{of_groups}
use Rattle.cell_lib.specs.Texts.{first_of, broken_in, deep_in, names, cells_made, library_of, StandsTwice, Refuses}
use Rattle.cell_lib.proofs.LawfulCells.{cells_lawful}

module _ {A B : Type 0} (f : A → Option B) (xs : List A) (i : ℕ) (x : A) (lt : i < length xs) (here : x ≡ get_or xs i x) where
  -- the item there gives something
  pub first_hit : (y : B) → f x ≡ Some y → first_of f (drop i xs) ≡ Some y
  unfolding first_of
  first_hit y e = rw (split_at xs i x lt here, e) refl

  -- it gives nothing
  pub first_miss : f x ≡ None → first_of f (drop i xs) ≡ first_of f (drop (i + 1) xs)
  unfolding first_of
  first_miss e = rw (split_at xs i x lt here, e) refl

-- the first item that gives something, and one that gives nothing, by a test
pub first_found : {A B : Type 0} (f : A → Option B) (xs : List A) (i : ℕ) (x : A) → i < length xs → x ≡ get_or xs i x → (o : Option B) → f x ≡ o
    → is_some o ≡ true → first_of f (drop i xs) ≡ o
first_found f xs i x lt here None e there = absurd cc
first_found f xs i x lt here (Some y) e there = first_hit f xs i x lt here y e

pub first_missed : {A B : Type 0} (f : A → Option B) (xs : List A) (i : ℕ) (x : A) → i < length xs → x ≡ get_or xs i x → (o : Option B) → f x ≡ o
    → is_some o ≡ false → first_of f (drop i xs) ≡ first_of f (drop (i + 1) xs)
first_missed f xs i x lt here None e absent = first_miss f xs i x lt here e
first_missed f xs i x lt here (Some y) e absent = absurd cc

-- nothing is left
pub first_end : {A B : Type 0} (f : A → Option B) (xs : List A) (i : ℕ) → length xs ≤ i → first_of f (drop i xs) ≡ None
unfolding first_of
first_end f xs i past = rw (drop_of_length-le xs past, first_of) refl

-- the text has groups
pub made_of : (text : List ℕ) (groups : List CellGroup) → words.cells_of text ≡ Ok groups → library_of text ≡ cells_made groups
unfolding library_of
made_of text groups e = rw (e, library_of) refl

-- it has none
pub made_of_none : (text : List ℕ) (fault : GroupFault) → words.cells_of text ≡ Err fault → library_of text ≡ None
unfolding library_of
made_of_none text fault e = rw (e, library_of) refl

-- nothing is there
pub none_left : {A : Type 0} (o : Option A) → ((x : A) → o ≡ Some x → ⊥) → o ≡ None
none_left None h = refl
none_left (Some x) h = absurd (h x refl)

-- a name that is not new was seen
pub seen : (b : Bool) → not b ≡ false → b ≡ true
seen true e = refl
seen false e = absurd cc

-- a function is broken
pub broken_makes_none : (groups : List CellGroup) (place : ℕ) → broken_in groups ≡ Some place → cells_made groups ≡ None
unfolding cells_made
broken_makes_none groups place e = rw e refl

-- a function is too deep
pub deep_makes_none : (groups : List CellGroup) (place : ℕ) → broken_in groups ≡ None → deep_in groups ≡ Some place → cells_made groups ≡ None
unfolding cells_made
deep_makes_none groups place whole deep = rw (whole, deep) refl

-- names that do not differ
pub twice_makes_none : (groups : List CellGroup) → broken_in groups ≡ None → deep_in groups ≡ None → are_distinct (names groups) ≡ false
    → cells_made groups ≡ None
unfolding cells_made
twice_makes_none groups whole low twice = rw (whole, low, twice) refl

pub made_all : (groups : List CellGroup) → broken_in groups ≡ None → deep_in groups ≡ None → are_distinct (names groups) ≡ true
    → cells_made groups ≡ Some (map cell_of groups)
unfolding cells_made
made_all groups whole low distinct = rw (whole, low, distinct) refl

all_differ : (x : List ℕ) (xs : List (List ℕ)) → is_among x xs ≡ false → AllByRecursion (λ y. bytes_eq x y ≡ false) xs
all_differ x [] e = tt
all_differ x (y ∷ ys) e = let (here, there) = or_parts (bytes_eq x y) (is_among x ys) e in (here, all_differ x ys there)

distinct_by_test : (xs : List (List ℕ)) → are_distinct xs ≡ true → IsDistinct bytes_eq xs
unfolding are_distinct IsDistinct
distinct_by_test [] e = tt
distinct_by_test (x ∷ xs) e =
    let (new, rest) = and_parts (not (is_among x xs)) (are_distinct xs) e in
    (all_differ x xs (not-true (is_among x xs) new), distinct_by_test xs rest)

-- the names of the groups up to one, and its own
pub names_more : (groups : List CellGroup) (i : ℕ) (g : CellGroup) → i < length groups → g ≡ get_or groups i g → names (take (i + 1) groups) ≡ names
    (take i groups) ++ g.name ∷ []
names_more groups i g lt here = map_more (λ (g : CellGroup). g.name) groups i g lt ∙ ap (λ (h : CellGroup). names (take i groups) ++ h.name ∷ []) (sym here)

name_at : (groups : List CellGroup) (i : ℕ) (g : CellGroup) → i < length groups → g ≡ get_or groups i g → slice_get (names groups) i ≡ Some g.name
name_at groups i g lt here = slice_get-map (λ (g : CellGroup). g.name) groups i ∙ rw (slice_get-get_or groups i g lt)
    (ap (λ (h : CellGroup). Some h.name) (sym here))

-- a name that is among those before it stands twice
pub twice_at : (groups : List CellGroup) (i : ℕ) (g : CellGroup) → i < length groups → g ≡ get_or groups i g
    → is_among g.name (names (take i groups)) ≡ true → StandsTwice g.name (names groups)
twice_at groups i g lt here among = (i, name_at groups i g lt here, rw (take-map (λ (g : CellGroup). g.name) i groups) among)

-- names that differ, with a new one
pub still_distinct : (found : List (List ℕ)) (n : List ℕ) → are_distinct found ≡ true → is_among n found ≡ false → are_distinct (found ++ n ∷ []) ≡ true
still_distinct found n distinct absent = are_distinct-push found n ∙ rw (distinct, absent) refl

distinct_cases : (xs ys : List (List ℕ)) → are_distinct xs ≡ false → (b : Bool) → are_distinct (xs ++ ys) ≡ b → are_distinct (xs ++ ys) ≡ false
distinct_cases xs ys e true both = let front = are_distinct_front xs ys both in absurd cc
distinct_cases xs ys e false both = both

-- names do not differ where those of a front do not
not_distinct : (xs ys : List (List ℕ)) → are_distinct xs ≡ false → are_distinct (xs ++ ys) ≡ false
not_distinct xs ys e = distinct_cases xs ys e (are_distinct (xs ++ ys)) refl

-- where a name stands twice, names do not differ
pub twice_differ : (n : List ℕ) (xs : List (List ℕ)) → StandsTwice n xs → are_distinct xs ≡ false
twice_differ n xs (k, there, among) =
    let lt : k < length xs = slice_get_within xs k n there in
    let here : get_or xs k n ≡ n = get_or_from_slice_get xs k n n there in
    let up_to : take (k + 1) xs ≡ take k xs ++ n ∷ [] = take_more xs k n lt ∙ ap (λ (x : List ℕ). take k xs ++ x ∷ []) here in
    let twice : are_distinct (take (k + 1) xs) ≡ false = rw up_to (are_distinct-push (take k xs) n ∙ rw among (and-false (are_distinct (take k xs)))) in
    subst (λ (ys : List (List ℕ)). are_distinct ys ≡ false) (take-append-drop (k + 1) xs) (not_distinct (take (k + 1) xs) (drop (k + 1) xs) twice)

-- what the group tree refuses
pub groups_refused : (text : List ℕ) (e : GroupFault) → Fails (length text) e (words.cells_of text) → Refuses text (of_groups e)
groups_refused text (group_fault.Syntax place) h = (made_of_none text (group_fault.Syntax place) h.0, h.0, h.1)
groups_refused text (group_fault.Deep place) h = (made_of_none text (group_fault.Deep place) h.0, inl h)
groups_refused text group_fault.Memory h = tt

-- cells have the names of their groups
names_kept : (groups : List CellGroup) → map (λ (cell : Cell). cell.name) (map cell_of groups) ≡ names groups
unfolding cell_of
names_kept [] = refl
names_kept (g ∷ groups) = ap (λ (rest : List (List ℕ)). g.name ∷ rest) (names_kept groups)

-- groups with names that differ make a lawful library
pub made_lawful : (groups : List CellGroup) → are_distinct (names groups) ≡ true → IsLawful (map cell_of groups)
made_lawful groups distinct = record {
  names_differ = subst (IsDistinct bytes_eq) (sym (names_kept groups)) (distinct_by_test (names groups) distinct);
  functions = cells_lawful groups;
}
