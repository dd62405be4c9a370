-- Names that are added one by one.
use Rattle.std.proofs.Common.{◌≡◌, ℕ, zero, suc, ◌+◌, ◌<◌, ◌≤◌, Bool, true, false, not, List, [], ◌∷◌, ◌++◌, length, map, Some, refl, ap, subst, sym, ◌∙◌, arith}
use Rattle.std.proofs.Common.{append_assoc, take}
use Rattle.std.specs.Prelude.{slice_get}
use Rattle.std.proofs.lemmas.Bool.{and_parts}
use Rattle.std.proofs.lemmas.List.{take_all}
use Rattle.std.proofs.lemmas.Option.{slice_get_within}
use Rattle.texts.specs.Names.{is_among, are_distinct}
use Rattle.texts.proofs.NameLemmas.{are_distinct-push}
use Rattle.linked_types.specs.declared.faults.LinkFault.{LinkFault}
use Rattle.linked_types.specs.declared.faults.LinkFault.TheVariants as fault
use Rattle.link_defs.specs.CellNames.{Leaf}
use Rattle.link_defs.specs.Faults.{StandsTwice}
use Rattle.link_defs.specs.declared.circuits.Part.{Part}
use Rattle.cell_types.specs.declared.libraries.Library.{Library}
use Rattle.link_items.specs.declared.made.LeafPlace.{LeafPlace}
use Rattle.link_items.specs.Items.{AreLeavesAt}
use Rattle.link_items.proofs.Listing.{kept_at, last_at, contains_at, map_next}
use Rattle.link_items.proofs.Searching.{among_in, in_among, place_of_item, not_both, not_true, not_false}
use Rattle.link_tops.specs.Clashes.{IsClash, IsApart, leaf_names}

-- a name that stands twice does so with more behind it
twice_more : (xs ys : List (List ℕ)) (name : List ℕ) → StandsTwice xs name → StandsTwice (xs ++ ys) name
twice_more xs ys name twice =
    let (i, j, lt, first, second) = twice in (i, j, lt, kept_at xs ys i name first, kept_at xs ys j name second)

-- a clash is one with more names behind it
pub clash_more : (xs ys : List (List ℕ)) (e : LinkFault) → IsClash xs e → IsClash (xs ++ ys) e
clash_more xs ys (fault.UnknownCell n) clash = clash
clash_more xs ys (fault.UnsupportedCell n) clash = clash
clash_more xs ys (fault.UnknownPin n) clash = clash
clash_more xs ys (fault.OpenInput n) clash = clash
clash_more xs ys (fault.Undriven n) clash = clash
clash_more xs ys (fault.ManyDrivers n) clash = clash
clash_more xs ys (fault.Loop n) clash = clash
clash_more xs ys (fault.NotTheClock n) clash = clash
clash_more xs ys (fault.ClockAsData n) clash = clash
clash_more xs ys (fault.Recursive n) clash = clash
clash_more xs ys (fault.NameClash n) clash = twice_more xs ys n clash
clash_more xs ys (fault.NoTop n) clash = clash
clash_more xs ys (fault.Limit kind n) clash = clash
clash_more xs ys (fault.BadSetting n) clash = clash
clash_more xs ys fault.Memory clash = clash

-- a clash of names that were added to none
pub clash_of_added : (none xs : List (List ℕ)) (e : LinkFault) → none ≡ [] → IsClash (none ++ xs) e → IsClash xs e
clash_of_added none xs e empty clash = subst (λ (ns : List (List ℕ)). IsClash (ns ++ xs) e) empty clash

-- a name that is there and is added stands twice
pub added_twice : (names : List (List ℕ)) (name : List ℕ) → is_among name names ≡ true → StandsTwice (names ++ name ∷ []) name
added_twice names name there =
    let (i, at) = place_of_item names name (among_in name names there) in
    (i, length names, slice_get_within names i name at, kept_at names (name ∷ []) i name at, last_at names name)

-- a name that is not new is there
pub there_again : (names : List (List ℕ)) (name : List ℕ) (fresh : Bool) → fresh ≡ not (is_among name names) → fresh ≡ false → is_among name names ≡ true
there_again names name fresh is miss = not_false (is_among name names) (sym is ∙ miss)

-- names of which each next one is new differ
pub distinct_more : (names : List (List ℕ)) (name : List ℕ) → is_among name names ≡ false → are_distinct names ≡ true
    → are_distinct (names ++ name ∷ []) ≡ true
distinct_more names name fresh differ = are_distinct-push names name ∙ rw (differ, fresh) refl

-- one name more
pub names_next : {X : Type 0} (f : X → List ℕ) (old now new : List (List ℕ)) (xs : List X) (k : ℕ) (x : X) → slice_get xs k ≡ Some x
    → now ≡ old ++ map f (take k xs) → new ≡ now ++ f x ∷ [] → new ≡ old ++ map f (take (k + 1) xs)
names_next f old now new xs k x at so_far made =
    made ∙ ap (λ (ns : List (List ℕ)). ns ++ f x ∷ []) so_far ∙ append_assoc old (map f (take k xs)) (f x ∷ [])
    ∙ ap (λ (ns : List (List ℕ)). old ++ ns) (sym (map_next f xs k x at))

map_split : {X : Type 0} (f : X → List ℕ) (xs : List X) (k : ℕ) → (rest : List (List ℕ)) × (map f xs ≡ map f (take k xs) ++ rest)
map_split f [] zero = ([], refl)
map_split f [] (suc k) = ([], refl)
map_split f (x ∷ xs) zero = (map f (x ∷ xs), refl)
map_split f (x ∷ xs) (suc k) = let (rest, is) = map_split f xs k in (rest, ap (λ (ns : List (List ℕ)). f x ∷ ns) is)

-- the names up to one of them are the front of all
pub names_split : {X : Type 0} (f : X → List ℕ) (old now : List (List ℕ)) (xs : List X) (k : ℕ) (x : X) → slice_get xs k ≡ Some x
    → now ≡ old ++ map f (take k xs) → (rest : List (List ℕ)) × ((now ++ f x ∷ []) ++ rest ≡ old ++ map f xs)
names_split f old now xs k x at so_far =
    let (rest, is) = map_split f xs (k + 1) in
    let here : now ++ f x ∷ [] ≡ old ++ map f (take (k + 1) xs) = names_next f old now (now ++ f x ∷ []) xs k x at so_far refl in (
      rest,
      ap (λ (ns : List (List ℕ)). ns ++ rest) here ∙ append_assoc old (map f (take (k + 1) xs)) rest ∙ ap (λ (ns : List (List ℕ)). old ++ ns) (sym is),
    )

-- a clash of them is one of all
pub clash_of_all : {X : Type 0} (f : X → List ℕ) (old now : List (List ℕ)) (xs : List X) (k : ℕ) (x : X) (e : LinkFault) → slice_get xs k ≡ Some x
    → now ≡ old ++ map f (take k xs) → IsClash (now ++ f x ∷ []) e → IsClash (old ++ map f xs) e
clash_of_all f old now xs k x e at so_far clash =
    let (rest, whole) = names_split f old now xs k x at so_far in
    subst (λ (ns : List (List ℕ)). IsClash ns e) whole (clash_more (now ++ f x ∷ []) rest e clash)

-- all names are there
pub names_all : {X : Type 0} (f : X → List ℕ) (old now : List (List ℕ)) (xs : List X) (k : ℕ) → length xs ≤ k → now ≡ old ++ map f (take k xs)
    → now ≡ old ++ map f xs
names_all {X} f old now xs k past so_far = so_far ∙ ap (λ (ys : List X). old ++ map f ys) (take_all k xs past)

twice_of : (x : List ℕ) (xs : List (List ℕ)) (name : List ℕ) (i j : ℕ) → not (is_among x xs) ≡ true → IsApart xs → i < j
    → slice_get (x ∷ xs) i ≡ Some name → slice_get (x ∷ xs) j ≡ Some name → ⊥
twice_of x xs name i zero new none lt first second = absurd (omega arith)
twice_of x xs name zero (suc j) new none lt first second =
    let same : x ≡ name = cc in
    let there = in_among x xs (contains_at xs j x (second ∙ ap (λ (n : List ℕ). Some n) (sym same))) in
    not_both (is_among x xs) there (not_true (is_among x xs) new)
twice_of x xs name (suc i) (suc j) new none lt first second = none name (i, j, omega arith, first, second)

-- of names that differ none stands twice
pub apart : (names : List (List ℕ)) → are_distinct names ≡ true → IsApart names
unfolding are_distinct
apart [] differ = λ name twice. let (i, j, lt, first, second) = twice in absurd cc
apart (x ∷ xs) differ = λ name twice.
    let (new, rest) = and_parts (not (is_among x xs)) (are_distinct xs) differ in
    let (i, j, lt, first, second) = twice in twice_of x xs name i j new (apart xs rest) lt first second

-- names that were added to none differ
pub all_distinct : (none names xs : List (List ℕ)) → none ≡ [] → names ≡ none ++ xs → (are_distinct none ≡ true → are_distinct names ≡ true)
    → are_distinct xs ≡ true
unfolding are_distinct
all_distinct none names xs empty made kept =
    let whole : names ≡ xs = made ∙ ap (λ (ns : List (List ℕ)). ns ++ xs) empty in
    subst (λ (ns : List (List ℕ)). are_distinct ns ≡ true) whole (kept (ap are_distinct empty))

-- names that were added to none, and further names
pub joined_all : (none names all xs ys : List (List ℕ)) → none ≡ [] → names ≡ none ++ xs → (are_distinct none ≡ true → are_distinct names ≡ true)
    → all ≡ names ++ ys → (are_distinct names ≡ true → are_distinct all ≡ true) → are_distinct (xs ++ ys) ≡ true
unfolding are_distinct
joined_all none names all xs ys empty made kept more further =
    let whole : names ≡ xs = made ∙ ap (λ (ns : List (List ℕ)). ns ++ xs) empty in
    subst (λ (ns : List (List ℕ)). are_distinct ns ≡ true) (more ∙ ap (λ (ns : List (List ℕ)). ns ++ ys) whole)
    (further (kept (ap are_distinct empty)))

-- the leaves of a flat netlist have the names of their places
pub leaf_names_are : (lib : Library) (parts : List Part) (places : List LeafPlace) (found : List Leaf) → AreLeavesAt lib parts places found
    → leaf_names places ≡ map (λ (l : Leaf). l.name) found
leaf_names_are lib parts [] [] at = refl
leaf_names_are lib parts [] (l ∷ ls) at = absurd at
leaf_names_are lib parts (x ∷ xs) [] at = absurd at
leaf_names_are lib parts (x ∷ xs) (l ∷ ls) at =
    ap (λ (n : List ℕ). n ∷ leaf_names xs) at.0.name ∙ ap (λ (ns : List (List ℕ)). l.name ∷ ns) (leaf_names_are lib parts xs ls at.1)
