-- Cut instances by module: with one instance more, and what stands in a group.
use Rattle.std.proofs.Common.{◌≡◌, ℕ, suc, ◌+◌, ◌<◌, ◌≤◌, Bool, true, false, cond, eqb, List, [], ◌∷◌, ◌++◌, length, take, map}
use Rattle.std.proofs.Common.{refl, ap, sym, ◌∙◌, subst, arith, inl, inr, get_or, replicate, append-nil, append_assoc, All, Some, ◌⊎◌}
use Rattle.std.specs.Prelude.{slice_get, slice_set, Contains, filter}
use Rattle.std.specs.List.{IsDistinct}
use Rattle.std.specs.Str.{bytes_eq}
use Rattle.std.proofs.lemmas.Bool.{cases_eq, cases_Bool, eq-eqb, ne_eqb, cond-true, cond-false}
use Rattle.std.proofs.lemmas.List.{get_or-map, get_or-set_same, get_or-set_other, get_or-replicate, get_or_at, map_push}
use Rattle.std.proofs.lemmas.List.{length-map, length-set, length-replicate, length-take-le, length_push}
use Rattle.std.proofs.lemmas.List.Elements.{All-cons, All-nil, Contains-get_or}
use Rattle.std.proofs.lemmas.List.Sums.{position_or_len_is, passes_at_first}
use Rattle.std.proofs.lemmas.Map.Keys.{apart_from_distinct}
use Rattle.std.proofs.lemmas.Option.{slice_get_within, get_or_from_slice_get}
use Rattle.std.proofs.lemmas.Slice.Eq.{bytes_eq-Decides}
use Rattle.texts.specs.Names.{place_of}
use Rattle.netlist_types.specs.declared.sources.Source.{Source}
use Rattle.netlist_types.specs.declared.sources.Module.{Module}
use Rattle.link_defs.specs.declared.cuts.CutCell.{CutCell}
use Rattle.link_defs.specs.declared.cuts.CutItem.{CutItem}
use Rattle.link_defs.specs.declared.cuts.CutPin.{CutPin}
use Rattle.link_defs.specs.Cuts.{cells_in, IsFitItem}
use Rattle.link_items.specs.declared.made.Instance.{Instance}
use Rattle.link_items.specs.Items.{module_at, scope_of}
use Rattle.link_items.specs.Tables.{module_names}
use Rattle.link_items.proofs.Listing.{map_next, take_next}
use Rattle.link_items.proofs.Searching.{eq_flips}
use Rattle.link_cuts.specs.Groups.{IsPlaced, AreGroups, IsFitIn, item_at, group_from, group_of, with_place, cell_on}

-- of names that differ the one at a place is a name where that is the name's place
pub own_place : (names : List (List ℕ)) (n : List ℕ) (k : ℕ) → IsDistinct bytes_eq names → k < length names
    → bytes_eq n (get_or names k []) ≡ eqb (place_of n names) k
own_place names n k apart within = elim (cases_Bool (bytes_eq n (get_or names k []))) [
  | inl hit ↦
      let same : n ≡ get_or names k [] = (bytes_eq-Decides n (get_or names k [])).0 hit in
      let before : (j : ℕ) → j < k → bytes_eq n (get_or names j []) ≡ false = λ j lt.
      ap (λ (m : List ℕ). bytes_eq m (get_or names j [])) same ∙ eq_flips (get_or names k []) (get_or names j [])
      ∙ apart_from_distinct bytes_eq names j k [] apart lt within in
      hit ∙ sym (eq-eqb (place_of n names) k (position_or_len_is (bytes_eq n) names k [] (omega arith) before (λ lt. hit)))
  | inr miss ↦
      miss ∙ sym (ne_eqb (place_of n names) k (λ same.
      let there : place_of n names < length names = omega (arith, same) in
      let hit : bytes_eq n (get_or names (place_of n names) []) ≡ true = passes_at_first (bytes_eq n) names [] there in
      let e = sym (ap (λ (j : ℕ). bytes_eq n (get_or names j [])) same ∙ miss) ∙ hit in cc))
]

push_if : (b : Bool) (place : ℕ) (more rest last : List ℕ) → more ≡ rest ++ last → cond b (place ∷ more) more ≡ cond b (place ∷ rest) rest ++ last
push_if true place more rest last is = ap (λ (ks : List ℕ). place ∷ ks) is
push_if false place more rest last is = is

-- a group of one instance more at the end
group_push : (place : ℕ) (xs : List CutItem) (x : CutItem) (name : List ℕ) → group_from place (xs ++ x ∷ []) name
    ≡ group_from place xs name ++ cond (bytes_eq x.module name) ((place + length xs) ∷ []) []
group_push place [] x name =
    let same : place ≡ place + 0 = omega arith in ap (λ (k : ℕ). cond (bytes_eq x.module name) (k ∷ []) []) same
group_push place (y ∷ ys) x name =
    let same : place + 1 + length ys ≡ place + suc (length ys) = omega arith in
    let rest : group_from (place + 1) (ys ++ x ∷ []) name
    ≡ group_from (place + 1) ys name ++ cond (bytes_eq x.module name) ((place + suc (length ys)) ∷ []) [] =
    group_push (place + 1) ys x name ∙ ap (λ (k : ℕ). group_from (place + 1) ys name ++ cond (bytes_eq x.module name) (k ∷ []) []) same in
    push_if (bytes_eq y.module name) place (group_from (place + 1) (ys ++ x ∷ []) name) (group_from (place + 1) ys name)
    (cond (bytes_eq x.module name) ((place + suc (length ys)) ∷ []) []) rest

-- no instance is in a group
pub groups_none : (names groups : List (List ℕ)) → groups ≡ replicate (length names) [] → AreGroups [] names groups
groups_none names groups is = record {
  len = ap (λ (gs : List (List ℕ)). length gs) is ∙ length-replicate (length names) [];
  each = λ body lt. ap (λ (gs : List (List ℕ)). get_or gs body []) is ∙ get_or-replicate (length names) body [] [] lt;
}

-- the group of a name with the next instance
next_in : (items : List CutItem) (k : ℕ) (x : CutItem) (name : List ℕ) (b : Bool) → slice_get items k ≡ Some x → bytes_eq x.module name ≡ b
    → group_of (take (k + 1) items) name ≡ group_of (take k items) name ++ cond b (k ∷ []) []
next_in items k x name b at is =
    let within : k < length items = slice_get_within items k x at in
    let len : 0 + length (take k items) ≡ k = omega (arith, length-take-le k items (omega arith)) in
    ap (λ (xs : List CutItem). group_of xs name) (take_next items k x at) ∙ group_push 0 (take k items) x name
    ∙ ap (λ (j : ℕ). group_of (take k items) name ++ cond (bytes_eq x.module name) (j ∷ []) []) len
    ∙ ap (λ (c : Bool). group_of (take k items) name ++ cond c (k ∷ []) []) is

-- an instance more, in the group of its module
pub groups_more : (items : List CutItem) (names groups new : List (List ℕ)) (k : ℕ) (x : CutItem) → slice_get items k ≡ Some x → IsDistinct bytes_eq names
    → AreGroups (take k items) names groups → place_of x.module names < length groups → new ≡ with_place groups (place_of x.module names) k
    → AreGroups (take (k + 1) items) names new
groups_more items names groups new k x at apart to within is =
    let own : ℕ = place_of x.module names in
    let more : List ℕ = get_or groups own [] ++ k ∷ [] in
    record {
      len = ap (λ (gs : List (List ℕ)). length gs) is ∙ length-set groups own more ∙ to.len;
      each = λ body lt.
          let name : List ℕ = get_or names body [] in
          let front : get_or new body [] ≡ get_or (slice_set groups own more) body [] = ap (λ (gs : List (List ℕ)). get_or gs body []) is in
          let test : bytes_eq x.module name ≡ eqb own body = own_place names x.module body apart lt in
          elim (cases_eq body own) [
            | inl same ↦
                let hit : bytes_eq x.module name ≡ true = test ∙ eq-eqb own body (sym same) in
                front ∙ ap (λ (j : ℕ). get_or (slice_set groups own more) j []) same ∙ get_or-set_same groups own more [] within
                ∙ ap (λ (j : ℕ). get_or groups j [] ++ k ∷ []) (sym same) ∙ ap (λ (ks : List ℕ). ks ++ k ∷ []) (to.each body lt)
                ∙ sym (next_in items k x name true at hit)
            | inr other ↦
                let miss : bytes_eq x.module name ≡ false = test ∙ ne_eqb own body (λ e. other (sym e)) in
                front ∙ get_or-set_other groups own body more [] other ∙ to.each body lt ∙ sym (append-nil (group_of (take k items) name))
                ∙ sym (next_in items k x name false at miss)
          ];
    }

-- an instance more, of none of the modules
pub groups_same : (items : List CutItem) (names groups : List (List ℕ)) (k : ℕ) (x : CutItem) → slice_get items k ≡ Some x → IsDistinct bytes_eq names
    → AreGroups (take k items) names groups → length groups ≤ place_of x.module names → AreGroups (take (k + 1) items) names groups
groups_same items names groups k x at apart to past = record {
  len = to.len;
  each = λ body lt.
      let name : List ℕ = get_or names body [] in
      let own : ℕ = place_of x.module names in
      let miss : bytes_eq x.module name ≡ false = own_place names x.module body apart lt ∙ ne_eqb own body (λ e. omega (arith, e, past, lt, to.len)) in
      to.each body lt ∙ sym (append-nil (group_of (take k items) name)) ∙ sym (next_in items k x name false at miss);
}

-- what holds of the place of each instance of a module holds of the places of its group
group_all : (P : ℕ → Type 0) (place : ℕ) (items : List CutItem) (name : List ℕ)
    → ((k : ℕ) (x : CutItem) → slice_get items k ≡ Some x → bytes_eq x.module name ≡ true → P (place + k)) → All P (group_from place items name)
group_all P place [] name each = All-nil P
group_all P place (y ∷ ys) name each =
    let rest : All P (group_from (place + 1) ys name) = group_all P (place + 1) ys name (λ k x at hit.
    let same : place + suc k ≡ place + 1 + k = omega arith in subst P same (each (suc k) x at hit)) in
    elim (cases_Bool (bytes_eq y.module name)) [
      | inl hit ↦
          let same : place + 0 ≡ place = omega arith in
          subst (λ (ks : List ℕ). All P ks)
          (sym (cond-true (bytes_eq y.module name) (place ∷ group_from (place + 1) ys name) (group_from (place + 1) ys name) hit))
          (All-cons P place (group_from (place + 1) ys name) (subst P same (each 0 y refl hit)) rest)
      | inr miss ↦
          subst (λ (ks : List ℕ). All P ks)
          (sym (cond-false (bytes_eq y.module name) (place ∷ group_from (place + 1) ys name) (group_from (place + 1) ys name) miss)) rest
    ]

-- the instances of a module can be placed where it stands
pub all_fit : (s : Source) (g : Instance) (items : List CutItem) (places : List ℕ) → IsPlaced s g → All (IsFitItem s) items
    → places ≡ group_of items (module_at s g.body).name → All (IsFitIn (length g.nets) items) places
all_fit s g items places placed fit is =
    let m : Module = module_at s g.body in
    subst (λ (ks : List ℕ). All (IsFitIn (length g.nets) items) ks) (sym is)
    (group_all (IsFitIn (length g.nets) items) 0 items m.name (λ k x at hit.
    let here : 0 + k ≡ k = omega arith in
    let item : item_at items k ≡ x = get_or_from_slice_get items k x _ at in
    let named : m.name ≡ x.module = sym ((bytes_eq-Decides x.module m.name).0 hit) in
    let own : IsFitItem s x = subst (IsFitItem s) item (fit k _ (slice_get_within items k x at)) in
    let pins : All (λ (p : CutPin). p.net < length m.nets) x.pins = own m (Contains-get_or s.modules g.body _ placed.body) named in
    subst (IsFitIn (length g.nets) items) (sym here) (record {
      there = slice_get_within items k x at;
      pins = subst (λ (y : CutItem). All (λ (p : CutPin). p.net < length g.nets) y.pins) (sym item)
          (subst (λ (n : ℕ). All (λ (p : CutPin). p.net < n) x.pins) (sym placed.nets) pins);
    })))

keep_if : (b : Bool) (f : ℕ → CutItem) (place : ℕ) (x : CutItem) (ks : List ℕ) (xs : List CutItem) → f place ≡ x → map f ks ≡ xs
    → map f (cond b (place ∷ ks) ks) ≡ cond b (x ∷ xs) xs
keep_if true f place x ks xs here rest = ap (λ (y : CutItem). y ∷ map f ks) here ∙ ap (λ (ys : List CutItem). x ∷ ys) rest
keep_if false f place x ks xs here rest = rest

-- the instances at the places of a group
items_from : (front rest : List CutItem) (name : List ℕ) → map (item_at (front ++ rest)) (group_from (length front) rest name)
    ≡ filter (λ (x : CutItem). bytes_eq x.module name) rest
items_from front [] name = refl
items_from front (y ∷ ys) name =
    let whole : (front ++ y ∷ []) ++ ys ≡ front ++ (y ∷ ys) = append_assoc front (y ∷ []) ys in
    let later : map (item_at (front ++ (y ∷ ys))) (group_from (length front + 1) ys name) ≡ filter (λ (x : CutItem). bytes_eq x.module name) ys =
    ap (λ (xs : List CutItem). map (item_at xs) (group_from (length front + 1) ys name)) (sym whole)
    ∙ ap (λ (k : ℕ). map (item_at ((front ++ y ∷ []) ++ ys)) (group_from k ys name)) (sym (length_push front y)) ∙ items_from (front ++ y ∷ []) ys name in
    keep_if (bytes_eq y.module name) (item_at (front ++ (y ∷ ys))) (length front) y (group_from (length front + 1) ys name)
    (filter (λ (x : CutItem). bytes_eq x.module name) ys) (get_or_at front y ys _ (length front) refl) later

-- the cells of an instance of a module
pub scope_cells : (s : Source) (g : Instance) (items : List CutItem) (places : List ℕ) → places ≡ group_of items (module_at s g.body).name
    → map (cell_on g) (map (item_at items) places) ≡ cells_in items (scope_of s g)
scope_cells s g items places is =
    ap (λ (ks : List ℕ). map (cell_on g) (map (item_at items) ks)) is
    ∙ ap (map (cell_on g)) (items_from [] items (module_at s g.body).name)

-- a cell more
pub cells_next : (g : Instance) (items : List CutItem) (places : List ℕ) (k p : ℕ) (x : CutItem) → slice_get places k ≡ Some p → slice_get items p ≡ Some x
    → map (cell_on g) (map (item_at items) (take (k + 1) places)) ≡ map (cell_on g) (map (item_at items) (take k places)) ++ cell_on g x ∷ []
cells_next g items places k p x at at_item =
    let item : item_at items p ≡ x = get_or_from_slice_get items p x _ at_item in
    ap (map (cell_on g)) (map_next (item_at items) places k p at) ∙ map_push (cell_on g) (map (item_at items) (take k places)) (item_at items p)
    ∙ ap (λ (y : CutItem). map (cell_on g) (map (item_at items) (take k places)) ++ cell_on g y ∷ []) item

-- the group of a module by its place
pub group_is : (s : Source) (items : List CutItem) (groups : List (List ℕ)) (body : ℕ) (places : List ℕ) → AreGroups items (module_names s) groups
    → body < length s.modules → slice_get groups body ≡ Some places → places ≡ group_of items (module_at s body).name
group_is s items groups body places are lt at =
    let name : Module → List ℕ = λ m. m.name in
    sym (get_or_from_slice_get groups body places [] at) ∙ are.each body (omega (arith, lt, length-map s.modules name))
    ∙ ap (group_of items) (get_or-map name s.modules body _ [] lt)
