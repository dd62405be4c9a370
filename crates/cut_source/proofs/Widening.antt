-- The search for the modules below the top module.
use Rattle.std.proofs.Common.{◌≡◌, ℕ, zero, suc, ◌+◌, ◌<◌, ◌≤◌, Bool, true, false, ◌||◌, cond, List, [], ◌∷◌, ◌++◌, length, None, Some}
use Rattle.std.proofs.Common.{refl, ap, sym, ◌∙◌, arith, subst, append_assoc, ◌⊎◌, inl, inr}
use Rattle.std.specs.Prelude.{slice_get, flat_map, filter, if◌then◌else◌, Contains, Option}
use Rattle.std.specs.Str.{bytes_eq}
use Rattle.std.proofs.lemmas.List.Elements.{filter-append}
use Rattle.std.proofs.lemmas.Option.{slice_get_within, get_or_from_slice_get}
use Rattle.texts.specs.Names.{is_among, with_name, with_names}
use Rattle.texts.proofs.NameLemmas.{is_among-with_names}
use Rattle.netlist_types.specs.declared.sources.Source.{Source}
use Rattle.netlist_types.specs.declared.sources.Module.{Module}
use Rattle.netlist_types.specs.declared.sources.Item.{Item}
use Rattle.netlist_types.specs.Lawful.{module_of, IsLawful}
use Rattle.link_defs.specs.Hierarchy.{refs}
use Rattle.link_items.specs.Items.{module_at}
use Rattle.link_items.proofs.Listing.{contains_at, with_none}
use Rattle.link_items.proofs.Naming.{some_at}
use Rattle.link_items.proofs.Searching.{among_in, in_among, place_of_item, not_both}
use Rattle.cut_source.specs.Below.{is_some, is_module, inner_names, names_in, named, IsWidened}
use Rattle.cut_source.specs.Cuttable.{Plan, is_left}
use Rattle.cut_source.specs.Sources.{refs_left, IsBelow, Itself, Inside, AreNamesBelow}
use Rattle.cut_source.proofs.Naming.{own_name, name_of, stands, bytes_same, bytes_self}

-- the name is that of a module below
pub record IsNameBelow (p : Plan) (top : Module) (n : List ℕ) : Type 0 where
  pub body : Module
  pub is : module_of p.source n ≡ Some body
  pub below : IsBelow p top body

-- the names that were found, and those among the first of them whose modules were looked into
pub record Searched (p : Plan) (top : Module) (names : List (List ℕ)) (done : ℕ) : Type 0 where
  pub sound : (n : List ℕ) → is_among n names ≡ true → IsNameBelow p top n
  pub has_top : is_among top.name names ≡ true
  pub closed : (k : ℕ) (n r : List ℕ) → k < done → slice_get names k ≡ Some n → Contains (names_in p (module_of p.source n)) r → is_among r names ≡ true

-- a bit or another
or_cases : (a b : Bool) (C : Type 0) → (a || b) ≡ true → (a ≡ true → C) → (b ≡ true → C) → C
or_cases true b C e left right = left refl
or_cases false b C e left right = right e

or_left : (a b : Bool) → a ≡ true → (a || b) ≡ true
or_left a b e = rw e refl

or_right : (a b : Bool) → b ≡ true → (a || b) ≡ true
or_right true b e = refl
or_right false b e = e

-- names that are added stand behind those that were there
pub record Extends (names more : List (List ℕ)) : Type 0 where
  pub rest : List (List ℕ)
  pub is : more ≡ names ++ rest

one_extends : (names : List (List ℕ)) (n : List ℕ) (b : Bool) → is_among n names ≡ b → Extends names (with_name names n)
one_extends names n true hit = record { rest = []; is = rw hit (sym (with_none names)) }
one_extends names n false hit = record { rest = n ∷ []; is = rw hit refl }

more_extends : (a b c : List (List ℕ)) → Extends a b → Extends b c → Extends a c
more_extends a b c one two =
    record { rest = one.rest ++ two.rest; is = two.is ∙ ap (λ xs. xs ++ two.rest) one.is ∙ append_assoc a one.rest two.rest }

pub extends : (names more : List (List ℕ)) → Extends names (with_names names more)
extends names [] = record { rest = []; is = sym (with_none names) }
extends names (n ∷ ns) =
    more_extends names (with_name names n) (with_names (with_name names n) ns) (one_extends names n (is_among n names) refl)
    (extends (with_name names n) ns)

-- what stands among the first names stands there still
before : {X : Type 0} (xs ys : List X) (k : ℕ) (x : X) → k < length xs → slice_get (xs ++ ys) k ≡ Some x → slice_get xs k ≡ Some x
before [] ys k x lt at = absurd (omega arith)
before (z ∷ zs) ys zero x lt at = at
before (z ∷ zs) ys (suc k) x lt at = before zs ys k x (omega arith) at

pub still_at : (names more : List (List ℕ)) (k : ℕ) (n : List ℕ) → Extends names more → k < length names → slice_get more k ≡ Some n
    → slice_get names k ≡ Some n
still_at names more k n e lt at = before names e.rest k n lt (sym (ap (λ xs. slice_get xs k) e.is) ∙ at)

-- what is in a filter passes, and stands in the list
pub record Passed {X : Type 0} (q : X → Bool) (xs : List X) (x : X) : Type 0 where
  pub there : Contains xs x
  pub passes : q x ≡ true

put_first : {X : Type 0} (q : X → Bool) (y : X) (xs : List X) (b : Bool) → q y ≡ b → (k : ℕ) (x : X) → slice_get (filter q xs) k ≡ Some x
    → Contains (filter q (y ∷ xs)) x
put_first q y xs true hit k x at = rw hit (contains_at (y ∷ filter q xs) (suc k) x at)
put_first q y xs false miss k x at = rw miss (contains_at (filter q xs) k x at)

in_filter : {X : Type 0} (q : X → Bool) (xs : List X) (k : ℕ) (x : X) → slice_get xs k ≡ Some x → q x ≡ true → Contains (filter q xs) x
in_filter q [] k x at hit = cc
in_filter q (y ∷ ys) zero x at hit =
    let same : y ≡ x = cc in rw (ap q same ∙ hit) (contains_at (y ∷ filter q ys) 0 x at)
in_filter q (y ∷ ys) (suc k) x at hit =
    let (j, there) = place_of_item (filter q ys) x (in_filter q ys k x at hit) in put_first q y ys (q y) refl j x there

-- what passes and stands in a list is in the filter
pub kept : {X : Type 0} (q : X → Bool) (xs : List X) (x : X) → Contains xs x → q x ≡ true → Contains (filter q xs) x
kept q xs x has hit = let (k, at) = place_of_item xs x has in in_filter q xs k x at hit

later : {X : Type 0} (q : X → Bool) (y : X) (xs : List X) (x : X) → Passed q xs x → Passed q (y ∷ xs) x
later q y xs x p = let (k, at) = place_of_item xs x p.there in record { there = contains_at (y ∷ xs) (suc k) x at; passes = p.passes }

passed_if : {X : Type 0} (q : X → Bool) (y : X) (xs : List X) (b : Bool) → q y ≡ b → (k : ℕ) (x : X)
    → slice_get (cond b (y ∷ filter q xs) (filter q xs)) k ≡ Some x
    → ((j : ℕ) → slice_get (filter q xs) j ≡ Some x → Passed q xs x) → Passed q (y ∷ xs) x
passed_if q y xs true hit zero x at rest =
    let same : y ≡ x = cc in record { there = contains_at (y ∷ xs) 0 x at; passes = ap q (sym same) ∙ hit }
passed_if q y xs true hit (suc k) x at rest = later q y xs x (rest k at)
passed_if q y xs false miss k x at rest = later q y xs x (rest k at)

passed_at : {X : Type 0} (q : X → Bool) (xs : List X) (k : ℕ) (x : X) → slice_get (filter q xs) k ≡ Some x → Passed q xs x
passed_at q [] k x at = cc
passed_at q (y ∷ ys) k x at = passed_if q y ys (q y) refl k x at (λ j there. passed_at q ys j x there)

pub passed : {X : Type 0} (q : X → Bool) (xs : List X) (x : X) → Contains (filter q xs) x → Passed q xs x
passed q xs x has = let (k, at) = place_of_item (filter q xs) x has in passed_at q xs k x at

-- a name that is that of a module
some_module : (m : Option Module) → is_some m ≡ true → (x : Module) × (m ≡ Some x)
some_module None e = cc
some_module (Some m) e = (m, refl)

-- the names in a module are those of modules below
inner_below : (p : Plan) (top : Module) (n r : List ℕ) (b : IsNameBelow p top n) → Contains (names_in p (module_of p.source n)) r → IsNameBelow p top r
inner_below p top n r b has =
    let here : Contains (names_in p (Some b.body)) r = subst (λ (m : Option Module). Contains (names_in p m) r) b.is has in
    let q = passed (is_module p.source) (refs_left p b.body) r here in
    let (inner, is) = some_module (module_of p.source r) q.passes in
    record { body = inner; is = is; below = Inside b.body inner r b.below q.there is }

named_is : (p : Plan) (names : List (List ℕ)) (place : ℕ) (n : List ℕ) → slice_get names place ≡ Some n
    → names_in p (named p.source (slice_get names place)) ≡ names_in p (module_of p.source n)
named_is p names place n at = rw at refl

-- the search begins at the top module
pub begins : (p : Plan) (top : Module) (names : List (List ℕ)) → IsLawful p.source → Contains p.source.modules top → names ≡ with_name [] top.name
    → Searched p top names 0
begins p top names lawful has made =
    let only : names ≡ top.name ∷ [] = made in record {
      sound = λ n among.
          let one : is_among n (top.name ∷ []) ≡ true = subst (λ ns. is_among n ns ≡ true) only among in
          let same : n ≡ top.name = or_cases (bytes_eq n top.name) false (n ≡ top.name) one (λ e. bytes_same n top.name e)
          (λ e. absurd (not_both false e refl)) in
          record { body = top; is = ap (λ k. module_of p.source k) same ∙ own_name p.source top lawful has; below = Itself };
      has_top = subst (λ ns. is_among top.name ns ≡ true) (sym only) (or_left (bytes_eq top.name top.name) false (bytes_self top.name));
      closed = λ k n r lt at here. absurd (omega arith);
    }

sound_more : (p : Plan) (top : Module) (names more : List (List ℕ)) (done : ℕ) (n : List ℕ) → Searched p top names done → slice_get names done ≡ Some n
    → IsWidened p names done more → (r : List ℕ) → is_among r more ≡ true → IsNameBelow p top r
sound_more p top names more done n s at wide r among =
    let inner = names_in p (named p.source (slice_get names done)) in
    let both : (is_among r names || is_among r inner) ≡ true = sym (is_among-with_names r names inner) ∙ sym (ap (λ ns. is_among r ns) wide) ∙ among in
    or_cases (is_among r names) (is_among r inner) (IsNameBelow p top r) both (λ e. s.sound r e)
    (λ e. inner_below p top n r (s.sound n (in_among n names (contains_at names done n at)))
    (subst (λ ns. Contains ns r) (named_is p names done n at) (among_in r inner e)))

was_among : (p : Plan) (names more : List (List ℕ)) (place : ℕ) (r : List ℕ) → IsWidened p names place more → is_among r names ≡ true
    → is_among r more ≡ true
was_among p names more place r wide e =
    let inner = names_in p (named p.source (slice_get names place)) in
    ap (λ ns. is_among r ns) wide ∙ is_among-with_names r names inner ∙ or_left (is_among r names) (is_among r inner) e

now_among : (p : Plan) (names more : List (List ℕ)) (place : ℕ) (n r : List ℕ) → IsWidened p names place more → slice_get names place ≡ Some n
    → Contains (names_in p (module_of p.source n)) r → is_among r more ≡ true
now_among p names more place n r wide at has =
    let inner = names_in p (named p.source (slice_get names place)) in
    let there = in_among r inner (subst (λ ns. Contains ns r) (sym (named_is p names place n at)) has) in
    ap (λ ns. is_among r ns) wide ∙ is_among-with_names r names inner ∙ or_right (is_among r names) (is_among r inner) there

closed_by : (p : Plan) (top : Module) (names more : List (List ℕ)) (done : ℕ) → Searched p top names done → IsWidened p names done more
    → (k : ℕ) (n r : List ℕ) → (k < done) ⊎ (k ≡ done) → slice_get names k ≡ Some n → Contains (names_in p (module_of p.source n)) r → is_among r more ≡ true
closed_by p top names more done s wide k n r (inl lt) at has = was_among p names more done r wide (s.closed k n r lt at has)
closed_by p top names more done s wide k n r (inr same) at has =
    now_among p names more done n r wide (subst (λ j. slice_get names j ≡ Some n) same at) has

one_up : (k n : ℕ) → (k < n) ⊎ (k ≡ n) → (suc k < suc n) ⊎ (suc k ≡ suc n)
one_up k n (inl lt) = inl (omega arith)
one_up k n (inr same) = inr (ap suc same)

earlier_or_last : (k n : ℕ) → k < n + 1 → (k < n) ⊎ (k ≡ n)
earlier_or_last zero zero lt = inr refl
earlier_or_last zero (suc n) lt = inl (omega arith)
earlier_or_last (suc k) zero lt = absurd (omega arith)
earlier_or_last (suc k) (suc n) lt = one_up k n (earlier_or_last k n (omega arith))

closed_more : (p : Plan) (top : Module) (names more : List (List ℕ)) (done : ℕ) → Searched p top names done → done < length names
    → IsWidened p names done more → (k : ℕ) (n r : List ℕ) → k < done + 1 → slice_get more k ≡ Some n
    → Contains (names_in p (module_of p.source n)) r → is_among r more ≡ true
closed_more p top names more done s lt wide k n r within at has =
    let e = subst (λ (ms : List (List ℕ)). Extends names ms) (sym wide) (extends names (names_in p (named p.source (slice_get names done)))) in
    let there = still_at names more k n e (omega arith) at in
    closed_by p top names more done s wide k n r (earlier_or_last k done within) there has

-- one module more is looked into
pub goes_on : (p : Plan) (top : Module) (names more : List (List ℕ)) (done : ℕ) → Searched p top names done → done < length names
    → IsWidened p names done more → Searched p top more (done + 1)
goes_on p top names more done s lt wide =
    let (n, at) = some_at names done lt in record {
      sound = λ r among. sound_more p top names more done n s at wide r among;
      has_top = was_among p names more done top.name wide s.has_top;
      closed = λ k n r within at has. closed_more p top names more done s lt wide k n r within at has;
    }

-- all modules are looked into: the module below has its name among these
all_below : (p : Plan) (top : Module) (names : List (List ℕ)) (done : ℕ) → IsLawful p.source → Contains p.source.modules top → Searched p top names done
    → length names ≤ done → (m : Module) → IsBelow p top m → (is_among m.name names ≡ true) × Contains p.source.modules m
all_below p top names done lawful has s past m Itself = (s.has_top, has)
all_below p top names done lawful has s past m (Inside outer inner r below there is) =
    let (among, stands_in) = all_below p top names done lawful has s past outer below in
    let (k, at) = place_of_item names outer.name (among_in outer.name names among) in
    let passes : is_module p.source r ≡ true = ap is_some is in
    let inside : Contains (names_in p (module_of p.source outer.name)) r =
    subst (λ (x : Option Module). Contains (names_in p x) r) (sym (own_name p.source outer lawful stands_in))
    (kept (is_module p.source) (refs_left p outer) r there passes) in
    let found = s.closed k outer.name r (omega (arith, slice_get_within names k outer.name at)) at inside in
    (subst (λ n. is_among n names ≡ true) (sym (name_of p.source r inner is)) found, stands p.source r inner is)

same_module : (a b : Module) (x : Option Module) → x ≡ Some a → x ≡ Some b → a ≡ b
same_module a b x is too = cc

-- the names are those of the modules below
pub ends : (p : Plan) (top : Module) (names : List (List ℕ)) (done : ℕ) → IsLawful p.source → Contains p.source.modules top → Searched p top names done
    → length names ≤ done → AreNamesBelow p top names
ends p top names done lawful has s past = λ m stands_in. (
  λ among. let b = s.sound m.name among in
      subst (λ x. IsBelow p top x) (same_module b.body m (module_of p.source m.name) b.is (own_name p.source m lawful stands_in)) b.below,
  λ below. (all_below p top names done lawful has s past m below).0,
)

-- the module at a place
pub at_place : (s : Source) (place : ℕ) (m : Module) → slice_get s.modules place ≡ Some m → module_at s place ≡ m
at_place s place m at = get_or_from_slice_get s.modules place m (record { name = []; ports = []; nets = []; items = [] }) at

-- the search begins at the module at a place
pub begins_at : (p : Plan) (place : ℕ) (m : Module) (names : List (List ℕ)) → IsLawful p.source → slice_get p.source.modules place ≡ Some m
    → names ≡ with_name [] m.name → Searched p (module_at p.source place) names 0
begins_at p place m names lawful at made =
    subst (λ (top : Module). Searched p top names 0) (sym (at_place p.source place m at))
    (begins p m names lawful (contains_at p.source.modules place m at) made)

-- and ends with the names of the modules below it
pub ends_at : (p : Plan) (place : ℕ) (names : List (List ℕ)) (done : ℕ) → IsLawful p.source → place < length p.source.modules
    → Searched p (module_at p.source place) names done → length names ≤ done → AreNamesBelow p (module_at p.source place) names
ends_at p place names done lawful within s past =
    let (m, at) = some_at p.source.modules place within in
    let has = subst (λ (x : Module). Contains p.source.modules x) (sym (at_place p.source place m at)) (contains_at p.source.modules place m at) in
    ends p (module_at p.source place) names done lawful has s past

inner_if : (p : Plan) (i : Item) (is : List Item) (b : Bool) → is_left p i ≡ b
    → flat_map (inner_names p) is ≡ filter (is_module p.source) (flat_map refs (filter (is_left p) is))
    → (if b then filter (is_module p.source) (refs i) else []) ++ flat_map (inner_names p) is
    ≡ filter (is_module p.source) (flat_map refs (cond b (i ∷ filter (is_left p) is) (filter (is_left p) is)))
inner_if p i is true e rest =
    ap (λ ns. filter (is_module p.source) (refs i) ++ ns) rest
    ∙ sym (filter-append (is_module p.source) (refs i) (flat_map refs (filter (is_left p) is)))
inner_if p i is false e rest = rest

-- the names that are added for a module, item by item
pub inner_are : (p : Plan) (is : List Item)
    → flat_map (inner_names p) is ≡ filter (is_module p.source) (flat_map refs (filter (is_left p) is))
inner_are p [] = refl
inner_are p (i ∷ is) = inner_if p i is (is_left p i) refl (inner_are p is)

-- the names with those of the modules in a module are widened
pub widened : (p : Plan) (names more : List (List ℕ)) (place : ℕ) (m : Module) → named p.source (slice_get names place) ≡ Some m
    → more ≡ with_names names (flat_map (inner_names p) m.items) → IsWidened p names place more
widened p names more place m is made =
    made ∙ ap (λ (ns : List (List ℕ)). with_names names ns) (inner_are p m.items ∙ sym (ap (names_in p) is))
