-- The top module of what is left.
use Rattle.std.proofs.Common.{◌≡◌, ℕ, zero, suc, Bool, true, false, not, ◌||◌, cond, List, [], ◌∷◌, map, None, Some, refl, ap, sym, ◌∙◌, subst}
use Rattle.std.specs.Prelude.{slice_get, flat_map, filter, Contains, Option}
use Rattle.std.specs.List.{IsDistinct, list_any}
use Rattle.std.specs.Str.{bytes_eq}
use Rattle.std.proofs.lemmas.List.Elements.{All-from_recursion}
use Rattle.std.proofs.lemmas.Map.Keys.{IsDistinct-head, IsDistinct-tail}
use Rattle.std.proofs.lemmas.Option.{slice_get-map}
use Rattle.texts.specs.Names.{is_among}
use Rattle.netlist_types.specs.declared.sources.Source.{Source}
use Rattle.netlist_types.specs.declared.sources.Module.{Module}
use Rattle.netlist_types.specs.Lawful.{module_of, IsLawful}
use Rattle.link_defs.specs.Hierarchy.{refs, is_used, tops}
use Rattle.link_items.proofs.Listing.{all_at, contains_at}
use Rattle.link_items.proofs.Searching.{place_of_item, not_both, not_true, contains_first, contains_later}
use Rattle.cut_source.specs.Cuttable.{Plan, module_left}
use Rattle.cut_source.specs.Sources.{refs_left, named_modules, IsBelow, Itself, Inside, AreNamesBelow, IsTopOf}
use Rattle.cut_source.proofs.Naming.{name_of, stands, bytes_self}
use Rattle.cut_source.proofs.Widening.{passed, kept}
use Rattle.cut_source.proofs.Lawfully.{left_source, left_lawful, mapped_at}

none_pass_if : (q : Module → Bool) (m : Module) (ms : List Module) (b : Bool) → q m ≡ b → (b ≡ true → ⊥) → filter q ms ≡ []
    → cond b (m ∷ filter q ms) (filter q ms) ≡ []
none_pass_if q m ms true e never rest = absurd (never refl)
none_pass_if q m ms false e never rest = rest

-- nothing passes
none_pass : (q : Module → Bool) (ms : List Module) → ((m : Module) → Contains ms m → q m ≡ true → ⊥) → filter q ms ≡ []
none_pass q [] never = refl
none_pass q (m ∷ ms) never =
    none_pass_if q m ms (q m) refl (λ e. never m (contains_first m ms) e) (none_pass q ms (λ x has hit. never x (contains_later m ms x has) hit))

only_if : (q : Module → Bool) (m : Module) (ms : List Module) (x : Module) (b : Bool) → q m ≡ b → (b ≡ true → ⊥) → filter q ms ≡ x ∷ []
    → cond b (m ∷ filter q ms) (filter q ms) ≡ x ∷ []
only_if q m ms x true e never rest = absurd (never refl)
only_if q m ms x false e never rest = rest

-- one module alone passes
pub only_one : (q : Module → Bool) (ms : List Module) → IsDistinct bytes_eq (map (λ (m : Module). m.name) ms) → (k : ℕ) (x : Module)
    → slice_get ms k ≡ Some x → q x ≡ true → ((y : Module) → Contains ms y → q y ≡ true → y.name ≡ x.name) → filter q ms ≡ x ∷ []
only_one q [] d k x at hit only = cc
only_one q (y ∷ ys) d zero x at hit only =
    let same : y ≡ x = cc in
    let names = map (λ (m : Module). m.name) ys in
    let apart = All-from_recursion (λ (n : List ℕ). bytes_eq y.name n ≡ false) names (IsDistinct-head bytes_eq y.name names d) in
    let none = none_pass q ys (λ z has pass.
    let (j, there) = place_of_item ys z has in
    let differs = all_at (λ (n : List ℕ). bytes_eq y.name n ≡ false) names apart j z.name (slice_get-map (λ (m : Module). m.name) ys j ∙ rw there refl) in
    let named : z.name ≡ y.name = only z (contains_later y ys z has) pass ∙ ap (λ (m : Module). m.name) (sym same) in
    not_both (bytes_eq y.name z.name) (rw named (bytes_self y.name)) differs) in
    rw (ap q same ∙ hit, none) (ap (λ m. m ∷ []) same)
only_one q (y ∷ ys) d (suc k) x at hit only =
    let names = map (λ (m : Module). m.name) ys in
    let apart = All-from_recursion (λ (n : List ℕ). bytes_eq y.name n ≡ false) names (IsDistinct-head bytes_eq y.name names d) in
    let differs = all_at (λ (n : List ℕ). bytes_eq y.name n ≡ false) names apart k x.name (slice_get-map (λ (m : Module). m.name) ys k ∙ rw at refl) in
    only_if q y ys x (q y) refl
    (λ e. not_both (bytes_eq y.name x.name) (rw (only y (contains_first y ys) e) (bytes_self x.name)) differs)
    (only_one q ys (IsDistinct-tail bytes_eq y.name names d) k x at hit (λ z has pass. only z (contains_later y ys z has) pass))

any_first : {X : Type 0} (q : X → Bool) (x : X) (xs : List X) → q x ≡ true → list_any q (x ∷ xs) ≡ true
any_first q x xs hit = rw hit refl

any_or : (a b : Bool) → b ≡ true → (a || b) ≡ true
any_or true b e = refl
any_or false b e = e

-- one of these passes
any_at : {X : Type 0} (q : X → Bool) (xs : List X) (k : ℕ) (x : X) → slice_get xs k ≡ Some x → q x ≡ true → list_any q xs ≡ true
any_at q [] k x at hit = cc
any_at q (y ∷ ys) zero x at hit = let same : y ≡ x = cc in any_first q y ys (ap q same ∙ hit)
any_at q (y ∷ ys) (suc k) x at hit = any_or (q y) (list_any q ys) (any_at q ys k x at hit)

any_in : {X : Type 0} (q : X → Bool) (xs : List X) (x : X) → Contains xs x → q x ≡ true → list_any q xs ≡ true
any_in q xs x has hit = let (k, at) = place_of_item xs x has in any_at q xs k x at hit

-- a module that is left stands in what is left
left_there : (p : Plan) (names : List (List ℕ)) (m : Module) → Contains p.source.modules m → is_among m.name names ≡ true
    → Contains (left_source p names).modules (module_left p m)
left_there p names m has among =
    let (k, at) = place_of_item (named_modules p.source names) m (kept (λ (m : Module). is_among m.name names) p.source.modules m has among) in
    contains_at (left_source p names).modules k (module_left p m) (slice_get-map (module_left p) (named_modules p.source names) k ∙ rw at refl)

-- a module in one that is below is used
inside_used : (p : Plan) (names : List (List ℕ)) (outer inner : Module) (r : List ℕ) → Contains p.source.modules outer → is_among outer.name names ≡ true
    → Contains (refs_left p outer) r → module_of p.source r ≡ Some inner → is_used (left_source p names) inner.name ≡ true
inside_used p names outer inner r has among there is =
    any_in (λ (m : Module). list_any (λ (n : List ℕ). bytes_eq n inner.name) (flat_map refs m.items)) (left_source p names).modules (module_left p outer)
    (left_there p names outer has among)
    (any_in (λ (n : List ℕ). bytes_eq n inner.name) (refs_left p outer) r there (rw (name_of p.source r inner is) (bytes_self r)))

stands_below : (p : Plan) (top m : Module) → Contains p.source.modules top → IsBelow p top m → Contains p.source.modules m
stands_below p top m has Itself = has
stands_below p top m has (Inside outer inner r out there is) = stands p.source r inner is

-- a module below that isn't used is the top module
unused_top : (p : Plan) (top : Module) (names : List (List ℕ)) → IsLawful p.source → Contains p.source.modules top → AreNamesBelow p top names
    → (m : Module) → IsBelow p top m → is_used (left_source p names) m.name ≡ false → m.name ≡ top.name
unused_top p top names lawful has below m Itself unused = refl
unused_top p top names lawful has below m (Inside outer inner r out there is) unused =
    let stands_out = stands_below p top outer has out in
    absurd (not_both (is_used (left_source p names) inner.name)
    (inside_used p names outer inner r stands_out ((below outer stands_out).1 out) there is) unused)

-- the top module is the only one that no module that is left instantiates
pub left_tops : (p : Plan) (top : Module) (names : List (List ℕ)) → IsLawful p.source → Contains p.source.modules top → AreNamesBelow p top names
    → is_used (left_source p names) top.name ≡ false → tops (left_source p names) ≡ module_left p top ∷ []
left_tops p top names lawful has below unused =
    let s = left_source p names in
    let (k, at) = place_of_item s.modules (module_left p top) (left_there p names top has ((below top has).1 Itself)) in
    only_one (λ (m : Module). not (is_used s m.name)) s.modules (left_lawful p top names lawful below).names k (module_left p top) at
    (ap not unused)
    (λ y there free.
    let (j, placed) = place_of_item s.modules y there in
    let (m, stood, same) = mapped_at (module_left p) (named_modules p.source names) j y placed in
    let old = passed (λ (m : Module). is_among m.name names) p.source.modules m (contains_at (named_modules p.source names) j m stood) in
    let named : m.name ≡ y.name = ap (λ (x : Module). x.name) same in
    sym named ∙ unused_top p top names lawful has below m ((below m old.there).0 old.passes)
    (ap (λ n. is_used s n) named ∙ not_true (is_used s y.name) free))

one_of : (xs : List Module) (a : Module) → xs ≡ a ∷ [] → Contains xs a
one_of xs a e = subst (λ ys. Contains ys a) (sym e) (contains_first a [])

-- the top module stands in the source
pub top_there : (s : Source) (name : Option (List ℕ)) (top : Module) → IsTopOf s name top → Contains s.modules top
top_there s None top is = (passed (λ (m : Module). not (is_used s m.name)) s.modules top (one_of (tops s) top is)).there
top_there s (Some n) top is = stands s n top is

-- there is one top module at most
pub same_top : (s : Source) (name : Option (List ℕ)) (a b : Module) → IsTopOf s name a → IsTopOf s name b → a ≡ b
same_top s None a b is too = cc
same_top s (Some n) a b is too = cc
