-- What is left of a lawful source is lawful.
use Rattle.std.proofs.Common.{◌≡◌, ℕ, zero, suc, Bool, true, false, cond, List, [], ◌∷◌, length, map, None, Some, refl, ap, sym, ◌∙◌, subst}
use Rattle.std.specs.Prelude.{slice_get, find, flat_map, filter, Contains, Option}
use Rattle.std.specs.List.{IsDistinct, AllByRecursion}
use Rattle.std.specs.Str.{bytes_eq}
use Rattle.std.proofs.lemmas.List.Elements.{All-contains, Contains-append_left, Contains-append_right}
use Rattle.std.proofs.lemmas.Map.Keys.{IsDistinct-head, IsDistinct-tail, IsDistinct-cons}
use Rattle.texts.specs.Names.{is_among}
use Rattle.netlist_types.specs.declared.sources.Source.{Source}
use Rattle.netlist_types.specs.declared.sources.Module.{Module}
use Rattle.netlist_types.specs.declared.sources.Conn.{Conn}
use Rattle.netlist_types.specs.declared.sources.Item.{Item}
use Rattle.netlist_types.specs.declared.sources.Item.TheVariants as item
use Rattle.netlist_types.specs.Lawful.{module_of, IsLawful, IsLawfulModule, IsLawfulItem, HasWidths}
use Rattle.link_defs.specs.Hierarchy.{refs}
use Rattle.link_items.proofs.Listing.{all_by, contains_at}
use Rattle.link_items.proofs.Searching.{not_both}
use Rattle.cut_source.specs.Cuttable.{Plan, is_left, module_left}
use Rattle.cut_source.specs.Sources.{named_modules, Inside, AreNamesBelow}
use Rattle.cut_source.proofs.Naming.{stands}
use Rattle.cut_source.proofs.Widening.{passed}

-- the source that is left
abbrev pub left_source : Plan → List (List ℕ) → Source
left_source p names = record { modules = map (module_left p) (named_modules p.source names) }

abbrev is_named : List (List ℕ) → Module → Bool
is_named names m = is_among m.name names

-- an item of a map comes from one of the list
pub mapped_at : {X Y : Type 0} (f : X → Y) (xs : List X) (k : ℕ) (y : Y) → slice_get (map f xs) k ≡ Some y → (x : X) × (slice_get xs k ≡ Some x) × (f x ≡ y)
mapped_at f [] k y at = cc
mapped_at f (x ∷ xs) zero y at = let same : f x ≡ y = cc in (x, refl, same)
mapped_at f (x ∷ xs) (suc k) y at = mapped_at f xs k y at

-- names that differ from one, fewer of them
apart_if : (q : Module → Bool) (x : List ℕ) (m : Module) (ms : List Module) (b : Bool) → bytes_eq x m.name ≡ false
    → AllByRecursion (λ n. bytes_eq x n ≡ false) (map (λ (m : Module). m.name) (filter q ms))
    → AllByRecursion (λ n. bytes_eq x n ≡ false) (map (λ (m : Module). m.name) (cond b (m ∷ filter q ms) (filter q ms)))
apart_if q x m ms true here rest = (here, rest)
apart_if q x m ms false here rest = rest

apart_filter : (q : Module → Bool) (x : List ℕ) (ms : List Module) → AllByRecursion (λ n. bytes_eq x n ≡ false) (map (λ (m : Module). m.name) ms)
    → AllByRecursion (λ n. bytes_eq x n ≡ false) (map (λ (m : Module). m.name) (filter q ms))
apart_filter q x [] apart = apart
apart_filter q x (m ∷ ms) apart = apart_if q x m ms (q m) apart.0 (apart_filter q x ms apart.1)

-- names that differ, fewer of them
distinct_if : (q : Module → Bool) (m : Module) (ms : List Module) (b : Bool) → IsDistinct bytes_eq (map (λ (m : Module). m.name) (m ∷ ms))
    → IsDistinct bytes_eq (map (λ (m : Module). m.name) (filter q ms))
    → IsDistinct bytes_eq (map (λ (m : Module). m.name) (cond b (m ∷ filter q ms) (filter q ms)))
distinct_if q m ms true d rest =
    let names = map (λ (m : Module). m.name) ms in
    IsDistinct-cons bytes_eq m.name (map (λ (m : Module). m.name) (filter q ms)) (apart_filter q m.name ms (IsDistinct-head bytes_eq m.name names d)) rest
distinct_if q m ms false d rest = rest

distinct_filter : (q : Module → Bool) (ms : List Module) → IsDistinct bytes_eq (map (λ (m : Module). m.name) ms)
    → IsDistinct bytes_eq (map (λ (m : Module). m.name) (filter q ms))
distinct_filter q [] d = d
distinct_filter q (m ∷ ms) d =
    distinct_if q m ms (q m) d (distinct_filter q ms (IsDistinct-tail bytes_eq m.name (map (λ (m : Module). m.name) ms) d))

names_left : (p : Plan) (ms : List Module) → map (λ (m : Module). m.name) (map (module_left p) ms) ≡ map (λ (m : Module). m.name) ms
names_left p [] = refl
names_left p (m ∷ ms) = ap (λ ns. m.name ∷ ns) (names_left p ms)

none_if : (p : Plan) (q : Module → Bool) (name : List ℕ) (m : Module) (ms : List Module) (a b : Bool) → bytes_eq m.name name ≡ a → q m ≡ b
    → cond a (Some m) (find (λ (m : Module). bytes_eq m.name name) ms) ≡ None
    → (find (λ (m : Module). bytes_eq m.name name) ms ≡ None → find (λ (m : Module). bytes_eq m.name name) (map (module_left p) (filter q ms)) ≡ None)
    → find (λ (m : Module). bytes_eq m.name name) (map (module_left p) (cond b (m ∷ filter q ms) (filter q ms))) ≡ None
none_if p q name m ms true b e f none rest = cc
none_if p q name m ms false true e f none rest = rw e (rest none)
none_if p q name m ms false false e f none rest = rest none

some_if : (p : Plan) (q : Module → Bool) (name : List ℕ) (m : Module) (ms : List Module) (x : Module) (a b : Bool) → bytes_eq m.name name ≡ a → q m ≡ b
    → cond a (Some m) (find (λ (m : Module). bytes_eq m.name name) ms) ≡ Some x → q x ≡ true
    → (find (λ (m : Module). bytes_eq m.name name) ms ≡ Some x
    → find (λ (m : Module). bytes_eq m.name name) (map (module_left p) (filter q ms)) ≡ Some (module_left p x))
    → find (λ (m : Module). bytes_eq m.name name) (map (module_left p) (cond b (m ∷ filter q ms) (filter q ms))) ≡ Some (module_left p x)
some_if p q name m ms x true true e f is hit rest = let same : m ≡ x = cc in rw e (ap (λ y. Some (module_left p y)) same)
some_if p q name m ms x true false e f is hit rest =
    let same : m ≡ x = cc in absurd (not_both (q m) (ap q same ∙ hit) f)
some_if p q name m ms x false true e f is hit rest = rw e (rest is)
some_if p q name m ms x false false e f is hit rest = rest is

-- the first of a name among what passes, and without what is cut
found_none : (p : Plan) (q : Module → Bool) (name : List ℕ) (ms : List Module) → find (λ (m : Module). bytes_eq m.name name) ms ≡ None
    → find (λ (m : Module). bytes_eq m.name name) (map (module_left p) (filter q ms)) ≡ None
found_none p q name [] none = refl
found_none p q name (m ∷ ms) none = none_if p q name m ms (bytes_eq m.name name) (q m) refl refl none (λ e. found_none p q name ms e)

found_some : (p : Plan) (q : Module → Bool) (name : List ℕ) (ms : List Module) (x : Module) → find (λ (m : Module). bytes_eq m.name name) ms ≡ Some x
    → q x ≡ true → find (λ (m : Module). bytes_eq m.name name) (map (module_left p) (filter q ms)) ≡ Some (module_left p x)
found_some p q name [] x is hit = cc
found_some p q name (m ∷ ms) x is hit =
    some_if p q name m ms x (bytes_eq m.name name) (q m) refl refl is hit (λ e. found_some p q name ms x e hit)

-- what a name stands for in the source that is left
left_none : (p : Plan) (names : List (List ℕ)) (name : List ℕ) → module_of p.source name ≡ None → module_of (left_source p names) name ≡ None
unfolding module_of
left_none p names name none = found_none p (is_named names) name p.source.modules none

left_some : (p : Plan) (names : List (List ℕ)) (name : List ℕ) (m : Module) → module_of p.source name ≡ Some m → is_among m.name names ≡ true
    → module_of (left_source p names) name ≡ Some (module_left p m)
unfolding module_of
left_some p names name m is among = found_some p (is_named names) name p.source.modules m is among

widths_left : (p : Plan) (names : List (List ℕ)) (cell : List ℕ) (conns : List Conn) (m : Option Module) → module_of p.source cell ≡ m
    → ((inner : Module) → m ≡ Some inner → is_among inner.name names ≡ true) → HasWidths m conns → HasWidths (module_of (left_source p names) cell) conns
widths_left p names cell conns None is named w = subst (λ (x : Option Module). HasWidths x conns) (sym (left_none p names cell is)) w
widths_left p names cell conns (Some m) is named w =
    subst (λ (x : Option Module). HasWidths x conns) (sym (left_some p names cell m is (named m refl))) w

-- an item that is left is lawful in the source that is left
item_left : (p : Plan) (names : List (List ℕ)) (count : ℕ) (i : Item)
    → ((r : List ℕ) (inner : Module) → Contains (refs i) r → module_of p.source r ≡ Some inner → is_among inner.name names ≡ true)
    → IsLawfulItem p.source count i → IsLawfulItem (left_source p names) count i
item_left p names count (item.Inst cell name conns) named l = (
  l.0,
  (
    l.1.0,
    widths_left p names cell conns (module_of p.source cell) refl (λ inner is. named cell inner (contains_at (cell ∷ []) 0 cell refl) is) l.1.1,
  ),
)
item_left p names count (item.Prim k name outs ins) named l = l
item_left p names count (item.Copy to from) named l = l

-- the references of an item are among those of its module
refs_in : (items : List Item) (k : ℕ) (i : Item) (r : List ℕ) → slice_get items k ≡ Some i → Contains (refs i) r → Contains (flat_map refs items) r
refs_in [] k i r at has = cc
refs_in (x ∷ xs) zero i r at has =
    let same : x ≡ i = cc in Contains-append_left (refs x) (flat_map refs xs) r (subst (λ y. Contains (refs y) r) (sym same) has)
refs_in (x ∷ xs) (suc k) i r at has = Contains-append_right (refs x) (flat_map refs xs) r (refs_in xs k i r at has)

module_lawful : (p : Plan) (top : Module) (names : List (List ℕ)) → IsLawful p.source → AreNamesBelow p top names → (m : Module)
    → Contains p.source.modules m → is_among m.name names ≡ true → IsLawfulModule p.source m → IsLawfulModule (left_source p names) (module_left p m)
module_lawful p top names lawful below m has among l = record {
  port_names = l.port_names;
  port_bits = l.port_bits;
  one_port = l.one_port;
  items = all_by (IsLawfulItem (left_source p names) (length m.nets)) (module_left p m).items (λ k i at.
      let old = passed (is_left p) m.items i (contains_at (module_left p m).items k i at) in
      item_left p names (length m.nets) i (λ r inner here is.
      let inside = Inside m inner r ((below m has).0 among) (refs_in (module_left p m).items k i r at here) is in
      (below inner (stands p.source r inner is)).1 inside)
      (All-contains (IsLawfulItem p.source (length m.nets)) m.items i l.items old.there));
}

-- what is left of a lawful source is lawful
pub left_lawful : (p : Plan) (top : Module) (names : List (List ℕ)) → IsLawful p.source → AreNamesBelow p top names → IsLawful (left_source p names)
left_lawful p top names lawful below = record {
  names = subst (λ ns. IsDistinct bytes_eq ns) (sym (names_left p (named_modules p.source names)))
      (distinct_filter (is_named names) p.source.modules lawful.names);
  modules = all_by (IsLawfulModule (left_source p names)) (left_source p names).modules (λ k x at.
      let (m, there, same) = mapped_at (module_left p) (named_modules p.source names) k x at in
      let old = passed (is_named names) p.source.modules m (contains_at (named_modules p.source names) k m there) in
      subst (λ y. IsLawfulModule (left_source p names) y) same
      (module_lawful p top names lawful below m old.there old.passes (All-contains (IsLawfulModule p.source) p.source.modules m lawful.modules old.there)));
}
