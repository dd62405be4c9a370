-- Modules by name.
use Rattle.std.proofs.Common.{◌≡◌, ℕ, zero, suc, Bool, true, false, cond, List, [], ◌∷◌, map, Some, refl, ap, sym, ◌∙◌}
use Rattle.std.specs.Prelude.{slice_get, find, Contains}
use Rattle.std.specs.List.{IsDistinct}
use Rattle.std.specs.Str.{bytes_eq}
use Rattle.std.proofs.lemmas.List.Elements.{All-from_recursion}
use Rattle.std.proofs.lemmas.Map.Keys.{IsDistinct-head, IsDistinct-tail}
use Rattle.std.proofs.lemmas.Option.{slice_get-map}
use Rattle.std.proofs.lemmas.Slice.Eq.{bytes_eq-Decides}
use Rattle.netlist_types.specs.declared.sources.Source.{Source}
use Rattle.netlist_types.specs.declared.sources.Module.{Module}
use Rattle.netlist_types.specs.Lawful.{module_of, IsLawful}
use Rattle.link_items.proofs.Listing.{all_at, contains_at}
use Rattle.link_items.proofs.Searching.{place_of_item}

pub bytes_same : (xs ys : List ℕ) → bytes_eq xs ys ≡ true → xs ≡ ys
bytes_same xs ys e = (bytes_eq-Decides xs ys).0 e

pub bytes_self : (xs : List ℕ) → bytes_eq xs xs ≡ true
bytes_self xs = (bytes_eq-Decides xs xs).1 refl

-- what is found stands in the list and passes
pub record Found {X : Type 0} (p : X → Bool) (xs : List X) (x : X) : Type 0 where
  pub place : ℕ
  pub at : slice_get xs place ≡ Some x
  pub passes : p x ≡ true

found_later : {X : Type 0} (p : X → Bool) (y : X) (xs : List X) (x : X) → Found p xs x → Found p (y ∷ xs) x
found_later p y xs x f = record { place = suc f.place; at = f.at; passes = f.passes }

found_if : {X : Type 0} (p : X → Bool) (y : X) (xs : List X) (x : X) (b : Bool) → p y ≡ b → cond b (Some y) (find p xs) ≡ Some x
    → (find p xs ≡ Some x → Found p xs x) → Found p (y ∷ xs) x
found_if p y xs x true hit is later = let same : y ≡ x = cc in record { place = 0; at = ap Some same; passes = ap p (sym same) ∙ hit }
found_if p y xs x false hit is later = found_later p y xs x (later is)

pub found : {X : Type 0} (p : X → Bool) (xs : List X) (x : X) → find p xs ≡ Some x → Found p xs x
found p [] x is = cc
found p (y ∷ ys) x is = found_if p y ys x (p y) refl is (λ e. found p ys x e)

-- the first module of a name
own_in : (ms : List Module) → IsDistinct bytes_eq (map (λ (m : Module). m.name) ms) → (k : ℕ) (m : Module) → slice_get ms k ≡ Some m
    → find (λ (x : Module). bytes_eq x.name m.name) ms ≡ Some m
own_in [] d k m at = cc
own_in (x ∷ xs) d zero m at =
    let same : x ≡ m = cc in rw same (rw (bytes_self m.name) refl)
own_in (x ∷ xs) d (suc k) m at =
    let names = map (λ (y : Module). y.name) xs in
    let apart = All-from_recursion (λ (n : List ℕ). bytes_eq x.name n ≡ false) names (IsDistinct-head bytes_eq x.name names d) in
    let named : slice_get names k ≡ Some m.name = slice_get-map (λ (y : Module). y.name) xs k ∙ rw at refl in
    let miss = all_at (λ (n : List ℕ). bytes_eq x.name n ≡ false) names apart k m.name named in
    rw miss (own_in xs (IsDistinct-tail bytes_eq x.name names d) k m at)

-- a module is the one of its name
pub own_name : (s : Source) (m : Module) → IsLawful s → Contains s.modules m → module_of s m.name ≡ Some m
unfolding module_of
own_name s m lawful has = let (k, at) = place_of_item s.modules m has in own_in s.modules lawful.names k m at

-- the module of a name has it
pub name_of : (s : Source) (n : List ℕ) (m : Module) → module_of s n ≡ Some m → m.name ≡ n
unfolding module_of
name_of s n m is = bytes_same m.name n (found (λ (x : Module). bytes_eq x.name n) s.modules m is).passes

-- and stands in the source
pub stands : (s : Source) (n : List ℕ) (m : Module) → module_of s n ≡ Some m → Contains s.modules m
unfolding module_of
stands s n m is = let f = found (λ (x : Module). bytes_eq x.name n) s.modules m is in contains_at s.modules f.place m f.at
