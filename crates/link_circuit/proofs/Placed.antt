-- The places of modules, and those that a module has instances of.
use Rattle.std.proofs.Common.{◌≡◌, ℕ, ◌+◌, List, [], ◌∷◌, ◌++◌, take, map, Some, refl, ap, sym, ◌∙◌}
use Rattle.std.specs.Prelude.{slice_get, flat_map}
use Rattle.std.specs.List.{position_or_len}
use Rattle.std.specs.Str.{bytes_eq}
use Rattle.std.proofs.lemmas.List.{map-append}
use Rattle.texts.specs.Names.{place_of}
use Rattle.netlist_types.specs.declared.sources.Source.{Source}
use Rattle.netlist_types.specs.declared.sources.Module.{Module}
use Rattle.netlist_types.specs.declared.sources.Item.{Item}
use Rattle.link_defs.specs.Hierarchy.{refs, place_of_module}
use Rattle.link_items.specs.Tables.{module_names}
use Rattle.link_items.proofs.Listing.{flat_next}
use Rattle.link_items.proofs.Searching.{eq_flips}

position_by : {X : Type 0} (f : X → List ℕ) (n : List ℕ) (xs : List X) → position_or_len (λ x. bytes_eq (f x) n) xs ≡ place_of n (map f xs)
position_by f n [] = refl
position_by f n (x ∷ xs) = rw (eq_flips (f x) n, position_by f n xs) refl

-- the place of a name in the table is that of its module
pub placed : (s : Source) (name : List ℕ) (names : List (List ℕ)) (place : ℕ) → names ≡ module_names s → place ≡ place_of name names
    → place ≡ place_of_module s name
placed s name names place are at =
    at ∙ ap (λ ns. place_of name ns) are ∙ sym (position_by (λ (m : Module). m.name) name s.modules)

-- the places of one item more
pub needs_more : (s : Source) (items : List Item) (k : ℕ) (x : Item) → slice_get items k ≡ Some x
    → map (place_of_module s) (flat_map refs (take (k + 1) items)) ≡ map (place_of_module s) (flat_map refs (take k items)) ++ map (place_of_module s) (refs x)
needs_more s items k x at =
    ap (λ rs. map (place_of_module s) rs) (flat_next refs items k x at)
    ∙ map-append (place_of_module s) (flat_map refs (take k items)) (refs x)
