-- What was made of a flat netlist, with one item or one instance more.
use Rattle.std.proofs.Common.{◌≡◌, ℕ, ◌+◌, ◌≤◌, true, cond, List, [], ◌∷◌, ◌++◌, map, ap, subst, sym, ◌∙◌, arith}
use Rattle.std.specs.Prelude.{Option, flat_map}
use Rattle.std.specs.List.{AllZip}
use Rattle.std.proofs.lemmas.List.{map-append}
use Rattle.std.proofs.lemmas.List.Concat.{flat_map-append}
use Rattle.std.proofs.lemmas.List.Elements.{All-push}
use Rattle.std.proofs.lemmas.List.Sums.{sum_by_push}
use Rattle.netlist_types.specs.declared.sources.Source.{Source}
use Rattle.netlist_types.specs.declared.sources.Item.{Item}
use Rattle.cell_types.specs.declared.libraries.Library.{Library}
use Rattle.link_defs.specs.declared.circuits.Part.{Part}
use Rattle.link_defs.specs.CellNames.{Leaf, leaves, leaves_of}
use Rattle.link_defs.specs.Faults.{is_counted, is_instance}
use Rattle.link_defs.specs.Flatten.{Scope, Located, Flat, own_nets, with_item, with_scope}
use Rattle.link_defs.specs.Parts.{parts_of, item_parts}
use Rattle.link_items.specs.declared.made.Instance.{Instance}
use Rattle.link_items.specs.declared.made.LeafPlace.{LeafPlace}
use Rattle.link_items.specs.declared.made.Made.{Made}
use Rattle.link_items.specs.Faults.{IsFaultless}
use Rattle.link_items.specs.Items.{scope_of, IsLeafAt, AreLeavesAt}
use Rattle.link_items.proofs.Listing.{kept_at, with_none}
use Rattle.link_circuit.specs.declared.flats.Flattened.{Flattened}
use Rattle.link_circuit.specs.Flats.{IsScope, AreScopes, IsFlattened, AreFine}
use Rattle.link_circuit.specs.Steps.{IsTaken}

leaf_later : (lib : Library) (parts more : List Part) (x : LeafPlace) (l : Leaf) → IsLeafAt lib parts x l → IsLeafAt lib (parts ++ more) x l
leaf_later lib parts more x l at = record { name = at.name; cell = at.cell; part = kept_at parts more x.part l.part at.part }

-- leaves stay while parts are added
leaves_later : (lib : Library) (parts more : List Part) (xs : List LeafPlace) (ls : List Leaf) → AreLeavesAt lib parts xs ls
    → AreLeavesAt lib (parts ++ more) xs ls
leaves_later lib parts more [] [] all = tt
leaves_later lib parts more [] (l ∷ ls) all = absurd all
leaves_later lib parts more (x ∷ xs) [] all = absurd all
leaves_later lib parts more (x ∷ xs) (l ∷ ls) all = (leaf_later lib parts more x l all.0, leaves_later lib parts more xs ls all.1)

zip_append : {X Y : Type 0} (R : X → Y → Type 0) (xs : List X) (ys : List Y) (xs2 : List X) (ys2 : List Y) → AllZip R xs ys → AllZip R xs2 ys2
    → AllZip R (xs ++ xs2) (ys ++ ys2)
zip_append R [] [] xs2 ys2 all more = more
zip_append R [] (y ∷ ys) xs2 ys2 all more = absurd all
zip_append R (x ∷ xs) [] xs2 ys2 all more = absurd all
zip_append R (x ∷ xs) (y ∷ ys) xs2 ys2 all more = (all.0, zip_append R xs ys xs2 ys2 all.1 more)

-- lists joined, with one more behind them
flat_last : {X Y : Type 0} (f : X → List Y) (xs : List X) (x : X) → flat_map f (xs ++ x ∷ []) ≡ flat_map f xs ++ f x
flat_last f xs x = flat_map-append f xs (x ∷ []) ∙ ap (λ ys. flat_map f xs ++ ys) (with_none (f x))

-- leaves of one item more
leaves_more : (s : Source) (lib : Library) (flat : Flat) (at : Located) (parts pieces parts2 : List Part) (old more new : List LeafPlace)
    → AreLeavesAt lib parts old (leaves s lib flat) → parts2 ≡ parts ++ pieces → new ≡ old ++ more → AreLeavesAt lib parts2 more (leaves_of s lib at)
    → AreLeavesAt lib parts2 new (flat_map (leaves_of s lib) (flat.items ++ at ∷ []))
leaves_more s lib flat at parts pieces parts2 old more new before grown added each =
    let stay : AreLeavesAt lib parts2 old (leaves s lib flat) =
    subst (λ (ps : List Part). AreLeavesAt lib ps old (leaves s lib flat)) (sym grown) (leaves_later lib parts pieces old (leaves s lib flat) before) in
    subst (λ (ls : List Leaf). AreLeavesAt lib parts2 new ls) (sym (flat_last (leaves_of s lib) flat.items at))
    (subst (λ (xs : List LeafPlace). AreLeavesAt lib parts2 xs (leaves s lib flat ++ leaves_of s lib at)) (sym added)
    (zip_append (IsLeafAt lib parts2) old (leaves s lib flat) more (leaves_of s lib at) stay each))

-- with one item more
pub item_made : (s : Source) (lib : Library) (scope : Scope) (x : Item) (flat : Flat) (inner : Option Instance) (old new : Flattened)
    → IsFlattened s lib flat old → IsTaken s lib scope x inner old new → IsFlattened s lib (with_item s lib scope x flat) new
item_made s lib scope x flat inner old new is taken =
    let at : Located = record { scope = scope; item = x; first = flat.count } in
    record {
      scopes = ap (λ (gs : List Instance). map (scope_of s) gs) taken.scopes ∙ is.scopes;
      are_scopes = subst (λ (gs : List Instance). AreScopes s gs) (sym taken.scopes) is.are_scopes;
      count = taken.added.count ∙ ap (λ (n : ℕ). n + own_nets s lib x) is.count;
      parts =
          taken.added.parts ∙ ap (λ (ps : List Part). ps ++ item_parts s lib scope.nets old.made.count x) is.parts
          ∙ ap (λ (n : ℕ). flat_map (parts_of s lib) flat.items ++ item_parts s lib scope.nets n x) is.count
          ∙ sym (flat_last (parts_of s lib) flat.items at);
      leaves = leaves_more s lib flat at old.made.parts (item_parts s lib scope.nets old.made.count x) new.made.parts old.made.leaves taken.added.more
          new.made.leaves is.leaves taken.added.parts taken.added.leaves
          (subst (λ (n : ℕ). AreLeavesAt lib new.made.parts taken.added.more (leaves_of s lib (record { scope = scope; item = x; first = n }))) is.count
          taken.added.each);
      instances =
          taken.instances ∙ ap (λ (n : ℕ). n + cond {A = ℕ} (is_instance x) 1 0) is.instances
          ∙ sym (sum_by_push (λ (y : Located). cond {A = ℕ} (is_counted y) 1 0) flat.items at);
    }

-- which is fine
pub item_fine : (s : Source) (lib : Library) (scope : Scope) (x : Item) (flat : Flat) (inner : Option Instance) (old new : Flattened)
    → IsFlattened s lib flat old → AreFine s lib flat → IsTaken s lib scope x inner old new → AreFine s lib (with_item s lib scope x flat)
item_fine s lib scope x flat inner old new is fine taken =
    let made = item_made s lib scope x flat inner old new is taken in
    record {
      items = All-push (λ (at : Located). IsFaultless s lib at.scope at.item) flat.items (record { scope = scope; item = x; first = flat.count }) fine.items
          taken.faultless;
      few = omega (arith, made.instances, taken.few (omega (arith, is.instances, fine.few)));
      low = All-push (λ (at : Located). is_counted at ≡ true → at.scope.depth ≤ 256) flat.items
          (record { scope = scope; item = x; first = flat.count }) fine.low taken.low;
    }

-- with one instance more
pub scope_made : (s : Source) (lib : Library) (flat : Flat) (g : Instance) (old new : Flattened) → IsFlattened s lib flat old → IsScope s g
    → new.scopes ≡ old.scopes ++ g ∷ [] → new.made ≡ old.made → new.instances ≡ old.instances → IsFlattened s lib (with_scope flat (scope_of s g)) new
scope_made s lib flat g old new is here grown same count = record {
  scopes =
      ap (λ (gs : List Instance). map (scope_of s) gs) grown ∙ map-append (scope_of s) old.scopes (g ∷ [])
      ∙ ap (λ (scopes : List Scope). scopes ++ scope_of s g ∷ []) is.scopes;
  are_scopes = subst (λ (gs : List Instance). AreScopes s gs) (sym grown) (All-push (IsScope s) old.scopes g is.are_scopes here);
  count = ap (λ (m : Made). m.count) same ∙ is.count;
  parts = ap (λ (m : Made). m.parts) same ∙ is.parts;
  leaves = subst (λ (m : Made). AreLeavesAt lib m.parts m.leaves (leaves s lib flat)) (sym same) is.leaves;
  instances = count ∙ is.instances;
}
