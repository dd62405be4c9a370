-- Tables of names that differ, and look-ups in them.
use Rattle.std.proofs.Common.{◌≡◌, ℕ, ◌<◌, ◌≤◌, true, false, List, [], ◌∷◌, length, map, Some, None, refl, ap, sym, ◌∙◌, arith, get_or}
use Rattle.std.specs.Prelude.{slice_get, find}
use Rattle.std.specs.List.{position_or_len, IsDistinct}
use Rattle.std.specs.Str.{bytes_eq}
use Rattle.std.proofs.lemmas.List.{length-map}
use Rattle.std.proofs.lemmas.List.Elements.{All-from_recursion}
use Rattle.std.proofs.lemmas.List.Folds.{find_at, list_any_none}
use Rattle.std.proofs.lemmas.Map.Keys.{IsDistinct-head, IsDistinct-tail}
use Rattle.std.proofs.lemmas.Option.{slice_get_past, slice_get-get_or}
use Rattle.texts.specs.Names.{is_among, place_of, are_distinct, with_names}
use Rattle.texts.proofs.NameLemmas.{with_names_new, are_new_none, is_among-with_names}
use Rattle.netlist_types.specs.declared.sources.Source.{Source}
use Rattle.netlist_types.specs.declared.sources.Module.{Module}
use Rattle.netlist_types.specs.Lawful.{module_of}
use Rattle.cell_types.specs.declared.libraries.Library.{Library}
use Rattle.cell_types.specs.declared.libraries.Cell.{Cell}
use Rattle.netlist_types.specs.declared.sources.Conn.{Conn}
use Rattle.link_defs.specs.Hierarchy.{cell_of, wires_of, wires_in}
use Rattle.link_items.specs.declared.netlists.Referent.TheVariants as to
use Rattle.link_items.specs.Pins.{pin_names}
use Rattle.link_items.specs.Tables.{module_names, cell_names, IsReferent}
use Rattle.link_items.proofs.Searching.{eq_flips}

distinct_are : (xs : List (List ℕ)) → IsDistinct bytes_eq xs → are_distinct xs ≡ true
unfolding are_distinct
distinct_are [] d = refl
distinct_are (x ∷ xs) d =
    let absent = list_any_none (bytes_eq x) xs (All-from_recursion (λ (y : List ℕ). bytes_eq x y ≡ false) xs (IsDistinct-head bytes_eq x xs d)) in
    rw (absent, distinct_are xs (IsDistinct-tail bytes_eq x xs d)) refl

-- a table of names that differ has them all in their order
pub table_all : (xs : List (List ℕ)) → IsDistinct bytes_eq xs → with_names [] xs ≡ xs
table_all xs d = with_names_new [] xs (are_new_none xs ∙ distinct_are xs d)

-- an item stands at each place of a list
pub some_at : {X : Type 0} (xs : List X) (k : ℕ) → k < length xs → (x : X) × (slice_get xs k ≡ Some x)
some_at [] k lt = absurd (omega arith)
some_at (x ∷ xs) k lt = (get_or (x ∷ xs) k x, slice_get-get_or (x ∷ xs) k x lt)

position_by : {X : Type 0} (f : X → List ℕ) (n : List ℕ) (xs : List X) → position_or_len (λ x. bytes_eq (f x) n) xs ≡ place_of n (map f xs)
position_by f n [] = refl
position_by f n (x ∷ xs) = rw (eq_flips (f x) n, position_by f n xs) refl

-- the item of a name stands at the name's place
find_place : {X : Type 0} (f : X → List ℕ) (n : List ℕ) (xs : List X) → find (λ x. bytes_eq (f x) n) xs ≡ slice_get xs (place_of n (map f xs))
find_place f n xs = find_at (λ x. bytes_eq (f x) n) xs ∙ ap (λ k. slice_get xs k) (position_by f n xs)

-- the wires of a pin are those of the connection at its place
pub wires_at : (conns : List Conn) (pin : List ℕ) → wires_of conns pin ≡ wires_in (slice_get conns (place_of pin (pin_names conns)))
unfolding wires_of
wires_at conns pin = ap wires_in (find_place (λ (c : Conn). c.pin) pin conns)

-- a table of names has the names that were added to none
pub is_among-table : (pin : List ℕ) (names more : List (List ℕ)) → names ≡ with_names [] more → is_among pin names ≡ is_among pin more
is_among-table pin names more made = ap (λ (ns : List (List ℕ)). is_among pin ns) made ∙ is_among-with_names pin [] more

-- the module at the place of a name
pub module_found : (s : Source) (lib : Library) (name : List ℕ) (names : List (List ℕ)) (place : ℕ) → names ≡ module_names s → place ≡ place_of name names
    → place < length names → IsReferent s lib name (to.Module place)
unfolding module_of
module_found s lib name names place names_are at below =
    let len : length names ≡ length s.modules = ap length names_are ∙ length-map s.modules (λ (m : Module). m.name) in
    let (m, here) = some_at s.modules place (omega (arith, below, len)) in (
      m,
      here,
      find_place (λ (m : Module). m.name) name s.modules
          ∙ ap (λ k. slice_get s.modules k) (sym (at ∙ ap (λ ns. place_of name ns) names_are)) ∙ here,
      at ∙ ap (λ ns. place_of name ns) names_are ∙ sym (position_by (λ (m : Module). m.name) name s.modules),
    )

-- no module has a name without a place
pub module_none : (s : Source) (name : List ℕ) (names : List (List ℕ)) (place : ℕ) → names ≡ module_names s → place ≡ place_of name names
    → length names ≤ place → module_of s name ≡ None
unfolding module_of
module_none s name names place names_are at past =
    let len : length names ≡ length s.modules = ap length names_are ∙ length-map s.modules (λ (m : Module). m.name) in
    find_place (λ (m : Module). m.name) name s.modules ∙ ap (λ k. slice_get s.modules k) (sym (at ∙ ap (λ ns. place_of name ns) names_are))
    ∙ slice_get_past s.modules place (omega (arith, past, len))

-- the cell at the place of a name, where no module has it
pub cell_found : (s : Source) (lib : Library) (name : List ℕ) (names : List (List ℕ)) (place : ℕ) → module_of s name ≡ None → names ≡ cell_names lib
    → place ≡ place_of name names → place < length names → IsReferent s lib name (to.Cell place)
unfolding cell_of
cell_found s lib name names place none names_are at below =
    let len : length names ≡ length lib.cells = ap length names_are ∙ length-map lib.cells (λ (c : Cell). c.name) in
    let (c, here) = some_at lib.cells place (omega (arith, below, len)) in (
      none,
      (
        c,
        here,
        find_place (λ (c : Cell). c.name) name lib.cells
            ∙ ap (λ k. slice_get lib.cells k) (sym (at ∙ ap (λ ns. place_of name ns) names_are)) ∙ here,
      ),
    )

-- no cell has a name without a place
pub cell_none : (lib : Library) (name : List ℕ) (names : List (List ℕ)) (place : ℕ) → names ≡ cell_names lib → place ≡ place_of name names
    → length names ≤ place → cell_of lib name ≡ None
unfolding cell_of
cell_none lib name names place names_are at past =
    let len : length names ≡ length lib.cells = ap length names_are ∙ length-map lib.cells (λ (c : Cell). c.name) in
    find_place (λ (c : Cell). c.name) name lib.cells ∙ ap (λ k. slice_get lib.cells k) (sym (at ∙ ap (λ ns. place_of name ns) names_are))
    ∙ slice_get_past lib.cells place (omega (arith, past, len))
