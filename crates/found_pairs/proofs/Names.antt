-- What the name of a cell names, where it can be written.
use Rattle.std.proofs.Common.{arith, ◌≡◌, ◌∙◌, ◌<◌, ℕ, Bool, true, false, ◌||◌, List, [], ◌∷◌, map, get_or, refl, sym, ap, subst}
use Rattle.std.specs.Prelude.{Some, slice_get}
use Rattle.std.specs.List.{list_all, list_any, IsDistinct}
use Rattle.std.specs.Str.{bytes_eq}
use Rattle.std.proofs.lemmas.Bool.{and_parts}
use Rattle.std.proofs.lemmas.Map.Keys.{apart_from_distinct}
use Rattle.std.proofs.lemmas.Option.{slice_get_within, get_or_from_slice_get}
use Rattle.std.proofs.lemmas.Slice.Eq.{bytes_eq-Decides}
use Rattle.glob.specs.Indexes.{IsExact, IsLook}
use Rattle.glob.specs.Match.{matches_whole}
use Rattle.glob.specs.Plain.{is_wild}
use Rattle.glob.specs.declared.indexes.Look.TheVariants.{At}
use Rattle.glob.proofs.Plain.{matches_itself_alone}
use Rattle.linked_types.specs.declared.names.CellName.{CellName}
use Rattle.linked_types.specs.declared.names.Linked.{Linked}
use Rattle.linked_types.specs.Usable.{IsUsable}
use Rattle.script_types.specs.declared.objects.Class.TheVariants.{Cells}
use Rattle.script_types.specs.declared.objects.Query.{Query}
use Rattle.script_types.specs.declared.objects.Object.TheVariants.{Named}
use Rattle.script_types.specs.declared.scripts.Script.{Script}
use Rattle.sdcv_base.specs.Seqs.{each_at}
use Rattle.sdc_objects.specs.Things.{things_of, first_some, cell_named}
use Rattle.sdc_objects.specs.declared.things.Place.TheVariants.{From, To}
use Rattle.sdc_objects.specs.declared.things.Thing.{Thing}
use Rattle.sdc_objects.specs.declared.things.Thing.TheVariants as thing
use Rattle.sdc_objects.proofs.Looking.{name_at, one_matched}
use Rattle.multicycle_text.specs.Names.{is_name_byte, is_writable}
use Rattle.multicycle_text.proofs.NameBytes.{not_mark, name_of_writable, name_okay}

-- a byte of a name that can be written is no wildcard
not_wild : (b : ℕ) → is_name_byte b ≡ true → is_wild b ≡ false
not_wild b okay = rw (not_mark b 42 refl okay, not_mark b 63 refl okay) refl

-- and so the name has none
no_wild : (name : List ℕ) → list_all is_name_byte name ≡ true → list_any is_wild name ≡ false
no_wild [] okay = refl
no_wild (b ∷ s) okay =
    let (here, more) = and_parts (is_name_byte b) (list_all is_name_byte s) okay in
    rw (not_wild b here, no_wild s more) refl

-- a test or false is the test
or_false : (x : Bool) → (x || false) ≡ x
or_false true = refl
or_false false = refl

-- so it matches itself alone
exact : (name : List ℕ) → is_writable name ≡ true → IsExact name false
exact name can other =
    let plain = no_wild name (name_okay name (name_of_writable name can)) in
    let alone = matches_itself_alone name plain other in
    (λ e. alone.0 (sym (or_false (matches_whole name other)) ∙ e), λ e. or_false (matches_whole name other) ∙ alone.1 e)

-- a list of bytes is equal to itself
same_bytes : (x : List ℕ) → bytes_eq x x ≡ true
same_bytes x = (bytes_eq-Decides x x).1 refl

-- of two places of one name none is before the other
before : (names : List (List ℕ)) (i j : ℕ) (name : List ℕ) → IsDistinct bytes_eq names → slice_get names i ≡ Some name
    → slice_get names j ≡ Some name → ¬ (i < j)
before names i j name differ at there low =
    let apart = apart_from_distinct bytes_eq names i j name differ low (slice_get_within names j name there) in
    let one = get_or_from_slice_get names i name name at in
    let other = get_or_from_slice_get names j name name there in
    let both : bytes_eq name name ≡ false = subst (λ (x : List ℕ). bytes_eq x name ≡ false) one
    (subst (λ (x : List ℕ). bytes_eq (get_or names i name) x ≡ false) other apart) in
    let yes = same_bytes name in
    cc

-- so they are one
one_place : (names : List (List ℕ)) (i j : ℕ) (name : List ℕ) → IsDistinct bytes_eq names → slice_get names i ≡ Some name
    → slice_get names j ≡ Some name → j ≡ i
one_place names i j name differ at there =
    let low = before names i j name differ at there in
    let high = before names j i name differ there at in
    omega arith

-- among names of which no two are equal it tells one place
look : (names : List (List ℕ)) (name : List ℕ) (k : ℕ) → is_writable name ≡ true → IsDistinct bytes_eq names → slice_get names k ≡ Some name
    → IsLook names name false (At k)
look names name k can differ here = (
  (name, here, (exact name can name).1 refl),
  λ j other there match.
      let same : other ≡ name = (exact name can other).0 match in
      one_place names k j name differ here (subst (λ (n : List ℕ). slice_get names j ≡ Some n) same there),
)

-- what `[get_cells {name}]` says
abbrev pub cell_query : List ℕ → Query
cell_query name = record { class = Cells; hier = false; pattern = name }

-- it names one cell
cells_named : (cells : List CellName) (k : ℕ) (c : CellName) → is_writable c.name ≡ true → IsDistinct bytes_eq (map (λ (d : CellName). d.name) cells)
    → slice_get cells k ≡ Some c
    → each_at (cell_named (cell_query c.name)) 0 cells ≡ thing.Cell k ∷ []
cells_named cells k c can differ here =
    one_matched c.name false (λ (d : CellName). d.name) (λ j (d : CellName). thing.Cell j) cells k c here
    (look (map (λ (d : CellName). d.name) cells) c.name k can differ (name_at (λ (d : CellName). d.name) cells k c here))

-- after `-from`
pub from_named : (l : Linked) (script : Script) (k : ℕ) (c : CellName) → IsUsable l → is_writable c.name ≡ true → slice_get l.names.cells k ≡ Some c
    → things_of l script From (Named (cell_query c.name)) ≡ thing.Cell k ∷ []
from_named l script k c usable can here = ap (λ (ts : List Thing). first_some (ts ∷ [])) (cells_named l.names.cells k c can usable.cells_differ here)

-- and after `-to`
pub to_named : (l : Linked) (script : Script) (k : ℕ) (c : CellName) → IsUsable l → is_writable c.name ≡ true → slice_get l.names.cells k ≡ Some c
    → things_of l script To (Named (cell_query c.name)) ≡ thing.Cell k ∷ []
to_named l script k c usable can here = ap (λ (ts : List Thing). first_some (ts ∷ [])) (cells_named l.names.cells k c can usable.cells_differ here)
