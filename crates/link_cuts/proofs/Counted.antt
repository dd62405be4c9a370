-- How many cells are of each reference, cell by cell.
use Rattle.std.proofs.Common.{◌≡◌, ℕ, ◌+◌, ◌<◌, ◌≤◌, Bool, true, false, cond, eqb, List, [], ◌∷◌, ◌++◌, length, take, map, refl, ap, sym, ◌∙◌, subst, arith}
use Rattle.std.proofs.Common.{inl, inr, get_or, replicate, Some}
use Rattle.std.specs.Prelude.{slice_get}
use Rattle.std.specs.List.{IsDistinct}
use Rattle.std.specs.Str.{bytes_eq}
use Rattle.std.proofs.Math.ListN.{set}
use Rattle.std.proofs.lemmas.Bool.{cases_eq, eq-eqb, ne_eqb}
use Rattle.std.proofs.lemmas.List.{ext_get_or, map_more, get_or-map, get_or-set_same, get_or-set_other}
use Rattle.std.proofs.lemmas.List.{length-map, length-set, length-take-le, take_all}
use Rattle.std.proofs.lemmas.List.Sums.{sum_by_more, count_by-le-length}
use Rattle.std.proofs.lemmas.Option.{slice_get_within, get_or_from_slice_get}
use Rattle.texts.specs.Names.{each_once, place_of, with_name}
use Rattle.texts.proofs.NameLemmas.{with_names-push}
use Rattle.linked_types.specs.declared.names.CutName.{CutName}
use Rattle.link_defs.specs.declared.cuts.CutCell.{CutCell}
use Rattle.link_items.proofs.Listing.{map_next}
use Rattle.link_items.proofs.Searching.{eq_flips}
use Rattle.link_cuts.specs.References.{count_of, counts_of, named_by, references_of}
use Rattle.link_cuts.proofs.Grouped.{own_place}

-- the counts are those of these cells
pub record AreCounts (cells : List CutCell) (names : List (List ℕ)) (counts : List ℕ) : Type 0 where
  pub len : length counts ≡ length names
  pub each : (place : ℕ) → place < length names → get_or counts place 0 ≡ count_of cells (get_or names place [])

pub counts_none : (names : List (List ℕ)) (counts : List ℕ) → length counts ≡ length names → ((place : ℕ) → get_or counts place 0 ≡ 0)
    → AreCounts [] names counts
counts_none names counts len zeros = record { len = len; each = λ place lt. zeros place }

-- a count with the next cell
count_next : (cells : List CutCell) (k : ℕ) (x : CutCell) (names : List (List ℕ)) (place : ℕ) → slice_get cells k ≡ Some x → IsDistinct bytes_eq names
    → place < length names → count_of (take (k + 1) cells) (get_or names place [])
    ≡ count_of (take k cells) (get_or names place []) + cond (eqb (place_of x.cell names) place) 1 0
count_next cells k x names place at apart within =
    let name : List ℕ = get_or names place [] in
    let f : CutCell → ℕ = λ y. cond (bytes_eq name y.cell) 1 0 in
    let test : bytes_eq name x.cell ≡ eqb (place_of x.cell names) place = eq_flips name x.cell ∙ own_place names x.cell place apart within in
    sum_by_more f cells k x (slice_get_within cells k x at)
    ∙ ap (λ (y : CutCell). count_of (take k cells) name + cond (bytes_eq name y.cell) 1 0) (get_or_from_slice_get cells k x x at)
    ∙ ap (λ (b : Bool). count_of (take k cells) name + cond b 1 0) test

-- a cell more, of one of the references
pub counts_more : (cells : List CutCell) (k : ℕ) (x : CutCell) (names : List (List ℕ)) (counts : List ℕ) → slice_get cells k ≡ Some x
    → IsDistinct bytes_eq names → place_of x.cell names < length counts → AreCounts (take k cells) names counts
    → AreCounts (take (k + 1) cells) names (set counts (place_of x.cell names) (get_or counts (place_of x.cell names) 0 + 1))
counts_more cells k x names counts at apart within to =
    let own : ℕ = place_of x.cell names in
    record {
      len = length-set counts own (get_or counts own 0 + 1) ∙ to.len;
      each = λ place lt.
          let next = count_next cells k x names place at apart lt in
          elim (cases_eq place own) [
            | inl same ↦
                let hit : ◌≡◌ {A = ℕ} (cond (eqb own place) 1 0) 1 = ap (λ (b : Bool). cond b 1 0) (eq-eqb own place (sym same)) in
                let new : get_or (set counts own (get_or counts own 0 + 1)) place 0 ≡ get_or counts place 0 + 1 =
                ap (λ (j : ℕ). get_or (set counts own (get_or counts own 0 + 1)) j 0) same
                ∙ get_or-set_same counts own (get_or counts own 0 + 1) 0 within ∙ ap (λ (j : ℕ). get_or counts j 0 + 1) (sym same) in
                omega (arith, new, hit, next, to.each place lt)
            | inr other ↦
                let miss : ◌≡◌ {A = ℕ} (cond (eqb own place) 1 0) 0 = ap (λ (b : Bool). cond b 1 0) (ne_eqb own place (λ e. other (sym e))) in
                let new : get_or (set counts own (get_or counts own 0 + 1)) place 0 ≡ get_or counts place 0 =
                get_or-set_other counts own place (get_or counts own 0 + 1) 0 other in
                omega (arith, new, miss, next, to.each place lt)
          ];
    }

pub counts_put : (cells : List CutCell) (k : ℕ) (x : CutCell) (names : List (List ℕ)) (counts : List ℕ) (own count : ℕ) → slice_get cells k ≡ Some x
    → IsDistinct bytes_eq names → own ≡ place_of x.cell names → slice_get counts own ≡ Some count → AreCounts (take k cells) names counts
    → AreCounts (take (k + 1) cells) names (set counts own (count + 1))
counts_put cells k x names counts own count at apart own_is at_count to =
    let within : place_of x.cell names < length counts = subst (λ (j : ℕ). j < length counts) own_is (slice_get_within counts own count at_count) in
    subst (λ (m : ℕ). AreCounts (take (k + 1) cells) names (set counts own (m + 1))) (get_or_from_slice_get counts own count 0 at_count)
    (subst (λ (j : ℕ). AreCounts (take (k + 1) cells) names (set counts j (get_or counts j 0 + 1))) (sym own_is)
    (counts_more cells k x names counts at apart within to))

-- a cell more, of none of them
pub counts_same : (cells : List CutCell) (k : ℕ) (x : CutCell) (names : List (List ℕ)) (counts : List ℕ) → slice_get cells k ≡ Some x
    → IsDistinct bytes_eq names → length counts ≤ place_of x.cell names → AreCounts (take k cells) names counts → AreCounts (take (k + 1) cells) names counts
counts_same cells k x names counts at apart past to = record {
  len = to.len;
  each = λ place lt.
      let own : ℕ = place_of x.cell names in
      let next = count_next cells k x names place at apart lt in
      let miss : ◌≡◌ {A = ℕ} (cond (eqb own place) 1 0) 0 = ap (λ (b : Bool). cond b 1 0) (ne_eqb own place (λ e. omega (arith, e, past, lt, to.len))) in
      omega (arith, miss, next, to.each place lt);
}

-- a count is at most the number of cells
pub count_fits : (cells : List CutCell) (k : ℕ) (names : List (List ℕ)) (counts : List ℕ) (place : ℕ) → k < length cells → place < length counts
    → AreCounts (take k cells) names counts → get_or counts place 0 ≤ k
count_fits cells k names counts place lt within to =
    let name : List ℕ = get_or names place [] in
    let most = count_by-le-length (λ (x : CutCell). bytes_eq name x.cell) (take k cells) in
    omega (arith, most, length-take-le k cells (omega arith), to.each place (omega (arith, within, to.len)))

pub counts_all : (cells : List CutCell) (k : ℕ) (names : List (List ℕ)) (counts : List ℕ) → length cells ≤ k → AreCounts (take k cells) names counts
    → counts ≡ counts_of cells names
counts_all cells k names counts all to =
    let whole : take k cells ≡ cells = take_all k cells all in
    ext_get_or 0 counts (counts_of cells names) (to.len ∙ sym (length-map names (count_of cells))) (λ place lt.
    let within : place < length names = omega (arith, lt, to.len) in
    to.each place within ∙ ap (λ (xs : List CutCell). count_of xs (get_or names place [])) whole
    ∙ sym (get_or-map (count_of cells) names place [] 0 within))

-- a reference more with its count
pub named_next : (count : List ℕ → ℕ) (names : List (List ℕ)) (counts : List ℕ) (k : ℕ) (name : List ℕ) (m : ℕ) → k < length names
    → name ≡ get_or names k name → slice_get counts k ≡ Some m → counts ≡ map count names
    → map (named_by count) (take (k + 1) names)
    ≡ map (named_by count) (take k names) ++ (record { cell = name; count = m; «open» = false }) ∷ []
named_next count names counts k name m lt is at counts_are =
    let value : m ≡ count name =
    sym (get_or_from_slice_get counts k m 0 at) ∙ ap (λ (ms : List ℕ). get_or ms k 0) counts_are ∙ get_or-map count names k name 0 lt ∙ ap count (sym is) in
    map_more (named_by count) names k name lt
    ∙ ap (λ (n : List ℕ). map (named_by count) (take k names) ++ named_by count n ∷ []) (sym is)
    ∙ ap (λ (n : ℕ). map (named_by count) (take k names) ++ (let q : CutName = record { cell = name; count = n; «open» = false } in q) ∷ []) (sym value)

-- the references, each once, with one more
pub references_next : (cells : List CutCell) (k : ℕ) (x : CutCell) → slice_get cells k ≡ Some x
    → references_of (take (k + 1) cells) ≡ with_name (references_of (take k cells)) x.cell
references_next cells k x at =
    ap each_once (map_next (λ (y : CutCell). y.cell) cells k x at) ∙ with_names-push [] (map (λ (y : CutCell). y.cell) (take k cells)) x.cell

pub references_all : (cells : List CutCell) (k : ℕ) → length cells ≤ k → references_of (take k cells) ≡ references_of cells
references_all cells k all = ap (λ (xs : List CutCell). references_of xs) (take_all k cells all)
