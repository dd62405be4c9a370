-- The places of registers' cells, from the last cell to the first.
use Rattle.std.proofs.Common.{◌≡◌, ◌≢◌, ◌∙◌, ℕ, zero, suc, ◌+◌, ◌-◌, ◌<◌, ◌≤◌, Bool, true, false, List, [], ◌∷◌, drop, set, length, Option, Some, None, refl, ap, sym, subst, arith, inl, inr}
use Rattle.std.proofs.Common.{get_or, get_or-set_other, get_or-set_same}
use Rattle.std.specs.Prelude.{◌==◌, if◌then◌else◌, find, slice_get, slice_index_or}
use Rattle.std.proofs.lemmas.Bool.{cases_eq, eq-eqb, ne_eqb}
use Rattle.std.proofs.lemmas.List.{at_drop_more}
use Rattle.std.proofs.lemmas.Option.{slice_get_within, get_or_from_slice_get}
use Rattle.linked_types.specs.Usable.{is_reg}
use Rattle.linked_types.specs.declared.names.CellName.{CellName}
use Rattle.monitor_symbols.specs.Latches.{name_of, reg_name, ArePlacesOf}

-- which register a cell has
reg_is : (cell : CellName) (reg r : ℕ) → cell.reg ≡ Some reg → is_reg r cell ≡ (reg == r)
reg_is cell reg r has = ap (λ (o : Option ℕ). elim o [ None ↦ false | Some q ↦ q == r ]) has

reg_none : (cell : CellName) (r : ℕ) → cell.reg ≡ None → is_reg r cell ≡ false
reg_none cell r has = ap (λ (o : Option ℕ). elim o [ None ↦ false | Some q ↦ q == r ]) has

-- a cell without a register changes no place
pub put_none : (places : List ℕ) (place : ℕ) (cell : CellName) → cell.reg ≡ None → (r none : ℕ)
    → slice_index_or places r none ≡ (if is_reg r cell then place else slice_index_or places r none)
put_none places place cell has r none = ap (λ (b : Bool). if b then place else slice_index_or places r none) (sym (reg_none cell r has))

-- nor does one whose register has no place
pub put_past : (places : List ℕ) (place reg : ℕ) (cell : CellName) → cell.reg ≡ Some reg → length places ≤ reg → (r none : ℕ) → r < length places
    → slice_index_or places r none ≡ (if is_reg r cell then place else slice_index_or places r none)
put_past places place reg cell has past r none low =
    let apart : reg ≢ r = λ e. absurd (omega (arith, e, past, low)) in
    ap (λ (b : Bool). if b then place else slice_index_or places r none) (sym (reg_is cell reg r has ∙ ne_eqb reg r apart))

-- any other one has its place
pub put_each : (places : List ℕ) (place reg : ℕ) (cell : CellName) → cell.reg ≡ Some reg → reg < length places → (r none : ℕ)
    → slice_index_or (set places reg place) r none ≡ (if is_reg r cell then place else slice_index_or places r none)
put_each places place reg cell has low r none =
    let old : ℕ = slice_index_or places r none in
    elim (cases_eq r reg) [
      | inl same ↦
          let hit : is_reg r cell ≡ true = reg_is cell reg r has ∙ eq-eqb reg r (sym same) in
          let now : slice_index_or (set places reg place) r none ≡ place =
          subst (λ (m : ℕ). slice_index_or (set places reg place) m none ≡ place) (sym same) (get_or-set_same places reg place none low) in
          now ∙ ap (λ (b : Bool). if b then place else old) (sym hit)
      | inr apart ↦
          let miss : is_reg r cell ≡ false = reg_is cell reg r has ∙ ne_eqb reg r (λ e. apart (sym e)) in
          get_or-set_other places reg r place none apart ∙ ap (λ (b : Bool). if b then place else old) (sym miss)
    ]

-- what stands at one of two places, chosen by a test
chosen : {X : Type 0} (get : ℕ → Option X) (here there : ℕ) (x : X) (rest : Option X) → get here ≡ Some x → get there ≡ rest → (b : Bool)
    → get (if b then here else there) ≡ (if b then Some x else rest)
chosen get here there x rest at kept true = at
chosen get here there x rest at kept false = kept

-- the first cell of a register, from a place on
from_place : (cells : List CellName) (k : ℕ) (cell : CellName) (r : ℕ) → slice_get cells k ≡ Some cell
    → find (is_reg r) (drop k cells) ≡ (if is_reg r cell then Some cell else find (is_reg r) (drop (k + 1) cells))
from_place cells k cell r at =
    at_drop_more (λ (cs : List CellName). find (is_reg r) cs) cells k cell (slice_get_within cells k cell at)
    ∙ ap (λ (c : CellName). if is_reg r c then Some c else find (is_reg r) (drop (k + 1) cells)) (get_or_from_slice_get cells k cell cell at)

-- one more cell, going back
pub places_back : (cells : List CellName) (old new : List ℕ) (count total j none : ℕ) (cell : CellName) → j < total
    → slice_get cells (total - 1 - j) ≡ Some cell → length old ≡ count
    → ((r : ℕ) → r < length old → slice_index_or new r none ≡ (if is_reg r cell then total - 1 - j else slice_index_or old r none))
    → ((r : ℕ) → r < count → slice_get cells (slice_index_or old r none) ≡ find (is_reg r) (drop (total - j) cells))
    → (r : ℕ) → r < count → slice_get cells (slice_index_or new r none) ≡ find (is_reg r) (drop (total - (j + 1)) cells)
places_back cells old new count total j none cell lt at len put done r low =
    let k = total - 1 - j in
    let up : total - j ≡ k + 1 = omega arith in
    let down : total - (j + 1) ≡ k = omega arith in
    let rest : Option CellName = find (is_reg r) (drop (k + 1) cells) in
    let before : ℕ = slice_index_or old r none in
    let within : r < length old = omega (arith, len, low) in
    let here : find (is_reg r) (drop (total - (j + 1)) cells) ≡ (if is_reg r cell then Some cell else rest) =
    ap (λ (m : ℕ). find (is_reg r) (drop m cells)) down ∙ from_place cells k cell r at in
    let kept : slice_get cells before ≡ rest = done r low ∙ ap (λ (m : ℕ). find (is_reg r) (drop m cells)) up in
    ap (slice_get cells) (put r within) ∙ chosen (slice_get cells) k before cell rest at kept (is_reg r cell) ∙ sym here

-- no register has its cell behind the last one
past_end : {A : Type 0} (xs : List A) → slice_get xs (length xs) ≡ None
past_end [] = refl
past_end (x ∷ xs) = past_end xs

nothing_left : {A : Type 0} (xs : List A) → drop (length xs) xs ≡ []
nothing_left [] = refl
nothing_left (x ∷ xs) = nothing_left xs

pub none_placed : (cells : List CellName) (places : List ℕ) → ((place : ℕ) → slice_index_or places place (length cells) ≡ length cells)
    → (r : ℕ) → slice_get cells (slice_index_or places r (length cells)) ≡ find (is_reg r) (drop (length cells - 0) cells)
none_placed cells places each r =
    let all : length cells - 0 ≡ length cells = omega arith in
    let nobody : find (is_reg r) (drop (length cells - 0) cells) ≡ None =
    ap (λ (m : ℕ). find (is_reg r) (drop m cells)) all ∙ ap (find (is_reg r)) (nothing_left cells) in
    ap (slice_get cells) (each r) ∙ past_end cells ∙ sym nobody

-- what is read at a place stands there
pub stands : {A : Type 0} (xs : List A) (k : ℕ) (x : A) → k < length xs → x ≡ get_or xs k x → slice_get xs k ≡ Some x
stands [] k x low is = absurd (omega (arith, low))
stands (y ∷ ys) zero x low is = ap Some (sym is)
stands (y ∷ ys) (suc k) x low is = stands ys k x (omega (arith, low)) is

-- the name of the cell at a register's place is the register's
pub is_named : (cells : List CellName) (places : List ℕ) (count r place : ℕ) → ArePlacesOf cells count places → r < count
    → slice_get places r ≡ Some place → name_of (slice_get cells place) ≡ reg_name cells r
is_named cells places count r place good low at =
    ap (λ (p : ℕ). name_of (slice_get cells p)) (sym (get_or_from_slice_get places r place (length cells) at)) ∙ ap name_of (good.each r low)
