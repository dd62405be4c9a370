-- The places of the cells of registers.
use Rattle.std.proofs.Common.{arith, ◌≡◌, ◌∙◌, ◌≢◌, ℕ, suc, ◌+◌, ◌<◌, ◌≤◌, Bool, true, false, List, ◌∷◌, length, drop, get_or, sym, ap, inl, inr, drop-cons}
use Rattle.std.specs.Prelude.{Option, None, Some, slice_get, slice_index_or, slice_set, ◌==◌}
use Rattle.std.proofs.lemmas.Bool.Decides.{nat_tests}
use Rattle.std.proofs.lemmas.Option.{slice_get_within, get_or_from_slice_get}
use Rattle.std.proofs.lemmas.List.{get_or-set_same, get_or-set_other, length-set}
use Rattle.linked_types.specs.declared.names.CellName.{CellName}
use Rattle.linked_types.specs.Usable.{is_reg}
use Rattle.exception_expand.specs.Naming.{reg_name, cell_name, name_of, AreCellsFrom}
use Rattle.exception_expand.proofs.Placing.{same_or}

drop_next : {A : Type 0} (xs : List A) (i : ℕ) (x : A) → slice_get xs i ≡ Some x → drop i xs ≡ x ∷ drop (i + 1) xs
drop_next xs i x here =
    let one : suc i ≡ i + 1 = omega arith in
    drop-cons xs i x (slice_get_within xs i x here) ∙ ap (λ (n : ℕ). get_or xs i x ∷ drop n xs) one
    ∙ ap (λ y. y ∷ drop (i + 1) xs) (get_or_from_slice_get xs i x x here)

abbrev by_test : CellName → List ℕ → Bool → List ℕ
by_test c later b = elim b as (λ t. List ℕ) [ true ↦ c.name | false ↦ later ]

name_yes : (c : CellName) (cs : List CellName) (r : ℕ) → is_reg r c ≡ true → reg_name (c ∷ cs) r ≡ c.name
name_yes c cs r is = ap (by_test c (reg_name cs r)) is

name_no : (c : CellName) (cs : List CellName) (r : ℕ) → is_reg r c ≡ false → reg_name (c ∷ cs) r ≡ reg_name cs r
name_no c cs r is = ap (by_test c (reg_name cs r)) is

abbrev test_of : ℕ → Option ℕ → Bool
test_of r reg = elim reg as (λ o. Bool) [ None ↦ false | Some q ↦ q == r ]

reg_is : (r : ℕ) (c : CellName) (reg : Option ℕ) → c.reg ≡ reg → is_reg r c ≡ test_of r reg
reg_is r c reg is = ap (test_of r) is

-- a cell before them that has none of the registers
pub cell_left : (cells : List CellName) (k regs : ℕ) (c : CellName) (row : List (Option ℕ)) → slice_get cells k ≡ Some c
    → ((r : ℕ) → r < regs → is_reg r c ≡ false) → AreCellsFrom cells (k + 1) regs row → AreCellsFrom cells k regs row
cell_left cells k regs c row here none are = record {
  len = are.len;
  cell = λ r low. are.cell r low ∙ sym (name_no c (drop (k + 1) cells) r (none r low)) ∙ sym
      (ap (λ (cs : List CellName). reg_name cs r) (drop_next cells k c here));
}

-- a cell before them that has one
pub cell_put : (cells : List CellName) (k regs reg : ℕ) (c : CellName) (row : List (Option ℕ)) → slice_get cells k ≡ Some c → c.reg ≡ Some reg → reg < regs
    → AreCellsFrom cells (k + 1) regs row → AreCellsFrom cells k regs (slice_set row reg (Some k))
cell_put cells k regs reg c row here is low are = record {
  len = length-set row reg (Some k) ∙ are.len;
  cell = λ r within.
      let whole : reg_name (drop k cells) r ≡ reg_name (c ∷ drop (k + 1) cells) r = ap (λ (cs : List CellName). reg_name cs r) (drop_next cells k c here) in
      elim (same_or r reg) [
        | inl e ↦
            let long : reg < length row = omega (arith, are.len, low) in
            let now : slice_index_or (slice_set row reg (Some k)) r None ≡ Some k =
            ap (λ (n : ℕ). slice_index_or (slice_set row reg (Some k)) n None) e ∙ get_or-set_same row reg (Some k) None long in
            let same : reg ≡ r = sym e in
            let is_it : (reg == r) ≡ true = grind (arith, nat_tests) in
            ap (name_of cells) now ∙ ap cell_name here ∙ sym (name_yes c (drop (k + 1) cells) r (reg_is r c (Some reg) is ∙ is_it)) ∙ sym whole
        | inr n ↦
            let other : reg ≢ r = λ e. n (sym e) in
            let is_not : (reg == r) ≡ false = grind (arith, nat_tests) in
            ap (name_of cells) (get_or-set_other row reg r (Some k) None n) ∙ are.cell r within
            ∙ sym (name_no c (drop (k + 1) cells) r (reg_is r c (Some reg) is ∙ is_not)) ∙ sym whole
      ];
}

-- it has none, or one that is none of these
pub no_reg : (regs : ℕ) (c : CellName) → c.reg ≡ None → (r : ℕ) → r < regs → is_reg r c ≡ false
no_reg regs c none r low = reg_is r c None none

pub far_reg : (regs reg : ℕ) (c : CellName) → c.reg ≡ Some reg → regs ≤ reg → (r : ℕ) → r < regs → is_reg r c ≡ false
far_reg regs reg c is far r low =
    let other : reg ≢ r = omega (arith, far, low) in
    let is_not : (reg == r) ≡ false = grind (arith, nat_tests) in
    reg_is r c (Some reg) is ∙ is_not
