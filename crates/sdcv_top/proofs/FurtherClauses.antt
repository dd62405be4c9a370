-- What is known of the clauses of an assisting text over the registers of a design.
use Rattle.std.proofs.Common.{◌≡◌, ℕ, suc, ◌+◌, ◌<◌, ◌≤◌, false, List, [], ◌∷◌, length, map, Option, None, Some, refl, subst, arith, inl, inr}
use Rattle.std.specs.Prelude.{All, count_by, slice_index, ◌==◌}
use Rattle.std.specs.List.Sorted.{IsStrictlyIncreasing}
use Rattle.std.proofs.lemmas.Bool.{cases_lt, ne_eqb}
use Rattle.std.proofs.lemmas.List.Elements.{All-nil, All-cons, All-head, All-tail}
use Rattle.net_model.specs.declared.netlist.Design.{Design}
use Rattle.net_model.specs.declared.invariants.StateLit.{StateLit}
use Rattle.net_model.specs.declared.invariants.InvClause.{InvClause}
use Rattle.net_model.specs.Fits.{NamesRegs}
use Rattle.net_model.specs.Netlist.{IsSound}
use Rattle.linked_types.specs.declared.names.CellName.{CellName}
use Rattle.linked_types.specs.declared.names.Linked.{Linked}
use Rattle.linked_types.specs.Usable.{IsCellOf, IsRegOf, IsUsable, is_reg}
use Rattle.verdict_types.specs.Forms.{AreAscending, IsKeptClause}
use Rattle.assist_types.specs.declared.clauses.AssistClause.{AssistClause}
use Rattle.assist_text.specs.Named.{AreNamed, AreOnce, IsNamed}

-- a register of the design is none beyond
not_beyond : (d : Design) (reg : ℕ) (own : Option ℕ) → length d.regs ≤ reg → IsRegOf d own → (elim own [ None ↦ false | Some q ↦ q == reg ]) ≡ false
not_beyond d reg None high is = refl
not_beyond d reg (Some q) high is = ne_eqb q reg (λ same. omega (arith, high, is, same))

none_beyond : (d : Design) (reg : ℕ) (cells : List CellName) → length d.regs ≤ reg → All (IsCellOf d) cells → count_by (is_reg reg) cells ≡ 0
none_beyond d reg [] high of = refl
none_beyond d reg (c ∷ cells) high of =
    let here : is_reg reg c ≡ false = not_beyond d reg c.reg high (All-head (IsCellOf d) c cells of).reg in
    rw here (none_beyond d reg cells high (All-tail (IsCellOf d) c cells of))

-- each register is that of one cell at most
pub once : (l : Linked) → IsUsable l → AreOnce l.names.cells
once l usable reg = elim (cases_lt reg (length l.design.regs)) [
  | inl low ↦ (let one = usable.each_reg reg low in omega (arith, one))
  | inr high ↦ (let none = none_beyond l.design reg l.names.cells high usable.cells in omega (arith, none))
]

-- numbers that rise do so after the first
rise_after : (x : ℕ) (xs : List ℕ) → IsStrictlyIncreasing (x ∷ xs) → IsStrictlyIncreasing xs
rise_after x xs rise k low =
    let next : suc k + 1 ≡ suc (k + 1) = omega arith in
    let less = rise (suc k) (omega (arith, low)) in
    subst (λ (j : ℕ). slice_index xs k < slice_index (x ∷ xs) j) next less

-- literals whose registers rise ascend
ascends : (lits : List StateLit) → IsStrictlyIncreasing (map (λ (l : StateLit). l.reg) lits) → AreAscending lits
ascends [] rise = tt
ascends (l ∷ []) rise = tt
ascends (l ∷ (m ∷ more)) rise = (rise 0 (omega arith), ascends (m ∷ more) (rise_after l.reg (map (λ (x : StateLit). x.reg) (m ∷ more)) rise))

-- clauses of a text, over registers of a sound design, are in form
kept_form : (d : Design) (c : AssistClause) (cells : List CellName) (clause : InvClause) → IsSound d → IsNamed cells c clause → 0 < length clause.lits
    → NamesRegs d clause → IsKeptClause clause
kept_form d c cells clause sound named some regs =
    record {
      some = some;
      ascend = ascends clause.lits named.ascend;
      small = λ i l within. (let reg = regs i l within in omega (arith, reg, sound.limits.regs));
    }

pub all_in_form : (d : Design) (cells : List CellName) (assist : List AssistClause) (clauses : List InvClause) → IsSound d → AreNamed cells assist clauses
    → All (λ (c : InvClause). 0 < length c.lits) clauses → All (NamesRegs d) clauses → All IsKeptClause clauses
all_in_form d cells [] [] sound are some regs = All-nil IsKeptClause
all_in_form d cells [] (c ∷ clauses) sound are some regs = absurd are
all_in_form d cells (a ∷ assist) [] sound are some regs = absurd are
all_in_form d cells (a ∷ assist) (c ∷ clauses) sound are some regs =
    let more = all_in_form d cells assist clauses sound are.1 (All-tail (λ (c : InvClause). 0 < length c.lits) c clauses some) (All-tail (NamesRegs d) c clauses regs) in
    let here = kept_form d a cells c sound are.0 (All-head (λ (c : InvClause). 0 < length c.lits) c clauses some) (All-head (NamesRegs d) c clauses regs) in
    All-cons IsKeptClause c clauses here more
