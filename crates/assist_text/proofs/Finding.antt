-- Tables of registers, one cell on, and the literals that they give.
use Rattle.std.proofs.Common.{◌≡◌, ℕ, Bool, true, false, List, [], ◌∷◌, ◌++◌, refl, ap, sym, subst, ◌∙◌, inl, inr}
use Rattle.std.specs.Prelude.{Option, None, Some, if◌then◌else◌}
use Rattle.std.specs.Str.{bytes_eq}
use Rattle.std.specs.Map.{lookup}
use Rattle.std.proofs.lemmas.Slice.Eq.{bytes_eq-Decides}
use Rattle.std.proofs.lemmas.List.Elements.{Contains-append_left, Contains-push, Contains-push_cases}
use Rattle.linked_types.specs.declared.names.CellName.{CellName}
use Rattle.assist_text.specs.Registers.{IsRegNamed, IsFound, IsTable}

-- a register that has a name still has it
reg_more : (cells : List CellName) (c : CellName) (name : List ℕ) (reg : ℕ) → IsRegNamed cells name reg → IsRegNamed (cells ++ c ∷ []) name reg
reg_more cells c name reg is = (is.0, Contains-append_left cells (c ∷ []) is.0 is.1, is.2, is.3)

-- none has it where no cell before has it, nor the last one
reg_none : (cells : List CellName) (c : CellName) (name : List ℕ) → ((reg : ℕ) → ¬ IsRegNamed cells name reg) → ((reg : ℕ) → c.name ≡ name → c.reg ≡ Some reg → ⊥)
    → (reg : ℕ) → ¬ IsRegNamed (cells ++ c ∷ []) name reg
reg_none cells c name none other reg is =
    elim (Contains-push_cases cells c is.0 is.1) [
      | inl before ↦ none reg (is.0, before, is.2, is.3)
      | inr last ↦ other reg (ap (λ (x : CellName). x.name) last ∙ is.2) (ap (λ (x : CellName). x.reg) last ∙ is.3)
    ]

-- what was found is found still, where the last cell is none of that name
pub found_still : (cells : List CellName) (c : CellName) (name : List ℕ) (found : Option ℕ) → IsFound cells name found
    → ((reg : ℕ) → c.name ≡ name → c.reg ≡ Some reg → ⊥) → IsFound (cells ++ c ∷ []) name found
found_still cells c name None is other = reg_none cells c name is other
found_still cells c name (Some reg) is other = reg_more cells c name reg is

-- the table's answer after a cell with a register, which stands before what it answered
pub found_new : (cells : List CellName) (c : CellName) (name : List ℕ) (reg : ℕ) (found : Option ℕ) → c.reg ≡ Some reg → IsFound cells name found
    → IsFound (cells ++ c ∷ []) name (if bytes_eq c.name name then Some reg else found)
found_new cells c name reg found has is = go (bytes_eq c.name name) refl
  where
    go : (b : Bool) → bytes_eq c.name name ≡ b → IsFound (cells ++ c ∷ []) name (if b then Some reg else found)
    go true e = (c, Contains-push cells c, (bytes_eq-Decides c.name name).0 e, has)
    go false e = found_still cells c name found is (λ r same here. let bad : false ≡ true = sym e ∙ (bytes_eq-Decides c.name name).1 same in cc)

-- a cell without a register adds nothing
pub table_still : (cells : List CellName) (c : CellName) (table : List (List ℕ × ℕ)) → c.reg ≡ None → IsTable cells table → IsTable (cells ++ c ∷ []) table
table_still cells c table none is =
    λ name. found_still cells c name (lookup (bytes_eq name) table) (is name) (λ reg same here. let bad : None ≡ Some reg = sym none ∙ here in cc)

-- and one with a register adds it
pub table_more : (cells : List CellName) (c : CellName) (reg : ℕ) (old new : List (List ℕ × ℕ)) → c.reg ≡ Some reg → IsTable cells old
    → ((name : List ℕ) → lookup (bytes_eq name) new ≡ (if bytes_eq c.name name then Some reg else lookup (bytes_eq name) old)) → IsTable (cells ++ c ∷ []) new
table_more cells c reg old new has is put =
    λ name. subst (IsFound (cells ++ c ∷ []) name) (sym (put name)) (found_new cells c name reg (lookup (bytes_eq name) old) has (is name))
