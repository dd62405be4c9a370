-- The cells of registers, and the pairs of them that `[all_registers]` selects.
use Rattle.std.proofs.Common.{arith, ◌≡◌, ◌∙◌, ℕ, zero, suc, ◌+◌, ◌<◌, Bool, true, false, List, [], ◌∷◌, length, refl, sym, ap, subst, inl, inr}
use Rattle.std.specs.Prelude.{Option, Some, None, slice_get, ◌==◌}
use Rattle.std.proofs.lemmas.Bool.{cases_Bool}
use Rattle.std.proofs.lemmas.Bool.Decides.{nat_tests}
use Rattle.std.proofs.lemmas.Option.{same_Some}
use Rattle.net_model.specs.Paths.{HasPath}
use Rattle.net_model.specs.declared.netlist.Design.{Design}
use Rattle.net_model.specs.declared.claims.Start.{Start}
use Rattle.net_model.specs.declared.claims.Start.TheVariants.{Reg as RegStart}
use Rattle.net_model.specs.declared.claims.End.{End}
use Rattle.net_model.specs.declared.claims.End.TheVariants.{Reg as RegEnd}
use Rattle.net_model.proofs.Members.{In, In-from_Contains, In-cases, from_flat}
use Rattle.net_model.proofs.Settling.{All-at}
use Rattle.linked_types.specs.declared.names.CellName.{CellName}
use Rattle.linked_types.specs.declared.names.Linked.{Linked}
use Rattle.linked_types.specs.Usable.{IsUsable, IsCellOf, IsRegOf, is_reg}
use Rattle.script_types.specs.declared.objects.Object.TheVariants.{AllRegisters}
use Rattle.script_types.specs.declared.scripts.Script.{Script}
use Rattle.sdcv_base.specs.declared.kinds.Edge.TheVariants.{Any}
use Rattle.sdc_objects.specs.Standing.{cell_at_row, cell_starts, cell_ends, meant_by, meant_of, from_column, to_column}
use Rattle.sdc_objects.specs.Cuts.{is_cut}
use Rattle.sdc_objects.specs.Things.{cell_of_reg, things_of}
use Rattle.sdc_objects.specs.declared.things.Place.TheVariants.{From, To}
use Rattle.sdc_objects.specs.declared.things.Thing.{Thing}
use Rattle.sdc_objects.specs.declared.things.Thing.TheVariants as thing
use Rattle.exception_expand.specs.declared.pairs.Pair.{Pair}
use Rattle.exception_expand.specs.Naming.{reg_name, start_name, end_name}
use Rattle.exception_expand.specs.Points.{IsFrom, IsTo}
use Rattle.exception_expand.proofs.Fitting.{from_each}

-- a cell that has the register, at its place, with this name
pub record IsRegCell (l : Linked) (r : ℕ) (name : List ℕ) : Type 0 where
  pub place : ℕ
  pub cell : CellName
  pub here : slice_get l.names.cells place ≡ Some cell
  pub reg : cell.reg ≡ Some r
  pub named : cell.name ≡ name

-- the test of a register tells whose it is
is_reg_by : (r : ℕ) (reg : Option ℕ) → elim reg as (λ o. Bool) [ None ↦ false | Some q ↦ q == r ] ≡ true → reg ≡ Some r
is_reg_by r None e = absurd cc
is_reg_by r (Some q) e = let same : q ≡ r = grind (arith, nat_tests) in ap (λ (n : ℕ). Some n) same

-- and the other way round
by_reg : (r : ℕ) (reg : Option ℕ) → reg ≡ Some r → elim reg as (λ o. Bool) [ None ↦ false | Some q ↦ q == r ] ≡ true
by_reg r None e = absurd cc
by_reg r (Some q) e = let same : q ≡ r = same_Some q r e in grind (arith, nat_tests)

-- the name of a cell, where it has the register
abbrev by_test : CellName → List ℕ → Bool → List ℕ
by_test c later b = elim b as (λ t. List ℕ) [ true ↦ c.name | false ↦ later ]

-- the first cell that has the register gives it its name
record HasFirst (cells : List CellName) (r : ℕ) : Type 0 where
  place : ℕ
  cell : CellName
  here : slice_get cells place ≡ Some cell
  reg : cell.reg ≡ Some r
  named : cell.name ≡ reg_name cells r

-- a cell that does not have it is not the first
first_by : (c : CellName) (cs : List CellName) (r : ℕ) → HasFirst cs r → is_reg r c ≡ false → HasFirst (c ∷ cs) r
first_by c cs r later not = record {
  place = suc later.place;
  cell = later.cell;
  here = later.here;
  reg = later.reg;
  named = later.named ∙ sym (ap (by_test c (reg_name cs r)) not);
}

-- it is the cell at hand, where that has the register
first_here : (c : CellName) (cs : List CellName) (r : ℕ) → is_reg r c ≡ true → HasFirst (c ∷ cs) r
first_here c cs r is = record { place = 0; cell = c; here = refl; reg = is_reg_by r c.reg is; named = sym (ap (by_test c (reg_name cs r)) is) }

-- a register that some cell has has a first one
first_of_reg : (cells : List CellName) (r k : ℕ) (c : CellName) → slice_get cells k ≡ Some c → c.reg ≡ Some r → HasFirst cells r
first_of_reg [] r k c here reg = absurd cc
first_of_reg (d ∷ ds) r zero c here reg =
    let same : d ≡ c = same_Some d c here in
    first_here d ds r (by_reg r d.reg (ap (λ (x : CellName). x.reg) same ∙ reg))
first_of_reg (d ∷ ds) r (suc k) c here reg =
    elim (cases_Bool (is_reg r d)) as (λ z. HasFirst (d ∷ ds) r) [
      | inl is ↦ first_here d ds r is
      | inr not ↦ first_by d ds r (first_of_reg ds r k c here reg) not
    ]

-- a register that some cell has goes by the name of its cell
pub reg_cell : (l : Linked) (r k : ℕ) (c : CellName) → slice_get l.names.cells k ≡ Some c → c.reg ≡ Some r → IsRegCell l r (reg_name l.names.cells r)
reg_cell l r k c here reg =
    let first = first_of_reg l.names.cells r k c here reg in
    record { place = first.place; cell = first.cell; here = first.here; reg = first.reg; named = first.named }

-- the register of a cell is one of the design
reg_by : (d : Design) (r : ℕ) (reg : Option ℕ) → reg ≡ Some r → IsRegOf d reg → r < length d.regs
reg_by d r None e is = absurd cc
reg_by d r (Some q) e is = let same : q ≡ r = same_Some q r e in omega (arith, is, same)

-- and so is that of a named one
pub reg_low : (l : Linked) (r : ℕ) (name : List ℕ) → IsUsable l → IsRegCell l r name → r < length l.design.regs
reg_low l r name usable c = reg_by l.design r c.cell.reg c.reg (All-at (IsCellOf l.design) l.names.cells c.place c.cell c.here usable.cells).reg

-- the pair of two registers, with a path between them
pub record IsRegPair (l : Linked) (p : Pair) : Type 0 where
  pub first : ℕ
  pub second : ℕ
  pub start : p.start ≡ RegStart first
  pub end_ : p.end ≡ RegEnd second
  pub start_cell : IsRegCell l first (start_name l p.start)
  pub end_cell : IsRegCell l second (end_name l p.end)
  pub path : HasPath l.design p.start p.end []

-- the one thing of a list
single : {A : Type 0} (x y : A) → In y (x ∷ []) → y ≡ x
single x y (inl here) = sym here
single x y (inr none) = absurd none

-- what stands for a cell that has a register is that cell
cell_thing : (k : ℕ) (reg : Option ℕ) (t : Thing) → In t (cell_of_reg k reg) → (r : ℕ) × (reg ≡ Some r) × (thing.Cell k ≡ t)
cell_thing k None t has = absurd has
cell_thing k (Some r) t (inl here) = (r, refl, here)
cell_thing k (Some r) t (inr none) = absurd none

-- a start is that of a register, whose cell has its name
record IsStartOf (l : Linked) (s : Start) : Type 0 where
  reg : ℕ
  is : s ≡ RegStart reg
  cell : IsRegCell l reg (reg_name l.names.cells reg)

-- and so is an end
record IsEndOf (l : Linked) (e : End) : Type 0 where
  reg : ℕ
  is : e ≡ RegEnd reg
  cell : IsRegCell l reg (reg_name l.names.cells reg)

-- a start that a cell stands for
start_by : (l : Linked) (k r : ℕ) (c : CellName) (s : Start) → slice_get l.names.cells k ≡ Some c → c.reg ≡ Some r
    → In s (meant_by (cell_at_row (is_cut l.names k) (slice_get l.names.cells k)).from) → IsStartOf l s
start_by l k r c s here reg has =
    let at : In s (meant_by (cell_starts c.pins c.reg)) = subst (λ (o : Option CellName). In s (meant_by (cell_at_row (is_cut l.names k) o).from)) here has in
    let of : In s (RegStart r ∷ []) = subst (λ (o : Option ℕ). In s (meant_by (cell_starts c.pins o))) reg at in
    record { reg = r; is = single (RegStart r) s of; cell = reg_cell l r k c here reg }

-- an end that a cell stands for
end_by : (l : Linked) (k r : ℕ) (c : CellName) (e : End) → slice_get l.names.cells k ≡ Some c → c.reg ≡ Some r
    → In e (meant_by (cell_at_row (is_cut l.names k) (slice_get l.names.cells k)).to) → IsEndOf l e
end_by l k r c e here reg has =
    let at : In e (meant_by (cell_ends c.pins c.reg)) = subst (λ (o : Option CellName). In e (meant_by (cell_at_row (is_cut l.names k) o).to)) here has in
    let of : In e (RegEnd r ∷ []) = subst (λ (o : Option ℕ). In e (meant_by (cell_ends c.pins o))) reg at in
    record { reg = r; is = single (RegEnd r) e of; cell = reg_cell l r k c here reg }

-- a thing that `[all_registers]` names is a cell with a register
record IsRegThing (l : Linked) (t : Thing) : Type 0 where
  place : ℕ
  reg : ℕ
  cell : CellName
  here : slice_get l.names.cells place ≡ Some cell
  has : cell.reg ≡ Some reg
  is : thing.Cell place ≡ t

register_thing : (l : Linked) (t : Thing) → In t (things_of l (record { commands = [] }) From AllRegisters) → IsRegThing l t
register_thing l t has =
    let made = from_each (λ k (c : CellName). cell_of_reg k c.reg) 0 l.names.cells t has in
    let of = cell_thing (0 + made.place) made.item.reg t made.of in
    let at : 0 + made.place ≡ made.place = omega arith in
    record { place = 0 + made.place; reg = of.0; cell = made.item; here = ap (slice_get l.names.cells) at ∙ made.here; has = of.1; is = of.2 }

-- a start that `[all_registers]` means
start_of_registers : (l : Linked) (script : Script) (s : Start) → IsFrom l script false Any (Some (AllRegisters ∷ [])) s → IsStartOf l s
start_of_registers l script s has =
    let things = things_of l script From AllRegisters in
    elim (In-cases s (meant_of (from_column l script false Any) things) [] (In-from_Contains _ s has)) as (λ z. IsStartOf l s) [
      | inl here ↦
          let of = from_flat (λ t. meant_by (from_column l script false Any t)) s things here in
          let cell = register_thing l of.0 of.1 in
          start_by l cell.place cell.reg cell.cell s cell.here cell.has
          (subst (λ (t : Thing). In s (meant_by (from_column l script false Any t))) (sym cell.is) of.2)
      | inr none ↦ absurd none
    ]

-- an end that it means
end_of_registers : (l : Linked) (script : Script) (e : End) → IsTo l script false (Some (AllRegisters ∷ [])) e → IsEndOf l e
end_of_registers l script e has =
    let things = things_of l script To AllRegisters in
    elim (In-cases e (meant_of (to_column l script false) things) [] (In-from_Contains _ e has)) as (λ z. IsEndOf l e) [
      | inl here ↦
          let of = from_flat (λ t. meant_by (to_column l script false t)) e things here in
          let cell = register_thing l of.0 of.1 in
          end_by l cell.place cell.reg cell.cell e cell.here cell.has
          (subst (λ (t : Thing). In e (meant_by (to_column l script false t))) (sym cell.is) of.2)
      | inr none ↦ absurd none
    ]

-- a pair that is selected between all registers
pub reg_pair : (l : Linked) (script : Script) (p : Pair) → IsFrom l script false Any (Some (AllRegisters ∷ [])) p.start
    → IsTo l script false (Some (AllRegisters ∷ [])) p.end → HasPath l.design p.start p.end [] → IsRegPair l p
reg_pair l script p from to path =
    let s = start_of_registers l script p.start from in
    let e = end_of_registers l script p.end to in
    record {
      first = s.reg;
      second = e.reg;
      start = s.is;
      end_ = e.is;
      start_cell = subst (λ (x : Start). IsRegCell l s.reg (start_name l x)) (sym s.is) s.cell;
      end_cell = subst (λ (x : End). IsRegCell l e.reg (end_name l x)) (sym e.is) e.cell;
      path = path;
    }
