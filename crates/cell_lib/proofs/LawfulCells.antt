-- The functions of a cell that was read are over its inputs.
use Rattle.std.proofs.Common.{◌≡◌, ℕ, ◌+◌, Bool, true, false, List, [], ◌∷◌, ◌++◌, length, map, All, Option, Some, None, is_some, ◌&&◌, IfSome, refl}
use Rattle.std.proofs.Common.{sym, subst}
use Rattle.std.proofs.lemmas.List.Elements.{All-cons, All-nil, All-append}
use Rattle.texts.specs.Names.{is_among, each_once}
use Rattle.net_model.specs.Form.{Form, ZeroForm, OneForm, NotForm, AndForm, OrForm, XorForm, IsOver}
use Rattle.net_model.specs.Netlist.{IsOptionOver}
use Rattle.cell_lib.specs.declared.scopes.States.{States}
use Rattle.lib_func.specs.Trees.{Tree, ZeroTree, OneTree, NameTree, NotTree, AndTree, OrTree, XorTree}
use Rattle.cell_lib.specs.Scopes.{meaning, resolved, reach}
use Rattle.cell_lib.proofs.ScopeLemmas.{place_in_reach, state_in_reach}
use Rattle.lib_words.specs.declared.groups.Attribute.{Attribute}
use Rattle.lib_words.specs.declared.groups.Part.{Part}
use Rattle.lib_words.specs.declared.groups.CellGroup.{CellGroup}
use Rattle.cell_types.specs.declared.libraries.CombOut.{CombOut}
use Rattle.cell_types.specs.declared.libraries.Flop.{Flop}
use Rattle.cell_types.specs.declared.libraries.GateCell.{GateCell}
use Rattle.cell_lib.specs.declared.flops.Resets.{Resets}
use Rattle.cell_lib.specs.declared.pins.Role.TheVariants as role
use Rattle.cell_lib.specs.declared.pins.OutPin.{OutPin}
use Rattle.cell_lib.specs.declared.shapes.Shape.{Shape}
use Rattle.lib_words.specs.declared.kinds.AttributeKind.TheVariants as attribute
use Rattle.cell_types.specs.Libraries.{IsLawfulFlop, IsLawfulKind, IsLawfulCell}
use Rattle.cell_lib.specs.Values.{expr_of}
use Rattle.cell_lib.specs.Combs.{comb_out, comb_outs}
use Rattle.cell_lib.specs.Flops.{data_inputs, states_of, clock_of, next_of, reset_of, resets_of, both_of, flop_outs, flop_on, flop_of}
use Rattle.cell_lib.specs.Pins.{names_of, outs_of}
use Rattle.cell_lib.specs.Cells.{comb_shape, flop_shape, shape_by, plain_shape, shape_with, shape_of, is_modelled, first_ff, cell_of}
use Rattle.cell_lib.specs.Gates.{gate_of}
use Rattle.texts.proofs.ReadLemmas.{bind_gave}
use Rattle.texts.proofs.EachLemmas.{each_holds}
use Rattle.cell_lib.proofs.Inversions.{map_gave, some_holds}

-- a name's meaning is in reach
none_means : (inputs : List (List ℕ)) (names : Option States) (n : List ℕ) → is_among n inputs ≡ false → IfSome (meaning inputs names n)
    (IsOver (reach inputs names))
none_means inputs None n absent = rw absent tt
none_means inputs (Some states) n absent = state_in_reach inputs (Some states) states n refl absent

means_cases : (inputs : List (List ℕ)) (names : Option States) (n : List ℕ) (b : Bool) → is_among n inputs ≡ b → IfSome (meaning inputs names n)
    (IsOver (reach inputs names))
means_cases inputs names n true there = rw there (place_in_reach inputs names n there)
means_cases inputs names n false absent = none_means inputs names n absent

-- so is the meaning of an expression
pub resolved_over : (inputs : List (List ℕ)) (names : Option States) (t : Tree) (f : Form) → resolved (meaning inputs names) t ≡ Some f
    → IsOver (reach inputs names) f
resolved_over inputs names ZeroTree f e = let same : ZeroForm ≡ f = cc in subst (IsOver (reach inputs names)) same tt
resolved_over inputs names OneTree f e = let same : OneForm ≡ f = cc in subst (IsOver (reach inputs names)) same tt
resolved_over inputs names (NameTree n) f e = some_holds (IsOver (reach inputs names)) (meaning inputs names n) f e
    (means_cases inputs names n (is_among n inputs) refl)
resolved_over inputs names (NotTree t) f e =
    let (x, xs, e1) = bind_gave (resolved (meaning inputs names) t) _ f e in
    let same : NotForm x ≡ f = cc in
    subst (IsOver (reach inputs names)) same (resolved_over inputs names t x xs)
resolved_over inputs names (AndTree t u) f e =
    let (x, xs, e1) = bind_gave (resolved (meaning inputs names) t) _ f e in
    let (y, ys, e2) = bind_gave (resolved (meaning inputs names) u) _ f e1 in
    let same : AndForm x y ≡ f = cc in
    subst (IsOver (reach inputs names)) same (resolved_over inputs names t x xs, resolved_over inputs names u y ys)
resolved_over inputs names (OrTree t u) f e =
    let (x, xs, e1) = bind_gave (resolved (meaning inputs names) t) _ f e in
    let (y, ys, e2) = bind_gave (resolved (meaning inputs names) u) _ f e1 in
    let same : OrForm x y ≡ f = cc in
    subst (IsOver (reach inputs names)) same (resolved_over inputs names t x xs, resolved_over inputs names u y ys)
resolved_over inputs names (XorTree t u) f e =
    let (x, xs, e1) = bind_gave (resolved (meaning inputs names) t) _ f e in
    let (y, ys, e2) = bind_gave (resolved (meaning inputs names) u) _ f e1 in
    let same : XorForm x y ≡ f = cc in
    subst (IsOver (reach inputs names)) same (resolved_over inputs names t x xs, resolved_over inputs names u y ys)

comb_out_over : (inputs : List (List ℕ)) (o : OutPin) (x : CombOut) → comb_out inputs o ≡ Some x → IsOver (length inputs) x.func
unfolding comb_out
comb_out_over inputs o x e =
    let (t, ts, e1) = bind_gave o.func _ x e in
    let (f, fs, e2) = map_gave (λ (f : Form). record { name = o.name; func = f }) (resolved (meaning inputs None) t) x e1 in
    subst (λ (y : CombOut). IsOver (length inputs) y.func) e2 (resolved_over inputs None t f fs)

reset_over : (inputs : List (List ℕ)) (t : Option Tree) (r : Option Form) → reset_of inputs t ≡ Some r → IsOptionOver (length inputs) r
reset_over inputs None r e = let same : None ≡ r = cc in subst (IsOptionOver (length inputs)) same tt
reset_over inputs (Some t) r e =
    let (f, fs, e1) = map_gave (λ (f : Form). Some f) (resolved (meaning inputs None) t) r e in
    subst (IsOptionOver (length inputs)) e1 (resolved_over inputs None t f fs)

next_over : (inputs : List (List ℕ)) (states : States) (attributes : List Attribute) (f : Form) → next_of inputs states attributes ≡ Some f
    → IsOver (length inputs + 1) f
unfolding next_of
next_over inputs states attributes f e =
    let (t, ts, e1) = bind_gave (expr_of attribute.NextState attributes) _ f e in
    resolved_over inputs (Some states) t f e1

pub record ResetsOver (inputs : ℕ) (r : Resets) : Type 0 where
  pub clear : IsOptionOver inputs r.clear
  pub preset : IsOptionOver inputs r.preset

resets_over : (inputs : List (List ℕ)) (attributes : List Attribute) (r : Resets) → resets_of inputs attributes ≡ Some r → ResetsOver (length inputs) r
unfolding resets_of
resets_over inputs attributes r e =
    let (clear, clears, e1) = bind_gave (reset_of inputs (expr_of attribute.Clear attributes)) _ r e in
    let (preset, presets, e2) = bind_gave (reset_of inputs (expr_of attribute.Preset attributes)) _ r e1 in
    let (both, boths, e3) = bind_gave (both_of (is_some clear && is_some preset) attributes) _ r e2 in
    let made : Resets = record { clear = clear; preset = preset; both = both } in
    let same : made ≡ r = cc in
    let over : ResetsOver (length inputs) made = record {
      clear = reset_over inputs (expr_of attribute.Clear attributes) clear clears;
      preset =
          reset_over inputs (expr_of attribute.Preset attributes) preset presets;
    } in
    subst (ResetsOver (length inputs)) same over

flop_on_over : (clock : List ℕ) (pins : List (List ℕ)) (states : States) (outs : List OutPin) (attributes : List Attribute) (flop : Flop)
    → flop_on clock pins states outs attributes ≡ Some flop → (flop.clock ≡ clock) × IsLawfulFlop (length pins) flop
unfolding flop_on
flop_on_over clock pins states outs attributes flop e =
    let (next, e_next, e1) = bind_gave (next_of pins states attributes) _ flop e in
    let (resets, e_resets, e2) = bind_gave (resets_of pins attributes) _ flop e1 in
    let (found, e_found, e3) = bind_gave (flop_outs states outs) _ flop e2 in
    let made : Flop = record { clock = clock; next = next; clear = resets.clear; preset = resets.preset; both = resets.both; outs = found } in
    let same : made ≡ flop = cc in
    let over = resets_over pins attributes resets e_resets in
    let lawful : IsLawfulFlop (length pins) made = record { next = next_over pins states attributes next e_next; clear = over.clear; preset = over.preset } in
    subst (λ (f : Flop). (f.clock ≡ clock) × IsLawfulFlop (length pins) f) same (refl, lawful)

flop_over : (inputs : List (List ℕ)) (outs : List OutPin) (ff : Part) (flop : Flop) → flop_of inputs outs ff ≡ Some flop
    → IsLawfulFlop (length (data_inputs flop.clock inputs)) flop
unfolding flop_of
flop_over inputs outs ff flop e =
    let (states, e_states, e1) = bind_gave (states_of ff.names) _ flop e in
    let (clock, e_clock, e2) = bind_gave (clock_of inputs ff.attributes) _ flop e1 in
    let (same, lawful) = flop_on_over clock (data_inputs clock inputs) states outs ff.attributes flop e2 in
    subst (λ (n : List ℕ). IsLawfulFlop (length (data_inputs n inputs)) flop) (sym same) lawful

IsLawfulShape : Shape → Type 0
IsLawfulShape s = IsLawfulKind s.inputs s.kind

comb_lawful : (parts : List Part) (inputs : List (List ℕ)) (o : Option (List CombOut))
    → ((ys : List CombOut) → o ≡ Some ys → All (λ (y : CombOut). IsOver (length inputs) y.func) ys) → IsLawfulShape (comb_shape parts inputs o)
unfolding IsLawfulShape
comb_lawful parts inputs None all = tt
comb_lawful parts inputs (Some ys) all = all ys refl

flop_lawful : (parts : List Part) (inputs : List (List ℕ)) (o : Option Flop)
    → ((flop : Flop) → o ≡ Some flop → IsLawfulFlop (length (data_inputs flop.clock inputs)) flop) → IsLawfulShape (flop_shape parts inputs o)
unfolding IsLawfulShape
flop_lawful parts inputs None over = tt
flop_lawful parts inputs (Some flop) over = over flop refl

by_lawful : (parts : List Part) (inputs : List (List ℕ)) (outs : List OutPin) (ff : Option Part) → IsLawfulShape (shape_by parts inputs outs ff)
by_lawful parts inputs outs None =
    let once = each_once inputs in
    let P : CombOut → Type 0 = λ (y : CombOut). IsOver (length once) y.func in
    comb_lawful parts once (comb_outs once outs) (λ ys e. each_holds P (comb_out once) (comb_out_over once) outs ys e)
by_lawful parts inputs outs (Some ff) = flop_lawful parts inputs (flop_of inputs outs ff) (flop_over inputs outs ff)

plain_cases : (g : CellGroup) (b : Bool) → is_modelled g ≡ b → IsLawfulShape (plain_shape g)
unfolding plain_shape IsLawfulShape
plain_cases g true e = rw e (by_lawful g.parts (names_of role.Input g.parts) (outs_of g.parts) (first_ff g.parts))
plain_cases g false e = rw e tt

-- the inputs of a clock gate are its enables
with_lawful : (g : CellGroup) (gate : Option GateCell) → IsLawfulShape (shape_with g gate)
unfolding IsLawfulShape
with_lawful g None = plain_cases g (is_modelled g) refl
with_lawful g (Some gate) = refl

pub cell_lawful : (g : CellGroup) → IsLawfulCell (cell_of g)
unfolding cell_of shape_of IsLawfulShape
cell_lawful g = with_lawful g (gate_of g)

-- every cell that was read is lawful
pub cells_lawful : (groups : List CellGroup) → All IsLawfulCell (map cell_of groups)
cells_lawful [] = All-nil IsLawfulCell
cells_lawful (g ∷ groups) = All-cons IsLawfulCell (cell_of g) (map cell_of groups) (cell_lawful g) (cells_lawful groups)
