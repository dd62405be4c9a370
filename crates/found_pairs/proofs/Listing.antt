-- The commands of a script of lines, as a report lists them: each selects one pair, and none has a warning.
use Rattle.std.proofs.Common.{arith, ◌≡◌, ◌∙◌, ◌≢◌, ℕ, zero, suc, ◌+◌, ◌<◌, true, false, List, [], ◌∷◌, ◌++◌, refl, sym, ap, subst}
use Rattle.std.specs.Prelude.{Option, Some, slice_get, ◌==◌}
use Rattle.std.proofs.lemmas.Option.{slice_get_within}
use Rattle.sdcv_base.specs.declared.kinds.Kind.TheVariants.{Multi}
use Rattle.sdcv_base.specs.declared.kinds.Edge.TheVariants.{Any}
use Rattle.net_model.specs.declared.claims.Start.TheVariants.{Reg as RegStart}
use Rattle.net_model.specs.declared.claims.End.TheVariants.{Reg as RegEnd}
use Rattle.linked_types.specs.declared.names.CellName.{CellName}
use Rattle.linked_types.specs.declared.names.Linked.{Linked}
use Rattle.linked_types.specs.Usable.{IsUsable}
use Rattle.script_types.specs.declared.scripts.Script.{Script}
use Rattle.sdcv_base.specs.Seqs.{each_at}
use Rattle.sdc_objects.specs.Standing.{cell_at_row, cell_starts, cell_ends, dropped_of, from_column, to_column, warning, warnings}
use Rattle.sdc_objects.specs.Cuts.{is_cut}
use Rattle.sdc_objects.specs.declared.things.Place.TheVariants.{From, To}
use Rattle.sdc_objects.specs.declared.things.Thing.{Thing}
use Rattle.sdc_objects.specs.declared.things.Thing.TheVariants as thing
use Rattle.selected_types.specs.declared.warnings.Warning.{Warning}
use Rattle.run_options.specs.Judging.{judging_by}
use Rattle.exception_expand.specs.declared.pairs.Pair.{Pair}
use Rattle.selected_types.specs.declared.selections.CommandLine.{CommandLine}
use Rattle.selected_types.specs.declared.selections.Listing.TheVariants.{Claiming as ListsClaims, Hold as ListsHold}
use Rattle.exception_expand.specs.Sides.{side}
use Rattle.exception_expand.specs.Selections as spec
use Rattle.exception_expand.specs.Selections.{Chosen, chosen_by, count_at}
use Rattle.exception_expand.proofs.Counting.{count_append, count_own, count_other}
use Rattle.multicycle_text.specs.Lines.{FoundLine, CheckLine, Setup, Hold}
use Rattle.multicycle_text.specs.Names.{is_writable}
use Rattle.multicycle_text.specs.Scripts.{cell_named, commands_from}
use Rattle.found_pairs.specs.Laws.{commands_listed}
use Rattle.found_pairs.proofs.Names.{from_named, to_named}
use Rattle.found_pairs.proofs.RegCells.{IsRegCell}
use Rattle.found_pairs.proofs.Scripts.{AreLines, chosen_from}

-- the commands before them select none of these pairs
none_before : (place other : ℕ) (lines : List CheckLine) (pairs : List Pair) → other < place → count_at (chosen_from place lines pairs) other ≡ 0
none_before place other [] pairs low = refl
none_before place other (Setup x ∷ lines) [] low = refl
none_before place other (Setup x ∷ lines) (p ∷ pairs) low =
    let differ : place ≢ other = omega (arith, low) in
    omega (
      arith,
      count_append (λ (x : Chosen). x.command == other) (chosen_by place (side false p) ∷ []) (chosen_from (place + 1) lines pairs),
      count_other place other (side false p ∷ []) differ,
      none_before (place + 1) other lines pairs (omega (arith, low)),
    )
none_before place other (Hold x ∷ lines) pairs low = none_before (place + 1) other lines pairs (omega (arith, low))

-- each of the lines' own commands but a hold line selects one pair
pub one_each : (l : Linked) (place j : ℕ) (lines : List CheckLine) (pairs : List Pair) (x : FoundLine) → AreLines l lines pairs
    → slice_get lines j ≡ Some (Setup x) → count_at (chosen_from place lines pairs) (place + j) ≡ 1
one_each l place j [] pairs x are here = let low = slice_get_within [] j (Setup x) here in absurd (omega (arith, low))
one_each l place zero (Setup y ∷ lines) [] x are here = absurd are
one_each l place zero (Setup y ∷ lines) (p ∷ pairs) x are here =
    let at : place + 0 ≡ place = omega arith in
    let one : count_at (chosen_from place (Setup y ∷ lines) (p ∷ pairs)) place ≡ 1 =
    omega (
      arith,
      count_append (λ (x : Chosen). x.command == place) (chosen_by place (side false p) ∷ []) (chosen_from (place + 1) lines pairs),
      count_own place (side false p ∷ []),
      none_before (place + 1) place lines pairs (omega arith),
    ) in
    ap (count_at (chosen_from place (Setup y ∷ lines) (p ∷ pairs))) at ∙ one
one_each l place zero (Hold y ∷ lines) pairs x are here = absurd cc
one_each l place (suc j) (Setup y ∷ lines) [] x are here = absurd are
one_each l place (suc j) (Setup y ∷ lines) (p ∷ pairs) x are here =
    let at : place + suc j ≡ (place + 1) + j = omega arith in
    let differ : place ≢ (place + 1) + j = omega arith in
    let later : count_at (chosen_from place (Setup y ∷ lines) (p ∷ pairs)) ((place + 1) + j) ≡ 1 =
    omega (
      arith,
      count_append (λ (x : Chosen). x.command == (place + 1) + j) (chosen_by place (side false p) ∷ []) (chosen_from (place + 1) lines pairs),
      count_other place ((place + 1) + j) (side false p ∷ []) differ,
      one_each l (place + 1) j lines pairs x are.1 here,
    ) in
    ap (count_at (chosen_from place (Setup y ∷ lines) (p ∷ pairs))) at ∙ later
one_each l place (suc j) (Hold y ∷ lines) pairs x are here =
    let at : place + suc j ≡ (place + 1) + j = omega arith in
    ap (count_at (chosen_from (place + 1) lines pairs)) at ∙ one_each l (place + 1) j lines pairs x are.1 here

-- one thing that stands for something has no warning
no_warning : {A : Type 0} (column : Thing → Option (List A)) (text : List ℕ) (t : Thing) (xs : List A) → column t ≡ Some xs
    → warning text (t ∷ []) (dropped_of column (t ∷ [])) ≡ []
no_warning column text t xs stands = rw stands refl

-- the name of a register's cell has none after `-from`
start_warns : (l : Linked) (script : Script) (r : ℕ) (name : List ℕ) → IsUsable l → is_writable name ≡ true → IsRegCell l r name
    → warnings (from_column l script false Any) l script false From (cell_named name) ≡ []
start_warns l script r name usable can c =
    let can_cell : is_writable c.cell.name ≡ true = subst (λ (n : List ℕ). is_writable n ≡ true) (sym c.named) can in
    let stands : from_column l script false Any (thing.Cell c.place) ≡ Some (RegStart r ∷ []) =
    ap (λ (o : Option CellName). (cell_at_row (is_cut l.names c.place) o).from) c.here ∙ ap (cell_starts c.cell.pins) c.reg in
    let one : warning c.cell.name (thing.Cell c.place ∷ []) (dropped_of (from_column l script false Any) (thing.Cell c.place ∷ [])) ≡ [] =
    no_warning (from_column l script false Any) c.cell.name (thing.Cell c.place) (RegStart r ∷ []) stands in
    subst (λ (n : List ℕ). warnings (from_column l script false Any) l script false From (cell_named n) ≡ []) c.named
    (ap (λ (ts : List Thing). warning c.cell.name ts (dropped_of (from_column l script false Any) ts) ++ [])
    (from_named l script c.place c.cell usable can_cell c.here)
    ∙ ap (λ (ws : List Warning). ws ++ []) one)

-- and none after `-to`
end_warns : (l : Linked) (script : Script) (r : ℕ) (name : List ℕ) → IsUsable l → is_writable name ≡ true → IsRegCell l r name
    → warnings (to_column l script false) l script false To (cell_named name) ≡ []
end_warns l script r name usable can c =
    let can_cell : is_writable c.cell.name ≡ true = subst (λ (n : List ℕ). is_writable n ≡ true) (sym c.named) can in
    let stands : to_column l script false (thing.Cell c.place) ≡ Some (RegEnd r ∷ []) =
    ap (λ (o : Option CellName). (cell_at_row (is_cut l.names c.place) o).to) c.here ∙ ap (cell_ends c.cell.pins) c.reg in
    let one : warning c.cell.name (thing.Cell c.place ∷ []) (dropped_of (to_column l script false) (thing.Cell c.place ∷ [])) ≡ [] =
    no_warning (to_column l script false) c.cell.name (thing.Cell c.place) (RegEnd r ∷ []) stands in
    subst (λ (n : List ℕ). warnings (to_column l script false) l script false To (cell_named n) ≡ []) c.named
    (ap (λ (ts : List Thing). warning c.cell.name ts (dropped_of (to_column l script false) ts) ++ []) (to_named l script c.place c.cell usable can_cell c.here)
    ∙ ap (λ (ws : List Warning). ws ++ []) one)

-- what holds of the lines after the first one holds of later places
ones_later : (chosen : List Chosen) (place : ℕ) (y : CheckLine) (lines : List CheckLine)
    → ((j : ℕ) (x : FoundLine) → slice_get (y ∷ lines) j ≡ Some (Setup x) → count_at chosen (place + j) ≡ 1)
    → (j : ℕ) (x : FoundLine) → slice_get lines j ≡ Some (Setup x) → count_at chosen ((place + 1) + j) ≡ 1
ones_later chosen place y lines one j x here =
    let on : place + suc j ≡ (place + 1) + j = omega arith in
    subst (λ (n : ℕ). count_at chosen n ≡ 1) on (one (suc j) x here)

-- the commands, where each but a hold line selects one pair
pub lines_listed : (l : Linked) (script : Script) (chosen : List Chosen) (place number : ℕ) (lines : List CheckLine) (pairs : List Pair) → IsUsable l
    → AreLines l lines pairs → ((j : ℕ) (x : FoundLine) → slice_get lines j ≡ Some (Setup x) → count_at chosen (place + j) ≡ 1)
    → each_at (spec.lines_at l script (judging_by false 0) chosen) place (commands_from number lines) ≡ commands_listed number lines
lines_listed l script chosen place number [] pairs usable are one = refl
lines_listed l script chosen place number (Setup x ∷ lines) [] usable are one = absurd are
lines_listed l script chosen place number (Setup x ∷ lines) (p ∷ pairs) usable (is, are) one =
    let at : place + 0 ≡ place = omega arith in
    let count : count_at chosen place ≡ 1 = subst (λ (n : ℕ). count_at chosen n ≡ 1) at (one 0 x refl) in
    let from = start_warns l script is.regs.first x.start usable is.readable.start (subst (IsRegCell l is.regs.first) (sym is.start) is.regs.start_cell) in
    let to = end_warns l script is.regs.second x.end usable is.readable.end (subst (IsRegCell l is.regs.second) (sym is.end_) is.regs.end_cell) in
    let told = λ (first last : List Warning). (first ++ []) ++ last in
    let rest = each_at (spec.lines_at l script (judging_by false 0) chosen) (place + 1) (commands_from (number + 1) lines) in
    let later = lines_listed l script chosen (place + 1) (number + 1) lines pairs usable are (ones_later chosen place (Setup x) lines one) in
    let line = λ (n : ℕ) (ws : List Warning). spec.command_line number (ListsClaims (Multi x.k) Any n) ws in
    let from_told = warnings (from_column l script false Any) l script false From (cell_named x.start) in
    let to_told = warnings (to_column l script false) l script false To (cell_named x.end) in
    ap (λ (n : ℕ). line n (told from_told to_told) ∷ rest) count
    ∙ ap (λ (ws : List Warning). line 1 (told ws to_told) ∷ rest) from
    ∙ ap (λ (ws : List Warning). line 1 (told [] ws) ∷ rest) to
    ∙ ap (λ (ls : List CommandLine). line 1 [] ∷ ls) later
lines_listed l script chosen place number (Hold x ∷ lines) pairs usable (is, are) one =
    ap (λ (ls : List CommandLine). spec.command_line number ListsHold [] ∷ ls)
    (lines_listed l script chosen (place + 1) (number + 1) lines pairs usable are (ones_later chosen place (Hold x) lines one))
