-- A line selects the pair of registers whose cells it names, and no other.
use Rattle.std.proofs.Common.{◌≡◌, ◌∙◌, ℕ, ◌<◌, true, false, List, [], ◌∷◌, ◌++◌, length, sym, ap, subst, inl, inr}
use Rattle.std.specs.Prelude.{Option, Some, Contains}
use Rattle.net_model.specs.declared.claims.Start.{Start}
use Rattle.net_model.specs.declared.claims.Start.TheVariants.{Reg as RegStart}
use Rattle.net_model.specs.declared.claims.End.{End}
use Rattle.net_model.specs.declared.claims.End.TheVariants.{Reg as RegEnd}
use Rattle.net_model.proofs.Members.{In-from_Contains, Contains-from_In}
use Rattle.net_paths.specs.Those.{AreThose, All_seen, Taken}
use Rattle.net_paths.proofs.Sifting.{those_alike, those_within}
use Rattle.linked_types.specs.declared.names.CellName.{CellName}
use Rattle.linked_types.specs.declared.names.Linked.{Linked}
use Rattle.linked_types.specs.Usable.{IsUsable}
use Rattle.script_types.specs.declared.objects.Object.{Object}
use Rattle.script_types.specs.declared.scripts.Script.{Script}
use Rattle.sdcv_base.specs.declared.kinds.Edge.TheVariants.{Any}
use Rattle.sdc_objects.specs.Standing.{cell_at_row, cell_starts, cell_ends, meant_by, meant_of, from_column, to_column, starts_of, ends_of}
use Rattle.sdc_objects.specs.Cuts.{is_cut}
use Rattle.sdc_objects.specs.declared.things.Thing.{Thing}
use Rattle.run_options.specs.Judging.{judging_by}
use Rattle.exception_expand.specs.declared.pairs.Pair.{Pair}
use Rattle.exception_expand.specs.Naming.{start_name, end_name}
use Rattle.exception_expand.specs.Pairs.{pair, IsConnected}
use Rattle.exception_expand.specs.Points.{all_starts, all_ends, IsFrom, IsTo}
use Rattle.exception_expand.specs.Selections.{all_pairs, all_sides, SelectsBy}
use Rattle.exception_expand.specs.declared.sides.Sides.TheVariants.{Late}
use Rattle.exception_expand.specs.Sides.{side}
use Rattle.exception_expand.proofs.Sharing.{those_pairs}
use Rattle.exception_expand.proofs.Siding.{those_sides}
use Rattle.multicycle_text.specs.Lines.{FoundLine, Setup}
use Rattle.multicycle_text.specs.Names.{is_writable}
use Rattle.multicycle_text.specs.Scripts.{cell_named, exception_by}
use Rattle.found_pairs.proofs.Names.{from_named, to_named}
use Rattle.found_pairs.proofs.Once.{start_once, end_once}
use Rattle.found_pairs.proofs.RegCells.{IsRegCell, reg_low, IsRegPair}

-- the name of a register's cell names its start
named_starts : (l : Linked) (script : Script) (r : ℕ) (name : List ℕ) → IsUsable l → is_writable name ≡ true → IsRegCell l r name
    → starts_of l script false Any (cell_named name) ≡ RegStart r ∷ []
named_starts l script r name usable can c =
    let can_cell : is_writable c.cell.name ≡ true = subst (λ (n : List ℕ). is_writable n ≡ true) (sym c.named) can in
    subst (λ (n : List ℕ). starts_of l script false Any (cell_named n) ≡ RegStart r ∷ []) c.named
    (ap (λ (ts : List Thing). meant_of (from_column l script false Any) ts ++ []) (from_named l script c.place c.cell usable can_cell c.here)
    ∙ ap (λ (o : Option CellName). (meant_by (cell_at_row (is_cut l.names c.place) o).from ++ []) ++ []) c.here
    ∙ ap (λ (o : Option ℕ). (meant_by (cell_starts c.cell.pins o) ++ []) ++ []) c.reg)

-- and its end
named_ends : (l : Linked) (script : Script) (r : ℕ) (name : List ℕ) → IsUsable l → is_writable name ≡ true → IsRegCell l r name
    → ends_of l script false (cell_named name) ≡ RegEnd r ∷ []
named_ends l script r name usable can c =
    let can_cell : is_writable c.cell.name ≡ true = subst (λ (n : List ℕ). is_writable n ≡ true) (sym c.named) can in
    subst (λ (n : List ℕ). ends_of l script false (cell_named n) ≡ RegEnd r ∷ []) c.named
    (ap (λ (ts : List Thing). meant_of (to_column l script false) ts ++ []) (to_named l script c.place c.cell usable can_cell c.here)
    ∙ ap (λ (o : Option CellName). (meant_by (cell_at_row (is_cut l.names c.place) o).to ++ []) ++ []) c.here
    ∙ ap (λ (o : Option ℕ). (meant_by (cell_ends c.cell.pins o) ++ []) ++ []) c.reg)

-- what is in a list of one thing is that thing
alone : {A : Type 0} (x y : A) → Contains (x ∷ []) y → y ≡ x
alone x y has = elim (In-from_Contains (x ∷ []) y has) [ inl here ↦ sym here | inr none ↦ absurd none ]

-- and that thing is in it
alone_there : {A : Type 0} (x y : A) → y ≡ x → Contains (x ∷ []) y
alone_there x y is = Contains-from_In (x ∷ []) y (inl (sym is))

-- the starts and the ends that the two names mean
starts_meant : (l : Linked) (script : Script) (r : ℕ) (objects : List Object) → r < length l.design.regs
    → starts_of l script false Any objects ≡ RegStart r ∷ []
    → AreThose (IsFrom l script false Any (Some objects)) (all_starts l) (RegStart r ∷ [])
starts_meant l script r objects low is =
    those_alike (λ s. s ≡ RegStart r) (IsFrom l script false Any (Some objects)) (all_starts l) (RegStart r ∷ [])
    (λ k s at same. subst (λ (xs : List Start). Contains xs s) (sym is) (alone_there (RegStart r) s same))
    (λ k s at has. alone (RegStart r) s (subst (λ (xs : List Start). Contains xs s) is has)) (start_once l r low)

-- and for the second one
ends_meant : (l : Linked) (script : Script) (r : ℕ) (objects : List Object) → r < length l.design.regs → ends_of l script false objects ≡ RegEnd r ∷ []
    → AreThose (IsTo l script false (Some objects)) (all_ends l.design) (RegEnd r ∷ [])
ends_meant l script r objects low is =
    those_alike (λ e. e ≡ RegEnd r) (IsTo l script false (Some objects)) (all_ends l.design) (RegEnd r ∷ [])
    (λ k e at same. subst (λ (xs : List End). Contains xs e) (sym is) (alone_there (RegEnd r) e same))
    (λ k e at has. alone (RegEnd r) e (subst (λ (xs : List End). Contains xs e) is has)) (end_once l.design r low)

-- the line has the start and the end of the pair
abbrev IsListed : Linked → Script → FoundLine → Pair → Type 0
IsListed l script x p = IsFrom l script false Any (Some (cell_named x.start)) p.start × IsTo l script false (Some (cell_named x.end)) p.end

-- a line of its names selects its late side alone
pub line_selects : (l : Linked) (script : Script) (x : FoundLine) (p : Pair) → IsUsable l → is_writable x.start ≡ true → is_writable x.end ≡ true
    → x.start ≡ start_name l p.start → x.end ≡ end_name l p.end → IsRegPair l p
    → AreThose (SelectsBy l script (judging_by false 0) (exception_by (Setup x))) (all_sides l) (side false p ∷ [])
line_selects l script x p usable can_start can_end start end_ is =
    let first = subst (IsRegCell l is.first) (sym start) is.start_cell in
    let second = subst (IsRegCell l is.second) (sym end_) is.end_cell in
    let one = pair (RegStart is.first) (RegEnd is.second) in
    let same : p ≡ one = ap (λ (s : Start). pair s p.end) is.start ∙ ap (pair (RegStart is.first)) is.end_ in
    let starts = starts_meant l script is.first (cell_named x.start) (reg_low l is.first x.start usable first)
    (named_starts l script is.first x.start usable can_start first) in
    let ends = ends_meant l script is.second (cell_named x.end) (reg_low l is.second x.end usable second)
    (named_ends l script is.second x.end usable can_end second) in
    let listed : AreThose (IsListed l script x) (all_pairs l) (one ∷ []) =
    those_pairs pair (IsFrom l script false Any (Some (cell_named x.start))) (IsTo l script false (Some (cell_named x.end))) (IsListed l script x)
    (all_starts l) (RegStart is.first ∷ []) (all_ends l.design) (RegEnd is.second ∷ []) (λ a b h k. (h, k)) (λ a b h. h.0) (λ a b h. h.1) starts ends in
    let path : IsConnected l.design [] one = subst (IsConnected l.design []) same is.path in
    let those : AreThose (λ q. IsListed l script x q × IsConnected l.design [] q) (all_pairs l) (one ∷ []) =
    those_within (IsListed l script x) (IsConnected l.design []) (all_pairs l) (one ∷ []) (one ∷ []) listed (Taken one [] [] path All_seen) in
    subst (λ (q : Pair). AreThose (SelectsBy l script (judging_by false 0) (exception_by (Setup x))) (all_sides l) (side false q ∷ [])) (sym same)
    (those_sides Late (λ q. IsListed l script x q × IsConnected l.design [] q) (all_pairs l) (one ∷ []) those)
