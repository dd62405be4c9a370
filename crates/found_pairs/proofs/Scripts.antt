-- A script of lines selects the pairs of the lines, each by its own command.
use Rattle.std.proofs.Common.{arith, ◌≡◌, ◌∙◌, ℕ, zero, suc, ◌+◌, ◌<◌, ◌≤◌, Bool, true, false, cond, List, [], ◌∷◌, length, take, map, refl, sym, ap, subst}
use Rattle.std.specs.Prelude.{Option, Some, slice_get, count_by, All}
use Rattle.std.specs.List.{AllZip}
use Rattle.std.proofs.lemmas.List.Elements.{All-nil, All-cons}
use Rattle.std.proofs.lemmas.List.Sums.{sum_by-append}
use Rattle.std.proofs.lemmas.Option.{same_Some}
use Rattle.sdcv_base.specs.declared.kinds.Kind.TheVariants.{Multi}
use Rattle.sdcv_base.specs.declared.kinds.Edge.TheVariants.{Any}
use Rattle.net_model.specs.declared.claims.Claim.{Claim}
use Rattle.net_paths.specs.Those.{AreThose, All_seen}
use Rattle.net_paths.proofs.Sifting.{those_append, those_map, those_none}
use Rattle.linked_types.specs.declared.names.Linked.{Linked}
use Rattle.linked_types.specs.Usable.{IsUsable}
use Rattle.script_types.specs.declared.scripts.Command.{Command}
use Rattle.script_types.specs.declared.scripts.Script.{Script}
use Rattle.sdcv_base.specs.Seqs.{each_at}
use Rattle.run_options.specs.declared.judging.Judging.{Judging}
use Rattle.run_options.specs.Judging.{judging_by}
use Rattle.exception_expand.specs.declared.pairs.Pair.{Pair}
use Rattle.selected_types.specs.declared.selections.PairLine.{PairLine}
use Rattle.exception_expand.specs.Naming.{start_name, end_name}
use Rattle.exception_expand.specs.declared.sides.Side.{Side}
use Rattle.exception_expand.specs.Sides.{side}
use Rattle.exception_expand.specs.Pairs.{claim_with}
use Rattle.exception_expand.specs.Selections as spec
use Rattle.exception_expand.specs.Selections.{Chosen, chosen_by}
use Rattle.multicycle_text.specs.Lines.{FoundLine, CheckLine, Setup, Hold}
use Rattle.multicycle_text.specs.Scripts.{IsReadable, IsReadableLine, exception_by, commands_from}
use Rattle.found_pairs.specs.Lines.{all_lines}
use Rattle.found_pairs.specs.Laws.{pairs_listed}
use Rattle.found_pairs.proofs.OneLine.{line_selects}
use Rattle.found_pairs.proofs.RegCells.{IsRegPair}

-- the line of a pair of registers
pub record IsLineOf (l : Linked) (x : FoundLine) (p : Pair) : Type 0 where
  pub readable : IsReadable x
  pub start : x.start ≡ start_name l p.start
  pub end_ : x.end ≡ end_name l p.end
  pub regs : IsRegPair l p

-- the lines of pairs, in order; a hold line is that of a pair as well, and selects nothing
abbrev pub AreLines : Linked → List CheckLine → List Pair → Type 0
AreLines l [] [] = Unit {0}
AreLines l [] (p ∷ pairs) = ⊥
AreLines l (Setup x ∷ lines) [] = ⊥
AreLines l (Setup x ∷ lines) (p ∷ pairs) = IsLineOf l x p × AreLines l lines pairs
AreLines l (Hold x ∷ lines) pairs = IsReadable x × AreLines l lines pairs

-- those of pairs and their lines, with hold lines or without
pub lines_are : (l : Linked) (hold : Bool) (found : List FoundLine) (pairs : List Pair) → AllZip (IsLineOf l) found pairs
    → AreLines l (all_lines hold found) pairs
lines_are l hold [] [] are = tt
lines_are l hold [] (p ∷ pairs) are = absurd are
lines_are l hold (x ∷ found) [] are = absurd are
lines_are l false (x ∷ found) (p ∷ pairs) (is, are) = (is, lines_are l false found pairs are)
lines_are l true (x ∷ found) (p ∷ pairs) (is, are) = (is, (is.readable, lines_are l true found pairs are))

-- they can be read
pub all_readable : (l : Linked) (lines : List CheckLine) (pairs : List Pair) → AreLines l lines pairs → All IsReadableLine lines
all_readable l [] pairs are = All-nil IsReadableLine
all_readable l (Setup x ∷ lines) [] are = absurd are
all_readable l (Setup x ∷ lines) (p ∷ pairs) (is, are) = All-cons IsReadableLine (Setup x) lines is.readable (all_readable l lines pairs are)
all_readable l (Hold x ∷ lines) pairs (is, are) = All-cons IsReadableLine (Hold x) lines is (all_readable l lines pairs are)

-- each pair by a command of its own, from one on
abbrev pub chosen_from : ℕ → List CheckLine → List Pair → List Chosen
chosen_from place [] pairs = []
chosen_from place (Setup x ∷ lines) [] = []
chosen_from place (Setup x ∷ lines) (p ∷ pairs) = chosen_by place (side false p) ∷ chosen_from (place + 1) lines pairs
chosen_from place (Hold x ∷ lines) pairs = chosen_from (place + 1) lines pairs

-- the commands of a script from a place on
abbrev pub StandFrom : Script → ℕ → List Command → Type 0
StandFrom script place cs = (j : ℕ) → slice_get script.commands (place + j) ≡ slice_get cs j

-- the first of them stands at that place
stand_here : (script : Script) (place : ℕ) (c : Command) (cs : List Command) → StandFrom script place (c ∷ cs) → slice_get script.commands place ≡ Some c
stand_here script place c cs stand =
    let at : place + 0 ≡ place = omega arith in
    subst (λ (n : ℕ). slice_get script.commands n ≡ Some c) at (stand 0)

-- and the others after it
stand_later : (script : Script) (place : ℕ) (c : Command) (cs : List Command) → StandFrom script place (c ∷ cs) → StandFrom script (place + 1) cs
stand_later script place c cs stand j =
    let at : place + suc j ≡ (place + 1) + j = omega arith in
    subst (λ (n : ℕ). slice_get script.commands n ≡ slice_get cs j) at (stand (suc j))

-- what one command selects, with its place
command_those : (l : Linked) (script : Script) (k : ℕ) (c : Command) (all more : List Side) → slice_get script.commands k ≡ Some c
    → AreThose (spec.SelectsBy l script (judging_by false 0) c.what) all more
    → AreThose (spec.IsSelected l script (judging_by false 0)) (map (chosen_by k) all) (map (chosen_by k) more)
command_those l script k c all more here those =
    those_map (chosen_by k) (spec.SelectsBy l script (judging_by false 0) c.what) (spec.IsSelected l script (judging_by false 0)) all more
    (λ s sel. (c, here, sel))
    (λ s sel. subst (λ (d : Command). spec.SelectsBy l script (judging_by false 0) d.what s) (same_Some sel.0 c (sym sel.1 ∙ here)) sel.2) those

-- what the lines select
pub lines_select : (l : Linked) (script : Script) (place number : ℕ) (lines : List CheckLine) (pairs : List Pair) → IsUsable l
    → AreLines l lines pairs → StandFrom script place (commands_from number lines)
    → AreThose (spec.IsSelected l script (judging_by false 0)) (each_at (spec.pairs_at l) place (commands_from number lines))
    (chosen_from place lines pairs)
lines_select l script place number [] [] usable are stand = All_seen
lines_select l script place number [] (p ∷ pairs) usable are stand = absurd are
lines_select l script place number (Setup x ∷ lines) [] usable are stand = absurd are
lines_select l script place number (Setup x ∷ lines) (p ∷ pairs) usable (is, are) stand =
    let c : Command = record { line = number; what = exception_by (Setup x) } in
    let cs = commands_from (number + 1) lines in
    let one = line_selects l script x p usable is.readable.start is.readable.end is.start is.end_ is.regs in
    those_append (spec.IsSelected l script (judging_by false 0)) (map (chosen_by place) (spec.all_sides l)) (chosen_by place (side false p) ∷ [])
    (each_at (spec.pairs_at l) (place + 1) cs) (chosen_from (place + 1) lines pairs)
    (command_those l script place c (spec.all_sides l) (side false p ∷ []) (stand_here script place c cs stand) one)
    (lines_select l script (place + 1) (number + 1) lines pairs usable are (stand_later script place c cs stand))
lines_select l script place number (Hold x ∷ lines) pairs usable (is, are) stand =
    let c : Command = record { line = number; what = exception_by (Hold x) } in
    let cs = commands_from (number + 1) lines in
    let none = those_none (spec.SelectsBy l script (judging_by false 0) c.what) (spec.all_sides l) (λ s selects. selects) in
    those_append (spec.IsSelected l script (judging_by false 0)) (map (chosen_by place) (spec.all_sides l)) []
    (each_at (spec.pairs_at l) (place + 1) cs) (chosen_from (place + 1) lines pairs)
    (command_those l script place c (spec.all_sides l) [] (stand_here script place c cs stand) none)
    (lines_select l script (place + 1) (number + 1) lines pairs usable are (stand_later script place c cs stand))

-- the claims of the pairs
abbrev pub line_claims : Judging → List FoundLine → List Pair → List Claim
line_claims judging [] pairs = []
line_claims judging (x ∷ found) [] = []
line_claims judging (x ∷ found) (p ∷ pairs) = claim_with (Multi x.k) Any judging [] (side false p) ∷ line_claims judging found pairs

-- the claims of their lines
abbrev check_claims : Judging → List CheckLine → List Pair → List Claim
check_claims judging [] pairs = []
check_claims judging (Setup x ∷ lines) [] = []
check_claims judging (Setup x ∷ lines) (p ∷ pairs) = claim_with (Multi x.k) Any judging [] (side false p) ∷ check_claims judging lines pairs
check_claims judging (Hold x ∷ lines) pairs = check_claims judging lines pairs

-- these are the same, with hold lines or without
same_claims : (judging : Judging) (hold : Bool) (found : List FoundLine) (pairs : List Pair)
    → check_claims judging (all_lines hold found) pairs ≡ line_claims judging found pairs
same_claims judging hold [] pairs = refl
same_claims judging false (x ∷ found) [] = refl
same_claims judging false (x ∷ found) (p ∷ pairs) =
    ap (λ (claims : List Claim). claim_with (Multi x.k) Any judging [] (side false p) ∷ claims) (same_claims judging false found pairs)
same_claims judging true (x ∷ found) [] = refl
same_claims judging true (x ∷ found) (p ∷ pairs) =
    ap (λ (claims : List Claim). claim_with (Multi x.k) Any judging [] (side false p) ∷ claims) (same_claims judging true found pairs)

-- what the commands claim
checks_claim : (l : Linked) (script : Script) (judging : Judging) (place number : ℕ) (lines : List CheckLine) (pairs : List Pair)
    → AreLines l lines pairs → StandFrom script place (commands_from number lines)
    → map (spec.claim_of l script judging) (chosen_from place lines pairs) ≡ map Some (check_claims judging lines pairs)
checks_claim l script judging place number [] pairs are stand = refl
checks_claim l script judging place number (Setup x ∷ lines) [] are stand = absurd are
checks_claim l script judging place number (Setup x ∷ lines) (p ∷ pairs) (is, are) stand =
    let c : Command = record { line = number; what = exception_by (Setup x) } in
    let cs = commands_from (number + 1) lines in
    ap (λ (o : Option Command). spec.claim_at l script judging (side false p) o ∷ map (spec.claim_of l script judging) (chosen_from (place + 1) lines pairs))
    (stand_here script place c cs stand)
    ∙ ap (λ (claims : List (Option Claim)). Some (claim_with (Multi x.k) Any judging [] (side false p)) ∷ claims)
    (checks_claim l script judging (place + 1) (number + 1) lines pairs are (stand_later script place c cs stand))
checks_claim l script judging place number (Hold x ∷ lines) pairs (is, are) stand =
    let c : Command = record { line = number; what = exception_by (Hold x) } in
    checks_claim l script judging (place + 1) (number + 1) lines pairs are (stand_later script place c (commands_from (number + 1) lines) stand)

-- so they claim what the pairs do
pub lines_claim : (l : Linked) (script : Script) (judging : Judging) (hold : Bool) (place number : ℕ) (found : List FoundLine) (pairs : List Pair)
    → AllZip (IsLineOf l) found pairs → StandFrom script place (commands_from number (all_lines hold found))
    → map (spec.claim_of l script judging) (chosen_from place (all_lines hold found) pairs) ≡ map Some (line_claims judging found pairs)
lines_claim l script judging hold place number found pairs are stand =
    checks_claim l script judging place number (all_lines hold found) pairs (lines_are l hold found pairs are) stand
    ∙ ap (map Some) (same_claims judging hold found pairs)

-- the numbers of later commands
numbers_later : (script : Script) (place n : ℕ) → ((j : ℕ) → j < suc n → spec.number_of script (place + j) ≡ place + j + 1)
    → (j : ℕ) → j < n → spec.number_of script ((place + 1) + j) ≡ (place + 1) + j + 1
numbers_later script place n number j low =
    let at : place + suc j ≡ (place + 1) + j = omega arith in
    subst (λ (k : ℕ). spec.number_of script k ≡ k + 1) at (number (suc j) (omega (arith, low)))

-- the pairs as they are listed, where each command has its number
pub lines_list : (l : Linked) (script : Script) (place : ℕ) (lines : List CheckLine) (pairs : List Pair) → AreLines l lines pairs
    → ((j : ℕ) → j < length lines → spec.number_of script (place + j) ≡ place + j + 1)
    → map (spec.line_of l script) (chosen_from place lines pairs) ≡ pairs_listed (place + 1) lines
lines_list l script place [] pairs are number = refl
lines_list l script place (Setup x ∷ lines) [] are number = absurd are
lines_list l script place (Setup x ∷ lines) (p ∷ pairs) (is, are) number =
    let here : spec.number_of script place ≡ place + 1 =
    let at : place + 0 ≡ place = omega arith in subst (λ (n : ℕ). spec.number_of script n ≡ n + 1) at (number 0 (omega arith)) in
    let later = lines_list l script (place + 1) lines pairs are (numbers_later script place (length lines) number) in
    let line : spec.line_of l script (chosen_by place (side false p)) ≡ record { command = place + 1; start = x.start; end = x.end } =
    ap (λ (n : ℕ). spec.pair_line l n p) here
    ∙ ap (λ (s : List ℕ). record { command = place + 1; start = s; end = end_name l p.end }) (sym is.start)
    ∙ ap (λ (s : List ℕ). record { command = place + 1; start = x.start; end = s }) (sym is.end_) in
    ap (λ (y : PairLine). y ∷ map (spec.line_of l script) (chosen_from (place + 1) lines pairs)) line
    ∙ ap (λ (ys : List PairLine). record { command = place + 1; start = x.start; end = x.end } ∷ ys) later
lines_list l script place (Hold x ∷ lines) pairs (is, are) number =
    lines_list l script (place + 1) lines pairs are (numbers_later script place (length lines) number)

-- one exception more
one_more : (c : Command) (rest : List Command) (n : ℕ) → spec.is_exception c.what ≡ true
    → count_by (λ (d : Command). spec.is_exception d.what) rest ≡ n → count_by (λ (d : Command). spec.is_exception d.what) (c ∷ rest) ≡ suc n
one_more c rest n is later =
    let test = λ (d : Command). spec.is_exception d.what in
    sum_by-append (λ (d : Command). cond {A = ℕ} (test d) 1 0) (c ∷ []) rest ∙ rw is (omega (arith, later))

-- each line is an exception
pub all_exceptions : (n number : ℕ) (lines : List CheckLine) → n ≤ length lines
    → count_by (λ (c : Command). spec.is_exception c.what) (take n (commands_from number lines)) ≡ n
all_exceptions zero number lines low = refl
all_exceptions (suc n) number [] low = absurd (omega (arith, low))
all_exceptions (suc n) number (Setup x ∷ lines) low =
    one_more (record { line = number; what = exception_by (Setup x) }) (take n (commands_from (number + 1) lines)) n refl
    (all_exceptions n (number + 1) lines (omega (arith, low)))
all_exceptions (suc n) number (Hold x ∷ lines) low =
    one_more (record { line = number; what = exception_by (Hold x) }) (take n (commands_from (number + 1) lines)) n refl
    (all_exceptions n (number + 1) lines (omega (arith, low)))

-- no more are chosen than there are pairs
pub length-chosen_from : (place : ℕ) (lines : List CheckLine) (pairs : List Pair) → length (chosen_from place lines pairs) ≤ length pairs
length-chosen_from place [] pairs = omega arith
length-chosen_from place (Setup x ∷ lines) [] = omega arith
length-chosen_from place (Setup x ∷ lines) (p ∷ pairs) = omega (arith, length-chosen_from (place + 1) lines pairs)
length-chosen_from place (Hold x ∷ lines) pairs = length-chosen_from (place + 1) lines pairs
