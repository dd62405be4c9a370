-- What the commands before a place select, with one command more.
use Rattle.std.proofs.Common.{arith, ◌≡◌, ◌∙◌, ◌≢◌, ℕ, ◌+◌, ◌-◌, ◌<◌, ◌≤◌, List, [], ◌++◌, length, map}
use Rattle.std.proofs.Common.{take, drop, refl, sym, ap, subst, append_assoc, length-append}
use Rattle.std.specs.Prelude.{Option, Some, slice_get, All, count_by, ◌==◌}
use Rattle.std.proofs.lemmas.List.{map-append, length-map, take_all, take-append-drop, length-take}
use Rattle.std.proofs.lemmas.List.Elements.{All-push, All-nil}
use Rattle.std.proofs.lemmas.Option.{slice_get_within, same_Some}
use Rattle.net_model.specs.declared.claims.Claim.{Claim}
use Rattle.net_paths.specs.Those.{AreThose, All_seen}
use Rattle.net_paths.proofs.Sifting.{those_append, those_map}
use Rattle.linked_types.specs.declared.names.Linked.{Linked}
use Rattle.script_types.specs.declared.scripts.Command.{Command}
use Rattle.script_types.specs.declared.scripts.Script.{Script}
use Rattle.sdcv_base.specs.Seqs.{each_at}
use Rattle.list_laws.proofs.Joining.{each_at_more, each_at-append, take_next}
use Rattle.run_options.specs.declared.judging.Judging.{Judging}
use Rattle.exception_expand.specs.declared.sides.Side.{Side}
use Rattle.selected_types.specs.declared.selections.Selected.{Selected}
use Rattle.selected_types.specs.declared.selections.CommandLine.{CommandLine}
use Rattle.selected_types.specs.declared.selections.PairLine.{PairLine}
use Rattle.exception_expand.specs.Asking.{Asked, asked}
use Rattle.exception_expand.specs.Selections as spec
use Rattle.exception_expand.specs.Selections.{Chosen}
use Rattle.exception_expand.specs.Causes.{HasMore}
use Rattle.exception_expand.specs.Pairs.{is_judged}
use Rattle.exception_expand.specs.Progress.{IsUpTo, Adds}
use Rattle.linked_types.specs.Usable.{IsUsable}
use Rattle.exception_expand.proofs.Claiming.{claims_fit}
use Rattle.exception_expand.proofs.Counting.{count_append, count_own, count_other, each_at_same, lines_count, map_map}

-- a pair that a command selects, with the command's place
selected_at : (l : Linked) (script : Script) (judging : Judging) (k : ℕ) (c : Command) (p : Side) → slice_get script.commands k ≡ Some c
    → spec.SelectsBy l script judging c.what p
    → spec.IsSelected l script judging (spec.chosen_by k p)
selected_at l script judging k c p here sel = (c, here, sel)

at_selected : (l : Linked) (script : Script) (judging : Judging) (k : ℕ) (c : Command) (p : Side) → slice_get script.commands k ≡ Some c
    → spec.IsSelected l script judging (spec.chosen_by k p) → spec.SelectsBy l script judging c.what p
at_selected l script judging k c p here sel =
    let same : sel.0 ≡ c = same_Some sel.0 c (sym sel.1 ∙ here) in
    subst (λ (d : Command). spec.SelectsBy l script judging d.what p) same sel.2

-- those of the pairs of one command
command_those : (l : Linked) (script : Script) (judging : Judging) (k : ℕ) (c : Command) (all more : List Side) → slice_get script.commands k ≡ Some c
    → AreThose (spec.SelectsBy l script judging c.what) all more
    → AreThose (spec.IsSelected l script judging) (map (spec.chosen_by k) all) (map (spec.chosen_by k) more)
command_those l script judging k c all more here those =
    those_map (spec.chosen_by k) (spec.SelectsBy l script judging c.what) (spec.IsSelected l script judging) all more
    (λ p sel. selected_at l script judging k c p here sel)
    (λ p sel. at_selected l script judging k c p here sel) those

more_those : (l : Linked) (script : Script) (judging : Judging) (k : ℕ) (c : Command) (chosen : List Chosen) (more : List Side)
    → slice_get script.commands k ≡ Some c
    → AreThose (spec.IsSelected l script judging) (each_at (spec.pairs_at l) 0 (take k script.commands)) chosen
    → AreThose (spec.SelectsBy l script judging c.what) (spec.all_sides l) more
    → AreThose (spec.IsSelected l script judging) (each_at (spec.pairs_at l) 0 (take (k + 1) script.commands)) (chosen ++ map (spec.chosen_by k) more)
more_those l script judging k c chosen more here before those =
    subst (λ (xs : List Chosen). AreThose (spec.IsSelected l script judging) xs (chosen ++ map (spec.chosen_by k) more))
    (sym (each_at_more (spec.pairs_at l) script.commands k c here))
    (those_append (spec.IsSelected l script judging) (each_at (spec.pairs_at l) 0 (take k script.commands)) chosen
    (map (spec.chosen_by k) (spec.all_sides l))
    (map (spec.chosen_by k) more) before (command_those l script judging k c (spec.all_sides l) more here those))

count_more : (chosen : List Chosen) (k place : ℕ) (more : List Side) → spec.count_at (chosen ++ map (spec.chosen_by k) more) place ≡
    spec.count_at chosen place + spec.count_at (map (spec.chosen_by k) more) place
count_more chosen k place more = count_append (λ (x : Chosen). x.command == place) chosen (map (spec.chosen_by k) more)

-- the lines of the commands before stay
lines_kept : (l : Linked) (script : Script) (judging : Judging) (k : ℕ) (chosen : List Chosen) (more : List Side)
    → each_at (spec.lines_at l script judging chosen) 0 (take k script.commands) ≡
    each_at (spec.lines_at l script judging (chosen ++ map (spec.chosen_by k) more)) 0 (take k script.commands)
lines_kept l script judging k chosen more =
    each_at_same (spec.lines_at l script judging chosen) (spec.lines_at l script judging (chosen ++ map (spec.chosen_by k) more)) 0 (take k script.commands)
    (λ j c here.
    let short : length (take k script.commands) ≤ k = omega (arith, length-take k script.commands) in
    let low : j < k = omega (arith, short, slice_get_within (take k script.commands) j c here) in
    let other : k ≢ 0 + j = omega (arith, low) in
    let same : spec.count_at chosen (0 + j) ≡ spec.count_at (chosen ++ map (spec.chosen_by k) more) (0 + j) =
    omega (arith, count_more chosen k (0 + j) more, count_other k (0 + j) more other) in
    ap (λ (n : ℕ). spec.lines_by l script judging n c.line c.what) same)

lines_more : (l : Linked) (script : Script) (judging : Judging) (k : ℕ) (c : Command) (chosen : List Chosen) (more : List Side) (old new : List CommandLine)
    → slice_get script.commands k ≡ Some c → spec.count_at chosen k ≡ 0
    → old ≡ each_at (spec.lines_at l script judging chosen) 0 (take k script.commands)
    → new ≡ old ++ spec.lines_by l script judging (length more) c.line c.what
    → new ≡ each_at (spec.lines_at l script judging (chosen ++ map (spec.chosen_by k) more)) 0 (take (k + 1) script.commands)
lines_more l script judging k c chosen more old new here none before turn =
    let all = chosen ++ map (spec.chosen_by k) more in
    let count : length more ≡ spec.count_at all k = omega (arith, none, count_more chosen k k more, count_own k more) in
    turn ∙ ap (λ (xs : List CommandLine). xs ++ spec.lines_by l script judging (length more) c.line c.what) (before ∙ lines_kept l script judging k chosen more)
    ∙ ap (λ (n : ℕ). each_at (spec.lines_at l script judging all) 0 (take k script.commands) ++ spec.lines_by l script judging n c.line c.what) count
    ∙ sym (each_at_more (spec.lines_at l script judging all) script.commands k c here)

pairs_more : (l : Linked) (script : Script) (k : ℕ) (chosen : List Chosen) (more : List Side) (number : ℕ) (old new : List PairLine)
    → number ≡ spec.number_of script k → old ≡ map (spec.line_of l script) chosen → new ≡ old ++ map (spec.side_line l number) more
    → new ≡ map (spec.line_of l script) (chosen ++ map (spec.chosen_by k) more)
pairs_more l script k chosen more number old new is before turn =
    turn ∙ ap (λ (xs : List PairLine). xs ++ map (spec.side_line l number) more) before
    ∙ ap (λ (n : ℕ). map (spec.line_of l script) chosen ++ map (spec.side_line l n) more) is
    ∙ ap (λ (xs : List PairLine). map (spec.line_of l script) chosen ++ xs) (sym (map_map (spec.line_of l script) (spec.chosen_by k) more))
    ∙ sym (map-append (spec.line_of l script) chosen (map (spec.chosen_by k) more))

claims_more : (l : Linked) (script : Script) (judging : Judging) (k : ℕ) (c : Command) (chosen : List Chosen) (more : List Side) (old new : List (Option Claim))
    → slice_get script.commands k ≡ Some c → old ≡ map (spec.claim_of l script judging) chosen
    → new ≡ old ++ map (λ p. spec.claim_by l script judging p c.what) more
    → new ≡ map (spec.claim_of l script judging) (chosen ++ map (spec.chosen_by k) more)
claims_more l script judging k c chosen more old new here before turn =
    let of = spec.claim_of l script judging in
    turn ∙ ap (λ (xs : List (Option Claim)). xs ++ map (λ p. spec.claim_by l script judging p c.what) more) before
    ∙ ap (λ (o : Option Command). map of chosen ++ map (λ (p : Side). spec.claim_at l script judging p o) more) (sym here)
    ∙ ap (λ (xs : List (Option Claim)). map of chosen ++ xs) (sym (map_map of (spec.chosen_by k) more))
    ∙ sym (map-append of chosen (map (spec.chosen_by k) more))

-- one command more
pub upto_more : (l : Linked) (script : Script) (judging : Judging) (k : ℕ) (c : Command) (old new : Selected) → slice_get script.commands k ≡ Some c
    → IsUpTo l script judging k old → Adds l script judging c.line c.what old new → IsUpTo l script judging (k + 1) new
upto_more l script judging k c old new here before adds =
    let chosen = before.chosen in
    let more = adds.more in
    let all = chosen ++ map (spec.chosen_by k) more in
    let commands : new.commands ≡ each_at (spec.lines_at l script judging all) 0 (take (k + 1) script.commands) =
    lines_more l script judging k c chosen more old.commands new.commands here (before.none_after k (omega arith)) before.commands adds.commands in
    let number : length new.commands ≡ spec.number_of script k =
    ap (λ (xs : List CommandLine). length xs) commands ∙ lines_count l script judging all 0 (take (k + 1) script.commands) in
    record {
      chosen = all;
      those = more_those l script judging k c chosen more here before.those adds.those;
      none_after = λ place past.
          let low : k ≤ place = omega (arith, past) in
          let other : k ≢ place = omega (arith, past) in
          omega (arith, count_more chosen k place more, count_other k place more other, before.none_after place low);
      pairs = pairs_more l script k chosen more (length new.commands) old.pairs new.pairs number before.pairs adds.pairs;
      claims = claims_more l script judging k c chosen more (map Some old.claims) (map Some new.claims) here before.claims adds.claims;
      commands = commands;
      sets = subst (All (λ (d : Command). spec.HasFewSets judging.hold d.what)) (sym (take_next script.commands k c here))
          (All-push (λ (d : Command). spec.HasFewSets judging.hold d.what) (take k script.commands) c before.sets adds.sets);
      few = adds.few;
    }

-- no command yet
pub upto_none : (l : Linked) (script : Script) (judging : Judging) (s : Selected) → s.commands ≡ [] → s.pairs ≡ [] → s.claims ≡ [] → IsUpTo l script judging 0 s
upto_none l script judging s commands pairs claims = record {
  chosen = [];
  those = All_seen;
  none_after = λ place past. refl;
  pairs = pairs;
  claims = ap (map Some) claims;
  commands = commands;
  sets = All-nil (λ (d : Command). spec.HasFewSets judging.hold d.what);
  few = let none : length s.claims ≡ 0 = ap (λ (xs : List Claim). length xs) claims in omega (arith, none);
}

-- a command that selects too many sides of pairs
pub more_in_script : (l : Linked) (script : Script) (judging : Judging) (k : ℕ) (c : Command) (a : Asked) (old : Selected)
    → slice_get script.commands k ≡ Some c
    → asked judging.hold c.what ≡ Some a → IsUpTo l script judging k old
    → HasMore (spec.IsAskedOf l script judging.strict (Some a)) (spec.all_sides l) (100000 - length old.claims)
    → HasMore (spec.IsSelected l script judging) (spec.script_pairs l script) 100000
more_in_script l script judging k c a old here asks before has =
    let by = spec.chosen_by k in
    let at = spec.pairs_at l in
    let cs = script.commands in
    let E = each_at at 0 (take k cs) in
    let R = each_at at (0 + length (take (k + 1) cs)) (drop (k + 1) cs) in
    let A = map by has.first in
    let B = map by has.rest in
    let split : spec.script_pairs l script ≡ each_at at 0 (take (k + 1) cs) ++ R =
    ap (each_at at 0) (sym (take-append-drop (k + 1) cs)) ∙ each_at-append at 0 (take (k + 1) cs) (drop (k + 1) cs) in
    let mid : each_at at 0 (take (k + 1) cs) ≡ E ++ (A ++ B) =
    each_at_more at cs k c here ∙ ap (λ (ps : List Side). E ++ map by ps) has.whole ∙ ap (λ (xs : List Chosen). E ++ xs) (map-append by has.first has.rest) in
    let count : length before.chosen ≡ length old.claims =
    sym (length-map before.chosen (spec.claim_of l script judging)) ∙ sym (ap (λ (xs : List (Option Claim)). length xs) before.claims) ∙ length-map
    old.claims Some in
    record {
      first = E ++ A;
      rest = B ++ R;
      whole = split ∙ ap (λ (xs : List Chosen). xs ++ R) (mid ∙ sym (append_assoc E A B)) ∙ append_assoc (E ++ A) B R;
      found = before.chosen ++ map by has.found;
      those = those_append (spec.IsSelected l script judging) E before.chosen A (map by has.found) before.those
          (command_those l script judging k c has.first has.found here
          (subst (λ (o : Option Asked). AreThose (spec.IsAskedOf l script judging.strict o) has.first has.found) (sym asks) has.those));
      more = omega (arith, has.more, count, length-append before.chosen (map by has.found), length-map has.found by, before.few);
    }

-- all commands, of whose claims few enough need a verdict
pub selection_of : (l : Linked) (script : Script) (judging : Judging) (s : Selected) → IsUsable l → judging.lag ≤ 8 → spec.HasMultipliers script
    → IsUpTo l script judging (length script.commands) s
    → count_by (is_judged l.design) s.claims ≤ 10000 → spec.IsSelectionOf l script judging s
selection_of l script judging s usable short kinds upto few =
    let whole : take (length script.commands) script.commands ≡ script.commands = take_all (length script.commands) script.commands (omega arith) in
    let count : length upto.chosen ≡ length s.claims =
    sym (length-map upto.chosen (spec.claim_of l script judging)) ∙ sym (ap (λ (xs : List (Option Claim)). length xs) upto.claims) ∙ length-map s.claims Some in
    let those : AreThose (spec.IsSelected l script judging) (spec.script_pairs l script) upto.chosen =
    subst (λ (cs : List Command). AreThose (spec.IsSelected l script judging) (each_at (spec.pairs_at l) 0 cs) upto.chosen) whole upto.those in
    let sets : All (λ (d : Command). spec.HasFewSets judging.hold d.what) script.commands =
    subst (All (λ (d : Command). spec.HasFewSets judging.hold d.what)) whole upto.sets in
    record {
      chosen = upto.chosen;
      those = those;
      pairs = upto.pairs;
      claims = upto.claims;
      commands = upto.commands ∙ ap (each_at (spec.lines_at l script judging upto.chosen) 0) whole;
      sets = sets;
      few = omega (arith, upto.few, count);
      judged = few;
      fit = claims_fit l script judging upto.chosen s.claims usable short kinds sets those upto.claims;
    }
