-- The multipliers of a script that a text is: each is from 1 to 16.
use Rattle.std.proofs.Common.{◌≡◌, ◌≤◌, ℕ, zero, suc, Bool, true, false, not, ◌&&◌, nat_le, List, [], ◌∷◌, ◌++◌, drop, length}
use Rattle.std.proofs.Common.{Option, Some, None, Result, Ok, Err, refl, subst, arith}
use Rattle.std.specs.Prelude.{All, is_some, if◌then◌else◌}
use Rattle.std.specs.Str.Parse.{digits_value}
use Rattle.std.proofs.lemmas.List.Elements.{All-nil, All-push}
use Rattle.std.proofs.lemmas.Bool.Decides.{nat_tests}
use Rattle.texts.specs.Rules.{◌>>=◌}
use Rattle.sdcv_base.specs.declared.kinds.Kind.{Kind}
use Rattle.sdcv_base.specs.declared.kinds.Kind.TheVariants.{False, Multi}
use Rattle.net_model.specs.Fits.{IsKindFit}
use Rattle.sdc_words.specs.declared.words.Word.{Word}
use Rattle.sdc_words.specs.declared.words.RawCommand.{RawCommand}
use Rattle.sdc_words.specs.Commands.{command_at}
use Rattle.sdc_words.specs.Lines.{cleaned}
use Rattle.script_types.specs.declared.faults.SdcFault.{SdcFault}
use Rattle.script_types.specs.declared.faults.SdcFault.TheVariants as fault
use Rattle.script_types.specs.declared.objects.Object.{Object}
use Rattle.run_options.specs.declared.forms.ScriptForm.{ScriptForm}
use Rattle.sdc_values.specs.declared.values.Value.{Value}
use Rattle.sdc_values.specs.declared.values.Value.TheVariants as value
use Rattle.sdc_values.specs.declared.nested_kinds.Nesting.{Nesting}
use Rattle.sdc_values.specs.declared.values.Said.{Said}
use Rattle.sdcv_base.specs.Steps.{after_all}
use Rattle.sdc_values.specs.Lists.{objects_of}
use Rattle.sdc_values.specs.Variables.{Vars, with_value}
use Rattle.sdc_values.specs.Lines.{said_words, command_name}
use Rattle.script_types.specs.declared.scripts.What.{What}
use Rattle.script_types.specs.declared.scripts.What.TheVariants as what
use Rattle.script_types.specs.declared.scripts.Command.{Command}
use Rattle.script_types.specs.declared.scripts.Script.{Script}
use Rattle.sdc_text.specs.declared.heads.Head.{Head}
use Rattle.sdc_text.specs.declared.kinds.CommandKind.{CommandKind}
use Rattle.sdc_text.specs.declared.kinds.CommandKind.TheVariants as kind
use Rattle.sdc_text.specs.declared.exceptions.Reading.{Reading}
use Rattle.sdc_text.specs.declared.options.PathCommand.{PathCommand}
use Rattle.sdc_text.specs.declared.options.PathOption.{PathOption}
use Rattle.sdc_text.specs.declared.options.ClockCommand.{ClockCommand}
use Rattle.sdc_text.specs.declared.options.ClockCommand.TheVariants as clocks
use Rattle.sdc_text.specs.declared.options.ClockOption.{ClockOption}
use Rattle.sdc_text.specs.declared.delays.DelayReading.{DelayReading}
use Rattle.sdc_text.specs.declared.clocks.ClockReading.{ClockReading}
use Rattle.sdc_text.specs.declared.progresses.Progress.{Progress}
use Rattle.sdc_text.specs.Numbers.{is_digits, is_whole, multiplier}
use Rattle.sdc_text.specs.Heads.{bad_option, bad_number, lacking, surplus, wanted_text}
use Rattle.sdc_text.specs.Forms.{is_wide, nesting_of}
use Rattle.sdc_text.specs.Kinds.{command_kind}
use Rattle.sdc_text.specs.Places.{is_slash, instance_of, scope_named, scope_of, separator_of}
use Rattle.sdc_text.specs.Delays as delays
use Rattle.sdc_text.specs.Clocks as clock
use Rattle.sdc_text.specs.Cases.{one_word, two_words, case_value, no_option, case_of, constant_of, set_of}
use Rattle.sdc_text.specs.Exceptions as path
use Rattle.sdc_text.specs.Progresses.{fresh, with_command, what_of, what_or, scope_by, after_set, after_said, after_told_words, after_kind, after_command}
use Rattle.sdc_text.specs.Scripts.{lifted, next_at, progress_from, progress_of, placed, script_of}
use Rattle.exception_expand.specs.Selections.{HasMultiplier, HasMultipliers}

-- a step gave something
step_gave : {A B F : Type 0} (r : Result A F) (f : A → Result B F) (y : B) → (r >>= f) ≡ Ok y → (x : A) × (r ≡ Ok x) × (f x ≡ Ok y)
step_gave (Ok x) f y is = (x, refl, is)
step_gave (Err why) f y is = absurd cc

-- a number that passes the test of a multiplier is one
in_range : (text : List ℕ) (n : ℕ) → (is_digits text && (nat_le 1 n && nat_le n 16)) ≡ true → (1 ≤ n) × (n ≤ 16)
in_range text n fits = (grind (arith, nat_tests), grind (arith, nat_tests))

number_fits : (text : List ℕ) (n k : ℕ) (fits : Bool) → (is_digits text && (nat_le 1 n && nat_le n 16)) ≡ fits
    → (if fits then Some n else None) ≡ Some k → IsKindFit (Multi k)
number_fits text n k true fits is = let same : n ≡ k = cc in subst (λ (m : ℕ). IsKindFit (Multi m)) same (in_range text n fits)
number_fits text n k false fits is = absurd cc

multiplier_fits : (text : List ℕ) (k : ℕ) → multiplier text ≡ Some k → IsKindFit (Multi k)
unfolding multiplier
multiplier_fits text k is =
    let n = digits_value 10 text in number_fits text n k (is_digits text && (nat_le 1 n && nat_le n 16)) refl is

-- the kind of a claim fits, where there is one
abbrev HasFit : Option Kind → Type 0
HasFit None = Unit {0}
HasFit (Some k) = IsKindFit k

found_fits : (r : Reading) (text : List ℕ) (number : Option ℕ) (found : Option Kind) → multiplier text ≡ number
    → ◌≡◌ {A = Result (Option Kind) SdcFault} (elim number [ Some k ↦ Ok (Some (Multi k)) | None ↦ Err (bad_number r.head text) ]) (Ok found)
    → HasFit found
found_fits r text (Some k) found number is =
    let made : Option Kind = Some (Multi k) in let same : made ≡ found = cc in subst HasFit same (multiplier_fits text k number)
found_fits r text None found number is = absurd cc

whole_fits : (r : Reading) (text : List ℕ) (whole : Bool) (found : Option Kind)
    → ◌≡◌ {A = Result (Option Kind) SdcFault} (if whole then Ok None else Err (bad_number r.head text)) (Ok found) → HasFit found
whole_fits r text true found is = let made : Option Kind = None in let same : made ≡ found = cc in subst HasFit same tt
whole_fits r text false found is = absurd cc

hold_fits : (r : Reading) (text : List ℕ) (hold : Bool) (found : Option Kind) → ◌≡◌ {A = Result (Option Kind) SdcFault} (
    if hold then (if is_whole text then Ok None else Err (bad_number r.head text))
    else elim (multiplier text) [ Some k ↦ Ok (Some (Multi k)) | None ↦ Err (bad_number r.head text) ]) (Ok found) → HasFit found
hold_fits r text true found is = whole_fits r text (is_whole text) found is
hold_fits r text false found is = found_fits r text (multiplier text) found refl is

bare_fits : (hold : Bool) → HasFit (if hold then None else Some False)
bare_fits true = tt
bare_fits false = tt

kind_fits : (r : Reading) (number : Option Value) (found : Option Kind) → ◌≡◌ {A = Result (Option Kind) SdcFault} (elim number [
  | Some value ↦ wanted_text r.head value >>= λ text. path.kind_by r text
  | None ↦ Ok (if path.is_hold r then None else Some False)
]) (Ok found) → HasFit found
kind_fits r (Some value) found is =
    let (text, wanted, by) = step_gave (wanted_text r.head value) (λ text. path.kind_by r text) found is in
    hold_fits r text (path.is_hold r) found by
kind_fits r None found is =
    let made : Option Kind = (if path.is_hold r then None else Some False) in
    let same : made ≡ found = cc in subst HasFit same (bare_fits (path.is_hold r))

kind_of_fits : (r : Reading) (found : Option Kind) → path.kind_of r ≡ Ok found → HasFit found
unfolding path.kind_of
kind_of_fits r found is = kind_fits r r.number found is

-- what an exception claims
made_fits : (r : Reading) (found : Option Kind) → HasFit found → HasMultiplier (path.exception_or_hold r found)
made_fits r (Some k) fits = fits
made_fits r None fits = tt

beyond_fits : (r : Reading) (beyond : Option (List ℕ)) (w : What) → ◌≡◌ {A = Result What SdcFault} (elim beyond [
  | Some text ↦ Ok (what.Aside text)
  | None ↦ path.kind_of r >>= λ kind. Ok (path.exception_or_hold r kind)
]) (Ok w) → HasMultiplier w
beyond_fits r (Some text) w is = let same : what.Aside text ≡ w = cc in subst HasMultiplier same tt
beyond_fits r None w is =
    let (found, of, made) = step_gave (path.kind_of r) (λ k. Ok (path.exception_or_hold r k)) w is in
    let same : path.exception_or_hold r found ≡ w = cc in subst HasMultiplier same (made_fits r found (kind_of_fits r found of))

claimed_fits : (r : Reading) (w : What) → path.claimed r ≡ Ok w → HasMultiplier w
unfolding path.claimed
claimed_fits r w is = beyond_fits r (path.beyond r) w is

aside_fits : (r : Reading) (aside : Option (List ℕ)) (w : What)
    → ◌≡◌ {A = Result What SdcFault} (elim aside [ Some name ↦ Ok (what.Aside name) | None ↦ path.claimed r ]) (Ok w) → HasMultiplier w
aside_fits r (Some name) w is = let same : what.Aside name ≡ w = cc in subst HasMultiplier same tt
aside_fits r None w is = claimed_fits r w is

lacking_fits : (r : Reading) (lacks : Bool) (w : What) → ◌≡◌ {A = Result What SdcFault} (
    if lacks then Err (lacking r.head) else elim r.aside [ Some name ↦ Ok (what.Aside name) | None ↦ path.claimed r ]) (Ok w) → HasMultiplier w
lacking_fits r true w is = absurd cc
lacking_fits r false w is = aside_fits r r.aside w is

awaited_fits : (r : Reading) (awaited : Option (PathOption × List ℕ)) (w : What) → ◌≡◌ {A = Result What SdcFault} (elim awaited [
  | Some a ↦ Err (bad_option r.head a.1)
  | None ↦
      if path.is_multicycle r.path && not (is_some r.number) then Err (lacking r.head)
      else elim r.aside [ Some name ↦ Ok (what.Aside name) | None ↦ path.claimed r ]
]) (Ok w) → HasMultiplier w
awaited_fits r (Some a) w is = absurd cc
awaited_fits r None w is = lacking_fits r (path.is_multicycle r.path && not (is_some r.number)) w is

concluded_fits : (r : Reading) (w : What) → path.concluded r ≡ Ok w → HasMultiplier w
unfolding path.concluded
concluded_fits r w is = awaited_fits r r.awaited w is

exception_fits : (wide : Bool) (p : PathCommand) (head : Head) (said : List Said) (w : What) → path.exception_of wide p head said ≡ Ok w
    → HasMultiplier w
exception_fits wide p head said w is =
    let (r, all, made) = step_gave (after_all path.adds_word (path.bare wide p head) said) (λ r. path.concluded r) w is in concluded_fits r w made

-- a clock and a case analysis have no multiplier
generated_fits : (head : Head) (name : Option (List ℕ)) (source : Option (List Object)) (w : What) → clock.generated head name source ≡ Ok w
    → HasMultiplier w
unfolding clock.generated
generated_fits head (Some name) (Some objects) w is = let same : what.Generated name objects ≡ w = cc in subst HasMultiplier same tt
generated_fits head (Some name) None w is = absurd cc
generated_fits head None source w is = absurd cc

clock_made_fits : (command : ClockCommand) (r : ClockReading) (w : What) → clock.made command r ≡ Ok w → HasMultiplier w
unfolding clock.made
clock_made_fits clocks.Create r w is = let same : what.Clock r.name (clock.source_of r.source) ≡ w = cc in subst HasMultiplier same tt
clock_made_fits clocks.Generate r w is = generated_fits r.head r.name r.source w is

source_fits : (r : ClockReading) (awaited : Option (ClockOption × List ℕ)) (w : What) → ◌≡◌ {A = Result What SdcFault} (elim awaited [
  | Some a ↦ Err (bad_option r.head a.1)
  | None ↦ clock.made r.command r
]) (Ok w) → HasMultiplier w
source_fits r (Some a) w is = absurd cc
source_fits r None w is = clock_made_fits r.command r w is

clock_fits : (command : ClockCommand) (head : Head) (said : List Said) (w : What) → clock.clock_of command head said ≡ Ok w → HasMultiplier w
clock_fits command head said w is =
    let (r, all, made) = step_gave (after_all clock.adds_word (clock.bare command head) said) (λ r. clock.concluded r) w is in
    source_fits r r.awaited w made

case_fits : (head : Head) (said : List Said) (w : What) → case_of head said ≡ Ok w → HasMultiplier w
unfolding case_of
case_fits head said w is =
    let (words, two, with_words) = step_gave (two_words head said) _ w is in
    let (bit, valued, with_bit) = step_gave (case_value head (words.0).value) _ w with_words in
    let (listed, plain, with_list) = step_gave (no_option head words.1) _ w with_bit in
    let (objects, stand, made) = step_gave (objects_of listed) (λ objects. Ok (what.Case bit objects)) w with_list in
    let same : what.Case bit objects ≡ w = cc in subst HasMultiplier same tt

constant_fits : (bit : Bool) (head : Head) (said : List Said) (w : What) → constant_of bit head said ≡ Ok w → HasMultiplier w
unfolding constant_of
constant_fits bit head said w is =
    let (word, one, with_word) = step_gave (one_word head said) _ w is in
    let (listed, plain, with_list) = step_gave (no_option head word) _ w with_word in
    let (objects, stand, made) = step_gave (objects_of listed) (λ objects. Ok (what.Case bit objects)) w with_list in
    let same : what.Case bit objects ≡ w = cc in subst HasMultiplier same tt

-- nor has what is passed over
passed_fits : (w : What) → what.Passed ≡ w → HasMultiplier w
passed_fits w same = subst HasMultiplier same tt

instance_fits : (head : Head) (said : List Said) (w : What) → instance_of head said ≡ Ok w → HasMultiplier w
instance_fits head [] w is = passed_fits w cc
instance_fits head (word ∷ more) w is = absurd cc

slash_fits : (head : Head) (word : Said) (slash : Bool) (w : What)
    → ◌≡◌ {A = Result What SdcFault} (if slash then Ok what.Passed else Err (surplus head word.value)) (Ok w) → HasMultiplier w
slash_fits head word true w is = passed_fits w cc
slash_fits head word false w is = absurd cc

separator_fits : (head : Head) (said : List Said) (w : What) → separator_of head said ≡ Ok w → HasMultiplier w
unfolding separator_of
separator_fits head said w is =
    let (word, one, made) = step_gave (one_word head said) _ w is in slash_fits head word (is_slash word.value) w made

what_fits : (form : ScriptForm) (k : CommandKind) (head : Head) (said : List Said) (w : What) → what_of form k head said ≡ Ok w → HasMultiplier w
what_fits form kind.Set head said w is = passed_fits w cc
what_fits form kind.Clock head said w is = clock_fits clocks.Create head said w is
what_fits form kind.Case head said w is = case_fits head said w is
what_fits form (kind.Path p) head said w is = exception_fits (is_wide form) p head said w is
what_fits form kind.Passed head said w is = passed_fits w cc
what_fits form kind.Unjudged head said w is = passed_fits w cc
what_fits form kind.Scope head said w is = passed_fits w cc
what_fits form (kind.Delay output) head said w is = passed_fits w cc
what_fits form (kind.Constant bit) head said w is = constant_fits bit head said w is
what_fits form kind.Instance head said w is = instance_fits head said w is
what_fits form kind.Separator head said w is = separator_fits head said w is
what_fits form kind.Generated head said w is = clock_fits clocks.Generate head said w is

-- what a command says for whose words nothing is refused
or_fits : (other : What) (r : Result What SdcFault) → HasMultiplier other → ((w : What) → r ≡ Ok w → HasMultiplier w) → HasMultiplier (what_or other r)
or_fits other (Ok w) without all = all w refl
or_fits other (Err why) without all = without

named_scope_fits : (v : Value) → HasMultiplier (scope_named v)
named_scope_fits (value.Text text) = tt
named_scope_fits (value.Objects objects) = tt

scope_fits : (said : List Said) → HasMultiplier (scope_of said)
scope_fits [] = tt
scope_fits (word ∷ []) = named_scope_fits word.value
scope_fits (a ∷ (b ∷ more)) = tt

scope_by_fits : (nesting : Nesting) (vars : Vars) (line : ℕ) (words : List Word) (w : What) → scope_by nesting vars line words ≡ Ok w → HasMultiplier w
scope_by_fits nesting vars line words w is =
    let (said, of, made) = step_gave (said_words nesting vars line words) (λ said. Ok (scope_of said)) w is in
    let same : scope_of said ≡ w = cc in subst HasMultiplier same (scope_fits said)

delay_ports_fit : (output : Bool) (clocks ports : Option (List Object)) (w : What) → ◌≡◌ {A = Result What SdcFault} (elim ports [
  | Some objects ↦ Ok (what.Delay output clocks objects)
  | None ↦ Err delays.unread
]) (Ok w) → HasMultiplier w
delay_ports_fit output clocks (Some objects) w is = let same : what.Delay output clocks objects ≡ w = cc in subst HasMultiplier same tt
delay_ports_fit output clocks None w is = absurd cc

delay_clocks_fit : (output awaits : Bool) (r : DelayReading) (w : What) → ◌≡◌ {A = Result What SdcFault} (
    if awaits then Err delays.unread
    else elim r.objects [
      | Some objects ↦ Ok (what.Delay output r.clocks objects)
      | None ↦ Err delays.unread
    ]) (Ok w) → HasMultiplier w
delay_clocks_fit output true r w is = absurd cc
delay_clocks_fit output false r w is = delay_ports_fit output r.clocks r.objects w is

delay_concluded_fits : (output : Bool) (r : DelayReading) (w : What) → delays.concluded output r ≡ Ok w → HasMultiplier w
unfolding delays.concluded
delay_concluded_fits output r w is = delay_clocks_fit output r.awaits_clocks r w is

delay_by_fits : (output : Bool) (vars : Vars) (line : ℕ) (words : List Word) (w : What) → delays.delay_of output vars line words ≡ Ok w → HasMultiplier w
delay_by_fits output vars line words w is =
    let (r, all, made) = step_gave (delays.delay_from (length words) vars line delays.bare words) (λ r. delays.concluded output r) w is in
    delay_concluded_fits output r w made

-- so it is after each command
abbrev AreFit : Progress → Type 0
AreFit p = All (λ (c : Command). HasMultiplier c.what) p.commands

with_fits : (p : Progress) (line : ℕ) (w : What) → AreFit p → HasMultiplier w → AreFit (with_command p line w)
with_fits p line w all fits = All-push (λ (c : Command). HasMultiplier c.what) p.commands (record { line = line; what = w }) all fits

set_fits : (p : Progress) (head : Head) (said : List Said) (q : Progress) → AreFit p → after_set p head said ≡ Ok q → AreFit q
unfolding after_set
set_fits p head said q all is =
    let (v, of, made) = step_gave (set_of head said) _ q is in
    let next : Progress =
    record { variables = with_value p.variables v.0 v.1; commands = p.commands ++ record { line = head.line; what = what.Passed } ∷ [] } in
    let same : next ≡ q = cc in subst AreFit same (with_fits p head.line what.Passed all tt)

said_fits : (form : ScriptForm) (p : Progress) (k : CommandKind) (head : Head) (said : List Said) (q : Progress) → AreFit p
    → after_said form p k head said ≡ Ok q → AreFit q
said_fits form p k head said q all is =
    let (w, of, made) = step_gave (what_of form k head said) (λ w. Ok (with_command p head.line w)) q is in
    let same : with_command p head.line w ≡ q = cc in subst AreFit same (with_fits p head.line w all (what_fits form k head said w of))

told_fits : (form : ScriptForm) (p : Progress) (k : CommandKind) (head : Head) (words : List Word) (q : Progress) → AreFit p
    → after_told_words form p k head words ≡ Ok q → AreFit q
told_fits form p k head words q all is =
    let (said, of, made) = step_gave (said_words (nesting_of form) p.variables head.line words) _ q is in said_fits form p k head said q all made

-- a command that says this and is told so
command_is : (p : Progress) (line : ℕ) (w : What) (q : Progress) → AreFit p → HasMultiplier w
    → ◌≡◌ {A = Result Progress SdcFault} (Ok (with_command p line w)) (Ok q) → AreFit q
command_is p line w q all fits is = let same : with_command p line w ≡ q = cc in subst AreFit same (with_fits p line w all fits)

after_fits : (form : ScriptForm) (p : Progress) (k : CommandKind) (head : Head) (words : List Word) (q : Progress) → AreFit p
    → after_kind form p k head words ≡ Ok q → AreFit q
unfolding after_kind
after_fits form p kind.Set head words q all is =
    let (said, of, made) = step_gave (said_words (nesting_of form) p.variables head.line words) _ q is in set_fits p head said q all made
after_fits form p kind.Clock head words q all is = told_fits form p kind.Clock head words q all is
after_fits form p kind.Case head words q all is = told_fits form p kind.Case head words q all is
after_fits form p (kind.Path c) head words q all is = told_fits form p (kind.Path c) head words q all is
after_fits form p kind.Passed head words q all is = command_is p head.line what.Passed q all tt is
after_fits form p kind.Unjudged head words q all is = command_is p head.line (what.Unjudged head.name) q all tt is
after_fits form p kind.Scope head words q all is =
    command_is p head.line _ q all
    (or_fits what.Passed (scope_by (nesting_of form) p.variables head.line words) tt (scope_by_fits (nesting_of form) p.variables head.line words)) is
after_fits form p (kind.Delay output) head words q all is =
    command_is p head.line _ q all
    (or_fits (what.Unjudged head.name) (delays.delay_of output p.variables head.line words) tt (delay_by_fits output p.variables head.line words)) is
after_fits form p (kind.Constant bit) head words q all is = told_fits form p (kind.Constant bit) head words q all is
after_fits form p kind.Instance head words q all is = told_fits form p kind.Instance head words q all is
after_fits form p kind.Separator head words q all is = told_fits form p kind.Separator head words q all is
after_fits form p kind.Generated head words q all is = told_fits form p kind.Generated head words q all is

named_fits : (form : ScriptForm) (p : Progress) (command : RawCommand) (name : List ℕ) (named : Option CommandKind) (q : Progress) → AreFit p
    → ◌≡◌ {A = Result Progress SdcFault} (elim named [
      | Some k ↦ after_kind form p k (record { line = command.line; name = name }) (drop 1 command.words)
      | None ↦ Err (fault.UnknownCommand command.line name)
    ]) (Ok q) → AreFit q
named_fits form p command name (Some k) q all is = after_fits form p k (record { line = command.line; name = name }) (drop 1 command.words) q all is
named_fits form p command name None q all is = absurd cc

command_fits : (form : ScriptForm) (p : Progress) (command : RawCommand) (q : Progress) → AreFit p → after_command form p command ≡ Ok q → AreFit q
unfolding after_command
command_fits form p command q all is =
    let (name, of, made) = step_gave (command_name p.variables command.line command.words) _ q is in
    named_fits form p command name (command_kind form name) q all made

-- whether a command is left, what is known after it, and what is left then
abbrev Next : Type 0
Next = (Bool × Progress) × List ℕ

left_fits : (form : ScriptForm) (p : Progress) (command : Option RawCommand) (s : List ℕ) (r : Next) → AreFit p → ◌≡◌ {A = Result Next SdcFault} (elim command [
  | Some command ↦ after_command form p command >>= λ more. Ok ((true, more), s)
  | None ↦ Ok ((false, p), s)
]) (Ok r) → AreFit (r.0).1
left_fits form p (Some command) s r all is =
    let (more, of, made) = step_gave (after_command form p command) (λ more. Ok ((true, more), s)) r is in
    let next : Next = ((true, more), s) in
    let same : next ≡ r = cc in subst (λ (x : Next). AreFit (x.0).1) same (command_fits form p command more all of)
left_fits form p None s r all is =
    let next : Next = ((false, p), s) in let same : next ≡ r = cc in subst (λ (x : Next). AreFit (x.0).1) same all

next_fits : (form : ScriptForm) (text : List ℕ) (p : Progress) (s : List ℕ) (r : Next) → AreFit p → next_at form text p s ≡ Ok r → AreFit (r.0).1
unfolding next_at
next_fits form text p s r all is = let (c, of, made) = step_gave (lifted (command_at text s)) _ r is in left_fits form p c.0 c.1 r all made

turn_fits : (form : ScriptForm) (more : Bool) (n : ℕ) (text : List ℕ) (p : Progress) (s : List ℕ) (q : Progress) → AreFit p
    → (AreFit p → progress_from n form text p s ≡ Ok q → AreFit q)
    → ◌≡◌ {A = Result Progress SdcFault} (if more then progress_from n form text p s else Ok p) (Ok q) → AreFit q
turn_fits form true n text p s q all later is = later all is
turn_fits form false n text p s q all later is = let same : p ≡ q = cc in subst AreFit same all

from_fits : (form : ScriptForm) (n : ℕ) (text : List ℕ) (p : Progress) (s : List ℕ) (q : Progress) → AreFit p → progress_from n form text p s ≡ Ok q → AreFit q
unfolding progress_from
from_fits form zero text p s q all is = absurd cc
from_fits form (suc n) text p s q all is =
    let (r, next, rest) = step_gave (next_at form text p s) _ q is in
    turn_fits form (r.0).0 n text (r.0).1 r.1 q (next_fits form text p s r all next) (from_fits form n text (r.0).1 r.1 q) rest

placed_fits : (text : List ℕ) (r : Result Progress SdcFault) (script : Script) → ((p : Progress) → r ≡ Ok p → AreFit p) → placed text r ≡ Ok script
    → HasMultipliers script
placed_fits text (Ok p) script fits is =
    let made : Script = record { commands = p.commands } in let same : made ≡ script = cc in subst HasMultipliers same (fits p refl)
placed_fits text (Err why) script fits is = absurd cc

-- each multiplier of the script that a text is lies from 1 to 16
pub has_multipliers : (form : ScriptForm) (text : List ℕ) (script : Script) → script_of form text ≡ Ok script → HasMultipliers script
unfolding script_of
has_multipliers form text script is =
    placed_fits text (progress_of form (cleaned text)) script (λ p of.
    from_fits form (suc (length (cleaned text))) (cleaned text) fresh (cleaned text) p (All-nil (λ (c : Command). HasMultiplier c.what)) of) is
