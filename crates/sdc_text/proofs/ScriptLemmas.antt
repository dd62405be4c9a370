-- One turn of the loop over the commands of a text, and faults that go through.
use Rattle.std.proofs.Common.{◌≡◌, ◌∙◌, ℕ, zero, suc, ◌+◌, ◌<◌, true, false, List, [], ◌∷◌, take, drop, Option, Some, None, IfSome, Result, Ok, Err, refl, ap, arith}
use Rattle.std.specs.Option.{option_map}
use Rattle.texts.specs.Rules.{◌>>=◌}
use Rattle.sdc_words.specs.declared.faults.WordFault.{WordFault}
use Rattle.sdc_words.specs.declared.faults.WordFault.TheVariants as word_fault
use Rattle.sdc_words.specs.declared.words.Word.{Word}
use Rattle.sdc_words.specs.declared.words.Word.TheVariants as word
use Rattle.sdc_words.specs.declared.words.RawCommand.{RawCommand}
use Rattle.sdc_words.specs.Reads as words
use Rattle.sdc_words.specs.Commands.{command_at, line_at, IsFront}
use Rattle.sdc_words.proofs.ReadLemmas.{value_or}
use Rattle.run_options.specs.declared.forms.ScriptForm.{ScriptForm}
use Rattle.script_types.specs.declared.scripts.What.{What}
use Rattle.sdc_values.specs.Variables.{Vars}
use Rattle.sdc_values.specs.Lines.{command_name}
use Rattle.script_types.specs.declared.faults.SdcFault.{SdcFault}
use Rattle.script_types.specs.declared.faults.SdcFault.TheVariants as fault
use Rattle.sdc_words.specs.Faults.{of_words}
use Rattle.sdc_values.specs.Told.{Fails}
use Rattle.sdc_text.specs.declared.progresses.Progress.{Progress}
use Rattle.sdc_text.specs.declared.kinds.CommandKind.{CommandKind}
use Rattle.sdc_text.specs.declared.kinds.CommandKind.TheVariants as kind
use Rattle.sdc_text.specs.Kinds.{command_kind}
use Rattle.sdc_text.specs.Progresses.{with_command, after_kind, after_command, passed_as, IsPassedOver}
use Rattle.sdc_text.specs.Scripts.{lifted, next_at, PassesNext, progress_from, placed, placed_fault}

of_lifted : {A : Type 0} (r : Result A WordFault) (x : A) → lifted r ≡ Ok x → r ≡ Ok x
of_lifted (Ok y) x e = cc
of_lifted (Err why) x e = absurd cc

module _ (form : ScriptForm) (text : List ℕ) (p : Progress) (s : List ℕ) where
  -- no command is left
  pub progress_ends : (m : ℕ) (q : Progress) (t : List ℕ) → 0 < m → next_at form text p s ≡ Ok ((false, q), t) → progress_from m form text p s ≡ Ok q
  unfolding progress_from
  progress_ends zero q t some good = absurd (omega arith)
  progress_ends (suc m) q t some good = rw good refl

  -- a command is taken
  pub progress_more : (m : ℕ) (q : Progress) (t : List ℕ) → 0 < m → next_at form text p s ≡ Ok ((true, q), t)
      → (n : ℕ) × (m ≡ n + 1) × (progress_from m form text p s ≡ progress_from n form text q t)
  unfolding progress_from
  progress_more zero q t some good = absurd (omega arith)
  progress_more (suc m) q t some good = (m, omega arith, rw good refl)

  -- the next command has a fault
  pub progress_bad : (m : ℕ) (why : SdcFault) → 0 < m → next_at form text p s ≡ Err why → progress_from m form text p s ≡ Err why
  unfolding progress_from
  progress_bad zero why some bad = absurd (omega arith)
  progress_bad (suc m) why some bad = rw bad refl

-- a fault of words is one of the script
pub fails_lifted : {A : Type 0} (total : ℕ) (e : WordFault) (x : Result A WordFault) → words.Fails total e x → Fails (of_words e) (lifted x)
fails_lifted total (word_fault.Syntax place) x h = λ other. rw h.0 refl
fails_lifted total word_fault.Memory x h = λ other. absurd (other refl)
fails_lifted total (word_fault.Deep place) x h = λ other. rw h.0 refl

-- a fault of the cleaned text is one of the text
pub fails_placed : (text : List ℕ) (e : SdcFault) (x : Result Progress SdcFault) → Fails e x → Fails (placed_fault text e) (placed text x)
fails_placed text (fault.Syntax place) x h = λ other. rw (h (λ same. absurd cc)) refl
fails_placed text (fault.UnknownCommand line word) x h = λ other. rw (h other) refl
fails_placed text (fault.UnknownVariable line name) x h = λ other. rw (h other) refl
fails_placed text (fault.BadOption line word) x h = λ other. rw (h other) refl
fails_placed text (fault.BadNumber line word) x h = λ other. rw (h other) refl
fails_placed text fault.Memory x h = λ other. absurd (other refl)
fails_placed text (fault.Deep place) x h = λ other. rw (h (λ same. absurd cc)) refl

-- a command has the name that its first word gives it
name_of_front : (vars : Vars) (line : ℕ) (ws : List Word) → command_name vars line ws ≡ command_name vars line (take 1 ws)
unfolding command_name
name_of_front vars line [] = refl
name_of_front vars line (word.Text offset pieces ∷ ws) = refl
name_of_front vars line (word.Opens offset ∷ ws) = refl
name_of_front vars line (word.Closes ∷ ws) = refl

abbrev after_named : ScriptForm → Progress → RawCommand → List ℕ → Result Progress SdcFault
after_named form p command name = elim (command_kind form name) [
  | Some found ↦ after_kind form p found (record { line = command.line; name = name }) (drop 1 command.words)
  | None ↦ Err (fault.UnknownCommand command.line name)
]

by_name : (form : ScriptForm) (p : Progress) (command : RawCommand) (name : List ℕ)
    → command_name p.variables command.line command.words ≡ Ok name → after_command form p command ≡ after_named form p command name
unfolding after_command
by_name form p command name named = rw named refl

-- what is passed over by its kind
kind_passed : (form : ScriptForm) (p : Progress) (line : ℕ) (name : List ℕ) (words : List Word) (k : CommandKind) (w : What)
    → passed_as (Some k) name ≡ Some w → after_kind form p k (record { line = line; name = name }) words ≡ Ok (with_command p line w)
unfolding after_kind
kind_passed form p line name words kind.Set w is = absurd cc
kind_passed form p line name words kind.Clock w is = absurd cc
kind_passed form p line name words kind.Case w is = absurd cc
kind_passed form p line name words (kind.Path path) w is = absurd cc
kind_passed form p line name words kind.Passed w is = cc
kind_passed form p line name words kind.Unjudged w is = cc
kind_passed form p line name words kind.Scope w is = absurd cc
kind_passed form p line name words (kind.Delay output) w is = absurd cc
kind_passed form p line name words (kind.Constant bit) w is = absurd cc
kind_passed form p line name words kind.Instance w is = absurd cc
kind_passed form p line name words kind.Separator w is = absurd cc
kind_passed form p line name words kind.Generated w is = absurd cc

-- what is passed over by its name
abbrev by_kind_of : ScriptForm → Progress → RawCommand → List ℕ → Option CommandKind → Result Progress SdcFault
by_kind_of form p command name found = elim found [
  | Some k ↦ after_kind form p k (record { line = command.line; name = name }) (drop 1 command.words)
  | None ↦ Err (fault.UnknownCommand command.line name)
]

by_kind : (form : ScriptForm) (p : Progress) (command : RawCommand) (name : List ℕ) (found : Option CommandKind) (w : What)
    → passed_as found name ≡ Some w → by_kind_of form p command name found ≡ Ok (with_command p command.line w)
by_kind form p command name (Some k) w is = kind_passed form p command.line name (drop 1 command.words) k w is
by_kind form p command name None w is = absurd cc

-- a command with a front that is passed over is passed over
pub passes_front : (form : ScriptForm) (read : Result (Option RawCommand × List ℕ) WordFault) (p : Progress) (front : RawCommand) (w : What)
    → IsFront front read → IsPassedOver form p front w → PassesNext form read p w
passes_front form read p front w begins (name, told, passed) = λ command left good.
    let (line, words) = begins command left good in
    let named : command_name p.variables command.line command.words ≡ Ok name = name_of_front p.variables command.line command.words ∙ rw (words, line) told in
    by_name form p command name named ∙ by_kind form p command name (command_kind form name) w passed

-- if one says something by its front, the command says it
pub if_passes : (form : ScriptForm) (read : Result (Option RawCommand × List ℕ) WordFault) (p : Progress) (front : RawCommand) → IsFront front read
    → (told : Option What) → IfSome told (λ w. IsPassedOver form p front w) → IfSome told (λ w. PassesNext form read p w)
if_passes form read p front begins (Some w) passed = passes_front form read p front w begins passed
if_passes form read p front begins None passed = passed

abbrev line_by : Result (Option RawCommand × List ℕ) WordFault → Result (Option ℕ × List ℕ) WordFault
line_by r = r >>= λ c. Ok (option_map (λ (q : RawCommand). q.line) c.0, c.1)

abbrev read_as : Option RawCommand → List ℕ → Result (Option RawCommand × List ℕ) WordFault
read_as o u = Ok (o, u)

command_by : (o : Option RawCommand) (u : List ℕ) (line : ℕ) (t : List ℕ) → option_map (λ (q : RawCommand). q.line) o ≡ Some line → u ≡ t
    → (command : RawCommand) × (read_as o u ≡ Ok (Some command, t)) × (command.line ≡ line)
command_by (Some command) u line t some left = (command, ap (λ (r : List ℕ). read_as (Some command) r) left, cc)
command_by None u line t some left = absurd cc

command_of_line : (r : Result (Option RawCommand × List ℕ) WordFault) (line : ℕ) (t : List ℕ) → line_by r ≡ Ok (Some line, t)
    → (command : RawCommand) × (r ≡ Ok (Some command, t)) × (command.line ≡ line)
unfolding value_or
command_of_line (Ok c) line t e =
    let some : option_map (λ (q : RawCommand). q.line) c.0 ≡ Some line = ap (λ (r : Result (Option ℕ × List ℕ) WordFault). (value_or (Some line, t) r).0) e in
    let left : c.1 ≡ t = ap (λ (r : Result (Option ℕ × List ℕ) WordFault). (value_or (Some line, t) r).1) e in
    command_by c.0 c.1 line t some left
command_of_line (Err why) line t e = absurd cc

-- a command of which only the line is known is passed over
pub next_passed : (form : ScriptForm) (text : List ℕ) (p q : Progress) (s : List ℕ) (o : Option ℕ) (line : ℕ) (t : List ℕ) (w : What)
    → PassesNext form (command_at text s) p w → lifted (line_at text s) ≡ Ok (o, t) → o ≡ Some line → q ≡ with_command p line w
    → next_at form text p s ≡ Ok ((true, q), t)
unfolding next_at
next_passed form text p q s o line t w passes good some pushed =
    let line_read : lifted (line_at text s) ≡ Ok (Some line, t) = good ∙ ap (λ (found : Option ℕ). Ok (found, t)) some in
    let (command, read, same) = command_of_line (command_at text s) line t (of_lifted (line_at text s) (Some line, t) line_read) in
    rw (read, passes command t read, same, pushed) refl
