-- Lines are read one after the other.
use Rattle.std.proofs.Common.{◌≡◌, ℕ, zero, suc, ◌+◌, ◌-◌, ◌≤◌, ◌<◌, Bool, true, false, List, [], ◌∷◌, ◌++◌, length, length-append, refl, sym, ap, arith, ◌∙◌, append_assoc, Some, Ok, codes, All}
use Rattle.std.specs.Fmt.{decimal}
use Rattle.std.specs.List.{AllByRecursion}
use Rattle.std.proofs.Math.Seq.{take-append_seam}
use Rattle.std.proofs.lemmas.List.{append-nil}
use Rattle.std.proofs.lemmas.List.Elements.{recursion_from_All}
use Rattle.sdc_words.specs.Blanks.{gap_len, blank_len, skipped, after_blanks}
use Rattle.sdc_words.specs.Commands.{command_at}
use Rattle.sdc_words.specs.Lines.{cleaned, newlines, line_of}
use Rattle.sdc_words.specs.declared.words.RawCommand.{RawCommand}
use Rattle.sdc_words.proofs.BlankLemmas.{skipped_stop}
use Rattle.run_options.specs.declared.forms.ScriptForm.TheVariants.{Narrow}
use Rattle.sdc_text.specs.declared.progresses.Progress.{Progress}
use Rattle.sdc_text.specs.Progresses.{fresh, after_command, with_command}
use Rattle.sdc_text.specs.Scripts.{next_at, progress_from, script_of}
use Rattle.multicycle_text.specs.Lines.{FoundLine, CheckLine, Setup, Hold, line_text, lines_text}
use Rattle.multicycle_text.specs.Scripts.{IsReadableLine, exception_by, commands_from, script_by}
use Rattle.multicycle_text.proofs.LineEnds.{newlines_line, cleaned_line}
use Rattle.multicycle_text.proofs.LineReads.{line_read}
use Rattle.multicycle_text.proofs.LineShapes.{after_number, whole_line, places, command_by}
use Rattle.multicycle_text.proofs.Exceptions.{exception_with, line_taken}
use Rattle.multicycle_text.proofs.NameBytes.{not_empty, IsName, name_of_writable, name_okay}
use Rattle.multicycle_text.proofs.Numbers.{IsNumber, number_of, whole_of}

-- nothing is passed over before a line, and at the text's end
no_blank : (lines : List CheckLine) → blank_len (lines_text lines) ≡ 0
unfolding blank_len gap_len
no_blank [] = refl
no_blank (Setup x ∷ more) = refl
no_blank (Hold x ∷ more) = refl

-- after a newline the next line begins
after_newline : (lines : List CheckLine) → after_blanks (10 ∷ lines_text lines) ≡ lines_text lines
unfolding after_blanks skipped blank_len gap_len
after_newline lines = skipped_stop blank_len (length (lines_text lines)) (lines_text lines) (no_blank lines)

-- at the text's start too
at_start : (lines : List CheckLine) → after_blanks (lines_text lines) ≡ lines_text lines
unfolding after_blanks
at_start lines = skipped_stop blank_len (length (lines_text lines)) (lines_text lines) (no_blank lines)

-- the line of a text that other lines stand before
line_after : (done s : List ℕ) → line_of (done ++ s) s ≡ 1 + newlines done
line_after done s =
    let n : length (done ++ s) - length s ≡ length done = omega (arith, length-append done s) in
    rw (n, take-append_seam done s) refl

-- the command of a line, before which nothing more is passed over
command_read : (text s number : List ℕ) (hold : Bool) (start end rest : List ℕ) (k : ℕ) → IsNumber hold number k → IsName start → IsName end
    → after_blanks s ≡ whole_line number hold start end rest
    → command_at text s ≡ Ok (Some (command_by text number hold start end rest), 10 ∷ rest)
unfolding command_at
command_read text s number hold start end rest k n first second begins =
    let tail : List ℕ = codes "et_multicycle_path " ++ (number ++ after_number hold start end rest) in
    let read = line_read (length text) k hold number start end rest n (name_okay start first) (name_okay end second) in
    rw (begins, not_empty (length tail), read) refl

-- a command that is read and taken is the next
next_is : (text s left : List ℕ) (p more : Progress) (command : RawCommand) → command_at text s ≡ Ok (Some command, left)
    → after_command Narrow p command ≡ Ok more → next_at Narrow text p s ≡ Ok ((true, more), left)
unfolding next_at
next_is text s left p more command read taken = rw (read, taken) refl

-- the parts of a line add its exception
path_read : (text s : List ℕ) (p : Progress) (number : List ℕ) (hold : Bool) (k : ℕ) (start end rest : List ℕ) → IsNumber hold number k
    → IsName start → IsName end → after_blanks s ≡ whole_line number hold start end rest
    → next_at Narrow text p s
    ≡ Ok ((true, with_command p (line_of text (whole_line number hold start end rest)) (exception_with number k hold start end)), 10 ∷ rest)
path_read text s p number hold k start end rest n first second begins =
    let command : RawCommand = command_by text number hold start end rest in
    let at : ℕ → ℕ = places (length text) number hold start end rest in
    let read = command_read text s number hold start end rest k n first second begins in
    let taken = line_taken p command.line at number hold start end k n first second in
    next_is text s (10 ∷ rest) p (with_command p command.line (exception_with number k hold start end)) command read taken

-- a line and what follows it, by its parts
setup_parts : (x : FoundLine) (rest : List ℕ) → line_text (Setup x) ++ rest ≡ whole_line (decimal x.k) false x.start x.end rest
setup_parts x rest = simp append_assoc

hold_parts : (x : FoundLine) (rest : List ℕ) → line_text (Hold x) ++ rest ≡ whole_line (decimal (x.k - 1)) true x.start x.end rest
hold_parts x rest = simp append_assoc

-- a line adds the command that is meant
next_read : (text s rest : List ℕ) (p : Progress) (x : CheckLine) → IsReadableLine x → after_blanks s ≡ line_text x ++ rest
    → next_at Narrow text p s ≡ Ok ((true, with_command p (line_of text (line_text x ++ rest)) (exception_by x)), 10 ∷ rest)
next_read text s rest p (Setup x) is begins =
    let parts = setup_parts x rest in
    path_read text s p (decimal x.k) false x.k x.start x.end rest (number_of x.k is.some is.most) (name_of_writable x.start is.start)
    (name_of_writable x.end is.end) (begins ∙ parts)
    ∙ ap (λ (t : List ℕ). Ok ((true, with_command p (line_of text t) (exception_by (Setup x))), 10 ∷ rest)) (sym parts)
next_read text s rest p (Hold x) is begins =
    let parts = hold_parts x rest in
    let most : x.k - 1 ≤ 16 = omega (arith, is.most) in
    path_read text s p (decimal (x.k - 1)) true x.k x.start x.end rest (whole_of (x.k - 1) x.k most) (name_of_writable x.start is.start)
    (name_of_writable x.end is.end) (begins ∙ parts)
    ∙ ap (λ (t : List ℕ). Ok ((true, with_command p (line_of text t) (exception_by (Hold x))), 10 ∷ rest)) (sym parts)

-- all lines that are left add their commands, where those before them end in this many newlines
progress_read : (lines : List CheckLine) → AllByRecursion IsReadableLine lines → (n : ℕ) → length lines < n → (text done s : List ℕ) (p : Progress)
    → text ≡ done ++ lines_text lines → after_blanks s ≡ lines_text lines
    → progress_from n Narrow text p s ≡ Ok (record p { commands = p.commands ++ commands_from (1 + newlines done) lines })
unfolding progress_from next_at command_at
progress_read [] all zero few text done s p is begins = absurd (omega arith)
progress_read [] all (suc m) few text done s p is begins = rw (begins, append-nil p.commands) refl
progress_read (x ∷ more) all zero few text done s p is begins = absurd (omega arith)
progress_read (x ∷ more) (here, later) (suc m) few text done s p is begins =
    let rest : List ℕ = lines_text more in
    let here_line : line_of text (line_text x ++ rest) ≡ 1 + newlines done =
    ap (λ (t : List ℕ). line_of t (line_text x ++ rest)) is ∙ line_after done (line_text x ++ rest) in
    let next : Progress = with_command p (1 + newlines done) (exception_by x) in
    let split : text ≡ (done ++ line_text x) ++ rest = is ∙ sym (append_assoc done (line_text x) rest) in
    let again = progress_read more later m (omega arith) text (done ++ line_text x) (10 ∷ rest) next split (after_newline more) in
    let later_line : 1 + newlines (done ++ line_text x) ≡ 1 + newlines done + 1 = omega (arith, newlines_line done x here) in
    rw (next_read text s rest p x here begins, here_line, progress_from) (again ∙ rw (later_line, append_assoc p.commands) refl)

-- each line has a byte at least
enough : (lines : List CheckLine) → length lines ≤ length (lines_text lines)
enough [] = omega arith
enough (Setup x ∷ more) = omega (arith, enough more, length-append (line_text (Setup x)) (lines_text more))
enough (Hold x ∷ more) = omega (arith, enough more, length-append (line_text (Hold x)) (lines_text more))

-- no carriage return is left out
cleaned_lines : (lines : List CheckLine) → AllByRecursion IsReadableLine lines → cleaned (lines_text lines) ≡ lines_text lines
unfolding cleaned
cleaned_lines [] all = refl
cleaned_lines (x ∷ more) (here, later) = cleaned_line x (lines_text more) here ∙ ap (λ (s : List ℕ). line_text x ++ s) (cleaned_lines more later)

-- the script of some lines is the one that is meant
pub lines_read : (lines : List CheckLine) → All IsReadableLine lines → script_of Narrow (lines_text lines) ≡ Ok (script_by lines)
unfolding script_of
lines_read lines all =
    let each = recursion_from_All IsReadableLine lines all in
    let few : length lines < suc (length (lines_text lines)) = omega (arith, enough lines) in
    let text : List ℕ = lines_text lines in
    rw (cleaned_lines lines each, progress_read lines each (suc (length text)) few text [] text fresh refl (at_start lines)) refl
