-- What lines say, one on.
use Rattle.std.proofs.Common.{◌≡◌, ◌≢◌, ℕ, ◌+◌, ◌<◌, ◌≤◌, List, [], ◌∷◌, ◌++◌, length, take, drop, get_or, Some, refl, ap, sym, subst, ◌∙◌, arith}
use Rattle.std.proofs.Common.{length-append, append-nil}
use Rattle.std.specs.Prelude.{slice_index, All, Contains}
use Rattle.std.proofs.lemmas.Bool.{ne_eqb}
use Rattle.std.proofs.lemmas.List.{take-append-drop}
use Rattle.std.proofs.lemmas.List.Elements.{All-nil, All-cons, All-append, Contains-append_left, Contains-push}
use Rattle.std.proofs.lemmas.Option.{slice_get-get_or}
use Rattle.sdcv_base.specs.declared.settings.Setting.{Setting}
use Rattle.sdcv_base.specs.Seqs.{each_at}
use Rattle.list_laws.proofs.Joining.{each_at-append}
use Rattle.assist_text.specs.Lines.{Said, words_of, words_said, said_by, said_at, said_in, lines_of}
use Rattle.assist_text.specs.Clauses.{IsSaid, AreSaid, IsOnce, IsClause, AreClauses, IsOneOrMore}
use Rattle.assist_text.specs.Causes.{HasOther, HasTwice, IsTwice, IsCauseIn, IsWordCause, IsNameCause}
use Rattle.assist_types.specs.declared.clauses.AssistClause.{AssistClause}
use Rattle.assist_types.specs.declared.faults.AssistFault.{AssistFault}
use Rattle.assist_types.specs.declared.faults.AssistFault.TheVariants as fault
use Rattle.assist_text.proofs.Zips.{all_at, zip_push, zip_length, zip_from}

-- a comment says nothing
pub comment_says : (number : ℕ) (line : List ℕ) → slice_index line 0 ≡ 35 → said_at number line ≡ []
unfolding words_said
comment_says number line is = rw is refl

-- and any other line says its words
pub line_says : (number : ℕ) (line : List ℕ) → slice_index line 0 ≢ 35 → said_at number line ≡ said_by number (words_of line)
unfolding words_said
line_says number line other = rw (ne_eqb (slice_index line 0) 35 other) refl

-- clauses of what was said before, where a line says nothing
pub nothing_said : (said more : List Said) (clauses : List AssistClause) → more ≡ [] → AreClauses said clauses → AreClauses (said ++ more) clauses
nothing_said said more clauses none so = subst (λ (ms : List Said). AreClauses ms clauses) (sym (ap (λ (ms : List Said). said ++ ms) none ∙ append-nil said)) so

-- a line with words says them
pub words_say : (number : ℕ) (words : List (List ℕ)) → 0 < length words → said_by number words ≡ (number, words) ∷ []
words_say number [] some = absurd (omega arith)
words_say number (w ∷ words) some = refl

-- no words say nothing
pub no_words_say : (number : ℕ) (words : List (List ℕ)) (lits : List Setting) → AreSaid words lits → lits ≡ [] → said_by number words ≡ []
no_words_say number [] lits all none = refl
no_words_say number (w ∷ words) lits all none = let long = zip_length IsSaid (w ∷ words) lits all in absurd (omega (arith, ap length none))

-- clauses with that of a line that says something
pub clause_said : (said : List Said) (clauses : List AssistClause) (number : ℕ) (words : List (List ℕ)) (lits : List Setting) → AreClauses said clauses
    → AreSaid words lits → 0 < length lits → IsOnce lits → length clauses < 8192
    → AreClauses (said ++ said_by number words) (clauses ++ record { line = number; lits = lits } ∷ [])
clause_said said clauses number words lits so all some once few =
    let long = zip_length IsSaid words lits all in
    subst (λ (ms : List Said). AreClauses (said ++ ms) (clauses ++ record { line = number; lits = lits } ∷ [])) (sym (words_say number words (omega arith))) (record {
      each = zip_push IsClause said clauses (number, words) (record { line = number; lits = lits }) so.each (record { line = refl; lits = all; once = once });
      few = omega (arith, length-append clauses (record { line = number; lits = lits } ∷ []));
    })

-- a word that is none is a word
other_some : (words : List (List ℕ)) → HasOther words → 0 < length words
other_some words other = let within = other.1.1 in omega arith

-- why a line has no settings is why what is said is refused
pub word_cause : (said : List Said) (number : ℕ) (words : List (List ℕ)) (e : AssistFault) → IsWordCause number words e → IsCauseIn (said ++ said_by number words) e
word_cause said number words (fault.Syntax line) why =
    let here : Contains (said ++ said_by number words) (line, words) =
    subst (λ (ms : List Said). Contains (said ++ ms) (line, words)) (sym (words_say number words (other_some words why.1)))
    (subst (λ (n : ℕ). Contains (said ++ (n, words) ∷ []) (line, words)) why.0 (Contains-push said (line, words))) in
    (words, here, why.1)
word_cause said number words (fault.Twice line name) why = absurd why
word_cause said number words (fault.Many many) why = absurd why
word_cause said number words fault.Memory why = tt
word_cause said number words (fault.UnknownRegister line name) why = absurd why

-- settings that have one name are words that give values to it
twice_said : (words : List (List ℕ)) (lits : List Setting) (name : List ℕ) → AreSaid words lits → IsTwice lits name → HasTwice words name
twice_said words lits name all twice =
    let one = zip_from IsSaid words lits twice.first (record { name = name; value = twice.values.0 }) all twice.at_first in
    let two = zip_from IsSaid words lits twice.second (record { name = name; value = twice.values.1 }) all twice.at_second in
    record {
      first = twice.first;
      second = twice.second;
      differ = twice.differ;
      values = twice.values;
      at_first = one.1 ∙ ap (λ (w : List ℕ). Some w) one.2.1;
      at_second = two.1 ∙ ap (λ (w : List ℕ). Some w) two.2.1;
    }

-- so with a name that stands twice
pub name_cause : (said : List Said) (number : ℕ) (words : List (List ℕ)) (lits : List Setting) (e : AssistFault) → AreSaid words lits → 0 < length lits
    → IsNameCause number lits e → IsCauseIn (said ++ said_by number words) e
name_cause said number words lits (fault.Twice line name) all some why =
    let long = zip_length IsSaid words lits all in
    let here : Contains (said ++ said_by number words) (line, words) =
    subst (λ (ms : List Said). Contains (said ++ ms) (line, words)) (sym (words_say number words (omega arith)))
    (subst (λ (n : ℕ). Contains (said ++ (n, words) ∷ []) (line, words)) why.0 (Contains-push said (line, words))) in
    (words, here, twice_said words lits name all why.1)
name_cause said number words lits (fault.Syntax line) all some why = absurd why
name_cause said number words lits (fault.Many many) all some why = absurd why
name_cause said number words lits fault.Memory all some why = tt
name_cause said number words lits (fault.UnknownRegister line name) all some why = absurd why

-- one clause more than there may be
pub many_said : (said : List Said) (clauses : List AssistClause) (number : ℕ) (words : List (List ℕ)) (lits : List Setting) → AreClauses said clauses
    → AreSaid words lits → 0 < length lits → 8192 ≤ length clauses → 8192 < length (said ++ said_by number words)
many_said said clauses number words lits so all some many =
    let long = zip_length IsSaid words lits all in
    let each = zip_length IsClause said clauses so.each in
    let one : length (said ++ said_by number words) ≡ length said + 1 =
    ap (λ (ms : List Said). length (said ++ ms)) (words_say number words (omega arith)) ∙ length-append said ((number, words) ∷ []) in
    omega arith

-- what refuses some of what is said refuses all of it
pub cause_more : (said more : List Said) (e : AssistFault) → IsCauseIn said e → IsCauseIn (said ++ more) e
cause_more said more (fault.Syntax line) why = (why.0, Contains-append_left said more (line, why.0) why.1, why.2)
cause_more said more (fault.Twice line name) why = (why.0, Contains-append_left said more (line, why.0) why.1, why.2)
cause_more said more (fault.Many number) why = (why.0, (let many = why.1 in omega (arith, length-append said more)))
cause_more said more fault.Memory why = tt
cause_more said more (fault.UnknownRegister line name) why = absurd why

-- what lines say, and one line more
pub lines_say : (lines : List (List ℕ)) (line : List ℕ) → each_at said_at 1 (lines ++ line ∷ []) ≡ each_at said_at 1 lines ++ said_at (length lines + 1) line
lines_say lines line =
    let number : 1 + length lines ≡ length lines + 1 = omega arith in
    each_at-append said_at 1 lines (line ∷ [])
    ∙ ap (λ (ms : List Said). each_at said_at 1 lines ++ ms) (append-nil (said_at (1 + length lines) line) ∙ ap (λ (n : ℕ). said_at n line) number)

-- what refuses the first lines refuses the text
pub cause_of_lines : (lines : List (List ℕ)) (k : ℕ) (e : AssistFault) → IsCauseIn (each_at said_at 1 (take k lines)) e → IsCauseIn (each_at said_at 1 lines) e
cause_of_lines lines k e why =
    let whole : each_at said_at 1 (take k lines) ++ each_at said_at (1 + length (take k lines)) (drop k lines) ≡ each_at said_at 1 lines =
    sym (each_at-append said_at 1 (take k lines) (drop k lines)) ∙ ap (each_at said_at 1) (take-append-drop k lines) in
    subst (λ (ms : List Said). IsCauseIn ms e) whole (cause_more (each_at said_at 1 (take k lines)) (each_at said_at (1 + length (take k lines)) (drop k lines)) e why)

-- what a line says has a word at least
said_some : (number : ℕ) (words : List (List ℕ)) → All (λ (s : Said). 0 < length s.1) (said_by number words)
said_some number [] = All-nil (λ (s : Said). 0 < length s.1)
said_some number (w ∷ words) = All-cons (λ (s : Said). 0 < length s.1) (number, w ∷ words) [] (omega arith) (All-nil (λ (s : Said). 0 < length s.1))

all_said_some : (number : ℕ) (lines : List (List ℕ)) → All (λ (s : Said). 0 < length s.1) (each_at said_at number lines)
all_said_some number [] = All-nil (λ (s : Said). 0 < length s.1)
all_said_some number (line ∷ lines) =
    All-append (λ (s : Said). 0 < length s.1) (said_at number line) (each_at said_at (number + 1) lines) (said_some number (words_said line))
    (all_said_some (number + 1) lines)

-- so each clause of a text has a name at least
pub one_or_more : (text : List ℕ) (clauses : List AssistClause) → AreClauses (said_in text) clauses → All IsOneOrMore clauses
one_or_more text clauses so k d low =
    let at = zip_from IsClause (said_in text) clauses k (get_or clauses k d) so.each (slice_get-get_or clauses k d low) in
    let some = all_at (λ (s : Said). 0 < length s.1) (said_in text) k at.0 (all_said_some 1 (lines_of text)) at.1 in
    record {
      some = omega (arith, zip_length IsSaid at.0.1 (get_or clauses k d).lits at.2.lits);
      once = at.2.once;
    }
