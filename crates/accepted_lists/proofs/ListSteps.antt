-- How a list is read, one line after another, and the words of a line.
use Rattle.std.proofs.Common.{◌≡◌, ◌∙◌, ◌+◌, ◌++◌, ap, sym, refl, true, false, Bool, ℕ, List, [], ◌∷◌, Ok, Err}
use Rattle.std.specs.Prelude.{codes, if◌then◌else◌}
use Rattle.std.specs.Str.{bytes_eq}
use Rattle.std.proofs.lemmas.List.{append-nil, append_assoc}
use Rattle.report_rows.specs.Words.{when}
use Rattle.accepted_lists.specs.Entries.{before_remark, word_of}
use Rattle.accepted_lists.specs.Lists.{with_line, with_lines, then_lines}
use Rattle.accepted_lists.specs.declared.lists.ListLine.{ListLine}
use Rattle.accepted_lists.specs.declared.lists.ListFault.TheVariants.{Line}

with_lines-cons : (number : ℕ) (lines : List ListLine) (line : List ℕ) (others : List (List ℕ))
    → with_lines number lines (line ∷ others) ≡ then_lines number (with_line number lines line) (λ more. with_lines (number + 1) more others)
unfolding with_lines
with_lines-cons number lines line others = refl

pub with_lines-nil : (number : ℕ) (lines : List ListLine) → with_lines number lines [] ≡ Ok lines
unfolding with_lines
with_lines-nil number lines = refl

-- a line that fits is one more
pub lines_more : (number : ℕ) (lines new : List ListLine) (line : List ℕ) (others : List (List ℕ)) (fits : Bool)
    → when fits new ≡ with_line number lines line → fits ≡ true → with_lines number lines (line ∷ others) ≡ with_lines (number + 1) new others
lines_more number lines new line others fits step fit =
    with_lines-cons number lines line others
    ∙ ap (λ o. then_lines number o (λ more. with_lines (number + 1) more others)) (sym step)
    ∙ ap (λ b. then_lines number (when b new) (λ more. with_lines (number + 1) more others)) fit

-- one that does not is the fault
pub lines_stuck : (number : ℕ) (lines new : List ListLine) (line : List ℕ) (others : List (List ℕ)) (fits : Bool)
    → when fits new ≡ with_line number lines line → fits ≡ false → with_lines number lines (line ∷ others) ≡ Err (Line number)
lines_stuck number lines new line others fits step never =
    with_lines-cons number lines line others
    ∙ ap (λ o. then_lines number o (λ more. with_lines (number + 1) more others)) (sym step)
    ∙ ap (λ b. then_lines number (when b new) (λ more. with_lines (number + 1) more others)) never

before_remark-cons : (w : List ℕ) (ws : List (List ℕ))
    → before_remark (w ∷ ws) ≡ (if bytes_eq w (codes "#") then [] else word_of w ++ before_remark ws)
unfolding before_remark
before_remark-cons w ws = refl

before_remark-nil : before_remark [] ≡ []
unfolding before_remark
before_remark-nil = refl

-- past the end there are no more words
pub words_end : (whole out ws : List (List ℕ)) → whole ≡ out ++ before_remark ws → ws ≡ [] → out ≡ whole
words_end whole out ws is none =
    sym (is ∙ ap (λ (xs : List (List ℕ)). out ++ before_remark xs) none ∙ ap (λ (xs : List (List ℕ)). out ++ xs) before_remark-nil ∙ append-nil out)

-- after a `#` neither
pub words_remark : (whole out ws later : List (List ℕ)) (w : List ℕ) → whole ≡ out ++ before_remark ws → ws ≡ w ∷ later
    → bytes_eq w (codes "#") ≡ true → out ≡ whole
words_remark whole out ws later w is next here =
    sym (is ∙ ap (λ (xs : List (List ℕ)). out ++ before_remark xs) next ∙ ap (λ (xs : List (List ℕ)). out ++ xs) (before_remark-cons w later)
    ∙ ap (λ (b : Bool). out ++ (if b then [] else word_of w ++ before_remark later)) here ∙ append-nil out)

-- another piece is one word more, or none
pub words_more : (whole out ws later more : List (List ℕ)) (w : List ℕ) → whole ≡ out ++ before_remark ws → ws ≡ w ∷ later
    → bytes_eq w (codes "#") ≡ false → more ≡ out ++ word_of w → whole ≡ more ++ before_remark later
words_more whole out ws later more w is next other added =
    is ∙ ap (λ (xs : List (List ℕ)). out ++ before_remark xs) next ∙ ap (λ (xs : List (List ℕ)). out ++ xs) (before_remark-cons w later)
    ∙ ap (λ (b : Bool). out ++ (if b then [] else word_of w ++ before_remark later)) other
    ∙ sym (append_assoc out (word_of w) (before_remark later)) ∙ ap (λ (xs : List (List ℕ)). xs ++ before_remark later) (sym added)
