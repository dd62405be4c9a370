use Rattle.std.proofs.Common.{◌≡◌, ◌∙◌, ℕ, ◌+◌, true, List, drop, Ok, refl, ap, sym}
use Rattle.std.proofs.lemmas.List.{drop-drop}
use Rattle.sdc_words.specs.declared.words.Word.{Word}
use Rattle.script_types.specs.declared.objects.Object.{Object}
use Rattle.sdc_values.specs.Gets.{closes}
use Rattle.sdc_values.specs.Collections.{Reading, word_at, first_of_two, collection_from}
use Rattle.sdc_values.specs.Variables.{Vars}
use Rattle.sdc_values.proofs.collections.+removals.Goals as goal

-- two words and a `]` give the first word's objects
both : (nested : Reading) (vars : Vars) (line place : ℕ) (ws a b : List Word) (objects more : List Object)
    → word_at nested vars line place ws ≡ Ok (objects, a) → word_at nested vars line place a ≡ Ok (more, b) → closes b ≡ true
    → first_of_two nested vars line place ws ≡ Ok (objects, drop 1 b)
unfolding first_of_two
both nested vars line place ws a b objects more one two closed = rw (one, two, closed) refl

-- what follows three parts
third : (first second : ℕ) (ws : List Word) → drop 1 (drop second (drop first ws)) ≡ drop (first + second + 1) ws
third first second ws = ap (λ (t : List Word). drop 1 t) (drop-drop second first ws) ∙ drop-drop 1 (first + second) ws

pub first_of_two-returns-then-closes-clause-value : goal.first_of_two-returns-then-closes-clause-value
first_of_two-returns-then-closes-clause-value t c =
    let ws : List Word = c.args.words.now in
    let first : ℕ = c.in_ok-objects.first in
    let second : ℕ = c.in_ok-second.second in
    let closed = sym (rw (c.words_after.ensures, c.words_after-later.ensures) at c.closes.ensures.value) ∙ c.if-closes.true in
    both (collection_from c.args.depth c.args.vars.now c.args.line) c.args.vars.now c.args.line c.args.place ws (drop first ws) (drop second (drop first ws)) _ _
    c.in_ok-objects.ensures.value (rw c.words_after-later.ensures at c.in_ok-second.ensures.value) closed
    ∙ ap (λ (t : List Word). Ok (c.in_ok-objects.objects, t)) (third first second ws)
