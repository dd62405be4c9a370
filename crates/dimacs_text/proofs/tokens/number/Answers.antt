use Rattle.std.proofs.Common.{◌≡◌, [], ◌∷◌, ℕ, List, sym, ◌∙◌}
use Rattle.std.proofs.lemmas.Bool.Decides.{Decides-eqb}
use Rattle.std.proofs.lemmas.Slice.Eq.{strip_prefix_is}
use Rattle.dimacs_text.proofs.Decimals.{number_dash, number_plain}
use Rattle.dimacs_text.proofs.tokens.number.Goals as goal

pub returns-in-Some-clause-is : goal.returns-in-Some-clause-is
returns-in-Some-clause-is c =
    let is = strip_prefix_is Decides-eqb c.args.word.now (45 ∷ []) c.strip_prefix.result c.strip_prefix.ensures.cases in
    let cut : c.args.word.now ≡ 45 ∷ c.in-Some.digits.now = rw c.in-Some.is at is in
    c.signed.ensures.is ∙ sym (number_dash c.args.word.now c.in-Some.digits.now cut)

pub returns-in-None-clause-is : goal.returns-in-None-clause-is
returns-in-None-clause-is c =
    let is = strip_prefix_is Decides-eqb c.args.word.now (45 ∷ []) c.strip_prefix.result c.strip_prefix.ensures.cases in
    let none : (rest : List ℕ) → c.args.word.now ≡ 45 ∷ rest → ⊥ = rw c.in-None.is at is in
    c.signed-in-None.ensures.is ∙ sym (number_plain c.args.word.now none)
