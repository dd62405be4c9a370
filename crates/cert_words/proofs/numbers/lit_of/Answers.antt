use Rattle.std.proofs.Common.{[], ◌≡◌, ◌∷◌}
use Rattle.std.proofs.lemmas.Bool.Decides.{Decides-eqb}
use Rattle.std.proofs.lemmas.Slice.Eq.{strip_prefix_is}
use Rattle.cert_words.proofs.Literals.{dash_none}
use Rattle.cert_words.proofs.numbers.lit_of.Goals as goal

pub returns-in_err-var_of-in-Some : goal.returns-in_err-var_of-in-Some
returns-in_err-var_of-in-Some c =
    let is = strip_prefix_is Decides-eqb c.args.word.now (45 ∷ []) c.strip_prefix.result c.strip_prefix.ensures.cases in
    let cut : c.args.word.now ≡ 45 ∷ c.in-Some.digits.now = rw c.in-Some.is at is in
    let none = rw c.in_err-var_of-in-Some.was at c.var_of.ensures in
    rw c.from_residual.ensures (dash_none c.args.word.now c.in-Some.digits.now c.args.above cut none)
