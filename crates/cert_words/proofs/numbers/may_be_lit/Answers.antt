use Rattle.std.proofs.Common.{[], ◌≡◌, ◌∷◌}
use Rattle.std.proofs.lemmas.Bool.Decides.{Decides-eqb}
use Rattle.std.proofs.lemmas.Slice.Eq.{strip_prefix_is}
use Rattle.cert_words.proofs.Literals.{dash_begins, dash_begun, lit_begins, plain_begun}
use Rattle.cert_words.proofs.numbers.may_be_lit.Goals as goal

pub returns-in-Some : goal.returns-in-Some
returns-in-Some c =
    let word = c.args.word.now in
    let digits = c.in-Some.digits.now in
    let is = strip_prefix_is Decides-eqb word (45 ∷ []) c.strip_prefix.result c.strip_prefix.ensures.cases in
    let cut : word ≡ 45 ∷ digits = rw c.in-Some.is at is in
    (λ t. dash_begins c.args.above word digits cut (c.may_be_var.ensures.0 t), λ b. c.may_be_var.ensures.1 (dash_begun c.args.above word digits cut b))

pub returns-in-None : goal.returns-in-None
returns-in-None c =
    let word = c.args.word.now in
    let is = strip_prefix_is Decides-eqb word (45 ∷ []) c.strip_prefix.result c.strip_prefix.ensures.cases in
    let plain = rw c.in-None.is at is in
    (λ t. lit_begins c.args.above word (c.may_be_var-in-None.ensures.0 t), λ b. c.may_be_var-in-None.ensures.1 (plain_begun c.args.above word plain b))
