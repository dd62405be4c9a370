use Rattle.std.proofs.lemmas.Bool.Decides.{Decides-eqb}
use Rattle.std.proofs.lemmas.Slice.Eq.{strip_prefix_is}
use Rattle.cert_words.proofs.Ones.{one_cut, one_bad, one_none, due_front}
use Rattle.cert_words.proofs.Literals.{bytes_same}
use Rattle.std.proofs.Common.{◌≡◌, ◌∙◌}
use Rattle.cert_words.proofs.parts.take_word.Goals as goal

pub returns-in-Missing-clause-err : goal.returns-in-Missing-clause-err
returns-in-Missing-clause-err c = one_none (λ w. w ≡ c.args.due.now) (λ w. w) c.args.words.now c.in-Missing.ensures

pub returns-in-Cut-clause-err : goal.returns-in-Cut-clause-err
returns-in-Cut-clause-err c =
    let due = c.args.due.now in
    let p = c.in-Cut.word.now in
    rw (c.cut_off.ensures, c.is_some.ensures)
    (one_cut (λ w. w ≡ due) (λ w. w) c.args.words.now p _ c.in-Cut.ensures
    (due_front due p c.strip_prefix.result (strip_prefix_is Decides-eqb due p c.strip_prefix.result c.strip_prefix.ensures.cases)))

pub returns-else-eq-clause-err : goal.returns-else-eq-clause-err
returns-else-eq-clause-err c =
    one_bad (λ w. w ≡ c.args.due.now) (λ w. w) c.in-Whole.word.now c.args.words.now c.next.new.self c.in-Whole.ensures
    (λ v is e. let t = bytes_same _ _ (e ∙ is) in cc)
