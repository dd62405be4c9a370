use Rattle.cert_words.specs.Numbers.{lit_word, IsLitAbove}
use Rattle.cert_words.proofs.Ones.{one_cut, one_bad, one_none}
use Rattle.cert_words.proofs.parts.take_lit.Goals as goal

pub returns-in-Missing-clause-err : goal.returns-in-Missing-clause-err
returns-in-Missing-clause-err c = one_none (IsLitAbove c.args.above) lit_word c.args.words.now c.in-Missing.ensures

pub returns-in-Cut-clause-err : goal.returns-in-Cut-clause-err
returns-in-Cut-clause-err c =
    let may = c.may_be_lit.ensures in
    rw c.cut_off.ensures
    (one_cut (IsLitAbove c.args.above) lit_word c.args.words.now c.in-Cut.word.now c.may_be_lit.result c.in-Cut.ensures
    (λ t. let b = may.0 t in (b.more, b.lit, b.fits, b.is), λ m. may.1 (record { more = m.0; lit = m.1; fits = m.2; is = m.3 })))

pub returns-in-None-clause-err : goal.returns-in-None-clause-err
returns-in-None-clause-err c =
    one_bad (IsLitAbove c.args.above) lit_word c.in-Whole.word.now c.args.words.now c.next.new.self c.in-Whole.ensures (rw c.in-None.is at c.lit_of.ensures)
