use Rattle.std.proofs.Common.{◌≤◌}
use Rattle.std.specs.Fmt.{decimal}
use Rattle.cert_words.proofs.Ones.{one_cut, one_bad, one_none}
use Rattle.cert_words.proofs.parts.take_number.Goals as goal

pub returns-in-Missing-clause-err : goal.returns-in-Missing-clause-err
returns-in-Missing-clause-err c = one_none (λ n. n ≤ c.args.most) decimal c.args.words.now c.in-Missing.ensures

pub returns-in-Cut-clause-err : goal.returns-in-Cut-clause-err
returns-in-Cut-clause-err c =
    rw c.cut_off.ensures
    (one_cut (λ n. n ≤ c.args.most) decimal c.args.words.now c.in-Cut.word.now c.may_be_number.result c.in-Cut.ensures c.may_be_number.ensures)

pub returns-in-None-clause-err : goal.returns-in-None-clause-err
returns-in-None-clause-err c =
    one_bad (λ n. n ≤ c.args.most) decimal c.in-Whole.word.now c.args.words.now c.next.new.self c.in-Whole.ensures (rw c.in-None.is at c.number_of.ensures)
