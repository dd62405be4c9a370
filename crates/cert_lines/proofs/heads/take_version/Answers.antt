use Rattle.std.specs.Fmt.{decimal}
use Rattle.cert_words.proofs.Ones.{one_cut, one_bad, one_none}
use Rattle.cert_lines.specs.Kinds.{IsVersion}
use Rattle.cert_lines.proofs.heads.take_version.Goals as goal

pub returns-in-Missing-clause-err : goal.returns-in-Missing-clause-err
returns-in-Missing-clause-err c = one_none IsVersion decimal c.args.words.now c.in-Missing.ensures

pub returns-in-Cut-clause-err : goal.returns-in-Cut-clause-err
returns-in-Cut-clause-err c =
    let may = c.may_be_version.ensures in
    rw c.cut_off.ensures
    (one_cut IsVersion decimal c.args.words.now c.in-Cut.word.now c.may_be_version.result c.in-Cut.ensures
    (λ t. let b = may.0 t in (b.0, b.1.0, b.1.1, b.1.2), λ m. may.1 (m.0, (m.1, m.2, m.3))))

pub returns-in-None-clause-err : goal.returns-in-None-clause-err
returns-in-None-clause-err c =
    let none = rw c.in-None.is at c.version_of.ensures in
    one_bad IsVersion decimal c.in-Whole.word.now c.args.words.now c.next.new.self c.in-Whole.ensures (λ v fits e. none (v, fits, e))
