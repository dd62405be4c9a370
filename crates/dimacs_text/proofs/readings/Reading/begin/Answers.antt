use Rattle.std.proofs.Common.{[], ◌∷◌, subst}
use Rattle.dimacs_text.specs.Tokens.{IsFew}
use Rattle.dimacs_text.specs.declared.tokens.Token.TheVariants.{Header}
use Rattle.dimacs_text.proofs.Taking.{read_first, read_by}
use Rattle.dimacs_text.proofs.readings.Reading.begin.Goals as goal

pub returns-in-Header-clause-ok : goal.returns-in-Header-clause-ok
returns-in-Header-clause-ok c =
    let r = c.of.result in
    rw c.in-Header.is (read_by ((c.args.line, Header c.in-Header.vars c.in-Header.told) ∷ []) r _ c.of.ensures.header
    (read_first c.in-Header.vars c.in-Header.told c.args.line r (subst IsFew c.in-Header.is c.requires.few) c.of.ensures.clauses c.of.ensures.count
    c.of.ensures.begun c.of.ensures.greatest))
