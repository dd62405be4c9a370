use Rattle.std.proofs.Common.{[], ◌∷◌, ◌++◌, List, subst, sym}
use Rattle.std.specs.Prelude.{OnOk, IfErr}
use Rattle.dimacs_text.specs.Tokens.{Placed}
use Rattle.dimacs_text.specs.Faults.{IsStop}
use Rattle.dimacs_text.specs.Readings.{IsRead}
use Rattle.dimacs_text.proofs.Taking.{read_none, read_from}
use Rattle.dimacs_text.proofs.readings.Reading.take.Goals as goal

pub returns-in-None-clause-ok : goal.returns-in-None-clause-ok
returns-in-None-clause-ok c placed so =
    subst (λ (ps : List Placed). OnOk c.begin.result (IsRead (ps ++ (c.args.line, c.args.token) ∷ []) c.begin.new.self))
    (sym (read_none placed c.args.self.now c.in-None.is so)) c.begin.ensures.ok

pub returns-in-None-clause-err : goal.returns-in-None-clause-err
returns-in-None-clause-err c placed so =
    subst (λ (ps : List Placed). IfErr c.begin.result (IsStop (ps ++ (c.args.line, c.args.token) ∷ []))) (sym (read_none placed c.args.self.now c.in-None.is so))
    c.begin.ensures.err

pub returns-in-Some-clause-ok : goal.returns-in-Some-clause-ok
returns-in-Some-clause-ok c placed so = c.take_after.ensures.ok placed (read_from placed c.args.self.now c.in-Some.counts c.in-Some.is so)

pub returns-in-Some-clause-err : goal.returns-in-Some-clause-err
returns-in-Some-clause-err c placed so = c.take_after.ensures.err placed (read_from placed c.args.self.now c.in-Some.counts c.in-Some.is so)
