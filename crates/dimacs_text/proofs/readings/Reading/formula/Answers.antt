use Rattle.dimacs_text.specs.Tokens.{tokens}
use Rattle.dimacs_text.proofs.Taking.{headed, read_from}
use Rattle.dimacs_text.proofs.readings.Reading.formula.Goals as goal

pub returns-clause-formula : goal.returns-clause-formula
returns-clause-formula c text so =
    headed (tokens text) c.in-Some.field-0 c.args.self (read_from (tokens text) c.args.self c.in-Some.field-0 c.in-Some.is so)
