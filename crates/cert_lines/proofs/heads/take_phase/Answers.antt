use Rattle.cert_lines.proofs.heads.take_phase.Goals as goal

pub returns-in-Base-clause-err : goal.returns-in-Base-clause-err
returns-in-Base-clause-err c = rw c.in-Base.is c.take_word.ensures.err

pub returns-in-Step-clause-err : goal.returns-in-Step-clause-err
returns-in-Step-clause-err c = rw c.in-Step.is c.take_word-in-Step.ensures.err
