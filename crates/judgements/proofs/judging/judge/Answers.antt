use Rattle.judgements.proofs.Verdicts.{judged_of}
use Rattle.judgements.proofs.judging.judge.Goals as goal

pub invariants-requires-clause-extra_names : goal.invariants-requires-clause-extra_names
invariants-requires-clause-extra_names g c = c.requires.sought.names

pub invariants-requires-clause-extra_form : goal.invariants-requires-clause-extra_form
invariants-requires-clause-extra_form g c = c.requires.sought.in_form

pub invariants-requires-clause-few : goal.invariants-requires-clause-few
invariants-requires-clause-few g c = c.requires.sought.shallow

pub returns-clause-judged : goal.returns-clause-judged
returns-clause-judged g c =
    judged_of c.args.design.now c.args.claims.now c.args.search.now.extra.now c.args.search.now.depth c.args.limits.now
    (record { inv = c.in_ok-inv.inv; verdicts = c.in_ok-verdicts.verdicts })
    c.in_ok-inv.ensures.kept c.in_ok-inv.ensures.names c.in_ok-verdicts.ensures
