use Rattle.std.proofs.Common.{Some, arith}
use Rattle.std.proofs.lemmas.Option.{slice_get_within}
use Rattle.icg_rewrite.proofs.rooms.first_full.Goals as goal

pub returns-clause-first : goal.returns-clause-first
returns-clause-first c = λ r full.
    let lt = slice_get_within c.args.gated.now.of r (Some full.gate) full.behind in
    let end = c.len-r-end.ensures in
    let past = c.loop-r-test.false in
    c.loop-r.invariant r (omega arith) full

pub returns-clause-full : goal.returns-clause-full
returns-clause-full c = returns-clause-first c
