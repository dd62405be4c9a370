use Rattle.std.proofs.Common.{arith}
use Rattle.std.proofs.lemmas.Option.{slice_get_within}
use Rattle.witness_replay.proofs.replays.first_violation.Goals as goal

pub returns : goal.returns
returns c =
    λ t v. let within = slice_get_within c.args.run.now t v.toggles.now v.toggles.now_at in
    c.loop-t.invariant.none t (omega arith) v
