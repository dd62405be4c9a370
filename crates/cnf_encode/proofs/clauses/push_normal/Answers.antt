use Rattle.cnf_encode.proofs.Normals.{kept_adds}
use Rattle.cnf_encode.proofs.clauses.push_normal.Goals as goal

pub returns : goal.returns
returns c = kept_adds c.args.lits.now c.args.clauses.now c.push_normal.new.self c.in_ok-push_normal.ensures.ok
