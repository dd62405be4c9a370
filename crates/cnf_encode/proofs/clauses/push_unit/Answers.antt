use Rattle.std.proofs.Common.{◌∷◌, []}
use Rattle.query_model.specs.Keys.{lit}
use Rattle.cnf_encode.proofs.Keyed.{HasKeys-same}
use Rattle.cnf_encode.proofs.clauses.push_unit.Goals as goal

pub push_clause-requires : goal.push_clause-requires
push_clause-requires c = HasKeys-same c.args.frames.now (c.lit.result ∷ []) (lit c.args.value c.args.out ∷ []) (cc) c.requires
