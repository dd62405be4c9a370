use Rattle.std.proofs.Common.{◌∷◌, [], false, true}
use Rattle.query_model.specs.Keys.{lit, opposite}
use Rattle.cnf_encode.proofs.Keyed.{HasKeys-same, both_keys}
use Rattle.cnf_encode.proofs.clauses.push_both.Goals as goal

pub push_clause-requires : goal.push_clause-requires
push_clause-requires c =
    HasKeys-same c.args.frames.now (c.lit.result ∷ c.args.x ∷ []) (lit false c.args.z ∷ c.args.x ∷ []) (cc)
    (both_keys c.args.frames.now c.args.z c.args.x c.args.y c.requires).0

pub push_clause-requires-2 : goal.push_clause-requires-2
push_clause-requires-2 c =
    HasKeys-same c.args.frames.now (c.lit-2.result ∷ c.args.y ∷ []) (lit false c.args.z ∷ c.args.y ∷ []) (cc)
    (both_keys c.args.frames.now c.args.z c.args.x c.args.y c.requires).1

pub push_clause-requires-3 : goal.push_clause-requires-3
push_clause-requires-3 c =
    HasKeys-same c.args.frames.now (c.lit-3.result ∷ c.opposite.result ∷ c.opposite-2.result ∷ [])
    (lit true c.args.z ∷ opposite c.args.x ∷ opposite c.args.y ∷ []) (cc) (both_keys c.args.frames.now c.args.z c.args.x c.args.y c.requires).2
