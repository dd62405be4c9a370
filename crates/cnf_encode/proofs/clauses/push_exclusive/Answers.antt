use Rattle.std.proofs.Common.{◌∷◌, [], List, false, true}
use Rattle.std.proofs.lemmas.Result.{on_ok_weaker}
use Rattle.query_model.specs.Keys.{lit, opposite}
use Rattle.query_model.specs.declared.keys.KeyLit.{KeyLit}
use Rattle.cnf_encode.proofs.Keyed.{HasKeys-same, exclusive_keys, Adds-same, Adds-four}
use Rattle.cnf_encode.proofs.clauses.push_exclusive.Goals as goal

pub push_clause-requires : goal.push_clause-requires
push_clause-requires c =
    HasKeys-same c.args.frames.now (c.lit.result ∷ c.args.x ∷ c.args.y ∷ []) (lit false c.args.z ∷ c.args.x ∷ c.args.y ∷ []) (cc)
    (exclusive_keys c.args.frames.now c.args.z c.args.x c.args.y c.requires).0

pub push_clause-requires-2 : goal.push_clause-requires-2
push_clause-requires-2 c =
    HasKeys-same c.args.frames.now (c.lit-2.result ∷ c.opposite.result ∷ c.opposite-2.result ∷ [])
    (lit false c.args.z ∷ opposite c.args.x ∷ opposite c.args.y ∷ []) (cc)
    (exclusive_keys c.args.frames.now c.args.z c.args.x c.args.y c.requires).1

pub push_clause-requires-3 : goal.push_clause-requires-3
push_clause-requires-3 c =
    HasKeys-same c.args.frames.now (c.lit-3.result ∷ c.opposite-3.result ∷ c.args.y ∷ []) (lit true c.args.z ∷ opposite c.args.x ∷ c.args.y ∷ []) (cc)
    (exclusive_keys c.args.frames.now c.args.z c.args.x c.args.y c.requires).2

pub push_clause-requires-4 : goal.push_clause-requires-4
push_clause-requires-4 c =
    HasKeys-same c.args.frames.now (c.lit-4.result ∷ c.args.x ∷ c.opposite-4.result ∷ []) (lit true c.args.z ∷ c.args.x ∷ opposite c.args.y ∷ []) (cc)
    (exclusive_keys c.args.frames.now c.args.z c.args.x c.args.y c.requires).3

pub returns : goal.returns
returns c =
    let z = c.args.z in let x = c.args.x in let y = c.args.y in
    let four : List KeyLit = lit true z ∷ x ∷ opposite y ∷ [] in
    let three : List KeyLit = lit true z ∷ opposite x ∷ y ∷ [] in
    let two : List KeyLit = lit false z ∷ opposite x ∷ opposite y ∷ [] in
    let one : List KeyLit = lit false z ∷ x ∷ y ∷ [] in
    on_ok_weaker c.push_clause-4.result
    (λ last.
    Adds-four c.args.frames.now one two three four _ _ _ _ _
    (Adds-same c.args.frames.now (c.lit.result ∷ x ∷ y ∷ []) one _ _ (cc) c.in_ok-push_clause.ensures)
    (Adds-same c.args.frames.now (c.lit-2.result ∷ c.opposite.result ∷ c.opposite-2.result ∷ []) two _ _ (cc) c.in_ok-push_clause-2.ensures)
    (Adds-same c.args.frames.now (c.lit-3.result ∷ c.opposite-3.result ∷ y ∷ []) three _ _ (cc) c.in_ok-push_clause-3.ensures)
    (Adds-same c.args.frames.now (c.lit-4.result ∷ x ∷ c.opposite-4.result ∷ []) four _ _ (cc) last))
    c.push_clause-4.ensures
