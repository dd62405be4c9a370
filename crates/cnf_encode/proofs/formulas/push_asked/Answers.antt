use Rattle.std.proofs.Common.{List, [], ◌∷◌, take, sym, subst}
use Rattle.std.specs.Prelude.{All}
use Rattle.net_model.proofs.Settling.{All-at}
use Rattle.query_model.specs.declared.keys.KeyLit.{KeyLit}
use Rattle.cnf_encode.specs.Coded.{HasKey, HasKeys, Adds}
use Rattle.cnf_encode.proofs.Keyed.{HasKeys-one}
use Rattle.cnf_encode.proofs.Normals.{Adds-append}
use Rattle.frame_unroll.proofs.Numbering.{take_at}
use Rattle.cnf_encode.proofs.formulas.push_asked.Goals as goal

pub push_clause-requires : goal.push_clause-requires
push_clause-requires c =
    let lits : List KeyLit = c.item.result.now in
    subst (λ (ls : List KeyLit). HasKeys c.args.frames.now (ls ∷ [])) (sym c.as_slice.ensures)
    (HasKeys-one c.args.frames.now lits (All-at (All (HasKey c.args.frames.now)) c.args.asked.now c.loop-k.k lits c.item.ensures c.requires.keys))

pub loop-k-preserved : goal.loop-k-preserved
loop-k-preserved c =
    let lits : List KeyLit = c.item.result.now in
    let one : Adds c.args.frames.now (lits ∷ []) c.loop-k.clauses c.push_clause.new.clauses =
    subst (λ (ls : List KeyLit). Adds c.args.frames.now (ls ∷ []) c.loop-k.clauses c.push_clause.new.clauses) c.as_slice.ensures c.in_ok-push_clause.ensures in
    subst (λ (more : List (List KeyLit)). Adds c.args.frames.now more c.args.clauses.now c.push_clause.new.clauses)
    (sym (take_at c.args.asked.now c.loop-k.k lits c.item.ensures).0)
    (Adds-append c.args.frames.now (take c.loop-k.k c.args.asked.now) (lits ∷ []) c.args.clauses.now c.loop-k.clauses c.push_clause.new.clauses
    c.loop-k.invariant one)
