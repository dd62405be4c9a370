use Rattle.std.proofs.Common.{◌≡◌, arith, ap, sym, get_or, take, ◌∙◌}
use Rattle.std.proofs.lemmas.List.{get_or_read}
use Rattle.proof_log.specs.Clauses.{is_set}
use Rattle.proof_log.proofs.Members.{is_set-at}
use Rattle.sat_solver.proofs.Analyzing.{IsFrontLen-none, IsFrontLen-kept, IsFrontLen-longer}
use Rattle.sat_solver.proofs.learning.front_len.Goals as goal
use Rattle.sat_solver.proofs.learning.front_len.Goals.{then-is_open_other, else-is_open_other}

pub is_open_other-requires : goal.is_open_other-requires
is_open_other-requires c = λ ne.
    c.requires c.l-item.result
    (ap (is_set c.args.lits.now) (get_or_read c.args.lits.now c.loop-l.l-index c.l-item.result (omega arith) c.l-item.is 0)
    ∙ is_set-at c.args.lits.now c.loop-l.l-index (omega arith))

pub place-len-requires : goal.place-len-requires
place-len-requires c =
    ap (is_set c.args.trail.now.lits) c.negated.ensures ∙ c.requires c.l-item.result
    (ap (is_set c.args.lits.now) (get_or_read c.args.lits.now c.loop-l.l-index c.l-item.result (omega arith) c.l-item.is 0)
    ∙ is_set-at c.args.lits.now c.loop-l.l-index (omega arith))

pub loop-l-init : goal.loop-l-init
loop-l-init c = IsFrontLen-none c.args.trail.now.lits c.args.unit

pub loop-l-preserved : goal.loop-l-preserved
loop-l-preserved c =
    let lits = c.args.trail.now.lits in
    let i = c.loop-l.l-index in
    let x = c.l-item.result in
    let e : x ≡ get_or c.args.lits.now i 0 = get_or_read c.args.lits.now i x (omega arith) c.l-item.is 0 in
    elim c.if-is_open_other.branch [
      | then-is_open_other w ↦ rw w.len-is (IsFrontLen-longer lits c.args.lits.now c.args.unit i x c.loop-l.len w.place-len.result (omega arith) e
          w.if-is_open_other.ensures (λ n. ap (is_set (take n lits)) (sym w.negated.ensures) ∙ w.place-len.ensures.front n) c.loop-l.invariant)
      | else-is_open_other w ↦ rw w.len-is (IsFrontLen-kept lits c.args.lits.now c.args.unit i x c.loop-l.len (omega arith) e
          w.if-is_open_other.ensures c.loop-l.invariant)
    ]
