use Rattle.std.proofs.Common.{List, ℕ, subst, arith}
use Rattle.proof_log.specs.Clauses.{IsNormalFrom}
use Rattle.proof_log.proofs.StoredClauses.{kept_with, kept_without, HasNoneFrom}
use Rattle.proof_log.proofs.tables.ClauseTable.push_normal.Goals as goal

pub invariant_of-self-2 : goal.invariant_of-self-2
invariant_of-self-2 c =
    let e = c.self.inside in
    let N : List ℕ → Type 0 = λ xs. IsNormalFrom c.len-start.result xs c.normalize.new.lits.items in
    let k = kept_with e.lits.items c.args.lits.now c.normalize.new.lits.items e.ends.items c.len-start.result c.len.result c.self.invariant
    (omega (arith, c.len-start.ensures, e.lits.ok.0)) (subst N c.in_ok-extend_from_slice.ensures.items c.if-not-normalize.ensures.normal)
    (omega (arith, c.len.ensures, c.normalize.new.lits.ok.0)) in
    rw (c.push_reserved.ensures.items, c.in_ok-reserve.ensures.items) k.1

pub returns-clause-ok : goal.returns-clause-ok
returns-clause-ok c =
    let e = c.self.inside in
    let N : List ℕ → Type 0 = λ xs. IsNormalFrom c.len-start.result xs c.normalize.new.lits.items in
    let k = kept_with e.lits.items c.args.lits.now c.normalize.new.lits.items e.ends.items c.len-start.result c.len.result c.self.invariant
    (omega (arith, c.len-start.ensures, e.lits.ok.0)) (subst N c.in_ok-extend_from_slice.ensures.items c.if-not-normalize.ensures.normal)
    (omega (arith, c.len.ensures, c.normalize.new.lits.ok.0)) in
    rw (← c.self.view_is, c.push_reserved.ensures.items, c.in_ok-reserve.ensures.items) k.0

pub returns-then-not-normalize-clause-ok : goal.returns-then-not-normalize-clause-ok
returns-then-not-normalize-clause-ok c =
    let e = c.self.inside in
    let N : List ℕ → Type 0 = λ xs. HasNoneFrom c.len-start.result xs c.normalize.new.lits.items in
    let k = kept_without e.lits.items c.args.lits.now c.normalize.new.lits.items e.ends.items c.len-start.result c.self.invariant
    (omega (arith, c.len-start.ensures, e.lits.ok.0)) (subst N c.in_ok-extend_from_slice.ensures.items c.if-not-normalize.ensures.normal) in
    rw (← c.self.view_is, c.in_ok-reserve.ensures.items) k.0

pub invariant_of-self-then-not-normalize : goal.invariant_of-self-then-not-normalize
invariant_of-self-then-not-normalize c =
    let e = c.self.inside in
    let N : List ℕ → Type 0 = λ xs. HasNoneFrom c.len-start.result xs c.normalize.new.lits.items in
    let k = kept_without e.lits.items c.args.lits.now c.normalize.new.lits.items e.ends.items c.len-start.result c.self.invariant
    (omega (arith, c.len-start.ensures, e.lits.ok.0)) (subst N c.in_ok-extend_from_slice.ensures.items c.if-not-normalize.ensures.normal) in
    rw c.in_ok-reserve.ensures.items k.1
