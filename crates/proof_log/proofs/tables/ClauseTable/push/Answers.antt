use Rattle.std.proofs.Common.{◌+◌, ◌++◌, ◌∷◌, [], ℕ, length, sym, subst, arith}
use Rattle.std.proofs.lemmas.List.{length-append}
use Rattle.proof_log.specs.Tables.{AreEnds}
use Rattle.proof_log.proofs.StoredClauses.{clauses_of-push, AreEnds-push}
use Rattle.proof_log.proofs.tables.ClauseTable.push.Goals as goal

pub invariant_of-self-2 : goal.invariant_of-self-2
invariant_of-self-2 c =
    let lits = c.self.inside.lits.items in
    let ends = c.self.inside.ends.items in
    let end = length lits + length c.args.lits.now in
    let put = AreEnds-push 0 ends (length lits) end c.self.invariant (omega arith) in
    let P : ℕ → Type 0 = AreEnds 0 (ends ++ end ∷ []) in
    rw (
      c.in_ok-extend_from_slice.ensures.items,
      c.push_reserved.ensures.items,
      c.in_ok-reserve.ensures.items,
      c.len.ensures,
      c.self.inside.lits.ok.0,
    )
    (subst P (sym (length-append lits c.args.lits.now)) put)

pub returns-clause-ok : goal.returns-clause-ok
returns-clause-ok c =
    let lits = c.self.inside.lits.items in
    let ends = c.self.inside.ends.items in
    rw (
      ← c.self.view_is,
      c.in_ok-extend_from_slice.ensures.items,
      c.push_reserved.ensures.items,
      c.in_ok-reserve.ensures.items,
      c.len.ensures,
      c.self.inside.lits.ok.0,
    )
    (clauses_of-push lits c.args.lits.now 0 ends c.self.invariant)
