use Rattle.std.proofs.Common.{true, sym, subst, arith}
use Rattle.net_model.specs.declared.invariants.InvClause.{InvClause}
use Rattle.verdict_types.specs.Forms.{IsKeptClause}
use Rattle.cert_words.proofs.RowLemmas.{never}
use Rattle.cert_text.proofs.FoundLemmas.{clause_kept}
use Rattle.cert_text.proofs.writing.push_clauses.Goals as goal

pub push_kept-requires : goal.push_kept-requires
push_kept-requires c =
    let N : InvClause → Type 0 = IsKeptClause in
    clause_kept true c.clause-item.result (λ e. absurd (never (sym e)))
    (subst N (sym c.clause-item.is) (c.requires c.loop-clause.clause-index c.clause-item.result (omega arith)))
