use Rattle.std.proofs.Common.{arith, ◌≡◌, ◌∙◌, ap, map, false, List}
use Rattle.std.proofs.lemmas.List.{take_all}
use Rattle.inv_candidates.specs.Listing.{lit_of}
use Rattle.inv_candidates.specs.declared.tables.RowLit.{RowLit}
use Rattle.inv_candidates.proofs.TableKeys.{lits_more, clause_with}
use Rattle.inv_candidates.proofs.tables.clause_of_row.Goals as goal

pub loop-k-preserved : goal.loop-k-preserved
loop-k-preserved c =
    let blank : RowLit = record { reg = 0; value = false } in
    lits_more c.loop-k.lits c.as_slice-items.result.now c.loop-k.k blank c.push.new.self (omega arith) c.loop-k.invariant c.in_ok-push.ensures.ok

pub returns : goal.returns
returns c =
    clause_with (c.loop-k.invariant ∙ ap (λ (l : List RowLit). map lit_of l) (take_all c.loop-k.k c.as_slice-items.result.now (omega arith))
    ∙ ap (λ (l : List RowLit). map lit_of l) c.as_slice-items.ensures.value)
