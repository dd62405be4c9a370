use Rattle.std.proofs.Common.{arith, ◌≡◌, ◌∙◌, ap, refl}
use Rattle.std.proofs.lemmas.List.{take_all}
use Rattle.net_model.specs.declared.invariants.StateLit.{StateLit}
use Rattle.net_model.specs.declared.invariants.InvClause.{InvClause}
use Rattle.inv_candidates.proofs.TableKeys.{row_more, clause_with}
use Rattle.inv_candidates.proofs.tables.row_of.Goals as goal

pub loop-k-preserved : goal.loop-k-preserved
loop-k-preserved c =
    let lit = c.at-lit.result in
    row_more c.loop-k.row.items (record { reg = lit.reg; value = lit.value }) c.args.clause.now.lits c.loop-k.k lit c.push.new.self.items
    c.loop-k.invariant c.at-lit.ensures refl c.in_ok-push.ensures.items

pub returns : goal.returns
returns c = clause_with (c.loop-k.invariant ∙ take_all c.loop-k.k c.args.clause.now.lits (omega arith))
