use Rattle.std.proofs.Common.{arith, [], ◌∷◌, subst}
use Rattle.net_model.specs.declared.invariants.InvClause.{InvClause}
use Rattle.inv_candidates.specs.Listing.{AddsNew, No_more}
use Rattle.inv_candidates.proofs.Adding.{adds_next, adds_to_end}
use Rattle.inv_candidates.proofs.tables.ClauseTable.add_all.Goals as goal

pub loop-k-init : goal.loop-k-init
loop-k-init c = No_more c.args.self.now

pub loop-k-preserved : goal.loop-k-preserved
loop-k-preserved c =
    adds_next c.args.clauses.now c.loop-k.k c.index-clauses-k.result c.args.self.now c.loop-k.self c.add.new.self (omega arith) c.index-clauses-k.is
    c.loop-k.invariant
    (subst (λ (x : InvClause). AddsNew c.loop-k.self (x ∷ []) c.add.new.self) c.in_ok-row_of.ensures c.in_ok-add.ensures)

pub returns : goal.returns
returns c = adds_to_end c.args.clauses.now c.loop-k.k c.args.self.now c.loop-k.self (omega arith) c.loop-k.invariant
