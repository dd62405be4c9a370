use Rattle.std.proofs.Common.{◌∙◌, List, ℕ, [], sym, subst, arith}
use Rattle.proof_log.specs.Derivations.{LeadsToConflict}
use Rattle.sat_solver.specs.Markings.{marked_lits}
use Rattle.sat_solver.proofs.AtConflict.{justified_all, refuted_from}
use Rattle.sat_solver.proofs.learning.last_step.Goals as goal

pub resolve_below-requires-clause-justified : goal.resolve_below-requires-clause-justified
resolve_below-requires-clause-justified c = λ i h.
    justified_all c.args.clauses.now c.args.trail.now c.requires.search i
    (omega (arith, h, c.mark_conflict.ensures.base, c.new-cut.ensures.base, c.len-len.ensures.value))

pub returns-clause-follows : goal.returns-clause-follows
returns-clause-follows c =
    let P : List ℕ → Type 0 = LeadsToConflict c.args.clauses.now [] in
    let lits = c.args.trail.now.lits in
    subst P (sym (c.from_vec.ensures ∙ c.reverse.ensures.items))
    (refuted_from c.args.clauses.now lits c.mark_conflict.new.self.base (marked_lits c.mark_conflict.new.marks lits)
    c.mark_conflict.new.self.hints.items (marked_lits c.resolve_below.new.marks lits) c.resolve_below.new.self.hints.items
    (omega (arith, c.mark_conflict.ensures.base, c.new-cut.ensures.base, c.len-len.ensures.value))
    c.in_ok-mark_conflict.ensures.state c.in_ok-resolve_below.ensures.cut)
