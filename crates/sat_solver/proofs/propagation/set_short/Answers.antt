use Rattle.std.proofs.Common.{◌≡◌, ◌∙◌, ℕ, List, [], true, length, ap, sym, subst, rules, arith}
use Rattle.std.proofs.lemmas.List.{get_or_default}
use Rattle.proof_log.specs.Literals.{InVars}
use Rattle.proof_log.specs.Clauses.{is_set}
use Rattle.proof_log.proofs.Effecting.{sets_unset, sets_in}
use Rattle.proof_log.proofs.Members.{All-from_members}
use Rattle.sat_solver.specs.Watches.{clause_at, HasTrue}
use Rattle.sat_solver.proofs.Settling.{Extends-refl, Extends-push, unit_in, false_at, neither_quiet}
use Rattle.sat_solver.proofs.Watching.{short_true, set_true}
use Rattle.sat_solver.proofs.propagation.set_short.Goals as goal

pub set-requires-clause-in_vars : goal.set-requires-clause-in_vars
set-requires-clause-in_vars c =
    sets_in (InVars c.args.trail.now.vars) c.args.trail.now.lits c.clause-clause.result.now c.in-Sets.u (sym c.in-Sets.ensures) (search rules)

pub set-requires-clause-not_false : goal.set-requires-clause-not_false
set-requires-clause-not_false c = sets_unset c.args.trail.now.lits c.clause-clause.result.now c.in-Sets.u (sym c.in-Sets.ensures)

pub returns-in-Sets-clause-extends : goal.returns-in-Sets-clause-extends
returns-in-Sets-clause-extends c =
    Extends-push c.args.clauses.now c.args.trail.now c.args.trail.now c.set.new.self c.args.place c.in-Sets.u
    (Extends-refl c.args.clauses.now c.args.trail.now c.len-len.ensures.paired)
    c.set.ensures.vars c.set.ensures.lits c.set.ensures.reasons
    (unit_in c.args.clauses.now c.args.trail.now.lits c.args.place c.clause-clause.result.now c.in-Sets.u c.requires.within
    (c.clause-clause.ensures ∙ get_or_default c.args.clauses.now c.args.place [] c.clause-clause.result.now c.requires.within) (sym c.in-Sets.ensures))

pub returns-in-Sets-clause-holds : goal.returns-in-Sets-clause-holds
returns-in-Sets-clause-holds c = λ few.
    let P : List ℕ → Type 0 = λ xs. HasTrue c.set.new.self.lits xs in
    let at : c.clause-clause.result.now ≡ clause_at c.args.clauses.now c.args.place =
    c.clause-clause.ensures in
    subst P at (
      c.in-Sets.u,
      sets_in (λ q. is_set c.clause-clause.result.now q ≡ true) c.args.trail.now.lits c.clause-clause.result.now c.in-Sets.u (sym c.in-Sets.ensures)
          (All-from_members (λ q. is_set c.clause-clause.result.now q ≡ true) c.clause-clause.result.now (λ l m. m)),
      ap (λ xs. is_set xs c.in-Sets.u) c.set.ensures.lits ∙ set_true c.args.trail.now.lits c.in-Sets.u,
    )

pub returns-in-Neither-clause-holds : goal.returns-in-Neither-clause-holds
returns-in-Neither-clause-holds c = λ few.
    let P : List ℕ → Type 0 = λ xs. HasTrue c.args.trail.now.lits xs in
    let at : c.clause-clause.result.now ≡ clause_at c.args.clauses.now c.args.place =
    c.clause-clause.ensures in
    subst P at (short_true c.args.trail.now.lits c.clause-clause.result.now (omega (arith, ap length at, few))
    (neither_quiet c.args.trail.now.lits c.clause-clause.result.now (sym c.in-Neither.ensures)))

pub returns-in-Neither-clause-extends : goal.returns-in-Neither-clause-extends
returns-in-Neither-clause-extends c = Extends-refl c.args.clauses.now c.args.trail.now c.len-len.ensures.paired

pub returns-in-Falsified-clause-extends : goal.returns-in-Falsified-clause-extends
returns-in-Falsified-clause-extends c = Extends-refl c.args.clauses.now c.args.trail.now c.len-len.ensures.paired

pub returns-in-Falsified-clause-holds : goal.returns-in-Falsified-clause-holds
returns-in-Falsified-clause-holds c =
    false_at c.args.clauses.now c.args.trail.now.lits c.args.place c.clause-clause.result.now c.requires.within
    (c.clause-clause.ensures ∙ get_or_default c.args.clauses.now c.args.place [] c.clause-clause.result.now c.requires.within) (sym c.in-Falsified.ensures)
