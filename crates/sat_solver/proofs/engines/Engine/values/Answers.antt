use Rattle.std.proofs.Common.{◌≡◌, ◌+◌, ◌-◌, ◌++◌, ◌∷◌, [], ℕ, List, Bool, sym, subst, arith}
use Rattle.sat_solver.proofs.Models.{ValuesOf, values_none, values_more, model_from_set}
use Rattle.sat_solver.proofs.engines.Engine.values.Goals as goal

pub loop-var-init : goal.loop-var-init
loop-var-init c =
    let P : List Bool → Type 0 = ValuesOf c.self.inside.trail.lits 0 in
    subst P (sym c.new-values.ensures) (values_none c.self.inside.trail.lits)

pub loop-var-preserved : goal.loop-var-preserved
loop-var-preserved c =
    let lits = c.self.inside.trail.lits in
    let P : List Bool → Type 0 = ValuesOf lits (c.loop-var.var + 1 - 1) in
    let Q : ℕ → Type 0 = λ n. ValuesOf lits n (c.loop-var.values ++ c.is_set.result ∷ []) in
    let low = c.loop-var.auto.var in
    let n : c.loop-var.var - 1 + 1 ≡ c.loop-var.var + 1 - 1 = omega arith in
    subst P (sym c.in_ok-push.ensures.ok)
    (subst Q n (values_more lits (c.loop-var.var - 1) c.new.result c.loop-var.values c.is_set.result c.loop-var.invariant
    (omega (arith, c.new.ensures)) c.is_set.ensures))

pub returns-clause-long : goal.returns-clause-long
returns-clause-long c =
    let low = c.loop-var.auto in
    rw (← c.self.view_is) (omega (arith, c.loop-var.invariant.long, c.vars-var-end.ensures.value))

pub returns-clause-model : goal.returns-clause-model
returns-clause-model c =
    let t = c.self.inside.trail in
    let low = c.loop-var.auto in
    let all : c.loop-var.var - 1 ≡ t.vars = omega (arith, c.vars-var-end.ensures.value) in
    let V : ℕ → Type 0 = λ n. ValuesOf t.lits n c.loop-var.values in
    rw (← c.self.view_is)
    (model_from_set t.vars c.self.inside.clauses t.lits c.loop-var.values c.self.invariant.0.search.in_vars
    (rw (← c.self.view_is) at c.requires.quiet) (rw (← c.self.view_is) at c.requires.set)
    c.lits-lits.ensures.distinct (subst V all c.loop-var.invariant))
