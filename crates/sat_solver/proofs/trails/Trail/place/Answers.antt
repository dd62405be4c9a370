use Rattle.std.proofs.Common.{◌≡◌, ◌<◌, ℕ, List, length, get_or, map, eqb, true, ap, ◌∙◌, arith}
use Rattle.std.proofs.lemmas.List.{get_or_read}
use Rattle.proof_log.specs.Literals.{lit_var}
use Rattle.proof_log.specs.Clauses.{is_set}
use Rattle.std.specs.List.{IsDistinct}
use Rattle.sat_solver.proofs.Trailing.{placed_at, place_front}
use Rattle.sat_solver.proofs.trails.Trail.place.Goals as goal

pub returns-clause-below : goal.returns-clause-below
returns-clause-below c =
    let lits = c.self.inside.assigned.lits in
    let places = c.self.inside.places.items in
    let set : is_set lits c.args.l ≡ true = rw (← c.self.view_is) at c.requires in
    let at = placed_at c.self.inside.assigned.vars _ lits c.self.inside.reasons.items places c.args.l c.self.invariant set in
    let in_vars = c.lits-lits.ensures.in_vars c.args.l set in
    let within : c.var.result < length places = omega (arith, c.self.invariant.long, c.var.ensures.value, in_vars) in
    let read : c.index.result.now ≡ get_or places (lit_var c.args.l) 0 =
    get_or_read places c.var.result c.index.result.now within c.index.ensures 0 ∙ ap (λ v. get_or places v 0) c.var.ensures.value in
    rw (← c.self.view_is) (omega (arith, read, at.0))

pub returns-clause-here : goal.returns-clause-here
returns-clause-here c =
    let lits = c.self.inside.assigned.lits in
    let places = c.self.inside.places.items in
    let set : is_set lits c.args.l ≡ true = rw (← c.self.view_is) at c.requires in
    let at = placed_at c.self.inside.assigned.vars _ lits c.self.inside.reasons.items places c.args.l c.self.invariant set in
    let in_vars = c.lits-lits.ensures.in_vars c.args.l set in
    let within : c.var.result < length places = omega (arith, c.self.invariant.long, c.var.ensures.value, in_vars) in
    let read : c.index.result.now ≡ get_or places (lit_var c.args.l) 0 =
    get_or_read places c.var.result c.index.result.now within c.index.ensures 0 ∙ ap (λ v. get_or places v 0) c.var.ensures.value in
    rw (← c.self.view_is) (ap (λ i. get_or lits i 0) read ∙ at.1)

pub returns-clause-front : goal.returns-clause-front
returns-clause-front c =
    let lits = c.self.inside.assigned.lits in
    let below : c.index.result.now < length lits = rw (← c.self.view_is) at (returns-clause-below c) in
    let here : get_or lits c.index.result.now 0 ≡ c.args.l = rw (← c.self.view_is) at (returns-clause-here c) in
    let D : List ℕ → Type 0 = λ xs. IsDistinct eqb (map lit_var xs) in
    rw (← c.self.view_is) (λ n. place_front lits c.index.result.now n c.args.l c.lits-lits.ensures.distinct below here)
