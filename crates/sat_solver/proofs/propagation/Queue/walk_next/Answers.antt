use Rattle.std.proofs.Common.{◌≡◌, ◌∙◌, ◌<◌, ℕ, List, true, length, get_or, ap, sym, subst, arith}
use Rattle.std.proofs.lemmas.List.{get_or_read}
use Rattle.proof_log.specs.Literals.{negated, InVars}
use Rattle.proof_log.specs.Clauses.{is_set}
use Rattle.proof_log.proofs.LiteralLemmas.{negated-negated}
use Rattle.proof_log.proofs.Members.{is_set-at}
use Rattle.sat_solver.proofs.AtConflict.{in_vars_back}
use Rattle.sat_solver.proofs.Watching.{gathered_can, walk_settles, walk_conflicts}
use Rattle.sat_solver.proofs.propagation.Queue.walk_next.Goals as goal

pub gather-requires-clause-below : goal.gather-requires-clause-below
gather-requires-clause-below c =
    let lits = c.args.trail.now.lits in
    let at = c.args.self.now.done in
    let p = c.index-lits-self.result in
    let L : List ℕ → Type 0 = λ xs. at < length xs in
    let p_is : p ≡ get_or lits at 0 = get_or_read c.lits.result.now at p (subst L (sym c.lits.ensures.value) c.requires.within) c.index-lits-self.is 0
    ∙ ap (λ xs. get_or xs at 0) c.lits.ensures.value in
    let holds : is_set lits p ≡ true = ap (is_set lits) p_is ∙ is_set-at lits at c.requires.within in
    let V : ℕ → Type 0 = InVars c.args.trail.now.vars in
    let v = in_vars_back c.args.trail.now.vars (negated p) (subst V (sym (negated-negated p)) (c.lits.ensures.in_vars p holds)) in
    omega (arith, v.1, c.negated-falsified.ensures, c.index.ensures.value, c.requires.queued.limit)

pub walk-requires : goal.walk-requires
walk-requires c =
    let lits = c.args.trail.now.lits in
    let at = c.args.self.now.done in
    let p = c.index-lits-self.result in
    let L : List ℕ → Type 0 = λ xs. at < length xs in
    let p_is : p ≡ get_or lits at 0 = get_or_read c.lits.result.now at p (subst L (sym c.lits.ensures.value) c.requires.within) c.index-lits-self.is 0
    ∙ ap (λ xs. get_or xs at 0) c.lits.ensures.value in
    let holds : is_set lits p ≡ true = ap (is_set lits) p_is ∙ is_set-at lits at c.requires.within in
    gathered_can c.args.clauses.now c.args.trail.now c.args.self.now c.gather.new.self p c.negated-falsified.result c.requires.in_vars
    c.requires.normal c.requires.queued holds c.negated-falsified.ensures
    c.gather.ensures.limit c.gather.ensures.literals (λ n h. c.gather.ensures.on n h ∙ c.index.ensures.value)

pub returns-in-Some-clause-settles : goal.returns-in-Some-clause-settles
returns-in-Some-clause-settles c =
    walk_conflicts c.args.clauses.now c.args.trail.now c.walk.new.trail c.args.self.now c.gather.new.self c.walk.new.watches
    c.negated-falsified.result c.requires.queued c.gather.ensures.literals c.walk.ensures.walks c.walk.ensures.none_waits

pub returns-in-None-clause-settles : goal.returns-in-None-clause-settles
returns-in-None-clause-settles c =
    let lits = c.args.trail.now.lits in
    let at = c.args.self.now.done in
    let p = c.index-lits-self.result in
    let L : List ℕ → Type 0 = λ xs. at < length xs in
    let p_is : p ≡ get_or lits at 0 = get_or_read c.lits.result.now at p (subst L (sym c.lits.ensures.value) c.requires.within) c.index-lits-self.is 0
    ∙ ap (λ xs. get_or xs at 0) c.lits.ensures.value in
    walk_settles c.args.clauses.now c.args.trail.now c.walk.new.trail c.args.self.now c.gather.new.self c.walk.new.watches p
    c.negated-falsified.result c.requires.queued c.requires.within p_is c.negated-falsified.ensures
    c.gather.ensures.literals (λ n e. c.gather.ensures.all n (e ∙ sym c.index.ensures.value)) c.walk.ensures.walks c.walk.ensures.none_waits
    c.in-None.ensures.walked
