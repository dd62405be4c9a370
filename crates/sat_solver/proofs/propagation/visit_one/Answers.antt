use Rattle.std.proofs.Common.{◌∙◌, ℕ, [], ap, sym, subst, arith}
use Rattle.proof_log.specs.Literals.{lit_var, negated, InVars}
use Rattle.proof_log.specs.Clauses.{is_set}
use Rattle.proof_log.proofs.Members.{member_from_All}
use Rattle.watch_lists.specs.Watchings.{Watching}
use Rattle.sat_solver.specs.Watches.{clause_at}
use Rattle.sat_solver.proofs.AtConflict.{in_vars_back}
use Rattle.sat_solver.proofs.Watching.{IsRehung, watched_in_vars, place_within, rehung_from, partner_read, visit_satisfied, visit_moved}
use Rattle.sat_solver.proofs.Watching.{visit_implied, visit_falsified}
use Rattle.sat_solver.proofs.propagation.visit_one.Goals as goal

pub lit_of-other-requires : goal.lit_of-other-requires
lit_of-other-requires c =
    let w = c.args.watches.now in
    let n = c.in-Some.watch in
    let k = c.in-Some.ensures in
    let is = partner_read w c.take.new.self n c.other_watch.result c.literal.result k.4 c.other_watch.ensures c.literal.ensures.value in
    let v = watched_in_vars c.args.trail.now.vars c.args.clauses.now w.literals (negated n) c.requires.in_vars c.requires.watches
    (c.requires.watches.both n k.1) in
    omega (arith, is, v.0)

pub look_into-requires : goal.look_into-requires
look_into-requires c =
    place_within c.args.clauses.now c.args.watches.now.literals c.in-Some.watch c.requires.watches c.in-Some.ensures.1

pub attach-requires-in-Moves-clause-below : goal.attach-requires-in-Moves-clause-below
attach-requires-in-Moves-clause-below c =
    let n = c.in-Some.watch in
    let k = c.in-Some.ensures in
    let within = place_within c.args.clauses.now c.args.watches.now.literals n c.requires.watches k.1 in
    let v = member_from_All (InVars c.args.trail.now.vars) (clause_at c.args.clauses.now (lit_var n)) c.in-Moves.q
    (c.requires.in_vars (lit_var n) [] within) c.in-Moves.ensures.0 in
    omega (arith, v.1, c.index-in-Moves.ensures.value, c.requires.limit, ap (λ (x : Watching). x.limit) k.4)

pub attach-requires-in-Implies-clause-below : goal.attach-requires-in-Implies-clause-below
attach-requires-in-Implies-clause-below c =
    let v = in_vars_back c.args.trail.now.vars c.args.falsified (c.lits-lits.ensures.in_vars (negated c.args.falsified) c.requires.falsified) in
    omega (arith, v.1, c.index-in-Implies.ensures.value, c.requires.limit, ap (λ (x : Watching). x.limit) c.in-Some.ensures.4)

pub attach-requires-in-Falsified-clause-below : goal.attach-requires-in-Falsified-clause-below
attach-requires-in-Falsified-clause-below c =
    let v = in_vars_back c.args.trail.now.vars c.args.falsified (c.lits-lits.ensures.in_vars (negated c.args.falsified) c.requires.falsified) in
    omega (arith, v.1, c.index-in-Falsified.ensures.value, c.requires.limit, ap (λ (x : Watching). x.limit) c.in-Some.ensures.4)

pub returns-in-Satisfied : goal.returns-in-Satisfied
returns-in-Satisfied c =
    let w = c.args.watches.now in
    let n = c.in-Some.watch in
    let k = c.in-Some.ensures in
    let is = partner_read w c.take.new.self n c.other_watch.result c.literal.result k.4 c.other_watch.ensures c.literal.ensures.value in
    let R : ℕ → Type 0 = λ x. IsRehung w c.attach.new.self n x in
    let r = subst R c.index.ensures.value (rehung_from w c.take.new.self c.attach.new.self n c.index.result k.0 k.1 k.2 k.3 k.4 c.attach.ensures) in
    visit_satisfied c.args.clauses.now c.args.falsified c.args.trail.now w c.attach.new.self n c.len-len.ensures.paired c.requires r
    (ap (is_set c.args.trail.now.lits) (sym (c.lit_of-other.ensures ∙ is)) ∙ c.in-Satisfied.ensures)

pub returns-in-Moves : goal.returns-in-Moves
returns-in-Moves c =
    let w = c.args.watches.now in
    let n = c.in-Some.watch in
    let k = c.in-Some.ensures in
    let is = partner_read w c.take.new.self n c.other_watch.result c.literal.result k.4 c.other_watch.ensures c.literal.ensures.value in
    let R : ℕ → Type 0 = λ x. IsRehung w c.attach-in-Moves.new.self n x in
    let r = subst R c.index-in-Moves.ensures.value (rehung_from w c.take.new.self c.attach-in-Moves.new.self n c.index-in-Moves.result k.0 k.1 k.2 k.3
    k.4 c.attach-in-Moves.ensures) in
    visit_moved c.args.clauses.now c.args.falsified c.args.trail.now w c.attach-in-Moves.new.self n c.in-Moves.q c.len-len.ensures.paired
    c.lits-lits.ensures.distinct c.requires r
    c.in-Moves.ensures.0 (λ e. c.in-Moves.ensures.1 (e ∙ sym (c.lit_of-other.ensures ∙ is))) c.in-Moves.ensures.2

pub returns-in-Implies : goal.returns-in-Implies
returns-in-Implies c =
    let w = c.args.watches.now in
    let n = c.in-Some.watch in
    let k = c.in-Some.ensures in
    let is = partner_read w c.take.new.self n c.other_watch.result c.literal.result k.4 c.other_watch.ensures c.literal.ensures.value in
    let R : ℕ → Type 0 = λ x. IsRehung w c.attach-in-Implies.new.self n x in
    let r = subst R c.index-in-Implies.ensures.value (rehung_from w c.take.new.self c.attach-in-Implies.new.self n c.index-in-Implies.result k.0 k.1
    k.2 k.3 k.4 c.attach-in-Implies.ensures) in
    visit_implied c.args.clauses.now c.args.falsified c.args.trail.now c.set.new.self w c.attach-in-Implies.new.self n c.lit_of-other.result
    c.len-len.ensures.paired c.requires r (c.lit_of-other.ensures ∙ is)
    c.in-Implies.ensures.0 c.in-Implies.ensures.1 c.in-Implies.ensures.2 c.set.ensures.vars c.set.ensures.lits c.set.ensures.reasons

pub returns-in-Falsified : goal.returns-in-Falsified
returns-in-Falsified c =
    let w = c.args.watches.now in
    let n = c.in-Some.watch in
    let k = c.in-Some.ensures in
    let R : ℕ → Type 0 = λ x. IsRehung w c.attach-in-Falsified.new.self n x in
    let r = subst R c.index-in-Falsified.ensures.value (rehung_from w c.take.new.self c.attach-in-Falsified.new.self n c.index-in-Falsified.result k.0
    k.1 k.2 k.3 k.4 c.attach-in-Falsified.ensures) in
    visit_falsified c.args.clauses.now c.args.falsified c.args.trail.now w c.attach-in-Falsified.new.self n c.lit_of-other.result
    c.len-len.ensures.paired c.requires r
    c.in-Falsified.ensures.0 c.in-Falsified.ensures.1
