use Rattle.std.proofs.Common.{◌≡◌, ◌∙◌, ◌+◌, ◌*◌, ◌++◌, ◌∷◌, [], ℕ, List, get_or, length, take, ap, refl, sym, subst, arith}
use Rattle.std.specs.List.{All}
use Rattle.std.proofs.lemmas.List.{get_or_read}
use Rattle.std.proofs.lemmas.List.Elements.{All-push}
use Rattle.proof_log.specs.Literals.{negated, InVars}
use Rattle.proof_log.specs.Clauses.{is_set}
use Rattle.proof_log.proofs.Members.{is_set-take}
use Rattle.sat_solver.specs.Engines.{level_floor}
use Rattle.sat_solver.proofs.AtConflict.{unit_unset_at, unit_in_vars, learnt_shown}
use Rattle.sat_solver.proofs.Queueing.{IsSecond, ArePut, IsEngine-more, IsEngine-learn, second_low}
use Rattle.sat_solver.proofs.Trailing.{in_left}
use Rattle.sat_solver.proofs.Deciding.{AreWaiting-more}
use Rattle.sat_solver.proofs.engines.Engine.learn.Goals as goal

pub invariant_of-self-in_err-provide : goal.invariant_of-self-in_err-provide
invariant_of-self-in_err-provide c =
    let e = c.self.inside in (
      IsEngine-more e.clauses e.trail e.starts.items e.walks.items e.queue c.provide.new.self c.self.invariant.0 c.provide.ensures.more,
      c.self.invariant.1,
      c.self.invariant.2,
      c.self.invariant.3,
      omega (arith, c.analyze.ensures.long, c.self.invariant.4),
    )

pub invariant_of-self-in_err-push : goal.invariant_of-self-in_err-push
invariant_of-self-in_err-push c =
    let e = c.self.inside in
    rw c.in_err-push.ensures.err (
      IsEngine-more e.clauses e.trail e.starts.items e.walks.items e.queue c.provide.new.self c.self.invariant.0 c.provide.ensures.more,
      c.self.invariant.1,
      c.self.invariant.2,
      c.self.invariant.3,
      omega (arith, c.analyze.ensures.long, c.self.invariant.4),
    )

pub raise_hints-requires : goal.raise_hints-requires
raise_hints-requires c =
    let e = c.self.inside in
    let r = c.in_ok-learnt.learnt in
    let learnt = learnt_shown e.trail.vars e.clauses _ e.trail.lits e.starts.items _ r.step r.level r.unit refl c.deref.ensures.value
    c.in_ok-learnt.ensures.learnt in
    rw (c.in_ok-push.ensures.ok, c.as_slice-lits.ensures, c.self.invariant.3.vars)
    (All-push (λ x. All (InVars e.trail.vars) x) e.clauses r.step.clause c.self.invariant.0.search.in_vars learnt.in_vars)

pub second_watch-second-requires-clause-falsified : goal.second_watch-second-requires-clause-falsified
second_watch-second-requires-clause-falsified c = λ l m ne.
    let e = c.self.inside in
    let r = c.in_ok-learnt.learnt in
    let learnt = learnt_shown e.trail.vars e.clauses _ e.trail.lits e.starts.items _ r.step r.level r.unit refl c.deref.ensures.value
    c.in_ok-learnt.ensures.learnt in
    is_set-take (get_or e.starts.items r.level 0) e.trail.lits (negated l)
    (learnt.back.falsified l (ap (λ xs. is_set xs l) (sym (c.as_slice-lits.ensures)) ∙ m) ne)

pub watch-requires-clause-first_free : goal.watch-requires-clause-first_free
watch-requires-clause-first_free c =
    let clauses = c.self.inside.clauses in
    let place_is : c.len-place.result ≡ length clauses = c.len-place.ensures.value in
    c.provide.ensures.more.same (2 * c.len-place.result) ∙ c.self.invariant.0.queued.watches.spare (2 * c.len-place.result) (omega (arith, place_is))

pub watch-requires-clause-second_free : goal.watch-requires-clause-second_free
watch-requires-clause-second_free c =
    let clauses = c.self.inside.clauses in
    let place_is : c.len-place.result ≡ length clauses = c.len-place.ensures.value in
    c.provide.ensures.more.same (2 * c.len-place.result + 1) ∙ c.self.invariant.0.queued.watches.spare (2 * c.len-place.result + 1) (omega (arith, place_is))

pub watch-requires-clause-first_low : goal.watch-requires-clause-first_low
watch-requires-clause-first_low c =
    let r = c.in_ok-learnt.learnt in
    let v = unit_in_vars _ r.step r.level r.unit c.in_ok-learnt.ensures.learnt in
    omega (arith, v.1, c.provide.ensures.more.limit, c.self.invariant.0.queued.limit)

pub watch-requires-clause-second_low : goal.watch-requires-clause-second_low
watch-requires-clause-second_low c =
    let e = c.self.inside in
    let r = c.in_ok-learnt.learnt in
    let learnt = learnt_shown e.trail.vars e.clauses _ e.trail.lits e.starts.items _ r.step r.level r.unit refl c.deref.ensures.value
    c.in_ok-learnt.ensures.learnt in
    let V : List ℕ → Type 0 = λ xs. All (InVars e.trail.vars) xs in
    second_low e.trail.vars c.provide.new.self.watches.limit (take (level_floor c.deref-2.result.now r.level) e.trail.lits) c.as_slice-lits.result.now
    r.unit c.second_watch-second.result c.second_watch-second.ensures
    (subst V (sym (c.as_slice-lits.ensures)) learnt.in_vars) (c.provide.ensures.more.limit ∙ c.self.invariant.0.queued.limit)

pub set-requires-clause-in_vars : goal.set-requires-clause-in_vars
set-requires-clause-in_vars c =
    let r = c.in_ok-learnt.learnt in
    let v = unit_in_vars _ r.step r.level r.unit c.in_ok-learnt.ensures.learnt in
    (v.0, omega (arith, v.1, c.truncate.ensures.vars))

pub set-requires-clause-not_true : goal.set-requires-clause-not_true
set-requires-clause-not_true c =
    let r = c.in_ok-learnt.learnt in
    let starts = c.self.inside.starts.items in
    let lits = c.self.inside.trail.lits in
    let learnt = learnt_shown c.self.inside.trail.vars c.self.inside.clauses _ lits starts _ r.step r.level r.unit refl c.deref.ensures.value
    c.in_ok-learnt.ensures.learnt in
    let from_is : c.index-from.result.now ≡ get_or starts r.level 0 = get_or_read starts r.level c.index-from.result.now learnt.back.below
    c.index-from.ensures 0 in
    let u = unit_unset_at c.self.inside.clauses c.self.inside.trail starts r.step r.level r.unit c.self.invariant.0.search learnt in
    ap (λ xs. is_set xs r.unit) (c.truncate.ensures.lits ∙ ap (λ n. take n lits) from_is) ∙ u.0

pub set-requires-clause-not_false : goal.set-requires-clause-not_false
set-requires-clause-not_false c =
    let r = c.in_ok-learnt.learnt in
    let starts = c.self.inside.starts.items in
    let lits = c.self.inside.trail.lits in
    let learnt = learnt_shown c.self.inside.trail.vars c.self.inside.clauses _ lits starts _ r.step r.level r.unit refl c.deref.ensures.value
    c.in_ok-learnt.ensures.learnt in
    let from_is : c.index-from.result.now ≡ get_or starts r.level 0 = get_or_read starts r.level c.index-from.result.now learnt.back.below
    c.index-from.ensures 0 in
    let u = unit_unset_at c.self.inside.clauses c.self.inside.trail starts r.step r.level r.unit c.self.invariant.0.search learnt in
    ap (λ xs. is_set xs (negated r.unit)) (c.truncate.ensures.lits ∙ ap (λ n. take n lits) from_is) ∙ u.1

pub invariant_of-self-2 : goal.invariant_of-self-2
invariant_of-self-2 c =
    let e = c.self.inside in
    let r = c.in_ok-learnt.learnt in
    let clauses = e.clauses in
    let starts = e.starts.items in
    let walks = e.walks.items in
    let t = e.trail in
    let learnt = learnt_shown t.vars clauses _ t.lits starts _ r.step r.level r.unit refl c.deref.ensures.value
    c.in_ok-learnt.ensures.learnt in
    let from_is : c.index-from.result.now ≡ get_or starts r.level 0 = get_or_read starts r.level c.index-from.result.now learnt.back.below
    c.index-from.ensures 0 in
    let walk_is : c.index.result.now ≡ get_or walks r.level 0 = get_or_read walks r.level c.index.result.now
    (omega (arith, learnt.back.below, c.self.invariant.0.levels)) c.index.ensures 0 in
    let clauses_are : c.push.new.self ≡ clauses ++ r.step.clause ∷ [] = c.in_ok-push.ensures.ok ∙ ap (λ x. clauses ++ x ∷ []) c.as_slice-lits.ensures in
    let place_is : c.len-place.result ≡ length clauses = c.len-place.ensures.value in
    let vars_are : c.set.new.self.vars ≡ t.vars = c.set.ensures.vars ∙ c.truncate.ensures.vars in
    let second = c.second_watch-second.result in
    let S : List ℕ → Type 0 = λ xs. IsSecond (take (level_floor xs r.level) t.lits) c.as_slice-lits.result.now r.unit second in
    let C : List ℕ → Type 0 = λ xs. IsSecond (take (level_floor starts r.level) t.lits) xs r.unit second in
    let A : ℕ → Type 0 = λ k. ArePut c.provide.new.self.watches.literals c.watch.new.self.watches.literals k r.unit second in
    rw (clauses_are, c.truncate-2.ensures.items, c.truncate-3.ensures.items) (
      IsEngine-learn clauses t c.set.new.self starts walks e.queue c.provide.new.self c.watch.new.self r.step r.level r.unit second c.self.invariant.0
          learnt c.provide.ensures.more
          (omega (arith, c.in_ok-provide.ensures.room, place_is))
          (subst C (c.as_slice-lits.ensures) (subst S c.deref-2.ensures.value c.second_watch-second.ensures))
          (subst A place_is c.watch.ensures.watched)
          c.watch.ensures.limit c.watch.ensures.waiting (c.watch.ensures.done ∙ walk_is) c.watch.ensures.looked vars_are
          (c.set.ensures.lits ∙ ap (λ xs. xs ++ r.unit ∷ []) (c.truncate.ensures.lits ∙ ap (λ n. take n t.lits) from_is))
          (c.set.ensures.reasons ∙ ap (λ xs. xs ++ c.len-place.result ∷ []) (c.truncate.ensures.reasons ∙ ap (λ n. take n t.reasons) from_is)
          ∙ ap (λ n. take (get_or starts r.level 0) t.reasons ++ n ∷ []) place_is),
      omega (arith, vars_are, c.truncate-2.ensures.capacity, c.self.invariant.1),
      omega (arith, vars_are, c.truncate-3.ensures.capacity, c.self.invariant.2),
      rw (vars_are, c.set.ensures.lits) (AreWaiting-more t.vars c.truncate.new.self.lits (c.truncate.new.self.lits ++ r.unit ∷ [])
          c.release.new.self.waiting (in_left c.truncate.new.self.lits (r.unit ∷ [])) (rw c.truncate.ensures.lits c.release.ensures)),
      omega (arith, vars_are, c.analyze.ensures.long, c.self.invariant.4),
    )

pub returns-clause-learnt : goal.returns-clause-learnt
returns-clause-learnt c =
    let e = c.self.inside in
    let r = c.in_ok-learnt.learnt in
    let learnt = learnt_shown e.trail.vars e.clauses _ e.trail.lits e.starts.items _ r.step r.level r.unit refl c.deref.ensures.value
    c.in_ok-learnt.ensures.learnt in
    rw (← c.self.view_is) learnt
