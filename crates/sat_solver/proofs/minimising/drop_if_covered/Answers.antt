use Rattle.std.proofs.Common.{◌≡◌, ◌∙◌, ◌<◌, ◌&&◌, not, eqb, ℕ, List, [], true, length, get_or, take, refl, ap, sym, subst, arith}
use Rattle.std.proofs.lemmas.List.{get_or_default, get_or_read}
use Rattle.std.proofs.lemmas.Option.{slice_get_read}
use Rattle.proof_log.specs.Clauses.{is_set, IsNormal}
use Rattle.sat_solver.specs.Cuts.{IsCovered}
use Rattle.sat_solver.specs.Markings.{is_marked, marked_lits}
use Rattle.sat_solver.proofs.Trailing.{at_front}
use Rattle.sat_solver.proofs.Marking.{member_at}
use Rattle.sat_solver.proofs.CoveredLiterals.{KeepsAsserting-covered}
use Rattle.sat_solver.proofs.minimising.drop_if_covered.Goals as goal

pub is_marked-requires : goal.is_marked-requires
is_marked-requires c =
    let lits = c.args.trail.now.lits in
    let at = c.args.place in
    let long : at < length lits = omega (arith, c.requires.before, c.requires.within) in
    let p_is : c.index-lits-place.result ≡ get_or lits at 0 =
    get_or_read c.lits.result.now at c.index-lits-place.result (omega (arith, long, ap length c.lits.ensures.value)) c.index-lits-place.is 0
    ∙ ap (λ xs. get_or xs at 0) c.lits.ensures.value in
    let v = c.lits-lits.ensures.in_vars c.index-lits-place.result (member_at lits at c.index-lits-place.result long p_is) in
    omega (arith, v.1, c.var.ensures.value, c.requires.fits)

pub unmark-requires : goal.unmark-requires
unmark-requires c =
    let lits = c.args.trail.now.lits in
    let at = c.args.place in
    let long : at < length lits = omega (arith, c.requires.before, c.requires.within) in
    let p_is : c.index-lits-place.result ≡ get_or lits at 0 =
    get_or_read c.lits.result.now at c.index-lits-place.result (omega (arith, long, ap length c.lits.ensures.value)) c.index-lits-place.is 0
    ∙ ap (λ xs. get_or xs at 0) c.lits.ensures.value in
    let v = c.lits-lits.ensures.in_vars c.index-lits-place.result (member_at lits at c.index-lits-place.result long p_is) in
    omega (arith, v.1, c.var-then-is_covered.ensures.value, c.requires.fits)

pub returns-in_ok-push-clause-asserting : goal.returns-in_ok-push-clause-asserting
returns-in_ok-push-clause-asserting c =
    let lits = c.args.trail.now.lits in
    let clauses = c.args.clauses.now in
    let old = c.args.marks.now in
    let cut = c.args.cut.now in
    let at = c.args.place in
    let p = c.index-lits-place.result in
    let reason = get_or c.reasons.result.now at 0 in
    let clause = c.clause.result.now in
    let within : reason < length clauses = omega (arith, c.if-reason-len.false, c.len.ensures.value) in
    let clause_is : clause ≡ get_or clauses reason clause = c.clause.ensures ∙ get_or_default clauses reason [] clause within in
    let long : at < length lits = omega (arith, c.requires.before, c.requires.within) in
    let p_is : p ≡ get_or lits at 0 =
    get_or_read c.lits.result.now at p (omega (arith, long, ap length c.lits.ensures.value)) c.index-lits-place.is 0
    ∙ ap (λ xs. get_or xs at 0) c.lits.ensures.value in
    let early : is_set (take cut.start lits) p ≡ true = ap (is_set (take cut.start lits)) p_is ∙ at_front lits at cut.start long c.requires.before in
    let N : List ℕ → Type 0 = IsNormal in
    let normal : IsNormal clause = subst N (sym clause_is) (c.requires.normal reason clause within) in
    let covered : IsCovered (marked_lits old lits) clause p = c.if-is_covered.ensures.0 refl in
    let marked : true ≡ is_marked old c.var.result = c.if-not-is_marked.ensures in
    KeepsAsserting-covered clauses lits cut.base cut.start old c.unmark.new.self cut.hints.items c.push.new.self.items clause p reason
    c.lits-lits.ensures.distinct early
    (slice_get_read clauses _ reason clause refl within clause_is)
    normal covered
    (ap (is_marked old) (sym c.var.ensures.value) ∙ sym marked)
    (λ v. c.unmark.ensures.marked v ∙ ap (λ n. is_marked old v && not (eqb n v)) c.var-then-is_covered.ensures.value)
    c.in_ok-push.ensures.items
