use Rattle.std.proofs.Common.{◌≡◌, ◌∙◌, ◌+◌, ◌++◌, ◌∷◌, [], ◌||◌, ℕ, List, true, false, eqb, take, get_or, sym, ap, arith}
use Rattle.std.proofs.lemmas.Bool.{false≢true, or_right, eqb-true, eqb-false, both_ways}
use Rattle.std.proofs.lemmas.List.{get_or_read, take_more}
use Rattle.proof_log.specs.Clauses.{is_set}
use Rattle.proof_log.proofs.Members.{is_set-nil, is_set-at, is_set-push, or-false}
use Rattle.sat_solver.specs.Markings.{marked_lits}
use Rattle.sat_solver.proofs.CoveredLiterals.{others_more}
use Rattle.sat_solver.proofs.minimising.is_covered.Goals as goal
use Rattle.sat_solver.proofs.minimising.is_covered.Goals.{then-eq, else-eq+else-not-is_in_cut}

pub loop-q-init : goal.loop-q-init
loop-q-init c = record {
  has = sym (is_set-nil c.args.p);
  others = λ q h ne. absurd (false≢true (sym (is_set-nil q) ∙ h));
}

pub returns-then-not-is_in_cut : goal.returns-then-not-is_in_cut
returns-then-not-is_in_cut c =
    let clause = c.args.clause.now in
    let absent : false ≡ is_set (marked_lits c.args.marks.now c.args.trail.now.lits) c.q-item.result = c.if-not-is_in_cut.ensures in
    let other : false ≡ eqb c.q-item.result c.args.p = c.if-eq.ensures in
    let inside : is_set clause c.q-item.result ≡ true =
    ap (is_set clause) (get_or_read clause c.loop-q.q-index c.q-item.result (omega arith) c.q-item.is 0)
    ∙ is_set-at clause c.loop-q.q-index (omega arith) in (
      λ h. absurd (false≢true h),
      λ k. absurd (both_ways _ (sym absent) (k.others c.q-item.result inside (eqb-false _ _ (sym other)))),
    )

pub loop-q-preserved : goal.loop-q-preserved
loop-q-preserved c =
    let clause = c.args.clause.now in
    let cut : List ℕ = marked_lits c.args.marks.now c.args.trail.now.lits in
    let i = c.loop-q.q-index in
    let q = c.q-item.result in
    let p = c.args.p in
    let item : q ≡ get_or clause i 0 = get_or_read clause i q (omega arith) c.q-item.is 0 in
    let more : take (i + 1) clause ≡ take i clause ++ q ∷ [] = take_more clause i 0 (omega arith) ∙ ap (λ y. take i clause ++ y ∷ []) (sym item) in
    elim c.if-eq.branch [
      | then-eq w ↦
          let same : true ≡ eqb q p = w.if-eq.ensures in
          record {
            has = w.has-is ∙ sym (ap (λ xs. is_set xs p) more ∙ (is_set-push (take i clause) q p ∙ or_right _ _ (sym same)));
            others = others_more cut (take i clause) (take (i + 1) clause) p q more (λ ne. absurd (ne (eqb-true _ _ (sym same)))) c.loop-q.invariant.others;
          }
      | else-eq+else-not-is_in_cut w ↦
          let other : false ≡ eqb q p = w.if-eq.ensures in
          let there : true ≡ is_set cut q = w.if-not-is_in_cut.ensures in
          record {
            has = w.has-is ∙ (c.loop-q.invariant.has ∙ sym (ap (λ xs. is_set xs p) more ∙ (is_set-push (take i clause) q p
                ∙ (ap (λ b. is_set (take i clause) p || b) (sym other) ∙ or-false (is_set (take i clause) p)))));
            others = others_more cut (take i clause) (take (i + 1) clause) p q more (λ ne. sym there) c.loop-q.invariant.others;
          }
    ]
