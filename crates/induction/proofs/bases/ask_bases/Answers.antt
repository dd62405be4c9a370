use Rattle.std.proofs.Common.{◌≡◌, ◌∙◌, ◌+◌, ◌∷◌, [], ℕ, refl, ap, subst, sym, arith}
use Rattle.net_model.specs.Queries.{Query, clause_query}
use Rattle.net_model.specs.declared.invariants.InvClause.{InvClause}
use Rattle.net_model.specs.declared.queries.Phase.TheVariants.{Base}
use Rattle.query_asks.proofs.Asking.{refuted, answered, spent}
use Rattle.induction.proofs.Basing.{AreOffsetsDone, alone_right, failing_of, offsets_more, offsets_all}
use Rattle.induction.proofs.bases.ask_bases.Goals as goal

pub run-requires-clause-found : goal.run-requires-clause-found
run-requires-clause-found c =
    let d = c.args.design.now in
    let clause = c.args.clause.now in
    let offset = c.loop-offset.offset in
    let query : Query = clause_query d (clause ∷ []) clause Base offset in
    let one : c.as_slice.result.now ≡ clause ∷ [] =
    c.as_slice.ensures ∙ c.in_ok-one.ensures ∙ ap (λ (x : InvClause). x ∷ []) c.in_ok-copy_of.ensures in
    (answered query c.args.budget c.in_ok-derivation.field-0 c.in-Answered.found c.in-Answered.is
    (alone_right d c.as_slice.result.now clause offset c.args.budget c.in_ok-derivation.field-0 one c.in_ok-derivation.ensures)).found_in

pub returns-in-Answered : goal.returns-in-Answered
returns-in-Answered c =
    let d = c.args.design.now in
    let clause = c.args.clause.now in
    let offset = c.loop-offset.offset in
    let query : Query = clause_query d (clause ∷ []) clause Base offset in
    let one : c.as_slice.result.now ≡ clause ∷ [] =
    c.as_slice.ensures ∙ c.in_ok-one.ensures ∙ ap (λ (x : InvClause). x ∷ []) c.in_ok-copy_of.ensures in
    let found = answered query c.args.budget c.in_ok-derivation.field-0 c.in-Answered.found c.in-Answered.is
    (alone_right d c.as_slice.result.now clause offset c.args.budget c.in_ok-derivation.field-0 one c.in_ok-derivation.ensures) in
    failing_of d clause offset c.in_ok-run-in-Answered.run' (c.in_ok-run-in-Answered.ensures query refl found)

pub returns-in-Spent : goal.returns-in-Spent
returns-in-Spent c =
    let d = c.args.design.now in
    let clause = c.args.clause.now in
    let offset = c.loop-offset.offset in
    let query : Query = clause_query d (clause ∷ []) clause Base offset in
    let one : c.as_slice.result.now ≡ clause ∷ [] =
    c.as_slice.ensures ∙ c.in_ok-one.ensures ∙ ap (λ (x : InvClause). x ∷ []) c.in_ok-copy_of.ensures in (
      omega arith,
      spent query c.args.budget c.in_ok-derivation.field-0 c.in-Spent.log c.in-Spent.is
          (alone_right d c.as_slice.result.now clause offset c.args.budget c.in_ok-derivation.field-0 one c.in_ok-derivation.ensures),
    )

pub loop-offset-preserved : goal.loop-offset-preserved
loop-offset-preserved c =
    let d = c.args.design.now in
    let clause = c.args.clause.now in
    let offset = c.loop-offset.offset in
    let query : Query = clause_query d (clause ∷ []) clause Base offset in
    let one : c.as_slice.result.now ≡ clause ∷ [] =
    c.as_slice.ensures ∙ c.in_ok-one.ensures ∙ ap (λ (x : InvClause). x ∷ []) c.in_ok-copy_of.ensures in
    subst (AreOffsetsDone d clause (offset + 1)) (sym c.in_ok-push-in-Refuted.ensures.ok)
    (offsets_more d clause offset c.loop-offset.base c.in-Refuted.derivation
    (refuted query c.args.budget c.in_ok-derivation.field-0 c.in-Refuted.derivation c.in-Refuted.is
    (alone_right d c.as_slice.result.now clause offset c.args.budget c.in_ok-derivation.field-0 one c.in_ok-derivation.ensures))
    c.loop-offset.invariant)

pub returns : goal.returns
returns c =
    let d = c.args.design.now in
    let clause = c.args.clause.now in
    let end : c.loop-offset.offset ≡ c.args.depth = omega (arith, c.loop-offset-test.false, c.loop-offset.auto) in
    offsets_all d clause c.args.depth c.loop-offset.base
    (subst (λ (k : ℕ). AreOffsetsDone d clause k c.loop-offset.base) end c.loop-offset.invariant)
