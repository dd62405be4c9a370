use Rattle.std.proofs.Common.{◌∙◌, ◌++◌, ◌∷◌, [], List, map, take, ap, sym}
use Rattle.std.proofs.lemmas.List.{map_more}
use Rattle.std.proofs.lemmas.Option.{slice_get_within, get_or_from_slice_get}
use Rattle.net_model.specs.declared.invariants.InvClause.{InvClause}
use Rattle.induction.specs.Members.{clause_of}
use Rattle.induction.specs.declared.members.Member.{Member}
use Rattle.induction.proofs.members.clauses_of.Goals as goal

pub loop-k-preserved : goal.loop-k-preserved
loop-k-preserved c =
    let members = c.args.members.now in
    let here = c.item.result.now in
    let before = map clause_of (take c.loop-k.k members) in
    c.in_ok-push.ensures.ok ∙ ap (λ (xs : List InvClause). xs ++ c.in_ok-clause.clause ∷ []) c.loop-k.invariant
    ∙ ap (λ (x : InvClause). before ++ x ∷ []) c.in_ok-clause.ensures
    ∙ ap (λ (m : Member). before ++ m.clause ∷ []) (sym (get_or_from_slice_get members c.loop-k.k here here c.item.ensures))
    ∙ sym (map_more clause_of members c.loop-k.k here (slice_get_within members c.loop-k.k here c.item.ensures))
