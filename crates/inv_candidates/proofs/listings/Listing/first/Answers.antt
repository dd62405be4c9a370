use Rattle.std.proofs.Common.{arith, ◌≡◌, ◌<◌, ◌+◌, ◌++◌, ◌∙◌, false, List, [], ◌∷◌, length, take, map, get_or, ap, sym}
use Rattle.net_model.specs.declared.invariants.InvClause.{InvClause}
use Rattle.inv_candidates.specs.Listing.{clause_of}
use Rattle.inv_candidates.specs.declared.shorts.Short.{Short}
use Rattle.inv_candidates.proofs.ClauseNumbers.{taken_more}
use Rattle.inv_candidates.proofs.listings.Listing.first.Goals as goal

pub loop-k-preserved : goal.loop-k-preserved
loop-k-preserved c =
    let blank : Short = record { reg = 0; value = false; other = 0; other_value = false } in
    let keys : List Short = c.self.inside.shorts.keys in
    let k = c.loop-k.k in
    let low : k < length keys = omega (arith, c.len.ensures.len, c.min-count.ensures, c.loop-k-test.true) in
    let clause : InvClause = clause_of (get_or keys k blank) in
    let value : c.args.self.now ≡ map clause_of keys = sym c.self.view_is in
    let here : take (k + 1) c.args.self.now ≡ take k c.args.self.now ++ clause ∷ [] =
    ap (take (k + 1)) value ∙ taken_more keys k blank low ∙ ap (λ (l : List InvClause). take k l ++ clause ∷ []) (sym value) in
    let item : c.in_ok-clause.field-0 ≡ clause =
    c.in_ok-clause.ensures ∙ ap (λ (l : List Short). clause_of (get_or l k blank)) c.as_slice.ensures.keys in
    c.in_ok-push.ensures.ok ∙ ap (λ (l : List InvClause). l ++ c.in_ok-clause.field-0 ∷ []) c.loop-k.invariant
    ∙ ap (λ (x : InvClause). take k c.args.self.now ++ x ∷ []) item ∙ sym here
