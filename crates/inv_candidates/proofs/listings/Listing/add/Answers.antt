use Rattle.std.proofs.Common.{List, [], ◌∷◌, map, sym, subst}
use Rattle.net_model.specs.declared.invariants.InvClause.{InvClause}
use Rattle.inv_candidates.specs.Listing.{AddsNew, clause_of}
use Rattle.inv_candidates.specs.declared.shorts.Short.{Short}
use Rattle.inv_candidates.proofs.ClauseNumbers.{adds_key}
use Rattle.inv_candidates.proofs.listings.Listing.add.Goals as goal

pub returns : goal.returns
returns c =
    let keys : List Short = c.self.inside.shorts.keys in
    let clause : InvClause = clause_of c.args.short in
    subst (λ (old : List InvClause). AddsNew old (clause ∷ []) (map clause_of c.insert.new.self.keys)) c.self.view_is
    (subst (λ (ks : List Short). AddsNew (map clause_of keys) (clause ∷ []) (map clause_of ks)) (sym c.in_ok-insert.ensures.keys)
    (adds_key keys c.args.short))
