-- One more clause that is kept or left out.
use Rattle.std.proofs.Common.{◌≡◌, ℕ, List, [], ◌∷◌, ◌++◌, subst, sym, inl, inr}
use Rattle.proof_log.specs.Clauses.{is_set, IsNormal, HasComplements, IsKeptOf}
use Rattle.dimacs_text.specs.Texts.{AreKept, No_more, Is_kept, Is_true}

push_kept : (clauses kept : List (List ℕ)) (clause normal : List ℕ) → IsNormal normal → ((l : ℕ) → is_set normal l ≡ is_set clause l)
    → AreKept clauses kept → AreKept (clauses ++ clause ∷ []) (kept ++ normal ∷ [])
push_kept _ _ clause normal form same No_more = Is_kept clause normal [] [] form same No_more
push_kept _ _ clause normal form same (Is_kept first found clauses kept f s rest) =
    Is_kept first found (clauses ++ clause ∷ []) (kept ++ normal ∷ []) f s (push_kept clauses kept clause normal form same rest)
push_kept _ _ clause normal form same (Is_true first clauses kept true_ rest) =
    Is_true first (clauses ++ clause ∷ []) (kept ++ normal ∷ []) true_ (push_kept clauses kept clause normal form same rest)

push_true : (clauses kept : List (List ℕ)) (clause : List ℕ) → HasComplements clause → AreKept clauses kept → AreKept (clauses ++ clause ∷ []) kept
push_true _ _ clause true_ No_more = Is_true clause [] [] true_ No_more
push_true _ _ clause true_ (Is_kept first found clauses kept f s rest) =
    Is_kept first found (clauses ++ clause ∷ []) kept f s (push_true clauses kept clause true_ rest)
push_true _ _ clause true_ (Is_true first clauses kept here rest) =
    Is_true first (clauses ++ clause ∷ []) kept here (push_true clauses kept clause true_ rest)

pub kept_more : (clauses old new : List (List ℕ)) (clause : List ℕ) → IsKeptOf clause old new → AreKept clauses old → AreKept (clauses ++ clause ∷ []) new
kept_more clauses old new clause (inl left) so = subst (AreKept (clauses ++ clause ∷ [])) (sym left.1) (push_true clauses old clause left.0 so)
kept_more clauses old new clause (inr kept) so =
    subst (AreKept (clauses ++ clause ∷ [])) (sym kept.3) (push_kept clauses old clause kept.0 kept.1 kept.2 so)
