-- Clauses that are added to a list, by hand.
use Rattle.std.proofs.Common.{arith, ◌≡◌, zero, suc, true, false, List, [], ◌∷◌, length, get_or, refl, ap, Contains}
use Rattle.net_model.specs.declared.invariants.InvClause.{InvClause}
use Rattle.verdicts.specs.Inductive.{StandOnce}
use Rattle.inv_candidates.specs.Clauses.{lit}
use Rattle.inv_candidates.specs.Listing.{AddsNew, No_more, Stands, Is_new}
use Rattle.inv_candidates.proofs.Adding.{adds_has, adds_after}
use Rattle.inv_candidates.proofs.Standing.{adds_once}

abbrev one : InvClause
one = record { lits = lit 0 false ∷ [] }

abbrev two : InvClause
two = record { lits = lit 0 false ∷ lit 1 true ∷ [] }

abbrev three : InvClause
three = record { lits = lit 0 false ∷ lit 1 false ∷ lit 2 false ∷ [] }

-- clauses of other lengths are others
differ : (a b : InvClause) → ¬ (length a.lits ≡ length b.lits) → ¬ (a ≡ b)
differ a b other same = other (ap (λ (c : InvClause). length c.lits) same)

not_in_one : (a x : InvClause) → ¬ (length a.lits ≡ length x.lits) → ¬ Contains (a ∷ []) x
not_in_one a x other (zero, below, is) = differ a x other is
not_in_one a x other (suc i, below, is) = omega (arith, below)

not_in_two : (a b x : InvClause) → ¬ (length a.lits ≡ length x.lits) → ¬ (length b.lits ≡ length x.lits) → ¬ Contains (a ∷ b ∷ []) x
not_in_two a b x first second (zero, below, is) = differ a x first is
not_in_two a b x first second (suc zero, below, is) = differ b x second is
not_in_two a b x first second (suc (suc i), below, is) = omega (arith, below)

-- the new one follows, once; the one that is listed is passed over
new_clauses_follow : AddsNew (one ∷ two ∷ []) (three ∷ two ∷ three ∷ []) (one ∷ two ∷ three ∷ [])
new_clauses_follow =
    Is_new (one ∷ two ∷ []) three (two ∷ three ∷ []) (one ∷ two ∷ three ∷ [])
    (not_in_two one two three (λ e. omega (arith, e)) (λ e. omega (arith, e)))
    (Stands (one ∷ two ∷ three ∷ []) two (three ∷ []) (one ∷ two ∷ three ∷ []) (1, omega arith, refl)
    (Stands (one ∷ two ∷ three ∷ []) three [] (one ∷ two ∷ three ∷ []) (2, omega arith, refl) (No_more (one ∷ two ∷ three ∷ []))))

no_new_clause_is_passed_over : ¬ AddsNew (one ∷ []) (three ∷ []) (one ∷ [])
no_new_clause_is_passed_over adds =
    not_in_one one three (λ e. omega (arith, e)) (adds_has (one ∷ []) (three ∷ []) (one ∷ []) three adds (0, omega arith, refl))

no_clause_is_listed_again : ¬ AddsNew (one ∷ []) (one ∷ []) (one ∷ one ∷ [])
no_clause_is_listed_again adds =
    let none : StandOnce (one ∷ []) = ((λ has. omega (arith, has.1)), tt) in
    (adds_once (one ∷ []) (one ∷ []) (one ∷ one ∷ []) adds none).0 (0, omega arith, refl)

new_clauses_do_not_stand_before_the_own : ¬ AddsNew (one ∷ []) (three ∷ []) (three ∷ one ∷ [])
new_clauses_do_not_stand_before_the_own adds =
    let after = adds_after (one ∷ []) (three ∷ []) (three ∷ one ∷ []) adds in
    differ three one (λ e. omega (arith, e)) (ap (λ (l : List InvClause). get_or l 0 one) after.1)
