-- What an assisting text's clauses do to what is kept.
use Rattle.std.proofs.Common.{arith, ◌≡◌, ℕ, List, [], subst, Contains}
use Rattle.net_model.specs.declared.netlist.Design.{Design}
use Rattle.net_model.specs.declared.claims.Claim.{Claim}
use Rattle.net_model.specs.declared.invariants.InvClause.{InvClause}
use Rattle.verdicts.specs.Inductive.{IsInductive, IsWithin}
use Rattle.verdicts.specs.Kept.{IsUnspent, IsKeptSet}
use Rattle.verdict_types.specs.declared.kept.InvSpent.{InvSpent}
use Rattle.verdict_types.specs.declared.kept.InvSet.{InvSet}
use Rattle.inv_candidates.specs.Candidates.{AreCandidates}
use Rattle.inv_candidates.proofs.Adding.{adds_has, adds_nothing}
use Rattle.invariants.specs.Invariants.{AreInvariants}

-- where there is none, the clauses near the claims are tried, and no others
pub kept_without : (d : Design) (claims : List Claim) (depth budget : ℕ) (set : InvSet) → AreInvariants d claims [] depth budget set
    → (own : List InvClause) × AreCandidates d claims own × IsKeptSet d depth budget own set
kept_without d claims depth budget set is =
    let same : is.candidates ≡ is.own = adds_nothing is.own is.candidates is.assisted in
    (is.own, is.of_claims, subst (λ (l : List InvClause). IsKeptSet d depth budget l set) same is.kept)

unspent : (d : Design) (claims : List Claim) (extra : List InvClause) (depth budget : ℕ) (set : InvSet)
    → (is : AreInvariants d claims extra depth budget set) → set.spent ≡ [] → (clause : InvClause) → Contains extra clause
    → IsUnspent is.candidates set.spent clause
unspent d claims extra depth budget set is none clause has =
    record {
      candidate = adds_has is.own extra is.candidates clause is.assisted has;
      no_entry = λ e entry same. (let at = subst (λ (l : List InvSpent). Contains l e) none entry in omega (arith, at.1));
    }

-- an inductive set that was found elsewhere is kept, where no query spends the budget
pub inductive_kept : (d : Design) (claims : List Claim) (extra : List InvClause) (depth budget : ℕ) (set : InvSet)
    → AreInvariants d claims extra depth budget set → set.spent ≡ [] → IsInductive d depth extra → IsWithin extra set.kept
inductive_kept d claims extra depth budget set is none inductive =
    is.kept.greatest.greatest extra (unspent d claims extra depth budget set is none) inductive
