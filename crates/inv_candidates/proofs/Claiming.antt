-- The list of clauses, one claim on.
use Rattle.std.proofs.Common.{arith, ◌≡◌, ℕ, ◌+◌, ◌<◌, ◌≤◌, ◌⊎◌, List, [], ◌∷◌, ◌++◌, length, take}
use Rattle.std.proofs.Common.{Some, sym, ap, subst, ◌∙◌, inl, inr, slice_get, flat_map, append-nil}
use Rattle.std.proofs.lemmas.List.{take_more, flat_map_more}
use Rattle.std.proofs.lemmas.Option.{slice_get_within, get_or_from_slice_get}
use Rattle.net_model.specs.declared.netlist.Design.{Design}
use Rattle.net_model.specs.declared.claims.Claim.{Claim}
use Rattle.net_model.specs.declared.invariants.InvClause.{InvClause}
use Rattle.verdicts.specs.Verdicts.{IsJudged}
use Rattle.verdicts.specs.Inductive.{StandOnce}
use Rattle.inv_candidates.specs.Near.{IsGroup}
use Rattle.inv_candidates.specs.Clauses.{group_clauses}
use Rattle.inv_candidates.specs.Listing.{AddsNew, No_more}
use Rattle.inv_candidates.specs.Candidates.{AreGroups, No_claims, Counts, Skips, AreListed, AreCandidates, IsListedTo}
use Rattle.inv_candidates.specs.Candidates.{AddsClaim, Adds_group, Adds_none, Is_full}
use Rattle.inv_candidates.proofs.Adding.{adds_both}
use Rattle.inv_candidates.proofs.Standing.{adds_once, once_take}

groups_both : (d : Design) (xs ys : List Claim) (gs hs : List (List ℕ)) → AreGroups d xs gs → AreGroups d ys hs → AreGroups d (xs ++ ys) (gs ++ hs)
groups_both d _ ys _ hs No_claims more = more
groups_both d _ ys _ hs (Counts claim xs group gs judged is rest) more =
    Counts claim (xs ++ ys) group (gs ++ hs) judged is (groups_both d xs ys gs hs rest more)
groups_both d _ ys _ hs (Skips claim xs gs not rest) more = Skips claim (xs ++ ys) (gs ++ hs) not (groups_both d xs ys gs hs rest more)

-- one more claim, whose group counts
listed_group : (d : Design) (claims : List Claim) (claim : Claim) (group : List ℕ) (old new : List InvClause) → AreListed d claims old → IsJudged d claim
    → IsGroup d claim group → AddsNew old (group_clauses group) new → AreListed d (claims ++ claim ∷ []) new
listed_group d claims claim group old new are judged is adds = record {
  groups = are.groups ++ group ∷ [];
  of_claims = groups_both d claims (claim ∷ []) are.groups (group ∷ []) are.of_claims (Counts claim [] group [] judged is No_claims);
  once = subst (λ (l : List InvClause). AddsNew [] l new) (flat_map_more group_clauses [] are.groups group)
      (adds_both [] (flat_map group_clauses are.groups) old (group_clauses group) new are.once adds);
}

-- one more claim, which is not judged
listed_none : (d : Design) (claims : List Claim) (claim : Claim) (old : List InvClause) → AreListed d claims old → ¬ IsJudged d claim
    → AreListed d (claims ++ claim ∷ []) old
listed_none d claims claim old are not = record {
  groups = are.groups ++ [];
  of_claims = groups_both d claims (claim ∷ []) are.groups [] are.of_claims (Skips claim [] [] not No_claims);
  once = subst (λ (gs : List (List ℕ)). AddsNew [] (flat_map group_clauses gs) old) (sym (append-nil are.groups)) are.once;
}

taken : (claims : List Claim) (k : ℕ) (claim : Claim) → slice_get claims k ≡ Some claim → take k claims ++ claim ∷ [] ≡ take (k + 1) claims
taken claims k claim at =
    sym (take_more claims k claim (slice_get_within claims k claim at)
    ∙ ap (λ (c : Claim). take k claims ++ c ∷ []) (get_or_from_slice_get claims k claim claim at))

-- before any claim
pub listed_first : (d : Design) (claims : List Claim) → IsListedTo d claims 0 []
listed_first d claims = record {
  count = 0;
  low = omega arith;
  of_first = record { groups = []; of_claims = No_claims; once = No_more [] };
  enough = inl (omega arith);
}

-- where the list was not full, all claims so far are listed
at_count : (k count length_ : ℕ) → count ≤ k → (k ≤ count) ⊎ (8192 ≤ length_) → length_ < 8192 → k ≡ count
at_count k count length_ low (inl le) short = omega (arith, low, le)
at_count k count length_ low (inr full) short = absurd (omega (arith, full, short))

pub listed_next : (d : Design) (claims : List Claim) (k : ℕ) (claim : Claim) (old new : List InvClause) → slice_get claims k ≡ Some claim
    → AddsClaim d claim old new → IsListedTo d claims k old → IsListedTo d claims (k + 1) new
listed_next d claims k claim old new at (Adds_group group short judged is adds) listed =
    let here : listed.count ≡ k = sym (at_count k listed.count (length old) listed.low listed.enough short) in
    record {
      count = k + 1;
      low = omega arith;
      of_first = subst (λ (cs : List Claim). AreListed d cs new) (taken claims k claim at)
          (listed_group d (take k claims) claim group old new (subst (λ n. AreListed d (take n claims) old) here listed.of_first) judged is adds);
      enough = inl (omega arith);
    }
listed_next d claims k claim old new at (Adds_none short not same) listed =
    let here : listed.count ≡ k = sym (at_count k listed.count (length old) listed.low listed.enough short) in
    subst (IsListedTo d claims (k + 1)) (sym same) (record {
      count = k + 1;
      low = omega arith;
      of_first = subst (λ (cs : List Claim). AreListed d cs old) (taken claims k claim at)
          (listed_none d (take k claims) claim old (subst (λ n. AreListed d (take n claims) old) here listed.of_first) not);
      enough = inl (omega arith);
    })
listed_next d claims k claim old new at (Is_full full same) listed =
    subst (IsListedTo d claims (k + 1)) (sym same)
    (record { count = listed.count; low = omega (arith, listed.low); of_first = listed.of_first; enough = inr full })

-- after all claims
pub candidates_from : (d : Design) (claims : List Claim) (k : ℕ) (listed clauses : List InvClause) → length claims ≤ k → clauses ≡ take 8192 listed
    → IsListedTo d claims k listed → AreCandidates d claims clauses
candidates_from d claims k listed clauses past first to = record {
  count = to.count;
  listed = listed;
  of_first = to.of_first;
  enough = elim to.enough [ inl all ↦ inl (omega (arith, all, past)) | inr full ↦ inr full ];
  first = first;
}

-- each clause stands once
pub once_from : (d : Design) (claims : List Claim) (k n : ℕ) (listed : List InvClause) → IsListedTo d claims k listed → StandOnce (take n listed)
once_from d claims k n listed to = once_take n listed (adds_once [] (flat_map group_clauses to.of_first.groups) listed to.of_first.once tt)
