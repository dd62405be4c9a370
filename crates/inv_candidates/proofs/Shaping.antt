-- The clauses that are tried are in form: of a literal at least, over different registers in ascending order.
use Rattle.std.proofs.Common.{arith, ◌≡◌, ◌≢◌, ℕ, suc, ◌<◌, ◌≤◌, Bool, true, false, List, [], ◌∷◌}
use Rattle.std.proofs.Common.{Some, length, refl, sym, ap, subst, ◌∙◌, flat_map, All, if◌then◌else◌, nat_lt}
use Rattle.std.proofs.lemmas.Bool.Decides.{nat_tests}
use Rattle.std.proofs.lemmas.List.Elements.{All-nil, All-cons, All-append, All-take}
use Rattle.std.proofs.lemmas.Option.{slice_get-get_or}
use Rattle.net_model.specs.Netlist.{IsSound}
use Rattle.net_model.specs.declared.netlist.Design.{Design}
use Rattle.net_model.specs.declared.claims.Claim.{Claim}
use Rattle.net_model.specs.declared.invariants.InvClause.{InvClause}
use Rattle.net_model.specs.Fits.{NamesRegs}
use Rattle.verdict_types.specs.Forms.{AreAscending, IsKeptClause}
use Rattle.inv_candidates.specs.Near.{Differ}
use Rattle.inv_candidates.proofs.Grouping.{differ_in_order}
use Rattle.inv_candidates.specs.Clauses.{lit, one_of, two_of, single_clauses, pair_clauses, all_pairs, group_clauses}
use Rattle.inv_candidates.specs.Candidates.{AreGroups, No_claims, Counts, Skips, AreCandidates}
use Rattle.inv_candidates.proofs.Adding.{adds_all}
use Rattle.inv_candidates.proofs.Standing.{all_flat}

record IsShort (clause : InvClause) : Type 0 where
  some : 0 < length clause.lits
  ascend : AreAscending clause.lits

-- whichever of two registers is the smaller stands first
two_by : (r s : ℕ) (value other test : Bool) → nat_lt r s ≡ test → r ≢ s
    → IsShort (if test then record { lits = lit r value ∷ lit s other ∷ [] } else record { lits = lit s other ∷ lit r value ∷ [] })
two_by r s value other true less differ = let low : r < s = grind (arith, nat_tests) in record { some = omega arith; ascend = (low, tt) }
two_by r s value other false more differ =
    let high : s ≤ r = grind (arith, nat_tests) in
    let low : s < r = omega (arith, high, differ) in
    record { some = omega arith; ascend = (low, tt) }

two_short : (r : ℕ) (value : Bool) (s : ℕ) (other : Bool) → r ≢ s → IsShort (two_of r value s other)
two_short r value s other differ = two_by r s value other (nat_lt r s) refl differ

one_short : (r : ℕ) (value : Bool) → IsShort (one_of r value)
one_short r value = record { some = omega arith; ascend = tt }

single_short : (r : ℕ) → All IsShort (single_clauses r)
single_short r =
    All-cons IsShort (one_of r false) (one_of r true ∷ []) (one_short r false)
    (All-cons IsShort (one_of r true) [] (one_short r true) (All-nil IsShort))

pair_short : (r s : ℕ) → r ≢ s → All IsShort (pair_clauses r s)
pair_short r s differ =
    All-cons IsShort (two_of r false s false) (two_of r false s true ∷ two_of r true s false ∷ two_of r true s true ∷ [])
    (two_short r false s false differ)
    (All-cons IsShort (two_of r false s true) (two_of r true s false ∷ two_of r true s true ∷ []) (two_short r false s true differ)
    (All-cons IsShort (two_of r true s false) (two_of r true s true ∷ []) (two_short r true s false differ)
    (All-cons IsShort (two_of r true s true) [] (two_short r true s true differ) (All-nil IsShort))))

pairs_short : (group : List ℕ) → Differ group → All IsShort (all_pairs group)
pairs_short [] differ = All-nil IsShort
pairs_short (r ∷ rs) differ =
    All-append IsShort (flat_map (pair_clauses r) rs) (all_pairs rs)
    (all_flat IsShort (pair_clauses r) rs
    (λ s has. pair_short r s (differ 0 (suc has.0) r s (omega arith) refl (slice_get-get_or rs has.0 s has.1 ∙ ap Some has.2))))
    (pairs_short rs (λ i j a b before at there. differ (suc i) (suc j) a b (omega (arith, before)) at there))

group_short : (group : List ℕ) → Differ group → All IsShort (group_clauses group)
group_short group differ =
    All-append IsShort (flat_map single_clauses group) (all_pairs group)
    (all_flat IsShort single_clauses group (λ r has. single_short r)) (pairs_short group differ)

groups_short : (d : Design) (claims : List Claim) (groups : List (List ℕ)) → AreGroups d claims groups → All IsShort (flat_map group_clauses groups)
groups_short d _ _ No_claims = All-nil IsShort
groups_short d _ _ (Counts claim claims group groups judged is rest) =
    All-append IsShort (group_clauses group) (flat_map group_clauses groups) (group_short group (differ_in_order d claim group is.ordered))
    (groups_short d claims groups rest)
groups_short d _ _ (Skips claim claims groups not rest) = groups_short d claims groups rest

candidates_short : (d : Design) (claims : List Claim) (clauses : List InvClause) → AreCandidates d claims clauses → All IsShort clauses
candidates_short d claims clauses are =
    let groups = are.of_first.groups in
    subst (All IsShort) (sym are.first)
    (All-take IsShort 8192 are.listed
    (adds_all IsShort [] (flat_map group_clauses groups) are.listed are.of_first.once (All-nil IsShort) (groups_short d _ groups are.of_first.of_claims)))

-- a design has at most 20,000 registers, so their numbers are small
pub candidates_in_form : (d : Design) (claims : List Claim) (clauses : List InvClause) → IsSound d → AreCandidates d claims clauses
    → All (NamesRegs d) clauses → All IsKeptClause clauses
candidates_in_form d claims clauses sound are names = λ k c low.
    let short = candidates_short d claims clauses are k c low in
    record {
      some = short.some;
      ascend = short.ascend;
      small = λ i l within. (let named = names k c low i l within in omega (arith, named, sound.limits.regs));
    }
