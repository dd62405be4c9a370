-- What marks say of the listed numbers.
use Rattle.std.proofs.Common.{◌≡◌, ℕ, zero, suc, ◌+◌, ◌-◌, ◌<◌, ◌≤◌, Bool, true, false, Some, List, [], ◌∷◌, ◌++◌}
use Rattle.std.proofs.Common.{length, set, take, sym, ap, subst, ◌∙◌, arith}
use Rattle.std.specs.Prelude.{All, slice_get}
use Rattle.std.proofs.lemmas.List.{take_more, length-take-le}
use Rattle.std.proofs.lemmas.List.Elements.{All-map}
use Rattle.std.proofs.lemmas.Option.{slice_get_within, get_or_from_slice_get}
use Rattle.net_model.proofs.Settling.{All-at}
use Rattle.net_model.proofs.Stretches.{slice_get-take}
use Rattle.net_model.specs.declared.claims.Claim.{Claim}
use Rattle.cert_values.specs.Certs.{listed_numbers}
use Rattle.cert_values.specs.declared.certs.PairProof.{PairProof}
use Rattle.cert_defs.specs.Listed.{item_numbered, IsClaimNumber}
use Rattle.cert_defs.specs.Accepted.{AreListed}
use Rattle.cert_defs.specs.Refused.{ListsTwice}
use Rattle.cert_defs.proofs.Numbering.{at_contained, all_from_at, number_at}
use Rattle.cert_check.specs.Listing.{AreMarksOf, AreMarked}
use Rattle.cert_check.proofs.Below.{EachBelow, each_of}
use Rattle.cert_check.proofs.Marking.{marks_more}

-- the number of each pair is that of a claim, so each listed number is
pub known_of_pairs : (claims : List Claim) (pairs : List PairProof) (place : ℕ)
    → EachBelow (λ (j : ℕ) (pair : PairProof). IsClaimNumber claims pair.number) pairs place → length pairs ≤ place
    → All (IsClaimNumber claims) (listed_numbers pairs)
known_of_pairs claims pairs place below long =
    All-map (IsClaimNumber claims) (λ (p : PairProof). p.number) pairs
    (all_from_at (λ (p : PairProof). IsClaimNumber claims p.number) pairs
    (each_of (λ (j : ℕ) (pair : PairProof). IsClaimNumber claims pair.number) pairs place below long))

-- and the other way round
pub number_known : (claims : List Claim) (pairs : List PairProof) (place : ℕ) (pair : PairProof) → All (IsClaimNumber claims) (listed_numbers pairs)
    → slice_get pairs place ≡ Some pair → IsClaimNumber claims pair.number
number_known claims pairs place pair known at =
    All-at (IsClaimNumber claims) (listed_numbers pairs) place pair.number (number_at pairs place pair at) known

-- the item of a number stands one place before
pub item_before : {X : Type 0} (items : List X) (number : ℕ) (x : X) → 1 ≤ number → slice_get items (number - 1) ≡ Some x
    → item_numbered items number ≡ Some x
item_before items zero x from at = absurd (omega (arith, from))
item_before items (suc k) x from at = subst (λ (j : ℕ). slice_get items j ≡ Some x) (let e : suc k - 1 ≡ k = omega arith in e) at

-- a number whose mark is set was listed before
pub twice_of : (count : ℕ) (numbers : List ℕ) (marks : List Bool) (k number : ℕ) → AreMarksOf count (take k numbers) marks
    → slice_get numbers k ≡ Some number → 1 ≤ number → slice_get marks (number - 1) ≡ Some true → ListsTwice numbers number
twice_of count numbers marks k number are here from at =
    let found = at_contained (take k numbers) number ((are.marked number).0 (item_before marks number true from at)) in
    let inside = slice_get_within numbers k number here in
    let within = slice_get_within (take k numbers) found.0 number found.1 in
    let apart : found.0 < k = omega (arith, within, length-take-le k numbers (omega (arith, inside))) in
    record { first = found.0; second = k; apart = apart; here = sym (slice_get-take k found.0 numbers apart) ∙ found.1; again = here }

-- one more number is marked
pub marks_next : (count : ℕ) (numbers : List ℕ) (marks : List Bool) (k number : ℕ) → AreMarksOf count (take k numbers) marks
    → slice_get numbers k ≡ Some number → 1 ≤ number → number ≤ count → slice_get marks (number - 1) ≡ Some false
    → AreMarksOf count (take (k + 1) numbers) (set marks (number - 1) true)
marks_next count numbers marks k number are here from to free =
    let e : suc (number - 1) ≡ number = omega (arith, from) in
    let same : take (k + 1) numbers ≡ take k numbers ++ suc (number - 1) ∷ [] =
    take_more numbers k number (slice_get_within numbers k number here)
    ∙ ap (λ (n : ℕ). take k numbers ++ n ∷ []) (get_or_from_slice_get numbers k number number here ∙ sym e) in
    subst (λ (ns : List ℕ). AreMarksOf count ns (set marks (number - 1) true)) (sym same)
    (marks_more count (take k numbers) marks (number - 1) are (omega (arith, from, to)) free)

within_marks : (marks : List Bool) (number : ℕ) → item_numbered marks number ≡ Some true → number ≤ length marks
within_marks marks zero at = absurd cc
within_marks marks (suc k) at = let lt = slice_get_within marks k true at in omega (arith, lt)

-- the numbers of the marks are the listed ones
pub listed_of_marks : (count : ℕ) (pairs : List PairProof) (marks : List Bool) (numbers : List ℕ) → AreMarksOf count (listed_numbers pairs) marks
    → AreMarked marks (length marks) numbers → AreListed pairs numbers
listed_of_marks count pairs marks numbers are shown =
    record {
      ascending = shown.ascending;
      same = λ number. (
        λ has. (are.marked number).0 ((shown.same number).0 has).1,
        λ has. let at = (are.marked number).1 has in (shown.same number).1 (within_marks marks number at, at),
      );
    }
