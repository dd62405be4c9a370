-- The turns of the search for a part.
use Rattle.std.proofs.Common.{◌≡◌, ◌==◌, ◌<◌, ℕ, false, ◌&&◌, ◌||◌, ◌+◌, ◌≤◌, add-one, List, length, drop, slice_index, refl}
use Rattle.std.proofs.lemmas.Bool.Decides.{nat_tests}
use Rattle.std.proofs.Math.Seq.{drop-cons}
use Rattle.std.proofs.lemmas.List.{drop_all}
use Rattle.glob.specs.Match.{matches_whole, matches_after}

pub after_turn : (p s : List ℕ) (i : ℕ) → i < length s → matches_after p (drop i s) ≡ ((slice_index s i == 47 && matches_whole p (drop (i + 1) s))
    || matches_after p (drop (i + 1) s))
unfolding matches_after
after_turn p s i lt = rw (drop-cons s i 0 lt, add-one) refl

pub after_ended : (p s : List ℕ) (i : ℕ) → length s ≤ i → matches_after p (drop i s) ≡ false
unfolding matches_after
after_ended p s i le = rw (drop_all i s le) refl

pub ruleset searching = (after_turn, after_ended, nat_tests)
