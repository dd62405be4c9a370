-- Which names a pattern of a script matches (SDC 2.1, object access).
use Rattle.std.proofs.Common.{◌≡◌, true, false, refl}
use Rattle.std.specs.Prelude.{codes}
use Rattle.glob.specs.Match.{matches, matches_whole, matches_after, star}

-- a name matches itself
name_matches_itself : matches (codes "u1/q") (codes "u1/q") false ≡ true
unfolding matches_whole star
name_matches_itself = refl

-- a pattern has to match the whole name
name_matches_no_longer_name : matches (codes "u1") (codes "u10") false ≡ false
unfolding matches_whole star
name_matches_no_longer_name = refl

-- names are compared with their case
case_of_letters_counts : matches (codes "U1") (codes "u1") false ≡ false
unfolding matches_whole star
case_of_letters_counts = refl

-- a star matches any run within a part of a name
star_matches_a_run : matches (codes "r*_q") (codes "reg12_q") false ≡ true
unfolding matches_whole star
star_matches_a_run = refl

-- an empty run is one
star_matches_nothing : matches (codes "reg*") (codes "reg") false ≡ true
unfolding matches_whole star
star_matches_nothing = refl

-- and no `/`
pub star_matches_no_slash : matches (codes "u*q") (codes "u1/q") false ≡ false
unfolding matches_whole star
star_matches_no_slash = refl

-- a later place for a star is tried where the first one fails
star_goes_on_where_the_first_place_fails : matches (codes "*ab") (codes "aab") false ≡ true
unfolding matches_whole star
star_goes_on_where_the_first_place_fails = refl

-- a question mark matches one byte other than `/`
question_mark_matches_one_byte : matches (codes "d?") (codes "d7") false ≡ true
unfolding matches_whole star
question_mark_matches_one_byte = refl

-- a byte has to be there
question_mark_matches_not_nothing : matches (codes "d?") (codes "d") false ≡ false
unfolding matches_whole star
question_mark_matches_not_nothing = refl

-- and a `/` is none for it
question_mark_matches_no_slash : matches (codes "u?q") (codes "u/q") false ≡ false
unfolding matches_whole star
question_mark_matches_no_slash = refl

-- brackets are bytes of a name: the bit of a bus
brackets_are_bytes : matches (codes "d[1]") (codes "d[1]") false ≡ true
unfolding matches_whole star
brackets_are_bytes = refl

-- so they choose no byte
brackets_are_no_choice : matches (codes "d[12]") (codes "d1") false ≡ false
unfolding matches_whole star
brackets_are_no_choice = refl

-- with -hierarchical a pattern matches below any part of a name
hierarchical_pattern_matches_below_a_part : matches (codes "r_*") (codes "top/u1/r_3") true ≡ true
unfolding matches_whole star matches_after
hierarchical_pattern_matches_below_a_part = refl

-- the end of a part alone is no part
hierarchical_pattern_begins_with_a_part : matches (codes "1") (codes "top/u1") true ≡ false
unfolding matches_whole star matches_after
hierarchical_pattern_begins_with_a_part = refl

-- without -hierarchical the parts before count too
plain_pattern_matches_the_whole_name : matches (codes "r_3") (codes "u1/r_3") false ≡ false
unfolding matches_whole star
plain_pattern_matches_the_whole_name = refl
