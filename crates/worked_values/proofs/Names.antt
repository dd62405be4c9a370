-- Lists of names, and tables of words.
use Rattle.std.proofs.Common.{◌≡◌, ℕ, true, false, List, [], ◌∷◌, Some, None, refl}
use Rattle.std.specs.Prelude.{codes}
use Rattle.texts.specs.Bytes.{is_letter}
use Rattle.texts.specs.Lookups.{in_table}
use Rattle.texts.specs.Names.{is_among, place_of, are_distinct, are_new, each_once}

-- the names a, b and a
abbrev names : List (List ℕ)
names = codes "a" ∷ codes "b" ∷ codes "a" ∷ []

-- a name is told by its first place
name_has_its_first_place : place_of (codes "a") names ≡ 0
name_has_its_first_place = refl

-- one that is not there by the number of the names
unknown_name_has_the_place_after_all : place_of (codes "c") names ≡ 3
unknown_name_has_the_place_after_all = refl

-- the beginning of a name is another name
beginning_of_a_name_is_another : is_among (codes "a") (codes "ab" ∷ []) ≡ false
beginning_of_a_name_is_another = refl

-- a name that stands twice
name_twice_is_not_distinct : are_distinct names ≡ false
unfolding are_distinct
name_twice_is_not_distinct = refl

-- each name once, in the order in which they first stand
names_keep_their_first_places : each_once (codes "b" ∷ codes "a" ∷ codes "b" ∷ []) ≡ codes "b" ∷ codes "a" ∷ []
names_keep_their_first_places = refl

-- further names that are among the first are not new
known_name_is_not_new : are_new names (codes "c" ∷ codes "b" ∷ []) ≡ false
unfolding are_distinct
known_name_is_not_new = refl

-- of two rows for a word the first counts
first_row_of_a_word_counts : in_table {A = ℕ} ((codes "a", 1) ∷ (codes "a", 2) ∷ []) (codes "a") ≡ Some 1
first_row_of_a_word_counts = refl

-- a word without a row
word_without_a_row_has_none : in_table {A = ℕ} ((codes "a", 1) ∷ []) (codes "A") ≡ None
word_without_a_row_has_none = refl

-- `_` begins a name, a digit does not
underscore_is_a_letter : is_letter 95 ≡ true
underscore_is_a_letter = refl

-- though a digit is of a word
digit_is_of_a_word_alone : is_letter 55 ≡ false
digit_is_of_a_word_alone = refl
