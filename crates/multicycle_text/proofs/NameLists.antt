-- The list of objects that a name stands for.
use Rattle.std.proofs.Common.{◌≡◌, ℕ, Bool, true, false, List, [], ◌∷◌, ◌++◌, length, refl, arith, Some, append_assoc}
use Rattle.std.specs.Char.{is_ascii_whitespace}
use Rattle.std.specs.List.{list_all}
use Rattle.std.proofs.lemmas.List.{append-nil}
use Rattle.std.proofs.lemmas.Bool.{and_parts}
use Rattle.std.proofs.lemmas.Bool.Decides.{nat_tests}
use Rattle.script_types.specs.declared.objects.Class.TheVariants.{Cells}
use Rattle.sdc_values.specs.Lists.{after_byte, byte_of, element_from, element_at, item_at, items_from, list_of}
use Rattle.multicycle_text.specs.Names.{is_name_byte}
use Rattle.multicycle_text.specs.Scripts.{cell_named}
use Rattle.multicycle_text.proofs.NameBytes.{not_mark, not_empty, IsName}

-- the answer of the test for white space
white_by : (b : ℕ) (white : Bool) → is_ascii_whitespace b ≡ white → is_name_byte b ≡ true → white ≡ false
white_by b false e okay = refl
white_by b true e okay = absurd (grind (arith, nat_tests))

-- a byte of a name is no white space
not_white : (b : ℕ) → is_name_byte b ≡ true → is_ascii_whitespace b ≡ false
not_white b okay = white_by b (is_ascii_whitespace b) refl okay

-- all bytes of a name go into one element
element_name : (found s : List ℕ) → list_all is_name_byte s ≡ true → element_from (length s) [] found s ≡ ((found ++ s, []), [])
unfolding element_from byte_of after_byte
element_name found [] okay = rw (append-nil found) refl
element_name found (b ∷ s) okay =
    let (here, more) = and_parts (is_name_byte b) (list_all is_name_byte s) okay in
    rw (not_empty (length s), not_white b here, not_mark b 125 refl here, not_mark b 92 refl here, element_from)
    (rw (element_name (found ++ b ∷ []) s more, append_assoc found (b ∷ []) s) refl)

-- a name that can be written is a list of one pattern
pub name_list : (name : List ℕ) → IsName name → list_of Cells false name ≡ Some (cell_named name)
unfolding list_of items_from item_at element_at byte_of after_byte
name_list name n =
    rw (
      n.is,
      not_white n.head n.head_okay,
      not_empty (length n.tail),
      not_mark n.head 123 refl n.head_okay,
      not_mark n.head 125 refl n.head_okay,
      not_mark n.head 92 refl n.head_okay,
      element_name (n.head ∷ []) n.tail n.tail_okay,
    ) refl
