-- Words in braces, and how many braces and brackets may be open.
use Rattle.std.specs.Prelude.{ℕ, ◌+◌, ◌-◌, ◌<◌, ◌≤◌, nat_lt, nat_le, Bool, true, false, not, ◌==◌, ◌&&◌, if◌then◌else◌, List, [], ◌∷◌}
use Rattle.texts.specs.Fronts.{has_two}
use Rattle.texts.specs.Rules.{most_nested}
use Rattle.sdc_words.specs.declared.braces.Turn.{Turn}
use Rattle.sdc_words.specs.declared.braces.Turn.TheVariants.{GoesOn, Closes, IsDeep}
use Rattle.sdc_words.specs.declared.braces.Match.{Match}
use Rattle.sdc_words.specs.declared.braces.Match.TheVariants.{Closed, Deep, Unclosed}
use Rattle.sdc_words.specs.Blanks.{takes_next}
use Rattle.sdc_words.specs.Marks.{newline, space, backslash, left_brace, right_brace}

-- a brace or a bracket may be opened where so many of both are open
unfoldable pub may_open : ℕ → Bool
may_open opened = nat_lt opened most_nested

-- what comes of a brace within a word, where so many braces and brackets are open
abbrev pub deeper : ℕ → Turn
deeper opened = if may_open opened then GoesOn false (opened + 1) else IsDeep

-- what comes of a byte of a word in braces, where so many braces and brackets are open, and `own` of them with the word's first
-- brace. A backslash and the byte after it are passed over together
unfoldable pub after_byte : ℕ → Bool → ℕ → ℕ → Turn
after_byte own is_escaped opened b =
    if is_escaped then GoesOn false opened
    else if b == backslash then GoesOn true opened
    else if b == left_brace then deeper opened
    else if not (b == right_brace) then GoesOn false opened
    else if nat_le opened own then Closes
    else GoesOn false (opened - 1)

-- how the word ends, where i bytes after its first brace were passed
unfoldable pub matched_from : ℕ → ℕ → Bool → ℕ → List ℕ → Match
matched_from own i is_escaped opened [] = Unclosed
matched_from own i is_escaped opened (b ∷ s) = elim (after_byte own is_escaped opened b) [
  | GoesOn escapes now ↦ matched_from own (i + 1) escapes now s
  | Closes ↦ Closed (i + 1)
  | IsDeep ↦ Deep i
]

-- how a word ends whose bytes after its first brace these are, where so many braces and brackets are open with that one
abbrev pub matched : ℕ → List ℕ → Match
matched opened s = matched_from opened 0 false opened s

-- it ends in a text of this length
abbrev pub EndsWithin : ℕ → Match → Type 0
EndsWithin len (Closed n) = (0 < n) × (n ≤ len)
EndsWithin len (Deep place) = place < len
EndsWithin len Unclosed = Unit {0}

-- the byte that stands for one of a word in braces: a newline after a backslash is a space
abbrev pub joined_byte : Bool → ℕ → ℕ
joined_byte is_taken b = if b == newline && is_taken then space else b

-- the bytes of a word in braces, where a backslash and the newline after it are one space, and all others stay. `is_taken`
-- tells that a backslash before takes the first byte with it
unfoldable pub joined_from : Bool → List ℕ → List ℕ
joined_from is_taken [] = []
joined_from is_taken (b ∷ s) =
    if has_two backslash newline (b ∷ s) && not is_taken then joined_from true s
    else joined_byte is_taken b ∷ joined_from (takes_next is_taken b) s

abbrev pub joined : List ℕ → List ℕ
joined s = joined_from false s
