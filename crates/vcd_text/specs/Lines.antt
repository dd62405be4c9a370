-- Lines, and names as one word.
use Rattle.std.specs.Prelude.{ℕ, ◌==◌, nat_le, ◌&&◌, if◌then◌else◌, List, [], ◌∷◌, ◌++◌, map, codes}
use Rattle.std.specs.Fmt.{decimal}

-- a line's bytes, and the newline after them
abbrev pub line : List ℕ → List ℕ
line bytes = bytes ++ 10 ∷ []

-- white space parts words (IEEE 1364-2005, 18.2.1), so a byte outside 33 to 126 is `_`
abbrev pub printed : ℕ → ℕ
printed b = if nat_le 33 b && nat_le b 126 then b else 95

-- the words of the format begin with `$`, so a name does not
abbrev pub first_printed : ℕ → ℕ
first_printed b = if b == 36 then 95 else printed b

-- a name as one word
abbrev pub word : List ℕ → List ℕ
word [] = codes "_"
word (b ∷ bs) = first_printed b ∷ map printed bs

-- the line of a time (18.2.2, simulation_time)
abbrev pub stamp : ℕ → List ℕ
stamp time = codes "#" ++ line (decimal time)
