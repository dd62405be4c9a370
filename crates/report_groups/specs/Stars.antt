-- Names without the indices of their bits.
use Rattle.std.specs.Prelude.{ℕ, ◌+◌, ◌==◌, ◌&&◌, nat_lt, List, [], ◌∷◌, ◌++◌, drop, flat_map, slice_index, codes, if◌then◌else◌}
use Rattle.std.specs.List.{prefix_len, slice_split}
use Rattle.std.specs.Char.{is_ascii_digit}

-- what follows a `[`: digits and a `]` at its front become `*]`
abbrev pub after_bracket : List ℕ → List ℕ
after_bracket p =
    let n = prefix_len is_ascii_digit p in
    if nat_lt 0 n && slice_index p n == 93 then codes "[*]" ++ drop (n + 1) p else 91 ∷ p

abbrev pub starred_rest : List (List ℕ) → List ℕ
starred_rest others = flat_map after_bracket others

abbrev pub starred_parts : List (List ℕ) → List ℕ
starred_parts [] = []
starred_parts (front ∷ others) = front ++ starred_rest others

-- the name with each `[digits]` as `[*]`
abbrev pub starred : List ℕ → List ℕ
starred name = starred_parts (slice_split (λ b. b == 91) name)
