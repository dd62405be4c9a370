-- What a line says after its head.
use Rattle.std.specs.Prelude.{ℕ, ◌==◌, not, if◌then◌else◌, List, length, take, drop, codes}
use Rattle.std.specs.List.{prefix_len}
use Rattle.std.specs.Str.{bytes_eq}

-- how many bytes come before the first blank, or before the end
abbrev pub word_len : List ℕ → ℕ
word_len text = prefix_len (λ b. not (b == 32)) text

-- what stands before the first blank
abbrev pub first_word : List ℕ → List ℕ
first_word text = take (word_len text) text

-- what stands after the first blank
abbrev pub after_word : List ℕ → List ℕ
after_word text = drop 1 (drop (word_len text) text)

-- what follows the head of a line and the blank after it
abbrev pub after_head : List ℕ → List ℕ → List ℕ
after_head line head = drop 1 (drop (length head) line)

-- the word that says which part refuses: the second of a line that begins with `refused`, and else the first
abbrev pub part_word : List ℕ → List ℕ
part_word line = if bytes_eq (first_word line) (codes "refused") then first_word (after_word line) else first_word line
