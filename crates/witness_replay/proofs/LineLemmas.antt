-- The lines of a text.
use Rattle.std.proofs.Common.{◌≡◌, ℕ, suc, ◌+◌, ◌<◌, ◌≤◌, ◌==◌, Bool, true, false, not, cond, List, [], ◌∷◌, ◌++◌, length, take, drop, refl, sym, ap}
use Rattle.std.proofs.Common.{◌∙◌, append_assoc, arith}
use Rattle.std.specs.Prelude.{flat_map}
use Rattle.std.specs.List.{onto_first, prefix_len, list_all}
use Rattle.std.proofs.lemmas.Bool.{and_parts, not-true}
use Rattle.witness_replay.specs.StimulusTexts.{line_of}
use Rattle.witness_replay.specs.Blocks.{lines}

-- how many bytes come before the first newline
abbrev pub line_len : List ℕ → ℕ
line_len s = prefix_len (λ b. not (b == 10)) s

first_by : (v : Bool) (b : ℕ) (bs : List ℕ) → (0 < length bs → lines bs ≡ take (line_len bs) bs ∷ lines (drop 1 (drop (line_len bs) bs)))
    → cond v ([] ∷ lines bs) (onto_first b (lines bs)) ≡ take (cond (not v) (1 + line_len bs) 0) (b ∷ bs)
    ∷ lines (drop 1 (drop (cond (not v) (1 + line_len bs) 0) (b ∷ bs)))
unfolding lines
first_by true b bs more = refl
first_by false b [] more = refl
first_by false b (x ∷ xs) more =
    let len : 1 + line_len (x ∷ xs) ≡ suc (line_len (x ∷ xs)) = omega arith in
    rw (more (omega arith), len) refl

-- the first line of a text ends before its first newline, and the others follow that
pub lines_first : (s : List ℕ) → 0 < length s → lines s ≡ take (line_len s) s ∷ lines (drop 1 (drop (line_len s) s))
unfolding lines
lines_first [] some = absurd (omega arith)
lines_first (b ∷ bs) some = first_by (b == 10) b bs (lines_first bs)

length-onto_first : (b : ℕ) (ls : List (List ℕ)) → length (onto_first b ls) ≤ length ls + 1
length-onto_first b [] = omega arith
length-onto_first b (l ∷ ls) = omega arith

length_by : (v : Bool) (b n : ℕ) (ls : List (List ℕ)) → length ls ≤ n → length (cond v ([] ∷ ls) (onto_first b ls)) ≤ suc n
length_by true b n ls few = omega arith
length_by false b n ls few = omega (arith, length-onto_first b ls)

-- a text has at most as many lines as bytes
pub length-lines : (s : List ℕ) → length (lines s) ≤ length s
unfolding lines
length-lines [] = omega arith
length-lines (b ∷ bs) = length_by (b == 10) b (length bs) (lines bs) (length-lines bs)

onto_append : (b : ℕ) (ls ms : List (List ℕ)) → 0 < length ls → onto_first b (ls ++ ms) ≡ onto_first b ls ++ ms
onto_append b [] ms some = absurd (omega arith)
onto_append b (l ∷ ls) ms some = refl

append_by : (v : Bool) (b : ℕ) (ls ms : List (List ℕ)) → 0 < length ls → cond v ([] ∷ (ls ++ ms)) (onto_first b (ls ++ ms)) ≡ cond v ([] ∷ ls)
    (onto_first b ls) ++ ms
append_by true b ls ms some = refl
append_by false b ls ms some = onto_append b ls ms some

some_lines : (s : List ℕ) → 0 < length s → 0 < length (lines s)
some_lines s some = let e = ap length (lines_first s some) in omega arith

-- what follows a newline has lines of its own
pub lines-newline : (s t : List ℕ) → lines (line_of s ++ t) ≡ lines (line_of s) ++ lines t
unfolding lines
lines-newline [] t = refl
lines-newline (b ∷ bs) t = rw (lines-newline bs t) (append_by (b == 10) b (lines (line_of bs)) (lines t) (some_lines (line_of bs) (line_some bs)))
  where
    line_some : (s : List ℕ) → 0 < length (line_of s)
    line_some [] = omega arith
    line_some (x ∷ xs) = omega arith

-- no byte is a newline
abbrev pub is_inline : List ℕ → Bool
is_inline = list_all (λ b. not (b == 10))

-- a line and its newline, before any text
pub lines-line : (s t : List ℕ) → is_inline s ≡ true → lines (line_of s ++ t) ≡ s ∷ lines t
unfolding lines
lines-line [] t plain = refl
lines-line (b ∷ bs) t plain =
    let (here, more) = and_parts _ _ plain in
    let differs : (b == 10) ≡ false = not-true _ here in
    rw (differs, lines-line bs t more) refl

-- the lines of lines with their newlines, before any text
pub lines-text : (ls : List (List ℕ)) (t : List ℕ) → list_all is_inline ls ≡ true → lines (flat_map line_of ls ++ t) ≡ ls ++ lines t
lines-text [] t plain = refl
lines-text (l ∷ ls) t plain =
    let (here, more) = and_parts _ _ plain in
    rw (append_assoc (line_of l) (flat_map line_of ls) t) (lines-line l (flat_map line_of ls ++ t) here ∙ ap (λ (x : List (List ℕ)). l ∷ x)
    (lines-text ls t more))

pub lines-none : lines [] ≡ []
unfolding lines
lines-none = refl

-- the lines of whole lines and of a text after them
pub lines-before : (ls : List (List ℕ)) (t : List ℕ) → lines (flat_map line_of ls ++ t) ≡ lines (flat_map line_of ls) ++ lines t
lines-before [] t = rw lines-none refl
lines-before (l ∷ ls) t = rw (
  append_assoc (line_of l) (flat_map line_of ls) t,
  lines-newline l (flat_map line_of ls ++ t),
  lines-before ls t,
  lines-newline l (flat_map line_of ls),
) (sym (append_assoc (lines (line_of l)) (lines (flat_map line_of ls)) (lines t)))
