-- A block that was written is the first of its report.
use Rattle.std.proofs.Common.{◌≡◌, ℕ, zero, suc, ◌+◌, ◌/◌, ◌%◌, ◌≤◌, ◌==◌, Bool, true, false, not, ◌||◌, cond, List, [], ◌∷◌, ◌++◌, length, map, refl, ap, ◌∙◌}
use Rattle.std.proofs.Common.{append_assoc, arith}
use Rattle.std.specs.Prelude.{codes, flat_map, All, nat_eq, nat_lt}
use Rattle.std.specs.List.{list_all, starts_with}
use Rattle.std.specs.Str.{bytes_eq}
use Rattle.std.specs.Fmt.{decimal, digits, digits_onto, digit_glyph}
use Rattle.std.proofs.lemmas.Bool.{and_from, cond_both}
use Rattle.std.proofs.lemmas.Bool.Decides.{nat_tests, Decides-eqb}
use Rattle.std.proofs.lemmas.Slice.Eq.{starts_is}
use Rattle.std.proofs.lemmas.List.Folds.{list_all-append}
use Rattle.net_model.specs.declared.cycles.Stimulus.{Stimulus}
use Rattle.witness_replay.specs.StimulusTexts.{digit_of, digits_of, line_of, title_of, head_of, input_line, block_lines, block_text}
use Rattle.witness_replay.specs.Blocks.{lines, begins, from_block, HasFirstBlock, IsWritten}
use Rattle.witness_replay.proofs.LineLemmas.{is_inline, lines-text, lines-before}

digit_inline : (c : ℕ) → 48 ≤ c → not (c == 10) ≡ true
digit_inline c at_least = grind (arith, nat_tests)

glyph_least : (d : ℕ) → 48 ≤ digit_glyph false d
glyph_least d = cond_both (nat_lt d 10) (48 + d) (87 + d) (λ (c : ℕ). 48 ≤ c) (λ low. omega arith) (λ high. omega arith)

inline_onto : (k n : ℕ) (acc : List ℕ) → is_inline acc ≡ true → is_inline (digits_onto k 10 false n acc) ≡ true
inline_onto zero n acc plain = plain
inline_onto (suc k) n acc plain =
    let digit : ℕ = digit_glyph false (n % 10) in
    let more : is_inline (digit ∷ acc) ≡ true = and_from (not (digit == 10)) (is_inline acc) (digit_inline digit (glyph_least (n % 10))) plain in
    cond_both (n / 10 == 0) (digit ∷ acc) (digits_onto k 10 false (n / 10) (digit ∷ acc)) (λ (text : List ℕ). is_inline text ≡ true) (λ last. more)
    (λ front. inline_onto k (n / 10) (digit ∷ acc) more)

-- a number is written in one line
pub inline_decimal : (n : ℕ) → is_inline (decimal n) ≡ true
unfolding digits
inline_decimal n = inline_onto 64 n [] refl

pub inline_append : (a b : List ℕ) → is_inline a ≡ true → is_inline b ≡ true → is_inline (a ++ b) ≡ true
inline_append a b x y = list_all-append (λ b. not (b == 10)) a b ∙ rw (x, y) refl

inline_map : (bits : List Bool) → is_inline (map digit_of bits) ≡ true
inline_map [] = refl
inline_map (true ∷ bits) = inline_map bits
inline_map (false ∷ bits) = inline_map bits

-- so are bits
pub inline_bits : (bits : List Bool) → is_inline (digits_of bits) ≡ true
inline_bits [] = refl
inline_bits (b ∷ bits) = inline_map (b ∷ bits)

inline_rows : (rows : List (List Bool)) → list_all is_inline (map input_line rows ++ codes "end" ∷ []) ≡ true
inline_rows [] = refl
inline_rows (r ∷ rows) = rw (inline_append (codes "input ") (digits_of r) refl (inline_bits r), inline_rows rows) refl

-- the first line of a block is one line
pub inline_head : (number count : ℕ) → is_inline (head_of number count) ≡ true
inline_head number count =
    let title = inline_append (codes "stimulus ") (decimal number) refl (inline_decimal number) in
    inline_append (title_of number ++ codes " cycles ") (decimal count) (inline_append (title_of number) (codes " cycles ") title refl)
    (inline_decimal count)

-- so is each line of a block
pub inline_block : (number : ℕ) (s : Stimulus) → list_all is_inline (block_lines number s) ≡ true
inline_block number s =
    rw (
      inline_head number (length s.inputs),
      inline_append (codes "state ") (digits_of s.state) refl (inline_bits s.state),
      inline_rows s.inputs,
    ) refl

or-true : (a b : Bool) → b ≡ true → (a || b) ≡ true
or-true true b e = refl
or-true false b e = e

-- a block begins at its first line
head_begins : (number count : ℕ) → begins (title_of number) (head_of number count) ≡ true
head_begins number count =
    let opening : List ℕ = title_of number ++ 32 ∷ [] in
    let line = head_of number count in
    let split : line ≡ opening ++ (codes "cycles " ++ decimal count) = simp append_assoc in
    or-true (bytes_eq line (title_of number)) (starts_with nat_eq line opening)
    ((starts_is Decides-eqb line opening (starts_with nat_eq line opening) refl).1 (codes "cycles " ++ decimal count) split)

pub skips_by : (v : Bool) (line : List ℕ) (others found : List (List ℕ)) → v ≡ false → cond v (line ∷ others) found ≡ found
skips_by true line others found e = cc
skips_by false line others found e = refl

-- lines at which no block begins are passed over
skips : (title : List ℕ) (before block : List (List ℕ)) → All (λ line. begins title line ≡ false) before
    → from_block title (before ++ block) ≡ from_block title block
unfolding from_block
skips title [] block none = refl
skips title (line ∷ before) block none =
    skips_by (begins title line) line (before ++ block) (from_block title (before ++ block)) (none 0 [] (omega arith))
    ∙ skips title before block (λ k d below. none (suc k) d (omega arith))

stays_by : (v : Bool) (line : List ℕ) (others found : List (List ℕ)) → v ≡ true → cond v (line ∷ others) found ≡ line ∷ others
stays_by true line others found e = refl
stays_by false line others found e = cc

pub stays : (title line : List ℕ) (others : List (List ℕ)) → begins title line ≡ true → from_block title (line ∷ others) ≡ line ∷ others
unfolding from_block
stays title line others first = stays_by (begins title line) line others (from_block title others) first

-- the block of these lines begins at the first of them
pub block_here : (title opening line : List ℕ) (ls others : List (List ℕ)) → opening ≡ title ++ 32 ∷ []
    → (bytes_eq line title || starts_with nat_eq line opening) ≡ true → ls ≡ line ∷ others → from_block title ls ≡ ls
block_here title opening line ls others is first cut = rw cut (stays title line others (rw is at first))

skips_one : (title line : List ℕ) (others : List (List ℕ)) → begins title line ≡ false → from_block title (line ∷ others) ≡ from_block title others
unfolding from_block
skips_one title line others none = skips_by (begins title line) line others (from_block title others) none

-- it begins after the first of them
pub block_later : (title opening line : List ℕ) (ls others : List (List ℕ)) → opening ≡ title ++ 32 ∷ []
    → (bytes_eq line title || starts_with nat_eq line opening) ≡ false → ls ≡ line ∷ others → from_block title ls ≡ from_block title others
block_later title opening line ls others is none cut = rw cut (skips_one title line others (rw is at none))

pub no_block : (title : List ℕ) (ls : List (List ℕ)) → ls ≡ [] → from_block title ls ≡ []
unfolding from_block
no_block title ls none = rw none refl

-- what was written is the first block of its number
pub written_first : (number : ℕ) (report : List ℕ) (s : Stimulus) → IsWritten number report s → HasFirstBlock number report s
written_first number report s written =
    let title = title_of number in
    let block : List (List ℕ) = block_lines number s in
    let before : List (List ℕ) = lines (flat_map line_of written.before) in
    let whole : report ≡ flat_map line_of written.before ++ (block_text number s ++ written.after) = written.is
    ∙ append_assoc (flat_map line_of written.before) (block_text number s) written.after in
    let cut : lines report ≡ before ++ (block ++ lines written.after) = ap lines whole ∙ lines-before written.before
    (block_text number s ++ written.after) ∙ ap (λ (x : List (List ℕ)). before ++ x) (lines-text block written.after (inline_block number s)) in
    record {
      others = lines written.after;
      is = ap (from_block title) cut ∙ skips title before (block ++ lines written.after) written.none
          ∙ stays title (head_of number (length s.inputs)) _ (head_begins number (length s.inputs));
    }
