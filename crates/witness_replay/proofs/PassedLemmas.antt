-- Lines at which no block of a title begins, and a block that was written after them.
use Rattle.std.proofs.Common.{◌≡◌, ◌≢◌, ℕ, zero, suc, ◌<◌, ◌^◌, Bool, true, false, not, ◌&&◌, List, [], ◌∷◌, ◌++◌, length, map, refl, sym, ap, ◌∙◌}
use Rattle.std.proofs.Common.{append_assoc, append-nil, arith, subst}
use Rattle.std.specs.Prelude.{codes, flat_map, get_or, drop, All, nat_eq}
use Rattle.std.specs.List.{list_all, starts_with}
use Rattle.std.specs.Str.{bytes_eq}
use Rattle.std.specs.Str.Parse.{AllDigits}
use Rattle.std.specs.Fmt.{decimal}
use Rattle.std.proofs.lemmas.Fmt.{decimal_is_IsNumeral, decimal_injective}
use Rattle.std.proofs.lemmas.Str.Parse.{digit_from_value}
use Rattle.std.proofs.lemmas.Bool.{and_parts, and_from, or_from, not-true, not_from_false, false_from_ne_true}
use Rattle.std.proofs.lemmas.Bool.Decides.{Decides-eqb}
use Rattle.std.proofs.lemmas.Slice.Eq.{starts_is, bytes_eq-Decides}
use Rattle.std.proofs.lemmas.List.{append_cancel_left}
use Rattle.net_model.specs.declared.cycles.Stimulus.{Stimulus}
use Rattle.witness_replay.specs.StimulusTexts.{digits_of, line_of, title_of, head_of, input_line, block_lines, block_text}
use Rattle.witness_replay.specs.Blocks.{lines, begins, IsWritten}
use Rattle.witness_replay.proofs.LineLemmas.{is_inline, lines-text, lines-none}
use Rattle.witness_replay.proofs.WrittenLemmas.{inline_append, inline_bits, inline_head}

-- whether it is one line, and no block of this title begins at it
abbrev pub passes : List ℕ → List ℕ → Bool
passes title line = is_inline line && not (begins title line)

all_inline : (title : List ℕ) (ls : List (List ℕ)) → list_all (passes title) ls ≡ true → list_all is_inline ls ≡ true
all_inline title [] passed = refl
all_inline title (l ∷ ls) passed =
    let (here, more) = and_parts _ _ passed in
    and_from (is_inline l) (list_all is_inline ls) (and_parts (is_inline l) (not (begins title l)) here).0 (all_inline title ls more)

none_at : (title : List ℕ) (ls : List (List ℕ)) → list_all (passes title) ls ≡ true → (k : ℕ) (d : List ℕ) → k < length ls
    → begins title (get_or ls k d) ≡ false
none_at title [] passed k d below = absurd (omega arith)
none_at title (l ∷ ls) passed zero d below =
    let (here, more) = and_parts _ _ passed in not-true (begins title l) (and_parts (is_inline l) (not (begins title l)) here).1
none_at title (l ∷ ls) passed (suc k) d below =
    none_at title ls (and_parts (passes title l) (list_all (passes title) ls) passed).1 k d (omega arith)

-- a block after lines at which none of its number begins, and before any text, is written
pub written_after : (number : ℕ) (s : Stimulus) (before : List (List ℕ)) (after report : List ℕ) → list_all (passes (title_of number)) before ≡ true
    → report ≡ flat_map line_of before ++ block_text number s ++ after → IsWritten number report s
written_after number s before after report passed is =
    let title = title_of number in
    let whole : lines (flat_map line_of before) ≡ before = ap lines (sym (append-nil (flat_map line_of before)))
    ∙ lines-text before [] (all_inline title before passed) ∙ rw lines-none (append-nil before) in
    record {
      before = before;
      after = after;
      is = is;
      none = subst (λ (ls : List (List ℕ)). All (λ line. begins title line ≡ false) ls) (sym whole) (none_at title before passed);
    }

-- digits before a space, and before the same space
digits_same : (a b rest more : List ℕ) → AllDigits 10 a → AllDigits 10 b → a ++ 32 ∷ rest ≡ b ++ 32 ∷ more → a ≡ b
digits_same [] [] rest more da db e = refl
digits_same [] (y ∷ b) rest more da (here, db) e = let first : 32 ≡ y = cc in let within = digit_from_value y here in absurd (omega (arith, within))
digits_same (x ∷ a) [] rest more (here, da) db e = let first : x ≡ 32 = cc in let within = digit_from_value x here in absurd (omega (arith, within))
digits_same (x ∷ a) (y ∷ b) rest more (here, da) (there, db) e =
    let first : x ≡ y = cc in
    let tail : a ++ 32 ∷ rest ≡ b ++ 32 ∷ more = cc in
    let same = digits_same a b rest more da db tail in cc

-- digits have no space
no_space : (a b rest : List ℕ) → AllDigits 10 a → AllDigits 10 b → a ≢ b ++ 32 ∷ rest
no_space [] [] rest da db e = cc
no_space [] (y ∷ b) rest da db e = cc
no_space (x ∷ a) [] rest (here, da) db e = let first : x ≡ 32 = cc in let within = digit_from_value x here in absurd (omega (arith, within))
no_space (x ∷ a) (y ∷ b) rest (here, da) (there, db) e = let tail : a ≡ b ++ 32 ∷ rest = cc in no_space a b rest da db tail

-- no block of a number begins at the first line of another's
module _ (number other count : ℕ) (small : number < 2 ^ 64) (fits : other < 2 ^ 64) (differs : number ≢ other) where
  abbrev word : List ℕ
  word = codes "stimulus "

  abbrev rest : List ℕ
  rest = codes "cycles " ++ decimal count

  head_is : head_of other count ≡ word ++ (decimal other ++ 32 ∷ rest)
  head_is = simp append_assoc

  digits_of_number : AllDigits 10 (decimal number)
  digits_of_number = (decimal_is_IsNumeral number small).0.1

  digits_of_other : AllDigits 10 (decimal other)
  digits_of_other = (decimal_is_IsNumeral other fits).0.1

  not_title : bytes_eq (head_of other count) (title_of number) ≡ false
  not_title = false_from_ne_true (bytes_eq (head_of other count) (title_of number)) (λ same.
      let line = (bytes_eq-Decides (head_of other count) (title_of number)).0 same in
      no_space (decimal number) (decimal other) rest digits_of_number digits_of_other
      (append_cancel_left word (decimal number) (decimal other ++ 32 ∷ rest) (sym line ∙ head_is)))

  not_opening : starts_with nat_eq (head_of other count) (title_of number ++ 32 ∷ []) ≡ false
  not_opening = false_from_ne_true (starts_with nat_eq (head_of other count) (title_of number ++ 32 ∷ [])) (λ same.
      let opening : List ℕ = title_of number ++ 32 ∷ [] in
      let after : List ℕ = drop (length opening) (head_of other count) in
      let line : head_of other count ≡ opening ++ after =
      (starts_is Decides-eqb (head_of other count) opening (starts_with nat_eq (head_of other count) opening) refl).0 same in
      let split : opening ++ after ≡ word ++ (decimal number ++ 32 ∷ after) = append_assoc (title_of number) (32 ∷ []) after
      ∙ append_assoc word (decimal number) (32 ∷ after) in
      let digits : decimal other ≡ decimal number = digits_same (decimal other) (decimal number) rest after digits_of_other digits_of_number
      (append_cancel_left word (decimal other ++ 32 ∷ rest) (decimal number ++ 32 ∷ after) (sym head_is ∙ line ∙ split)) in
      differs (decimal_injective number other small fits (sym digits)))

  pub passes_head : passes (title_of number) (head_of other count) ≡ true
  passes_head =
      and_from (is_inline (head_of other count)) (not (begins (title_of number) (head_of other count))) (inline_head other count)
      (not_from_false (begins (title_of number) (head_of other count))
      (or_from (bytes_eq (head_of other count) (title_of number)) (starts_with nat_eq (head_of other count) (title_of number ++ 32 ∷ [])) not_title
      not_opening))

passes_state : (number : ℕ) (bits : List Bool) → passes (title_of number) (codes "state " ++ digits_of bits) ≡ true
passes_state number bits = rw (inline_append (codes "state ") (digits_of bits) refl (inline_bits bits)) refl

passes_input : (number : ℕ) (bits : List Bool) → passes (title_of number) (input_line bits) ≡ true
passes_input number bits = rw (inline_append (codes "input ") (digits_of bits) refl (inline_bits bits)) refl

passes_rows : (number : ℕ) (rows : List (List Bool)) → list_all (passes (title_of number)) (map input_line rows ++ codes "end" ∷ []) ≡ true
passes_rows number [] = refl
passes_rows number (r ∷ rows) =
    and_from (passes (title_of number) (input_line r)) (list_all (passes (title_of number)) (map input_line rows ++ codes "end" ∷ []))
    (passes_input number r) (passes_rows number rows)

-- no block of a number begins in another's
pub passes_block : (number other : ℕ) (s : Stimulus) → number < 2 ^ 64 → other < 2 ^ 64 → number ≢ other
    → list_all (passes (title_of number)) (block_lines other s) ≡ true
passes_block number other s small fits differs =
    let title = title_of number in
    let tail : List (List ℕ) = map input_line s.inputs ++ codes "end" ∷ [] in
    and_from (passes title (head_of other (length s.inputs))) (list_all (passes title) ((codes "state " ++ digits_of s.state) ∷ tail))
    (passes_head number other (length s.inputs) small fits differs)
    (and_from (passes title (codes "state " ++ digits_of s.state)) (list_all (passes title) tail) (passes_state number s.state) (passes_rows number s.inputs))
