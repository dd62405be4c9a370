-- A name in braces is read as it stands.
use Rattle.std.proofs.Common.{◌≡◌, ℕ, zero, suc, ◌+◌, ◌-◌, Bool, true, false, ◌==◌, ◌&&◌, List, [], ◌∷◌, ◌++◌, length, drop, refl, ap, arith, ◌∙◌, Ok}
use Rattle.std.specs.List.{list_all}
use Rattle.std.proofs.Math.Seq.{take-append_seam}
use Rattle.std.proofs.lemmas.Bool.{and_parts}
use Rattle.texts.specs.Rules.{most_nested}
use Rattle.sdc_words.specs.declared.braces.Turn.TheVariants.{GoesOn}
use Rattle.sdc_words.specs.declared.braces.Match.TheVariants.{Closed}
use Rattle.sdc_words.specs.declared.words.Piece.TheVariants.{Bytes}
use Rattle.sdc_words.specs.Braces.{may_open, after_byte, matched_from, joined_byte, joined_from}
use Rattle.sdc_words.specs.Texts.{braced_at}
use Rattle.multicycle_text.specs.Names.{is_name_byte}
use Rattle.multicycle_text.proofs.NameBytes.{not_mark}

-- a byte of a name opens and closes nothing
goes_on : (own opened b : ℕ) → is_name_byte b ≡ true → after_byte own false opened b ≡ GoesOn false opened
unfolding after_byte
goes_on own opened b okay = rw (not_mark b 92 refl okay, not_mark b 123 refl okay, not_mark b 125 refl okay) refl

-- the brace after a name closes the one before it, in one bracket
matched_name : (i : ℕ) (name rest : List ℕ) → list_all is_name_byte name ≡ true
    → matched_from 2 i false 2 (name ++ 125 ∷ rest) ≡ Closed (i + length name + 1)
unfolding matched_from after_byte
matched_name i [] rest okay = ap (λ (k : ℕ). Closed (k + 1)) (omega arith)
matched_name i (b ∷ s) rest okay =
    let (here, more) = and_parts (is_name_byte b) (list_all is_name_byte s) okay in
    rw (goes_on 2 2 b here, matched_from) (matched_name (i + 1) s rest more ∙ ap (λ (k : ℕ). Closed (k + 1)) (omega arith))

-- what is false on its right is false
and_false : (x : Bool) → (x && false) ≡ false
and_false false = refl
and_false true = refl

-- a byte before which no backslash stands is itself
byte_stays : (b : ℕ) → joined_byte false b ≡ b
byte_stays b = rw (and_false (b == 10)) refl

-- no byte of a name is changed
joined_name : (name : List ℕ) → list_all is_name_byte name ≡ true → joined_from false name ≡ name
unfolding joined_from
joined_name [] okay = refl
joined_name (b ∷ s) okay =
    let (here, more) = and_parts (is_name_byte b) (list_all is_name_byte s) okay in
    rw (not_mark b 92 refl here, joined_from) (rw (byte_stays b, joined_name s more) refl)

-- what follows a name and the byte after it
after_name : (a b : List ℕ) (x n : ℕ) → n ≡ length a + 1 → drop n (a ++ x ∷ b) ≡ b
after_name [] b x n e = rw e refl
after_name (y ∷ a) b x zero e = absurd (omega arith)
after_name (y ∷ a) b x (suc n) e = after_name a b x n (omega arith)

-- a name in braces, in one bracket
pub braced_name : (total : ℕ) (name rest : List ℕ) → list_all is_name_byte name ≡ true
    → braced_at 1 total (123 ∷ (name ++ 125 ∷ rest)) ≡ Ok (Bytes name ∷ [], rest)
unfolding braced_at may_open most_nested
braced_name total name rest okay =
    let n : 0 + length name + 1 - 1 ≡ length name = omega arith in
    let past : drop (0 + length name + 1 + 1) (123 ∷ (name ++ 125 ∷ rest)) ≡ rest =
    after_name (123 ∷ name) rest 125 (0 + length name + 1 + 1) (omega arith) in
    rw (matched_name 0 name rest okay, braced_at) (rw (n, past, take-append_seam name (125 ∷ rest), joined_name name okay) refl)
