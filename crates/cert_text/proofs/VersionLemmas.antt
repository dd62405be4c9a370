-- The first line of another version.
use Rattle.std.proofs.Common.{◌≡◌, ◌≢◌, ℕ, ◌+◌, ◌≤◌, Bool, true, false, List, ◌∷◌, ◌++◌, length, drop, sym, ap, ◌∙◌}
use Rattle.std.proofs.Common.{subst, append_assoc, arith}
use Rattle.std.specs.Prelude.{codes}
use Rattle.std.specs.Fmt.{decimal}
use Rattle.std.proofs.lemmas.Fmt.{decimal_injective}
use Rattle.std.proofs.lemmas.List.{append_cancel_left}
use Rattle.cert_words.proofs.Tokens.{number_token}
use Rattle.cert_lines.specs.Kinds.{text_of, first_words, IsVersion}
use Rattle.cert_lines.proofs.Written.{spaced_two}
use Rattle.cert_lines.specs.Places.{IsCutAt, IsNextLine}
use Rattle.cert_lines.proofs.LineTexts.{newline_same, no_newline, token_inline}
use Rattle.cert_text.specs.Causes.{IsOtherVersion}

first_cut : (n : ℕ) (r : List ℕ) → text_of first_words n ++ r ≡ codes "sdcv-cert " ++ (decimal n ++ 10 ∷ r)
first_cut n r = rw (spaced_two (codes "sdcv-cert") (decimal n)) (simp append_assoc)

after_prefix : (bytes rest : List ℕ) (n : ℕ) → bytes ≡ codes "sdcv-cert " ++ rest → (o : IsOtherVersion bytes n) → rest ≡ decimal n ++ 10 ∷ o.rest
after_prefix bytes rest n is o = append_cancel_left (codes "sdcv-cert ") rest (decimal n ++ 10 ∷ o.rest) (sym is ∙ o.is ∙ first_cut n o.rest)

pub no_prefix : (bytes : List ℕ) → ((rest : List ℕ) → bytes ≢ codes "sdcv-cert " ++ rest) → (n : ℕ) → ¬ IsOtherVersion bytes n
no_prefix bytes none n o = none (decimal n ++ 10 ∷ o.rest) (o.is ∙ first_cut n o.rest)

pub cut_off : (bytes rest line : List ℕ) (place at end : ℕ) (cut : Bool) → bytes ≡ codes "sdcv-cert " ++ rest
    → IsNextLine rest place line cut at end → cut ≡ true → (n : ℕ) → ¬ IsOtherVersion bytes n
cut_off bytes rest line place at end cut is next whole n o =
    let all : rest ≡ line = subst (λ (c : Bool). IsCutAt rest line c) whole next.is in
    no_newline line (decimal n) o.rest next.plain (sym all ∙ after_prefix bytes rest n is o)

line_is : (bytes rest line : List ℕ) (place at end : ℕ) (cut : Bool) → bytes ≡ codes "sdcv-cert " ++ rest → IsNextLine rest place line cut at end
    → cut ≡ false → (n : ℕ) → IsOtherVersion bytes n → line ≡ decimal n
line_is bytes rest line place at end cut is next whole n o =
    let parts : rest ≡ line ++ 10 ∷ drop (length line + 1) rest = subst (λ (c : Bool). IsCutAt rest line c) whole next.is in
    let small = o.small in
    (newline_same line (decimal n) (drop (length line + 1) rest) o.rest next.plain (token_inline (decimal n) (number_token n (omega arith)))
    (sym parts ∙ after_prefix bytes rest n is o)).0

pub no_number : (bytes rest line : List ℕ) (place at end : ℕ) (cut : Bool) → bytes ≡ codes "sdcv-cert " ++ rest
    → IsNextLine rest place line cut at end → cut ≡ false → ((n : ℕ) → n ≤ 9223372036854775807 → line ≢ decimal n) → (n : ℕ)
    → ¬ IsOtherVersion bytes n
no_number bytes rest line place at end cut is next whole none n o =
    let small = o.small in none n (omega arith) (line_is bytes rest line place at end cut is next whole n o)

pub version_known : (bytes rest line : List ℕ) (place at end : ℕ) (cut : Bool) (version : ℕ) → bytes ≡ codes "sdcv-cert " ++ rest
    → IsNextLine rest place line cut at end → cut ≡ false → line ≡ decimal version → version ≤ 9223372036854775807 → IsVersion version → (n : ℕ)
    → ¬ IsOtherVersion bytes n
version_known bytes rest line place at end cut version is next whole word within known n o =
    let small = o.small in
    let same : decimal n ≡ decimal version = sym (line_is bytes rest line place at end cut is next whole n o) ∙ word in
    o.other (subst IsVersion (sym (decimal_injective n version (omega arith) (omega arith) same)) known)

pub version_other : (bytes rest line : List ℕ) (place at end : ℕ) (cut : Bool) (version : ℕ) → bytes ≡ codes "sdcv-cert " ++ rest
    → IsNextLine rest place line cut at end → cut ≡ false → line ≡ decimal version → version ≤ 9223372036854775807 → ¬ IsVersion version
    → IsOtherVersion bytes version
version_other bytes rest line place at end cut version is next whole word within other =
    let parts : rest ≡ line ++ 10 ∷ drop (length line + 1) rest = subst (λ (c : Bool). IsCutAt rest line c) whole next.is in
    let tail = drop (length line + 1) rest in
    record {
      rest = tail;
      is = is ∙ ap (λ z. codes "sdcv-cert " ++ z) (parts ∙ ap (λ z. z ++ 10 ∷ tail) word) ∙ sym (first_cut version tail);
      small = omega arith;
      other = other;
    }
