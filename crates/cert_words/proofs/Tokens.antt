-- Words that have neither a space nor a newline in them.
use Rattle.std.proofs.Common.{◌≡◌, ℕ, ◌<◌, ◌^◌, ◌==◌, Bool, true, false, not, nat_lt, if◌then◌else◌, List, [], ◌∷◌, ◌++◌, map, refl, arith}
use Rattle.std.specs.List.{list_all}
use Rattle.std.specs.Fmt.{decimal}
use Rattle.std.specs.Str.Parse.{AllDigits}
use Rattle.std.proofs.lemmas.Bool.{and_parts}
use Rattle.std.proofs.lemmas.Bool.Decides.{nat_tests}
use Rattle.std.proofs.lemmas.Fmt.{decimal_is_IsNumeral}
use Rattle.std.proofs.lemmas.Str.Parse.{digit_from_value}
use Rattle.proof_log.specs.Literals.{lit_var, lit_positive}
use Rattle.cert_words.specs.Numbers.{lit_word, IsLitAbove, IsHint}
use Rattle.cert_words.specs.Growth.{Chain}
use Rattle.cert_words.proofs.WordLemmas.{is_word}

-- each byte is above the space
abbrev pub is_token : List ℕ → Bool
is_token w = list_all (λ b. nat_lt 32 b) w

pub token_word : (w : List ℕ) → is_token w ≡ true → is_word w ≡ true
token_word [] all = refl
token_word (b ∷ w) all =
    let (first, more) = and_parts (nat_lt 32 b) (is_token w) all in
    let here : not (b == 32) ≡ true = grind (arith, nat_tests) in
    rw (here, token_word w more) refl

pub tokens_words : (ws : List (List ℕ)) → list_all is_token ws ≡ true → list_all is_word ws ≡ true
tokens_words [] all = refl
tokens_words (w ∷ ws) all =
    let (first, more) = and_parts (is_token w) (list_all is_token ws) all in
    rw (token_word w first, tokens_words ws more) refl

digits_token : (ds : List ℕ) → AllDigits 10 ds → is_token ds ≡ true
digits_token [] all = refl
digits_token (d ∷ ds) all =
    let least = (digit_from_value d all.0).0 in
    let here : nat_lt 32 d ≡ true = grind (arith, nat_tests) in
    rw (here, digits_token ds all.1) refl

pub number_token : (n : ℕ) → n < 2 ^ 64 → is_token (decimal n) ≡ true
number_token n small = let ((some, digits), value) = decimal_is_IsNumeral n small in digits_token (decimal n) digits

lit_token_by : (v : Bool) (n : ℕ) → n < 2 ^ 64 → is_token (if v then decimal n else 45 ∷ decimal n) ≡ true
lit_token_by true n small = number_token n small
lit_token_by false n small = number_token n small

pub lit_token : (above l : ℕ) → IsLitAbove above l → is_token (lit_word l) ≡ true
lit_token above l fits = lit_token_by (lit_positive l) (lit_var l) (omega (arith, fits.few))

pub hint_token : (before h : ℕ) → IsHint before h → is_token (decimal h) ≡ true
hint_token before h fits = number_token h (omega (arith, fits.small))

pub row_tokens : (word : ℕ → List ℕ) (Fits : ℕ → ℕ → Type 0) (key : ℕ → ℕ) → ((a x : ℕ) → Fits a x → is_token (word x) ≡ true)
    → (a : ℕ) (xs : List ℕ) (tail : List (List ℕ)) → Chain Fits key a xs → list_all is_token tail ≡ true
    → list_all is_token (map word xs ++ tail) ≡ true
row_tokens word Fits key plain a [] tail c t = t
row_tokens word Fits key plain a (x ∷ xs) tail c t = rw (plain a x c.0, row_tokens word Fits key plain (key x) xs tail c.1 t) refl
