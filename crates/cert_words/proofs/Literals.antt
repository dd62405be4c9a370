-- The words of numbers and of literals.
use Rattle.std.proofs.Common.{is_some, drop, IsTrue, nat_lt, ◌&&◌, ◌↔◌, Option, None, Some, IsSome, IfSome, MatchOption, inl, inr, ◌≡◌, ◌≢◌}
use Rattle.std.proofs.Common.{◌⊎◌, ℕ, zero, suc, ◌+◌, ◌*◌, ◌<◌, ◌≤◌, ◌^◌, ◌==◌, Bool, true, false, if◌then◌else◌, List, [], ◌∷◌, ◌++◌}
use Rattle.std.proofs.Common.{length, get_or, refl, sym, ap, ◌∙◌, subst, arith, append-nil}
use Rattle.std.specs.Fmt.{decimal}
use Rattle.std.specs.Str.Parse.{digits_value, AllDigits}
use Rattle.std.proofs.lemmas.Bool.{and_parts, eqb-true, eq-eqb}
use Rattle.std.proofs.Math.Dec.{eqb}
use Rattle.std.specs.Cmp.Lexicographic.{pointwise}
use Rattle.std.proofs.lemmas.Bool.Decides.{nat_tests}
use Rattle.std.proofs.lemmas.Fmt.{decimal_is_IsNumeral, decimal_injective, decimal_digit, first_decimal, decimal-digits_value, length-decimal-le}
use Rattle.std.proofs.lemmas.Str.Parse.{numerals_by_value, tells_digits, digit_at}
use Rattle.proof_log.specs.Literals.{literal, lit_var, lit_positive}
use Rattle.sdcv_base.specs.Decimals.{IsDecimal}
use Rattle.cert_words.specs.Numbers.{zero_word, lit_word, IsLitAbove, IsHint, IsGreatestWith, BeginsVar, BeginsLit, BeginsHint, BeginsNumber, MayBeZero}
use Rattle.cert_words.proofs.Growing.{value_between, front_digits, at_least}
use Rattle.cert_words.proofs.RowLemmas.{Tells}

pub zero_is : decimal 0 ≡ zero_word
zero_is = decimal_digit 0 (omega arith)

-- digits without a leading zero are those of their value
pub digits_are : (ds : List ℕ) → AllDigits 10 ds → 0 < length ds → (get_or ds 0 0 ≡ 48 → length ds ≡ 1) → digits_value 10 ds < 2 ^ 64
    → decimal (digits_value 10 ds) ≡ ds
digits_are ds all some lead small = decimal-digits_value (numerals_by_value (AllDigits 10) tells_digits) ds all some lead small

-- a number with a leading zero is 0
pub lead_zero : (n : ℕ) → n < 2 ^ 64 → get_or (decimal n) 0 0 ≡ 48 → n ≡ 0
lead_zero zero small lead = refl
lead_zero (suc n) small lead = let first = first_decimal (suc n) (omega arith) small in absurd (omega arith)

pub zero_long : (n : ℕ) → n < 2 ^ 64 → get_or (decimal n) 0 0 ≡ 48 → length (decimal n) ≡ 1
zero_long n small lead = let z = lead_zero n small lead in ap (λ m. length (decimal m)) z ∙ ap length zero_is

pub first_digit : (n : ℕ) → n < 2 ^ 64 → 48 ≤ get_or (decimal n) 0 0
first_digit n small =
    let ((some, digits), value) = decimal_is_IsNumeral n small in
    (digit_at (decimal n) 0 digits (omega arith)).0

-- a number begins with no `-`
pub no_dash : (n : ℕ) (ds : List ℕ) → n < 2 ^ 64 → decimal n ≢ 45 ∷ ds
no_dash n ds small e =
    let first = first_digit n small in
    let same : get_or (decimal n) 0 0 ≡ 45 = ap (λ x. get_or x 0 0) e in
    absurd (omega arith)

-- what is written is read
pub written : (word : List ℕ) (n most : ℕ) → n < 2 ^ 64 → n ≤ most → word ≡ decimal n → IsDecimal word most
written word n most small within e =
    let ((some, digits), value) = decimal_is_IsNumeral n small in
    subst (λ (w : List ℕ). IsDecimal w most) (sym e) (record {
      some = omega arith;
      few = length-decimal-le 20 n (omega arith) (omega arith) small;
      digits = digits;
      small = omega (arith, value);
    })

lit_word_by : (v : Bool) (ds : List ℕ) → ((if v then ds else 45 ∷ ds) ≡ ds) ⊎ ((if v then ds else 45 ∷ ds) ≡ 45 ∷ ds)
lit_word_by true ds = inl refl
lit_word_by false ds = inr refl

-- the word of a literal
pub lit_words : (l : ℕ) → (lit_word l ≡ decimal (lit_var l)) ⊎ (lit_word l ≡ 45 ∷ decimal (lit_var l))
lit_words l = lit_word_by (lit_positive l) (decimal (lit_var l))

pub positive_word : (v : ℕ) → lit_word (literal v true) ≡ decimal v
positive_word v = let e : lit_positive (2 * v) ≡ true = grind (arith, nat_tests) in let d : lit_var (2 * v) ≡ v = omega arith in rw (e, d) refl

pub negative_word : (v : ℕ) → lit_word (literal v false) ≡ 45 ∷ decimal v
negative_word v = let e : lit_positive (2 * v + 1) ≡ false = grind (arith, nat_tests) in let d : lit_var (2 * v + 1) ≡ v = omega arith in rw (e, d) refl

-- the words of literals tell them
same_by : (v w : Bool) (m n : ℕ) → m < 2 ^ 31 → n < 2 ^ 31 → (if v then decimal m else 45 ∷ decimal m) ≡ (if w then decimal n else 45 ∷ decimal n)
    → (v ≡ w) × (m ≡ n)
same_by true true m n ms ns e = (refl, decimal_injective m n (omega arith) (omega arith) e)
same_by true false m n ms ns e = absurd (no_dash m (decimal n) (omega arith) e)
same_by false true m n ms ns e = absurd (no_dash n (decimal m) (omega arith) (sym e))
same_by false false m n ms ns e = let tails : decimal m ≡ decimal n = cc in (refl, decimal_injective m n (omega arith) (omega arith) tails)

lit_same : (x y : ℕ) → lit_positive x ≡ lit_positive y → lit_var x ≡ lit_var y → x ≡ y
lit_same x y p v = grind (arith, nat_tests)

not_zero : (v : Bool) (n : ℕ) → 0 < n → n < 2 ^ 31 → (if v then decimal n else 45 ∷ decimal n) ≢ zero_word
not_zero true n some small e = let z = decimal_injective n 0 (omega arith) (omega arith) (e ∙ sym zero_is) in absurd (omega arith)
not_zero false n some small e = let first : get_or (45 ∷ decimal n) 0 0 ≡ get_or zero_word 0 0 = ap (λ (x : List ℕ). get_or x 0 0) e in absurd (omega arith)

pub lits_tell : Tells lit_word IsLitAbove
lits_tell = record {
  no_zero = λ a x f e. not_zero (lit_positive x) (lit_var x) (omega (arith, f.above_it)) f.few e;
  same = λ a b x y f g e. let (p, v) = same_by (lit_positive x) (lit_positive y) (lit_var x) (lit_var y) f.few g.few e in lit_same x y p v;
}

pub hints_tell : Tells decimal IsHint
hints_tell = record {
  no_zero = λ a x f e. let z = decimal_injective x 0 (omega (arith, f.small)) (omega arith) (e ∙ sym zero_is) in absurd (omega (arith, f.some));
  same = λ a b x y f g e. decimal_injective x y (omega (arith, f.small)) (omega (arith, g.small)) e;
}

-- what a variable's digits begin with
pub empty_begins : (above : ℕ) → above < 2147483647 → BeginsVar above []
empty_begins above less = record { more = decimal 2147483647; var = 2147483647; above_it = omega arith; few = omega arith; is = refl }

lead_front : (a more all : List ℕ) → 0 < length a → a ++ more ≡ all → get_or a 0 0 ≡ 48 → get_or all 0 0 ≡ 48
lead_front [] more all s e f = absurd (omega arith)
lead_front (x ∷ a) more all s e f = ap (λ y. get_or y 0 0) (sym e) ∙ f

-- the front of a number's digits is a number, no greater
pub number_front : (n : ℕ) (ds more : List ℕ) → 0 < n → n < 2 ^ 64 → 0 < length ds → ds ++ more ≡ decimal n → (m : ℕ) × (m ≤ n) × (ds ≡ decimal m)
number_front n ds more pos small some is =
    let ((bsome, digits), value) = decimal_is_IsNumeral n small in
    let all : AllDigits 10 (ds ++ more) = subst (AllDigits 10) (sym is) digits in
    let between = value_between more ds all in
    let v = digits_value 10 ds in
    let whole : digits_value 10 (ds ++ more) ≡ n = ap (digits_value 10) is ∙ value in
    let least = at_least (length more) v in
    let bl = between.low in
    let within : v ≤ n = omega arith in
    let lead : get_or ds 0 0 ≡ 48 → length ds ≡ 1 = λ e. let z = lead_zero n small (lead_front ds more (decimal n) some is e) in absurd (omega arith) in
    (v, within, sym (digits_are ds (front_digits ds more all) some lead (omega arith)))

-- the front of a variable's digits is a number
pub begun_number : (above : ℕ) (ds : List ℕ) → 0 < length ds → BeginsVar above ds → (n : ℕ) × (n ≤ 2147483647) × (ds ≡ decimal n)
begun_number above ds some b =
    let few = b.few in
    let above_it = b.above_it in
    let front = number_front b.var ds b.more (omega arith) (omega arith) some b.is in
    (front.0, omega (arith, front.1), front.2)

-- no variable begins with 0
pub zero_begins_none : (above : ℕ) (ds : List ℕ) → ds ≡ decimal 0 → ¬ BeginsVar above ds
zero_begins_none above ds is b =
    let e : zero_word ++ b.more ≡ decimal b.var = ap (λ x. x ++ b.more) (sym zero_is ∙ sym is) ∙ b.is in
    let z = lead_zero b.var (omega (arith, b.few)) (ap (λ y. get_or y 0 0) (sym e)) in
    let above_it = b.above_it in
    absurd (omega arith)

-- digits with a leading zero are those of no number
pub leads_none : (word : List ℕ) → (nat_lt 1 (length word) && get_or word 0 0 == 48) ≡ true → (n most : ℕ) → most < 2 ^ 64 → n ≤ most → word ≢ decimal n
leads_none word lead n most small within e =
    let (long, first) = and_parts (nat_lt 1 (length word)) (get_or word 0 0 == 48) lead in
    let is : get_or word 0 0 ≡ 48 = grind (arith, nat_tests) in
    let more : 1 < length word = grind (arith, nat_tests) in
    let one = zero_long n (omega arith) (ap (λ (w : List ℕ). get_or w 0 0) (sym e) ∙ is) in
    let same = ap length e in
    absurd (omega arith)

no_lead : (word : List ℕ) → (nat_lt 1 (length word) && get_or word 0 0 == 48) ≡ false → 0 < length word → get_or word 0 0 ≡ 48 → length word ≡ 1
no_lead word lead some first = grind (arith, nat_tests)

-- any other digits are read as the number that they are
pub number_is : (word : List ℕ) (most : ℕ) (o : Option ℕ) → most < 2 ^ 64 → (nat_lt 1 (length word) && get_or word 0 0 == 48) ≡ false
    → IsSome o ↔ IsDecimal word most → IfSome o (λ v. v ≡ digits_value 10 word)
    → MatchOption o ((n : ℕ) → n ≤ most → word ≢ decimal n) (λ n. (word ≡ decimal n) × (n ≤ most))
number_is word most None small lead some value =
    λ n within e. let is : IsSome {T = ℕ} None = some.1 (written word n most (omega arith) within e) in absurd (none is)
  where
    none : ¬ IsSome {T = ℕ} None
    none is = cc
number_is word most (Some v) small lead some value =
    let d : IsDecimal word most = some.0 refl in
    let few = d.small in
    let v_is : v ≡ digits_value 10 word = value in
    let has = d.some in
    let same = digits_are word d.digits (omega arith) (no_lead word lead (omega arith)) (omega arith) in
    (sym same ∙ ap decimal (sym v_is), omega arith)

-- a literal's word after a `-`, and without one
pub record IsVarAbove (above : ℕ) (digits : List ℕ) (v : ℕ) : Type 0 where
  pub is : digits ≡ decimal v
  pub above_it : above < v
  pub few : v < 2 ^ 31

-- no variable's digits, so after a `-` no literal
pub dash_none : (word digits : List ℕ) (above : ℕ) → word ≡ 45 ∷ digits → ((v : ℕ) → above < v → v < 2 ^ 31 → digits ≢ decimal v) → (l : ℕ)
    → IsLitAbove above l → word ≢ lit_word l
dash_none word digits above is none l fits e = by (lit_words l)
  where
    few : lit_var l < 2 ^ 64
    few = omega (arith, fits.few)

    by : (lit_word l ≡ decimal (lit_var l)) ⊎ (lit_word l ≡ 45 ∷ decimal (lit_var l)) → ⊥
    by (inl plain) = no_dash (lit_var l) digits few (sym plain ∙ sym e ∙ is)
    by (inr dash) =
        let both : 45 ∷ digits ≡ 45 ∷ decimal (lit_var l) = sym is ∙ e ∙ dash in
        let same : digits ≡ decimal (lit_var l) = cc in
        none (lit_var l) fits.above_it fits.few same

pub plain_none : (word : List ℕ) (above : ℕ) → ((rest : List ℕ) → word ≢ 45 ∷ rest) → ((v : ℕ) → above < v → v < 2 ^ 31 → word ≢ decimal v)
    → (l : ℕ) → IsLitAbove above l → word ≢ lit_word l
plain_none word above plain none l fits e = by (lit_words l)
  where
    by : (lit_word l ≡ decimal (lit_var l)) ⊎ (lit_word l ≡ 45 ∷ decimal (lit_var l)) → ⊥
    by (inl is) = none (lit_var l) fits.above_it fits.few (e ∙ is)
    by (inr dash) = plain (decimal (lit_var l)) (e ∙ dash)

pub fits_positive : (above v : ℕ) → above < v → v < 2 ^ 31 → IsLitAbove above (literal v true)
fits_positive above v a f = let d : lit_var (2 * v) ≡ v = omega arith in record { above_it = omega arith; few = omega arith }

pub fits_negative : (above v : ℕ) → above < v → v < 2 ^ 31 → IsLitAbove above (literal v false)
fits_negative above v a f = let d : lit_var (2 * v + 1) ≡ v = omega arith in record { above_it = omega arith; few = omega arith }

-- a variable's digits, and so a literal's
pub lit_begins : (above : ℕ) (word : List ℕ) → BeginsVar above word → BeginsLit above word
lit_begins above word b =
    record { more = b.more; lit = literal b.var true; fits = fits_positive above b.var b.above_it b.few; is = b.is ∙ sym (positive_word b.var) }

pub dash_begins : (above : ℕ) (word digits : List ℕ) → word ≡ 45 ∷ digits → BeginsVar above digits → BeginsLit above word
dash_begins above word digits is b =
    record {
      more = b.more;
      lit = literal b.var false;
      fits = fits_negative above b.var b.above_it b.few;
      is = ap (λ x. x ++ b.more) is ∙ ap (λ x. 45 ∷ x) b.is ∙ sym (negative_word b.var);
    }

pub dash_begun : (above : ℕ) (word digits : List ℕ) → word ≡ 45 ∷ digits → BeginsLit above word → BeginsVar above digits
dash_begun above word digits is b = by (lit_words b.lit)
  where
    few : lit_var b.lit < 2 ^ 64
    few = omega (arith, b.fits.few)

    by : (lit_word b.lit ≡ decimal (lit_var b.lit)) ⊎ (lit_word b.lit ≡ 45 ∷ decimal (lit_var b.lit)) → BeginsVar above digits
    by (inl plain) = absurd (no_dash (lit_var b.lit) (digits ++ b.more) few (sym plain ∙ sym b.is ∙ ap (λ x. x ++ b.more) is))
    by (inr dash) =
        let both : 45 ∷ (digits ++ b.more) ≡ 45 ∷ decimal (lit_var b.lit) = ap (λ x. x ++ b.more) (sym is) ∙ b.is ∙ dash in
        let same : digits ++ b.more ≡ decimal (lit_var b.lit) = cc in
        record { more = b.more; var = lit_var b.lit; above_it = b.fits.above_it; few = b.fits.few; is = same }

begun_by : (above : ℕ) (word more : List ℕ) (l : ℕ) → IsLitAbove above l → word ++ more ≡ 45 ∷ decimal (lit_var l)
    → ((rest : List ℕ) → word ≢ 45 ∷ rest) → BeginsVar above word
begun_by above [] more l fits e plain = record { more = decimal (lit_var l); var = lit_var l; above_it = fits.above_it; few = fits.few; is = refl }
begun_by above (x ∷ word) more l fits e plain = let first : x ≡ 45 = cc in absurd (plain word (ap (λ y. y ∷ word) first))

pub plain_begun : (above : ℕ) (word : List ℕ) → ((rest : List ℕ) → word ≢ 45 ∷ rest) → BeginsLit above word → BeginsVar above word
plain_begun above word plain b = by (lit_words b.lit)
  where
    by : (lit_word b.lit ≡ decimal (lit_var b.lit)) ⊎ (lit_word b.lit ≡ 45 ∷ decimal (lit_var b.lit)) → BeginsVar above word
    by (inl is) = record { more = b.more; var = lit_var b.lit; above_it = b.fits.above_it; few = b.fits.few; is = b.is ∙ is }
    by (inr dash) = begun_by above word b.more b.lit b.fits (b.is ∙ dash) plain

pub empty_var : (above : ℕ) (ds : List ℕ) → length ds ≡ 0 → IsTrue (nat_lt above 2147483647) ↔ BeginsVar above ds
empty_var above [] none = (λ less. empty_begins above (grind (arith, nat_tests)), λ b. let few = b.few in let above_it = b.above_it in grind (arith, nat_tests))
empty_var above (d ∷ ds) none = absurd (omega arith)

pub none_var : (above : ℕ) (ds : List ℕ) → 0 < length ds → ((n : ℕ) → n ≤ 2147483647 → ds ≢ decimal n) → ¬ BeginsVar above ds
none_var above ds some none b = let n = begun_number above ds some b in none n.0 n.1 n.2

-- a number's digits go on to a greater variable exactly where the greatest that they go on to is greater
pub great_var : (above n g : ℕ) (ds : List ℕ) → ds ≡ decimal n → IsGreatestWith n g → above < g → BeginsVar above ds
great_var above n g ds is most more = record { more = most.more; var = g; above_it = more; few = most.few; is = ap (λ x. x ++ most.more) is ∙ most.begins }

pub var_great : (above n g : ℕ) (ds : List ℕ) → ds ≡ decimal n → IsGreatestWith n g → BeginsVar above ds → above < g
var_great above n g ds is most b = let le = most.most b.more b.var b.few (ap (λ x. x ++ b.more) (sym is) ∙ b.is) in let above_it = b.above_it in omega arith

-- the front of the word 0
pub zero_front : (word : List ℕ) → (more : List ℕ) → word ++ more ≡ zero_word → 0 < length word → word ≡ zero_word
zero_front [] more e some = absurd (omega arith)
zero_front (x ∷ word) more e some = by word (tail_of x (word ++ more) e)
  where
    tail_of : (x : ℕ) (xs : List ℕ) → x ∷ xs ≡ zero_word → (x ≡ 48) × (xs ≡ [])
    tail_of x xs e = (ap (λ y. get_or y 0 0) e, ap (drop 1) e)

    by : (w : List ℕ) → (x ≡ 48) × (w ++ more ≡ []) → x ∷ w ≡ zero_word
    by [] p = ap (λ y. y ∷ []) p.0
    by (y ∷ w) p = let none = ap length p.1 in absurd (omega arith)

pub zero_may : (word : List ℕ) → length word ≡ 0 → (more : List ℕ) × (word ++ more ≡ zero_word)
zero_may [] none = (zero_word, refl)
zero_may (x ∷ word) none = absurd (omega arith)

pub zero_itself : (word : List ℕ) → word ≡ zero_word → (more : List ℕ) × (word ++ more ≡ zero_word)
zero_itself word is = ([], append-nil word ∙ is)

pub hint_on : (word : List ℕ) (h : ℕ) → word ≡ decimal h → h < 2 ^ 63 → MayBeZero word ⊎ BeginsHint word
hint_on word zero is small = inl (zero_itself word (is ∙ zero_is))
hint_on word (suc h) is small = inr (record { more = []; hint = suc h; some = omega arith; small = small; is = append-nil word ∙ is })

pub hint_front : (word : List ℕ) → 0 < length word → ((n : ℕ) → n ≤ 9223372036854775807 → word ≢ decimal n) → MayBeZero word ⊎ BeginsHint word → ⊥
hint_front word some none (inl z) = none 0 (omega arith) (zero_front word z.0 z.1 some ∙ sym zero_is)
hint_front word some none (inr b) =
    let small = b.small in
    let front = number_front b.hint word b.more b.some (omega arith) some b.is in
    none front.0 (omega (arith, front.1)) front.2

pub option_hint : (word : List ℕ) (o : Option ℕ) → 0 < length word
    → MatchOption o ((n : ℕ) → n ≤ 9223372036854775807 → word ≢ decimal n) (λ n. (word ≡ decimal n) × (n ≤ 9223372036854775807))
    → IsTrue (is_some o) ↔ (MayBeZero word ⊎ BeginsHint word)
option_hint word None some none = (λ t. cc, λ m. absurd (hint_front word some none m))
option_hint word (Some h) some is = (λ t. hint_on word h is.0 (omega (arith, is.1)), λ m. refl)

pub empty_hint : (word : List ℕ) → length word ≡ 0 → MayBeZero word ⊎ BeginsHint word
empty_hint word none = inl (zero_may word none)

pub same_bytes : (a b : List ℕ) → pointwise eqb a b ≡ true → a ≡ b
same_bytes [] [] e = refl
same_bytes [] (y ∷ b) e = cc
same_bytes (x ∷ a) [] e = cc
same_bytes (x ∷ a) (y ∷ b) e =
    let (first, more) = and_parts (eqb x y) (pointwise eqb a b) e in
    let head : x ≡ y = eqb-true x y first in
    let tail = same_bytes a b more in
    cc

pub bytes_same : (a b : List ℕ) → a ≡ b → pointwise eqb a b ≡ true
bytes_same a b e = subst (λ (y : List ℕ). pointwise eqb a y ≡ true) e (itself a)
  where
    itself : (xs : List ℕ) → pointwise eqb xs xs ≡ true
    itself [] = refl
    itself (x ∷ xs) = rw (eq-eqb x x refl, itself xs) refl

-- what a number's digits begin with is a number, no greater
number_begun : (word more : List ℕ) (n : ℕ) → n < 2 ^ 64 → 0 < length word → word ++ more ≡ decimal n → (m : ℕ) × (m ≤ n) × (word ≡ decimal m)
number_begun word more zero small some is = (0, omega arith, zero_front word more (is ∙ zero_is) some ∙ sym zero_is)
number_begun word more (suc n) small some is = number_front (suc n) word more (omega arith) small some is

pub option_number : (word : List ℕ) (most : ℕ) (o : Option ℕ) → most < 2 ^ 64 → 0 < length word
    → MatchOption o ((n : ℕ) → n ≤ most → word ≢ decimal n) (λ n. (word ≡ decimal n) × (n ≤ most)) → IsTrue (is_some o) ↔ BeginsNumber most word
option_number word most None few some none = (λ t. cc, λ b. absurd (no b))
  where
    no : BeginsNumber most word → ⊥
    no (more, n, within, is) = let front = number_begun word more n (omega arith) some is in none front.0 (omega (arith, front.1)) front.2
option_number word most (Some n) few some is = (λ t. ([], n, is.1, append-nil word ∙ is.0), λ b. refl)

pub empty_number : (word : List ℕ) (most : ℕ) → length word ≡ 0 → BeginsNumber most word
empty_number [] most none = (decimal 0, 0, omega arith, refl)
empty_number (x ∷ word) most none = absurd (omega arith)
