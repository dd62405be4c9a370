-- What each line goes on with, by its parts.
use Rattle.std.proofs.Common.{inl, inr, ◌⊎◌, ◌≡◌, ◌≢◌, ℕ, zero, suc, ◌+◌, ◌-◌, ◌<◌, ◌≤◌, Bool, true, false, List, [], ◌∷◌, ◌++◌, map, length, drop, get_or}
use Rattle.std.proofs.Common.{Option, None, Some, MatchOption, IsTrue, is_some, ◌↔◌, refl, sym, ap, ◌∙◌, subst, append_assoc, append-nil, arith}
use Rattle.std.specs.Prelude.{codes}
use Rattle.std.specs.Fmt.{decimal}
use Rattle.std.proofs.lemmas.Bool.Decides.{nat_tests}
use Rattle.std.proofs.lemmas.Fmt.{decimal_injective, decimal_digit}
use Rattle.std.proofs.lemmas.List.{length-append, length-map, map-append}
use Rattle.proof_log.specs.Literals.{literal, lit_var, lit_positive}
use Rattle.proof_log.specs.declared.derivations.DerivStep.{DerivStep}
use Rattle.net_model.specs.declared.invariants.StateLit.{StateLit}
use Rattle.net_model.specs.declared.invariants.InvClause.{InvClause}
use Rattle.cert_words.specs.Numbers.{zero_word, lit_word, IsLitAbove, IsHint}
use Rattle.cert_words.specs.Growth.{Chain}
use Rattle.cert_words.specs.Parts.{left, one, row, IsAt, Passes, HasPart, IsPartStop}
use Rattle.cert_words.specs.Lines.{IsLineStop}
use Rattle.cert_words.specs.declared.words.Words.{Words}
use Rattle.cert_words.specs.declared.stops.Stop.{Stop}
use Rattle.cert_words.proofs.Literals.{hints_tell, lits_tell}
use Rattle.cert_words.proofs.RowLemmas.{row_same, last_key, last_key-push, Chain-push}
use Rattle.cert_words.proofs.LineLemmas.{HasWords, at_next, stop_part, stop_more}
use Rattle.cert_lines.specs.declared.heads.InvHead.{InvHead}
use Rattle.cert_lines.specs.declared.sections.Section.{Section}
use Rattle.cert_lines.specs.declared.sections.Section.TheVariants.{Single, Fixed, Depth, End}
use Rattle.cert_lines.specs.declared.sections.ProofWord.{ProofWord}
use Rattle.cert_lines.specs.declared.sections.ProofWord.TheVariants as word
use Rattle.cert_lines.specs.declared.sections.How.{How}
use Rattle.cert_lines.specs.declared.sections.How.TheVariants as how
use Rattle.cert_lines.specs.Kinds.{IsVersion, inv_words, IsInvHead, state_literal, state_word, kept_words, IsKept, section_words, IsSection, step_words, IsStep}
use Rattle.cert_lines.specs.SectionWords.{IsVersionWord, IsAny, pair_or_end, proof_word, how_words, IsHow, section_of}
use Rattle.cert_lines.proofs.KindLemmas.{clash, step_tail, words_of_lits, kept_kind}

one_is : decimal 1 ≡ codes "1"
one_is = decimal_digit 1 (omega arith)

two_is : decimal 2 ≡ codes "2"
two_is = decimal_digit 2 (omega arith)

three_is : decimal 3 ≡ codes "3"
three_is = decimal_digit 3 (omega arith)

-- the words of the versions
pub version_one : (word : List ℕ) → word ≡ codes "1" → IsVersion 1 × (word ≡ decimal 1)
version_one word is = ((omega arith, omega arith), is ∙ sym one_is)

pub version_two : (word : List ℕ) → word ≡ codes "2" → IsVersion 2 × (word ≡ decimal 2)
version_two word is = ((omega arith, omega arith), is ∙ sym two_is)

pub version_three : (word : List ℕ) → word ≡ codes "3" → IsVersion 3 × (word ≡ decimal 3)
version_three word is = ((omega arith, omega arith), is ∙ sym three_is)

-- a version's word is that of one of the three
pub one_of_three : (word : List ℕ) → IsVersionWord word → (word ≡ codes "1") ⊎ ((word ≡ codes "2") ⊎ (word ≡ codes "3"))
one_of_three word (zero, (some, few), is) = absurd (omega arith)
one_of_three word (suc zero, fits, is) = inl (is ∙ one_is)
one_of_three word (suc (suc zero), fits, is) = inr (inl (is ∙ two_is))
one_of_three word (suc (suc (suc zero)), fits, is) = inr (inr (is ∙ three_is))
one_of_three word (suc (suc (suc (suc n))), (some, few), is) = absurd (omega arith)

pub no_version : (word : List ℕ) → word ≢ codes "1" → word ≢ codes "2" → word ≢ codes "3" → ¬ IsVersionWord word
no_version word one two three version = by (one_of_three word version)
  where
    by : (word ≡ codes "1") ⊎ ((word ≡ codes "2") ⊎ (word ≡ codes "3")) → ⊥
    by (inl is) = one is
    by (inr (inl is)) = two is
    by (inr (inr is)) = three is

-- a version's word has one byte, so what begins one is empty or is one
pub empty_version : (word : List ℕ) → length word ≡ 0 → (more : List ℕ) × IsVersionWord (word ++ more)
empty_version [] none = let v = version_one (codes "1") refl in (codes "1", (1, v.0, v.1))
empty_version (b ∷ word) none = absurd (omega arith)

one_byte : (word : List ℕ) → IsVersionWord word → length word ≡ 1
one_byte word version = by (one_of_three word version)
  where
    by : (word ≡ codes "1") ⊎ ((word ≡ codes "2") ⊎ (word ≡ codes "3")) → length word ≡ 1
    by (inl is) = ap length is
    by (inr (inl is)) = ap length is
    by (inr (inr is)) = ap length is

whole_version : (word more : List ℕ) → 0 < length word → IsVersionWord (word ++ more) → IsVersionWord word
whole_version word more some version =
    let one = one_byte (word ++ more) version in
    let both = length-append word more in
    let none : more ≡ [] = nothing more (omega arith) in
    subst IsVersionWord (ap (λ (z : List ℕ). word ++ z) none ∙ append-nil word) version
  where
    nothing : (x : List ℕ) → length x ≤ 0 → x ≡ []
    nothing [] less = refl
    nothing (y ∷ x) less = absurd (omega arith)

pub option_version : (word : List ℕ) (o : Option ℕ) → 0 < length word
    → MatchOption o (¬ IsVersionWord word) (λ v. IsVersion v × (word ≡ decimal v)) → IsTrue (is_some o) ↔ ((more : List ℕ) × IsVersionWord (word ++ more))
option_version word None some none = (λ t. cc, λ m. absurd (none (whole_version word m.0 some m.1)))
option_version word (Some v) some is =
    (λ t. ([], subst IsVersionWord (sym (append-nil word)) (v, is.0, is.1)), λ m. refl)

-- the count of kept clauses
pub count_in : (depth most : ℕ) → depth ≤ 8 → (depth ≡ 0 → most ≡ 0) → (0 < depth → most ≡ 9223372036854775807)
    → (x : List (List ℕ)) (v : InvHead) → IsInvHead v → codes "inv" ∷ (decimal depth ∷ x) ≡ inv_words v → HasPart (λ n. n ≤ most) (one decimal) x
count_in depth most deep none some x v fv e =
    let word : decimal depth ≡ decimal v.depth = cc in
    let rest : x ≡ decimal v.count ∷ [] = cc in
    let same = decimal_injective depth v.depth (omega arith) (omega (arith, fv.deep)) word in
    record { value = v.count; tail = []; fits = within depth none some same; is = rest }
  where
    within : (d : ℕ) → (d ≡ 0 → most ≡ 0) → (0 < d → most ≡ 9223372036854775807) → d ≡ v.depth → v.count ≤ most
    within zero none some same = let is = none refl in let c = fv.none (sym same) in omega arith
    within (suc d) none some same = let is = some (omega arith) in omega (arith, fv.small)

pub count_onto : (depth most : ℕ) → depth ≤ 8 → (depth ≡ 0 → most ≡ 0) → (0 < depth → most ≡ 9223372036854775807) → (n : ℕ) → n ≤ most
    → IsInvHead (record { depth = depth; count = n })
count_onto zero most deep none some n within = let is = none refl in record { deep = deep; none = λ e. omega arith; small = omega arith }
count_onto (suc d) most deep none some n within = let is = some (omega arith) in record { deep = deep; none = λ e. absurd (omega arith); small = omega arith }

-- the literal of a register
pub literal_of : (l : ℕ) → 0 < lit_var l → literal (lit_var l - 1 + 1) (lit_positive l) ≡ l
literal_of l some = by (lit_positive l) refl
  where
    by : (b : Bool) → lit_positive l ≡ b → literal (lit_var l - 1 + 1) b ≡ l
    by true is = grind (arith, nat_tests)
    by false is = grind (arith, nat_tests)

abbrev pub state_of : ℕ → StateLit
state_of l = record { reg = lit_var l - 1; value = lit_positive l }

abbrev pub first_state : StateLit
first_state = record { reg = 0; value = true }

pub none_left : (x : List (List ℕ)) → length x ≤ 0 → x ≡ []
none_left [] less = refl
none_left (w ∷ x) less = absurd (omega arith)

-- the words of one literal more
pub pushed_words : (lits : List StateLit) (s : StateLit) → map state_word (lits ++ s ∷ []) ≡ map state_word lits ++ state_word s ∷ []
pushed_words lits s = map-append state_word lits (s ∷ [])

pub pushed_lits : (lits : List StateLit) (s : StateLit) → map state_literal (lits ++ s ∷ []) ≡ map state_literal lits ++ state_literal s ∷ []
pushed_lits lits s = map-append state_literal lits (s ∷ [])

pub pushed_same : (lits more : List StateLit) (s : StateLit) (l : ℕ) → state_literal s ≡ l → more ≡ lits ++ s ∷ []
    → map state_literal more ≡ map state_literal lits ++ l ∷ []
pushed_same lits more s l is pushed =
    ap (λ (z : List StateLit). map state_literal z) pushed ∙ pushed_lits lits s ∙ ap (λ (z : ℕ). map state_literal lits ++ z ∷ []) is

-- one literal more was passed
pub pushed_at : (line : List ℕ) (cut : Bool) (lits more : List StateLit) (s : StateLit) (l : ℕ) (a b : Words)
    → IsAt line cut (codes "k" ∷ map state_word lits) a → Passes (one lit_word l) a b → state_literal s ≡ l → more ≡ lits ++ s ∷ []
    → IsAt line cut (codes "k" ∷ map state_word more) b
pushed_at line cut lits more s l a b at passes is pushed =
    subst (λ (z : List (List ℕ)). IsAt line cut (codes "k" ∷ z) b) words (at_next at passes)
  where
    words : map state_word lits ++ lit_word l ∷ [] ≡ map state_word more
    words =
        ap (λ (z : ℕ). map state_word lits ++ lit_word z ∷ []) (sym is) ∙ sym (pushed_words lits s)
        ∙ ap (λ (z : List StateLit). map state_word z) (sym pushed)

pub pushed_chain : (lits more : List StateLit) (s : StateLit) (l : ℕ) → Chain IsLitAbove lit_var 0 (map state_literal lits)
    → IsLitAbove (last_key lit_var 0 (map state_literal lits)) l → state_literal s ≡ l → more ≡ lits ++ s ∷ []
    → Chain IsLitAbove lit_var 0 (map state_literal more)
pushed_chain lits more s l fit fits is pushed =
    subst (λ (z : List ℕ). Chain IsLitAbove lit_var 0 z) (sym (pushed_same lits more s l is pushed))
    (Chain-push IsLitAbove lit_var 0 (map state_literal lits) l fit fits)

pub pushed_key : (lits more : List StateLit) (s : StateLit) (l : ℕ) → state_literal s ≡ l → more ≡ lits ++ s ∷ []
    → lit_var l ≡ last_key lit_var 0 (map state_literal more)
pushed_key lits more s l is pushed =
    sym (last_key-push lit_var 0 (map state_literal lits) l)
    ∙ ap (λ (z : List ℕ). last_key lit_var 0 z) (sym (pushed_same lits more s l is pushed))

pub pushed_long : (lits more : List StateLit) (s : StateLit) → more ≡ lits ++ s ∷ [] → length more ≡ length lits + 1
pushed_long lits more s pushed = ap length pushed ∙ length-append lits (s ∷ [])

-- where words follow those of some literals, the first is that of the next literal
next_lit : (a : ℕ) (done items : List ℕ) (x : List (List ℕ)) → Chain IsLitAbove lit_var a done → Chain IsLitAbove lit_var a items
    → map lit_word done ++ x ≡ map lit_word items → 0 < length x → HasPart (IsLitAbove (last_key lit_var a done)) (one lit_word) x
next_lit a [] [] x cd ci e some = let none = ap length e in absurd (omega arith)
next_lit a [] (i ∷ items) x cd ci e some = record { value = i; tail = map lit_word items; fits = ci.0; is = e }
next_lit a (d ∷ done) [] x cd ci e some = cc
next_lit a (d ∷ done) (i ∷ items) x cd ci e some =
    let first : lit_word d ≡ lit_word i = cc in
    let others : map lit_word done ++ x ≡ map lit_word items = cc in
    let same = lits_tell.same a a d i cd.0 ci.0 first in
    next_lit (lit_var d) done items x cd.1 (subst (λ (z : ℕ). Chain IsLitAbove lit_var (lit_var z) items) (sym same) ci.1) others some

pub lit_in : (long : Bool) (lits : List StateLit) → Chain IsLitAbove lit_var 0 (map state_literal lits) → (x : List (List ℕ)) (v : InvClause)
    → 0 < length x → IsKept long v → codes "k" ∷ (map state_word lits ++ x) ≡ kept_words v
    → HasPart (IsLitAbove (last_key lit_var 0 (map state_literal lits))) (one lit_word) x
lit_in long lits fit x v some fv e =
    next_lit 0 (map state_literal lits) (map state_literal v.lits) x fit fv.ascend
    (ap (λ (z : List (List ℕ)). z ++ x) (sym (words_of_lits lits)) ∙ ap (λ (z : List (List ℕ)). drop 1 z) e ∙ words_of_lits v.lits) some

-- each clause has a literal
pub some_lit : (long : Bool) (x : List (List ℕ)) (v : InvClause) → IsKept long v → codes "k" ∷ x ≡ kept_words v → 0 < length x
some_lit long x v fv e =
    let is : x ≡ map state_word v.lits = ap (λ (z : List (List ℕ)). drop 1 z) e in
    let many = ap length is ∙ length-map v.lits state_word in
    omega (arith, many, fv.some)

-- each literal above the last one may be the next
pub lit_onto : (long : Bool) (lits : List StateLit) → Chain IsLitAbove lit_var 0 (map state_literal lits) → (long ≡ false → length lits < 2)
    → (l : ℕ) → IsLitAbove (last_key lit_var 0 (map state_literal lits)) l
    → HasWords (IsKept long) kept_words (codes "k" ∷ (map state_word lits ++ (lit_word l ∷ [])))
lit_onto long lits fit room l fits =
    let s = state_of l in
    let is : state_literal s ≡ l = literal_of l (omega (arith, fits.above_it)) in
    let long_by = length-append lits (s ∷ []) in
    let chain = Chain-push IsLitAbove lit_var 0 (map state_literal lits) l fit fits in
    let same : map state_literal (lits ++ s ∷ []) ≡ map state_literal lits ++ l ∷ [] =
    pushed_lits lits s ∙ ap (λ (z : ℕ). map state_literal lits ++ z ∷ []) is in (
      record { lits = lits ++ s ∷ [] },
      record {
        some = omega arith;
        ascend = subst (λ (z : List ℕ). Chain IsLitAbove lit_var 0 z) (sym same) chain;
        short = λ e. (let less = room e in omega arith);
      },
      ap (λ (z : List (List ℕ)). codes "k" ∷ z)
          (ap (λ (z : ℕ). map state_word lits ++ lit_word z ∷ []) (sym is) ∙ sym (pushed_words lits s)),
    )

-- a clause that may not be long has ended after two literals
pub kept_end : (long : Bool) (lits : List StateLit) → long ≡ false → 2 ≤ length lits → (x : List (List ℕ)) (v : InvClause) → IsKept long v
    → codes "k" ∷ (map state_word lits ++ x) ≡ kept_words v → x ≡ []
kept_end long lits is two x v fv e =
    let words : map state_word lits ++ x ≡ map state_word v.lits = ap (λ (z : List (List ℕ)). drop 1 z) e in
    let many = ap length words ∙ length-map v.lits state_word in
    let both = length-append (map state_word lits) x in
    let first = length-map lits state_word in
    let most = fv.short is in
    none_left x (omega arith)

-- why no literal comes next
pub lit_stop : (long : Bool) (lits : List StateLit) (line : List ℕ) (cut : Bool) (w : Words) (stop : Stop)
    → IsAt line cut (codes "k" ∷ map state_word lits) w → Chain IsLitAbove lit_var 0 (map state_literal lits)
    → (long ≡ false → length lits < 2) → (lits ≡ []) ⊎ (0 < length (left w))
    → IsPartStop (IsLitAbove (last_key lit_var 0 (map state_literal lits))) (one lit_word) w stop → IsLineStop (IsKept long) kept_words cut line stop
lit_stop long lits line cut w stop at fit room (inl none) why =
    stop_part (kept_kind long) at why
    (λ x v fv e.
    lit_in long lits fit x v (some_lit long x v fv (ap (λ (z : List StateLit). codes "k" ∷ (map state_word z ++ x)) (sym none) ∙ e)) fv e)
    (λ l. []) (lit_onto long lits fit room)
lit_stop long lits line cut w stop at fit room (inr some) why =
    stop_more (kept_kind long) at why some (λ x v more fv e. lit_in long lits fit x v more fv e) (λ l. []) (lit_onto long lits fit room)

-- sections
pub first_in : (x : List (List ℕ)) (v : Section) → IsSection v → x ≡ section_words v → HasPart IsAny (one pair_or_end) x
first_in x (Single n) fv e = record { value = true; tail = decimal n ∷ (codes "single" ∷ []); fits = tt; is = e }
first_in x (Fixed n) fv e = record { value = true; tail = decimal n ∷ (codes "fixed" ∷ []); fits = tt; is = e }
first_in x (Depth n d) fv e = record { value = true; tail = decimal n ∷ (codes "depth" ∷ (decimal d ∷ [])); fits = tt; is = e }
first_in x End fv e = record { value = false; tail = []; fits = tt; is = e }

-- a word that may come first goes on so to the line's end
abbrev pub first_rest : Bool → List (List ℕ)
first_rest true = decimal 0 ∷ (codes "single" ∷ [])
first_rest false = []

pub first_onto : (pair : Bool) → HasWords IsSection section_words (pair_or_end pair ∷ first_rest pair)
first_onto true = (Single 0, omega arith, refl)
first_onto false = (End, tt, refl)

pub end_end : (x : List (List ℕ)) (v : Section) → IsSection v → codes "end" ∷ x ≡ section_words v → x ≡ []
end_end x (Single n) fv e = cc
end_end x (Fixed n) fv e = cc
end_end x (Depth n d) fv e = cc
end_end x End fv e = ap (λ (z : List (List ℕ)). drop 1 z) e

pub number_in : (x : List (List ℕ)) (v : Section) → IsSection v → codes "pair" ∷ x ≡ section_words v → HasPart (λ n. n ≤ 9223372036854775807) (one decimal) x
number_in x (Single n) fv e = record { value = n; tail = codes "single" ∷ []; fits = omega arith; is = ap (λ (z : List (List ℕ)). drop 1 z) e }
number_in x (Fixed n) fv e = record { value = n; tail = codes "fixed" ∷ []; fits = omega arith; is = ap (λ (z : List (List ℕ)). drop 1 z) e }
number_in x (Depth n d) fv e =
    let (few, low) = fv in
    record { value = n; tail = codes "depth" ∷ (decimal d ∷ []); fits = omega arith; is = ap (λ (z : List (List ℕ)). drop 1 z) e }
number_in x End fv e = cc

-- how a pair is proved
pub word_in : (x y : List (List ℕ)) (v : How) → IsHow v → x ≡ how_words v ++ y → HasPart IsAny (one proof_word) x
word_in x y how.Single fv e = record { value = word.Single; tail = y; fits = tt; is = e }
word_in x y how.Fixed fv e = record { value = word.Fixed; tail = y; fits = tt; is = e }
word_in x y (how.Depth d) fv e = record { value = word.Depth; tail = decimal d ∷ y; fits = tt; is = e }

-- each word goes on so
abbrev pub word_how : ProofWord → How
word_how word.Single = how.Single
word_how word.Fixed = how.Fixed
word_how word.Depth = how.Depth 0

abbrev pub word_rest : ProofWord → List (List ℕ)
word_rest word.Single = []
word_rest word.Fixed = []
word_rest word.Depth = decimal 0 ∷ []

pub word_onto : (k : ProofWord) → IsHow (word_how k) × (proof_word k ∷ word_rest k ≡ how_words (word_how k))
word_onto word.Single = (tt, refl)
word_onto word.Fixed = (tt, refl)
word_onto word.Depth = (omega arith, refl)

abbrev first_byte : List (List ℕ) → ℕ
first_byte ws = get_or (get_or ws 0 []) 0 0

pub depth_in : (x y : List (List ℕ)) (v : How) → IsHow v → codes "depth" ∷ x ≡ how_words v ++ y → HasPart (λ d. d ≤ 64) (one decimal) x
depth_in x y how.Single fv e = absurd (clash 100 115 (omega arith) (ap (λ (z : List (List ℕ)). first_byte z) e))
depth_in x y how.Fixed fv e = absurd (clash 100 102 (omega arith) (ap (λ (z : List (List ℕ)). first_byte z) e))
depth_in x y (how.Depth d) fv e = record { value = d; tail = y; fits = fv; is = ap (λ (z : List (List ℕ)). drop 1 z) e }

pub how_in : (a : List ℕ) (x : List (List ℕ)) (v : Section) → IsSection v → codes "pair" ∷ (a ∷ x) ≡ section_words v → HasPart IsHow how_words x
how_in a x (Single n) fv e = record { value = how.Single; tail = []; fits = tt; is = ap (λ (z : List (List ℕ)). drop 2 z) e }
how_in a x (Fixed n) fv e = record { value = how.Fixed; tail = []; fits = tt; is = ap (λ (z : List (List ℕ)). drop 2 z) e }
how_in a x (Depth n d) fv e = record { value = how.Depth d; tail = []; fits = fv.1; is = ap (λ (z : List (List ℕ)). drop 2 z) e }
how_in a x End fv e = cc

pub how_onto : (n : ℕ) → n ≤ 9223372036854775807 → (h : How) → IsHow h
    → IsSection (section_of n h) × (codes "pair" ∷ (decimal n ∷ (how_words h ++ [])) ≡ section_words (section_of n h))
how_onto n within how.Single fits = (omega arith, refl)
how_onto n within how.Fixed fits = (omega arith, refl)
how_onto n within (how.Depth d) fits = ((omega arith, fits), refl)

how_end : (h g : How) (x : List (List ℕ)) → how_words h ++ x ≡ how_words g → x ≡ []
how_end how.Single how.Single x e = ap (λ (z : List (List ℕ)). drop 1 z) e
how_end how.Single how.Fixed x e = absurd (clash 102 115 (omega arith) (sym (ap (λ (z : List (List ℕ)). first_byte z) e)))
how_end how.Single (how.Depth d) x e = absurd (clash 100 115 (omega arith) (sym (ap (λ (z : List (List ℕ)). first_byte z) e)))
how_end how.Fixed how.Single x e = absurd (clash 102 115 (omega arith) (ap (λ (z : List (List ℕ)). first_byte z) e))
how_end how.Fixed how.Fixed x e = ap (λ (z : List (List ℕ)). drop 1 z) e
how_end how.Fixed (how.Depth d) x e = absurd (clash 100 102 (omega arith) (sym (ap (λ (z : List (List ℕ)). first_byte z) e)))
how_end (how.Depth c) how.Single x e = cc
how_end (how.Depth c) how.Fixed x e = cc
how_end (how.Depth c) (how.Depth d) x e = ap (λ (z : List (List ℕ)). drop 2 z) e

pub pair_end : (a : List ℕ) (h : How) (x : List (List ℕ)) (v : Section) → IsSection v → codes "pair" ∷ (a ∷ (how_words h ++ x)) ≡ section_words v → x ≡ []
pair_end a h x (Single n) fv e = how_end h how.Single x (ap (λ (z : List (List ℕ)). drop 2 z) e)
pair_end a h x (Fixed n) fv e = how_end h how.Fixed x (ap (λ (z : List (List ℕ)). drop 2 z) e)
pair_end a h x (Depth n d) fv e = how_end h (how.Depth d) x (ap (λ (z : List (List ℕ)). drop 2 z) e)
pair_end a h x End fv e = cc

-- steps
abbrev pub to_hints : List ℕ → List (List ℕ)
to_hints lits = codes "s" ∷ row lit_word lits

after_lits : (lits : List ℕ) (x : List (List ℕ)) → to_hints lits ++ x ≡ codes "s" ∷ (map lit_word lits ++ zero_word ∷ x)
after_lits lits x = ap (λ (y : List (List ℕ)). codes "s" ∷ y) (append_assoc (map lit_word lits) (zero_word ∷ []) x)

pub lits_in : (x : List (List ℕ)) (v : DerivStep) → IsStep v → codes "s" ∷ x ≡ step_words v → HasPart (Chain IsLitAbove lit_var 0) (row lit_word) x
lits_in x v fv e = record {
  value = v.clause;
  tail = row decimal v.hints;
  fits = fv.lits;
  is = ap (λ (z : List (List ℕ)). drop 1 z) e ∙ sym (append_assoc (map lit_word v.clause) (zero_word ∷ []) (row decimal v.hints));
}

pub lits_onto : (lits : List ℕ) → Chain IsLitAbove lit_var 0 lits → HasWords IsStep step_words (to_hints lits ++ zero_word ∷ [])
lits_onto lits fit = (record { clause = lits; hints = [] }, record { lits = fit; hints = tt }, after_lits lits (zero_word ∷ []))

pub hints_in : (lits : List ℕ) → Chain IsLitAbove lit_var 0 lits → (x : List (List ℕ)) (v : DerivStep) → IsStep v
    → to_hints lits ++ x ≡ step_words v → HasPart (Chain IsHint (λ h. h) 0) (row decimal) x
hints_in lits fit x v fv e = record {
  value = v.hints;
  tail = [];
  fits = fv.hints;
  is = (step_tail lits x v fit fv (sym (after_lits lits x) ∙ e)).1 ∙ sym (append-nil (row decimal v.hints));
}

pub hints_onto : (lits : List ℕ) → Chain IsLitAbove lit_var 0 lits → (hints : List ℕ) → Chain IsHint (λ h. h) 0 hints
    → HasWords IsStep step_words (to_hints lits ++ (row decimal hints ++ []))
hints_onto lits fit hints fits = (
  record { clause = lits; hints = hints },
  record { lits = fit; hints = fits },
  ap (λ (y : List (List ℕ)). to_hints lits ++ y) (append-nil (row decimal hints)) ∙ after_lits lits (row decimal hints),
)

abbrev pub to_end : List ℕ → List ℕ → List (List ℕ)
to_end lits hints = to_hints lits ++ row decimal hints

after_hints : (lits hints : List ℕ) (x : List (List ℕ))
    → to_end lits hints ++ x ≡ codes "s" ∷ (map lit_word lits ++ zero_word ∷ (map decimal hints ++ zero_word ∷ x))
after_hints lits hints x =
    append_assoc (to_hints lits) (map decimal hints ++ zero_word ∷ []) x ∙ after_lits lits ((map decimal hints ++ zero_word ∷ []) ++ x)
    ∙ ap (λ (y : List (List ℕ)). codes "s" ∷ (map lit_word lits ++ zero_word ∷ y)) (append_assoc (map decimal hints) (zero_word ∷ []) x)

pub step_end : (lits hints : List ℕ) → Chain IsLitAbove lit_var 0 lits → Chain IsHint (λ h. h) 0 hints → (x : List (List ℕ)) (v : DerivStep)
    → IsStep v → to_end lits hints ++ x ≡ step_words v → x ≡ []
step_end lits hints lf hf x v fv e =
    let (same, rest) = step_tail lits (map decimal hints ++ zero_word ∷ x) v lf fv (sym (after_hints lits hints x) ∙ e) in
    (row_same decimal IsHint (λ h. h) hints_tell 0 0 hints v.hints x [] hf fv.hints rest).1

pub step_is : (lits hints : List ℕ) → to_end lits hints ++ [] ≡ step_words (record { clause = lits; hints = hints })
step_is lits hints = after_hints lits hints []
