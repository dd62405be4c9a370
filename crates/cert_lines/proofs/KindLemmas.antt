-- Each kind of line: its words have no space or newline, and they tell its value.
use Rattle.std.proofs.Common.{append-nil, ◌≡◌, ℕ, ◌+◌, ◌*◌, ◌<◌, ◌^◌, Bool, true, false, List, [], ◌∷◌, ◌++◌, map, length, get_or, refl, sym, ap, ◌∙◌, arith}
use Rattle.std.specs.Prelude.{codes}
use Rattle.std.specs.List.{list_all}
use Rattle.std.specs.Fmt.{decimal}
use Rattle.std.proofs.lemmas.Fmt.{decimal_injective}
use Rattle.std.proofs.lemmas.Simd.{map-map}
use Rattle.proof_log.specs.Literals.{literal, lit_var}
use Rattle.proof_log.specs.declared.derivations.DerivStep.{DerivStep}
use Rattle.net_model.specs.declared.invariants.StateLit.{StateLit}
use Rattle.net_model.specs.declared.invariants.InvClause.{InvClause}
use Rattle.net_model.specs.declared.queries.Phase.{Phase}
use Rattle.net_model.specs.declared.queries.Phase.TheVariants.{Base, Step}
use Rattle.cert_words.specs.Numbers.{zero_word, lit_word, IsLitAbove, IsHint}
use Rattle.cert_words.specs.Growth.{Chain}
use Rattle.cert_words.proofs.Tokens.{is_token, number_token, lit_token, hint_token, row_tokens}
use Rattle.cert_words.proofs.Literals.{lits_tell, hints_tell}
use Rattle.cert_words.proofs.RowLemmas.{row_same}
use Rattle.cert_words.proofs.LineLemmas.{IsKind}
use Rattle.cert_lines.specs.declared.heads.InvHead.{InvHead}
use Rattle.cert_lines.specs.declared.sections.Section.{Section}
use Rattle.cert_lines.specs.declared.sections.Section.TheVariants.{Single, Fixed, Depth, End}
use Rattle.cert_lines.specs.Kinds.{first_words, IsVersion, inv_words, IsInvHead, state_literal, state_word, kept_words, IsKept, phase_word}
use Rattle.cert_lines.specs.Kinds.{head_words, IsCount, section_words, IsSection, step_words, IsStep}

-- a version is a small number
pub version_small : (version : ℕ) → IsVersion version → version < 2 ^ 63
version_small version (some, few) = omega arith

version_told : (v u : ℕ) → IsVersion v → IsVersion u → first_words v ≡ first_words u → v ≡ u
version_told v u fv fu e =
    let same : decimal v ≡ decimal u = cc in
    let few = version_small v fv in
    let small = version_small u fu in
    decimal_injective v u (omega arith) (omega arith) same

pub first_kind : IsKind IsVersion first_words
first_kind = record {
  plain = λ v fits. let few = version_small v fits in rw (number_token v (omega arith)) refl;
  some = λ v. omega arith;
  told = version_told;
}

abbrev head_of : ℕ → ℕ → InvHead
head_of depth count = record { depth = depth; count = count }

two_same : (a b c d : ℕ) → a ≡ b → c ≡ d → head_of a c ≡ head_of b d
two_same a b c d e f = cc

inv_told : (v u : InvHead) → IsInvHead v → IsInvHead u → inv_words v ≡ inv_words u → v ≡ u
inv_told v u fv fu e =
    let deep : decimal v.depth ≡ decimal u.depth = cc in
    let many : decimal v.count ≡ decimal u.count = cc in
    let same_depth = decimal_injective v.depth u.depth (omega (arith, fv.deep)) (omega (arith, fu.deep)) deep in
    let same_count = decimal_injective v.count u.count (omega (arith, fv.small)) (omega (arith, fu.small)) many in
    two_same v.depth u.depth v.count u.count same_depth same_count

pub inv_kind : IsKind IsInvHead inv_words
inv_kind = record {
  plain = λ v fits. rw (number_token v.depth (omega (arith, fits.deep)), number_token v.count (omega (arith, fits.small))) refl;
  some = λ v. omega arith;
  told = inv_told;
}

phase_token : (phase : Phase) → is_token (phase_word phase) ≡ true
phase_token Base = refl
phase_token Step = refl

head_told : (phase : Phase) (v u : ℕ) → IsCount v → IsCount u → head_words phase v ≡ head_words phase u → v ≡ u
head_told phase v u fv fu e = let same : decimal v ≡ decimal u = cc in decimal_injective v u (omega arith) (omega arith) same

pub head_kind : (phase : Phase) → IsKind IsCount (head_words phase)
head_kind phase = record {
  plain = λ v fits. rw (phase_token phase, number_token v (omega arith)) refl;
  some = λ v. omega arith;
  told = head_told phase;
}

-- literals of registers
pub literal_var : (var : ℕ) (positive : Bool) → lit_var (literal var positive) ≡ var
literal_var var true = omega arith
literal_var var false = omega arith

pub state_fits : (above reg : ℕ) (value : Bool) → above < reg + 1 → reg + 1 < 2 ^ 31 → IsLitAbove above (literal (reg + 1) value)
state_fits above reg true a f = let d : lit_var (2 * (reg + 1)) ≡ reg + 1 = omega arith in record { above_it = omega arith; few = omega arith }
state_fits above reg false a f = let d : lit_var (2 * (reg + 1) + 1) ≡ reg + 1 = omega arith in record { above_it = omega arith; few = omega arith }

literal_told : (r s : ℕ) (v w : Bool) → literal (r + 1) v ≡ literal (s + 1) w → (r ≡ s) × (v ≡ w)
literal_told r s true true e = (omega arith, refl)
literal_told r s true false e = absurd (omega arith)
literal_told r s false true e = absurd (omega arith)
literal_told r s false false e = (omega arith, refl)

state_same : (l m : StateLit) → state_literal l ≡ state_literal m → l ≡ m
state_same l m e =
    let (reg, value) = literal_told l.reg m.reg l.value m.value e in
    ap (λ (n : ℕ). record { reg = n; value = l.value }) reg ∙ ap (λ (b : Bool). record { reg = m.reg; value = b }) value

states_same : (xs ys : List StateLit) → map state_literal xs ≡ map state_literal ys → xs ≡ ys
states_same [] [] e = refl
states_same [] (y ∷ ys) e = cc
states_same (x ∷ xs) [] e = cc
states_same (x ∷ xs) (y ∷ ys) e =
    let first : state_literal x ≡ state_literal y = cc in
    let others : map state_literal xs ≡ map state_literal ys = cc in
    let here = state_same x y first in
    let there = states_same xs ys others in
    cc

-- the words of a clause are those of its literals
pub words_of_lits : (ls : List StateLit) → map state_word ls ≡ map lit_word (map state_literal ls)
words_of_lits ls = sym (map-map lit_word state_literal ls)

kept_plain : (ls : List StateLit) → Chain IsLitAbove lit_var 0 (map state_literal ls) → list_all is_token (map state_word ls) ≡ true
kept_plain ls fits =
    ap (λ (z : List (List ℕ)). list_all is_token z) (words_of_lits ls ∙ sym (append-nil (map lit_word (map state_literal ls))))
    ∙ row_tokens lit_word IsLitAbove lit_var lit_token 0 (map state_literal ls) [] fits refl

kept_told : (long : Bool) (v u : InvClause) → IsKept long v → IsKept long u → kept_words v ≡ kept_words u → v ≡ u
kept_told long v u fv fu e =
    let words : map state_word v.lits ≡ map state_word u.lits = cc in
    let row : map lit_word (map state_literal v.lits) ++ zero_word ∷ [] ≡ map lit_word (map state_literal u.lits) ++ zero_word ∷ [] =
    ap (λ (z : List (List ℕ)). z ++ zero_word ∷ []) (sym (words_of_lits v.lits) ∙ words ∙ words_of_lits u.lits) in
    let (same, none) =
    row_same lit_word IsLitAbove lit_var lits_tell 0 0 (map state_literal v.lits) (map state_literal u.lits) [] [] fv.ascend fu.ascend row in
    ap (λ (z : List StateLit). record { lits = z }) (states_same v.lits u.lits same)

pub kept_kind : (long : Bool) → IsKind (IsKept long) kept_words
kept_kind long = record {
  plain = λ v fits. rw (kept_plain v.lits fits.ascend) refl;
  some = λ v. omega arith;
  told = kept_told long;
}

section_plain : (v : Section) → IsSection v → list_all is_token (section_words v) ≡ true
section_plain (Single number) fits = rw (number_token number (omega arith)) refl
section_plain (Fixed number) fits = rw (number_token number (omega arith)) refl
section_plain (Depth number depth) fits = let (few, low) = fits in rw (number_token number (omega arith), number_token depth (omega arith)) refl
section_plain End fits = refl

section_some : (v : Section) → 0 < length (section_words v)
section_some (Single number) = omega arith
section_some (Fixed number) = omega arith
section_some (Depth number depth) = omega arith
section_some End = omega arith

-- the first byte of a word, by its place
abbrev byte_of : ℕ → List (List ℕ) → ℕ
byte_of place ws = get_or (get_or ws place []) 0 0

-- a smaller number is no greater one
pub clash : (x y : ℕ) → x < y → x ≡ y → ⊥
clash x y less e = omega arith

pub section_told : (v u : Section) → IsSection v → IsSection u → section_words v ≡ section_words u → v ≡ u
section_told (Single n) (Single m) fv fu e = let same : decimal n ≡ decimal m = cc in ap Single (decimal_injective n m (omega arith) (omega arith) same)
section_told (Single n) (Fixed m) fv fu e = absurd (clash 102 115 (omega arith) (sym (ap (λ (ws : List (List ℕ)). byte_of 2 ws) e)))
section_told (Single n) (Depth m d) fv fu e = absurd (clash 100 115 (omega arith) (sym (ap (λ (ws : List (List ℕ)). byte_of 2 ws) e)))
section_told (Single n) End fv fu e = cc
section_told (Fixed n) (Single m) fv fu e = absurd (clash 102 115 (omega arith) (ap (λ (ws : List (List ℕ)). byte_of 2 ws) e))
section_told (Fixed n) (Fixed m) fv fu e = let same : decimal n ≡ decimal m = cc in ap Fixed (decimal_injective n m (omega arith) (omega arith) same)
section_told (Fixed n) (Depth m d) fv fu e = absurd (clash 100 102 (omega arith) (sym (ap (λ (ws : List (List ℕ)). byte_of 2 ws) e)))
section_told (Fixed n) End fv fu e = cc
section_told (Depth n c) (Single m) fv fu e = absurd (clash 100 115 (omega arith) (ap (λ (ws : List (List ℕ)). byte_of 2 ws) e))
section_told (Depth n c) (Fixed m) fv fu e = absurd (clash 100 102 (omega arith) (ap (λ (ws : List (List ℕ)). byte_of 2 ws) e))
section_told (Depth n c) (Depth m d) fv fu e =
    let (few, low) = fv in
    let (few2, low2) = fu in
    let numbers : decimal n ≡ decimal m = cc in
    let depths : decimal c ≡ decimal d = cc in
    let number = decimal_injective n m (omega arith) (omega arith) numbers in
    let depth = decimal_injective c d (omega arith) (omega arith) depths in
    cc
section_told (Depth n c) End fv fu e = cc
section_told End (Single m) fv fu e = cc
section_told End (Fixed m) fv fu e = cc
section_told End (Depth m d) fv fu e = cc
section_told End End fv fu e = refl

pub section_kind : IsKind IsSection section_words
section_kind = record { plain = section_plain; some = section_some; told = section_told }

-- the literals of a step, and what comes after them
pub step_tail : (lits : List ℕ) (x : List (List ℕ)) (s : DerivStep) → Chain IsLitAbove lit_var 0 lits → IsStep s
    → codes "s" ∷ (map lit_word lits ++ zero_word ∷ x) ≡ step_words s → (lits ≡ s.clause) × (x ≡ map decimal s.hints ++ zero_word ∷ [])
step_tail lits x s fit fits e =
    let rest : map lit_word lits ++ zero_word ∷ x ≡ map lit_word s.clause ++ zero_word ∷ (map decimal s.hints ++ zero_word ∷ []) = cc in
    row_same lit_word IsLitAbove lit_var lits_tell 0 0 lits s.clause x (map decimal s.hints ++ zero_word ∷ []) fit fits.lits rest

step_told : (v u : DerivStep) → IsStep v → IsStep u → step_words v ≡ step_words u → v ≡ u
step_told v u fv fu e =
    let (lits, rest) = step_tail v.clause (map decimal v.hints ++ zero_word ∷ []) u fv.lits fu e in
    let (hints, none) = row_same decimal IsHint (λ h. h) hints_tell 0 0 v.hints u.hints [] [] fv.hints fu.hints rest in
    ap (λ (z : List ℕ). record { clause = z; hints = v.hints }) lits ∙ ap (λ (z : List ℕ). record { clause = u.clause; hints = z }) hints

step_plain : (s : DerivStep) → IsStep s → list_all is_token (step_words s) ≡ true
step_plain s fits =
    let hints = row_tokens decimal IsHint (λ h. h) hint_token 0 s.hints (zero_word ∷ []) fits.hints refl in
    rw (row_tokens lit_word IsLitAbove lit_var lit_token 0 s.clause (zero_word ∷ (map decimal s.hints ++ zero_word ∷ [])) fits.lits hints) refl

pub step_kind : IsKind IsStep step_words
step_kind = record { plain = step_plain; some = λ v. omega arith; told = step_told }
