-- Words that give values to names.
use Rattle.std.proofs.Common.{◌≡◌, ℕ, ◌+◌, ◌-◌, ◌<◌, Bool, true, false, List, [], ◌∷◌, ◌++◌, length, take, drop, get_or, filter, refl, ap, ap₂, sym, subst, ◌∙◌, arith}
use Rattle.std.proofs.Common.{cond, length-append}
use Rattle.std.specs.Prelude.{not, ◌==◌}
use Rattle.std.proofs.lemmas.Bool.{ne_eqb}
use Rattle.std.proofs.lemmas.List.{take-append-drop, drop_more, drop_all, get_or_at, get_or-append-add, length-take-le}
use Rattle.std.proofs.lemmas.List.Elements.{filter-append, Contains-append_left, Contains-append_right}
use Rattle.sdcv_base.specs.declared.settings.Setting.{Setting}
use Rattle.assist_text.specs.Lines.{is_word, digit}
use Rattle.assist_text.specs.Clauses.{IsWordOf, IsSaid, AreSaid}
use Rattle.assist_text.specs.Causes.{IsWordCause}
use Rattle.assist_types.specs.declared.faults.AssistFault.{AssistFault}
use Rattle.assist_types.specs.declared.faults.AssistFault.TheVariants as fault
use Rattle.assist_text.proofs.Zips.{zip_push}

-- a word that ends in `=` and a digit gives that digit's value to what stands before
pub word_from_end : (w : List ℕ) (n : ℕ) (value : Bool) → n + 2 ≡ length w → 0 < n → get_or w n 0 ≡ 61 → get_or w (n + 1) 0 ≡ digit value
    → IsWordOf (take n w) value w
word_from_end w n value long some mark last =
    let two : n + 1 + 1 ≡ length w = omega arith in
    let end : drop n w ≡ 61 ∷ digit value ∷ [] =
    drop_more w n 0 (omega arith)
    ∙ ap₂ (λ (a : ℕ) (t : List ℕ). a ∷ t) mark (drop_more w (n + 1) 0 (omega arith) ∙ ap₂ (λ (a : ℕ) (t : List ℕ). a ∷ t) last (drop_all (n + 1 + 1) w (omega arith))) in
    (omega (arith, length-take-le n w (omega arith)), sym (take-append-drop n w) ∙ ap (λ (t : List ℕ). take n w ++ t) end)

-- a word is as long as its name and two bytes
pub word_long : (w name : List ℕ) (value : Bool) → IsWordOf name value w → (length name + 2 ≡ length w) × (0 < length name)
word_long w name value is = (omega (arith, ap length is.1 ∙ length-append name (61 ∷ digit value ∷ [])), is.0)

-- and ends in `=` and the digit
pub word_mark : (w name : List ℕ) (value : Bool) → IsWordOf name value w → get_or w (length w - 2) 0 ≡ 61
word_mark w name value is =
    let long = (word_long w name value is).0 in
    let n : length name ≡ length w - 2 = omega arith in
    ap (λ (t : List ℕ). get_or t (length w - 2) 0) is.1 ∙ get_or_at name 61 (digit value ∷ []) 0 (length w - 2) n

pub word_digit : (w name : List ℕ) (value : Bool) → IsWordOf name value w → get_or w (length w - 1) 0 ≡ digit value
word_digit w name value is =
    let long = (word_long w name value is).0 in
    let n : length w - 1 ≡ length name + 1 = omega arith in
    ap₂ (λ (t : List ℕ) (k : ℕ). get_or t k 0) is.1 n ∙ get_or-append-add name (61 ∷ digit value ∷ []) 1 0

-- a digit has one value
pub one_digit : (a b : Bool) → digit a ≡ digit b → a ≡ b
one_digit true true e = refl
one_digit true false e = absurd (omega (arith, e))
one_digit false true e = absurd (omega (arith, e))
one_digit false false e = refl

-- what is not empty has a byte
pub some_length : (part : List ℕ) (empty : Bool) → empty ≡ (length part == 0) → empty ≡ false → 0 < length part
some_length [] empty is other = (let bad : true ≡ false = sym is ∙ other in absurd (cc))
some_length (b ∷ part) empty is other = omega arith

-- a part of a line that is no word adds none, and any other adds itself
pub no_part : (part : List ℕ) → part ≡ [] → filter is_word (part ∷ []) ≡ []
no_part part none = ap (λ (p : List ℕ). filter is_word (p ∷ [])) none

pub one_part : (part : List ℕ) → 0 < length part → filter is_word (part ∷ []) ≡ part ∷ []
one_part [] some = absurd (omega arith)
one_part (b ∷ part) some = ap (λ (t : Bool). cond (not t) ((b ∷ part) ∷ []) []) (ne_eqb (length (b ∷ part)) 0 (λ e. omega arith))

-- the words of parts and of one more
pub more_parts : (parts : List (List ℕ)) (part : List ℕ) → filter is_word (parts ++ part ∷ []) ≡ filter is_word parts ++ filter is_word (part ∷ [])
more_parts parts part = filter-append is_word parts (part ∷ [])

-- settings with one that a word says
pub said_more : (words : List (List ℕ)) (lits : List Setting) (part name : List ℕ) (value : Bool) → AreSaid words lits → 0 < length part → IsWordOf name value part
    → AreSaid (words ++ filter is_word (part ∷ [])) (lits ++ record { name = name; value = value } ∷ [])
said_more words lits part name value all some is =
    subst (λ (ws : List (List ℕ)). AreSaid (words ++ ws) (lits ++ record { name = name; value = value } ∷ [])) (sym (one_part part some))
    (zip_push IsSaid words lits part (record { name = name; value = value }) all is)

-- what is wrong with one of these words is wrong among all
pub cause_among : (line : ℕ) (front some back : List (List ℕ)) (e : AssistFault) → IsWordCause line some e → IsWordCause line (front ++ (some ++ back)) e
cause_among line front some back (fault.Syntax number) why =
    (why.0, (why.1.0, Contains-append_right front (some ++ back) why.1.0 (Contains-append_left some back why.1.0 why.1.1), why.1.2))
cause_among line front some back (fault.Twice number name) why = absurd why
cause_among line front some back (fault.Many number) why = absurd why
cause_among line front some back fault.Memory why = tt
cause_among line front some back (fault.UnknownRegister number name) why = absurd why

-- so with one part of a line among its parts
pub cause_in : (line : ℕ) (parts : List (List ℕ)) (k : ℕ) (part : List ℕ) (e : AssistFault) → k < length parts → part ≡ get_or parts k part
    → IsWordCause line (filter is_word (part ∷ [])) e → IsWordCause line (filter is_word parts) e
cause_in line parts k part e low at why =
    let rest : drop k parts ≡ part ∷ drop (k + 1) parts = drop_more parts k part low ∙ ap (λ (p : List ℕ). p ∷ drop (k + 1) parts) (sym at) in
    let whole : take k parts ++ ((part ∷ []) ++ drop (k + 1) parts) ≡ parts =
    ap (λ (ps : List (List ℕ)). take k parts ++ ps) (sym rest) ∙ take-append-drop k parts in
    let words : filter is_word (take k parts) ++ (filter is_word (part ∷ []) ++ filter is_word (drop (k + 1) parts)) ≡ filter is_word parts =
    ap (λ (ws : List (List ℕ)). filter is_word (take k parts) ++ ws) (sym (filter-append is_word (part ∷ []) (drop (k + 1) parts)))
    ∙ (sym (filter-append is_word (take k parts) ((part ∷ []) ++ drop (k + 1) parts)) ∙ ap (filter is_word) whole) in
    subst (λ (ws : List (List ℕ)). IsWordCause line ws e) words
    (cause_among line (filter is_word (take k parts)) (filter is_word (part ∷ [])) (filter is_word (drop (k + 1) parts)) e why)
