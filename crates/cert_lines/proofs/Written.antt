-- Lines, as they are written.
use Rattle.std.proofs.Common.{true, ◌≡◌, ℕ, ◌<◌, List, [], ◌∷◌, ◌++◌, map, length, refl, sym, ap, ◌∙◌, append_assoc, append-nil, ◌+◌, ◌^◌, arith}
use Rattle.std.proofs.lemmas.List.Elements.{All-nil, All-cons}
use Rattle.std.specs.Prelude.{codes, All}
use Rattle.std.specs.Fmt.{decimal}
use Rattle.proof_log.specs.declared.derivations.DerivStep.{DerivStep}
use Rattle.cert_words.specs.Words.{spaced, tailed}
use Rattle.cert_words.specs.Numbers.{zero_word, lit_word, IsLitAbove}
use Rattle.cert_words.specs.Growth.{Chain}
use Rattle.proof_log.specs.Literals.{lit_var}
use Rattle.cert_words.proofs.LineLemmas.{first_spaced, one_spaced, spaced-tailed}
use Rattle.net_model.specs.declared.invariants.StateLit.{StateLit}
use Rattle.net_model.specs.declared.invariants.InvClause.{InvClause}
use Rattle.net_model.specs.declared.queries.Phase.{Phase}
use Rattle.cert_lines.specs.declared.heads.InvHead.{InvHead}
use Rattle.cert_lines.proofs.KindLemmas.{literal_var}
use Rattle.cert_lines.specs.declared.sections.Section.TheVariants.{Single, Fixed, Depth, End}
use Rattle.cert_lines.specs.Kinds.{text_of, first_words, inv_words, state_literal, state_word, led, kept_words, IsKept, phase_word}
use Rattle.cert_lines.specs.Kinds.{head_words, section_words, step_words}

pub spaced_two : (a b : List ℕ) → spaced (a ∷ (b ∷ [])) ≡ a ++ 32 ∷ b
spaced_two a b = first_spaced a (b ∷ []) (omega arith) ∙ ap (λ y. a ++ 32 ∷ y) (one_spaced b)

pub spaced_three : (a b c : List ℕ) → spaced (a ∷ (b ∷ (c ∷ []))) ≡ a ++ 32 ∷ (b ++ 32 ∷ c)
spaced_three a b c = first_spaced a (b ∷ (c ∷ [])) (omega arith) ∙ ap (λ y. a ++ 32 ∷ y) (spaced_two b c)

pub spaced_four : (a b c d : List ℕ) → spaced (a ∷ (b ∷ (c ∷ (d ∷ [])))) ≡ a ++ 32 ∷ (b ++ 32 ∷ (c ++ 32 ∷ d))
spaced_four a b c d = first_spaced a (b ∷ (c ∷ (d ∷ []))) (omega arith) ∙ ap (λ y. a ++ 32 ∷ y) (spaced_three b c d)

pub spaced-led : (w : List ℕ) (ws : List (List ℕ)) → spaced (w ∷ ws) ≡ w ++ led ws
spaced-led w [] = one_spaced w ∙ sym (append-nil w)
spaced-led w (v ∷ ws) = first_spaced w (v ∷ ws) (omega arith) ∙ ap (λ y. w ++ 32 ∷ y) (spaced-led v ws)

nonempty : (a y : List (List ℕ)) → 0 < length (a ++ zero_word ∷ y)
nonempty [] y = omega arith
nonempty (x ∷ a) y = omega arith

step_written : (s : DerivStep)
    → spaced (step_words s) ≡ codes "s " ++ (tailed (map lit_word s.clause) ++ (codes "0 " ++ (tailed (map decimal s.hints) ++ codes "0")))
step_written s =
    let hints : spaced (map decimal s.hints ++ zero_word ∷ []) ≡ tailed (map decimal s.hints) ++ codes "0" =
    spaced-tailed (map decimal s.hints) (zero_word ∷ []) (omega arith) ∙ ap (λ y. tailed (map decimal s.hints) ++ y) (one_spaced zero_word) in
    let tail : List (List ℕ) = map decimal s.hints ++ zero_word ∷ [] in
    let zero : spaced (zero_word ∷ tail) ≡ codes "0 " ++ spaced tail = first_spaced zero_word tail (nonempty (map decimal s.hints) []) in
    let lits : spaced (map lit_word s.clause ++ zero_word ∷ tail) ≡ tailed (map lit_word s.clause) ++ spaced (zero_word ∷ tail) =
    spaced-tailed (map lit_word s.clause) (zero_word ∷ tail) (omega arith) in
    first_spaced (codes "s") (map lit_word s.clause ++ zero_word ∷ tail) (nonempty (map lit_word s.clause) tail)
    ∙ ap (λ y. codes "s " ++ y) (lits ∙ ap (λ y. tailed (map lit_word s.clause) ++ y) (zero ∙ ap (λ y. codes "0 " ++ y) hints))

-- the pieces that are written, one after another
pub written_line : (s : DerivStep) (out a b c d new : List ℕ) → a ≡ out ++ codes "s " → b ≡ a ++ tailed (map lit_word s.clause)
    → c ≡ b ++ codes "0 " → d ≡ c ++ tailed (map decimal s.hints) → new ≡ d ++ 48 ∷ 10 ∷ [] → new ≡ out ++ text_of step_words s
written_line s out a b c d new ea eb ec ed e =
    rw (e, ed, ec, eb, ea, step_written s) (simp append_assoc)

pub first_line : (version : ℕ) (out a new : List ℕ) → a ≡ out ++ codes "sdcv-cert" → new ≡ a ++ 32 ∷ (decimal version ++ 10 ∷ [])
    → new ≡ out ++ text_of first_words version
first_line version out a new ea e = rw (e, ea, spaced_two (codes "sdcv-cert") (decimal version)) (simp append_assoc)

pub inv_line : (head : InvHead) (out a b new : List ℕ) → a ≡ out ++ codes "inv " → b ≡ a ++ decimal head.depth
    → new ≡ b ++ 32 ∷ (decimal head.count ++ 10 ∷ []) → new ≡ out ++ text_of inv_words head
inv_line head out a b new ea eb e = rw (e, eb, ea, spaced_three (codes "inv") (decimal head.depth) (decimal head.count)) (simp append_assoc)

pub head_line : (phase : Phase) (count : ℕ) (out a new : List ℕ) → a ≡ out ++ phase_word phase → new ≡ a ++ 32 ∷ (decimal count ++ 10 ∷ [])
    → new ≡ out ++ text_of (head_words phase) count
head_line phase count out a new ea e = rw (e, ea, spaced_two (phase_word phase) (decimal count)) (simp append_assoc)

pub single_line : (number : ℕ) (out a new : List ℕ) → a ≡ out ++ 112 ∷ (97 ∷ (105 ∷ (114 ∷ (32 ∷ decimal number)))) → new ≡ a ++ codes " single\n"
    → new ≡ out ++ text_of section_words (Single number)
single_line number out a new ea e = rw (e, ea, spaced_three (codes "pair") (decimal number) (codes "single")) (simp append_assoc)

pub fixed_line : (number : ℕ) (out a new : List ℕ) → a ≡ out ++ 112 ∷ (97 ∷ (105 ∷ (114 ∷ (32 ∷ decimal number)))) → new ≡ a ++ codes " fixed\n"
    → new ≡ out ++ text_of section_words (Fixed number)
fixed_line number out a new ea e = rw (e, ea, spaced_three (codes "pair") (decimal number) (codes "fixed")) (simp append_assoc)

pub depth_line : (number depth : ℕ) (out a b new : List ℕ) → a ≡ out ++ 112 ∷ (97 ∷ (105 ∷ (114 ∷ (32 ∷ decimal number))))
    → b ≡ a ++ codes " depth" → new ≡ b ++ 32 ∷ (decimal depth ++ 10 ∷ []) → new ≡ out ++ text_of section_words (Depth number depth)
depth_line number depth out a b new ea eb e = rw (e, eb, ea, spaced_four (codes "pair") (decimal number) (codes "depth") (decimal depth)) (simp append_assoc)

pub end_line : (out new : List ℕ) → new ≡ out ++ codes "end\n" → new ≡ out ++ text_of section_words End
end_line out new e = rw (e, one_spaced (codes "end")) refl

pub kept_line : (clause : InvClause) (out a b new : List ℕ) → a ≡ out ++ 107 ∷ [] → b ≡ a ++ led (map state_word clause.lits) → new ≡ b ++ 10 ∷ []
    → new ≡ out ++ text_of kept_words clause
kept_line clause out a b new ea eb e = rw (e, eb, ea, spaced-led (codes "k") (map state_word clause.lits)) (simp append_assoc)

abbrev small : StateLit → Type 0
small l = l.reg + 1 < 2 ^ 31

states_small : (above : ℕ) (ls : List StateLit) → Chain IsLitAbove lit_var above (map state_literal ls) → All small ls
states_small above [] fits = All-nil small
states_small above (l ∷ ls) fits =
    let var = literal_var (l.reg + 1) l.value in
    let few = fits.0.few in
    All-cons small l ls (omega arith) (states_small (lit_var (state_literal l)) ls fits.1)

pub kept_small : (clause : InvClause) → IsKept true clause → All (λ l. l.reg + 1 < 2 ^ 31) clause.lits
kept_small clause fits = states_small 0 clause.lits fits.ascend
