-- The kinds of lines of a certificate: the words of each value, and which values fit.
use Rattle.std.specs.Prelude.{◌≡◌, ℕ, ◌+◌, ◌<◌, ◌≤◌, ◌^◌, ◌==◌, Bool, false, List, [], ◌∷◌, ◌++◌, length, map, flat_map, codes}
use Rattle.std.specs.Fmt.{decimal}
use Rattle.proof_log.specs.Literals.{literal, lit_var}
use Rattle.proof_log.specs.declared.derivations.DerivStep.{DerivStep}
use Rattle.net_model.specs.declared.invariants.StateLit.{StateLit}
use Rattle.net_model.specs.declared.invariants.InvClause.{InvClause}
use Rattle.net_model.specs.declared.queries.Phase.{Phase}
use Rattle.net_model.specs.declared.queries.Phase.TheVariants.{Base, Step}
use Rattle.cert_words.specs.Words.{spaced}
use Rattle.cert_words.specs.Numbers.{zero_word, lit_word, IsLitAbove, IsHint}
use Rattle.cert_words.specs.Growth.{Chain}
use Rattle.cert_lines.specs.declared.heads.InvHead.{InvHead}
use Rattle.cert_lines.specs.declared.sections.Section.{Section}
use Rattle.cert_lines.specs.declared.sections.Section.TheVariants.{Single, Fixed, Depth, End}

-- a line of a kind, and its newline
abbrev pub text_of : {V : Type 0} → (V → List (List ℕ)) → V → List ℕ
text_of {V} ws v = spaced (ws v) ++ 10 ∷ []

-- the first line: `sdcv-cert`, and the version
abbrev pub first_words : ℕ → List (List ℕ)
first_words version = codes "sdcv-cert" ∷ (decimal version ∷ [])

-- there are three versions
abbrev pub IsVersion : ℕ → Type 0
IsVersion version = (1 ≤ version) × (version ≤ 3)

-- in the third one clauses may be long
abbrev pub is_long : ℕ → Bool
is_long version = version == 3

-- `inv`, the depth, and how many clauses are kept
abbrev pub inv_words : InvHead → List (List ℕ)
inv_words head = codes "inv" ∷ (decimal head.depth ∷ (decimal head.count ∷ []))

-- the depth is at most 8; at depth 0 nothing is kept
pub record IsInvHead (head : InvHead) : Type 0 where
  pub deep : head.depth ≤ 8
  pub none : head.depth ≡ 0 → head.count ≡ 0
  pub small : head.count < 2 ^ 63

-- the literal of a register's number, from 1
abbrev pub state_literal : StateLit → ℕ
state_literal l = literal (l.reg + 1) l.value

-- that number, after a `-` where the value is 0
abbrev pub state_word : StateLit → List ℕ
state_word l = lit_word (state_literal l)

-- words with a space before each
abbrev pub led : List (List ℕ) → List ℕ
led ws = flat_map (λ w. 32 ∷ w) ws

-- `k`, and the literals
abbrev pub kept_words : InvClause → List (List ℕ)
kept_words clause = codes "k" ∷ map state_word clause.lits

-- a literal at least, of ascending registers; at most two, where clauses may not be long
pub record IsKept (long : Bool) (clause : InvClause) : Type 0 where
  pub some : 0 < length clause.lits
  pub ascend : Chain IsLitAbove lit_var 0 (map state_literal clause.lits)
  pub short : long ≡ false → length clause.lits ≤ 2

-- the word of a derivation: of a base query, or of the step query
abbrev pub phase_word : Phase → List ℕ
phase_word Base = codes "b"
phase_word Step = codes "i"

-- that word, and how many steps the derivation has
abbrev pub head_words : Phase → ℕ → List (List ℕ)
head_words phase count = phase_word phase ∷ (decimal count ∷ [])

abbrev pub IsCount : ℕ → Type 0
IsCount count = count < 2 ^ 63

-- `pair`, its number, and how it is proved; or `end`
abbrev pub section_words : Section → List (List ℕ)
section_words (Single number) = codes "pair" ∷ (decimal number ∷ (codes "single" ∷ []))
section_words (Fixed number) = codes "pair" ∷ (decimal number ∷ (codes "fixed" ∷ []))
section_words (Depth number depth) = codes "pair" ∷ (decimal number ∷ (codes "depth" ∷ (decimal depth ∷ [])))
section_words End = codes "end" ∷ []

-- a depth is at most 64
abbrev pub IsSection : Section → Type 0
IsSection (Single number) = number < 2 ^ 63
IsSection (Fixed number) = number < 2 ^ 63
IsSection (Depth number depth) = (number < 2 ^ 63) × (depth ≤ 64)
IsSection End = Unit {0}

-- `s`, the literals, 0, the hints, 0
abbrev pub step_words : DerivStep → List (List ℕ)
step_words s = codes "s" ∷ (map lit_word s.clause ++ zero_word ∷ (map decimal s.hints ++ zero_word ∷ []))

-- the variables ascend, and no hint is 0; all are small enough
pub record IsStep (s : DerivStep) : Type 0 where
  pub lits : Chain IsLitAbove lit_var 0 s.clause
  pub hints : Chain IsHint (λ h. h) 0 s.hints
