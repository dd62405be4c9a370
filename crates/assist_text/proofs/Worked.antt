-- Texts of clauses and their values, worked out by hand, and what other values they have not.
use Rattle.std.proofs.Common.{◌≡◌, ◌≢◌, ℕ, zero, suc, ◌+◌, ◌<◌, Bool, true, false, List, [], ◌∷◌, ◌++◌, length, get_or, Some, None, refl, ap, ◌∙◌, arith}
use Rattle.std.specs.Prelude.{codes, slice_index, Option, ◌==◌}
use Rattle.std.proofs.lemmas.List.Sorted.{IsPermutation-swap}
use Rattle.sdcv_base.specs.Seqs.{each_at}
use Rattle.sdcv_base.specs.declared.settings.Setting.{Setting}
use Rattle.net_model.specs.declared.invariants.StateLit.{StateLit}
use Rattle.net_model.specs.declared.invariants.InvClause.{InvClause}
use Rattle.linked_types.specs.declared.names.CellName.{CellName}
use Rattle.texts.specs.Names.{are_distinct}
use Rattle.assist_text.specs.Lines.{lines_of, words_said, said_at, digit}
use Rattle.assist_text.specs.Clauses.{IsTextOf}
use Rattle.assist_text.specs.Causes.{IsCause}
use Rattle.assist_text.specs.Registers.{IsRegNamed}
use Rattle.assist_text.specs.Named.{IsNamed, IsUnknown}
use Rattle.assist_types.specs.declared.clauses.AssistClause.{AssistClause}
use Rattle.assist_types.specs.declared.clauses.Assist.{Assist}
use Rattle.assist_types.specs.declared.faults.AssistFault.TheVariants as fault
use Rattle.assist_text.proofs.Laws.{one_value, value_or_refusal, named_or_refused}
use Rattle.assist_text.proofs.WordLemmas.{word_long, word_digit}

abbrev set : List ℕ → Bool → Setting
set name value = record { name = name; value = value }

abbrev clause : ℕ → List Setting → AssistClause
clause line lits = record { line = line; lits = lits }

abbrev only : List AssistClause → Assist
only clauses = record { clauses = clauses }

abbrev r0 : List ℕ
r0 = codes "r0"

abbrev r1 : List ℕ
r1 = codes "r1"

abbrev r2 : List ℕ
r2 = codes "r2"

-- the first literal and the number of the first line
abbrev head_of : List Setting → Setting
head_of [] = set [] false
head_of (s ∷ lits) = s

abbrev first_lit : Assist → Setting
first_lit a = elim a.clauses [ [] ↦ set [] false | ◌∷◌ c cs ↦ head_of c.lits ]

abbrev first_line : Assist → ℕ
first_line a = elim a.clauses [ [] ↦ 7 | ◌∷◌ c cs ↦ c.line ]

-- three registers, each 0
abbrev all_zero : ℕ → AssistClause
all_zero line = clause line (set r0 false ∷ set r1 false ∷ set r2 false ∷ [])

a_line_is_a_clause : IsTextOf (codes "r0=0 r1=0 r2=0") (only (all_zero 1 ∷ []))
unfolding words_said are_distinct
a_line_is_a_clause = record {
  each = (record { line = refl; lits = ((omega arith, refl), ((omega arith, refl), ((omega arith, refl), tt))); once = refl }, tt);
  few = omega arith;
}

-- a comment, an empty line, and two clauses with blanks of each kind: lines count from 1, whatever they say
abbrev blanks : List ℕ
blanks = codes "# a" ++ (10 ∷ 10 ∷ 32 ∷ 32 ∷ codes "r2=0" ++ (9 ∷ codes "r1=0  r0=0" ++ (13 ∷ 10 ∷ codes "r0=0 r1=0 r2=0")))

lines_count_from_1 : IsTextOf blanks (only (clause 3 (set r2 false ∷ set r1 false ∷ set r0 false ∷ []) ∷ all_zero 4 ∷ []))
unfolding words_said are_distinct
lines_count_from_1 = record {
  each = (
    record { line = refl; lits = ((omega arith, refl), ((omega arith, refl), ((omega arith, refl), tt))); once = refl },
    (record { line = refl; lits = ((omega arith, refl), ((omega arith, refl), ((omega arith, refl), tt))); once = refl }, tt),
  );
  few = omega arith;
}

-- a text of nothing has no clause
no_clause : IsTextOf [] (only [])
unfolding words_said
no_clause = record { each = tt; few = omega arith }

-- a name may hold `=`: it is all before the last one
a_name_ends_at_the_last_mark : IsTextOf (codes "a=b=1") (only (clause 1 (set (codes "a=b") true ∷ []) ∷ []))
unfolding words_said are_distinct
a_name_ends_at_the_last_mark = record { each = (record { line = refl; lits = ((omega arith, refl), tt); once = refl }, tt); few = omega arith }

-- only a first byte `#` begins a comment: after a blank it begins a name
a_comment_begins_its_line : IsTextOf (codes " #a=0") (only (clause 1 (set (codes "#a") false ∷ []) ∷ []))
unfolding words_said are_distinct
a_comment_begins_its_line = record { each = (record { line = refl; lits = ((omega arith, refl), tt); once = refl }, tt); few = omega arith }

-- so no other value is taken: not the other bit, not a name up to the first `=`, not a comment after a blank, not line 0
one_is_not_0 : ¬ IsTextOf (codes "a=b=1") (only (clause 1 (set (codes "a=b") false ∷ []) ∷ []))
one_is_not_0 is =
    let bad : false ≡ true = ap (λ (a : Assist). (first_lit a).value) (one_value (codes "a=b=1") _ _ is a_name_ends_at_the_last_mark) in
    absurd (cc)

no_name_ends_at_the_first_mark : ¬ IsTextOf (codes "a=b=1") (only (clause 1 (set (codes "a") true ∷ []) ∷ []))
no_name_ends_at_the_first_mark is =
    let bad : false ≡ true = ap (λ (a : Assist). length (first_lit a).name == 3) (one_value (codes "a=b=1") _ _ is a_name_ends_at_the_last_mark) in
    absurd (cc)

no_comment_begins_after_a_blank : ¬ IsTextOf (codes " #a=0") (only [])
no_comment_begins_after_a_blank is = let same = one_value (codes " #a=0") _ _ is a_comment_begins_its_line in cc

no_line_is_0 : ¬ IsTextOf (codes "r0=0 r1=0 r2=0") (only (all_zero 0 ∷ []))
no_line_is_0 is =
    let bad : false ≡ true = ap (λ (a : Assist). first_line a == 1) (one_value (codes "r0=0 r1=0 r2=0") _ _ is a_line_is_a_clause) in
    absurd (cc)

-- a name that stands twice is refused, with one value
twice : IsCause (codes "r0=0 r0=0") (fault.Twice 1 r0)
unfolding words_said
twice = (
  codes "r0=0" ∷ codes "r0=0" ∷ [],
  (0, omega arith, refl),
  record { first = 0; second = 1; differ = omega arith; values = (false, false); at_first = refl; at_second = refl },
)

-- and with two, and then it is not taken once
twice_with_two_values : IsCause (codes "r0=0 r0=1") (fault.Twice 1 r0)
unfolding words_said
twice_with_two_values = (
  codes "r0=0" ∷ codes "r0=1" ∷ [],
  (0, omega arith, refl),
  record { first = 0; second = 1; differ = omega arith; values = (false, true); at_first = refl; at_second = refl },
)

not_taken_once : ¬ IsTextOf (codes "r0=0 r0=0") (only (clause 1 (set r0 false ∷ []) ∷ []))
not_taken_once is = let same = value_or_refusal (codes "r0=0 r0=0") _ (fault.Twice 1 r0) is twice in cc

-- a word without a value, with another one, and without a name
no_value : IsCause r0 (fault.Syntax 1)
unfolding words_said
no_value = (
  r0 ∷ [],
  (0, omega arith, refl),
  (r0, (0, omega arith, refl), λ name value is. let long = word_long r0 name value is in omega arith),
)

another_value : IsCause (codes "r0=2") (fault.Syntax 1)
unfolding words_said
another_value = (
  codes "r0=2" ∷ [],
  (0, omega arith, refl),
  (codes "r0=2", (0, omega arith, refl), λ name value is. no_digit value (word_digit (codes "r0=2") name value is)),
)
  where
    no_digit : (value : Bool) → 50 ≢ digit value
    no_digit true e = omega (arith, e)
    no_digit false e = omega (arith, e)

no_name : IsCause (codes "=0") (fault.Syntax 1)
unfolding words_said
no_name = (
  codes "=0" ∷ [],
  (0, omega arith, refl),
  (codes "=0", (0, omega arith, refl), λ name value is. let long = word_long (codes "=0") name value is in omega arith),
)

a_blank_before_the_mark : IsCause (codes "r0 =0") (fault.Syntax 1)
unfolding words_said
a_blank_before_the_mark = (
  r0 ∷ codes "=0" ∷ [],
  (0, omega arith, refl),
  (r0, (0, omega arith, refl), λ name value is. let long = word_long r0 name value is in omega arith),
)

-- a line `r0=0`, so many times
unfoldable many : ℕ → List ℕ
many zero = []
many (suc n) = codes "r0=0" ++ (10 ∷ many n)

-- as many lines say something
many_say : (n number : ℕ) → length (each_at said_at number (lines_of (many n))) ≡ n
unfolding many words_said
many_say zero number = refl
many_say (suc n) number = ap suc (many_say n (number + 1))

one_clause_too_many : IsCause (many 8193) (fault.Many 8193)
one_clause_too_many = (refl, (let all = many_say 8193 1 in omega arith))

few_are_not_many : ¬ IsCause (codes "r0=0 r1=0 r2=0") (fault.Many 8193)
unfolding words_said
few_are_not_many why = let many = why.1 in omega arith

-- a gate, and three registers of which the first stands last
abbrev cell : List ℕ → Option ℕ → CellName
cell name reg = record { name = name; reg = reg; outs = []; pins = [] }

abbrev cells : List CellName
cells = cell (codes "gal") None ∷ cell r2 (Some 2) ∷ cell r1 (Some 1) ∷ cell r0 (Some 0) ∷ []

-- two names that begin with other bytes
begins_else : (a b : List ℕ) → a ≡ b → b ≡ codes "zz" → slice_index a 0 ≢ 122 → ⊥
begins_else a b same is other = other (ap (λ (n : List ℕ). slice_index n 0) (same ∙ is))

begins_other : (a b : List ℕ) → a ≡ b → b ≡ codes "gal" → slice_index a 0 ≢ 103 → ⊥
begins_other a b same is other = other (ap (λ (n : List ℕ). slice_index n 0) (same ∙ is))

abbrev lit : ℕ → Bool → StateLit
lit reg value = record { reg = reg; value = value }

abbrev over : List StateLit → InvClause
over lits = record { lits = lits }

-- literals stand by ascending registers, whatever the order of the words
abbrev falling : AssistClause
falling = clause 1 (set r1 true ∷ set r0 false ∷ [])

registers_ascend : IsNamed cells falling (over (lit 0 false ∷ lit 1 true ∷ []))
registers_ascend = record {
  found = lit 1 true ∷ lit 0 false ∷ [];
  are = (
    record { reg = (cell r1 (Some 1), (2, omega arith, refl), refl, refl); value = refl },
    (record { reg = (cell r0 (Some 0), (3, omega arith, refl), refl, refl); value = refl }, tt),
  );
  moved = IsPermutation-swap _ _ 0 1 (omega arith) (omega arith) refl;
  ascend = λ k low. first k (omega arith);
}
  where
    first : (k : ℕ) → k < 1 → get_or (0 ∷ 1 ∷ []) k 0 < get_or (0 ∷ 1 ∷ []) (k + 1) 0
    first zero low = omega arith
    first (suc k) low = absurd (omega arith)

not_in_the_order_of_the_text : ¬ IsNamed cells falling (over (lit 1 true ∷ lit 0 false ∷ []))
not_in_the_order_of_the_text is = let up = is.ascend 0 (omega arith) in omega arith

-- no cell has that name
no_zz : (c : CellName) (k : ℕ) → k < 4 → get_or cells k c ≡ c → c.name ≢ codes "zz"
no_zz c zero low at same = begins_else (codes "gal") c.name (ap (λ (x : CellName). x.name) at) same (omega arith)
no_zz c (suc zero) low at same = begins_else r2 c.name (ap (λ (x : CellName). x.name) at) same (omega arith)
no_zz c (suc (suc zero)) low at same = begins_else r1 c.name (ap (λ (x : CellName). x.name) at) same (omega arith)
no_zz c (suc (suc (suc zero))) low at same = begins_else r0 c.name (ap (λ (x : CellName). x.name) at) same (omega arith)
no_zz c (suc (suc (suc (suc k)))) low at same = omega arith

no_register_zz : (reg : ℕ) → ¬ IsRegNamed cells (codes "zz") reg
no_register_zz reg is = no_zz is.0 is.1.0 is.1.1 is.1.2 is.2

an_unknown_name : IsUnknown cells (all_zero 1 ∷ clause 2 (set (codes "zz") true ∷ []) ∷ []) (fault.UnknownRegister 2 (codes "zz"))
an_unknown_name = (
  clause 2 (set (codes "zz") true ∷ []),
  (1, omega arith, refl),
  refl,
  (set (codes "zz") true, (0, omega arith, refl), refl, no_register_zz),
)

-- a gate has that name, and no register
no_gal : (c : CellName) (reg k : ℕ) → k < 4 → get_or cells k c ≡ c → c.reg ≡ Some reg → c.name ≢ codes "gal"
no_gal c reg zero low at has same = (let bad : None ≡ Some reg = ap (λ (x : CellName). x.reg) at ∙ has in cc)
no_gal c reg (suc zero) low at has same = begins_other r2 c.name (ap (λ (x : CellName). x.name) at) same (omega arith)
no_gal c reg (suc (suc zero)) low at has same = begins_other r1 c.name (ap (λ (x : CellName). x.name) at) same (omega arith)
no_gal c reg (suc (suc (suc zero))) low at has same = begins_other r0 c.name (ap (λ (x : CellName). x.name) at) same (omega arith)
no_gal c reg (suc (suc (suc (suc k)))) low at has same = omega arith

a_gate_is_no_register : IsUnknown cells (clause 1 (set (codes "gal") true ∷ []) ∷ []) (fault.UnknownRegister 1 (codes "gal"))
a_gate_is_no_register = (
  clause 1 (set (codes "gal") true ∷ []),
  (0, omega arith, refl),
  refl,
  (set (codes "gal") true, (0, omega arith, refl), refl, λ reg is. no_gal is.0 reg is.1.0 is.1.1 is.1.2 is.3 is.2),
)

-- and then no clause is left without it
abbrev half_known : AssistClause
half_known = clause 1 (set r0 false ∷ set (codes "zz") true ∷ [])

not_left_out : ¬ IsNamed cells half_known (over (lit 0 false ∷ []))
not_left_out is =
    let why : IsUnknown cells (half_known ∷ []) (fault.UnknownRegister 1 (codes "zz")) =
    (half_known, (0, omega arith, refl), refl, (set (codes "zz") true, (1, omega arith, refl), refl, no_register_zz)) in
    let same = named_or_refused cells (half_known ∷ []) (over (lit 0 false ∷ []) ∷ []) (fault.UnknownRegister 1 (codes "zz")) (is, tt) why in
    cc
