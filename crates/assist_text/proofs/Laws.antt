-- A text has one value, or it is refused: laws of what the contracts say.
use Rattle.std.proofs.Common.{◌≡◌, ℕ, ◌+◌, Bool, true, false, List, [], ◌∷◌, ◌++◌, length, get_or, map, Some, refl, ap, ap₂, sym, subst, ◌∙◌, arith}
use Rattle.std.proofs.Common.{length-append}
use Rattle.std.specs.Prelude.{slice_get, Contains}
use Rattle.std.specs.List.{AllZip}
use Rattle.std.specs.Str.{bytes_eq}
use Rattle.std.proofs.lemmas.List.{append_cancel_right, get_or-append-add, length-map}
use Rattle.std.proofs.lemmas.Map.Keys.{apart_from_distinct}
use Rattle.std.proofs.lemmas.Option.{slice_get-get_or, slice_get_within}
use Rattle.std.proofs.lemmas.Slice.Eq.{bytes_eq-Decides}
use Rattle.sdcv_base.specs.declared.settings.Setting.{Setting}
use Rattle.net_model.specs.declared.invariants.InvClause.{InvClause}
use Rattle.linked_types.specs.declared.names.CellName.{CellName}
use Rattle.texts.proofs.NameLemmas.{distinct_by_test}
use Rattle.assist_text.specs.Lines.{Said, digit, said_in}
use Rattle.assist_text.specs.Clauses.{word, IsSaid, AreSaid, IsOnce, IsClause, IsTextOf}
use Rattle.assist_text.specs.Causes.{HasOther, HasTwice, IsCause}
use Rattle.assist_text.specs.Registers.{IsRegNamed}
use Rattle.assist_text.specs.Named.{IsLit, IsNamed, AreNamed, IsUnknown}
use Rattle.assist_types.specs.declared.clauses.AssistClause.{AssistClause}
use Rattle.assist_types.specs.declared.clauses.Assist.{Assist}
use Rattle.assist_types.specs.declared.faults.AssistFault.{AssistFault}
use Rattle.assist_types.specs.declared.faults.AssistFault.TheVariants as fault
use Rattle.assist_text.proofs.Ascending.{name_at}
use Rattle.assist_text.proofs.NameLemmas.{name_of}
use Rattle.assist_text.proofs.WordLemmas.{one_digit}
use Rattle.assist_text.proofs.Zips.{zip_length, zip_to}

-- a word gives one value to one name
pub one_word : (a b : List ℕ) (v u : Bool) → word a v ≡ word b u → (a ≡ b) × (v ≡ u)
one_word a b v u same =
    let long : length a + 2 ≡ length b + 2 = sym (length-append a (61 ∷ digit v ∷ [])) ∙ (ap length same ∙ length-append b (61 ∷ digit u ∷ [])) in
    let place : length a + 1 ≡ length b + 1 = omega arith in
    let digits : digit v ≡ digit u =
    sym (get_or-append-add a (61 ∷ digit v ∷ []) 1 0)
    ∙ (ap₂ (λ (t : List ℕ) (k : ℕ). get_or t k 0) same place ∙ get_or-append-add b (61 ∷ digit u ∷ []) 1 0) in
    let value = one_digit v u digits in
    (append_cancel_right a b (61 ∷ digit v ∷ []) (same ∙ ap (λ (x : Bool). b ++ (61 ∷ digit x ∷ [])) (sym value)), value)

-- what goes with the items of a list, one thing with each, is one list
zip_one : {A B : Type 0} (R : A → B → Type 0) → ((x : A) (y z : B) → R x y → R x z → y ≡ z) → (xs : List A) (ys zs : List B) → AllZip R xs ys → AllZip R xs zs
    → ys ≡ zs
zip_one R one [] [] [] p q = refl
zip_one R one [] [] (z ∷ zs) p q = absurd q
zip_one R one [] (y ∷ ys) zs p q = absurd p
zip_one R one (x ∷ xs) [] zs p q = absurd p
zip_one R one (x ∷ xs) (y ∷ ys) [] p q = absurd q
zip_one {A} {B} R one (x ∷ xs) (y ∷ ys) (z ∷ zs) p q = ap₂ (λ (b : B) (bs : List B). b ∷ bs) (one x y z p.0 q.0) (zip_one R one xs ys zs p.1 q.1)

one_setting : (w : List ℕ) (a b : Setting) → IsSaid w a → IsSaid w b → a ≡ b
one_setting w a b is other =
    let same = one_word a.name b.name a.value b.value (sym is.1 ∙ other.1) in
    ap₂ (λ (n : List ℕ) (v : Bool). record { name = n; value = v }) same.0 same.1

one_clause : (said : Said) (a b : AssistClause) → IsClause said a → IsClause said b → a ≡ b
one_clause said a b is other =
    ap₂ (λ (n : ℕ) (ls : List Setting). record { line = n; lits = ls }) (is.line ∙ sym other.line)
    (zip_one IsSaid one_setting said.1 a.lits b.lits is.lits other.lits)

-- a text is one list of clauses
pub one_value : (text : List ℕ) (a b : Assist) → IsTextOf text a → IsTextOf text b → a ≡ b
one_value text a b is other =
    ap (λ (cs : List AssistClause). record { clauses = cs }) (zip_one IsClause one_clause (said_in text) a.clauses b.clauses is.each other.each)

-- what is contained stands at its place
place_of_contained : {A : Type 0} (xs : List A) (x : A) (within : Contains xs x) → slice_get xs within.0 ≡ Some x
place_of_contained {A} xs x within = slice_get-get_or xs within.0 x within.1 ∙ ap (λ (y : A). Some y) within.2

-- words that settings say have none that is no word
no_other : (words : List (List ℕ)) (lits : List Setting) → AreSaid words lits → ¬ HasOther words
no_other words lits all other =
    let s = zip_to IsSaid words lits other.1.0 other.0 all (place_of_contained words other.0 other.1) in
    other.2 s.0.name s.0.value s.2

-- nor two that give values to one name, where no name of the settings stands twice
no_twice : (words : List (List ℕ)) (lits : List Setting) (name : List ℕ) → AreSaid words lits → IsOnce lits → ¬ HasTwice words name
no_twice words lits name all once twice =
    let a = zip_to IsSaid words lits twice.first (word name twice.values.0) all twice.at_first in
    let b = zip_to IsSaid words lits twice.second (word name twice.values.1) all twice.at_second in
    let one : name ≡ a.0.name = (one_word name a.0.name twice.values.0 a.0.value a.2.1).0 in
    let two : name ≡ b.0.name = (one_word name b.0.name twice.values.1 b.0.value b.2.1).0 in
    let within = slice_get_within lits twice.second b.0 b.1 in
    let names : get_or (map name_of lits) twice.first [] ≡ get_or (map name_of lits) twice.second [] =
    name_at lits twice.first a.0 a.1 ∙ (sym one ∙ (two ∙ sym (name_at lits twice.second b.0 b.1))) in
    let apart = apart_from_distinct bytes_eq (map name_of lits) twice.first twice.second [] (distinct_by_test (map name_of lits) once) twice.differ
    (omega (arith, length-map lits name_of)) in
    let bad : false ≡ true = sym apart ∙ (bytes_eq-Decides _ _).1 names in
    cc

-- a text with a value is refused for want of memory alone
pub value_or_refusal : (text : List ℕ) (a : Assist) (e : AssistFault) → IsTextOf text a → IsCause text e → e ≡ fault.Memory
value_or_refusal text a (fault.Syntax line) is why =
    let c = zip_to IsClause (said_in text) a.clauses why.1.0 (line, why.0) is.each (place_of_contained (said_in text) (line, why.0) why.1) in
    absurd (no_other why.0 c.0.lits c.2.lits why.2)
value_or_refusal text a (fault.Twice line name) is why =
    let c = zip_to IsClause (said_in text) a.clauses why.1.0 (line, why.0) is.each (place_of_contained (said_in text) (line, why.0) why.1) in
    absurd (no_twice why.0 c.0.lits name c.2.lits c.2.once why.2)
value_or_refusal text a (fault.Many number) is why =
    let few = is.few in
    let many = why.1 in
    let as_many = zip_length IsClause (said_in text) a.clauses is.each in
    absurd (omega arith)
value_or_refusal text a fault.Memory is why = refl
value_or_refusal text a (fault.UnknownRegister line name) is why = absurd why

-- clauses that have registers are refused for want of memory alone
pub named_or_refused : (cells : List CellName) (assist : List AssistClause) (clauses : List InvClause) (e : AssistFault) → AreNamed cells assist clauses
    → IsUnknown cells assist e → e ≡ fault.Memory
named_or_refused cells assist clauses (fault.UnknownRegister line name) are why =
    let c = zip_to (IsNamed cells) assist clauses why.1.0 why.0 are (place_of_contained assist why.0 why.1) in
    let s = why.3 in
    let l = zip_to (IsLit cells) why.0.lits c.2.found s.1.0 s.0 c.2.are (place_of_contained why.0.lits s.0 s.1) in
    absurd (s.3 l.0.reg (subst (λ (n : List ℕ). IsRegNamed cells n l.0.reg) s.2 l.2.reg))
named_or_refused cells assist clauses fault.Memory are why = refl
named_or_refused cells assist clauses (fault.Syntax line) are why = absurd why
named_or_refused cells assist clauses (fault.Twice line name) are why = absurd why
named_or_refused cells assist clauses (fault.Many number) are why = absurd why
