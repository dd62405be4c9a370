-- Clauses over registers, one on, and what is known of all of them.
use Rattle.std.proofs.Common.{◌≡◌, ℕ, zero, suc, ◌<◌, List, [], ◌∷◌, length, get_or, sym, subst, arith}
use Rattle.std.specs.Prelude.{All, Contains}
use Rattle.std.proofs.lemmas.List.Elements.{All-contains}
use Rattle.std.proofs.lemmas.List.Sorted.{length_permutation, All-permutation}
use Rattle.std.proofs.lemmas.Option.{slice_get-get_or}
use Rattle.sdcv_base.specs.declared.settings.Setting.{Setting}
use Rattle.net_model.specs.Fits.{NamesRegs}
use Rattle.net_model.specs.declared.netlist.Design.{Design}
use Rattle.net_model.specs.declared.invariants.StateLit.{StateLit}
use Rattle.net_model.specs.declared.invariants.InvClause.{InvClause}
use Rattle.linked_types.specs.declared.names.CellName.{CellName}
use Rattle.linked_types.specs.Usable.{IsCellOf, IsRegOf}
use Rattle.assist_text.specs.Clauses.{IsOneOrMore}
use Rattle.assist_text.specs.Registers.{IsRegNamed}
use Rattle.assist_text.specs.Named.{IsLit, IsNamed, AreNamed, HasUnknown, IsUnknownIn, IsUnknown}
use Rattle.assist_types.specs.declared.clauses.AssistClause.{AssistClause}
use Rattle.assist_types.specs.declared.faults.AssistFault.{AssistFault}
use Rattle.assist_types.specs.declared.faults.AssistFault.TheVariants as fault
use Rattle.assist_text.proofs.Zips.{all_at, zip_length, zip_from}

-- what is read at a place is in the list
read_in : {A : Type 0} (xs : List A) (k : ℕ) (x : A) → k < length xs → x ≡ get_or xs k x → Contains xs x
read_in xs k x low at = (k, low, sym at)

-- a list of one holds that one
only_one : {A : Type 0} (x y : A) (k : ℕ) → k < length (x ∷ []) → get_or (x ∷ []) k y ≡ y → x ≡ y
only_one x y zero low at = at
only_one x y (suc k) low at = absurd (omega arith)

unknown_one : (cells : List CellName) (lits : List Setting) (k : ℕ) (s : Setting) (name : List ℕ) → k < length lits → s ≡ get_or lits k s
    → HasUnknown cells (s ∷ []) name → HasUnknown cells lits name
unknown_one cells lits k s name low at why =
    let same : s ≡ why.0 = only_one s why.0 why.1.0 why.1.1 why.1.2 in
    (why.0, subst (Contains lits) same (read_in lits k s low at), why.2, why.3)

-- why a setting has no register is why its clause has none
pub unknown_setting : (cells : List CellName) (line : ℕ) (lits : List Setting) (k : ℕ) (s : Setting) (e : AssistFault) → k < length lits → s ≡ get_or lits k s
    → IsUnknownIn cells line (s ∷ []) e → IsUnknownIn cells line lits e
unknown_setting cells line lits k s (fault.UnknownRegister number name) low at why = (why.0, unknown_one cells lits k s name low at why.1)
unknown_setting cells line lits k s fault.Memory low at why = tt
unknown_setting cells line lits k s (fault.Syntax number) low at why = absurd why
unknown_setting cells line lits k s (fault.Twice number name) low at why = absurd why
unknown_setting cells line lits k s (fault.Many number) low at why = absurd why

-- why a clause has none is why the text has none
pub unknown_clause : (cells : List CellName) (assist : List AssistClause) (k : ℕ) (c : AssistClause) (e : AssistFault) → k < length assist → c ≡ get_or assist k c
    → IsUnknownIn cells c.line c.lits e → IsUnknown cells assist e
unknown_clause cells assist k c (fault.UnknownRegister number name) low at why = (c, read_in assist k c low at, sym why.0, why.1)
unknown_clause cells assist k c fault.Memory low at why = tt
unknown_clause cells assist k c (fault.Syntax number) low at why = absurd why
unknown_clause cells assist k c (fault.Twice number name) low at why = absurd why
unknown_clause cells assist k c (fault.Many number) low at why = absurd why

-- clauses have a literal at least
pub all_some : (cells : List CellName) (assist : List AssistClause) (clauses : List InvClause) → All IsOneOrMore assist → AreNamed cells assist clauses
    → All (λ (c : InvClause). 0 < length c.lits) clauses
all_some cells assist clauses some are k d low =
    let at = zip_from (IsNamed cells) assist clauses k (get_or clauses k d) are (slice_get-get_or clauses k d low) in
    let one = (all_at IsOneOrMore assist k at.0 some at.1).some in
    omega (arith, zip_length (IsLit cells) at.0.lits at.2.found at.2.are, length_permutation at.2.found (get_or clauses k d).lits at.2.moved)

-- a register that goes by a name is one of the design
reg_of_design : (d : Design) (cells : List CellName) (name : List ℕ) (reg : ℕ) → All (IsCellOf d) cells → IsRegNamed cells name reg → reg < length d.regs
reg_of_design d cells name reg of is = subst (IsRegOf d) is.3 (All-contains (IsCellOf d) cells is.0 of is.1).reg

-- clauses speak of registers of the design
pub all_regs : (d : Design) (cells : List CellName) (assist : List AssistClause) (clauses : List InvClause) → All (IsCellOf d) cells → AreNamed cells assist clauses
    → All (NamesRegs d) clauses
all_regs d cells assist clauses of are k e low =
    let at = zip_from (IsNamed cells) assist clauses k (get_or clauses k e) are (slice_get-get_or clauses k e low) in
    let found : All (λ (l : StateLit). l.reg < length d.regs) at.2.found =
    λ i l within. (let one = zip_from (IsLit cells) at.0.lits at.2.found i (get_or at.2.found i l) at.2.are (slice_get-get_or at.2.found i l within) in
    reg_of_design d cells one.0.name (get_or at.2.found i l).reg of one.2.reg) in
    All-permutation (λ (l : StateLit). l.reg < length d.regs) at.2.found (get_or clauses k e).lits at.2.moved found
