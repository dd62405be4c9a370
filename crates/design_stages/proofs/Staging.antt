-- How a stage leads on to the next one.
use Rattle.std.proofs.Common.{◌≡◌, Result, Ok, Err, sym, subst, inl, inr}
use Rattle.cell_types.specs.declared.libraries.Library.{Library}
use Rattle.link_defs.specs.declared.cuts.CutSource.{CutSource}
use Rattle.linked_types.specs.declared.names.Linked.{Linked}
use Rattle.linked_types.specs.declared.options.LinkOptions.{LinkOptions}
use Rattle.fault_lines.specs.Designs.{link_line}
use Rattle.design_stages.specs.declared.refusals.Refusal.{Refusal}
use Rattle.design_stages.specs.declared.refusals.Refusal.TheVariants as refusal
use Rattle.design_stages.specs.Designs.{Links}
use Rattle.design_stages.specs.Stages.{Found, Finds, Staged, Then}

-- a stage that refuses the run is the last
pub then_stops : {A B : Type 0} (First : Found A → Type 0) (Next : A → Found B → Type 0) (why : Refusal) → Finds First (Err why)
    → Finds (Then First Next) (Err why)
unfolding Then
then_stops First Next (refusal.Line line) found = inl found
then_stops First Next refusal.Memory found = tt

-- a stage finds a value, and the next one refuses the run
pub then_refuses : {A B : Type 0} (First : Found A → Type 0) (Next : A → Found B → Type 0) (value : A) (why : Refusal) → First (Ok value)
    → Finds (Next value) (Err why) → Finds (Then First Next) (Err why)
unfolding Then
then_refuses First Next value (refusal.Line line) found rest = inr (value, found, rest)
then_refuses First Next value refusal.Memory found rest = tt

-- a stage finds a value, and so does the next one
pub then_finds : {A B : Type 0} (First : Found A → Type 0) (Next : A → Found B → Type 0) (value : A) (b : B) → First (Ok value) → Next value (Ok b)
    → Then First Next (Ok b)
unfolding Then
then_finds First Next value b found rest = (value, found, rest)

-- a stage finds a value, and the next one answers
pub then_goes : {A B : Type 0} (First : Found A → Type 0) (Next : A → Found B → Type 0) (value : A) (result : Result B Refusal) → First (Ok value)
    → Finds (Next value) result → Finds (Then First Next) result
then_goes First Next value (Ok b) found rest = then_finds First Next value b found rest
then_goes First Next value (Err why) found rest = then_refuses First Next value why found rest

-- a stage answers with the refusal of another
pub stops : {A : Type 0} (R : Found A → Type 0) (result : Result A Refusal) (why : Refusal) → result ≡ Err why → Finds R (Err why) → Finds R result
stops {A} R result why is found = subst (λ (r : Result A Refusal). Finds R r) (sym is) found

-- linking is the same over equal options
pub linked_by : (s : CutSource) (lib : Library) (o other : LinkOptions) (result : Result Linked Refusal) → o ≡ other
    → Finds (Staged (Links s lib o) link_line) result → Finds (Staged (Links s lib other) link_line) result
linked_by s lib o other result same found = subst (λ (x : LinkOptions). Finds (Staged (Links s lib x) link_line) result) same found
