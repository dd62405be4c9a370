-- What is kept of the clauses that are asked about is kept of all candidates.
use Rattle.std.proofs.Common.{subst, ℕ, List, inl, inr}
use Rattle.std.specs.Prelude.{◌⊎◌, Contains, All}
use Rattle.std.proofs.lemmas.Bool.{both_ways}
use Rattle.std.proofs.lemmas.List.Elements.{All-nil, All-cons, All-head, All-tail}
use Rattle.net_model.specs.Queries.{clause_holds}
use Rattle.net_model.specs.declared.netlist.Design.{Design}
use Rattle.net_model.specs.declared.invariants.InvClause.{InvClause}
use Rattle.net_model.specs.declared.queries.Phase.{Phase}
use Rattle.net_model.specs.declared.queries.Phase.TheVariants.{Base, Step}
use Rattle.net_model.proofs.Members.{In, In-from_Contains, Contains-from_In}
use Rattle.verdicts.specs.Inductive.{IsWithin, IsInductive, IsGreatest, StandOnce}
use Rattle.verdicts.specs.Kept.{IsAskedAgainst, IsEntry, IsUnspent, IsKeptSet}
use Rattle.verdict_types.specs.declared.kept.InvSpent.{InvSpent}
use Rattle.verdict_types.specs.declared.kept.InvSet.{InvSet}
use Rattle.verdicts.proofs.Keeping.{always_met}
use Rattle.drawn_runs.specs.Drawn.{HoldsDrawn, FailsDrawn}
use Rattle.drawn_runs.specs.Survivors.{IsSifted, No_more, Is_left, Is_out, AreSurvivors}
use Rattle.drawn_runs.specs.Stretches.{FailsNext, IsThinned, All_left, Fewer_left}
use Rattle.drawn_runs.specs.Stretches as stretches
use Rattle.invariants.specs.Tried.{AreTried}

-- what is left was there, and stays
left_in : (Stays Goes : InvClause → Type 0) (clauses left : List InvClause) (x : InvClause) → IsSifted Stays Goes clauses left → In x left
    → In x clauses × Stays x
left_in Stays Goes _ _ x No_more has = absurd has
left_in Stays Goes _ _ x (Is_left clause clauses left stays rest) (inl same) = (inl same, subst Stays same stays)
left_in Stays Goes _ _ x (Is_left clause clauses left stays rest) (inr later) =
    let more = left_in Stays Goes clauses left x rest later in (inr more.0, more.1)
left_in Stays Goes _ _ x (Is_out clause clauses left goes rest) has =
    let more = left_in Stays Goes clauses left x rest has in (inr more.0, more.1)

-- what was there is left, or goes
left_or_out : (Stays Goes : InvClause → Type 0) (clauses left : List InvClause) (x : InvClause) → IsSifted Stays Goes clauses left → In x clauses
    → In x left ⊎ Goes x
left_or_out Stays Goes _ _ x No_more has = absurd has
left_or_out Stays Goes _ _ x (Is_left clause clauses left stays rest) (inl same) = inl (inl same)
left_or_out Stays Goes _ _ x (Is_left clause clauses left stays rest) (inr later) =
    elim (left_or_out Stays Goes clauses left x rest later) [ inl here ↦ inl (inr here) | inr out ↦ inr out ]
left_or_out Stays Goes _ _ x (Is_out clause clauses left goes rest) (inl same) = inr (subst Goes same goes)
left_or_out Stays Goes _ _ x (Is_out clause clauses left goes rest) (inr later) = left_or_out Stays Goes clauses left x rest later

-- a fact of all clauses is one of those that are left
All-sifted : (P Stays Goes : InvClause → Type 0) (clauses left : List InvClause) → IsSifted Stays Goes clauses left → All P clauses → All P left
All-sifted P Stays Goes _ _ No_more all = All-nil P
All-sifted P Stays Goes _ _ (Is_left clause clauses left stays rest) all =
    All-cons P clause left (All-head P clause clauses all) (All-sifted P Stays Goes clauses left rest (All-tail P clause clauses all))
All-sifted P Stays Goes _ _ (Is_out clause clauses left goes rest) all =
    All-sifted P Stays Goes clauses left rest (All-tail P clause clauses all)

-- clauses that stand once still do
StandOnce-sifted : (Stays Goes : InvClause → Type 0) (clauses left : List InvClause) → IsSifted Stays Goes clauses left → StandOnce clauses
    → StandOnce left
StandOnce-sifted Stays Goes _ _ No_more once = tt
StandOnce-sifted Stays Goes _ _ (Is_left clause clauses left stays rest) once = (
  λ again. once.0 (Contains-from_In clauses clause (left_in Stays Goes clauses left clause rest (In-from_Contains left clause again)).0),
  StandOnce-sifted Stays Goes clauses left rest once.1,
)
StandOnce-sifted Stays Goes _ _ (Is_out clause clauses left goes rest) once = StandOnce-sifted Stays Goes clauses left rest once.1

survivor_within : (d : Design) (clauses left : List InvClause) → AreSurvivors d clauses left → IsWithin left clauses
survivor_within d clauses left sifted x has =
    Contains-from_In clauses x (left_in (HoldsDrawn d) (FailsDrawn d) clauses left x sifted (In-from_Contains left x has)).0

-- a survivor holds in the drawn runs
survivor_holds : (d : Design) (clauses left : List InvClause) (x : InvClause) → AreSurvivors d clauses left → Contains left x → HoldsDrawn d x
survivor_holds d clauses left x sifted has = (left_in (HoldsDrawn d) (FailsDrawn d) clauses left x sifted (In-from_Contains left x has)).1

-- a clause that fails in a drawn run is in no inductive set
not_inductive : (d : Design) (depth : ℕ) (set : List InvClause) (x : InvClause) → IsInductive d depth set → Contains set x → FailsDrawn d x → ⊥
not_inductive d depth set x inductive has fails =
    both_ways (clause_holds fails.c x) fails.fails
    (always_met d depth set inductive x has fails.run fails.t fails.c fails.drawn.from_reset fails.is_live fails.at)

-- a clause that fails after a stretch is in no inductive set of clauses that the stretch meets
not_inductive_next : (d : Design) (depth : ℕ) (left set : List InvClause) (x : InvClause) → IsInductive d depth set → IsWithin set left
    → Contains set x → FailsNext d depth left x → ⊥
not_inductive_next d depth left set x inductive within has fails =
    both_ways (clause_holds fails.c x) fails.fails
    (inductive.next x has fails.stretch fails.c fails.is_stretch fails.at
    (λ i before low at clause in_. fails.met i before low at clause (within clause in_)))

-- clauses are left out that are in no inductive set of the others
record IsCut (d : Design) (depth : ℕ) (clauses left : List InvClause) : Type 0 where
  within : IsWithin left clauses
  covers : (other : List InvClause) → IsInductive d depth other → IsWithin other clauses → IsWithin other left

survivors_cut : (d : Design) (depth : ℕ) (clauses left : List InvClause) → AreSurvivors d clauses left → IsCut d depth clauses left
survivors_cut d depth clauses left sifted =
    record {
      within = survivor_within d clauses left sifted;
      covers = λ other inductive has x in_.
          elim (left_or_out (HoldsDrawn d) (FailsDrawn d) clauses left x sifted (In-from_Contains clauses x (has x in_))) [
            | inl here ↦ Contains-from_In left x here
            | inr fails ↦ absurd (not_inductive d depth other x inductive in_ fails)
          ];
    }

thinned_cut : (d : Design) (depth : ℕ) (clauses left : List InvClause) → IsThinned d depth clauses left → IsCut d depth clauses left
thinned_cut d depth clauses _ All_left = record { within = λ x has. has; covers = λ other inductive has. has }
thinned_cut d depth clauses _ (Fewer_left left fewer before once) =
    let cut = thinned_cut d depth clauses left before in
    record {
      within = λ x has.
          cut.within x (Contains-from_In left x (left_in stretches.Stays (FailsNext d depth left) left fewer x once (In-from_Contains fewer x has)).0);
      covers = λ other inductive has x in_.
          let still = cut.covers other inductive has in
          elim (left_or_out stretches.Stays (FailsNext d depth left) left fewer x once (In-from_Contains left x (still x in_))) [
            | inl here ↦ Contains-from_In fewer x here
            | inr fails ↦ absurd (not_inductive_next d depth left other x inductive still in_ fails)
          ];
    }

-- a fact of all clauses is one of those that are left
pub All-tried : (P : InvClause → Type 0) (d : Design) (depth : ℕ) (clauses left : List InvClause) → AreTried d depth clauses left → All P clauses
    → All P left
All-tried P d depth clauses left tried all =
    by left tried.2 (All-sifted P (HoldsDrawn d) (FailsDrawn d) clauses tried.0 tried.1 all) where
      by : (xs : List InvClause) → IsThinned d depth tried.0 xs → All P tried.0 → All P xs
      by _ All_left some = some
      by _ (Fewer_left most fewer before once) some =
          All-sifted P stretches.Stays (FailsNext d depth most) most fewer once (by most before some)

-- clauses that stand once still do
pub StandOnce-tried : (d : Design) (depth : ℕ) (clauses left : List InvClause) → AreTried d depth clauses left → StandOnce clauses → StandOnce left
StandOnce-tried d depth clauses left tried once =
    by left tried.2 (StandOnce-sifted (HoldsDrawn d) (FailsDrawn d) clauses tried.0 tried.1 once) where
      by : (xs : List InvClause) → IsThinned d depth tried.0 xs → StandOnce tried.0 → StandOnce xs
      by _ All_left some = some
      by _ (Fewer_left most fewer before gone) some =
          StandOnce-sifted stretches.Stays (FailsNext d depth most) most fewer gone (by most before some)

tried_cut : (d : Design) (depth : ℕ) (clauses left : List InvClause) → AreTried d depth clauses left → IsCut d depth clauses left
tried_cut d depth clauses left tried =
    let first = survivors_cut d depth clauses tried.0 tried.1 in
    let then = thinned_cut d depth tried.0 left tried.2 in
    record {
      within = λ x has. first.within x (then.within x has);
      covers = λ other inductive has. then.covers other inductive (first.covers other inductive has);
    }

unspent_all : (d : Design) (depth : ℕ) (clauses left : List InvClause) (spent : List InvSpent) → IsCut d depth clauses left → (x : InvClause)
    → IsUnspent left spent x → IsUnspent clauses spent x
unspent_all d depth clauses left spent cut x is = record { candidate = cut.within x is.candidate; no_entry = is.no_entry }

greatest_all : (d : Design) (depth : ℕ) (clauses left : List InvClause) (set : InvSet) → IsCut d depth clauses left
    → IsGreatest d depth (IsUnspent left set.spent) set.kept → IsGreatest d depth (IsUnspent clauses set.spent) set.kept
greatest_all d depth clauses left set cut is =
    record {
      allowed = λ x has. unspent_all d depth clauses left set.spent cut x (is.allowed x has);
      inductive_ = is.inductive_;
      greatest = λ other allowed inductive x has.
          let within = cut.covers other inductive (λ y in_. (allowed y in_).candidate) in
          is.greatest other (λ y in_. record { candidate = within y in_; no_entry = (allowed y in_).no_entry }) inductive x has;
    }

against_all : (d : Design) (depth : ℕ) (clauses left kept : List InvClause) (e : InvSpent) (phase : Phase) → IsCut d depth clauses left
    → IsAskedAgainst depth left kept e phase → IsAskedAgainst depth clauses kept e phase
against_all d depth clauses left kept e Base cut is = is
against_all d depth clauses left kept e Step cut is = (is.0, (λ x has. cut.within x (is.1 x has)), is.2)

entry_all : (d : Design) (depth budget : ℕ) (clauses left kept : List InvClause) (e : InvSpent) → IsCut d depth clauses left
    → IsEntry d depth budget left kept e → IsEntry d depth budget clauses kept e
entry_all d depth budget clauses left kept e cut is =
    record {
      candidate = cut.within e.clause is.candidate;
      left_out = is.left_out;
      at = is.at;
      against = against_all d depth clauses left kept e e.phase cut is.against;
      log = is.log;
    }

-- what is kept of the clauses that are asked about is kept of all
pub kept_all : (d : Design) (depth budget : ℕ) (clauses left : List InvClause) (set : InvSet) → AreTried d depth clauses left
    → IsKeptSet d depth budget left set → IsKeptSet d depth budget clauses set
kept_all d depth budget clauses left set tried is =
    let cut = tried_cut d depth clauses left tried in
    record {
      at_depth = is.at_depth;
      greatest = greatest_all d depth clauses left set cut is.greatest;
      once = is.once;
      proofs = is.proofs;
      met = is.met;
      entries = λ k o within. entry_all d depth budget clauses left set.kept _ cut (is.entries k o within);
    }

-- and each entry's clause holds in the drawn runs
pub entries_hold : (d : Design) (depth budget : ℕ) (clauses left : List InvClause) (set : InvSet) → AreTried d depth clauses left
    → IsKeptSet d depth budget left set → All (λ (e : InvSpent). HoldsDrawn d e.clause) set.spent
entries_hold d depth budget clauses left set tried is =
    λ k o low. survivor_holds d clauses tried.0 _ tried.1 ((thinned_cut d depth tried.0 left tried.2).within _ (is.entries k o low).candidate)
