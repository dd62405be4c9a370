-- What a search for the greatest inductive set keeps known.
use Rattle.std.proofs.Common.{◌≡◌, ℕ, true, List, [], ◌∷◌, ◌++◌, Some, ap, subst, sym, ◌∙◌, arith, inl, inr}
use Rattle.std.specs.Prelude.{slice_get, All, Contains, ◌⊎◌}
use Rattle.std.proofs.lemmas.List.Elements.{All-nil, All-push, All-weaker, Contains-push_cases, Contains-append_left, Contains-push}
use Rattle.std.proofs.lemmas.Bool.{both_ways}
use Rattle.net_model.specs.Queries.{clause_holds, IsAnswer, clause_query}
use Rattle.net_model.specs.declared.netlist.Design.{Design}
use Rattle.net_model.specs.declared.cycles.Cycle.{Cycle}
use Rattle.net_model.specs.declared.invariants.InvClause.{InvClause}
use Rattle.net_model.specs.declared.queries.Phase.{Phase}
use Rattle.net_model.specs.declared.queries.Phase.TheVariants.{Base, Step}
use Rattle.verdicts.specs.Inductive.{IsWithin, StandOnce, CoversInductive}
use Rattle.verdicts.specs.Kept.{IsEntry, IsUnspent, IsAskedAgainst}
use Rattle.verdict_types.specs.declared.kept.InvSpent.{InvSpent}
use Rattle.verdicts.proofs.Greatest.{covers_without_failing, covers_without_answer, covers_allowed}
use Rattle.induction.specs.Bases.{FailsInRun}
use Rattle.induction.specs.Pools.{IsSearch}

-- each candidate is still there
pub search_first : (d : Design) (depth budget : ℕ) (candidates : List InvClause) → StandOnce candidates
    → IsSearch d depth budget candidates candidates []
search_first d depth budget candidates once =
    record {
      once = once;
      unspent = λ clause has. record { candidate = has; no_entry = λ e none same. absurd (omega (arith, none.1)) };
      covers = λ other allowed inductive clause has. (allowed clause has).candidate;
      entries = All-nil (IsEntry d depth budget candidates candidates);
    }

-- an entry stays one where more is left out
entry_fewer : (d : Design) (depth budget : ℕ) (candidates left fewer : List InvClause) (e : InvSpent) → IsWithin fewer left
    → IsEntry d depth budget candidates left e → IsEntry d depth budget candidates fewer e
entry_fewer d depth budget candidates left fewer e within is =
    record {
      candidate = is.candidate;
      left_out = λ has. is.left_out (within e.clause has);
      at = is.at;
      against = by_phase e.phase is.against;
      log = is.log;
    }
  where
    by_phase : (phase : Phase) → IsAskedAgainst depth candidates left e phase → IsAskedAgainst depth candidates fewer e phase
    by_phase Base asked = asked
    by_phase Step asked = (asked.0, asked.1, λ clause has. asked.2 clause (within clause has))

entries_fewer : (d : Design) (depth budget : ℕ) (candidates left fewer : List InvClause) (spent : List InvSpent) → IsWithin fewer left
    → All (IsEntry d depth budget candidates left) spent → All (IsEntry d depth budget candidates fewer) spent
entries_fewer d depth budget candidates left fewer spent within all =
    All-weaker (IsEntry d depth budget candidates left) (IsEntry d depth budget candidates fewer)
    (λ e is. entry_fewer d depth budget candidates left fewer e within is) spent all

-- clauses that stand in no inductive set are left out
pub search_fewer : (d : Design) (depth budget : ℕ) (candidates left fewer : List InvClause) (spent : List InvSpent) → IsWithin fewer left
    → StandOnce fewer → CoversInductive d depth (IsUnspent candidates spent) fewer → IsSearch d depth budget candidates left spent
    → IsSearch d depth budget candidates fewer spent
search_fewer d depth budget candidates left fewer spent within once covers so =
    record {
      once = once;
      unspent = λ clause has. so.unspent clause (within clause has);
      covers = covers;
      entries = entries_fewer d depth budget candidates left fewer spent within so.entries;
    }

-- a clause that fails in a live cycle of a run, and so in no inductive set
pub search_failed : (d : Design) (depth budget : ℕ) (candidates left fewer : List InvClause) (spent : List InvSpent) (failing : InvClause)
    → FailsInRun d failing → IsWithin fewer left → StandOnce fewer
    → ((clause : InvClause) → Contains left clause → Contains fewer clause ⊎ (failing ≡ clause)) → IsSearch d depth budget candidates left spent
    → IsSearch d depth budget candidates fewer spent
search_failed d depth budget candidates left fewer spent failing fails within once others so =
    search_fewer d depth budget candidates left fewer spent within once
    (covers_without_failing d depth (IsUnspent candidates spent) left fewer fails.0 fails.2.t fails.2.c fails.1 fails.2.is_live fails.2.at
    (λ clause has holds. elim (others clause has) [
      | inl there ↦ there
      | inr same ↦ absurd (both_ways (clause_holds fails.2.c clause) (ap (clause_holds fails.2.c) (sym same) ∙ fails.2.fails) holds)
    ])
    so.covers)
    so

-- a stretch leaves out clauses that its last cycle fails
pub search_broken : (d : Design) (depth budget : ℕ) (candidates left fewer : List InvClause) (spent : List InvSpent) (asked : InvClause)
    (stretch : List Cycle) (c : Cycle) → IsAnswer (clause_query d left asked Step depth) stretch → slice_get stretch depth ≡ Some c
    → IsWithin fewer left → StandOnce fewer → ((clause : InvClause) → Contains left clause → clause_holds c clause ≡ true → Contains fewer clause)
    → IsSearch d depth budget candidates left spent → IsSearch d depth budget candidates fewer spent
search_broken d depth budget candidates left fewer spent asked stretch c answer at within once stay so =
    search_fewer d depth budget candidates left fewer spent within once
    (covers_without_answer d depth (IsUnspent candidates spent) left fewer asked stretch c answer at stay so.covers)
    so

-- a clause whose query is spent is left out, with an entry
pub search_spent : (d : Design) (depth budget : ℕ) (candidates left fewer : List InvClause) (spent : List InvSpent) (e : InvSpent)
    → IsEntry d depth budget candidates fewer e → IsWithin fewer left → StandOnce fewer
    → ((clause : InvClause) → Contains left clause → Contains fewer clause ⊎ (e.clause ≡ clause)) → IsSearch d depth budget candidates left spent
    → IsSearch d depth budget candidates fewer (spent ++ e ∷ [])
search_spent d depth budget candidates left fewer spent e entry within once others so =
    let old : (clause : InvClause) → IsUnspent candidates (spent ++ e ∷ []) clause → IsUnspent candidates spent clause =
    λ clause is. record { candidate = is.candidate; no_entry = λ f inside. is.no_entry f (Contains-append_left spent (e ∷ []) f inside) } in
    record {
      once = once;
      unspent = λ clause inside.
          record {
            candidate = (so.unspent clause (within clause inside)).candidate;
            no_entry = λ f listed same. elim (Contains-push_cases spent e f listed) [
              | inl early ↦ (so.unspent clause (within clause inside)).no_entry f early same
              | inr last ↦ entry.left_out (subst (Contains fewer) (sym same ∙ ap (λ (x : InvSpent). x.clause) (sym last)) inside)
            ];
          };
      covers = covers_allowed d depth (IsUnspent candidates spent) (IsUnspent candidates (spent ++ e ∷ [])) left fewer old
          (λ clause is inside. elim (others clause inside) [
            | inl there ↦ there
            | inr same ↦ absurd (is.no_entry e (Contains-push spent e) same)
          ])
          so.covers;
      entries = All-push (IsEntry d depth budget candidates fewer) spent e (entries_fewer d depth budget candidates left fewer spent within so.entries)
          entry;
    }
