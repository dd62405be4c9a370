-- Unions of inductive sets, and how the greatest one is come to by leaving out clauses.
use Rattle.std.proofs.Common.{◌≡◌, ℕ, ◌<◌, ◌≤◌, Bool, true, List, [], ◌++◌, Some, subst}
use Rattle.std.proofs.Common.{arith, inl, inr, get_or}
use Rattle.std.specs.Prelude.{slice_get, Contains}
use Rattle.std.proofs.lemmas.List.Elements.{Contains-append_left, Contains-append_right, Contains-append_cases}
use Rattle.net_model.specs.Cycles.{IsRun, IsStretch, HasResets}
use Rattle.net_model.specs.declared.netlist.Design.{Design}
use Rattle.net_model.specs.declared.cycles.Cycle.{Cycle}
use Rattle.net_model.specs.declared.invariants.InvClause.{InvClause}
use Rattle.net_model.specs.Queries.{clause_holds, IsAnswer, clause_query}
use Rattle.net_model.specs.declared.queries.Phase.TheVariants.{Step}
use Rattle.std.proofs.lemmas.Bool.{le-ltb}
use Rattle.std.proofs.lemmas.Option.{slice_get-get_or}
use Rattle.verdicts.specs.Inductive.{MeetsAll, IsMetNext, IsInductive, IsWithin, IsGreatest, CoversInductive}
use Rattle.verdicts.proofs.Keeping.{always_met}

-- a clause that follows from a set follows from a larger one
pub next_of_more : (d : Design) (depth : ℕ) (set more : List InvClause) (clause : InvClause) → IsWithin set more → IsMetNext d depth set clause
    → IsMetNext d depth more clause
next_of_more d depth set more clause within next stretch c is at before =
    next stretch c is at (λ i b low there member inside. before i b low there member (within member inside))

-- the union of two inductive sets is inductive
pub union_inductive : (d : Design) (depth : ℕ) (one other : List InvClause) → IsInductive d depth one → IsInductive d depth other
    → IsInductive d depth (one ++ other)
union_inductive d depth one other a b =
    record {
      deep = λ clause has. elim (Contains-append_cases one other clause has) [
        | inl left ↦ a.deep clause left
        | inr right ↦ b.deep clause right
      ];
      first = λ clause has. elim (Contains-append_cases one other clause has) [
        | inl left ↦ a.first clause left
        | inr right ↦ b.first clause right
      ];
      next = λ clause has. elim (Contains-append_cases one other clause has) [
        | inl left ↦ next_of_more d depth one (one ++ other) clause (λ member inside. Contains-append_left one other member inside) (a.next clause left)
        | inr right ↦ next_of_more d depth other (one ++ other) clause (λ member inside. Contains-append_right one other member inside) (b.next clause right)
      ];
    }

-- a run shows all clauses at once that one of its live cycles fails to be in no inductive set
pub covers_without_failing : (d : Design) (depth : ℕ) (Allowed : InvClause → Type 0) (left fewer : List InvClause) (run : List Cycle) (t : ℕ) (c : Cycle)
    → IsRun d run → d.reset_len ≤ t → slice_get run t ≡ Some c
    → ((clause : InvClause) → Contains left clause → clause_holds c clause ≡ true → Contains fewer clause) → CoversInductive d depth Allowed left
    → CoversInductive d depth Allowed fewer
covers_without_failing d depth Allowed left fewer run t c is live at stay covers other allowed inductive clause has =
    stay clause (covers other allowed inductive clause has) (always_met d depth other inductive clause has run t c is live at)

-- a stretch whose first cycles meet what is left shows all clauses at once that its next cycle fails to be in no inductive
-- set
pub covers_without_broken : (d : Design) (depth : ℕ) (Allowed : InvClause → Type 0) (left fewer : List InvClause) (stretch : List Cycle) (c : Cycle)
    → IsStretch d stretch → slice_get stretch depth ≡ Some c
    → ((i : ℕ) (before : Cycle) → i < depth → slice_get stretch i ≡ Some before → MeetsAll left before)
    → ((clause : InvClause) → Contains left clause → clause_holds c clause ≡ true → Contains fewer clause) → CoversInductive d depth Allowed left
    → CoversInductive d depth Allowed fewer
covers_without_broken d depth Allowed left fewer stretch c is at before stay covers other allowed inductive clause has =
    stay clause (covers other allowed inductive clause has)
    (inductive.next clause has stretch c is at (λ i b low there member inside. before i b low there member (covers other allowed inductive member inside)))

-- clauses that are allowed no more may be left out
pub covers_allowed : (d : Design) (depth : ℕ) (Allowed Fewer : InvClause → Type 0) (left fewer : List InvClause)
    → ((clause : InvClause) → Fewer clause → Allowed clause) → ((clause : InvClause) → Fewer clause → Contains left clause → Contains fewer clause)
    → CoversInductive d depth Allowed left → CoversInductive d depth Fewer fewer
covers_allowed d depth Allowed Fewer left fewer less stay covers other allowed inductive clause has =
    stay clause (allowed clause has) (covers other (λ member inside. less member (allowed member inside)) inductive clause has)

-- the set that is left, if it is inductive, is the greatest
pub greatest_of : (d : Design) (depth : ℕ) (Allowed : InvClause → Type 0) (kept : List InvClause)
    → ((clause : InvClause) → Contains kept clause → Allowed clause) → IsInductive d depth kept → CoversInductive d depth Allowed kept
    → IsGreatest d depth Allowed kept
greatest_of d depth Allowed kept allowed inductive covers =
    record { allowed = allowed; inductive_ = inductive; greatest = covers }

-- at depth 0 it has no member
pub empty_greatest : (d : Design) (Allowed : InvClause → Type 0) → IsGreatest d 0 Allowed []
empty_greatest d Allowed =
    record {
      allowed = λ clause has. absurd (omega (arith, has.1));
      inductive_ =
          record {
            deep = λ clause has. absurd (omega (arith, has.1));
            first = λ clause has. absurd (omega (arith, has.1));
            next = λ clause has. absurd (omega (arith, has.1));
          };
      greatest = λ other allowed inductive clause has. absurd (omega (arith, inductive.deep clause has));
    }

-- the answer of a step query is a stretch whose first cycles meet what it is asked against
pub covers_without_answer : (d : Design) (depth : ℕ) (Allowed : InvClause → Type 0) (left fewer : List InvClause) (asked : InvClause) (stretch : List Cycle)
    (c : Cycle) → IsAnswer (clause_query d left asked Step depth) stretch → slice_get stretch depth ≡ Some c
    → ((clause : InvClause) → Contains left clause → clause_holds c clause ≡ true → Contains fewer clause) → CoversInductive d depth Allowed left
    → CoversInductive d depth Allowed fewer
covers_without_answer d depth Allowed left fewer asked stretch c answer at stay covers =
    covers_without_broken d depth Allowed left fewer stretch c
    (record {
      linked = answer.cycles.linked;
      resets = λ t o within.
          let x = get_or stretch t o in
          subst (λ (active : Bool). HasResets d active x) (le-ltb t 0 (omega arith)) (answer.cycles.resets t x (slice_get-get_or stretch t o within));
    })
    at (λ i before low there member inside. answer.kept i before member low there inside) stay covers
