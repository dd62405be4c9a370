-- Candidates whose base queries are asked, one after another.
use Rattle.std.proofs.Common.{◌≡◌, ℕ, suc, ◌+◌, ◌-◌, ◌<◌, ◌≤◌, List, [], ◌∷◌, ◌++◌, map, length, drop, Some, refl, ap, subst, sym, ◌∙◌}
use Rattle.std.proofs.Common.{arith, inl, inr, append_assoc, append-nil, add-one}
use Rattle.std.specs.Prelude.{slice_get, All, Contains, ◌⊎◌}
use Rattle.std.proofs.lemmas.Bool.{cases_lt}
use Rattle.std.proofs.lemmas.List.{length-append, map-append}
use Rattle.std.proofs.lemmas.List.Elements.{All-nil, All-push, Contains-push_cases}
use Rattle.std.proofs.lemmas.Option.{slice_get_within, get_or_from_slice_get}
use Rattle.std.proofs.Math.Seq.{drop-cons}
use Rattle.std.proofs.Math.ListN.{drop_of_length-le}
use Rattle.net_model.specs.Cycles.{IsRun}
use Rattle.net_model.proofs.Existence.{item_at}
use Rattle.net_model.specs.Queries.{IsAnswer, clause_query}
use Rattle.net_model.specs.declared.netlist.Design.{Design}
use Rattle.net_model.specs.declared.cycles.Cycle.{Cycle}
use Rattle.net_model.specs.declared.invariants.InvClause.{InvClause}
use Rattle.net_model.specs.declared.queries.Phase.TheVariants.{Base}
use Rattle.proof_log.specs.declared.derivations.Derivation.{Derivation}
use Rattle.verdicts.specs.Inductive.{StandOnce}
use Rattle.verdicts.specs.Kept.{IsEntry}
use Rattle.verdicts.specs.Logs.{own_coding, RefutesQuery, RefuteEach, IsSpentOn}
use Rattle.verdict_types.specs.Forms.{IsInForm}
use Rattle.verdicts.proofs.Extending.{push_cases}
use Rattle.verdicts.proofs.Keeping.{met_first}
use Rattle.induction.specs.Members.{clause_of}
use Rattle.query_asks.specs.Asks.{IsRefutedBy, IsRightOf}
use Rattle.query_asks.specs.declared.asks.Asked.{Asked}
use Rattle.induction.specs.Bases.{FailsLive, IsBased, IsRightBase}
use Rattle.induction.specs.declared.bases.Based.{Based}
use Rattle.induction.specs.declared.bases.Based.TheVariants.{Refuted, Failing, Spent}
use Rattle.induction.specs.Pools.{IsSearch, IsPoolAfter, IsPool, IsTried, Added, Failed, Entered, IsEmptyPool, base_entry}
use Rattle.induction.specs.declared.members.Member.{Member}
use Rattle.induction.specs.declared.pools.Pool.{Pool}
use Rattle.induction.proofs.Filters.{middle_within, middle_here, middle_cases}
use Rattle.induction.proofs.Standing.{once_middle, absent_middle}
use Rattle.induction.proofs.Searching.{search_first, search_failed, search_spent}

-- derivations in form of the base queries below an offset, none of which has an answer
pub record AreOffsetsDone (d : Design) (clause : InvClause) (count : ℕ) (base : List Derivation) : Type 0 where
  pub refuted : RefuteEach own_coding (λ offset. clause_query d (clause ∷ []) clause Base offset) count base
  pub none : (offset : ℕ) (run : List Cycle) → offset < count → ¬ IsAnswer (clause_query d (clause ∷ []) clause Base offset) run
  pub in_form : All IsInForm base

pub offsets_first : (d : Design) (clause : InvClause) → AreOffsetsDone d clause 0 []
offsets_first d clause =
    record {
      refuted = record { as_many = refl; each = λ k derivation at. cc };
      none = λ offset run low. absurd (omega (arith, low));
      in_form = All-nil IsInForm;
    }

pub offsets_more : (d : Design) (clause : InvClause) (count : ℕ) (base : List Derivation) (derivation : Derivation)
    → IsRefutedBy (clause_query d (clause ∷ []) clause Base count) derivation → AreOffsetsDone d clause count base
    → AreOffsetsDone d clause (count + 1) (base ++ derivation ∷ [])
offsets_more d clause count base derivation refuted done =
    record {
      refuted =
          record {
            as_many = omega (arith, length-append base (derivation ∷ []), done.refuted.as_many);
            each = λ k found at. elim (push_cases base derivation k found at) [
              | inl early ↦ done.refuted.each k found early
              | inr last ↦
                  let same : count ≡ k = omega (arith, last.0, done.refuted.as_many) in
                  subst (RefutesQuery own_coding (clause_query d (clause ∷ []) clause Base k)) last.1
                  (subst (λ (j : ℕ). RefutesQuery own_coding (clause_query d (clause ∷ []) clause Base j) derivation) same refuted.refutes)
            ];
          };
      none = λ offset run low. by (cases_lt offset count) low run;
      in_form = All-push IsInForm base derivation done.in_form refuted.in_form;
    }
  where
    by : {offset : ℕ} → (offset < count) ⊎ (count ≤ offset) → offset < count + 1 → (run : List Cycle)
        → ¬ IsAnswer (clause_query d (clause ∷ []) clause Base offset) run
    by (inl less) low run = done.none _ run less
    by {offset} (inr more) low run =
        let same : count ≡ offset = omega (arith, low, more) in
        subst (λ (j : ℕ). ¬ IsAnswer (clause_query d (clause ∷ []) clause Base j) run) same (refuted.none run)

pub offsets_all : (d : Design) (clause : InvClause) (depth : ℕ) (base : List Derivation) → AreOffsetsDone d clause depth base → IsBased d depth clause base
offsets_all d clause depth base done =
    record { refuted = done.refuted; first = met_first d (clause ∷ []) clause depth done.none; in_form = done.in_form }

-- what is left after some candidates, as the next one and the others
next_left : (candidates : List InvClause) (count : ℕ) (clause : InvClause) → slice_get candidates count ≡ Some clause
    → drop count candidates ≡ clause ∷ drop (count + 1) candidates
next_left candidates count clause at =
    drop-cons candidates count clause (slice_get_within candidates count clause at)
    ∙ ap (λ x. x ∷ drop (suc count) candidates) (get_or_from_slice_get candidates count clause clause at)
    ∙ ap (λ k. clause ∷ drop k candidates) (sym (add-one count))

-- one more member
pushed_left : (members : List Member) (clause : InvClause) (base : List Derivation) (rest : List InvClause)
    → map clause_of (members ++ record { clause = clause; base = base } ∷ []) ++ rest ≡ map clause_of members ++ clause ∷ rest
pushed_left members clause base rest =
    ap (λ xs. xs ++ rest) (map-append clause_of members (record { clause = clause; base = base } ∷ []))
    ∙ append_assoc (map clause_of members) (clause ∷ []) rest

pub pool_first : (d : Design) (depth budget : ℕ) (candidates : List InvClause) (pool : Pool) → StandOnce candidates → IsEmptyPool pool
    → IsPoolAfter d depth budget candidates 0 pool
pool_first d depth budget candidates pool once empty =
    record {
      search = subst (λ ms. IsSearch d depth budget candidates (map clause_of ms ++ candidates) pool.spent) (sym empty.members)
          (subst (λ ss. IsSearch d depth budget candidates candidates ss) (sym empty.spent) (search_first d depth budget candidates once));
      based = λ m has. absurd (omega (arith, (subst (λ ms. Contains ms m) empty.members has).1));
      runs = subst (All (IsRun d)) (sym empty.runs) (All-nil (IsRun d));
    }

pub pool_more : (d : Design) (depth budget : ℕ) (candidates : List InvClause) (count : ℕ) (clause : InvClause) (old new : Pool)
    → slice_get candidates count ≡ Some clause → IsTried d depth budget clause old new → IsPoolAfter d depth budget candidates count old
    → IsPoolAfter d depth budget candidates (count + 1) new
pool_more d depth budget candidates count clause old new at (Added base members spent runs based) so =
    let rest = drop (count + 1) candidates in
    let left : map clause_of old.members ++ drop count candidates ≡ map clause_of new.members ++ rest =
    ap (λ xs. map clause_of old.members ++ xs) (next_left candidates count clause at) ∙ sym (pushed_left old.members clause base rest)
    ∙ ap (λ ms. map clause_of ms ++ rest) (sym members) in
    record {
      search = subst (λ ss. IsSearch d depth budget candidates (map clause_of new.members ++ rest) ss) (sym spent)
          (subst (λ xs. IsSearch d depth budget candidates xs old.spent) left so.search);
      based = λ m has. elim (Contains-push_cases old.members (record { clause = clause; base = base }) m (subst (λ ms. Contains ms m) members has)) [
        | inl early ↦ so.based m early
        | inr last ↦ subst (λ (x : Member). IsBased d depth x.clause x.base) last based
      ];
      runs = runs;
    }
pool_more d depth budget candidates count clause old new at (Failed members spent runs fails) so =
    let rest = drop (count + 1) candidates in
    let xs = map clause_of old.members in
    let search = subst (λ ys. IsSearch d depth budget candidates (xs ++ ys) old.spent) (next_left candidates count clause at) so.search in
    record {
      search = subst (λ ss. IsSearch d depth budget candidates (map clause_of new.members ++ rest) ss) (sym spent)
          (subst (λ ms. IsSearch d depth budget candidates (map clause_of ms ++ rest) old.spent) (sym members)
          (search_failed d depth budget candidates (xs ++ clause ∷ rest) (xs ++ rest) old.spent clause fails
          (λ x has. middle_within xs rest clause x has) (once_middle xs rest clause search.once) (λ x has. middle_cases xs rest clause x has) search));
      based = λ m has. so.based m (subst (λ ms. Contains ms m) members has);
      runs = runs;
    }
pool_more d depth budget candidates count clause old new at (Entered offset log members spent runs low spends) so =
    let rest = drop (count + 1) candidates in
    let xs = map clause_of old.members in
    let search = subst (λ ys. IsSearch d depth budget candidates (xs ++ ys) old.spent) (next_left candidates count clause at) so.search in
    let entry : IsEntry d depth budget candidates (xs ++ rest) (base_entry clause offset log) =
    record {
      candidate = (search.unspent clause (middle_here xs rest clause)).candidate;
      left_out = absent_middle xs rest clause search.once;
      at = refl;
      against = (low, refl);
      log = spends;
    } in
    record {
      search = subst (λ ss. IsSearch d depth budget candidates (map clause_of new.members ++ rest) ss) (sym spent)
          (subst (λ ms. IsSearch d depth budget candidates (map clause_of ms ++ rest) (old.spent ++ base_entry clause offset log ∷ [])) (sym members)
          (search_spent d depth budget candidates (xs ++ clause ∷ rest) (xs ++ rest) old.spent (base_entry clause offset log) entry
          (λ x has. middle_within xs rest clause x has) (once_middle xs rest clause search.once) (λ x has. middle_cases xs rest clause x has) search));
      based = λ m has. so.based m (subst (λ ms. Contains ms m) members has);
      runs = runs;
    }

pub pool_all : (d : Design) (depth budget : ℕ) (candidates : List InvClause) (count : ℕ) (pool : Pool) → length candidates ≤ count
    → IsPoolAfter d depth budget candidates count pool → IsPool d depth budget candidates pool
pool_all d depth budget candidates count pool done so =
    let left : map clause_of pool.members ++ drop count candidates ≡ map clause_of pool.members =
    ap (λ xs. map clause_of pool.members ++ xs) (drop_of_length-le candidates done) ∙ append-nil (map clause_of pool.members) in
    record { search = subst (λ xs. IsSearch d depth budget candidates xs pool.spent) left so.search; based = so.based }

-- what is known of the query of a clause that stands alone
pub alone_right : (d : Design) (inv : List InvClause) (clause : InvClause) (offset budget : ℕ) (asked : Asked) → inv ≡ clause ∷ []
    → ((x : InvClause) → slice_get inv 0 ≡ Some x → IsRightOf (clause_query d inv x Base offset) budget asked)
    → IsRightOf (clause_query d (clause ∷ []) clause Base offset) budget asked
alone_right d inv clause offset budget asked is right =
    subst (λ (xs : List InvClause). IsRightOf (clause_query d xs clause Base offset) budget asked) is
    (right clause (ap (λ (xs : List InvClause). slice_get xs 0) is))

-- the run that answers it fails the clause in its last cycle
pub failing_of : (d : Design) (clause : InvClause) (offset : ℕ) (run : List Cycle) → IsAnswer (clause_query d (clause ∷ []) clause Base offset) run
    → IsRun d run × FailsLive d.reset_len run clause
failing_of d clause offset run answer =
    let t = d.reset_len + offset + 1 - 1 in
    let last = item_at run t (omega (arith, answer.cycles.count)) in (
      record { linked = answer.cycles.linked; resets = answer.cycles.resets },
      record { t = t; c = last.0; is_live = omega arith; at = last.1; fails = answer.asked last.0 last.1 },
    )

-- what is known by how the base queries end
pub based_refuted : (d : Design) (clause : InvClause) (depth budget : ℕ) (based : Based) (base : List Derivation) → based ≡ Refuted base
    → IsRightBase d clause depth budget based → IsBased d depth clause base
based_refuted d clause depth budget based base is right = subst (IsRightBase d clause depth budget) is right

pub based_failing : (d : Design) (clause : InvClause) (depth budget : ℕ) (based : Based) (run : List Cycle) → based ≡ Failing run
    → IsRightBase d clause depth budget based → IsRun d run × FailsLive d.reset_len run clause
based_failing d clause depth budget based run is right = subst (IsRightBase d clause depth budget) is right

pub based_spent : (d : Design) (clause : InvClause) (depth budget : ℕ) (based : Based) (offset : ℕ) (log : Derivation) → based ≡ Spent offset log
    → IsRightBase d clause depth budget based
    → (offset < depth) × IsSpentOn own_coding (clause_query d (clause ∷ []) clause Base offset) budget log
based_spent d clause depth budget based offset log is right = subst (IsRightBase d clause depth budget) is right
