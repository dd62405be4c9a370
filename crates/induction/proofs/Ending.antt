-- Where each step query is refuted, what is left is the greatest inductive set, and has its derivations.
use Rattle.std.proofs.Common.{◌≡◌, ℕ, zero, suc, ◌^◌, ◌<◌, ◌≤◌, List, [], ◌∷◌, ◌++◌, length, map, reverse, Some, refl, ap, subst, sym, ◌∙◌, arith, append_assoc, inl, inr}
use Rattle.std.specs.Prelude.{slice_get, All, Contains, ◌⊎◌}
use Rattle.std.proofs.lemmas.List.{length-map, length-append, reverse-append}
use Rattle.std.proofs.lemmas.List.Elements.{All-nil, All-contains, Contains-get_or}
use Rattle.std.proofs.lemmas.Option.{slice_get_within, get_or_from_slice_get, slice_get-get_or, same_Some}
use Rattle.net_model.proofs.Existence.{item_at}
use Rattle.net_model.proofs.Members.{In-from_Contains, Contains-from_In, from_map}
use Rattle.net_model.specs.Queries.{clause_query}
use Rattle.net_model.specs.declared.netlist.Design.{Design}
use Rattle.net_model.specs.declared.invariants.InvClause.{InvClause}
use Rattle.net_model.specs.declared.queries.Phase.TheVariants.{Base}
use Rattle.proof_log.specs.declared.derivations.Derivation.{Derivation}
use Rattle.verdicts.specs.Inductive.{IsInductive, IsMetFirst, IsGreatest, StandOnce}
use Rattle.verdicts.specs.Logs.{own_coding, RefuteEach}
use Rattle.verdicts.specs.Certified.{ProvesClause, ProveKept}
use Rattle.verdicts.specs.Kept.{IsEntry, IsUnspent, IsKeptSet}
use Rattle.verdict_types.specs.Forms.{IsInForm, AreInForm, IsKeptClause, IsSetInForm}
use Rattle.verdict_types.specs.declared.kept.InvProof.{InvProof}
use Rattle.verdict_types.specs.declared.kept.InvSpent.{InvSpent}
use Rattle.verdict_types.specs.declared.kept.InvSet.{InvSet}
use Rattle.verdicts.proofs.Greatest.{greatest_of, empty_greatest}
use Rattle.verdicts.proofs.Keeping.{always_met}
use Rattle.verdicts.proofs.Refuting.{base_refuted_same}
use Rattle.induction.specs.Members.{clause_of, proofs_of}
use Rattle.induction.specs.Bases.{IsBased}
use Rattle.induction.specs.Pools.{IsSearch, AreBased, IsEmptySet}
use Rattle.induction.specs.Steps.{AreStepsRefuted}
use Rattle.induction.specs.declared.members.Member.{Member}

-- a fact of all candidates is one of the clauses that are left
pub all_left : (P : InvClause → Type 0) (d : Design) (depth budget : ℕ) (candidates left : List InvClause) (spent : List InvSpent) → All P candidates
    → IsSearch d depth budget candidates left spent → All P left
all_left P d depth budget candidates left spent all so = λ k o low.
    let has = (so.unspent _ (Contains-get_or left k o low)).candidate in All-contains P candidates _ all has

-- the derivations of the first members, where one more is known
pub proofs_push : (members : List Member) (steps : List Derivation) (m : Member) (step : Derivation) → length members ≡ length steps
    → proofs_of (members ++ m ∷ []) (steps ++ step ∷ []) ≡ proofs_of members steps ++ record { base = m.base; step = step } ∷ []
proofs_push [] [] m step same = refl
proofs_push [] (s ∷ steps) m step same = absurd (omega (arith, same))
proofs_push (x ∷ members) [] m step same = absurd (omega (arith, same))
proofs_push (x ∷ members) (s ∷ steps) m step same = ap (λ ps. record { base = x.base; step = s } ∷ ps) (proofs_push members steps m step (omega (arith, same)))

length-proofs : (members : List Member) (steps : List Derivation) → length members ≡ length steps → length (proofs_of members steps) ≡ length members
length-proofs [] steps same = refl
length-proofs (m ∷ members) [] same = absurd (omega (arith, same))
length-proofs (m ∷ members) (s ∷ steps) same = ap suc (length-proofs members steps (omega (arith, same)))

-- the parts of a derivation at a place
record IsPart (members : List Member) (steps : List Derivation) (place : ℕ) (proof : InvProof) : Type 0 where
  member : Member
  at : slice_get members place ≡ Some member
  base : proof.base ≡ member.base
  step_at : slice_get steps place ≡ Some proof.step

part_at : (members : List Member) (steps : List Derivation) (place : ℕ) (proof : InvProof) → slice_get (proofs_of members steps) place ≡ Some proof
    → IsPart members steps place proof
part_at [] steps place proof at = cc
part_at (m ∷ members) [] place proof at = cc
part_at (m ∷ members) (s ∷ steps) zero proof at =
    let same : record { base = m.base; step = s } ≡ proof = same_Some (record { base = m.base; step = s }) proof at in
    record { member = m; at = refl; base = ap (λ (p : InvProof). p.base) (sym same); step_at = ap (λ (p : InvProof). Some p.step) same }
part_at (m ∷ members) (s ∷ steps) (suc place) proof at =
    let more = part_at members steps place proof at in record { member = more.member; at = more.at; base = more.base; step_at = more.step_at }

clause_at : (members : List Member) (place : ℕ) (m : Member) (clause : InvClause) → slice_get members place ≡ Some m
    → slice_get (map clause_of members) place ≡ Some clause → m.clause ≡ clause
clause_at [] place m clause at there = cc
clause_at (x ∷ members) zero m clause at there = cc
clause_at (x ∷ members) (suc place) m clause at there = clause_at members place m clause at there

-- base derivations, against other clauses
base_against : (d : Design) (depth : ℕ) (kept : List InvClause) (clause : InvClause) (base : List Derivation) → IsBased d depth clause base
    → RefuteEach own_coding (λ offset. clause_query d kept clause Base offset) depth base
base_against d depth kept clause base is =
    record {
      as_many = is.refuted.as_many;
      each = λ k derivation at. base_refuted_same own_coding d (clause ∷ []) kept clause k derivation (is.refuted.each k derivation at);
    }

proves_at : (d : Design) (depth : ℕ) (members : List Member) (steps : List Derivation) (place : ℕ) (clause : InvClause) (proof : InvProof)
    → AreBased d depth members → AreStepsRefuted d (map clause_of members) depth (length (map clause_of members)) steps
    → slice_get (map clause_of members) place ≡ Some clause → slice_get (proofs_of members steps) place ≡ Some proof
    → ProvesClause own_coding d (map clause_of members) depth clause proof
proves_at d depth members steps place clause proof based refuted at there =
    let part = part_at members steps place proof there in
    let m = part.member in
    let has : Contains members m = (place, slice_get_within members place m part.at, get_or_from_slice_get members place m m part.at) in
    let same : m.clause ≡ clause = clause_at members place m clause part.at at in
    record {
      base = subst (λ ds. RefuteEach own_coding (λ offset. clause_query d (map clause_of members) clause Base offset) depth ds) (sym part.base)
          (subst (λ (x : InvClause). RefuteEach own_coding (λ offset. clause_query d (map clause_of members) x Base offset) depth m.base) same
          (base_against d depth (map clause_of members) m.clause m.base (based m has)));
      step = (refuted.each place clause proof.step at part.step_at).refuted;
    }

form_at : (d : Design) (depth : ℕ) (members : List Member) (steps : List Derivation) (place : ℕ) (proof : InvProof) → AreBased d depth members
    → AreStepsRefuted d (map clause_of members) depth (length (map clause_of members)) steps → slice_get (proofs_of members steps) place ≡ Some proof
    → AreInForm depth proof.base proof.step
form_at d depth members steps place proof based refuted there =
    let part = part_at members steps place proof there in
    let m = part.member in
    let has : Contains members m = (place, slice_get_within members place m part.at, get_or_from_slice_get members place m m part.at) in
    let low : place < length steps = slice_get_within steps place proof.step part.step_at in
    let clause = item_at (map clause_of members) place (omega (arith, low, refuted.as_many)) in
    record {
      as_many = ap length part.base ∙ (based m has).refuted.as_many;
      bases = subst (All IsInForm) (sym part.base) (based m has).in_form;
      step = (refuted.each place clause.0 proof.step clause.1 part.step_at).in_form;
    }

-- the set is in form, where the candidates are
pub done_in_form : (d : Design) (depth budget : ℕ) (candidates : List InvClause) (members : List Member) (spent : List InvSpent) (steps : List Derivation)
    → 0 < depth → depth ≤ 8 → length (map clause_of members) < 2 ^ 63 → AreBased d depth members
    → AreStepsRefuted d (map clause_of members) depth (length (map clause_of members)) steps
    → IsSearch d depth budget candidates (map clause_of members) spent → All IsKeptClause candidates
    → IsSetInForm (record { depth = depth; kept = map clause_of members; proofs = proofs_of members steps; spent = spent })
done_in_form d depth budget candidates members spent steps deep low few based refuted so all =
    record {
      low = low;
      none = λ zero_is. absurd (omega (arith, deep, zero_is));
      few = few;
      clauses = all_left IsKeptClause d depth budget candidates (map clause_of members) spent all so;
      as_many = length-proofs members steps (omega (arith, refuted.as_many, length-map members clause_of)) ∙ sym (length-map members clause_of);
      each = λ k o within. form_at d depth members steps k _ based refuted (slice_get-get_or (proofs_of members steps) k o within);
    }

pub empty_in_form : (depth : ℕ) (set : InvSet) → depth ≤ 8 → IsEmptySet depth set → IsSetInForm set
empty_in_form depth set low empty =
    record {
      low = omega (arith, low, empty.at_depth);
      none = λ zero_is. empty.kept;
      few = omega (arith, ap length empty.kept);
      clauses = subst (All IsKeptClause) (sym empty.kept) (All-nil IsKeptClause);
      as_many = ap length empty.proofs ∙ sym (ap length empty.kept);
      each = subst (All (λ (p : InvProof). AreInForm set.depth p.base p.step)) (sym empty.proofs) (All-nil (λ (p : InvProof). AreInForm set.depth p.base p.step));
    }

pub search_done : (d : Design) (depth budget : ℕ) (candidates : List InvClause) (members : List Member) (spent : List InvSpent) (steps : List Derivation)
    → 0 < depth → AreBased d depth members → AreStepsRefuted d (map clause_of members) depth (length (map clause_of members)) steps
    → IsSearch d depth budget candidates (map clause_of members) spent
    → IsKeptSet d depth budget candidates (record { depth = depth; kept = map clause_of members; proofs = proofs_of members steps; spent = spent })
search_done d depth budget candidates members spent steps deep based refuted so =
    let kept = map clause_of members in
    let inductive : IsInductive d depth kept =
    record {
      deep = λ clause has. deep;
      first = λ clause has.
          let found = from_map clause_of clause members (In-from_Contains kept clause has) in
          subst (λ (x : InvClause). IsMetFirst d depth x) found.2 (based found.0 (Contains-from_In members found.0 found.1)).first;
      next = λ clause has.
          let step = item_at steps has.0 (omega (arith, has.1, refuted.as_many)) in
          (refuted.each has.0 clause step.0 (slice_get-get_or kept has.0 clause has.1 ∙ ap Some has.2) step.1).next;
    } in
    record {
      at_depth = refl;
      greatest = greatest_of d depth (IsUnspent candidates spent) kept so.unspent inductive so.covers;
      once = so.once;
      proofs =
          record {
            deep = λ clause has. deep;
            as_many = length-proofs members steps (omega (arith, refuted.as_many, length-map members clause_of)) ∙ sym (length-map members clause_of);
            each = λ place clause proof at there. proves_at d depth members steps place clause proof based refuted at there;
          };
      met = always_met d depth kept inductive;
      entries = so.entries;
    }

-- no clause is in an inductive set at depth 0, nor in one of no candidates
nothing_greatest : (d : Design) (depth : ℕ) (candidates : List InvClause) (spent : List InvSpent) → (depth ≡ 0) ⊎ (candidates ≡ [])
    → IsGreatest d depth (IsUnspent candidates spent) []
nothing_greatest d depth candidates spent (inl flat) =
    subst (λ (k : ℕ). IsGreatest d k (IsUnspent candidates spent) []) (sym flat) (empty_greatest d (IsUnspent candidates spent))
nothing_greatest d depth candidates spent (inr none) =
    record {
      allowed = λ clause has. absurd (omega (arith, has.1));
      inductive_ =
          record {
            deep = λ clause has. absurd (omega (arith, has.1));
            first = λ clause has. absurd (omega (arith, has.1));
            next = λ clause has. absurd (omega (arith, has.1));
          };
      greatest = λ other allowed inductive clause has.
          absurd (omega (arith, (subst (λ (cs : List InvClause). Contains cs clause) none (allowed clause has).candidate).1));
    }

-- at depth 0 and of no candidates nothing is kept
pub empty_kept : (d : Design) (depth budget : ℕ) (candidates : List InvClause) (set : InvSet) → (depth ≡ 0) ⊎ (candidates ≡ []) → IsEmptySet depth set
    → IsKeptSet d depth budget candidates set
empty_kept d depth budget candidates set nothing empty =
    record {
      at_depth = empty.at_depth;
      greatest = subst (IsGreatest d depth (IsUnspent candidates set.spent)) (sym empty.kept) (nothing_greatest d depth candidates set.spent nothing);
      once = subst StandOnce (sym empty.kept) tt;
      proofs = subst (λ (ks : List InvClause). ProveKept own_coding d ks depth set.proofs) (sym empty.kept)
          (subst (ProveKept own_coding d [] depth) (sym empty.proofs)
          (record { deep = λ clause has. absurd (omega (arith, has.1)); as_many = refl; each = λ place clause proof at there. cc }));
      met = λ clause has. absurd (omega (arith, (subst (λ (ks : List InvClause). Contains ks clause) empty.kept has).1));
      entries = subst (All (IsEntry d depth budget candidates set.kept)) (sym empty.spent) (All-nil (IsEntry d depth budget candidates set.kept));
    }

-- one more proof, from the ends of both lists
pub record AreProofsTaken (members : List Member) (steps : List Derivation) (proofs whole : List InvProof) : Type 0 where
  pub same : length members ≡ length steps
  pub whole_is : proofs_of members steps ++ reverse proofs ≡ whole

pub proofs_taken : (members fewer : List Member) (steps less : List Derivation) (proofs more whole : List InvProof) (m : Member) (step : Derivation)
    → members ≡ fewer ++ m ∷ [] → steps ≡ less ++ step ∷ [] → more ≡ proofs ++ record { base = m.base; step = step } ∷ []
    → length members ≡ length steps → proofs_of members steps ++ reverse proofs ≡ whole → AreProofsTaken fewer less more whole
proofs_taken members fewer steps less proofs more whole m step one other pushed same is =
    let proof : InvProof = record { base = m.base; step = step } in
    let lengths : length fewer ≡ length less =
    omega (arith, same, ap length one, ap length other, length-append fewer (m ∷ []), length-append less (step ∷ [])) in
    record {
      same = lengths;
      whole_is =
          ap (λ (ps : List InvProof). proofs_of fewer less ++ reverse ps) pushed
          ∙ ap (λ (ps : List InvProof). proofs_of fewer less ++ ps) (reverse-append proofs (proof ∷ []))
          ∙ sym (append_assoc (proofs_of fewer less) (proof ∷ []) (reverse proofs))
          ∙ ap (λ (ps : List InvProof). ps ++ reverse proofs) (sym (proofs_push fewer less m step lengths))
          ∙ ap (λ (ms : List Member). proofs_of ms (less ++ step ∷ []) ++ reverse proofs) (sym one)
          ∙ ap (λ (ss : List Derivation). proofs_of members ss ++ reverse proofs) (sym other) ∙ is;
    }
