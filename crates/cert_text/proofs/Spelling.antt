-- The certificate of what was found in form can be spelled, where no hint is too large.
use Rattle.std.proofs.Common.{ℕ, ◌+◌, ◌<◌, ◌≤◌, ◌^◌, List, [], ◌∷◌, length, get_or, arith}
use Rattle.std.specs.Prelude.{All}
use Rattle.std.specs.List.{AllByRecursion}
use Rattle.std.proofs.lemmas.List.Elements.{All-head, All-tail}
use Rattle.proof_log.specs.declared.derivations.Derivation.{Derivation}
use Rattle.verdict_types.specs.declared.kept.InvProof.{InvProof}
use Rattle.verdict_types.specs.declared.kept.InvSet.{InvSet}
use Rattle.verdict_types.specs.declared.outcomes.Proof.{Proof}
use Rattle.verdict_types.specs.declared.outcomes.Proof.TheVariants.{Single, Fixed, Depth}
use Rattle.verdict_types.specs.declared.outcomes.Verdict.{Verdict}
use Rattle.verdict_types.specs.declared.outcomes.Verdict.TheVariants.{Justified, Refuted, Undecided}
use Rattle.verdict_types.specs.Forms.{IsInForm, AreInForm, IsProofInForm, IsVerdictInForm, IsSetInForm}
use Rattle.cert_values.specs.declared.certs.PairProof.{PairProof}
use Rattle.cert_values.specs.Certs.{justified_from, cert_of}
use Rattle.cert_lines.specs.Derivations.{IsWritable}
use Rattle.cert_text.specs.Certs.{HasProof, IsPair, IsSpellable}
use Rattle.cert_text.specs.Found.{HaveSmallHints, HintSmall, IsProofWritable, TellsSmallHints, HasOnlySmallHints}
use Rattle.cert_text.proofs.FoundLemmas.{found_writable, proof_fits, found_fits}

each_writable : (ds : List Derivation) → All IsInForm ds → All HaveSmallHints ds → All IsWritable ds
each_writable ds form small = λ k d low. found_writable (get_or ds k d) (form k d low) (small k d low)

proofs_writable : (depth : ℕ) (ps : List InvProof) → All (λ (p : InvProof). AreInForm depth p.base p.step) ps
    → All (λ (p : InvProof). HintSmall p.base p.step) ps → All IsProofWritable ps
proofs_writable depth ps form small = λ k p low.
    let f = form k p low in
    let s = small k p low in
    (each_writable (get_or ps k p).base f.bases s.0, found_writable (get_or ps k p).step f.step s.1)

has_proof : (p : Proof) → IsProofInForm p → TellsSmallHints p → HasProof p
has_proof Single form small = tt
has_proof Fixed form small = tt
has_proof (Depth depth base step) form small =
    let f = form.1 in
    (form.0, proof_fits depth base step f.as_many (each_writable base f.bases small.0) (found_writable step f.step small.1))

abbrev tells_small : PairProof → Type 0
tells_small p = TellsSmallHints p.proof

-- the pairs of verdicts whose numbers begin with one, below 2^63
pairs_fit : (n : ℕ) (vs : List Verdict) → n + length vs ≤ 2 ^ 63 → All IsVerdictInForm vs → All tells_small (justified_from n vs)
    → AllByRecursion IsPair (justified_from n vs)
pairs_fit n [] few form small = tt
pairs_fit n (Justified proof ∷ vs) few form small =
    let pair : PairProof = record { number = n; proof = proof } in
    let less : n < 2 ^ 63 = omega arith in
    let shows : TellsSmallHints proof = All-head tells_small pair (justified_from (n + 1) vs) small in (
      record { small = less; proof = has_proof proof (All-head IsVerdictInForm (Justified proof) vs form) shows },
      pairs_fit (n + 1) vs (omega arith) (All-tail IsVerdictInForm (Justified proof) vs form)
          (All-tail tells_small pair (justified_from (n + 1) vs) small),
    )
pairs_fit n (Refuted offset stimulus ∷ vs) few form small =
    pairs_fit (n + 1) vs (omega arith) (All-tail IsVerdictInForm (Refuted offset stimulus) vs form) small
pairs_fit n (Undecided cause ∷ vs) few form small =
    pairs_fit (n + 1) vs (omega arith) (All-tail IsVerdictInForm (Undecided cause) vs form) small

pub found_spellable : (inv : InvSet) (verdicts : List Verdict) → length verdicts < 2 ^ 63 → IsSetInForm inv → All IsVerdictInForm verdicts
    → HasOnlySmallHints (cert_of inv verdicts) → IsSpellable (cert_of inv verdicts)
found_spellable inv verdicts few set form small =
    found_fits inv verdicts set (proofs_writable inv.depth inv.proofs set.each small.kept) (pairs_fit 1 verdicts (omega arith) form small.pairs)
