-- A certificate that the text can spell has all its derivations.
use Rattle.std.proofs.Common.{◌≡◌, length}
use Rattle.std.proofs.lemmas.List.{nil_from_length}
use Rattle.std.proofs.lemmas.List.Elements.{All-weaker, All-from_recursion}
use Rattle.verdict_types.specs.declared.kept.InvProof.{InvProof}
use Rattle.verdict_types.specs.declared.outcomes.Proof.{Proof}
use Rattle.verdict_types.specs.declared.outcomes.Proof.TheVariants.{Single, Fixed, Depth}
use Rattle.cert_values.specs.Certs.{HasBases, IsComplete}
use Rattle.cert_values.specs.declared.certs.PairProof.{PairProof}
use Rattle.cert_values.specs.declared.certs.Cert.{Cert}
use Rattle.cert_text.specs.Certs.{IsProof, HasProof, IsPair, IsSpellable}

bases_of : (p : Proof) → HasProof p → HasBases p
bases_of Single h = tt
bases_of Fixed h = tt
bases_of (Depth depth base step) h = (h.0, h.1.base.count)

-- what can be spelled has all its derivations
pub spellable_complete : (c : Cert) → IsSpellable c → IsComplete c
spellable_complete c fits = record {
  few = fits.head.deep;
  none = λ none. nil_from_length c.kept (fits.head.none none);
  as_many = fits.proofs.count;
  bases =
      All-weaker (IsProof c.depth) (λ (p : InvProof). length p.base ≡ c.depth) (λ p f. f.base.count) c.proofs
      (All-from_recursion (IsProof c.depth) c.proofs fits.proofs.fit);
  pairs =
      All-weaker IsPair (λ (p : PairProof). HasBases p.proof) (λ p f. bases_of p.proof f.proof) c.pairs
      (All-from_recursion IsPair c.pairs fits.pairs);
}
