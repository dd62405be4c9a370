-- The text of a certificate.
use Rattle.std.specs.Prelude.{◌≡◌, ℕ, ◌<◌, ◌≤◌, ◌^◌, List, [], ◌++◌, length, Option, None, Some}
use Rattle.std.specs.List.{AllByRecursion}
use Rattle.net_model.specs.declared.queries.Phase.TheVariants.{Base, Step}
use Rattle.verdict_types.specs.declared.kept.InvProof.{InvProof}
use Rattle.verdict_types.specs.declared.outcomes.Proof.{Proof}
use Rattle.verdict_types.specs.declared.outcomes.Proof.TheVariants.{Single, Fixed, Depth}
use Rattle.cert_values.specs.declared.certs.PairProof.{PairProof}
use Rattle.cert_values.specs.declared.certs.Cert.{Cert}
use Rattle.cert_lines.specs.declared.heads.InvHead.{InvHead}
use Rattle.cert_lines.specs.declared.sections.Section.{Section}
use Rattle.cert_lines.specs.declared.sections.Section.TheVariants.{End}
use Rattle.cert_lines.specs.declared.sections.Section.TheVariants as line
use Rattle.cert_lines.specs.Kinds.{text_of, first_words, IsVersion, inv_words, IsInvHead, kept_words, IsKept, is_long, section_words}
use Rattle.cert_lines.specs.Texts.{AreMany, many_text}
use Rattle.cert_lines.specs.Derivations.{derivation_text, IsWritable}

-- the derivations at a depth: those of the base queries in order, then that of the step query
abbrev pub proof_text : InvProof → List ℕ
proof_text p = many_text (derivation_text Base) p.base ++ derivation_text Step p.step

pub record IsProof (depth : ℕ) (p : InvProof) : Type 0 where
  pub base : AreMany depth IsWritable p.base
  pub step : IsWritable p.step

-- the first line of a pair
abbrev pub section_of : ℕ → Proof → Section
section_of number Single = line.Single number
section_of number Fixed = line.Fixed number
section_of number (Depth depth base step) = line.Depth number depth

-- what follows that line: the derivations of a proof at a depth
abbrev pub rest_text : Proof → List ℕ
rest_text Single = []
rest_text Fixed = []
rest_text (Depth depth base step) = proof_text (record { base = base; step = step })

abbrev pub pair_text : PairProof → List ℕ
pair_text p = text_of section_words (section_of p.number p.proof) ++ rest_text p.proof

abbrev pub HasProof : Proof → Type 0
HasProof Single = Unit {0}
HasProof Fixed = Unit {0}
HasProof (Depth depth base step) = (depth ≤ 64) × IsProof depth (record { base = base; step = step })

pub record IsPair (p : PairProof) : Type 0 where
  pub small : p.number < 2 ^ 63
  pub proof : HasProof p.proof

-- pairs, and the last line
abbrev pub pairs_text : List PairProof → List ℕ
pairs_text pairs = many_text pair_text pairs ++ text_of section_words End

abbrev pub inv_head : Cert → InvHead
inv_head c = record { depth = c.depth; count = length c.kept }

abbrev pub cert_bytes : Cert → List ℕ
cert_bytes c =
    text_of first_words c.version ++ (text_of inv_words (inv_head c)
    ++ (many_text (text_of kept_words) c.kept ++ (many_text proof_text c.proofs ++ pairs_text c.pairs)))

-- a certificate that the text can spell
pub record IsSpellable (c : Cert) : Type 0 where
  pub version : IsVersion c.version
  pub head : IsInvHead (inv_head c)
  pub kept : AreMany (length c.kept) (IsKept (is_long c.version)) c.kept
  pub proofs : AreMany (length c.kept) (IsProof c.depth) c.proofs
  pub pairs : AllByRecursion IsPair c.pairs

-- the bytes are the text of the certificate
pub record Spells (bytes : List ℕ) (c : Cert) : Type 0 where
  pub is : bytes ≡ cert_bytes c
  pub fits : IsSpellable c

-- a pair, or the last line
abbrev pub next_text : Option PairProof → List ℕ
next_text None = text_of section_words End
next_text (Some p) = pair_text p

abbrev pub IsNext : Option PairProof → Type 0
IsNext None = Unit {0}
IsNext (Some p) = IsPair p
