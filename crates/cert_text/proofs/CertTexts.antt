-- A whole certificate in a text.
use Rattle.std.proofs.Common.{inl, ◌≡◌, ℕ, ◌+◌, ◌<◌, ◌^◌, List, [], ◌++◌, length, refl, sym, ap, ◌∙◌, subst, append_assoc, append-nil, arith}
use Rattle.std.specs.List.{AllByRecursion}
use Rattle.std.specs.Fmt.{decimal}
use Rattle.std.proofs.lemmas.Fmt.{decimal_injective}
use Rattle.cert_words.proofs.Tokens.{number_token}
use Rattle.cert_words.proofs.LineLemmas.{IsKind}
use Rattle.net_model.specs.declared.invariants.InvClause.{InvClause}
use Rattle.verdict_types.specs.declared.kept.InvProof.{InvProof}
use Rattle.cert_values.specs.declared.certs.PairProof.{PairProof}
use Rattle.cert_values.specs.declared.certs.Cert.{Cert}
use Rattle.cert_lines.specs.declared.heads.InvHead.{InvHead}
use Rattle.cert_lines.specs.Kinds.{text_of, first_words, IsVersion, inv_words, IsInvHead, kept_words, IsKept, is_long}
use Rattle.cert_lines.proofs.KindLemmas.{version_small, first_kind, inv_kind, kept_kind}
use Rattle.cert_lines.specs.declared.faults.Fault.{Fault}
use Rattle.cert_lines.specs.Texts.{IsWhole, IsFault, AreMany, many_text}
use Rattle.cert_lines.proofs.Leading.{Tells, Leads, IsPast, past_start, past_next, leads_past, whole_later, fault_later}
use Rattle.cert_lines.proofs.LineTexts.{line_tells, line_whole}
use Rattle.cert_lines.proofs.ManyTexts.{many_tells, many_whole, filled}
use Rattle.cert_lines.proofs.Shortest.{no_inv, no_inv_fits, one_state, one_state_fits}
use Rattle.cert_lines.specs.Kinds.{section_words}
use Rattle.cert_lines.specs.declared.sections.Section.TheVariants.{End}
use Rattle.cert_text.specs.Certs.{proof_text, IsProof, IsPair, pair_text, pairs_text, inv_head, cert_bytes, IsSpellable}
use Rattle.cert_text.proofs.ProofTexts.{proof_tells, proof_whole, shortest}
use Rattle.cert_text.proofs.PairTexts.{pairs_tell, pair_whole}

-- a kept clause of a version
abbrev KeptIn : ℕ → InvClause → Type 0
KeptIn version = IsKept (is_long version)

abbrev clauses_text : List InvClause → List ℕ
clauses_text kept = many_text (text_of kept_words) kept

abbrev proofs_text : List InvProof → List ℕ
proofs_text proofs = many_text proof_text proofs

abbrev first_text : ℕ → List ℕ
first_text version = text_of first_words version

abbrev after_kept : Cert → List ℕ
after_kept c = proofs_text c.proofs ++ pairs_text c.pairs

abbrev after_head : Cert → List ℕ
after_head c = clauses_text c.kept ++ after_kept c

abbrev cert_with : ℕ → InvHead → List InvClause → List InvProof → List PairProof → Cert
cert_with version head kept proofs pairs = record { version = version; depth = head.depth; kept = kept; proofs = proofs; pairs = pairs }

head_is : (version : ℕ) (head : InvHead) (kept : List InvClause) (proofs : List InvProof) (pairs : List PairProof) → length kept ≡ head.count
    → inv_head (cert_with version head kept proofs pairs) ≡ head
head_is version head kept proofs pairs count = ap (λ (n : ℕ). record { depth = head.depth; count = n }) count

made_fits : (version : ℕ) (head : InvHead) (kept : List InvClause) (proofs : List InvProof) (pairs : List PairProof) → IsVersion version → IsInvHead head
    → AreMany head.count (KeptIn version) kept → AreMany head.count (IsProof head.depth) proofs → AllByRecursion IsPair pairs
    → IsSpellable (cert_with version head kept proofs pairs)
made_fits version head kept proofs pairs fv fh fk fp fq = record {
  version = fv;
  head = subst IsInvHead (sym (head_is version head kept proofs pairs fk.count)) fh;
  kept = record { count = refl; fit = fk.fit };
  proofs = record { count = fp.count ∙ sym fk.count; fit = fp.fit };
  pairs = fq;
}

made_text : (version : ℕ) (head : InvHead) (kept : List InvClause) (proofs : List InvProof) (pairs : List PairProof) → length kept ≡ head.count
    → cert_bytes (cert_with version head kept proofs pairs) ≡ first_text version
    ++ (text_of inv_words head ++ (clauses_text kept ++ (proofs_text proofs ++ pairs_text pairs)))
made_text version head kept proofs pairs count =
    ap (λ (h : InvHead). first_text version ++ (text_of inv_words h ++ (clauses_text kept ++ (proofs_text proofs ++ pairs_text pairs))))
    (head_is version head kept proofs pairs count)

-- what the parts before a place agree on
abbrev Agree1 : ℕ → Cert → Type 0
Agree1 version c = Unit {0} × (c.version ≡ version)

abbrev Agree2 : ℕ → InvHead → Cert → Type 0
Agree2 version head c = Agree1 version c × (inv_head c ≡ head)

abbrev Agree3 : ℕ → InvHead → List InvClause → Cert → Type 0
Agree3 version head kept c = Agree2 version head c × (c.kept ≡ kept)

abbrev Agree4 : ℕ → InvHead → List InvClause → List InvProof → Cert → Type 0
Agree4 version head kept proofs c = Agree3 version head kept c × (c.proofs ≡ proofs)

kept_part : (version : ℕ) (head : InvHead) (c : Cert) → IsSpellable c → Agree2 version head c
    → AreMany head.count (KeptIn version) c.kept × (after_head c ≡ clauses_text c.kept ++ after_kept c)
kept_part version head c fc a = (
  record {
    count = ap (λ (h : InvHead). h.count) a.1;
    fit = subst (λ (v : ℕ). AllByRecursion (KeptIn v) c.kept) a.0.1 fc.kept.fit;
  },
  refl,
)

proofs_part : (head : InvHead) (c : Cert) → IsSpellable c → inv_head c ≡ head → AreMany head.count (IsProof head.depth) c.proofs
proofs_part head c fc same = record {
  count = fc.proofs.count ∙ ap (λ (h : InvHead). h.count) same;
  fit = subst (λ (d : ℕ). AllByRecursion (IsProof d) c.proofs) (ap (λ (h : InvHead). h.depth) same) fc.proofs.fit;
}

past1 : (version : ℕ) → IsVersion version → IsPast IsSpellable cert_bytes (first_text version) (Agree1 version)
    (λ c. text_of inv_words (inv_head c) ++ after_head c)
past1 version fv =
    past_next IsSpellable cert_bytes IsVersion (text_of first_words) (line_tells IsVersion first_words first_kind) [] (λ c. Unit {0}) cert_bytes
    (past_start IsSpellable cert_bytes) (λ c. c.version) (λ c. text_of inv_words (inv_head c) ++ after_head c) (λ c fc a. (fc.version, refl)) version fv

past2 : (version : ℕ) → IsVersion version → (head : InvHead) → IsInvHead head
    → IsPast IsSpellable cert_bytes (first_text version ++ text_of inv_words head) (Agree2 version head) after_head
past2 version fv head fh =
    past_next IsSpellable cert_bytes IsInvHead (text_of inv_words) (line_tells IsInvHead inv_words inv_kind) (first_text version) (Agree1 version)
    (λ c. text_of inv_words (inv_head c) ++ after_head c) (past1 version fv) inv_head after_head (λ c fc a. (fc.head, refl)) head fh

past3 : (version : ℕ) → IsVersion version → (head : InvHead) → IsInvHead head → (kept : List InvClause) → AreMany head.count (KeptIn version) kept
    → IsPast IsSpellable cert_bytes ((first_text version ++ text_of inv_words head) ++ clauses_text kept) (Agree3 version head kept) after_kept
past3 version fv head fh kept fk =
    past_next IsSpellable cert_bytes (AreMany head.count (KeptIn version)) (many_text (text_of kept_words))
    (many_tells (KeptIn version) (text_of kept_words) (line_tells (KeptIn version) kept_words (kept_kind (is_long version))) head.count)
    (first_text version ++ text_of inv_words head)
    (Agree2 version head) after_head (past2 version fv head fh) (λ c. c.kept) after_kept (kept_part version head) kept fk

past4 : (version : ℕ) → IsVersion version → (head : InvHead) → IsInvHead head → (kept : List InvClause) → AreMany head.count (KeptIn version) kept
    → (proofs : List InvProof)
    → AreMany head.count (IsProof head.depth) proofs
    → IsPast IsSpellable cert_bytes (((first_text version ++ text_of inv_words head) ++ clauses_text kept) ++ proofs_text proofs)
    (Agree4 version head kept proofs) (λ c. pairs_text c.pairs)
past4 version fv head fh kept fk proofs fp =
    past_next IsSpellable cert_bytes (AreMany head.count (IsProof head.depth)) (many_text proof_text)
    (many_tells (IsProof head.depth) proof_text (proof_tells head.depth) head.count) ((first_text version ++ text_of inv_words head) ++ clauses_text kept)
    (Agree3 version head kept) after_kept (past3 version fv head fh kept fk) (λ c. c.proofs) (λ c. pairs_text c.pairs)
    (λ c fc a. (proofs_part head c fc a.0.1, refl)) proofs fp

head_whole : (version : ℕ) (head : InvHead) → IsWhole (first_text version ++ text_of inv_words head)
head_whole version head = whole_later (first_text version) (text_of inv_words head) (line_whole first_words version) (line_whole inv_words head)

kept_whole : (version : ℕ) (head : InvHead) (kept : List InvClause) → IsWhole ((first_text version ++ text_of inv_words head) ++ clauses_text kept)
kept_whole version head kept =
    whole_later (first_text version ++ text_of inv_words head) (clauses_text kept) (head_whole version head)
    (many_whole (text_of kept_words) (line_whole kept_words) kept)

proofs_whole : (version : ℕ) (head : InvHead) (kept : List InvClause) (proofs : List InvProof)
    → IsWhole (((first_text version ++ text_of inv_words head) ++ clauses_text kept) ++ proofs_text proofs)
proofs_whole version head kept proofs =
    whole_later ((first_text version ++ text_of inv_words head) ++ clauses_text kept) (proofs_text proofs) (kept_whole version head kept)
    (many_whole proof_text proof_whole proofs)

abbrev least : ℕ → Cert
least version = cert_with version no_inv [] [] []

-- the first line is missing
pub first_fault : (bytes : List ℕ) (place : ℕ) (f : Fault) → IsFault IsVersion (text_of first_words) bytes place f
    → IsFault IsSpellable cert_bytes bytes place f
first_fault bytes place f e = fault_later IsSpellable cert_bytes IsVersion (text_of first_words) [] leads bytes bytes place place refl refl f e
  where
    leads : Leads IsSpellable cert_bytes IsVersion (text_of first_words) []
    leads =
        leads_past IsSpellable cert_bytes IsVersion (text_of first_words) [] (λ c. Unit {0}) cert_bytes (past_start IsSpellable cert_bytes)
        (λ c. c.version) (λ c. text_of inv_words (inv_head c) ++ after_head c) (λ c fc a. (fc.version, refl)) (inl refl)
        (λ v fv. (
          least v,
          made_fits v no_inv [] [] [] fv no_inv_fits (record { count = refl; fit = tt }) (record { count = refl; fit = tt }) tt,
          text_of inv_words (inv_head (least v)) ++ after_head (least v),
          refl,
        ))

-- the line of kept clauses is missing
pub head_fault : (version : ℕ) → IsVersion version → (rest bytes : List ℕ) (now place : ℕ) → bytes ≡ first_text version ++ rest
    → now + length rest ≡ place + length bytes → (f : Fault)
    → IsFault IsInvHead (text_of inv_words) rest now f → IsFault IsSpellable cert_bytes bytes place f
head_fault version fv rest bytes now place is left f e = fault_later IsSpellable cert_bytes IsInvHead (text_of inv_words)
    (first_text version) leads rest bytes now place is left f e
  where
    leads : Leads IsSpellable cert_bytes IsInvHead (text_of inv_words) (first_text version)
    leads =
        leads_past IsSpellable cert_bytes IsInvHead (text_of inv_words) (first_text version) (Agree1 version)
        (λ c. text_of inv_words (inv_head c) ++ after_head c) (past1 version fv) inv_head after_head (λ c fc a. (fc.head, refl))
        (line_whole first_words version)
        (λ head fh.
        let kept = filled (KeptIn version) one_state (one_state_fits (is_long version)) head.count in
        let least = shortest head.depth in
        let proofs = filled (IsProof head.depth) least.proof least.fits head.count in (
          cert_with version head kept.vs proofs.vs [],
          made_fits version head kept.vs proofs.vs [] fv fh kept.many proofs.many tt,
          clauses_text kept.vs ++ (proofs_text proofs.vs ++ pairs_text []),
          made_text version head kept.vs proofs.vs [] kept.many.count,
        ))

-- a kept clause is
pub kept_fault : (version : ℕ) → IsVersion version → (head : InvHead) → IsInvHead head → (rest bytes : List ℕ) (now place : ℕ)
    → bytes ≡ (first_text version ++ text_of inv_words head) ++ rest → now + length rest ≡ place + length bytes → (f : Fault)
    → IsFault (AreMany head.count (KeptIn version)) (many_text (text_of kept_words)) rest now f → IsFault IsSpellable cert_bytes bytes place f
kept_fault version fv head fh rest bytes now place is left f e =
    fault_later IsSpellable cert_bytes (AreMany head.count (KeptIn version)) (many_text (text_of kept_words))
    (first_text version ++ text_of inv_words head) leads rest bytes now place is left f e
  where
    leads : Leads IsSpellable cert_bytes (AreMany head.count (KeptIn version)) (many_text (text_of kept_words)) (first_text version ++ text_of inv_words head)
    leads =
        leads_past IsSpellable cert_bytes (AreMany head.count (KeptIn version)) (many_text (text_of kept_words)) (first_text version ++ text_of inv_words head)
        (Agree2 version head) after_head (past2 version fv head fh) (λ c. c.kept) after_kept (kept_part version head) (head_whole version head)
        (λ kept fk.
        let least = shortest head.depth in
        let proofs = filled (IsProof head.depth) least.proof least.fits head.count in (
          cert_with version head kept proofs.vs [],
          made_fits version head kept proofs.vs [] fv fh fk proofs.many tt,
          proofs_text proofs.vs ++ pairs_text [],
          made_text version head kept proofs.vs [] fk.count
              ∙ sym (append_assoc (first_text version) (text_of inv_words head) (clauses_text kept ++ (proofs_text proofs.vs ++ pairs_text []))),
        ))

-- the derivations of a kept clause are
pub proofs_fault : (version : ℕ) → IsVersion version → (head : InvHead) → IsInvHead head → (kept : List InvClause) → AreMany head.count (KeptIn version) kept
    → (rest bytes : List ℕ) (now place : ℕ) → bytes ≡ ((first_text version ++ text_of inv_words head) ++ clauses_text kept) ++ rest
    → now + length rest ≡ place + length bytes → (f : Fault) → IsFault (AreMany head.count (IsProof head.depth)) (many_text proof_text) rest now f
    → IsFault IsSpellable cert_bytes bytes place f
proofs_fault version fv head fh kept fk rest bytes now place is left f e =
    fault_later IsSpellable cert_bytes (AreMany head.count (IsProof head.depth)) (many_text proof_text)
    ((first_text version ++ text_of inv_words head) ++ clauses_text kept) leads rest bytes now place is left f e
  where
    leads : Leads IsSpellable cert_bytes (AreMany head.count (IsProof head.depth)) (many_text proof_text)
        ((first_text version ++ text_of inv_words head) ++ clauses_text kept)
    leads =
        leads_past IsSpellable cert_bytes (AreMany head.count (IsProof head.depth)) (many_text proof_text)
        ((first_text version ++ text_of inv_words head) ++ clauses_text kept) (Agree3 version head kept) after_kept
        (past3 version fv head fh kept fk) (λ c. c.proofs)
        (λ c. pairs_text c.pairs) (λ c fc a. (proofs_part head c fc a.0.1, refl)) (kept_whole version head kept)
        (λ proofs fp. (
          cert_with version head kept proofs [],
          made_fits version head kept proofs [] fv fh fk fp tt,
          pairs_text [],
          made_text version head kept proofs [] fk.count
              ∙ sym (append_assoc (first_text version) (text_of inv_words head) (clauses_text kept ++ (proofs_text proofs ++ pairs_text [])))
              ∙ sym (append_assoc (first_text version ++ text_of inv_words head) (clauses_text kept) (proofs_text proofs ++ pairs_text [])),
        ))

-- a pair, or the end, is
pub tail_fault : (version : ℕ) → IsVersion version → (head : InvHead) → IsInvHead head → (kept : List InvClause) → AreMany head.count (KeptIn version) kept
    → (proofs : List InvProof)
    → AreMany head.count (IsProof head.depth) proofs
    → (rest bytes : List ℕ) (now place : ℕ) → bytes ≡ (((first_text version ++ text_of inv_words head) ++ clauses_text kept) ++ proofs_text proofs) ++ rest
    → now + length rest ≡ place + length bytes → (f : Fault) → IsFault (AllByRecursion IsPair) pairs_text rest now f
    → IsFault IsSpellable cert_bytes bytes place f
tail_fault version fv head fh kept fk proofs fp rest bytes now place is left f e =
    fault_later IsSpellable cert_bytes (AllByRecursion IsPair) pairs_text
    (((first_text version ++ text_of inv_words head) ++ clauses_text kept) ++ proofs_text proofs) leads rest bytes now place is left f e
  where
    leads : Leads IsSpellable cert_bytes (AllByRecursion IsPair) pairs_text
        (((first_text version ++ text_of inv_words head) ++ clauses_text kept) ++ proofs_text proofs)
    leads =
        leads_past IsSpellable cert_bytes (AllByRecursion IsPair) pairs_text
        (((first_text version ++ text_of inv_words head) ++ clauses_text kept) ++ proofs_text proofs) (Agree4 version head kept proofs)
        (λ c. pairs_text c.pairs)
        (past4 version fv head fh kept fk proofs fp) (λ c. c.pairs) (λ c. []) (λ c fc a. (fc.pairs, sym (append-nil (pairs_text c.pairs))))
        (proofs_whole version head kept proofs)
        (λ pairs fq. (
          cert_with version head kept proofs pairs,
          made_fits version head kept proofs pairs fv fh fk fp fq,
          [],
          made_text version head kept proofs pairs fk.count
              ∙ sym (append_assoc (first_text version) (text_of inv_words head) (clauses_text kept ++ (proofs_text proofs ++ pairs_text pairs)))
              ∙ sym (append_assoc (first_text version ++ text_of inv_words head) (clauses_text kept) (proofs_text proofs ++ pairs_text pairs))
              ∙ sym (append_assoc ((first_text version ++ text_of inv_words head) ++ clauses_text kept) (proofs_text proofs) (pairs_text pairs))
              ∙ ap (λ z. (((first_text version ++ text_of inv_words head) ++ clauses_text kept) ++ proofs_text proofs) ++ z)
              (sym (append-nil (pairs_text pairs))),
        ))

-- the parts of a certificate's text, from the left
cert_cut : (version : ℕ) (head : InvHead) (kept : List InvClause) (proofs : List InvProof) (tail : List ℕ)
    → first_text version ++ (text_of inv_words head ++ (clauses_text kept ++ (proofs_text proofs ++ tail)))
    ≡ (((first_text version ++ text_of inv_words head) ++ clauses_text kept) ++ proofs_text proofs) ++ tail
cert_cut version head kept proofs tail =
    sym (append_assoc (first_text version) (text_of inv_words head) (clauses_text kept ++ (proofs_text proofs ++ tail)))
    ∙ sym (append_assoc (first_text version ++ text_of inv_words head) (clauses_text kept) (proofs_text proofs ++ tail))
    ∙ sym (append_assoc ((first_text version ++ text_of inv_words head) ++ clauses_text kept) (proofs_text proofs) tail)

pub cert_tells : Tells IsSpellable cert_bytes
cert_tells v u fv fu x y e =
    let front = ((first_text v.version ++ text_of inv_words (inv_head v)) ++ clauses_text v.kept) ++ proofs_text v.proofs in
    let start : front ++ (pairs_text v.pairs ++ x) ≡ cert_bytes u ++ y =
    sym (append_assoc front (pairs_text v.pairs) x) ∙ ap (λ z. z ++ x) (sym (cert_cut v.version (inv_head v) v.kept v.proofs (pairs_text v.pairs))) ∙ e in
    let (agrees, rest) = past4 v.version fv.version (inv_head v) fv.head v.kept fv.kept v.proofs fv.proofs u fu (pairs_text v.pairs ++ x) y start in
    let pairs : v.pairs ≡ u.pairs = pairs_tell v.pairs u.pairs fv.pairs fu.pairs x y rest in
    let proofs : v.proofs ≡ u.proofs = sym agrees.1 in
    let kept : v.kept ≡ u.kept = sym agrees.0.1 in
    let head : inv_head v ≡ inv_head u = sym agrees.0.0.1 in
    let version : v.version ≡ u.version = sym agrees.0.0.0.1 in
    ap (λ (n : ℕ). cert_with n (inv_head v) v.kept v.proofs v.pairs) version
    ∙ ap (λ (h : InvHead). cert_with u.version h v.kept v.proofs v.pairs) head
    ∙ ap (λ (k : List InvClause). cert_with u.version (inv_head u) k v.proofs v.pairs) kept
    ∙ ap (λ (p : List InvProof). cert_with u.version (inv_head u) u.kept p v.pairs) proofs
    ∙ ap (λ (q : List PairProof). cert_with u.version (inv_head u) u.kept u.proofs q) pairs

-- all parts were read
pub record IsReadAs (bytes rest : List ℕ) (c : Cert) : Type 0 where
  pub fits : IsSpellable c
  pub is : bytes ≡ cert_bytes c ++ rest

pub cert_read : (version : ℕ) (head : InvHead) (kept : List InvClause) (proofs : List InvProof) (pairs : List PairProof) (bytes b1 b2 b3 b4 rest : List ℕ)
    → IsVersion version → IsInvHead head → AreMany head.count (KeptIn version) kept → AreMany head.count (IsProof head.depth) proofs
    → AllByRecursion IsPair pairs → bytes ≡ first_text version ++ b1 → b1 ≡ text_of inv_words head ++ b2 → b2 ≡ clauses_text kept ++ b3
    → b3 ≡ proofs_text proofs ++ b4 → b4 ≡ pairs_text pairs ++ rest → IsReadAs bytes rest (cert_with version head kept proofs pairs)
cert_read version head kept proofs pairs bytes b1 b2 b3 b4 rest fv fh fk fp fq e1 e2 e3 e4 e5 = record {
  fits = made_fits version head kept proofs pairs fv fh fk fp fq;
  is =
      e1
      ∙ ap (λ z. first_text version ++ z)
      (e2 ∙ ap (λ z. text_of inv_words head ++ z) (e3 ∙ ap (λ z. clauses_text kept ++ z) (e4 ∙ ap (λ z. proofs_text proofs ++ z) e5)))
      ∙ cert_cut version head kept proofs (pairs_text pairs ++ rest)
      ∙ sym (append_assoc (((first_text version ++ text_of inv_words head) ++ clauses_text kept) ++ proofs_text proofs) (pairs_text pairs) rest)
      ∙ ap (λ z. z ++ rest) (sym (cert_cut version head kept proofs (pairs_text pairs)) ∙ sym (made_text version head kept proofs pairs fk.count));
}

-- the parts before a place, as they are read
pub head_front : (version : ℕ) (head : InvHead) (bytes before rest : List ℕ) → bytes ≡ text_of first_words version ++ before
    → before ≡ text_of inv_words head ++ rest
    → bytes ≡ (text_of first_words version ++ text_of inv_words head) ++ rest
head_front version head bytes before rest front is =
    front ∙ ap (λ z. text_of first_words version ++ z) is ∙ sym (append_assoc (text_of first_words version) (text_of inv_words head) rest)

pub kept_front : (version : ℕ) (head : InvHead) (kept : List InvClause) (bytes before rest : List ℕ)
    → bytes ≡ (text_of first_words version ++ text_of inv_words head) ++ before → before ≡ many_text (text_of kept_words) kept ++ rest
    → bytes ≡ ((text_of first_words version ++ text_of inv_words head) ++ many_text (text_of kept_words) kept) ++ rest
kept_front version head kept bytes before rest front is =
    front ∙ ap (λ z. (text_of first_words version ++ text_of inv_words head) ++ z) is
    ∙ sym (append_assoc (text_of first_words version ++ text_of inv_words head) (many_text (text_of kept_words) kept) rest)

pub proofs_front : (version : ℕ) (head : InvHead) (kept : List InvClause) (proofs : List InvProof) (bytes before rest : List ℕ)
    → bytes ≡ ((text_of first_words version ++ text_of inv_words head) ++ many_text (text_of kept_words) kept) ++ before
    → before ≡ many_text proof_text proofs ++ rest
    → bytes ≡ (((text_of first_words version ++ text_of inv_words head) ++ many_text (text_of kept_words) kept) ++ many_text proof_text proofs) ++ rest
proofs_front version head kept proofs bytes before rest front is =
    front ∙ ap (λ z. ((text_of first_words version ++ text_of inv_words head) ++ many_text (text_of kept_words) kept) ++ z) is
    ∙ sym (append_assoc ((text_of first_words version ++ text_of inv_words head) ++ many_text (text_of kept_words) kept) (many_text proof_text proofs) rest)

pub cert_whole : (c : Cert) → IsWhole (cert_bytes c)
cert_whole c = subst IsWhole (sym (cert_cut c.version (inv_head c) c.kept c.proofs (pairs_text c.pairs)))
    (whole_later (((first_text c.version ++ text_of inv_words (inv_head c)) ++ clauses_text c.kept) ++ proofs_text c.proofs) (pairs_text c.pairs)
    (proofs_whole c.version (inv_head c) c.kept c.proofs)
    (whole_later (many_text pair_text c.pairs) (text_of section_words End) (many_whole pair_text pair_whole c.pairs) (line_whole section_words End)))

-- first lines of any version
any_told : (v u : ℕ) → v < 2 ^ 63 → u < 2 ^ 63 → first_words v ≡ first_words u → v ≡ u
any_told v u fv fu e = let word : decimal v ≡ decimal u = cc in decimal_injective v u (omega arith) (omega arith) word

any_kind : IsKind (λ (n : ℕ). n < 2 ^ 63) first_words
any_kind = record { plain = λ v fits. rw (number_token v (omega arith)) refl; some = λ v. omega arith; told = any_told }

-- the first line of a certificate, and another version's
pub one_version : (c : Cert) (number : ℕ) (rest : List ℕ) → IsVersion c.version → number < 2 ^ 63 → cert_bytes c ≡ text_of first_words number ++ rest
    → IsVersion number
one_version c number rest fits small e =
    let same : c.version ≡ number = line_tells (λ (n : ℕ). n < 2 ^ 63) first_words any_kind c.version number (version_small c.version fits) small
    (text_of inv_words (inv_head c) ++ after_head c) rest e in
    subst IsVersion same fits
