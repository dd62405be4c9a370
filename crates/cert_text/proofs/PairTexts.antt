-- Pairs in a text, and its end.
use Rattle.std.proofs.Common.{inl, ◌≡◌, ◌≢◌, ℕ, ◌+◌, ◌<◌, ◌^◌, Option, None, Some, List, [], ◌∷◌, ◌++◌, length, refl, sym}
use Rattle.std.proofs.Common.{ap, ◌∙◌, subst, append_assoc, append-nil, arith}
use Rattle.std.specs.List.{AllByRecursion}
use Rattle.std.proofs.lemmas.List.{append_cancel_left}
use Rattle.verdict_types.specs.declared.kept.InvProof.{InvProof}
use Rattle.verdict_types.specs.declared.outcomes.Proof.{Proof}
use Rattle.verdict_types.specs.declared.outcomes.Proof.TheVariants.{Single, Fixed, Depth}
use Rattle.cert_values.specs.declared.certs.PairProof.{PairProof}
use Rattle.cert_lines.specs.declared.sections.Section.{Section}
use Rattle.cert_lines.specs.declared.sections.Section.TheVariants.{End}
use Rattle.cert_lines.specs.declared.sections.Section.TheVariants as line
use Rattle.cert_lines.specs.Kinds.{text_of, section_words, IsSection}
use Rattle.cert_words.specs.Words.{spaced}
use Rattle.cert_lines.proofs.KindLemmas.{section_kind}
use Rattle.cert_lines.specs.declared.faults.Fault.{Fault}
use Rattle.cert_lines.specs.Texts.{IsWhole, IsFault, many_text}
use Rattle.cert_lines.proofs.Leading.{Tells, Leads, IsPast, past_start, past_next, leads_past, whole_later, fault_later}
use Rattle.cert_lines.proofs.LineTexts.{line_tells, line_whole}
use Rattle.cert_lines.proofs.ManyTexts.{many_whole}
use Rattle.cert_text.specs.Certs.{proof_text, IsProof, section_of, rest_text, pair_text, HasProof, IsPair, pairs_text, next_text, IsNext}
use Rattle.cert_text.proofs.ProofTexts.{proof_tells, proof_whole, shortest}

abbrev pair_of : ℕ → Proof → PairProof
pair_of number proof = record { number = number; proof = proof }

-- the line with which a pair or the end begins, and what follows it
abbrev next_section : Option PairProof → Section
next_section None = End
next_section (Some p) = section_of p.number p.proof

abbrev next_rest : Option PairProof → List ℕ
next_rest None = []
next_rest (Some p) = rest_text p.proof

section_fits : (number : ℕ) (proof : Proof) → number < 2 ^ 63 → HasProof proof → IsSection (section_of number proof)
section_fits number Single small has = small
section_fits number Fixed small has = small
section_fits number (Depth depth base step) small has = (small, has.0)

next_parts : (v : Option PairProof) → IsNext v → Unit {0} → IsSection (next_section v) × (next_text v ≡ text_of section_words (next_section v) ++ next_rest v)
next_parts None fv a = (tt, sym (append-nil (text_of section_words End)))
next_parts (Some p) fv a = (section_fits p.number p.proof fv.small fv.proof, refl)

next_made : (s : Section) → IsSection s → (v : Option PairProof) × IsNext v × (t : List ℕ) × (next_text v ≡ text_of section_words s ++ t)
next_made End fs = (None, tt, [], sym (append-nil (text_of section_words End)))
next_made (line.Single number) fs = (Some (pair_of number Single), record { small = fs; proof = tt }, [], refl)
next_made (line.Fixed number) fs = (Some (pair_of number Fixed), record { small = fs; proof = tt }, [], refl)
next_made (line.Depth number depth) fs =
    let least = shortest depth in
    (Some (pair_of number (Depth depth least.proof.base least.proof.step)), record { small = fs.0; proof = (fs.1, least.fits) }, proof_text least.proof, refl)

-- the first line of a pair, or the last line, is missing
pub section_fault : (bytes : List ℕ) (place : ℕ) (f : Fault) → IsFault IsSection (text_of section_words) bytes place f → IsFault IsNext next_text bytes place f
section_fault bytes place f e = fault_later IsNext next_text IsSection (text_of section_words) [] leads bytes bytes place place refl refl f e
  where
    leads : Leads IsNext next_text IsSection (text_of section_words) []
    leads =
        leads_past IsNext next_text IsSection (text_of section_words) [] (λ v. Unit {0}) next_text
        (past_start IsNext next_text) next_section next_rest next_parts (inl refl) next_made

section_past : (s : Section) → IsSection s
    → IsPast IsNext next_text (text_of section_words s) (λ (v : Option PairProof). Unit {0} × (next_section v ≡ s)) next_rest
section_past s fs =
    past_next IsNext next_text IsSection (text_of section_words) (line_tells IsSection section_words section_kind) [] (λ v. Unit {0}) next_text
    (past_start IsNext next_text) next_section next_rest next_parts s fs

-- the derivations of a pair
abbrev proof_in : Proof → InvProof
proof_in Single = record { base = []; step = record { steps = [] } }
proof_in Fixed = record { base = []; step = record { steps = [] } }
proof_in (Depth depth base step) = record { base = base; step = step }

abbrev next_proof : Option PairProof → InvProof
next_proof None = record { base = []; step = record { steps = [] } }
next_proof (Some p) = proof_in p.proof

proof_parts : (number depth n : ℕ) (proof : Proof) → HasProof proof → section_of n proof ≡ line.Depth number depth
    → IsProof depth (proof_in proof) × (rest_text proof ≡ proof_text (proof_in proof) ++ [])
proof_parts number depth n Single has e = cc
proof_parts number depth n Fixed has e = cc
proof_parts number depth n (Depth d base step) has e =
    let same : d ≡ depth = cc in
    (subst (λ (k : ℕ). IsProof k (record { base = base; step = step })) same has.1, sym (append-nil (proof_text (record { base = base; step = step }))))

body_parts : (number depth : ℕ) (v : Option PairProof) → IsNext v → Unit {0} × (next_section v ≡ line.Depth number depth)
    → IsProof depth (next_proof v) × (next_rest v ≡ proof_text (next_proof v) ++ [])
body_parts number depth None fv a = let e = a.1 in cc
body_parts number depth (Some p) fv a = proof_parts number depth p.number p.proof fv.proof a.1

-- the derivations of a pair are missing
pub body_fault : (number depth : ℕ) → IsSection (line.Depth number depth) → (rest bytes : List ℕ) (now place : ℕ)
    → bytes ≡ text_of section_words (line.Depth number depth) ++ rest
    → now + length rest ≡ place + length bytes → (f : Fault) → IsFault (IsProof depth) proof_text rest now f → IsFault IsNext next_text bytes place f
body_fault number depth fs rest bytes now place is left f e =
    fault_later IsNext next_text (IsProof depth) proof_text (text_of section_words (line.Depth number depth)) leads rest bytes now place is left f e
  where
    leads : Leads IsNext next_text (IsProof depth) proof_text (text_of section_words (line.Depth number depth))
    leads =
        leads_past IsNext next_text (IsProof depth) proof_text (text_of section_words (line.Depth number depth))
        (λ (v : Option PairProof). Unit {0} × (next_section v ≡ line.Depth number depth)) next_rest
        (section_past (line.Depth number depth) fs) next_proof (λ v. []) (body_parts number depth) (line_whole section_words (line.Depth number depth))
        (λ p fp. (
          Some (pair_of number (Depth depth p.base p.step)),
          record { small = fs.0; proof = (fs.1, fp) },
          [],
          ap (λ z. text_of section_words (line.Depth number depth) ++ z) (sym (append-nil (proof_text p))),
        ))

proof_same : (number n : ℕ) (a b : Proof) → HasProof a → HasProof b → section_of number a ≡ section_of n b → (x y : List ℕ)
    → rest_text a ++ x ≡ rest_text b ++ y → pair_of number a ≡ pair_of n b
proof_same number n Single Single fa fb e x y r = let same : number ≡ n = cc in ap (λ (k : ℕ). pair_of k Single) same
proof_same number n Single Fixed fa fb e x y r = cc
proof_same number n Single (Depth d base step) fa fb e x y r = cc
proof_same number n Fixed Single fa fb e x y r = cc
proof_same number n Fixed Fixed fa fb e x y r = let same : number ≡ n = cc in ap (λ (k : ℕ). pair_of k Fixed) same
proof_same number n Fixed (Depth d base step) fa fb e x y r = cc
proof_same number n (Depth d base step) Single fa fb e x y r = cc
proof_same number n (Depth d base step) Fixed fa fb e x y r = cc
proof_same number n (Depth d base step) (Depth c base2 step2) fa fb e x y r =
    let same : number ≡ n = cc in
    let depth : d ≡ c = cc in
    let one : InvProof = record { base = base; step = step } in
    let two : InvProof = record { base = base2; step = step2 } in
    let proofs = proof_tells c one two (subst (λ (k : ℕ). IsProof k one) depth fa.1) fb.1 x y r in
    ap (λ (k : ℕ). pair_of k (Depth d base step)) same ∙ ap (λ (k : ℕ). pair_of n (Depth k base step)) depth
    ∙ ap (λ (p : InvProof). pair_of n (Depth c p.base p.step)) proofs

pub pair_same : (p q : PairProof) → IsPair p → IsPair q → (x y : List ℕ) → pair_text p ++ x ≡ pair_text q ++ y → p ≡ q
pair_same p q fp fq x y e =
    let head = text_of section_words in
    let sp = section_of p.number p.proof in
    let sq = section_of q.number q.proof in
    let both : head sp ++ (rest_text p.proof ++ x) ≡ head sq ++ (rest_text q.proof ++ y) =
    sym (append_assoc (head sp) (rest_text p.proof) x) ∙ e ∙ append_assoc (head sq) (rest_text q.proof) y in
    let same : sp ≡ sq =
    line_tells IsSection section_words section_kind sp sq (section_fits p.number p.proof fp.small fp.proof)
    (section_fits q.number q.proof fq.small fq.proof) (rest_text p.proof ++ x) (rest_text q.proof ++ y) both in
    let rest : rest_text p.proof ++ x ≡ rest_text q.proof ++ y =
    append_cancel_left (head sp) (rest_text p.proof ++ x) (rest_text q.proof ++ y)
    (both ∙ ap (λ (s : Section). head s ++ (rest_text q.proof ++ y)) (sym same)) in
    proof_same p.number q.number p.proof q.proof fp.proof fq.proof same x y rest

not_end : (number : ℕ) (proof : Proof) → section_of number proof ≢ End
not_end number Single e = cc
not_end number Fixed e = cc
not_end number (Depth d base step) e = cc

-- no pair begins as the last line does
pub pair_no_end : (p : PairProof) → IsPair p → (x y : List ℕ) → pair_text p ++ x ≢ text_of section_words End ++ y
pair_no_end p fp x y e =
    let s = section_of p.number p.proof in
    let both : text_of section_words s ++ (rest_text p.proof ++ x) ≡ text_of section_words End ++ y =
    sym (append_assoc (text_of section_words s) (rest_text p.proof) x) ∙ e in
    not_end p.number p.proof
    (line_tells IsSection section_words section_kind s End (section_fits p.number p.proof fp.small fp.proof) tt (rest_text p.proof ++ x) y both)

rest_whole : (proof : Proof) → IsWhole (rest_text proof)
rest_whole Single = inl refl
rest_whole Fixed = inl refl
rest_whole (Depth d base step) = proof_whole (record { base = base; step = step })

pub pair_whole : (p : PairProof) → IsWhole (pair_text p)
pair_whole p =
    whole_later (text_of section_words (section_of p.number p.proof)) (rest_text p.proof) (line_whole section_words (section_of p.number p.proof))
    (rest_whole p.proof)

pairs_into : (done vs : List PairProof) → AllByRecursion IsPair done → AllByRecursion IsPair vs → (y r : List ℕ)
    → many_text pair_text done ++ y ≡ pairs_text vs ++ r → (w : Option PairProof) × IsNext w × (s : List ℕ) × (y ≡ next_text w ++ s)
pairs_into [] [] fd fv y r e = (None, tt, r, e)
pairs_into [] (v ∷ vs) fd fv y r e = (
  Some v,
  fv.0,
  pairs_text vs ++ r,
  e ∙ ap (λ z. z ++ r) (append_assoc (pair_text v) (many_text pair_text vs) (text_of section_words End))
      ∙ append_assoc (pair_text v) (pairs_text vs) r,
)
pairs_into (d ∷ done) [] fd fv y r e =
    absurd (pair_no_end d fd.0 (many_text pair_text done ++ y) r (sym (append_assoc (pair_text d) (many_text pair_text done) y) ∙ e))
pairs_into (d ∷ done) (v ∷ vs) fd fv y r e =
    let both : pair_text d ++ (many_text pair_text done ++ y) ≡ pair_text v ++ (pairs_text vs ++ r) =
    sym (append_assoc (pair_text d) (many_text pair_text done) y) ∙ e
    ∙ ap (λ z. z ++ r) (append_assoc (pair_text v) (many_text pair_text vs) (text_of section_words End))
    ∙ append_assoc (pair_text v) (pairs_text vs) r in
    let same : d ≡ v = pair_same d v fd.0 fv.0 (many_text pair_text done ++ y) (pairs_text vs ++ r) both in
    let rest : many_text pair_text done ++ y ≡ pairs_text vs ++ r =
    append_cancel_left (pair_text d) (many_text pair_text done ++ y) (pairs_text vs ++ r)
    (both ∙ ap (λ (z : PairProof). pair_text z ++ (pairs_text vs ++ r)) (sym same)) in
    pairs_into done vs fd.1 fv.1 y r rest

-- the pairs that begin with some
abbrev pairs_before : List PairProof → Option PairProof → List PairProof
pairs_before [] None = []
pairs_before [] (Some p) = p ∷ []
pairs_before (d ∷ done) w = d ∷ pairs_before done w

pairs_made : (done : List PairProof) (w : Option PairProof) → AllByRecursion IsPair done → IsNext w
    → AllByRecursion IsPair (pairs_before done w)
    × ((s : List ℕ) × (pairs_text (pairs_before done w) ≡ many_text pair_text done ++ (next_text w ++ s)))
pairs_made [] None fd fw = (tt, ([], sym (append-nil (text_of section_words End))))
pairs_made [] (Some p) fd fw = ((fw, tt), (text_of section_words End, ap (λ z. z ++ text_of section_words End) (append-nil (pair_text p))))
pairs_made (d ∷ done) w fd fw =
    let (all, (s, is)) = pairs_made done w fd.1 fw in (
      (fd.0, all),
      (
        s,
        append_assoc (pair_text d) (many_text pair_text (pairs_before done w)) (text_of section_words End) ∙ ap (λ z. pair_text d ++ z) is
            ∙ sym (append_assoc (pair_text d) (many_text pair_text done) (next_text w ++ s)),
      ),
    )

-- after some pairs one more, or the end, is missing
pub pairs_fault : (done : List PairProof) → AllByRecursion IsPair done → (rest bytes : List ℕ) (now place : ℕ) → bytes ≡ many_text pair_text done ++ rest
    → now + length rest ≡ place + length bytes → (f : Fault) → IsFault IsNext next_text rest now f → IsFault (AllByRecursion IsPair) pairs_text bytes place f
pairs_fault done fd rest bytes now place is left f e =
    fault_later (AllByRecursion IsPair) pairs_text IsNext next_text (many_text pair_text done) leads rest bytes now place is left f e
  where
    leads : Leads (AllByRecursion IsPair) pairs_text IsNext next_text (many_text pair_text done)
    leads = record {
      whole = many_whole pair_text pair_whole done;
      into = λ vs fv y r x. pairs_into done vs fd fv y r x;
      onto = λ w fw. let (all, (s, made)) = pairs_made done w fd fw in (pairs_before done w, all, s, made);
    }

pub pairs_tell : Tells (AllByRecursion IsPair) pairs_text
pairs_tell [] [] fv fu x y e = refl
pairs_tell [] (u ∷ us) fv fu x y e =
    absurd
    (pair_no_end u fu.0 (pairs_text us ++ y) x
    (sym
    (ap (λ z. z ++ y) (append_assoc (pair_text u) (many_text pair_text us) (text_of section_words End))
    ∙ append_assoc (pair_text u) (pairs_text us) y)
    ∙ sym e))
pairs_tell (v ∷ vs) [] fv fu x y e =
    absurd
    (pair_no_end v fv.0 (pairs_text vs ++ x) y
    (sym
    (ap (λ z. z ++ x) (append_assoc (pair_text v) (many_text pair_text vs) (text_of section_words End))
    ∙ append_assoc (pair_text v) (pairs_text vs) x)
    ∙ e))
pairs_tell (v ∷ vs) (u ∷ us) fv fu x y e =
    let both : pair_text v ++ (pairs_text vs ++ x) ≡ pair_text u ++ (pairs_text us ++ y) =
    sym
    (ap (λ z. z ++ x) (append_assoc (pair_text v) (many_text pair_text vs) (text_of section_words End))
    ∙ append_assoc (pair_text v) (pairs_text vs) x)
    ∙ e ∙ ap (λ z. z ++ y) (append_assoc (pair_text u) (many_text pair_text us) (text_of section_words End))
    ∙ append_assoc (pair_text u) (pairs_text us) y in
    let same : v ≡ u = pair_same v u fv.0 fu.0 (pairs_text vs ++ x) (pairs_text us ++ y) both in
    let rest : pairs_text vs ++ x ≡ pairs_text us ++ y =
    append_cancel_left (pair_text v) (pairs_text vs ++ x) (pairs_text us ++ y)
    (both ∙ ap (λ (z : PairProof). pair_text z ++ (pairs_text us ++ y)) (sym same)) in
    let others = pairs_tell vs us fv.1 fu.1 x y rest in
    cc

-- what was read, by the first line
pub record IsReadAs (bytes rest : List ℕ) (v : Option PairProof) : Type 0 where
  pub fits : IsNext v
  pub is : bytes ≡ next_text v ++ rest

pub end_read : (s : Section) (bytes rest : List ℕ) → s ≡ End → bytes ≡ text_of section_words s ++ rest → IsReadAs bytes rest None
end_read s bytes rest same is = record { fits = tt; is = is ∙ ap (λ (z : Section). text_of section_words z ++ rest) same }

pub single_read : (s : Section) (number : ℕ) (bytes rest : List ℕ) → s ≡ line.Single number → IsSection s
    → bytes ≡ text_of section_words s ++ rest → IsReadAs bytes rest (Some (record { number = number; proof = Single }))
single_read s number bytes rest same fits is = record {
  fits = record { small = subst IsSection same fits; proof = tt };
  is = is ∙ ap (λ (z : Section). text_of section_words z ++ rest) same ∙ ap (λ z. z ++ rest) (sym (append-nil (text_of section_words (line.Single number))));
}

pub fixed_read : (s : Section) (number : ℕ) (bytes rest : List ℕ) → s ≡ line.Fixed number → IsSection s → bytes ≡ text_of section_words s ++ rest
    → IsReadAs bytes rest (Some (record { number = number; proof = Fixed }))
fixed_read s number bytes rest same fits is = record {
  fits = record { small = subst IsSection same fits; proof = tt };
  is = is ∙ ap (λ (z : Section). text_of section_words z ++ rest) same ∙ ap (λ z. z ++ rest) (sym (append-nil (text_of section_words (line.Fixed number))));
}

pub depth_read : (s : Section) (number depth : ℕ) (proof : InvProof) (bytes mid rest : List ℕ) → s ≡ line.Depth number depth → IsSection s
    → IsProof depth proof → bytes ≡ text_of section_words s ++ mid → mid ≡ proof_text proof ++ rest
    → IsReadAs bytes rest (Some (record { number = number; proof = Depth depth proof.base proof.step }))
depth_read s number depth proof bytes mid rest same fits has head body =
    let fs : IsSection (line.Depth number depth) = subst IsSection same fits in
    record {
      fits = record { small = fs.0; proof = (fs.1, has) };
      is =
          head ∙ ap (λ (z : Section). text_of section_words z ++ mid) same ∙ ap (λ z. text_of section_words (line.Depth number depth) ++ z) body
          ∙ sym (append_assoc (text_of section_words (line.Depth number depth)) (proof_text proof) rest);
    }

-- a pair or the end is at least one byte
next_some : (v : Option PairProof) → (a : List ℕ) × (b : List ℕ) × (next_text v ≡ a ++ 10 ∷ b)
next_some None = (spaced (section_words End), [], refl)
next_some (Some p) = (
  spaced (section_words (section_of p.number p.proof)),
  rest_text p.proof,
  append_assoc (spaced (section_words (section_of p.number p.proof))) (10 ∷ []) (rest_text p.proof),
)

long : (a b r : List ℕ) → length r < length ((a ++ 10 ∷ b) ++ r)
long [] [] r = omega arith
long [] (x ∷ b) r = let rest = long [] b r in omega arith
long (x ∷ a) b r = let rest = long a b r in omega arith

-- so fewer bytes are left after it
pub next_less : (v : Option PairProof) (bytes rest : List ℕ) → bytes ≡ next_text v ++ rest → length rest < length bytes
next_less v bytes rest is =
    let (a, b, e) = next_some v in
    subst (λ (z : List ℕ). length rest < length z) (sym (is ∙ ap (λ z. z ++ rest) e)) (long a b rest)
