-- What was found in form can be written.
use Rattle.std.proofs.Common.{if◌then◌else◌, ◌≡◌, ℕ, ◌+◌, ◌-◌, ◌<◌, ◌≤◌, ◌^◌, Bool, true, false, map, List, []}
use Rattle.std.proofs.Common.{◌∷◌, ◌++◌, length, take, get_or, refl, sym, ap, ◌∙◌, subst, append_assoc, arith}
use Rattle.std.specs.Prelude.{All}
use Rattle.std.specs.List.{AllByRecursion, list_any}
use Rattle.std.proofs.lemmas.Bool.{or_parts}
use Rattle.std.proofs.lemmas.Bool.Decides.{nat_tests}
use Rattle.std.proofs.lemmas.List.{take_more, flat_map_more, length-take-le}
use Rattle.std.proofs.lemmas.List.Concat.{flat_map-append}
use Rattle.std.proofs.lemmas.List.Elements.{All-head, All-tail, All-weaker, All-append, All-from_recursion, recursion_from_All}
use Rattle.net_model.specs.declared.invariants.StateLit.{StateLit}
use Rattle.net_model.specs.declared.invariants.InvClause.{InvClause}
use Rattle.proof_log.specs.Literals.{lit_var, InVars}
use Rattle.proof_log.specs.Clauses.{IsNormal}
use Rattle.proof_log.specs.declared.derivations.DerivStep.{DerivStep}
use Rattle.proof_log.specs.declared.derivations.Derivation.{Derivation}
use Rattle.verdict_types.specs.declared.kept.InvProof.{InvProof}
use Rattle.verdict_types.specs.declared.kept.InvSet.{InvSet}
use Rattle.verdict_types.specs.declared.outcomes.Verdict.{Verdict}
use Rattle.verdict_types.specs.declared.outcomes.Verdict.TheVariants.{Justified, Refuted, Undecided}
use Rattle.verdict_types.specs.Forms.{IsStepInForm, IsInForm, AreInForm, AreAscending, IsKeptClause, IsSetInForm}
use Rattle.cert_words.specs.Numbers.{IsLitAbove, IsHint}
use Rattle.cert_words.specs.Growth.{Chain}
use Rattle.cert_words.proofs.RowLemmas.{never}
use Rattle.cert_values.specs.declared.certs.PairProof.{PairProof}
use Rattle.cert_values.specs.Certs.{justified_from, cert_of}
use Rattle.cert_values.specs.Versions.{version_for}
use Rattle.cert_values.specs.Versions.{is_long as is_long_clause}
use Rattle.cert_lines.specs.Kinds.{text_of, first_words, IsVersion, inv_words, kept_words, section_words, state_literal, is_long, IsKept, IsStep}
use Rattle.cert_lines.proofs.KindLemmas.{literal_var, state_fits}
use Rattle.cert_lines.specs.declared.sections.Section.TheVariants.{End}
use Rattle.cert_lines.specs.Texts.{many_text}
use Rattle.cert_lines.specs.Derivations.{IsWritable}
use Rattle.cert_text.specs.Certs.{proof_text, IsProof, pair_text, IsPair, inv_head, IsSpellable, Spells}
use Rattle.cert_text.specs.Found.{HasSmallHints, IsProofFound, IsProofWritable}

abbrev above_zero : ℕ → Type 0
above_zero l = 0 < lit_var l

abbrev known : ℕ → Type 0
known l = InVars (2 ^ 31 - 1) l

few : (l : ℕ) → known l → lit_var l < 2 ^ 31
few l (low, high) = omega arith

lits_chain : (above : ℕ) (ls : List ℕ) → IsNormal ls → AllByRecursion (λ l. above < lit_var l) ls → All known ls → Chain IsLitAbove lit_var above ls
lits_chain above [] n a v = tt
lits_chain above (l ∷ ls) n a v = (record { above_it = a.0; few = few l (All-head known l ls v) }, lits_chain (lit_var l) ls n.1 n.0 (All-tail known l ls v))

positive : (l : ℕ) → known l → above_zero l
positive l (low, high) = omega arith

abbrev some : ℕ → Type 0
some h = 1 ≤ h

abbrev small : ℕ → Type 0
small h = h < 2 ^ 63

hints_chain : (before : ℕ) (hs : List ℕ) → All some hs → All small hs → Chain IsHint (λ h. h) before hs
hints_chain before [] a b = tt
hints_chain before (h ∷ hs) a b =
    (record { some = All-head some h hs a; small = All-head small h hs b }, hints_chain h hs (All-tail some h hs a) (All-tail small h hs b))

step_fits : (s : DerivStep) → IsStepInForm s → HasSmallHints s → IsStep s
step_fits s form hints = record {
  lits = lits_chain 0 s.clause form.normal (recursion_from_All above_zero s.clause (All-weaker known above_zero positive s.clause form.in_vars)) form.in_vars;
  hints = hints_chain 0 s.hints form.hints hints;
}

steps_fit : (ss : List DerivStep) → All IsStepInForm ss → All HasSmallHints ss → AllByRecursion IsStep ss
steps_fit [] a b = tt
steps_fit (s ∷ ss) a b = (
  step_fits s (All-head IsStepInForm s ss a) (All-head HasSmallHints s ss b),
  steps_fit ss (All-tail IsStepInForm s ss a) (All-tail HasSmallHints s ss b),
)

-- a derivation in form whose hints are small
pub found_writable : (d : Derivation) → IsInForm d → All HasSmallHints d.steps → IsWritable d
found_writable d form hints = record { few = form.few; steps = record { count = refl; fit = steps_fit d.steps form.steps hints } }

abbrev is_low : StateLit → Type 0
is_low l = l.reg + 1 < 2 ^ 31

-- literals whose registers ascend are read one after another
lits_after : (l : StateLit) (ls : List StateLit) → AreAscending (l ∷ ls) → All is_low ls
    → Chain IsLitAbove lit_var (lit_var (state_literal l)) (map state_literal ls)
lits_after l [] ascend low = tt
lits_after l (m ∷ more) (less, ascend) low =
    let var = literal_var (l.reg + 1) l.value in
    let here : m.reg + 1 < 2 ^ 31 = All-head is_low m more low in (
      state_fits (lit_var (state_literal l)) m.reg m.value (omega arith) here,
      lits_after m more ascend (All-tail is_low m more low),
    )

lits_kept : (ls : List StateLit) → AreAscending ls → All is_low ls → Chain IsLitAbove lit_var 0 (map state_literal ls)
lits_kept [] ascend low = tt
lits_kept (l ∷ ls) ascend low =
    (state_fits 0 l.reg l.value (omega arith) (All-head is_low l ls low), lits_after l ls ascend (All-tail is_low l ls low))

pub clause_kept : (long : Bool) (clause : InvClause) → (long ≡ false → length clause.lits ≤ 2) → IsKeptClause clause → IsKept long clause
clause_kept long clause short form =
    record { some = form.some; ascend = lits_kept clause.lits form.ascend form.small; short = short }

-- where no clause is long, none has more than two literals
none_long : (kept : List InvClause) → list_any is_long_clause kept ≡ false → All IsKeptClause kept → AllByRecursion (IsKept false) kept
none_long [] none forms = tt
none_long (c ∷ kept) none forms =
    let (here, others) = or_parts (is_long_clause c) (list_any is_long_clause kept) none in (
      clause_kept false c (λ e. grind (arith, nat_tests)) (All-head IsKeptClause c kept forms),
      none_long kept others (All-tail IsKeptClause c kept forms),
    )

-- kept clauses in form can be spelled in the version in which they are written
kept_fit : (test : Bool) (kept : List InvClause) → list_any is_long_clause kept ≡ test → All IsKeptClause kept
    → AllByRecursion (IsKept (is_long (if test then 3 else 2))) kept
kept_fit true kept is forms =
    recursion_from_All (IsKept true) kept (All-weaker IsKeptClause (IsKept true) (λ c f. clause_kept true c (λ e. absurd (never (sym e))) f) kept forms)
kept_fit false kept is forms = none_long kept is forms

pub proofs_found : (depth : ℕ) (proofs : List InvProof) → All (λ (p : InvProof). AreInForm depth p.base p.step) proofs → All IsProofFound proofs
proofs_found depth proofs forms = All-weaker (λ (p : InvProof). AreInForm depth p.base p.step) IsProofFound (λ p f. (f.bases, f.step)) proofs forms

-- derivations that can be written, as many as the depth says
pub proof_fits : (depth : ℕ) (base : List Derivation) (step : Derivation) → length base ≡ depth → All IsWritable base → IsWritable step
    → IsProof depth (record { base = base; step = step })
proof_fits depth base step many b s = record { base = record { count = many; fit = recursion_from_All IsWritable base b }; step = s }

proofs_fit : (depth : ℕ) (ps : List InvProof) → All (λ (p : InvProof). AreInForm depth p.base p.step) ps → All IsProofWritable ps
    → AllByRecursion (IsProof depth) ps
proofs_fit depth [] a b = tt
proofs_fit depth (p ∷ ps) a b =
    let form = All-head (λ (q : InvProof). AreInForm depth q.base q.step) p ps a in
    let write = All-head IsProofWritable p ps b in (
      proof_fits depth p.base p.step form.as_many write.0 write.1,
      proofs_fit depth ps (All-tail (λ (q : InvProof). AreInForm depth q.base q.step) p ps a) (All-tail IsProofWritable p ps b),
    )

-- one more text
pub texts_more : {V : Type 0} (text : V → List ℕ) (vs : List V) (i : ℕ) (v : V) (old now new : List ℕ) → i < length vs → v ≡ get_or vs i v
    → now ≡ old ++ many_text text (take i vs) → new ≡ now ++ text v
    → new ≡ old ++ many_text text (take (i + 1) vs)
texts_more {V} text vs i v old now new less is before after =
    after ∙ ap (λ z. z ++ text v) before ∙ flat_map_more text old (take i vs) v
    ∙ ap (λ (z : List V). old ++ many_text text z) (ap (λ (w : V). take i vs ++ w ∷ []) is ∙ sym (take_more vs i v less))

justified_later : (n : ℕ) (xs ys : List Verdict) → justified_from n (xs ++ ys) ≡ justified_from n xs ++ justified_from (n + length xs) ys
justified_later n [] ys = ap (λ (k : ℕ). justified_from k ys) (omega arith)
justified_later n (Justified proof ∷ xs) ys =
    let pair : PairProof = record { number = n; proof = proof } in
    ap (λ (z : List PairProof). pair ∷ z) (justified_later (n + 1) xs ys ∙ ap (λ (k : ℕ). justified_from (n + 1) xs ++ justified_from k ys) (omega arith))
justified_later n (Refuted offset stimulus ∷ xs) ys =
    justified_later (n + 1) xs ys ∙ ap (λ (k : ℕ). justified_from (n + 1) xs ++ justified_from k ys) (omega arith)
justified_later n (Undecided cause ∷ xs) ys = justified_later (n + 1) xs ys ∙ ap (λ (k : ℕ). justified_from (n + 1) xs ++ justified_from k ys) (omega arith)

justified_more : (vs : List Verdict) (i : ℕ) (v : Verdict) → i < length vs → v ≡ get_or vs i v
    → justified_from 1 (take (i + 1) vs) ≡ justified_from 1 (take i vs) ++ justified_from (i + 1) (v ∷ [])
justified_more vs i v less is =
    let long : length (take i vs) ≡ i = length-take-le i vs (omega arith) in
    let number : 1 + length (take i vs) ≡ i + 1 = omega arith in
    let more : take (i + 1) vs ≡ take i vs ++ v ∷ [] = take_more vs i v less ∙ ap (λ (w : Verdict). take i vs ++ w ∷ []) (sym is) in
    ap (λ (z : List Verdict). justified_from 1 z) more ∙ justified_later 1 (take i vs) (v ∷ [])
    ∙ ap (λ (k : ℕ). justified_from 1 (take i vs) ++ justified_from k (v ∷ [])) number

-- the pairs of one more verdict
pub pairs_more : (vs : List Verdict) (i : ℕ) (v : Verdict) (old now new : List ℕ) → i < length vs → v ≡ get_or vs i v
    → now ≡ old ++ many_text pair_text (justified_from 1 (take i vs)) → AllByRecursion IsPair (justified_from 1 (take i vs))
    → new ≡ now ++ many_text pair_text (justified_from (i + 1) (v ∷ [])) → AllByRecursion IsPair (justified_from (i + 1) (v ∷ []))
    → (new ≡ old ++ many_text pair_text (justified_from 1 (take (i + 1) vs))) × AllByRecursion IsPair (justified_from 1 (take (i + 1) vs))
pairs_more vs i v old now new less is before fits after more =
    let xs : List PairProof = justified_from 1 (take i vs) in
    let ys : List PairProof = justified_from (i + 1) (v ∷ []) in
    let both : justified_from 1 (take (i + 1) vs) ≡ xs ++ ys = justified_more vs i v less is in
    let text : new ≡ old ++ many_text pair_text (xs ++ ys) =
    after ∙ ap (λ z. z ++ many_text pair_text ys) before ∙ append_assoc old (many_text pair_text xs) (many_text pair_text ys)
    ∙ ap (λ z. old ++ z) (sym (flat_map-append pair_text xs ys)) in
    let all : AllByRecursion IsPair (xs ++ ys) =
    recursion_from_All IsPair (xs ++ ys) (All-append IsPair xs ys (All-from_recursion IsPair xs fits) (All-from_recursion IsPair ys more)) in
    (text ∙ ap (λ (z : List PairProof). old ++ many_text pair_text z) (sym both), subst (λ (z : List PairProof). AllByRecursion IsPair z) (sym both) all)

version_fits : (test : Bool) → IsVersion (if test then 3 else 2)
version_fits true = (omega arith, omega arith)
version_fits false = (omega arith, omega arith)

-- the certificate of what was found can be spelled, where its derivations can be written and its pairs spelled
pub found_fits : (inv : InvSet) (verdicts : List Verdict) → IsSetInForm inv → All IsProofWritable inv.proofs
    → AllByRecursion IsPair (justified_from 1 verdicts) → IsSpellable (cert_of inv verdicts)
found_fits inv verdicts form proofs pairs = record {
  version = version_fits (list_any is_long_clause inv.kept);
  head = record { deep = form.low; none = λ none. ap length (form.none none); small = form.few };
  kept = record { count = refl; fit = kept_fit (list_any is_long_clause inv.kept) inv.kept refl form.clauses };
  proofs = record { count = form.as_many; fit = proofs_fit inv.depth inv.proofs form.each proofs };
  pairs = pairs;
}

-- the certificate of what was found is what was written
pub written_spells : (inv : InvSet) (verdicts : List Verdict) (a b c d e f : List ℕ) → IsSetInForm inv → All IsProofWritable inv.proofs
    → AllByRecursion IsPair (justified_from 1 verdicts)
    → a ≡ text_of first_words (version_for inv.kept) → b ≡ a ++ text_of inv_words (inv_head (cert_of inv verdicts))
    → c ≡ b ++ many_text (text_of kept_words) inv.kept
    → d ≡ c ++ many_text proof_text inv.proofs
    → e ≡ d ++ many_text pair_text (justified_from 1 verdicts) → f ≡ e ++ text_of section_words End → Spells f (cert_of inv verdicts)
written_spells inv verdicts a b c d e f form proofs pairs ea eb ec ed ee ef = record {
  is =
      rw (ef, ee, ed, ec, eb, ea)
      (joined (text_of first_words (version_for inv.kept)) (text_of inv_words (inv_head (cert_of inv verdicts))) (many_text (text_of kept_words) inv.kept)
      (many_text proof_text inv.proofs) (many_text pair_text (justified_from 1 verdicts)) (text_of section_words End));
  fits = found_fits inv verdicts form proofs pairs;
}
  where
    joined : (x y z u v w : List ℕ) → ((((x ++ y) ++ z) ++ u) ++ v) ++ w ≡ x ++ (y ++ (z ++ (u ++ (v ++ w))))
    joined x y z u v w = simp append_assoc
