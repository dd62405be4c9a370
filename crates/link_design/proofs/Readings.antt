-- Parts that hand the clock on, and the lists of those that read it from each net.
use Rattle.std.proofs.Common.{arith, ◌≡◌, ◌≢◌, ℕ, zero, suc, ◌+◌, ◌<◌, true, false, List, [], ◌∷◌, ◌++◌, length, set, refl, sym, ap, ◌∙◌, subst}
use Rattle.std.proofs.Common.{inl, inr, get_or-set_same, get_or-set_other, length-set, replicate}
use Rattle.std.specs.Prelude.{Contains, Option, Some, None, slice_get}
use Rattle.std.proofs.lemmas.Bool.{cases_lt, cases_eq}
use Rattle.std.proofs.lemmas.List.{length-replicate}
use Rattle.std.proofs.lemmas.List.Elements.{Contains-append_left, Contains-append_right, Contains-append_cases}
use Rattle.net_model.proofs.Members.{In-from_Contains}
use Rattle.graph_order.proofs.Marked.{contains_one, contains_at}
use Rattle.link_defs.specs.declared.circuits.Circuit.{Circuit}
use Rattle.link_defs.specs.declared.circuits.Part.{Part}
use Rattle.link_defs.specs.declared.circuits.Part.TheVariants as part
use Rattle.link_design.specs.declared.branches.Branch.{Branch}
use Rattle.link_design.specs.Branches.{OnBranch, AfterBuffer, AfterGate}
use Rattle.link_design.specs.Lawful.{IsLawfulCircuit, IsLawfulPart}
use Rattle.link_design.specs.Readers.{hands_from, HandsTo, readers_at, with_reader, AreReadersTo}
use Rattle.link_design.proofs.Parted.{all_in}
use Rattle.link_design.proofs.Treed.{one_item, some_same}

-- a part at a place is lawful
pub part_lawful : (c : Circuit) (place : ℕ) (p : Part) → IsLawfulCircuit c → slice_get c.parts place ≡ Some p → IsLawfulPart c.nets p
part_lawful c place p lawful at = all_in (IsLawfulPart c.nets) c.parts lawful.parts p (In-from_Contains c.parts p (contains_at c.parts place p at))

-- what is handed on from a net of a branch is on the branch that it says
pub handed_on : (c : Circuit) (p : Part) (from to : ℕ) (b new : Branch) → IsLawfulPart c.nets p → Contains c.parts p → hands_from p ≡ Some from
    → HandsTo p b to new → OnBranch c from b → OnBranch c to new
handed_on c (part.Comb true ins gates) from to b new lawful stands reads (g, there, out, is) on =
    let (x, one) = one_item ins (lawful.one refl) in
    let same : x ≡ from = some_same (slice_get ins 0) x from (ap (λ (xs : List ℕ). slice_get xs 0) one) reads in
    let here : Contains c.parts (part.Comb true (from ∷ []) gates) =
    subst (λ (xs : List ℕ). Contains c.parts (part.Comb true xs gates)) (one ∙ ap (λ (n : ℕ). n ∷ []) same) stands in
    subst (λ (n : ℕ). OnBranch c n new) out (subst (OnBranch c g.out) is (AfterBuffer from gates g b here there on))
handed_on c (part.Comb false ins gates) from to b new lawful stands reads hands on = cc
handed_on c (part.Flop clock reg) from to b new lawful stands reads hands on = cc
handed_on c (part.Gate clock enables out) from to b new lawful stands reads (same_out, is) on =
    let same : clock ≡ from = some_same (hands_from (part.Gate clock enables out)) clock from refl reads in
    let here : OnBranch c clock b = subst (λ (n : ℕ). OnBranch c n b) (sym same) on in
    subst (λ (n : ℕ). OnBranch c n new) same_out (subst (OnBranch c out) is (AfterGate clock enables out b stands here))

-- the net from which a part hands the clock on is the circuit's
pub hands_below : (nets : ℕ) (p : Part) (from : ℕ) → IsLawfulPart nets p → hands_from p ≡ Some from → from < nets
hands_below nets (part.Comb true ins gates) from lawful reads =
    all_in (λ (n : ℕ). n < nets) ins lawful.reads from (In-from_Contains ins from (contains_at ins 0 from reads))
hands_below nets (part.Comb false ins gates) from lawful reads = cc
hands_below nets (part.Flop clock reg) from lawful reads = cc
hands_below nets (part.Gate clock enables out) from lawful reads =
    subst (λ (n : ℕ). n < nets) (some_same (hands_from (part.Gate clock enables out)) clock from refl reads) lawful.clock_net

-- an empty list has no place
nothing_read : (n m : ℕ) (place : ℕ) → Contains (readers_at (replicate n []) m) place → ⊥
nothing_read zero m place (i, low, is) = omega (arith, low)
nothing_read (suc n) zero place (i, low, is) = omega (arith, low)
nothing_read (suc n) (suc m) place has = nothing_read n m place has

-- no part has been looked at
pub no_readers : (c : Circuit) (rows : List (List ℕ)) → rows ≡ replicate c.nets [] → AreReadersTo c 0 rows
no_readers c rows none = record {
  len = ap length none ∙ length-replicate c.nets [];
  hand = λ net place has. absurd (nothing_read c.nets net place (subst (λ (l : List (List ℕ)). Contains (readers_at l net) place) none has));
  all = λ net place p low at reads. absurd (omega (arith, low));
}

-- a part that hands nothing on changes no list
pub readers_same : (c : Circuit) (k : ℕ) (p : Part) (rows : List (List ℕ)) → slice_get c.parts k ≡ Some p → hands_from p ≡ None → AreReadersTo c k rows
    → AreReadersTo c (k + 1) rows
readers_same c k p rows at none are = record {
  len = are.len;
  hand = are.hand;
  all = λ net place q low at_q reads. elim (cases_lt place k) [
    | inl less ↦ are.all net place q less at_q reads
    | inr past ↦
        let here : slice_get c.parts k ≡ Some q = subst (λ (i : ℕ). slice_get c.parts i ≡ Some q) (let e : place ≡ k = omega (arith, low, past) in e) at_q in
        let same : q ≡ p = some_same (slice_get c.parts k) q p here at in
        let other : hands_from p ≡ Some net = ap hands_from (sym same) ∙ reads in
        cc
  ];
}

-- one that hands on is added to the list of its net
pub readers_more : (c : Circuit) (k net : ℕ) (p : Part) (rows : List (List ℕ)) → slice_get c.parts k ≡ Some p → hands_from p ≡ Some net → net < c.nets
    → AreReadersTo c k rows → AreReadersTo c (k + 1) (set rows net (readers_at rows net ++ k ∷ []))
readers_more c k net p rows at hands below are =
    let within : net < length rows = omega (arith, below, are.len) in
    let row : List ℕ = readers_at rows net ++ k ∷ [] in
    let now : readers_at (set rows net row) net ≡ row = get_or-set_same rows net row [] within in
    let kept : (n : ℕ) → n ≢ net → readers_at (set rows net row) n ≡ readers_at rows n = λ n apart. get_or-set_other rows net n row [] apart in
    record {
      len = length-set rows net row ∙ are.len;
      hand = λ n place has. elim (cases_eq n net) [
        | inl same ↦ elim (Contains-append_cases (readers_at rows net) (k ∷ []) place
            (subst (λ (l : List ℕ). Contains l place) (ap (readers_at (set rows net row)) same ∙ now) has)) [
              | inl earlier ↦ are.hand n place (subst (λ (m : ℕ). Contains (readers_at rows m) place) (sym same) earlier)
              | inr last ↦
                  let here : k ≡ place = contains_one k place last in
                  (p, subst (λ (i : ℕ). slice_get c.parts i ≡ Some p) here at, hands ∙ ap (λ (m : ℕ). Some m) (sym same))
            ]
        | inr apart ↦ are.hand n place (subst (λ (l : List ℕ). Contains l place) (kept n apart) has)
      ];
      all = λ n place q low at_q reads. elim (cases_lt place k) [
        | inl less ↦
            let old : Contains (readers_at rows n) place = are.all n place q less at_q reads in
            elim (cases_eq n net) [
              | inl same ↦ subst (λ (l : List ℕ). Contains l place) (sym (ap (readers_at (set rows net row)) same ∙ now))
                  (Contains-append_left (readers_at rows net) (k ∷ []) place (subst (λ (m : ℕ). Contains (readers_at rows m) place) same old))
              | inr apart ↦ subst (λ (l : List ℕ). Contains l place) (sym (kept n apart)) old
            ]
        | inr past ↦
            let here : place ≡ k = omega (arith, low, past) in
            let at_k : slice_get c.parts k ≡ Some q = subst (λ (i : ℕ). slice_get c.parts i ≡ Some q) here at_q in
            let one : q ≡ p = some_same (slice_get c.parts k) q p at_k at in
            let same : n ≡ net = some_same (hands_from p) n net (ap hands_from (sym one) ∙ reads) hands in
            subst (λ (l : List ℕ). Contains l place) (sym (ap (readers_at (set rows net row)) same ∙ now))
            (Contains-append_right (readers_at rows net) (k ∷ []) place (0, omega arith, sym here))
      ];
    }

next_or : (c : Circuit) (k : ℕ) (p : Part) (rows : List (List ℕ)) (from : Option ℕ) → hands_from p ≡ from → IsLawfulCircuit c → slice_get c.parts k ≡ Some p
    → AreReadersTo c k rows → AreReadersTo c (k + 1) (with_reader k rows p)
next_or c k p rows None is lawful at are = rw (is, with_reader) (readers_same c k p rows at is are)
next_or c k p rows (Some net) is lawful at are = rw (is, with_reader)
    (readers_more c k net p rows at is (hands_below c.nets p net (part_lawful c k p lawful at) is) are)

-- one more part
pub readers_next : (c : Circuit) (k : ℕ) (p : Part) (rows new : List (List ℕ)) → IsLawfulCircuit c → slice_get c.parts k ≡ Some p → AreReadersTo c k rows
    → new ≡ with_reader k rows p → AreReadersTo c (k + 1) new
readers_next c k p rows new lawful at are is = subst (AreReadersTo c (k + 1)) (sym is) (next_or c k p rows (hands_from p) refl lawful at are)
