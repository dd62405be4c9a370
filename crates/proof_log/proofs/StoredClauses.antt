-- Clauses in one list of literals, as they are read and added.
use Rattle.std.proofs.Common.{◌≡◌, ◌∙◌, ◌+◌, ◌<◌, ◌≤◌, ℕ, zero, suc, List, [], ◌∷◌, ◌++◌, length, get_or, take, drop, ap, sym, refl, subst, inl, inr, arith}
use Rattle.std.specs.List.{between}
use Rattle.std.proofs.lemmas.List.{take-append-le, take_all, length-append}
use Rattle.std.proofs.lemmas.Slice.{between_is}
use Rattle.std.proofs.Math.Seq.{drop-append_seam, take-length}
use Rattle.proof_log.specs.Clauses.{is_set, HasComplements, IsNormalFrom, IsKeptOf}
use Rattle.proof_log.specs.Tables.{clauses_of, AreEnds}

-- there are as many clauses as ends
pub length-clauses_of : (lits : List ℕ) (start : ℕ) (ends : List ℕ) → length (clauses_of lits start ends) ≡ length ends
length-clauses_of lits start [] = refl
length-clauses_of lits start (e ∷ es) = ap suc (length-clauses_of lits e es)

start_within : (start : ℕ) (ends : List ℕ) (len : ℕ) → AreEnds start ends len → start ≤ len
start_within start [] len h = omega (arith, h)
start_within start (e ∷ es) len h = omega (arith, h.0, start_within e es len h.1)

-- a clause ends no sooner than the one before it, and within the literals
pub ends_within : (start : ℕ) (ends : List ℕ) (len k : ℕ) → AreEnds start ends len → k < length ends
    → (get_or (start ∷ ends) k 0 ≤ get_or ends k 0) × (get_or ends k 0 ≤ len)
ends_within start [] len k h below = absurd (omega (arith, below))
ends_within start (e ∷ es) len zero h below = (h.0, start_within e es len h.1)
ends_within start (e ∷ es) len (suc k) h below = ends_within e es len k h.1 (omega (arith, below))

-- a clause has the literals from where the one before it ends to its own end
pub clauses_of-at : (lits : List ℕ) (start : ℕ) (ends : List ℕ) (k : ℕ) → k < length ends
    → get_or (clauses_of lits start ends) k [] ≡ between (get_or (start ∷ ends) k 0) (get_or ends k 0) lits
clauses_of-at lits start [] k below = absurd (omega (arith, below))
clauses_of-at lits start (e ∷ es) zero below = refl
clauses_of-at lits start (e ∷ es) (suc k) below = clauses_of-at lits e es k (omega (arith, below))

between-append : (lits more : List ℕ) (start end : ℕ) → end ≤ length lits → between start end (lits ++ more) ≡ between start end lits
between-append lits more start end h =
    between_is (lits ++ more) start end ∙ (ap (drop start) (take-append-le end lits more h) ∙ sym (between_is lits start end))

between-last : (lits more : List ℕ) → between (length lits) (length lits + length more) (lits ++ more) ≡ more
between-last lits more =
    between_is (lits ++ more) (length lits) (length lits + length more)
    ∙ (ap (λ n. drop (length lits) (take n (lits ++ more))) (sym (length-append lits more))
    ∙ (ap (drop (length lits)) (take-length (lits ++ more)) ∙ drop-append_seam lits more))

-- the literals of one more clause stand behind the others
pub clauses_of-push : (lits more : List ℕ) (start : ℕ) (ends : List ℕ) → AreEnds start ends (length lits)
    → clauses_of (lits ++ more) start (ends ++ (length lits + length more) ∷ []) ≡ clauses_of lits start ends ++ more ∷ []
clauses_of-push lits more start [] h =
    ap (λ c. c ∷ []) (ap (λ n. between n (length lits + length more) (lits ++ more)) h ∙ between-last lits more)
clauses_of-push lits more start (e ∷ es) h =
    ap (λ c. c ∷ clauses_of (lits ++ more) e (es ++ (length lits + length more) ∷ []))
    (between-append lits more start e (start_within e es (length lits) h.1))
    ∙ ap (λ cs. between start e lits ∷ cs) (clauses_of-push lits more e es h.1)

pub AreEnds-push : (start : ℕ) (ends : List ℕ) (len end : ℕ) → AreEnds start ends len → len ≤ end → AreEnds start (ends ++ end ∷ []) end
AreEnds-push start [] len end h low = (omega (arith, h, low), refl)
AreEnds-push start (e ∷ es) len end h low = (h.0, AreEnds-push e es len end h.1 low)

front_append : (old more : List ℕ) (start : ℕ) → start ≡ length old → take start (old ++ more) ≡ old
front_append old more start e = take-append-le start old more (omega (arith, e)) ∙ take_all start old (omega (arith, e))

back_append : (old more : List ℕ) (start : ℕ) → start ≡ length old → drop start (old ++ more) ≡ more
back_append old more start e = ap (λ n. drop n (old ++ more)) e ∙ drop-append_seam old more

-- the literals behind the others were put in normal form, and are one more clause
pub kept_with : (old more new ends : List ℕ) (start end : ℕ) → AreEnds 0 ends (length old) → start ≡ length old → IsNormalFrom start (old ++ more) new
    → end ≡ length new → IsKeptOf more (clauses_of old 0 ends) (clauses_of new 0 (ends ++ end ∷ [])) × AreEnds 0 (ends ++ end ∷ []) (length new)
kept_with old more new ends start end h e n l =
    let new_is : new ≡ old ++ n.0 = n.3 ∙ ap (λ xs. xs ++ n.0) (front_append old more start e) in
    let end_is : end ≡ length old + length n.0 = l ∙ ap length new_is ∙ length-append old n.0 in
    let A : ℕ → Type 0 = AreEnds 0 (ends ++ end ∷ []) in (
      inr (
        n.0,
        n.1,
        λ q. n.2 q ∙ ap (λ xs. is_set xs q) (back_append old more start e),
        ap (λ xs. clauses_of xs 0 (ends ++ end ∷ [])) new_is ∙ ap (λ m. clauses_of (old ++ n.0) 0 (ends ++ m ∷ [])) end_is ∙ clauses_of-push old n.0 0 ends h,
      ),
      subst A l (AreEnds-push 0 ends (length old) end h (omega (arith, end_is))),
    )

abbrev pub HasNoneFrom : ℕ → List ℕ → List ℕ → Type 0
HasNoneFrom start old new = HasComplements (drop start old) × (new ≡ take start old)

-- they are none, where two of them are complements
pub kept_without : (old more new ends : List ℕ) (start : ℕ) → AreEnds 0 ends (length old) → start ≡ length old
    → HasNoneFrom start (old ++ more) new → IsKeptOf more (clauses_of old 0 ends) (clauses_of new 0 ends) × AreEnds 0 ends (length new)
kept_without old more new ends start h e n =
    let C : List ℕ → Type 0 = HasComplements in
    let A : List ℕ → Type 0 = λ xs. AreEnds 0 ends (length xs) in
    let new_is : new ≡ old = n.1 ∙ front_append old more start e in
    (inl (subst C (back_append old more start e) n.0, ap (λ xs. clauses_of xs 0 ends) new_is), subst A (sym new_is) h)
