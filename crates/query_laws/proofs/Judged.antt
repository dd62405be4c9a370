-- Alternatives whose conditions are true, and violations.
use Rattle.std.proofs.Common.{◌≡◌, ◌≢◌, ℕ, zero, suc, ◌+◌, ◌-◌, ◌<◌, ◌≤◌, Bool, true, false, not, List, [], ◌∷◌, Some, refl}
use Rattle.std.proofs.Common.{sym, ◌∙◌, arith, inl, inr, subst, add-one}
use Rattle.std.specs.Prelude.{slice_get, ◌↔◌}
use Rattle.std.proofs.lemmas.Bool.{cond-false}
use Rattle.net_model.specs.Form.{xor}
use Rattle.net_model.specs.Netlist.{IsSound}
use Rattle.net_model.specs.Fits.{IsStartIn, IsEndIn}
use Rattle.net_model.specs.Cycles.{capture, IsSettled, IsLinked}
use Rattle.net_model.specs.Layers.{IsLateCapture}
use Rattle.net_model.specs.Judge.{judged_count, start_bit, DiffersLate, IsBadPlain, IsBadOn}
use Rattle.net_model.proofs.Settling.{All-at}
use Rattle.net_model.proofs.Flipped.{late_by_flip}
use Rattle.net_model.specs.declared.netlist.Design.{Design}
use Rattle.net_model.specs.declared.cycles.Cycle.{Cycle}
use Rattle.net_model.specs.declared.claims.Claim.{Claim}
use Rattle.net_model.specs.declared.claims.PinRef.{PinRef}
use Rattle.sdcv_base.specs.declared.kinds.Kind.{Kind}
use Rattle.sdcv_base.specs.declared.kinds.Kind.TheVariants.{False, Multi}
use Rattle.query_model.specs.Keys.{lit, lit_value}
use Rattle.query_model.specs.Defined.{change_key, differ_key, stale_key}
use Rattle.query_model.specs.Formula.{stale_if_later, plain_alternatives, hazard_alternatives, alternatives_at}
use Rattle.net_model.proofs.Members.{In}
use Rattle.query_laws.proofs.Extras.{ExtrasTold}
use Rattle.query_laws.proofs.Decided.{xor_ne, ne_xor, AllHold, lit_holds, first_in, Moment, KindOfAll, late_side, IsDecided}
use Rattle.query_model.specs.declared.keys.Key.{Key}
use Rattle.query_model.specs.declared.keys.KeyLit.{KeyLit}

-- the premises on a claim in a run, with the late capture of each cycle
pub record IsJudged (d : Design) (claim : Claim) (run : List Cycle) (late differs : ℕ → Bool) : Type 0 where
  pub sound : IsSound d
  pub linked : IsLinked d run
  pub plain : claim.hazard ≡ false
  pub start_in : IsStartIn d claim.start
  pub end_in : IsEndIn d claim.end
  pub lates : (t : ℕ) (c : Cycle) → slice_get run t ≡ Some c → IsLateCapture d claim c (not (start_bit claim.start c)) (late t)
  pub differs_are : (t : ℕ) (c : Cycle) → slice_get run t ≡ Some c → differs t ≡ xor (late t) (capture d claim.end c)

flip_tells : (d : Design) (claim : Claim) (run : List Cycle) (late differs : ℕ → Bool) (t : ℕ) (c : Cycle) (stale : Bool)
    → IsJudged d claim run late differs → slice_get run t ≡ Some c
    → (DiffersLate d claim c stale ↔ ((start_bit claim.start c ≢ stale) × (late t ≢ capture d claim.end c)))
flip_tells d claim run late differs t c stale is at =
    late_by_flip d claim is.sound is.start_in is.end_in c stale (late t) (All-at (IsSettled d) run t c at is.linked.settled) (is.lates t c at)

pub late_differs : (d : Design) (claim : Claim) (run : List Cycle) (late differs : ℕ → Bool) (t : ℕ) (c : Cycle) (stale : Bool)
    → IsJudged d claim run late differs → slice_get run t ≡ Some c → DiffersLate d claim c stale → (start_bit claim.start c ≢ stale)
    × (late t ≢ capture d claim.end c)
late_differs d claim run late differs t c stale is at apart = (flip_tells d claim run late differs t c stale is at).0 apart

pub differs_late : (d : Design) (claim : Claim) (run : List Cycle) (late differs : ℕ → Bool) (t : ℕ) (c : Cycle) (stale : Bool)
    → IsJudged d claim run late differs → slice_get run t ≡ Some c → start_bit claim.start c ≢ stale → late t ≢ capture d claim.end c
    → DiffersLate d claim c stale
differs_late d claim run late differs t c stale is at other ne = (flip_tells d claim run late differs t c stale is at).1 (other, ne)

-- the start's bit differs from the stale one, r cycles after the toggle
stale_holds : (kind : Key → Type 0) (v : Key → Bool) (d : Design) (claim : Claim) (run : List Cycle) (late differs : ℕ → Bool) (t r : ℕ)
    (a b c : Cycle) → ExtrasTold kind v d claim run differs → slice_get run (t - 1) ≡ Some a → slice_get run t ≡ Some b
    → slice_get run (t + r) ≡ Some c → r < judged_count claim → 1 ≤ t → start_bit claim.start b ≢ start_bit claim.start a
    → ((l : KeyLit) → In l (stale_if_later d (t + r) r) → kind l.key) → AllHold v (stale_if_later d (t + r) r)
    → start_bit claim.start c ≢ start_bit claim.start a
stale_holds kind v d claim run late differs t zero a b c extras at_a at_b at_c lt low ne kinds hold =
    let sum : t + 0 ≡ t = omega arith in
    let there : slice_get run t ≡ Some c = subst (λ i. slice_get run i ≡ Some c) sum at_c in
    let same : b ≡ c = cc in
    subst (λ (x : Cycle). start_bit claim.start x ≢ start_bit claim.start a) same ne
stale_holds kind v d claim run late differs t (suc r) a b c extras at_a at_b at_c lt low ne kinds hold =
    let back : t - 1 ≡ t + suc r - r - 2 = omega arith in
    let before : slice_get run (t + suc r - r - 2) ≡ Some a = subst (λ i. slice_get run i ≡ Some a) back at_a in
    let z = stale_key d (t + suc r) (suc r) in
    let says : v z ≡ xor (start_bit claim.start c) (start_bit claim.start a) =
    subst (λ m. kind (stale_key d (t + suc r) m) → v (stale_key d (t + suc r) m) ≡ xor (start_bit claim.start c) (start_bit claim.start a)) (add-one r)
    (extras.stale (t + suc r) r a c (omega arith) before at_c) (kinds (lit true z) (inl refl)) in
    xor_ne (start_bit claim.start c) (start_bit claim.start a) (sym says ∙ hold (lit true z) (inl refl))

holds_stale : (kind : Key → Type 0) (v : Key → Bool) (d : Design) (claim : Claim) (run : List Cycle) (late differs : ℕ → Bool) (t r : ℕ) (a c : Cycle)
    → ExtrasTold kind v d claim run differs → slice_get run (t - 1) ≡ Some a → slice_get run (t + r) ≡ Some c → r < judged_count claim → 1 ≤ t
    → ((l : KeyLit) → In l (stale_if_later d (t + r) r) → kind l.key) → start_bit claim.start c ≢ start_bit claim.start a
    → AllHold v (stale_if_later d (t + r) r)
holds_stale kind v d claim run late differs t zero a c extras at_a at_c lt low kinds ne l has = absurd has
holds_stale kind v d claim run late differs t (suc r) a c extras at_a at_c lt low kinds ne l (inl here) =
    let back : t - 1 ≡ t + suc r - r - 2 = omega arith in
    let before : slice_get run (t + suc r - r - 2) ≡ Some a = subst (λ i. slice_get run i ≡ Some a) back at_a in
    let z = stale_key d (t + suc r) (suc r) in
    let says : v z ≡ xor (start_bit claim.start c) (start_bit claim.start a) =
    subst (λ m. kind (stale_key d (t + suc r) m) → v (stale_key d (t + suc r) m) ≡ xor (start_bit claim.start c) (start_bit claim.start a)) (add-one r)
    (extras.stale (t + suc r) r a c (omega arith) before at_c) (kinds (lit true z) (inl refl)) in
    subst (λ (m : KeyLit). lit_value v m ≡ true) here (says ∙ ne_xor (start_bit claim.start c) (start_bit claim.start a) ne)
holds_stale kind v d claim run late differs t (suc r) a c extras at_a at_c lt low kinds ne l (inr none) = absurd none

-- the conditions of an alternative make the cycle bad
pub alternative_bad : (kind : Key → Type 0) (v : Key → Bool) (d : Design) (claim : Claim) (run : List Cycle) (late differs : ℕ → Bool) (t r : ℕ)
    (a b before c : Cycle) → IsJudged d claim run late differs → ExtrasTold kind v d claim run differs → Moment claim run t r a b before c
    → start_bit claim.start b ≢ start_bit claim.start a → (k : Kind) (sets : List (List PinRef)) (alt : List KeyLit)
    → KindOfAll kind (plain_alternatives k sets d (t + r) r) → In alt (plain_alternatives k sets d (t + r) r) → AllHold v alt
    → IsBadPlain k sets d claim (start_bit claim.start a) before c
alternative_bad kind v d claim run late differs t r a b before c is extras at ne False sets alt kinds has hold =
    let this : List KeyLit = lit true (differ_key d (t + r)) ∷ stale_if_later d (t + r) r in
    let holds : AllHold v this = subst (AllHold v) (sym (first_in has)) hold in
    let other = stale_holds kind v d claim run late differs t r a b c extras at.at_a at.at_b at.at_c at.judged at.low ne
    (λ l i. kinds this l (inl refl) (inr i)) (λ l i. holds l (inr i)) in
    let says = extras.differ (t + r) c at.at_c (kinds this (lit true (differ_key d (t + r))) (inl refl) (inl refl)) ∙ is.differs_are (t + r) c at.at_c in
    differs_late d claim run late differs (t + r) c (start_bit claim.start a) is at.at_c other
    (xor_ne (late (t + r)) (capture d claim.end c) (sym says ∙ holds (lit true (differ_key d (t + r))) (inl refl)))
alternative_bad kind v d claim run late differs t r a b before c is extras at ne (Multi k) [] alt kinds has hold =
    let this : List KeyLit = lit true (change_key d (t + r)) ∷ [] in
    let holds : AllHold v this = subst (AllHold v) (sym (first_in has)) hold in
    let says = extras.change (t + r) before c at.at_before at.at_c (kinds this (lit true (change_key d (t + r))) (inl refl) (inl refl)) in
    xor_ne (capture d claim.end c) (capture d claim.end before) (sym says ∙ holds (lit true (change_key d (t + r))) (inl refl))
alternative_bad kind v d claim run late differs t r a b before c is extras at ne (Multi k) (set ∷ sets) alt kinds has hold =
    let this : List KeyLit = lit true (change_key d (t + r)) ∷ lit true (differ_key d (t + r)) ∷ stale_if_later d (t + r) r in
    let holds : AllHold v this = subst (AllHold v) (sym (first_in has)) hold in
    let other = stale_holds kind v d claim run late differs t r a b c extras at.at_a at.at_b at.at_c at.judged at.low ne
    (λ l i. kinds this l (inl refl) (inr (inr i))) (λ l i. holds l (inr (inr i))) in
    let differ = extras.differ (t + r) c at.at_c (kinds this (lit true (differ_key d (t + r))) (inl refl) (inr (inl refl)))
    ∙ is.differs_are (t + r) c at.at_c in
    let change = extras.change (t + r) before c at.at_before at.at_c (kinds this (lit true (change_key d (t + r))) (inl refl) (inl refl)) in (
      differs_late d claim run late differs (t + r) c (start_bit claim.start a) is at.at_c other
          (xor_ne (late (t + r)) (capture d claim.end c) (sym differ ∙ holds (lit true (differ_key d (t + r))) (inr (inl refl)))),
      xor_ne (capture d claim.end c) (capture d claim.end before) (sym change ∙ holds (lit true (change_key d (t + r))) (inl refl)),
    )

-- and a bad cycle has an alternative whose conditions hold wherever the keys tell the run
pub bad_alternative : (kind : Key → Type 0) (d : Design) (claim : Claim) (run : List Cycle) (late differs : ℕ → Bool) (t r : ℕ) (a b before c : Cycle)
    → IsJudged d claim run late differs → Moment claim run t r a b before c → (k : Kind) (sets : List (List PinRef))
    → KindOfAll kind (plain_alternatives k sets d (t + r) r) → IsBadPlain k sets d claim (start_bit claim.start a) before c → (alt : List KeyLit)
    × In alt (plain_alternatives k sets d (t + r) r) × ((v : Key → Bool) → ExtrasTold kind v d claim run differs → AllHold v alt)
bad_alternative kind d claim run late differs t r a b before c is at False sets kinds bad =
    let this : List KeyLit = lit true (differ_key d (t + r)) ∷ stale_if_later d (t + r) r in
    let both = late_differs d claim run late differs (t + r) c (start_bit claim.start a) is at.at_c bad in (
      this,
      inl refl,
      λ v extras l has.
          let says = extras.differ (t + r) c at.at_c (kinds this (lit true (differ_key d (t + r))) (inl refl) (inl refl)) ∙ is.differs_are (t + r) c at.at_c in
          let differ : v (differ_key d (t + r)) ≡ true = says ∙ ne_xor (late (t + r)) (capture d claim.end c) both.1 in
          let stale = holds_stale kind v d claim run late differs t r a c extras at.at_a at.at_c at.judged at.low
          (λ l i. kinds this l (inl refl) (inr i)) both.0 in
          elim has [ inl here ↦ lit_holds v (differ_key d (t + r)) l here differ | inr later ↦ stale l later ],
    )
bad_alternative kind d claim run late differs t r a b before c is at (Multi k) [] kinds bad =
    let this : List KeyLit = lit true (change_key d (t + r)) ∷ [] in (
      this,
      inl refl,
      λ v extras l has.
          let says = extras.change (t + r) before c at.at_before at.at_c (kinds this (lit true (change_key d (t + r))) (inl refl) (inl refl)) in
          let change : v (change_key d (t + r)) ≡ true = says ∙ ne_xor (capture d claim.end c) (capture d claim.end before) bad in
          elim has [ inl here ↦ lit_holds v (change_key d (t + r)) l here change | inr none ↦ absurd none ],
    )
bad_alternative kind d claim run late differs t r a b before c is at (Multi k) (set ∷ sets) kinds bad =
    let this : List KeyLit = lit true (change_key d (t + r)) ∷ lit true (differ_key d (t + r)) ∷ stale_if_later d (t + r) r in
    let both = late_differs d claim run late differs (t + r) c (start_bit claim.start a) is at.at_c bad.0 in (
      this,
      inl refl,
      λ v extras l has.
          let says_differ = extras.differ (t + r) c at.at_c (kinds this (lit true (differ_key d (t + r))) (inl refl) (inr (inl refl)))
          ∙ is.differs_are (t + r) c at.at_c in
          let says_change = extras.change (t + r) before c at.at_before at.at_c (kinds this (lit true (change_key d (t + r))) (inl refl) (inl refl)) in
          let differ : v (differ_key d (t + r)) ≡ true = says_differ ∙ ne_xor (late (t + r)) (capture d claim.end c) both.1 in
          let change : v (change_key d (t + r)) ≡ true = says_change ∙ ne_xor (capture d claim.end c) (capture d claim.end before) bad.1 in
          let stale = holds_stale kind v d claim run late differs t r a c extras at.at_a at.at_c at.judged at.low
          (λ l i. kinds this l (inl refl) (inr (inr i))) both.0 in
          elim has [
            | inl here ↦ lit_holds v (change_key d (t + r)) l here change
            | inr later ↦ elim later [ inl here ↦ lit_holds v (differ_key d (t + r)) l here differ | inr last ↦ stale l last ]
          ],
    )

plain_at : (d : Design) (claim : Claim) (t r : ℕ) → claim.early ≡ false → claim.hazard ≡ false → alternatives_at d claim t r ≡ plain_alternatives
    claim.kind claim.through d (t + r) r
plain_at d claim t r side mode =
    late_side d claim t r side
    ∙ cond-false claim.hazard (hazard_alternatives claim.kind claim.through d (t + r)) (plain_alternatives claim.kind claim.through d (t + r) r) mode

bad_plain : (e h : Bool) (d : Design) (claim : Claim) (stale : Bool) (before c : Cycle) → e ≡ false → h ≡ false → IsBadOn e h d claim stale before c
    → IsBadPlain claim.kind claim.through d claim stale before c
bad_plain false false d claim stale before c side mode bad = bad
bad_plain false true d claim stale before c side mode bad = absurd cc
bad_plain true h d claim stale before c side mode bad = absurd cc

plain_bad : (e h : Bool) (d : Design) (claim : Claim) (stale : Bool) (before c : Cycle) → e ≡ false → h ≡ false
    → IsBadPlain claim.kind claim.through d claim stale before c → IsBadOn e h d claim stale before c
plain_bad false false d claim stale before c side mode bad = bad
plain_bad false true d claim stale before c side mode bad = absurd cc
plain_bad true h d claim stale before c side mode bad = absurd cc

one_plain : (k : Kind) (sets : List (List PinRef)) (d : Design) (c r : ℕ) → (alt : List KeyLit) × In alt (plain_alternatives k sets d c r)
one_plain False sets d c r = (_, inl refl)
one_plain (Multi k) [] d c r = (_, inl refl)
one_plain (Multi k) (set ∷ sets) d c r = (_, inl refl)

-- the alternatives of a plain claim of the late side decide
pub plain_decided : (kind : Key → Type 0) (d : Design) (claim : Claim) (run : List Cycle) (late differs : ℕ → Bool) → claim.early ≡ false
    → IsJudged d claim run late differs → IsDecided kind d claim run differs
plain_decided kind d claim run late differs side is =
    record {
      bad = λ v t r a b before c alt extras at ne kinds in_alts hold.
          let at_r = plain_at d claim t r side is.plain in
          plain_bad claim.early claim.hazard d claim (start_bit claim.start a) before c side is.plain
          (alternative_bad kind v d claim run late differs t r a b before c is extras at ne claim.kind claim.through alt
          (subst (KindOfAll kind) at_r kinds) (subst (In alt) at_r in_alts) hold);
      good = λ t r a b before c at kinds bad.
          let at_r = plain_at d claim t r side is.plain in
          let found = bad_alternative kind d claim run late differs t r a b before c is at claim.kind claim.through (subst (KindOfAll kind) at_r kinds)
          (bad_plain claim.early claim.hazard d claim (start_bit claim.start a) before c side is.plain bad) in
          (found.0, subst (In found.0) (sym at_r) found.1, found.2);
      some = λ t r.
          let one = one_plain claim.kind claim.through d (t + r) r in
          (one.0, subst (In one.0) (sym (plain_at d claim t r side is.plain)) one.1);
    }
