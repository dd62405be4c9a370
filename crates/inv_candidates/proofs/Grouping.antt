-- Groups, one level on.
use Rattle.std.proofs.Common.{arith, ◌≡◌, ℕ, zero, suc, ◌+◌, ◌-◌, ◌<◌, ◌≤◌, ◌⊎◌, List, [], ◌++◌, length}
use Rattle.std.proofs.Common.{sym, ap, subst, ◌∙◌, inl, inr, Contains, append-nil, length-append}
use Rattle.std.proofs.lemmas.Bool.{cases_lt}
use Rattle.std.proofs.lemmas.List.{nil_from_length}
use Rattle.std.proofs.lemmas.List.Elements.{Contains-append_left, Contains-append_cases}
use Rattle.net_model.specs.declared.netlist.Design.{Design}
use Rattle.net_model.specs.declared.claims.Claim.{Claim}
use Rattle.inv_candidates.specs.Near.{FeedsSome, IsNear, ComesBefore, Nearer, Smaller, StandInOrder, Differ, IsGroup}
use Rattle.inv_candidates.specs.Levels.{IsGrown, IsUpTo}
use Rattle.inv_candidates.proofs.Growing.{In_first, In_second, joined_at, has_at}

-- what is near by a level is near by each later one
near_more : (d : Design) (claim : Claim) (level more r : ℕ) → IsNear d claim level r → IsNear d claim (more + level) r
near_more d claim level zero r near = subst (λ n. IsNear d claim n r) (let e : level ≡ 0 + level = omega arith in e) near
near_more d claim level (suc more) r near = subst (λ n. IsNear d claim n r) (let e : suc (more + level) ≡ suc more + level = omega arith in e)
    (inl (near_more d claim level more r near))

pub near_later : (d : Design) (claim : Claim) (level later r : ℕ) → level ≤ later → IsNear d claim level r → IsNear d claim later r
near_later d claim level later r le near = subst (λ n. IsNear d claim n r) (let e : later - level + level ≡ later = omega arith in e)
    (near_more d claim level (later - level) r near)

-- where each level adds registers of which some that were near are fed, and all that are fed are there, no level adds more
pub no_more : (d : Design) (claim : Claim) (level : ℕ) (regs : List ℕ) → ((r : ℕ) → IsNear d claim level r → Contains regs r)
    → ((r : ℕ) → FeedsSome d regs r → Contains regs r) → (any r : ℕ) → IsNear d claim any r → Contains regs r
no_more d claim level regs near fed zero r is = near r (near_later d claim 0 level r (omega arith) is)
no_more d claim level regs near fed (suc any) r (inl earlier) = no_more d claim level regs near fed any r earlier
no_more d claim level regs near fed (suc any) r (inr (to, is, feeds)) = fed r (to, no_more d claim level regs near fed any to is, feeds)

-- where something was appended, there was room
room : (d : Design) (old new : List ℕ) (r : ℕ) → (grown : IsGrown (FeedsSome d old) old new) → Contains grown.more r → length old < 16
room d old new r grown has =
    let len : length new ≡ length old + length grown.more = ap length grown.whole ∙ length-append old grown.more in
    let some = has.1 in
    omega (arith, len, some, grown.few)

cases_new : (d : Design) (old new : List ℕ) (r : ℕ) → (grown : IsGrown (FeedsSome d old) old new) → Contains new r → Contains old r ⊎ Contains grown.more r
cases_new d old new r grown has = Contains-append_cases old grown.more r (subst (λ l. Contains l r) grown.whole has)

was_new : (d : Design) (old new : List ℕ) (r : ℕ) → (grown : IsGrown (FeedsSome d old) old new) → Contains old r → Contains new r
was_new d old new r grown has = subst (λ l. Contains l r) (sym grown.whole) (Contains-append_left old grown.more r has)

added_near : (d : Design) (claim : Claim) (level : ℕ) (old new : List ℕ) (r : ℕ) → IsUpTo d claim level old → (grown : IsGrown (FeedsSome d old) old new)
    → Contains grown.more r → IsNear d claim (suc level) r
added_near d claim level old new r upto grown has = let (to, among, feeds) = grown.holds r has in inr (to, upto.near to among, feeds)

-- a register that was appended is of no earlier level
not_nearer : (d : Design) (claim : Claim) (level any : ℕ) (old new : List ℕ) (r : ℕ) → IsUpTo d claim level old → (grown : IsGrown (FeedsSome d old) old new)
    → Contains grown.more r → any ≤ level → IsNear d claim any r → ⊥
not_nearer d claim level any old new r upto grown has le near =
    grown.fresh r has (upto.full r (room d old new r grown has) (near_later d claim any level r le near))

-- it comes after all that were there
after_old : (d : Design) (claim : Claim) (level : ℕ) (old new : List ℕ) (a b : ℕ) → IsUpTo d claim level old → (grown : IsGrown (FeedsSome d old) old new)
    → Contains old a → Contains grown.more b → ComesBefore d claim a b
after_old d claim level old new a b upto grown has_a has_b =
    Nearer level (upto.near a has_a) (λ near. not_nearer d claim level level old new b upto grown has_b (omega arith) near)

-- and before those that were appended later
among_more : (d : Design) (claim : Claim) (level : ℕ) (old new : List ℕ) (a b : ℕ) → IsUpTo d claim level old → (grown : IsGrown (FeedsSome d old) old new)
    → Contains grown.more a → Contains grown.more b → a < b → ComesBefore d claim a b
among_more d claim level old new a b upto grown has_a has_b lt =
    Smaller (λ any near. elim (cases_lt level any) [
      | inl later ↦ near_later d claim (suc level) any a (omega (arith, later)) (added_near d claim level old new a upto grown has_a)
      | inr earlier ↦ absurd (not_nearer d claim level any old new b upto grown has_b (omega (arith, earlier)) near)
    ]) lt

in_order : (d : Design) (claim : Claim) (level : ℕ) (old new : List ℕ) → IsUpTo d claim level old → (grown : IsGrown (FeedsSome d old) old new)
    → StandInOrder d claim (old ++ grown.more)
in_order d claim level old new upto grown i j a b lt at_i at_j =
    elim (joined_at old grown.more j b at_j) [
      | In_first low_j here_j ↦ elim (joined_at old grown.more i a at_i) [
        | In_first low_i here_i ↦ upto.ordered i j a b lt here_i here_j
        | In_second p is_i there_i ↦ absurd (omega arith)
      ]
      | In_second q is_j there_j ↦ elim (joined_at old grown.more i a at_i) [
        | In_first low_i here_i ↦ after_old d claim level old new a b upto grown (has_at old i a here_i) (has_at grown.more q b there_j)
        | In_second p is_i there_i ↦
            among_more d claim level old new a b upto grown (has_at grown.more p a there_i) (has_at grown.more q b there_j)
            (grown.ascends p q a b (omega arith) there_i there_j)
      ]
    ]

-- what comes before a register that was appended is there
closed_more : (d : Design) (claim : Claim) (level : ℕ) (old new : List ℕ) (r a : ℕ) → IsUpTo d claim level old → (grown : IsGrown (FeedsSome d old) old new)
    → Contains grown.more a → ComesBefore d claim r a → Contains new r
closed_more d claim level old new r a upto grown has (Nearer any near not_a) =
    elim (cases_lt level any) [
      | inl later ↦ absurd (not_a (near_later d claim (suc level) any a (omega (arith, later)) (added_near d claim level old new a upto grown has)))
      | inr earlier ↦ was_new d old new r grown
          (upto.full r (room d old new a grown has) (near_later d claim any level r (omega (arith, earlier)) near))
    ]
closed_more d claim level old new r a upto grown has (Smaller also lt) =
    elim (also (suc level) (added_near d claim level old new a upto grown has)) [
      | inl earlier ↦ was_new d old new r grown (upto.full r (room d old new a grown has) earlier)
      | inr (to, near, feeds) ↦ grown.closed r a has lt (to, upto.full to (room d old new a grown has) near, feeds)
    ]

pub upto_more : (d : Design) (claim : Claim) (level : ℕ) (old new : List ℕ) → IsUpTo d claim level old → IsGrown (FeedsSome d old) old new
    → IsUpTo d claim (suc level) new
upto_more d claim level old new upto grown = record {
  few = grown.few;
  near = λ r has. elim (cases_new d old new r grown has) [
    | inl was ↦ inl (upto.near r was)
    | inr more ↦ added_near d claim level old new r upto grown more
  ];
  ordered = subst (StandInOrder d claim) (sym grown.whole) (in_order d claim level old new upto grown);
  closed = λ r a has before. elim (cases_new d old new a grown has) [
    | inl was ↦ was_new d old new r grown (upto.closed r a was before)
    | inr more ↦ closed_more d claim level old new r a upto grown more before
  ];
  full = λ r short near.
      let len : length new ≡ length old + length grown.more = ap length grown.whole ∙ length-append old grown.more in
      let before : length old < 16 = omega (arith, len, short) in
      elim near [
        | inl earlier ↦ was_new d old new r grown (upto.full r before earlier)
        | inr (to, is, feeds) ↦ grown.full r short (to, upto.full to before is, feeds)
      ];
}

-- a level that adds nothing is the last
pub group_from_upto : (d : Design) (claim : Claim) (level : ℕ) (old new : List ℕ) → IsUpTo d claim level old → IsGrown (FeedsSome d old) old new
    → length new ≡ length old → IsGroup d claim new
group_from_upto d claim level old new upto grown same =
    let next = upto_more d claim level old new upto grown in
    let len : length new ≡ length old + length grown.more = ap length grown.whole ∙ length-append old grown.more in
    let none : grown.more ≡ [] = nil_from_length grown.more (omega (arith, len, same)) in
    let is : new ≡ old = grown.whole ∙ ap (λ l. old ++ l) none ∙ append-nil old in
    record {
      few = grown.few;
      near = λ r has. (suc level, next.near r has);
      ordered = next.ordered;
      closed = next.closed;
      full = λ any r short near. no_more d claim (suc level) new (λ q is_near. next.full q short is_near)
          (λ q feeds. grown.full q short (subst (λ l. FeedsSome d l q) is feeds)) any r near;
    }

-- no register comes before itself
not_before_itself : (d : Design) (claim : Claim) (a : ℕ) → ComesBefore d claim a a → ⊥
not_before_itself d claim a (Nearer level near not_near) = not_near near
not_before_itself d claim a (Smaller also lt) = absurd (omega (arith, lt))

-- so the registers of a group differ
pub differ_in_order : (d : Design) (claim : Claim) (group : List ℕ) → StandInOrder d claim group → Differ group
differ_in_order d claim group ordered i j a b lt at_i at_j same =
    not_before_itself d claim a (subst (ComesBefore d claim a) (sym same) (ordered i j a b lt at_i at_j))
