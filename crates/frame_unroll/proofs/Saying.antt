-- Which keys the clauses of a definition mention: those that it defines, and those that it reads.
use Rattle.std.proofs.Common.{◌≡◌, ℕ, zero, suc, ◌<◌, Bool, true, false, not, List, [], ◌∷◌, ◌++◌, map, length, Some, refl, ap, sym, ◌∙◌, arith}
use Rattle.std.proofs.Common.{inl, inr, ◌⊎◌, subst}
use Rattle.std.specs.Prelude.{slice_get}
use Rattle.std.proofs.lemmas.Option.{slice_get_within}
use Rattle.net_model.specs.declared.terns.Tern.{Tern}
use Rattle.net_model.specs.declared.terns.Tern.TheVariants.{Zero, One, Unknown}
use Rattle.net_model.proofs.Members.{In, In-left, In-right, In-cases, In-from_Contains, Contains-from_In, In-map, from_map}
use Rattle.query_model.specs.Keys.{lit, opposite, flipped}
use Rattle.query_model.specs.Tables.{outside, cube_clause, barred, escapes, may_be, may_clause, must_clause}
use Rattle.query_model.specs.Defined.{Definition, covering, settling, plain, rails, unit, exclusive, both}
use Rattle.query_model.specs.Depends.{IsFixedAt}
use Rattle.query_model.specs.Formula.{Mentions}
use Rattle.query_model.proofs.Needs.{mentioned}
use Rattle.query_model.proofs.Based.{get_within}
use Rattle.query_model.specs.declared.keys.Key.{Key}
use Rattle.query_model.specs.declared.keys.KeyLit.{KeyLit}
use Rattle.query_model.specs.declared.keys.Cube.{Cube}
use Rattle.query_model.specs.declared.keys.Coding.{Coding}
use Rattle.frame_unroll.specs.Counting.{counted, Counts}
use Rattle.frame_unroll.proofs.Marks.{counts_covering, counts_settling, some_covers, covers_settle, counted_place, place_counted}

-- the key of one of these literals
abbrev pub Among : List KeyLit → Key → Type 0
Among reads j = (l : KeyLit) × In l reads × (l.key ≡ j)

-- the clauses mention the keys of these literals, and else only those that they define
pub record ReadsOf (def : Definition) (reads : List KeyLit) : Type 0 where
  pub given : (l : KeyLit) → In l reads → Mentions def.clauses l.key
  pub only : (j : Key) → Mentions def.clauses j → In j def.outs ⊎ Among reads j

pub Among-left : (xs ys : List KeyLit) (j : Key) → Among xs j → Among (xs ++ ys) j
Among-left xs ys j a = (a.0, In-left a.0 xs ys a.1, a.2)

pub Among-right : (xs ys : List KeyLit) (j : Key) → Among ys j → Among (xs ++ ys) j
Among-right xs ys j a = (a.0, In-right a.0 xs ys a.1, a.2)

-- a mentioned key stands in some clause
pub in_clause : (clauses : List (List KeyLit)) (j : Key) → Mentions clauses j → (c : List KeyLit) × In c clauses × Among c j
in_clause clauses j m = (m.0, In-from_Contains clauses m.0 m.1, (m.2.0, In-from_Contains m.0 m.2.0 m.2.1, m.2.2))

mention_at : (clauses : List (List KeyLit)) (c : List KeyLit) (j : Key) → In c clauses → Among c j → Mentions clauses j
mention_at clauses c j has a = subst (Mentions clauses) a.2 (mentioned clauses c a.0 has a.1)

later_one : (r : KeyLit) (rs : List KeyLit) (j : Key) → Among rs j → Among (r ∷ rs) j
later_one r rs j a = (a.0, inr a.1, a.2)

first_one : (r l : KeyLit) (rs : List KeyLit) → r ≡ l → Among (r ∷ rs) l.key
first_one r l rs here = (r, inl refl, ap (λ (x : KeyLit). x.key) here)

-- a cube's clause mentions what a place reads that the cube fixes
outside_at : (reads : List KeyLit) (ts : List Tern) (i : ℕ) (l : KeyLit) → slice_get reads i ≡ Some l → IsFixedAt ts i → Among (outside reads ts) l.key
outside_at [] ts i l at f = absurd cc
outside_at (r ∷ rs) [] i l at f = absurd f
outside_at (r ∷ rs) (Zero ∷ ts) zero l at f = let is : r ≡ l = cc in first_one r l (outside rs ts) is
outside_at (r ∷ rs) (One ∷ ts) zero l at f = let is : r ≡ l = cc in (opposite r, inl refl, ap (λ (x : KeyLit). x.key) is)
outside_at (r ∷ rs) (Unknown ∷ ts) zero l at f = absurd f
outside_at (r ∷ rs) (Zero ∷ ts) (suc i) l at f = later_one r (outside rs ts) l.key (outside_at rs ts i l at f)
outside_at (r ∷ rs) (One ∷ ts) (suc i) l at f = later_one (opposite r) (outside rs ts) l.key (outside_at rs ts i l at f)
outside_at (r ∷ rs) (Unknown ∷ ts) (suc i) l at f = outside_at rs ts i l at f

-- a place that the cube fixes reads a literal of this key
abbrev FixedRead : List KeyLit → List Tern → Key → Type 0
FixedRead reads ts j = (i : ℕ) × (r : KeyLit) × (slice_get reads i ≡ Some r) × IsFixedAt ts i × (r.key ≡ j)

later_place : (r : KeyLit) (rs : List KeyLit) (t : Tern) (ts : List Tern) (j : Key) → FixedRead rs ts j → FixedRead (r ∷ rs) (t ∷ ts) j
later_place r rs t ts j a = (suc a.0, a.1, a.2, a.3, a.4)

outside_place : (reads : List KeyLit) (ts : List Tern) (l : KeyLit) → In l (outside reads ts) → FixedRead reads ts l.key
outside_place [] ts l has = absurd has
outside_place (r ∷ rs) [] l has = absurd has
outside_place (r ∷ rs) (Zero ∷ ts) l (inl here) = (0, r, refl, tt, ap (λ (x : KeyLit). x.key) here)
outside_place (r ∷ rs) (Zero ∷ ts) l (inr later) = later_place r rs Zero ts l.key (outside_place rs ts l later)
outside_place (r ∷ rs) (One ∷ ts) l (inl here) = (0, r, refl, tt, ap (λ (x : KeyLit). x.key) here)
outside_place (r ∷ rs) (One ∷ ts) l (inr later) = later_place r rs One ts l.key (outside_place rs ts l later)
outside_place (r ∷ rs) (Unknown ∷ ts) l has = later_place r rs Unknown ts l.key (outside_place rs ts l has)

flipped_key : (b : Bool) (l : KeyLit) → (flipped b l).key ≡ l.key
flipped_key true l = refl
flipped_key false l = refl

-- a literal of a cube's clause
from_last : (c : List KeyLit) (out l : KeyLit) → In l (c ++ out ∷ []) → In l c ⊎ (out.key ≡ l.key)
from_last c out l has =
    elim (In-cases l c (out ∷ []) has) [
      | inl inside ↦ inl inside
      | inr last ↦ elim last [ inl here ↦ inr (ap (λ (x : KeyLit). x.key) here) | inr none ↦ absurd none ]
    ]

-- what a fixed place reads counts
fixed_counts : (coding : Coding) (cell : (ℕ → Bool) → Bool) (reads : List KeyLit) (places : ℕ) (e : Cube) (j : Key) → places ≡ length reads
    → In e (covering coding cell places) → FixedRead reads e.fixed j → Among (counted coding cell reads) j
fixed_counts coding cell reads places e j same has a =
    let counts = (counts_covering coding cell places a.0).1 (e, Contains-from_In (covering coding cell places) e has, a.3) in
    (a.1, place_counted coding cell reads a.1 a.0 a.2 (subst (λ n. Counts coding cell n a.0) same counts), a.4)

fixed_settles : (coding : Coding) (cell : (ℕ → Bool) → Bool) (reads : List KeyLit) (places : ℕ) (e : Cube) (j : Key) → places ≡ length reads
    → In e (settling coding cell places) → FixedRead reads e.fixed j → Among (counted coding cell reads) j
fixed_settles coding cell reads places e j same has a =
    let counts = (counts_settling coding cell places a.0).1 (e, Contains-from_In (settling coding cell places) e has, a.3) in
    (a.1, place_counted coding cell reads a.1 a.0 a.2 (subst (λ n. Counts coding cell n a.0) same counts), a.4)

pub plain_read : (coding : Coding) (cell : (ℕ → Bool) → Bool) (reads : List KeyLit) (out : Key)
    → ReadsOf (plain coding cell reads out) (counted coding cell reads)
plain_read coding cell reads out = record { given = given; only = only } where
  cubes : List Cube
  cubes = covering coding cell (length reads)

  clause : Cube → List KeyLit
  clause cube = cube_clause reads (lit true out) cube

  given : (l : KeyLit) → In l (counted coding cell reads) → Mentions (plain coding cell reads out).clauses l.key
  given l has =
      let at = counted_place coding cell reads l has in
      let fixed = (counts_covering coding cell (length reads) at.0).0 at.2 in
      let e = fixed.0 in
      mention_at (map clause cubes) (clause e) l.key (In-map clause e cubes (In-from_Contains cubes e fixed.1))
      (Among-left (outside reads e.fixed) (flipped (not e.value) (lit true out) ∷ []) l.key (outside_at reads e.fixed at.0 l at.1 fixed.2))

  only : (j : Key) → Mentions (plain coding cell reads out).clauses j → In j (out ∷ []) ⊎ Among (counted coding cell reads) j
  only j m =
      let at = in_clause (map clause cubes) j m in
      let of = from_map clause at.0 cubes at.1 in
      let l = at.2.0 in
      elim (from_last (outside reads of.0.fixed) (flipped (not of.0.value) (lit true out)) l (subst (In l) (sym of.2) at.2.1)) [
        | inl inside ↦ inr (fixed_counts coding cell reads (length reads) of.0 j refl of.1
            (subst (FixedRead reads of.0.fixed) at.2.2 (outside_place reads of.0.fixed l inside)))
        | inr last ↦ inl (inl (sym (flipped_key (not of.0.value) (lit true out)) ∙ last ∙ at.2.2))
      ]

pub plain_out : (coding : Coding) (cell : (ℕ → Bool) → Bool) (reads : List KeyLit) (out : Key) → Mentions (plain coding cell reads out).clauses out
plain_out coding cell reads out =
    let some = some_covers coding cell (length reads) in
    let e = some.0 in
    mention_at (plain coding cell reads out).clauses (cube_clause reads (lit true out) e) out
    (In-map (cube_clause reads (lit true out)) e (covering coding cell (length reads)) some.1)
    (Among-right (outside reads e.fixed) (flipped (not e.value) (lit true out) ∷ []) out (
      flipped (not e.value) (lit true out),
      inl refl,
      flipped_key (not e.value) (lit true out),
    ))

-- the rails: of a place that a cube fixes one clause mentions one rail, and the other clause the other
abbrev AtFixed : List KeyLit → List KeyLit → List Tern → Key → Key → Type 0
AtFixed hs ls ts high low =
    (Among (barred hs ls ts) high × Among (escapes hs ls ts) low) ⊎ (Among (barred hs ls ts) low × Among (escapes hs ls ts) high)

rails_later : (h m : KeyLit) (hs ls : List KeyLit) (t : Tern) (ts : List Tern) (high low : Key) → AtFixed hs ls ts high low
    → AtFixed (h ∷ hs) (m ∷ ls) (t ∷ ts) high low
rails_later h m hs ls Zero ts high low (inl a) = inl (later_one (opposite m) (barred hs ls ts) high a.0, later_one h (escapes hs ls ts) low a.1)
rails_later h m hs ls Zero ts high low (inr a) = inr (later_one (opposite m) (barred hs ls ts) low a.0, later_one h (escapes hs ls ts) high a.1)
rails_later h m hs ls One ts high low (inl a) = inl (later_one (opposite h) (barred hs ls ts) high a.0, later_one m (escapes hs ls ts) low a.1)
rails_later h m hs ls One ts high low (inr a) = inr (later_one (opposite h) (barred hs ls ts) low a.0, later_one m (escapes hs ls ts) high a.1)
rails_later h m hs ls Unknown ts high low a = a

rails_at : (hs ls : List KeyLit) (ts : List Tern) (i : ℕ) (x y : KeyLit) → slice_get hs i ≡ Some x → slice_get ls i ≡ Some y → IsFixedAt ts i
    → AtFixed hs ls ts x.key y.key
rails_at [] ls ts i x y at there f = absurd cc
rails_at (h ∷ hs) [] ts i x y at there f = absurd cc
rails_at (h ∷ hs) (m ∷ ls) [] i x y at there f = absurd f
rails_at (h ∷ hs) (m ∷ ls) (Zero ∷ ts) zero x y at there f =
    let is : h ≡ x = cc in
    let same : m ≡ y = cc in
    inr ((opposite m, inl refl, ap (λ (l : KeyLit). l.key) same), (h, inl refl, ap (λ (l : KeyLit). l.key) is))
rails_at (h ∷ hs) (m ∷ ls) (One ∷ ts) zero x y at there f =
    let is : h ≡ x = cc in
    let same : m ≡ y = cc in
    inl ((opposite h, inl refl, ap (λ (l : KeyLit). l.key) is), (m, inl refl, ap (λ (l : KeyLit). l.key) same))
rails_at (h ∷ hs) (m ∷ ls) (Unknown ∷ ts) zero x y at there f = absurd f
rails_at (h ∷ hs) (m ∷ ls) (t ∷ ts) (suc i) x y at there f = rails_later h m hs ls t ts x.key y.key (rails_at hs ls ts i x y at there f)

-- a literal of either rail of a place that the cube fixes
abbrev OfRails : List KeyLit → List KeyLit → List Tern → Key → Type 0
OfRails hs ls ts j = FixedRead hs ts j ⊎ FixedRead ls ts j

later_rails : (h m : KeyLit) (hs ls : List KeyLit) (t : Tern) (ts : List Tern) (j : Key) → OfRails hs ls ts j → OfRails (h ∷ hs) (m ∷ ls) (t ∷ ts) j
later_rails h m hs ls t ts j (inl a) = inl (later_place h hs t ts j a)
later_rails h m hs ls t ts j (inr a) = inr (later_place m ls t ts j a)

barred_from : (hs ls : List KeyLit) (ts : List Tern) (l : KeyLit) → In l (barred hs ls ts) → OfRails hs ls ts l.key
barred_from [] ls ts l has = absurd has
barred_from (h ∷ hs) [] ts l has = absurd has
barred_from (h ∷ hs) (m ∷ ls) [] l has = absurd has
barred_from (h ∷ hs) (m ∷ ls) (Zero ∷ ts) l (inl here) = inr (0, m, refl, tt, ap (λ (x : KeyLit). x.key) here)
barred_from (h ∷ hs) (m ∷ ls) (Zero ∷ ts) l (inr later) = later_rails h m hs ls Zero ts l.key (barred_from hs ls ts l later)
barred_from (h ∷ hs) (m ∷ ls) (One ∷ ts) l (inl here) = inl (0, h, refl, tt, ap (λ (x : KeyLit). x.key) here)
barred_from (h ∷ hs) (m ∷ ls) (One ∷ ts) l (inr later) = later_rails h m hs ls One ts l.key (barred_from hs ls ts l later)
barred_from (h ∷ hs) (m ∷ ls) (Unknown ∷ ts) l has = later_rails h m hs ls Unknown ts l.key (barred_from hs ls ts l has)

escapes_from : (hs ls : List KeyLit) (ts : List Tern) (l : KeyLit) → In l (escapes hs ls ts) → OfRails hs ls ts l.key
escapes_from [] ls ts l has = absurd has
escapes_from (h ∷ hs) [] ts l has = absurd has
escapes_from (h ∷ hs) (m ∷ ls) [] l has = absurd has
escapes_from (h ∷ hs) (m ∷ ls) (Zero ∷ ts) l (inl here) = inl (0, h, refl, tt, ap (λ (x : KeyLit). x.key) here)
escapes_from (h ∷ hs) (m ∷ ls) (Zero ∷ ts) l (inr later) = later_rails h m hs ls Zero ts l.key (escapes_from hs ls ts l later)
escapes_from (h ∷ hs) (m ∷ ls) (One ∷ ts) l (inl here) = inr (0, m, refl, tt, ap (λ (x : KeyLit). x.key) here)
escapes_from (h ∷ hs) (m ∷ ls) (One ∷ ts) l (inr later) = later_rails h m hs ls One ts l.key (escapes_from hs ls ts l later)
escapes_from (h ∷ hs) (m ∷ ls) (Unknown ∷ ts) l has = later_rails h m hs ls Unknown ts l.key (escapes_from hs ls ts l has)

may_be_key : (b : Bool) (high low : Key) (j : Key) → (may_be b (lit true high) (lit true low)).key ≡ j → In j (high ∷ low ∷ [])
may_be_key true high low j e = inl e
may_be_key false high low j e = inr (inl e)

-- what both rails read, with the keys that are defined beside
abbrev pub rails_reads : List KeyLit → List KeyLit → Key → Key → List KeyLit
rails_reads hs ls high low = (hs ++ lit true high ∷ []) ++ (ls ++ lit true low ∷ [])

pub rails_read : (coding : Coding) (cell : (ℕ → Bool) → Bool) (hs ls : List KeyLit) (high low : Key) → length ls ≡ length hs
    → ReadsOf (rails coding cell hs ls high low) (rails_reads (counted coding cell hs) (counted coding cell ls) high low)
rails_read coding cell hs ls high low same = record { given = given; only = only } where
  places : ℕ
  places = length hs

  rows : List Cube
  rows = covering coding cell places

  cubes : List Cube
  cubes = settling coding cell places

  may : Cube → List KeyLit
  may cube = may_clause hs ls (lit true high) (lit true low) cube

  must : Cube → List KeyLit
  must cube = must_clause hs ls (lit true high) (lit true low) cube

  Said : Key → Type 0
  Said j = Mentions (rails coding cell hs ls high low).clauses j

  said : (j : Key) (c : List KeyLit) → In c (map may rows ++ map must cubes) → Among c j → Said j
  said j c has a = mention_at (map may rows ++ map must cubes) c j has a

  -- each cube that covers has a clause of either kind
  first : (e : Cube) → In e rows → In (may e) (map may rows ++ map must cubes)
  first e has = In-left (may e) (map may rows) (map must cubes) (In-map may e rows has)

  second : (e : Cube) → In e rows → In (must e) (map may rows ++ map must cubes)
  second e has = In-right (must e) (map may rows) (map must cubes) (In-map must e cubes (covers_settle coding cell places e has))

  in_may : (e : Cube) (j : Key) → In e rows → Among (barred hs ls e.fixed) j → Said j
  in_may e j has a = said j (may e) (first e has) (Among-left (barred hs ls e.fixed) (may_be e.value (lit true high) (lit true low) ∷ []) j a)

  in_must : (e : Cube) (j : Key) → In e rows → Among (escapes hs ls e.fixed) j → Said j
  in_must e j has a =
      said j (must e) (second e has) (Among-left (escapes hs ls e.fixed) (opposite (may_be (not e.value) (lit true high) (lit true low)) ∷ []) j a)

  by_cube : (e : Cube) (x y : Key) → In e rows → AtFixed hs ls e.fixed x y → Said x × Said y
  by_cube e x y has (inl a) = (in_may e x has a.0, in_must e y has a.1)
  by_cube e x y has (inr a) = (in_must e x has a.1, in_may e y has a.0)

  -- a place that counts is fixed by such a cube
  at_place : (i : ℕ) (x y : KeyLit) → slice_get hs i ≡ Some x → slice_get ls i ≡ Some y → Counts coding cell places i → Said x.key × Said y.key
  at_place i x y at there counts =
      let fixed = (counts_covering coding cell places i).0 counts in
      by_cube fixed.0 x.key y.key (In-from_Contains rows fixed.0 fixed.1) (rails_at hs ls fixed.0.fixed i x y at there fixed.2)

  -- a cube's two clauses speak of one out each
  outs_said : (e : Cube) → In e rows → (b : Bool) → e.value ≡ b → Said high × Said low
  outs_said e has true is = (
    said high (may e) (first e has) (Among-right (barred hs ls e.fixed) (may_be e.value (lit true high) (lit true low) ∷ []) high
        (may_be e.value (lit true high) (lit true low), inl refl, ap (λ b. (may_be b (lit true high) (lit true low)).key) is)),
    said low (must e) (second e has) (Among-right (escapes hs ls e.fixed) (opposite (may_be (not e.value) (lit true high) (lit true low)) ∷ []) low
        (opposite (may_be (not e.value) (lit true high) (lit true low)), inl refl, ap (λ b. (may_be (not b) (lit true high) (lit true low)).key) is)),
  )
  outs_said e has false is = (
    said high (must e) (second e has) (Among-right (escapes hs ls e.fixed) (opposite (may_be (not e.value) (lit true high) (lit true low)) ∷ []) high
        (opposite (may_be (not e.value) (lit true high) (lit true low)), inl refl, ap (λ b. (may_be (not b) (lit true high) (lit true low)).key) is)),
    said low (may e) (first e has) (Among-right (barred hs ls e.fixed) (may_be e.value (lit true high) (lit true low) ∷ []) low
        (may_be e.value (lit true high) (lit true low), inl refl, ap (λ b. (may_be b (lit true high) (lit true low)).key) is)),
  )

  outs : Said high × Said low
  outs = let some = some_covers coding cell places in outs_said some.0 some.1 some.0.value refl

  of_high : (l : KeyLit) → In l (counted coding cell hs) → Said l.key
  of_high l has =
      let at = counted_place coding cell hs l has in
      let within : at.0 < length ls = omega (arith, same, slice_get_within hs at.0 l at.1) in
      let other = get_within ls at.0 within in
      (at_place at.0 l other.0 at.1 other.1 at.2).0

  of_low : (l : KeyLit) → In l (counted coding cell ls) → Said l.key
  of_low l has =
      let at = counted_place coding cell ls l has in
      let within : at.0 < length hs = omega (arith, same, slice_get_within ls at.0 l at.1) in
      let other = get_within hs at.0 within in
      (at_place at.0 other.0 l other.1 at.1 (subst (λ n. Counts coding cell n at.0) same at.2)).1

  given : (l : KeyLit) → In l (rails_reads (counted coding cell hs) (counted coding cell ls) high low) → Said l.key
  given l has =
      elim (In-cases l (counted coding cell hs ++ lit true high ∷ []) (counted coding cell ls ++ lit true low ∷ []) has) [
        | inl highs ↦ elim (from_last (counted coding cell hs) (lit true high) l highs) [
          | inl inside ↦ of_high l inside
          | inr out ↦ subst Said out outs.0
        ]
        | inr lows ↦ elim (from_last (counted coding cell ls) (lit true low) l lows) [
          | inl inside ↦ of_low l inside
          | inr out ↦ subst Said out outs.1
        ]
      ]

  Read : Key → Type 0
  Read j = Among (rails_reads (counted coding cell hs) (counted coding cell ls) high low) j

  in_highs : (j : Key) → Among (counted coding cell hs) j → Read j
  in_highs j a = Among-left (counted coding cell hs ++ lit true high ∷ []) (counted coding cell ls ++ lit true low ∷ []) j
      (Among-left (counted coding cell hs) (lit true high ∷ []) j a)

  in_lows : (j : Key) → Among (counted coding cell ls) j → Read j
  in_lows j a = Among-right (counted coding cell hs ++ lit true high ∷ []) (counted coding cell ls ++ lit true low ∷ []) j
      (Among-left (counted coding cell ls) (lit true low ∷ []) j a)

  by_row : (e : Cube) (j : Key) → In e rows → OfRails hs ls e.fixed j → Read j
  by_row e j has (inl a) = in_highs j (fixed_counts coding cell hs places e j refl has a)
  by_row e j has (inr a) = in_lows j (fixed_counts coding cell ls places e j (sym same) has a)

  by_settling : (e : Cube) (j : Key) → In e cubes → OfRails hs ls e.fixed j → Read j
  by_settling e j has (inl a) = in_highs j (fixed_settles coding cell hs places e j refl has a)
  by_settling e j has (inr a) = in_lows j (fixed_settles coding cell ls places e j (sym same) has a)

  only : (j : Key) → Said j → In j (high ∷ low ∷ []) ⊎ Read j
  only j m =
      let at = in_clause (map may rows ++ map must cubes) j m in
      let l = at.2.0 in
      elim (In-cases at.0 (map may rows) (map must cubes) at.1) [
        | inl of_may ↦
            let of = from_map may at.0 rows of_may in
            elim (from_last (barred hs ls of.0.fixed) (may_be of.0.value (lit true high) (lit true low)) l (subst (In l) (sym of.2) at.2.1)) [
              | inl inside ↦ inr (by_row of.0 j of.1 (subst (OfRails hs ls of.0.fixed) at.2.2 (barred_from hs ls of.0.fixed l inside)))
              | inr last ↦ inl (may_be_key of.0.value high low j (last ∙ at.2.2))
            ]
        | inr of_must ↦
            let of = from_map must at.0 cubes of_must in
            elim (from_last (escapes hs ls of.0.fixed) (opposite (may_be (not of.0.value) (lit true high) (lit true low))) l (subst (In l) (sym of.2) at.2.1)) [
              | inl inside ↦ inr (by_settling of.0 j of.1 (subst (OfRails hs ls of.0.fixed) at.2.2 (escapes_from hs ls of.0.fixed l inside)))
              | inr last ↦ inl (may_be_key (not of.0.value) high low j (last ∙ at.2.2))
            ]
      ]

pub unit_read : (b : Bool) (out : Key) → ReadsOf (unit b out) []
unit_read b out = record { given = λ l has. absurd has; only = only } where
  only : (j : Key) → Mentions (unit b out).clauses j → In j (out ∷ []) ⊎ Among [] j
  only j m = let at = in_clause ((lit b out ∷ []) ∷ []) j m in by_clause at.0 at.1 at.2
    where
      by_lit : (l : KeyLit) → In l (lit b out ∷ []) → l.key ≡ j → In j (out ∷ []) ⊎ Among [] j
      by_lit l (inl is) same = inl (inl (ap (λ (x : KeyLit). x.key) is ∙ same))
      by_lit l (inr none) same = absurd none

      by_clause : (c : List KeyLit) → In c ((lit b out ∷ []) ∷ []) → Among c j → In j (out ∷ []) ⊎ Among [] j
      by_clause c (inl here) a = by_lit a.0 (subst (In a.0) (sym here) a.1) a.2
      by_clause c (inr none) a = absurd none

-- a literal with the key of one of three
triple_from : (x y z l : KeyLit) → In l (x ∷ y ∷ z ∷ []) → (x.key ≡ l.key) ⊎ ((y.key ≡ l.key) ⊎ (z.key ≡ l.key))
triple_from x y z l (inl e) = inl (ap (λ (x : KeyLit). x.key) e)
triple_from x y z l (inr (inl e)) = inr (inl (ap (λ (x : KeyLit). x.key) e))
triple_from x y z l (inr (inr (inl e))) = inr (inr (ap (λ (x : KeyLit). x.key) e))
triple_from x y z l (inr (inr (inr none))) = absurd none

-- one of three keys: the one that is defined, or one that is read
of_three : (z : Key) (x y : KeyLit) (j k : Key) → k ≡ j → (z ≡ k) ⊎ ((x.key ≡ k) ⊎ (y.key ≡ k)) → In j (z ∷ []) ⊎ Among (x ∷ y ∷ []) j
of_three z x y j k e (inl is) = inl (inl (is ∙ e))
of_three z x y j k e (inr (inl is)) = inr (x, inl refl, is ∙ e)
of_three z x y j k e (inr (inr is)) = inr (y, inr (inl refl), is ∙ e)

pub exclusive_read : (z : Key) (x y : KeyLit) → ReadsOf (exclusive z x y) (x ∷ y ∷ [])
exclusive_read z x y = record { given = given; only = only } where
  given : (l : KeyLit) → In l (x ∷ y ∷ []) → Mentions (exclusive z x y).clauses l.key
  given l has = mention_at (exclusive z x y).clauses (lit false z ∷ x ∷ y ∷ []) l.key (inl refl) (l, inr has, refl)

  by_clause : (j : Key) (c : List KeyLit) → In c (exclusive z x y).clauses → Among c j → In j (z ∷ []) ⊎ Among (x ∷ y ∷ []) j
  by_clause j c (inl e) a = of_three z x y j a.0.key a.2 (triple_from (lit false z) x y a.0 (subst (In a.0) (sym e) a.1))
  by_clause j c (inr (inl e)) a = of_three z x y j a.0.key a.2 (triple_from (lit false z) (opposite x) (opposite y) a.0 (subst (In a.0) (sym e) a.1))
  by_clause j c (inr (inr (inl e))) a = of_three z x y j a.0.key a.2 (triple_from (lit true z) (opposite x) y a.0 (subst (In a.0) (sym e) a.1))
  by_clause j c (inr (inr (inr (inl e)))) a = of_three z x y j a.0.key a.2 (triple_from (lit true z) x (opposite y) a.0 (subst (In a.0) (sym e) a.1))
  by_clause j c (inr (inr (inr (inr none)))) a = absurd none

  only : (j : Key) → Mentions (exclusive z x y).clauses j → In j (z ∷ []) ⊎ Among (x ∷ y ∷ []) j
  only j m = let at = in_clause (exclusive z x y).clauses j m in by_clause j at.0 at.1 at.2

pub both_read : (z : Key) (x y : KeyLit) → ReadsOf (both z x y) (x ∷ y ∷ [])
both_read z x y = record { given = given; only = only } where
  given : (l : KeyLit) → In l (x ∷ y ∷ []) → Mentions (both z x y).clauses l.key
  given l (inl e) = mention_at (both z x y).clauses (lit false z ∷ x ∷ []) l.key (inl refl) (x, inr (inl refl), ap (λ (m : KeyLit). m.key) e)
  given l (inr (inl e)) = mention_at (both z x y).clauses (lit false z ∷ y ∷ []) l.key (inr (inl refl)) (y, inr (inl refl), ap (λ (m : KeyLit). m.key) e)
  given l (inr (inr none)) = absurd none

  pair_from : (s : Bool) (w l : KeyLit) → In l (lit s z ∷ w ∷ []) → (z ≡ l.key) ⊎ (w.key ≡ l.key)
  pair_from s w l (inl e) = inl (ap (λ (m : KeyLit). m.key) e)
  pair_from s w l (inr (inl e)) = inr (ap (λ (m : KeyLit). m.key) e)
  pair_from s w l (inr (inr none)) = absurd none

  by_clause : (j : Key) (c : List KeyLit) → In c (both z x y).clauses → Among c j → In j (z ∷ []) ⊎ Among (x ∷ y ∷ []) j
  by_clause j c (inl e) a = elim (pair_from false x a.0 (subst (In a.0) (sym e) a.1)) [
    | inl is ↦ of_three z x y j a.0.key a.2 (inl is)
    | inr is ↦
        of_three z x y j a.0.key a.2 (inr (inl is))
  ]
  by_clause j c (inr (inl e)) a = elim (pair_from false y a.0 (subst (In a.0) (sym e) a.1)) [
    | inl is ↦ of_three z x y j a.0.key a.2 (inl is)
    | inr is ↦ of_three z x y j a.0.key a.2 (inr (inr is))
  ]
  by_clause j c (inr (inr (inl e))) a = of_three z x y j a.0.key a.2 (triple_from (lit true z) (opposite x) (opposite y) a.0 (subst (In a.0) (sym e) a.1))
  by_clause j c (inr (inr (inr none))) a = absurd none

  only : (j : Key) → Mentions (both z x y).clauses j → In j (z ∷ []) ⊎ Among (x ∷ y ∷ []) j
  only j m = let at = in_clause (both z x y).clauses j m in by_clause j at.0 at.1 at.2
