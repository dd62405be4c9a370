-- The name of a net by its number.
use Rattle.std.proofs.Common.{arith, ◌≡◌, ℕ, zero, suc, ◌+◌, ◌-◌, ◌≤◌, ◌<◌, List, [], ◌∷◌, ◌++◌, length, drop, get_or, Option, Some, None, refl, sym}
use Rattle.std.proofs.Common.{ap, ◌∙◌, subst, inl, inr}
use Rattle.std.proofs.lemmas.Bool.{cases_lt}
use Rattle.std.proofs.lemmas.List.{length-drop, get_or_default, get_or_append_left, get_or-append-add}
use Rattle.texts.proofs.ReadLemmas.{split_at}
use Rattle.verilog_syntax.specs.declared.declarations.Range.{Range}
use Rattle.verilog_scope.specs.declared.decls.Decl.{Decl}
use Rattle.verilog_scope.specs.declared.scopes.Scope.{Scope}
use Rattle.verilog_scope.specs.Ranges.{width}
use Rattle.verilog_scope.specs.Decls.{blank, decl_at}
use Rattle.verilog_scope.specs.Scopes.{bases_from, nets_from, bit_names, net_names, net_name, IsNumbered, IsBitOf}
use Rattle.verilog_scope.proofs.BaseLemmas.{bases_more, bases_from_least, bases_apart}
use Rattle.verilog_scope.proofs.NetLemmas.{nets_more}
use Rattle.verilog_scope.proofs.CountLemmas.{last_from, nets_length, length-bit_names}

pub length-bases_from : (n : ℕ) (ds : List Decl) → length (bases_from n ds) ≡ length ds
unfolding bases_from
length-bases_from n [] = refl
length-bases_from n (d ∷ ds) = let rest = length-bases_from (n + width d.range) ds in omega arith

-- each base but the last comes after the bits of the one before
next_base : (n : ℕ) (ds : List Decl) (k : ℕ) → suc k < length ds
    → get_or (bases_from n ds) (suc k) 0 ≡ get_or (bases_from n ds) k 0 + width (get_or ds k blank).range
unfolding bases_from
next_base n [] k below = absurd (omega arith)
next_base n (d ∷ []) k below = absurd (omega arith)
next_base n (d ∷ e ∷ ds) zero below = refl
next_base n (d ∷ e ∷ ds) (suc k) below = next_base (n + width d.range) (e ∷ ds) k (omega arith)

bases_next : (n : ℕ) (ds : List Decl) (k : ℕ) → k + 1 < length ds
    → get_or (bases_from n ds) (k + 1) 0 ≡ get_or (bases_from n ds) k 0 + width (get_or ds k blank).range
bases_next n ds k below =
    let on : k + 1 ≡ suc k = omega arith in
    ap (λ (i : ℕ). get_or (bases_from n ds) i 0) on ∙ next_base n ds k (omega arith)

-- and the bits of the last are the last nets
bases_last : (n : ℕ) (ds : List Decl) (k : ℕ) → k + 1 ≡ length ds
    → get_or (bases_from n ds) k 0 + width (get_or ds k blank).range ≡ last_from n ds
unfolding bases_from last_from
bases_last n [] k same = absurd (omega arith)
bases_last n (d ∷ []) zero same = refl
bases_last n (d ∷ []) (suc k) same = absurd (omega arith)
bases_last n (d ∷ e ∷ ds) zero same = absurd (omega arith)
bases_last n (d ∷ e ∷ ds) (suc k) same = bases_last (n + width d.range) (e ∷ ds) k (omega arith)

-- the first nets are those of the first name
bases_first : (n : ℕ) (ds : List Decl) → 0 < length ds → get_or (bases_from n ds) 0 0 ≡ n
unfolding bases_from
bases_first n [] some = absurd (omega arith)
bases_first n (d ∷ ds) some = refl

-- without names there are no nets
last_none : (n : ℕ) (ds : List Decl) → length ds ≡ 0 → last_from n ds ≡ n
unfolding last_from
last_none n [] none = refl
last_none n (d ∷ ds) none = absurd (omega arith)

-- a name has a bit
some_bit : (range : Option Range) → 1 ≤ width range
some_bit None = omega arith
some_bit (Some r) = omega arith

module _ (s : Scope) (made : IsNumbered s) where
  count_is : length (net_names s) ≡ last_from 0 s.decls
  count_is =
      let same = made.counted in
      let count = nets_length s.decls 0 0 s.names (omega arith) in
      omega arith

  base_is : (k : ℕ) → get_or s.bases k 0 ≡ get_or (bases_from 0 s.decls) k 0
  base_is k = ap (λ (bs : List ℕ). get_or bs k 0) made.bases

  bases_count : length s.bases ≡ length s.decls
  bases_count = ap length made.bases ∙ length-bases_from 0 s.decls

  -- where there is a net there is a name
  pub some_name : (net : ℕ) → net < length (net_names s) → 0 < length s.bases
  some_name net below = elim (cases_lt 0 (length s.bases)) [
    | inl some ↦ some
    | inr none ↦
        let empty = last_none 0 s.decls (omega (arith, bases_count)) in
        absurd (omega (arith, count_is))
  ]

  -- the nets of the first name begin at 0
  pub first_base : (net : ℕ) → net < length (net_names s) → get_or s.bases 0 0 ≡ 0
  first_base net below =
      let some = some_name net below in
      base_is 0 ∙ bases_first 0 s.decls (omega (arith, bases_count))

  -- the bases don't fall
  pub bases_rise : (i j : ℕ) → i ≤ j → j < length s.bases → get_or s.bases i 0 ≤ get_or s.bases j 0
  bases_rise i j upto below = elim (cases_lt i j) [
    | inl less ↦
        let apart = bases_apart 0 s.decls i j less (omega (arith, bases_count)) in
        let here = base_is i in
        let there = base_is j in
        omega arith
    | inr least ↦
        let same : i ≡ j = omega arith in
        let equal : get_or s.bases i 0 ≡ get_or s.bases j 0 = ap (λ (k : ℕ). get_or s.bases k 0) same in
        omega arith
  ]

  -- each name has a net, so the next base comes later
  pub base_after : (k : ℕ) → k + 1 < length s.bases → get_or s.bases k 0 < get_or s.bases (k + 1) 0
  base_after k more =
      let next = bases_next 0 s.decls k (omega (arith, bases_count)) in
      let some = some_bit (get_or s.decls k blank).range in
      let here = base_is k in
      let there = base_is (k + 1) in
      omega arith

  -- the last name whose base is not after a net has the net
  pub bit_of : (k net : ℕ) → net < length (net_names s) → k < length s.bases → get_or s.bases k 0 ≤ net
      → (k + 1 < length s.bases → net < get_or s.bases (k + 1) 0) → IsBitOf s k net
  bit_of k net below there from before = elim (cases_lt (k + 1) (length s.bases)) [
    | inl more ↦
        let next = bases_next 0 s.decls k (omega (arith, bases_count)) in
        let less = before more in
        record {
          there = omega (arith, bases_count, made.counted);
          from = from;
          before = omega (arith, next, less, base_is k, base_is (k + 1));
        }
    | inr last ↦
        let end_ = bases_last 0 s.decls k (omega (arith, bases_count)) in
        record {
          there = omega (arith, bases_count, made.counted);
          from = from;
          before = omega (arith, end_, count_is, base_is k);
        }
  ]

-- bit i of name k among these names, counted from the first of them
name_in : (ds : List Decl) (n place : ℕ) (ns : List (List ℕ)) (k i j : ℕ) → place + length ns ≡ length ds → k < length ns
    → i < width (get_or ds (place + k) blank).range → n + j ≡ get_or (bases_from n (drop place ds)) k 0 + i
    → get_or (nets_from ds place ns) j [] ≡ get_or (bit_names (get_or ns k []) (get_or ds (place + k) blank).range) i []
name_in ds n place [] k i j same below within at = absurd (omega arith)
name_in ds n place (x ∷ ns) zero i j same below within at =
    let d = get_or ds place blank in
    let first : place + 0 ≡ place = omega arith in
    let inside : i < width d.range = subst (λ (p : ℕ). i < width (get_or ds p blank).range) first within in
    let split = split_at ds place d (omega arith) (sym (get_or_default ds place d blank (omega arith))) in
    let base : get_or (bases_from n (drop place ds)) 0 0 ≡ n =
    ap (λ (l : List Decl). get_or (bases_from n l) 0 0) split ∙ ap (λ (l : List ℕ). get_or l 0 0) (bases_more n d (drop (place + 1) ds)) in
    let here : j ≡ i = omega arith in
    let long = length-bit_names x d.range in
    subst (λ (p : ℕ). get_or (nets_from ds place (x ∷ ns)) j [] ≡ get_or (bit_names x (get_or ds p blank).range) i []) (sym first)
    (ap (λ (l : List (List ℕ)). get_or l j []) (nets_more ds place x ns) ∙ ap (λ (q : ℕ). get_or (bit_names x d.range ++ nets_from ds (place + 1) ns) q []) here
    ∙ get_or_append_left (bit_names x d.range) (nets_from ds (place + 1) ns) [] i (omega arith))
name_in ds n place (x ∷ ns) (suc k) i j same below within at =
    let d = get_or ds place blank in
    let w = width d.range in
    let later : place + suc k ≡ (place + 1) + k = omega arith in
    let inside : i < width (get_or ds ((place + 1) + k) blank).range = subst (λ (p : ℕ). i < width (get_or ds p blank).range) later within in
    let split = split_at ds place d (omega arith) (sym (get_or_default ds place d blank (omega arith))) in
    let base : get_or (bases_from n (drop place ds)) (suc k) 0 ≡ get_or (bases_from (n + w) (drop (place + 1) ds)) k 0 =
    ap (λ (l : List Decl). get_or (bases_from n l) (suc k) 0) split ∙ ap (λ (l : List ℕ). get_or l (suc k) 0) (bases_more n d (drop (place + 1) ds)) in
    let left : k < length (drop (place + 1) ds) = omega (arith, length-drop (place + 1) ds) in
    let least = bases_from_least (n + w) (drop (place + 1) ds) k left in
    let past : j ≡ length (bit_names x d.range) + (j - w) = omega (arith, length-bit_names x d.range, at, base, least) in
    let rest = name_in ds (n + w) (place + 1) ns k i (j - w) (omega arith) (omega arith) inside (omega (arith, at, base, least)) in
    subst (λ (p : ℕ). get_or (nets_from ds place (x ∷ ns)) j [] ≡ get_or (bit_names (get_or ns k []) (get_or ds p blank).range) i []) (sym later)
    (ap (λ (l : List (List ℕ)). get_or l j []) (nets_more ds place x ns)
    ∙ ap (λ (q : ℕ). get_or (bit_names x d.range ++ nets_from ds (place + 1) ns) q []) past
    ∙ get_or-append-add (bit_names x d.range) (nets_from ds (place + 1) ns) (j - w) [] ∙ rest)

-- the name of a net is that of its bit
pub net_is : (s : Scope) (place net : ℕ) → IsNumbered s → IsBitOf s place net
    → net_name s net ≡ get_or (bit_names (get_or s.names place []) (decl_at s.decls place).range) (net - get_or s.bases place 0) []
net_is s place net made is =
    let base = base_is s made place in
    let bit = net - get_or s.bases place 0 in
    let first : 0 + place ≡ place = omega arith in
    let within : bit < width (decl_at s.decls place).range = omega (arith, is.from, is.before) in
    subst (λ (p : ℕ). net_name s net ≡ get_or (bit_names (get_or s.names place []) (get_or s.decls p blank).range) bit []) first
    (name_in s.decls 0 0 s.names place bit net (omega (arith, made.counted)) is.there
    (subst (λ (p : ℕ). bit < width (get_or s.decls p blank).range) (sym first) within) (omega (arith, base, is.from)))
