-- Literals in order, moved to the front each once.
use Rattle.std.proofs.Common.{◌≡◌, ℕ, zero, suc, ◌+◌, ◌-◌, ◌<◌, ◌≤◌, Bool, true, false, not, ◌||◌, eqb, Option, None, Some, List, [], ◌∷◌, ◌++◌, length, get_or, set, take, drop, refl}
use Rattle.std.proofs.Common.{sym, ap, ◌∙◌, subst, inl, inr, arith}
use Rattle.std.specs.List.{AllByRecursion}
use Rattle.std.specs.List.Sorted.{IsPermutation, IsNonDecreasing}
use Rattle.std.specs.Option.{MatchOption}
use Rattle.std.proofs.lemmas.Bool.{cases_Bool, cases_lt, or_left, eqb-true, eq-eqb, true≢false, false≢true}
use Rattle.std.proofs.lemmas.List.{take-take, take-append-le, append_assoc, append-nil, length-append, length-drop}
use Rattle.std.proofs.lemmas.List.{take_more, take_all, take_more_set, length-take-le, get_or-take, get_or-set_same, get_or-set_other}
use Rattle.std.proofs.lemmas.List.Sorted.{list_any-IsPermutation}
use Rattle.proof_log.specs.Literals.{lit_var, negated}
use Rattle.proof_log.specs.Clauses.{is_set, IsNormal, HasComplements, IsNormalFrom, IsNormalFront}
use Rattle.proof_log.proofs.LiteralLemmas.{same_var}
use Rattle.proof_log.proofs.Members.{is_set-push, is_set-at}

all_push : (P : ℕ → Type 0) (xs : List ℕ) (l : ℕ) → AllByRecursion P xs → P l → AllByRecursion P (xs ++ l ∷ [])
all_push P [] l all p = (p, tt)
all_push P (x ∷ xs) l all p = (all.0, all_push P xs l all.1 p)

-- a literal of a greater variable goes to the end
pub IsNormal-push : (xs : List ℕ) (l : ℕ) → IsNormal xs → ((k : ℕ) → k < length xs → lit_var (get_or xs k 0) < lit_var l) → IsNormal (xs ++ l ∷ [])
IsNormal-push [] l normal below = (tt, tt)
IsNormal-push (x ∷ xs) l normal below = (
  all_push (λ y. lit_var x < lit_var y) xs l normal.0 (below 0 (omega arith)),
  IsNormal-push xs l normal.1 (λ k lt. below (suc k) (omega arith)),
)

-- what stands later is above
pub normal_ascends : (xs : List ℕ) (j k : ℕ) → IsNormal xs → j < k → k < length xs → lit_var (get_or xs j 0) < lit_var (get_or xs k 0)
normal_ascends [] j k n lt h = absurd (omega arith)
normal_ascends (x ∷ xs) zero zero n lt h = absurd (omega arith)
normal_ascends (x ∷ xs) zero (suc k) n lt h = each xs k n.0 (omega arith)
  where
    each : (ys : List ℕ) (i : ℕ) → AllByRecursion (λ y. lit_var x < lit_var y) ys → i < length ys → lit_var x < lit_var (get_or ys i 0)
    each [] i a w = absurd (omega arith)
    each (y ∷ ys) zero a w = a.0
    each (y ∷ ys) (suc i) a w = each ys i a.1 (omega arith)
normal_ascends (x ∷ xs) (suc j) zero n lt h = absurd (omega arith)
normal_ascends (x ∷ xs) (suc j) (suc k) n lt h = normal_ascends xs j k n.1 (omega arith) (omega arith)

-- a literal above the last one goes to the end
pub IsNormal-above : (xs : List ℕ) (l : ℕ) → IsNormal xs → (0 < length xs → lit_var (get_or xs (length xs - 1) 0) < lit_var l) → IsNormal (xs ++ l ∷ [])
IsNormal-above xs l normal above = IsNormal-push xs l normal (λ k lt. elim (cases_lt k (length xs - 1)) [
  | inl less ↦ let a = normal_ascends xs k (length xs - 1) normal less (omega arith) in let b = above (omega arith) in omega arith
  | inr same ↦ let b = above (omega arith) in let e : k ≡ length xs - 1 = omega arith in omega (arith, ap (λ n. lit_var (get_or xs n 0)) e)
])

-- what is known where the literals before a place were moved to the front, each once: the last one that is kept is that before the place
pub record IsFrontOf (old now : List ℕ) (place kept : ℕ) : Type 0 where
  pub within : kept ≤ place
  pub some : 0 < kept
  pub left : (k : ℕ) → place ≤ k → get_or now k 0 ≡ get_or old k 0
  pub normal : IsNormal (take kept now)
  pub same : (q : ℕ) → is_set (take kept now) q ≡ is_set (take place old) q
  pub last : get_or now (kept - 1) 0 ≡ get_or old (place - 1) 0

pub front_first : (old : List ℕ) → 0 < length old → IsFrontOf old old 1 1
front_first [] h = absurd (omega arith)
front_first (x ∷ xs) h = record { within = omega arith; some = omega arith; left = λ k h. refl; normal = (tt, tt); same = λ q. refl; last = refl }

next_front : (old : List ℕ) (place q : ℕ) → place < length old → is_set (take (place + 1) old) q ≡ (is_set (take place old) q || eqb (get_or old place 0) q)
next_front old place q h = ap (λ xs. is_set xs q) (take_more old place 0 h) ∙ is_set-push (take place old) (get_or old place 0) q

-- a literal of a greater variable is kept
pub front_kept : (old now : List ℕ) (place kept : ℕ) → length now ≡ length old → place < length old
    → lit_var (get_or now (kept - 1) 0) < lit_var (get_or now place 0) → IsFrontOf old now place kept
    → IsFrontOf old (set now kept (get_or now place 0)) (place + 1) (kept + 1)
front_kept old now place kept long h above f =
    let l = get_or now place 0 in
    let new = set now kept l in
    let room : kept < length now = omega (arith, f.within) in
    let l_is : l ≡ get_or old place 0 = f.left place (omega arith) in
    let here : get_or new kept 0 ≡ l = get_or-set_same now kept l 0 room in
    let more : take (kept + 1) new ≡ take kept now ++ l ∷ [] = take_more_set now kept l room in
    let count : length (take kept now) ≡ kept = length-take-le kept now (omega arith) in
    let last_is : get_or (take kept now) (kept - 1) 0 ≡ get_or now (kept - 1) 0 = get_or-take kept now (kept - 1) 0 (omega (arith, f.some)) in
    let N : List ℕ → Type 0 = IsNormal in
    record {
      within = omega (arith, f.within);
      some = omega arith;
      left = λ k lt. get_or-set_other now kept k l 0 (λ e. absurd (omega (arith, f.within))) ∙ f.left k (omega arith);
      normal = subst N (sym more) (IsNormal-above (take kept now) l f.normal
          (λ some. omega (arith, above, ap lit_var last_is, ap (λ n. lit_var (get_or (take kept now) (n - 1) 0)) count)));
      same = λ q. ap (λ xs. is_set xs q) more ∙ is_set-push (take kept now) l q ∙ ap (λ b. b || eqb l q) (f.same q)
          ∙ ap (λ p. is_set (take place old) q || eqb p q) l_is ∙ sym (next_front old place q h);
      last = ap (λ n. get_or new n 0) (omega arith) ∙ here ∙ l_is ∙ ap (λ n. get_or old n 0) (omega arith);
    }

-- a literal that is kept already is left out
pub front_again : (old now : List ℕ) (place kept : ℕ) → length now ≡ length old → place < length old
    → get_or now (kept - 1) 0 ≡ get_or now place 0 → IsFrontOf old now place kept → IsFrontOf old now (place + 1) kept
front_again old now place kept long h equal f =
    let l_is : get_or now place 0 ≡ get_or old place 0 = f.left place (omega arith) in
    let last_is : get_or (take kept now) (kept - 1) 0 ≡ get_or old place 0 = get_or-take kept now (kept - 1) 0 (omega (arith, f.some)) ∙ equal ∙ l_is in
    let there : is_set (take place old) (get_or old place 0) ≡ true = sym (f.same (get_or old place 0))
    ∙ ap (is_set (take kept now)) (sym last_is) ∙ is_set-at (take kept now) (kept - 1) (omega (arith, f.some, length-take-le kept now (omega (arith, f.within)))) in
    record {
      within = omega (arith, f.within);
      some = f.some;
      left = λ k lt. f.left k (omega arith);
      normal = f.normal;
      same = λ q. f.same q ∙ again (take place old) (get_or old place 0) q there ∙ sym (next_front old place q h);
      last = equal ∙ l_is ∙ ap (λ n. get_or old n 0) (omega arith);
    }
  where
    again : (xs : List ℕ) (l q : ℕ) → is_set xs l ≡ true → is_set xs q ≡ (is_set xs q || eqb l q)
    again xs l q t = elim (cases_Bool (eqb l q)) [
      | inl e ↦ let b : is_set xs q ≡ true = ap (is_set xs) (sym (eqb-true l q e)) ∙ t in b ∙ sym (or_left _ _ b)
      | inr e ↦ sym (ap (λ b. is_set xs q || b) e ∙ or_nil (is_set xs q))
    ]
      where
        or_nil : (b : Bool) → (b || false) ≡ b
        or_nil true = refl
        or_nil false = refl

-- another literal of the same variable is the complement
pub front_complements : (old now : List ℕ) (place kept : ℕ) → IsNonDecreasing old → place < length old
    → lit_var (get_or now place 0) ≤ lit_var (get_or now (kept - 1) 0) → (get_or now (kept - 1) 0 ≡ get_or now place 0 → ⊥) → IsFrontOf old now place kept
    → HasComplements old
front_complements old now place kept up h below other f =
    let l = get_or old place 0 in
    let before = get_or old (place - 1) 0 in
    let l_is : get_or now place 0 ≡ l = f.left place (omega arith) in
    let low : 0 < place = omega (arith, f.within, f.some) in
    let last_is : get_or now (kept - 1) 0 ≡ before = f.last in
    let rise : before ≤ l = up (place - 1) place 0 (omega arith) h in
    let var : lit_var before ≡ lit_var l = omega (arith, rise, below, ap lit_var l_is, ap lit_var last_is) in
    let opposite : before ≡ negated l = elim (same_var before l var) [ inl e ↦ absurd (other (last_is ∙ e ∙ sym l_is)) | inr e ↦ e ] in
    (l, is_set-at old place h, ap (is_set old) (sym opposite) ∙ is_set-at old (place - 1) (omega arith))

pub front_all : (old now : List ℕ) (place kept : ℕ) → length old ≤ place → kept ≤ length now → IsFrontOf old now place kept → IsNormalFront old now kept
front_all old now place kept all few f = record {
  within = few;
  normal = f.normal;
  same = λ q. f.same q ∙ ap (λ xs. is_set xs q) (take_all place old (omega arith));
}

-- literals in another order are the same literals
pub is_set-moved : (old new : List ℕ) (q : ℕ) → IsPermutation old new → is_set new q ≡ is_set old q
unfolding is_set
is_set-moved old new q p = sym (list_any-IsPermutation (λ x. eqb x q) old new p)

pub complements-moved : (old new : List ℕ) → IsPermutation old new → HasComplements new → HasComplements old
complements-moved old new p w = (w.0, sym (is_set-moved old new w.0 p) ∙ w.1, sym (is_set-moved old new (negated w.0) p) ∙ w.2)

pub front-moved : (old mid new : List ℕ) (count : ℕ) → IsPermutation old mid → IsNormalFront mid new count → IsNormalFront old new count
front-moved old mid new count p f = record { within = f.within; normal = f.normal; same = λ q. f.same q ∙ is_set-moved old mid q p }

-- no literal at all is in normal form
pub front_of_none : (xs : List ℕ) → length xs ≡ 0 → IsNormalFront xs xs 0
front_of_none [] h = record { within = omega arith; normal = tt; same = λ q. refl }
front_of_none (x ∷ xs) h = absurd (omega arith)

-- the same, whichever of the two they are
pub settled-moved : (old mid new : List ℕ) (found : Option ℕ) → IsPermutation old mid → MatchOption found (HasComplements mid) (IsNormalFront mid new)
    → MatchOption found (HasComplements old) (IsNormalFront old new)
settled-moved old mid new None p h = complements-moved old mid p h
settled-moved old mid new (Some count) p h = front-moved old mid new count p h

pub equal_where_same : (a b : ℕ) → not (eqb a b) ≡ false → a ≡ b
equal_where_same a b h = elim (cases_Bool (eqb a b)) [ inl e ↦ eqb-true a b e | inr e ↦ absurd (true≢false (sym (ap not e) ∙ h)) ]

pub other_where_ne : (a b : ℕ) → not (eqb a b) ≡ true → a ≡ b → ⊥
other_where_ne a b h e = false≢true (sym (ap not (eq-eqb a b e)) ∙ h)

cut : (xs ys more : List ℕ) (start n count : ℕ) → n ≡ start + count → start ≤ length xs → count ≤ length ys
    → take n (take start xs ++ (ys ++ more)) ≡ take start xs ++ take count ys
cut xs ys more zero n count e h k = ap (λ m. take m (ys ++ more)) (omega (arith, e)) ∙ take-append-le count ys more k
cut [] ys more (suc start) n count e h k = absurd (omega arith)
cut (x ∷ xs) ys more (suc start) zero count e h k = absurd (omega arith)
cut (x ∷ xs) ys more (suc start) (suc n) count e h k = ap (λ zs. x ∷ zs) (cut xs ys more start n count (omega (arith, e)) (omega (arith, h)) k)

-- the literals up to a place, and of those that were put behind them so many
pub cut_front : (shown put post rest : List ℕ) (start count n len : ℕ) → n ≡ start + count → start ≤ length shown → count ≤ length put → n ≤ len
    → take n (take len ((take start shown ++ (put ++ post)) ++ rest)) ≡ take start shown ++ take count put
cut_front shown put post rest start count n len e h k w =
    take-take n len ((take start shown ++ (put ++ post)) ++ rest) w
    ∙ ap (take n) (append_assoc (take start shown) (put ++ post) rest ∙ ap (λ zs. take start shown ++ zs) (append_assoc put post rest))
    ∙ cut shown put (post ++ rest) start n count e h k

-- the part from a place on is all that stands there
pub part_is : (shown items : List ℕ) (start : ℕ) → shown ≡ items → take (length shown - start) (drop start shown) ≡ drop start items
part_is shown items start e = take_all (length shown - start) (drop start shown) (omega (arith, length-drop start shown)) ∙ ap (drop start) e

-- the front that was put there in normal form is what is left from the place on
pub normal_from : (items shown put post rest new : List ℕ) (start count len : ℕ) → shown ≡ items → start ≤ length items → len ≡ length items
    → length put ≡ length (take (length shown - start) (drop start shown)) → IsNormalFront (take (length shown - start) (drop start shown)) put count
    → new ≡ take (start + count) (take len ((take start shown ++ (put ++ post)) ++ rest)) → IsNormalFrom start items new × (length new ≤ length items)
normal_from items shown put post rest new start count len e h l long f is =
    let part = part_is shown items start e in
    let all : length put ≡ length items - start = long ∙ ap length part ∙ length-drop start items in
    let new_is : new ≡ take start items ++ take count put = is
    ∙ cut_front shown put post rest start count (start + count) len (omega arith) (omega (arith, ap length e)) f.within (omega (arith, f.within))
    ∙ ap (λ xs. take start xs ++ take count put) e in (
      (take count put, f.normal, λ q. f.same q ∙ ap (λ xs. is_set xs q) part, new_is),
      omega (arith, ap length new_is, length-append (take start items) (take count put), length-take-le start items h, length-take-le count put f.within, f.within, all),
    )

-- nothing is left from the place on
pub none_from : (items shown put post rest new : List ℕ) (start len : ℕ) → shown ≡ items → start ≤ length items → len ≡ length items
    → HasComplements (take (length shown - start) (drop start shown))
    → new ≡ take start (take len ((take start shown ++ (put ++ post)) ++ rest)) → (HasComplements (drop start items) × (new ≡ take start items))
    × (length new ≤ length items)
none_from items shown put post rest new start len e h l w is =
    let C : List ℕ → Type 0 = HasComplements in
    let new_is : new ≡ take start items = is ∙ cut_front shown put post rest start 0 start len (omega arith) (omega (arith, ap length e)) (omega arith) (omega arith)
    ∙ append-nil (take start shown) ∙ ap (take start) e in
    ((subst C (part_is shown items start e) w, new_is), omega (arith, ap length new_is, length-take-le start items h))
