-- Marks that are added one after another.
use Rattle.std.proofs.Common.{◌≡◌, ◌≢◌, ℕ, ◌+◌, ◌<◌, ◌≤◌, Bool, true, false, cond, List, [], ◌∷◌, ◌++◌, map, length, take, set, get_or, Some, refl}
use Rattle.std.proofs.Common.{ap, sym, ◌∙◌, arith, inl, inr, get_or-set_other, get_or-set_same, length-set}
use Rattle.std.specs.Prelude.{slice_get, count_by, ◌==◌, Contains, option_map, flat_map}
use Rattle.std.proofs.lemmas.Bool.{cases_eq}
use Rattle.std.proofs.lemmas.Bool.Decides.{nat_tests}
use Rattle.std.proofs.lemmas.List.{take_more, map_more, flat_map_more}
use Rattle.std.proofs.lemmas.List.Elements.{Contains-append_right}
use Rattle.std.proofs.lemmas.Option.{slice_get_within, get_or_from_slice_get, slice_get-map}
use Rattle.net_model.specs.Netlist.{AllBelow}
use Rattle.sdcv_base.specs.Seqs.{is_marked}
use Rattle.net_model.specs.Markings.{mark_of, AddsMarks, IsMarkedTwice, AreMarked}
use Rattle.net_model.specs.declared.netlist.Fixed.{Fixed}
use Rattle.net_model.proofs.Order.{count_append, count_cons, count_contains, counted}
use Rattle.net_model.proofs.Settling.{All-at}
use Rattle.net_model.proofs.Sources.{count_plain, count_until, count_within}

not_counted : (n m : ℕ) → m ≢ n → ◌≡◌ {A = ℕ} (cond (m == n) 1 0) 0
not_counted n m h = grind (arith, nat_tests)

count_one : (n m : ℕ) → count_by (λ k. k == n) (m ∷ []) ≡ cond (m == n) 1 0
count_one n m = omega (arith, count_cons (λ k. k == n) m [])

-- what is counted stands in the list
pub contains_counted : (n : ℕ) (xs : List ℕ) → 1 ≤ count_by (λ m. m == n) xs → Contains xs n
contains_counted n [] some = absurd (omega arith)
contains_counted n (x ∷ rest) some =
    elim (cases_eq x n) [
      | inl here ↦ rw here (0, omega arith, refl)
      | inr apart ↦
          let split = count_cons (λ m. m == n) x rest in
          let miss = not_counted n x apart in
          Contains-append_right (x ∷ []) rest n (contains_counted n rest (omega arith))
    ]

abbrev pub input_of : Fixed → ℕ
input_of f = f.input

mark_true : (marks : List Bool) (n : ℕ) → is_marked marks n ≡ true → mark_of marks n ≡ 1
mark_true marks n e = ap (λ (b : Bool). cond {A = ℕ} b 1 0) e

mark_false : (marks : List Bool) (n : ℕ) → is_marked marks n ≡ false → mark_of marks n ≡ 0
mark_false marks n e = ap (λ (b : Bool). cond {A = ℕ} b 1 0) e

pub adds_none : (marks : List Bool) → AddsMarks [] marks marks
adds_none marks = record { len = refl; at = λ n lt. omega arith }

pub adds_one : (numbers : List ℕ) (before now : List Bool) (m : ℕ) → m < length before → is_marked now m ≡ false → AddsMarks numbers before now
    → AddsMarks (numbers ++ m ∷ []) before (set now m true)
adds_one numbers before now m within free done =
    record {
      len = length-set now m true ∙ done.len;
      at = λ n lt.
          let sum = count_append (λ k. k == n) numbers (m ∷ []) in
          let one = count_one n m in
          let old = done.at n lt in
          elim (cases_eq n m) [
            | inl here ↦
                let zero_now : mark_of now n ≡ 0 = mark_false now n (rw here free) in
                let hit = counted n m (sym here) in
                let inside : m < length now = rw done.len within in
                let set_now : mark_of (set now m true) n ≡ 1 = mark_true (set now m true) n (rw here (get_or-set_same now m true false inside)) in
                omega arith
            | inr apart ↦
                let miss = not_counted n m (λ e. apart (sym e)) in
                let same : mark_of (set now m true) n ≡ mark_of now n =
                ap (λ (b : Bool). cond {A = ℕ} b 1 0) (get_or-set_other now m n true false apart) in
                omega arith
          ];
    }

pub adds_plain : (xs : List ℕ) (i x : ℕ) (before now : List Bool) → slice_get xs i ≡ Some x → x < length before → is_marked now x ≡ false
    → AddsMarks (take i xs) before now → AddsMarks (take (i + 1) xs) before (set now x true)
adds_plain xs i x before now at within free done =
    let inside = slice_get_within xs i x at in
    let last : get_or xs i 0 ≡ x = get_or_from_slice_get xs i x 0 at in
    rw (take_more xs i 0 inside, last) (adds_one (take i xs) before now x within free done)

pub adds_mapped : {X : Type 0} (f : X → ℕ) (xs : List X) (i : ℕ) (x : X) (before now : List Bool) → slice_get xs i ≡ Some x → f x < length before
    → is_marked now (f x) ≡ false → AddsMarks (map f (take i xs)) before now → AddsMarks (map f (take (i + 1) xs)) before (set now (f x) true)
adds_mapped f xs i x before now at within free done =
    let inside = slice_get_within xs i x at in
    let last : get_or xs i x ≡ x = get_or_from_slice_get xs i x x at in
    rw (map_more f xs i x inside, last) (adds_one (map f (take i xs)) before now (f x) within free done)

pub adds_append : (xs ys : List ℕ) (a b c : List Bool) → AddsMarks xs a b → AddsMarks ys b c → AddsMarks (xs ++ ys) a c
adds_append xs ys a b c first second =
    record {
      len = second.len ∙ first.len;
      at = λ n lt.
          let inside : n < length b = rw first.len lt in
          let sum = count_append (λ k. k == n) xs ys in
          let one = first.at n lt in
          let two = second.at n inside in
          omega arith;
    }

pub adds_flat : {X : Type 0} (f : X → List ℕ) (xs : List X) (i : ℕ) (x : X) (before now next : List Bool) → slice_get xs i ≡ Some x
    → AddsMarks (f x) now next → AddsMarks (flat_map f (take i xs)) before now → AddsMarks (flat_map f (take (i + 1) xs)) before next
adds_flat f xs i x before now next at more done =
    let inside = slice_get_within xs i x at in
    let last : get_or xs i x ≡ x = get_or_from_slice_get xs i x x at in
    let split : flat_map f (take i xs) ++ f x ≡ flat_map f (take i xs ++ x ∷ []) = flat_map_more f [] (take i xs) x in
    rw (take_more xs i x inside, last, ← split) (adds_append (flat_map f (take i xs)) (f x) before now next done more)

-- a number that is marked already stands twice in all
pub twice_in : (part whole : List ℕ) (before now : List Bool) (m : ℕ) → AddsMarks part before now → m < length before → is_marked now m ≡ true
    → count_by (λ k. k == m) part + cond (m == m) 1 0 ≤ count_by (λ k. k == m) whole → IsMarkedTwice whole before m
twice_in part whole before now m done within marked le =
    let one = mark_true now m marked in
    let sum = done.at m within in
    let hit = counted m m refl in
    record { within = within; twice = omega arith }

pub twice_plain : (xs : List ℕ) (i x : ℕ) (before now : List Bool) → slice_get xs i ≡ Some x → x < length before → is_marked now x ≡ true
    → AddsMarks (take i xs) before now → IsMarkedTwice xs before x
twice_plain xs i x before now at within marked done =
    twice_in (take i xs) xs before now x done within marked (count_plain (λ k. k == x) xs i x at)

pub twice_mapped : {X : Type 0} (f : X → ℕ) (xs : List X) (i : ℕ) (x : X) (before now : List Bool) → slice_get xs i ≡ Some x → f x < length before
    → is_marked now (f x) ≡ true → AddsMarks (map f (take i xs)) before now → IsMarkedTwice (map f xs) before (f x)
twice_mapped f xs i x before now at within marked done =
    twice_in (map f (take i xs)) (map f xs) before now (f x) done within marked (count_until f (λ k. k == f x) xs i x at)

pub twice_after : (part more whole : List ℕ) (before now : List Bool) (n : ℕ) → AddsMarks part before now → IsMarkedTwice more now n
    → count_by (λ k. k == n) part + count_by (λ k. k == n) more ≤ count_by (λ k. k == n) whole → IsMarkedTwice whole before n
twice_after part more whole before now n done twice le =
    let inside : n < length before = rw (← done.len) twice.within in
    let sum = done.at n inside in
    let two = twice.twice in
    record { within = inside; twice = omega arith }

pub twice_flat : {X : Type 0} (f : X → List ℕ) (xs : List X) (i : ℕ) (x : X) (before now : List Bool) (n : ℕ) → slice_get xs i ≡ Some x
    → AddsMarks (flat_map f (take i xs)) before now → IsMarkedTwice (f x) now n → IsMarkedTwice (flat_map f xs) before n
twice_flat f xs i x before now n at done twice =
    twice_after (flat_map f (take i xs)) (f x) (flat_map f xs) before now n done twice (count_within f (λ k. k == n) xs i x at)

-- what holds of all that a list gives holds of what one of it gives
pub mapped_below : {X : Type 0} (f : X → ℕ) (limit : ℕ) (xs : List X) (i : ℕ) (x : X) → slice_get xs i ≡ Some x → AllBelow limit (map f xs) → f x < limit
mapped_below f limit xs i x at all =
    All-at (λ n. n < limit) (map f xs) i (f x) (slice_get-map f xs i ∙ ap (option_map f) at) all

-- where no number is marked first, what is added is what is marked
pub marked_from_none : (numbers : List ℕ) (before now : List Bool) → ((n : ℕ) → is_marked before n ≡ false) → AddsMarks numbers before now
    → AreMarked numbers now
marked_from_none numbers before now free done =
    record {
      at = λ n lt.
          let inside : n < length before = rw (← done.len) lt in
          let sum = done.at n inside in
          let none = mark_false before n (free n) in
          omega arith;
    }

pub marked_one : (numbers : List ℕ) (marks : List Bool) (m : ℕ) → m < length marks → is_marked marks m ≡ false → AreMarked numbers marks
    → AreMarked (numbers ++ m ∷ []) (set marks m true)
marked_one numbers marks m within free done =
    record {
      at = λ n lt.
          let inside : n < length marks = rw (← length-set marks m true) lt in
          let sum = count_append (λ k. k == n) numbers (m ∷ []) in
          let one = count_one n m in
          let old = done.at n inside in
          elim (cases_eq n m) [
            | inl here ↦
                let zero_now : mark_of marks n ≡ 0 = mark_false marks n (rw here free) in
                let hit = counted n m (sym here) in
                let set_now : mark_of (set marks m true) n ≡ 1 = mark_true (set marks m true) n (rw here (get_or-set_same marks m true false within)) in
                omega arith
            | inr apart ↦
                let miss = not_counted n m (λ e. apart (sym e)) in
                let same : mark_of (set marks m true) n ≡ mark_of marks n =
                ap (λ (b : Bool). cond {A = ℕ} b 1 0) (get_or-set_other marks m n true false apart) in
                omega arith
          ];
    }

pub marked_contains : (numbers : List ℕ) (marks : List Bool) (n : ℕ) → n < length marks → is_marked marks n ≡ true → AreMarked numbers marks
    → Contains numbers n
marked_contains numbers marks n within marked done =
    let one = mark_true marks n marked in
    let sum = done.at n within in
    contains_counted n numbers (omega arith)

pub unmarked_not_contains : (numbers : List ℕ) (marks : List Bool) (n : ℕ) → n < length marks → is_marked marks n ≡ false → AreMarked numbers marks
    → ¬ Contains numbers n
unmarked_not_contains numbers marks n within free done has =
    let none = mark_false marks n free in
    let sum = done.at n within in
    let some = count_contains n numbers has in
    absurd (omega arith)

pub counted_marked : (numbers : List ℕ) (marks : List Bool) (n : ℕ) → n < length marks → is_marked marks n ≡ true → AreMarked numbers marks
    → count_by (λ m. m == n) numbers ≡ 1
counted_marked numbers marks n within marked done = done.at n within ∙ mark_true marks n marked

pub counted_unmarked : (numbers : List ℕ) (marks : List Bool) (n : ℕ) → n < length marks → is_marked marks n ≡ false → AreMarked numbers marks
    → count_by (λ m. m == n) numbers ≡ 0
counted_unmarked numbers marks n within free done = done.at n within ∙ mark_false marks n free

cond_small : (b : Bool) → cond {A = ℕ} b 1 0 ≤ 1
cond_small false = omega arith
cond_small true = omega arith

-- what is added to no marks stands there at most once
pub once_each : (numbers : List ℕ) (before now : List Bool) (n : ℕ) → n < length before → is_marked before n ≡ false → AddsMarks numbers before now
    → count_by (λ m. m == n) numbers ≤ 1
once_each numbers before now n within free done =
    let none = mark_false before n free in
    let sum = done.at n within in
    let small : mark_of now n ≤ 1 = cond_small (is_marked now n) in
    omega arith
