-- Rows of items, and words that may grow.
use Rattle.std.proofs.Common.{if◌then◌else◌, ◌⊎◌, inl, inr, append-nil, ◌≡◌, ◌≢◌, ℕ, ◌<◌, Bool, true, false, List, [], ◌∷◌, ◌++◌, map}
use Rattle.std.proofs.Common.{length, refl, sym, ap, ◌∙◌, subst, append_assoc, arith}
use Rattle.cert_words.specs.Numbers.{zero_word}
use Rattle.cert_words.specs.declared.words.Words.{Words}
use Rattle.cert_words.specs.declared.words.Words.TheVariants.{Done, Whole, Cut}
use Rattle.cert_words.specs.declared.stops.Stop.TheVariants.{Bad, Early, Memory}
use Rattle.cert_words.specs.Parts.{left, is_cut, Passes, HasPart, HasPartBefore, IsPartStop, row}
use Rattle.cert_words.specs.Growth.{Grows, Fails, Chain}
use Rattle.cert_words.proofs.WordLemmas.{some_words}

pub never : false ≡ true → ⊥
never e = cc

-- words of one kind are words of another
pub Grows-map : (L M : List (List ℕ) → Type 0) → ((ws : List (List ℕ)) → L ws → M ws) → (ws : List (List ℕ)) → Grows L ws → Grows M ws
Grows-map L M f [] g = absurd g
Grows-map L M f (p ∷ []) g = (g.0, g.1, f _ g.2)
Grows-map L M f (p ∷ (q ∷ ws)) g = Grows-map (λ rest. L (p ∷ rest)) (λ rest. M (p ∷ rest)) (λ rest l. f _ l) (q ∷ ws) g

-- what grows after some words
pub Grows-after : (L : List (List ℕ) → Type 0) → (pre ws : List (List ℕ)) → 0 < length ws → Grows (λ x. L (pre ++ x)) ws → Grows L (pre ++ ws)
Grows-after L [] ws some g = g
Grows-after L (p ∷ []) [] some g = absurd (omega arith)
Grows-after L (p ∷ []) (q ∷ ws) some g = g
Grows-after L (p ∷ (q ∷ pre)) ws some g = Grows-after (λ x. L (p ∷ x)) (q ∷ pre) ws some g

pub Grows-before : (L : List (List ℕ) → Type 0) → (pre ws : List (List ℕ)) → 0 < length ws → Grows L (pre ++ ws) → Grows (λ x. L (pre ++ x)) ws
Grows-before L [] ws some g = g
Grows-before L (p ∷ []) [] some g = absurd (omega arith)
Grows-before L (p ∷ []) (q ∷ ws) some g = g
Grows-before L (p ∷ (q ∷ pre)) ws some g = Grows-before (λ x. L (p ∷ x)) (q ∷ pre) ws some g

-- what grows has all the words but the last
pub Grows-words : (L : List (List ℕ) → Type 0) → (ws : List (List ℕ)) → Grows L ws → (x : List (List ℕ)) × L x
Grows-words L [] g = absurd g
Grows-words L (p ∷ []) g = (_, g.2)
Grows-words L (p ∷ (q ∷ ws)) g = let more = Grows-words (λ rest. L (p ∷ rest)) (q ∷ ws) g in (p ∷ more.0, more.1)

pub Fails-map : (cut : Bool) (L M : List (List ℕ) → Type 0) → ((ws : List (List ℕ)) → M ws → L ws) → (ws : List (List ℕ)) → Fails cut L ws → Fails cut M ws
Fails-map false L M f ws fails = λ m. fails (f ws m)
Fails-map true L M f ws fails = λ g. fails (Grows-map M L f ws g)

-- what fails after some words
pub Fails-after : (cut : Bool) (L : List (List ℕ) → Type 0) → (pre ws : List (List ℕ)) → (cut ≡ true → 0 < length ws)
    → Fails cut (λ x. L (pre ++ x)) ws → Fails cut L (pre ++ ws)
Fails-after false L pre ws some fails = fails
Fails-after true L pre ws some fails = λ g. fails (Grows-before L pre ws (some refl) g)

-- a line that is cut off has a word left
pub left_some : (w : Words) → is_cut w ≡ true → 0 < length (left w)
left_some Done e = absurd (never e)
left_some (Whole text) e = absurd (never e)
left_some (Cut text) e = some_words text.now

-- why no part comes next, by the kind of stop
pub part_bad : {V : Type 0} (Fits : V → Type 0) (ws : V → List (List ℕ)) (was : Words) → Fails (is_cut was) (HasPart Fits ws) (left was)
    → IsPartStop Fits ws was Bad
part_bad Fits ws was fails = record { bad = λ e. fails; cut = λ e. absurd cc; grows = λ e. absurd cc }

pub part_early : {V : Type 0} (Fits : V → Type 0) (ws : V → List (List ℕ)) (was : Words) → is_cut was ≡ true
    → ((tail : V → List (List ℕ)) → Grows (HasPartBefore Fits ws tail) (left was)) → IsPartStop Fits ws was Early
part_early Fits ws was cut grows = record { bad = λ e. absurd cc; cut = λ e. cut; grows = λ e. grows }

pub part_memory : {V : Type 0} (Fits : V → Type 0) (ws : V → List (List ℕ)) (was : Words) → IsPartStop Fits ws was Memory
part_memory Fits ws was = record { bad = λ e. absurd cc; cut = λ e. absurd cc; grows = λ e. absurd cc }

-- no words of the kind begin with those that were passed
pub Fails-front : (L : List (List ℕ) → Type 0) (front : List (List ℕ)) (was now : Words) → Passes front was now → ((x : List (List ℕ)) → L (front ++ x) → ⊥)
    → Fails (is_cut was) L (left was)
Fails-front L front was now passes none = by (is_cut was) refl
  where
    by : (cut : Bool) → is_cut was ≡ cut → Fails cut L (left was)
    by false e = λ l. none (left now) (subst L passes.is l)
    by true e = λ g.
        let found =
        Grows-words (λ x. L (front ++ x)) (left now)
        (Grows-before L front (left now) (left_some now (passes.same ∙ e)) (subst (λ (y : List (List ℕ)). Grows L y) passes.is g)) in
        none found.0 found.1

-- nor are they words of the kind themselves, where no other is left
pub Fails-end : (L : List (List ℕ) → Type 0) (front : List (List ℕ)) (was now : Words) → Passes front was now → left now ≡ [] → (L front → ⊥)
    → Fails (is_cut was) L (left was)
Fails-end L front was now passes end none = by (is_cut was) refl
  where
    by : (cut : Bool) → is_cut was ≡ cut → Fails cut L (left was)
    by false e = λ l. none (subst L (passes.is ∙ ap (λ y. front ++ y) end ∙ append-nil front) l)
    by true e = let some = left_some now (passes.same ∙ e) in let none_left = ap length end in absurd (omega arith)

pub Passes-none : (w : Words) → Passes [] w w
Passes-none w = record { is = refl; same = refl }

pub Passes-next : {p q : List (List ℕ)} {a b c : Words} → Passes p a b → Passes q b c → Passes (p ++ q) a c
Passes-next {p} {q} {a} {b} {c} first second =
    record { is = first.is ∙ ap (λ y. p ++ y) second.is ∙ sym (append_assoc p q (left c)); same = second.same ∙ first.same }

-- the words of items tell them, and none is the word 0
pub record Tells (word : ℕ → List ℕ) (Fits : ℕ → ℕ → Type 0) : Type 0 where
  pub no_zero : (a x : ℕ) → Fits a x → word x ≢ zero_word
  pub same : (a b x y : ℕ) → Fits a x → Fits b y → word x ≡ word y → x ≡ y

-- the key of the last item, or the one before the first
abbrev pub last_key : (ℕ → ℕ) → ℕ → List ℕ → ℕ
last_key key above [] = above
last_key key above (x ∷ xs) = last_key key (key x) xs

-- the words of two rows are the same, so the rows are
pub row_same : (word : ℕ → List ℕ) (Fits : ℕ → ℕ → Type 0) (key : ℕ → ℕ) → Tells word Fits → (a b : ℕ) (xs ys : List ℕ) (t u : List (List ℕ))
    → Chain Fits key a xs → Chain Fits key b ys → map word xs ++ zero_word ∷ t ≡ map word ys ++ zero_word ∷ u → (xs ≡ ys) × (t ≡ u)
row_same word Fits key tells a b [] [] t u cx cy e = (refl, cc)
row_same word Fits key tells a b [] (y ∷ ys) t u cx cy e = let first : word y ≡ zero_word = cc in absurd (tells.no_zero b y cy.0 first)
row_same word Fits key tells a b (x ∷ xs) [] t u cx cy e = let first : word x ≡ zero_word = cc in absurd (tells.no_zero a x cx.0 first)
row_same word Fits key tells a b (x ∷ xs) (y ∷ ys) t u cx cy e =
    let first : word x ≡ word y = cc in
    let others : map word xs ++ zero_word ∷ t ≡ map word ys ++ zero_word ∷ u = cc in
    let same = tells.same a b x y cx.0 cy.0 first in
    let (is, rest) = row_same word Fits key tells (key x) (key y) xs ys t u cx.1 cy.1 others in
    (cc, rest)

-- a word after some items that is neither the word 0 nor that of a fitting item
pub row_breaks : (word : ℕ → List ℕ) (Fits : ℕ → ℕ → Type 0) (key : ℕ → ℕ) → Tells word Fits
    → (a : ℕ) (done : List ℕ) (w : List ℕ) (rest : List (List ℕ)) → Chain Fits key a done → w ≢ zero_word
    → ((x : ℕ) → Fits (last_key key a done) x → w ≢ word x) → (items : List ℕ) (tail : List (List ℕ)) → Chain Fits key a items
    → map word done ++ w ∷ rest ≡ map word items ++ zero_word ∷ tail → ⊥
row_breaks word Fits key tells a [] w rest cd nz ni [] tail ci e = let first : w ≡ zero_word = cc in nz first
row_breaks word Fits key tells a [] w rest cd nz ni (x ∷ items) tail ci e = let first : w ≡ word x = cc in ni x ci.0 first
row_breaks word Fits key tells a (d ∷ done) w rest cd nz ni [] tail ci e = let first : word d ≡ zero_word = cc in tells.no_zero a d cd.0 first
row_breaks word Fits key tells a (d ∷ done) w rest cd nz ni (x ∷ items) tail ci e =
    let first : word d ≡ word x = cc in
    let others : map word done ++ w ∷ rest ≡ map word items ++ zero_word ∷ tail = cc in
    let same = tells.same a a d x cd.0 ci.0 first in
    row_breaks word Fits key tells (key d) done w rest cd.1 nz ni items tail (subst (λ (z : ℕ). Chain Fits key (key z) items) (sym same) ci.1) others

-- no word is left after some items
pub row_ends : (word : ℕ → List ℕ) (Fits : ℕ → ℕ → Type 0) (key : ℕ → ℕ) → Tells word Fits → (a : ℕ) (done : List ℕ) → Chain Fits key a done
    → (items : List ℕ) (tail : List (List ℕ)) → Chain Fits key a items → map word done ≡ map word items ++ zero_word ∷ tail → ⊥
row_ends word Fits key tells a [] cd [] tail ci e = cc
row_ends word Fits key tells a [] cd (x ∷ items) tail ci e = cc
row_ends word Fits key tells a (d ∷ done) cd [] tail ci e = let first : word d ≡ zero_word = cc in tells.no_zero a d cd.0 first
row_ends word Fits key tells a (d ∷ done) cd (x ∷ items) tail ci e =
    let first : word d ≡ word x = cc in
    let others : map word done ≡ map word items ++ zero_word ∷ tail = cc in
    let same = tells.same a a d x cd.0 ci.0 first in
    row_ends word Fits key tells (key d) done cd.1 items tail (subst (λ (z : ℕ). Chain Fits key (key z) items) (sym same) ci.1) others

-- one more item at the end
pub Chain-push : (Fits : ℕ → ℕ → Type 0) (key : ℕ → ℕ) (a : ℕ) (done : List ℕ) (x : ℕ) → Chain Fits key a done → Fits (last_key key a done) x
    → Chain Fits key a (done ++ x ∷ [])
Chain-push Fits key a [] x cd fx = (fx, tt)
Chain-push Fits key a (d ∷ done) x cd fx = (cd.0, Chain-push Fits key (key d) done x cd.1 fx)

pub last_key-push : (key : ℕ → ℕ) (a : ℕ) (done : List ℕ) (x : ℕ) → last_key key a (done ++ x ∷ []) ≡ key x
last_key-push key a [] x = refl
last_key-push key a (d ∷ done) x = last_key-push key (key d) done x

-- the next item was read
pub row_more : (word : ℕ → List ℕ) (done : List ℕ) (x : ℕ) (w : List ℕ) (rest : List (List ℕ)) → w ≡ word x
    → map word done ++ w ∷ rest ≡ map word (done ++ x ∷ []) ++ rest
row_more word [] x w rest is = rw is refl
row_more word (d ∷ done) x w rest is = ap (λ (y : List (List ℕ)). word d ∷ y) (row_more word done x w rest is)

-- a word that is cut off after some items can go on to the word 0, or to one more item
abbrev pub MayGoOn : (ℕ → List ℕ) → (ℕ → ℕ → Type 0) → (ℕ → ℕ) → List ℕ → List ℕ → Type 0
MayGoOn word Fits key done p =
    ((more : List ℕ) × (p ++ more ≡ zero_word)) ⊎ ((more : List ℕ) × (x : ℕ) × Fits (last_key key 0 done) x × (p ++ more ≡ word x))

-- what a row is, with what follows it
row_after : (word : ℕ → List ℕ) (items : List ℕ) (x tail : List (List ℕ)) → x ≡ row word items ++ tail → x ≡ map word items ++ zero_word ∷ tail
row_after word items x tail is = is ∙ append_assoc (map word items) (zero_word ∷ []) tail

goes_on : (word : ℕ → List ℕ) (Fits : ℕ → ℕ → Type 0) (key : ℕ → ℕ) (done : List ℕ) (p : List ℕ) (tail : List ℕ → List (List ℕ)) → Chain Fits key 0 done
    → MayGoOn word Fits key done p → Grows (λ x. HasPartBefore (Chain Fits key 0) (row word) tail (map word done ++ x)) (p ∷ [])
goes_on word Fits key done p tail cd (inl g) = (
  g.0,
  tail done,
  record { value = done; fits = cd; is = ap (λ y. map word done ++ y ∷ tail done) g.1 ∙ sym (append_assoc (map word done) (zero_word ∷ []) (tail done)) },
)
goes_on word Fits key done p tail cd (inr g) =
    let items : List ℕ = done ++ g.1 ∷ [] in (
      g.0,
      zero_word ∷ tail items,
      record {
        value = items;
        fits = Chain-push Fits key 0 done g.1 cd g.2;
        is = row_more word done g.1 (p ++ g.0) (zero_word ∷ tail items) g.3 ∙ sym (append_assoc (map word items) (zero_word ∷ []) (tail items));
      },
    )

-- the last word is cut off
pub row_cut : (word : ℕ → List ℕ) (Fits : ℕ → ℕ → Type 0) (key : ℕ → ℕ) → Tells word Fits → (was now : Words) (done : List ℕ) (p : List ℕ) (b : Bool)
    → Passes (map word done) was now → (is_cut now ≡ true) × (left now ≡ p ∷ []) → Chain Fits key 0 done
    → (b ≡ true → MayGoOn word Fits key done p) → (MayGoOn word Fits key done p → b ≡ true)
    → IsPartStop (Chain Fits key 0) (row word) was (if b then Early else Bad)
row_cut word Fits key tells was now done p b passes next cd to from = by b to from
  where
    cut : is_cut was ≡ true
    cut = sym passes.same ∙ next.0

    is : left was ≡ map word done ++ p ∷ []
    is = passes.is ∙ ap (λ y. map word done ++ y) next.1

    by : (b : Bool) → (b ≡ true → MayGoOn word Fits key done p) → (MayGoOn word Fits key done p → b ≡ true)
        → IsPartStop (Chain Fits key 0) (row word) was (if b then Early else Bad)
    by true to from =
        part_early (Chain Fits key 0) (row word) was cut
        (λ tail.
        subst (λ (y : List (List ℕ)). Grows (HasPartBefore (Chain Fits key 0) (row word) tail) y) (sym is)
        (Grows-after (HasPartBefore (Chain Fits key 0) (row word) tail) (map word done) (p ∷ []) (omega arith) (goes_on word Fits key done p tail cd (to refl))))
    by false to from =
        part_bad (Chain Fits key 0) (row word) was
        (subst (λ (c : Bool). Fails c (HasPart (Chain Fits key 0) (row word)) (left was)) (sym cut)
        (λ g.
        let (w, others, found) =
        Grows-before (HasPart (Chain Fits key 0) (row word)) (map word done) (p ∷ []) (omega arith)
        (subst (λ (y : List (List ℕ)). Grows (HasPart (Chain Fits key 0) (row word)) y) is g) in
        row_breaks word Fits key tells 0 done (p ++ w) others cd (λ e. never (from (inl (w, e))))
        (λ x f e. never (from (inr (w, x, f, e)))) found.value found.tail found.fits (row_after word found.value _ found.tail found.is)))

-- a whole word is none that may come next
pub row_bad : (word : ℕ → List ℕ) (Fits : ℕ → ℕ → Type 0) (key : ℕ → ℕ) → Tells word Fits → (was mid now : Words) (done : List ℕ) (w : List ℕ)
    → Passes (map word done) was mid → Passes (w ∷ []) mid now → Chain Fits key 0 done → w ≢ zero_word
    → ((x : ℕ) → Fits (last_key key 0 done) x → w ≢ word x) → IsPartStop (Chain Fits key 0) (row word) was Bad
row_bad word Fits key tells was mid now done w passes next cd nz ni =
    part_bad (Chain Fits key 0) (row word) was
    (Fails-front (HasPart (Chain Fits key 0) (row word)) (map word done ++ w ∷ []) was now (Passes-next passes next)
    (λ x found.
    row_breaks word Fits key tells 0 done w x cd nz ni found.value found.tail found.fits
    (sym (append_assoc (map word done) (w ∷ []) x) ∙ row_after word found.value _ found.tail found.is)))

-- a line ends after some items
pub row_short : (word : ℕ → List ℕ) (Fits : ℕ → ℕ → Type 0) (key : ℕ → ℕ) → Tells word Fits → (was now : Words) (done : List ℕ)
    → Passes (map word done) was now → left now ≡ [] → Chain Fits key 0 done → IsPartStop (Chain Fits key 0) (row word) was Bad
row_short word Fits key tells was now done passes end cd =
    part_bad (Chain Fits key 0) (row word) was
    (Fails-end (HasPart (Chain Fits key 0) (row word)) (map word done) was now passes end
    (λ found. row_ends word Fits key tells 0 done cd found.value found.tail found.fits (row_after word found.value _ found.tail found.is)))

-- one more item was passed
pub row_next : (word : ℕ → List ℕ) (done more : List ℕ) (x : ℕ) (w : List ℕ) (was mid now : Words) → Passes (map word done) was mid
    → Passes (w ∷ []) mid now → w ≡ word x → more ≡ done ++ x ∷ [] → Passes (map word more) was now
row_next word done more x w was mid now passes next is pushed = record {
  is =
      passes.is ∙ ap (λ y. map word done ++ y) next.is ∙ row_more word done x w (left now) is
      ∙ ap (λ (y : List ℕ). map word y ++ left now) (sym pushed);
  same = next.same ∙ passes.same;
}

-- the word 0 was passed
pub row_all : (word : ℕ → List ℕ) (items : List ℕ) (w : List ℕ) (was mid now : Words) → Passes (map word items) was mid → Passes (w ∷ []) mid now
    → w ≡ zero_word → Passes (row word items) was now
row_all word items w was mid now passes next is =
    subst (λ (y : List ℕ). Passes (map word items ++ y ∷ []) was now) is (Passes-next passes next)
