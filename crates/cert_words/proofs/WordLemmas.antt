-- The words of a line.
use Rattle.std.proofs.Common.{◌≡◌, ℕ, suc, ◌+◌, ◌<◌, ◌==◌, Bool, true, false, not, cond, List, [], ◌∷◌, ◌++◌}
use Rattle.std.proofs.Common.{length, take, drop, refl, sym, ap, ◌∙◌, append-nil, arith}
use Rattle.std.specs.List.{onto_first, prefix_len, list_all}
use Rattle.std.proofs.lemmas.Bool.{and_parts, not-true}
use Rattle.std.proofs.lemmas.Bool.Decides.{nat_tests}
use Rattle.cert_words.specs.Parts.{no_words}
use Rattle.cert_words.specs.Words.{words, spaced}

-- how many bytes come before the first space
abbrev pub word_len : List ℕ → ℕ
word_len s = prefix_len (λ b. not (b == 32)) s

last_by : (v : Bool) (b : ℕ) (bs : List ℕ) → words bs ≡ take (word_len bs) bs ∷ [] → cond (not v) (1 + word_len bs) 0 ≡ suc (length bs)
    → cond v ([] ∷ words bs) (onto_first b (words bs)) ≡ take (cond (not v) (1 + word_len bs) 0) (b ∷ bs) ∷ []
last_by true b bs more all = absurd (omega arith)
last_by false b bs more all = let len : 1 + word_len bs ≡ suc (word_len bs) = omega arith in rw (more, len) refl

len_of : (v : Bool) (n m : ℕ) → cond (not v) (1 + n) 0 ≡ suc m → n ≡ m
len_of true n m e = absurd (omega arith)
len_of false n m e = omega arith

-- the last word of a line goes to its end
pub words_last : (s : List ℕ) → word_len s ≡ length s → words s ≡ take (word_len s) s ∷ []
unfolding words
words_last [] all = refl
words_last (b ∷ bs) all = last_by (b == 32) b bs (words_last bs (len_of (b == 32) (word_len bs) (length bs) all)) all

more_by : (v : Bool) (b : ℕ) (bs : List ℕ) → (word_len bs < length bs → words bs ≡ take (word_len bs) bs ∷ words (drop 1 (drop (word_len bs) bs)))
    → cond (not v) (1 + word_len bs) 0 < suc (length bs)
    → cond v ([] ∷ words bs) (onto_first b (words bs))
    ≡ take (cond (not v) (1 + word_len bs) 0) (b ∷ bs) ∷ words (drop 1 (drop (cond (not v) (1 + word_len bs) 0) (b ∷ bs)))
more_by true b bs more some = refl
more_by false b bs more some = let len : 1 + word_len bs ≡ suc (word_len bs) = omega arith in rw (more (omega arith), len) refl

-- any other word ends at a space, and the others follow it
pub words_more : (s : List ℕ) → word_len s < length s → words s ≡ take (word_len s) s ∷ words (drop 1 (drop (word_len s) s))
unfolding words
words_more [] some = absurd (omega arith)
words_more (b ∷ bs) some = more_by (b == 32) b bs (words_more bs) some

onto_some : (b : ℕ) (ls : List (List ℕ)) → 0 < length ls → 0 < length (onto_first b ls)
onto_some b [] some = absurd (omega arith)
onto_some b (l ∷ ls) some = omega arith

some_by : (v : Bool) (b : ℕ) (ls : List (List ℕ)) → 0 < length ls → 0 < length (cond v ([] ∷ ls) (onto_first b ls))
some_by true b ls some = omega arith
some_by false b ls some = onto_some b ls some

-- a line has a word
pub some_words : (s : List ℕ) → 0 < length (words s)
unfolding words
some_words [] = omega arith
some_words (b ∷ bs) = some_by (b == 32) b (words bs) (some_words bs)

-- no byte is a space
abbrev pub is_word : List ℕ → Bool
is_word w = list_all (λ b. not (b == 32)) w

-- the bytes before a line's first space go onto its first word
abbrev pub glued : List ℕ → List (List ℕ) → List (List ℕ)
glued p [] = []
glued p (w ∷ ws) = (p ++ w) ∷ ws

onto-glued : (b : ℕ) (p : List ℕ) (ls : List (List ℕ)) → 0 < length ls → onto_first b (glued p ls) ≡ glued (b ∷ p) ls
onto-glued b p [] some = absurd (omega arith)
onto-glued b p (l ∷ ls) some = refl

no_front : (ls : List (List ℕ)) → 0 < length ls → ls ≡ glued [] ls
no_front [] some = absurd (omega arith)
no_front (l ∷ ls) some = refl

-- a word in front of a line
pub words-onto : (w t : List ℕ) → is_word w ≡ true → words (w ++ t) ≡ glued w (words t)
unfolding words
words-onto [] t plain = no_front (words t) (some_words t)
words-onto (b ∷ w) t plain =
    let (here, more) = and_parts _ _ plain in
    let differs : (b == 32) ≡ false = not-true _ here in
    rw (differs, words-onto w t more) (onto-glued b w (words t) (some_words t))

-- a word, a space, and others
pub words-word : (w t : List ℕ) → is_word w ≡ true → words (w ++ 32 ∷ t) ≡ w ∷ words t
unfolding words
words-word w t plain = words-onto w (32 ∷ t) plain ∙ ap (λ x. x ∷ words t) (append-nil w)

words-nil : words [] ≡ [] ∷ []
unfolding words
words-nil = refl

-- words without spaces, one space between them
pub words-spaced : (ws : List (List ℕ)) → 0 < length ws → list_all is_word ws ≡ true → words (spaced ws) ≡ ws
unfolding spaced
words-spaced [] some plain = absurd (omega arith)
words-spaced (w ∷ []) some plain =
    ap words (sym (append-nil w)) ∙ words-onto w [] (and_parts _ _ plain).0 ∙ ap (glued w) words-nil ∙ ap (λ x. x ∷ []) (append-nil w)
words-spaced (w ∷ (v ∷ ws)) some plain =
    words-word w (spaced (v ∷ ws)) (and_parts _ _ plain).0 ∙ ap (λ x. w ∷ x) (words-spaced (v ∷ ws) (omega arith) (and_parts _ _ plain).1)

spaced-onto : (b : ℕ) (ls : List (List ℕ)) → 0 < length ls → spaced (onto_first b ls) ≡ b ∷ spaced ls
unfolding spaced
spaced-onto b [] some = absurd (omega arith)
spaced-onto b (l ∷ []) some = refl
spaced-onto b (l ∷ (m ∷ ls)) some = refl

space_first : (b : ℕ) (bs : List ℕ) (ls : List (List ℕ)) → b ≡ 32 → 0 < length ls → spaced ls ≡ bs → spaced ([] ∷ ls) ≡ b ∷ bs
unfolding spaced
space_first b bs [] is some e = absurd (omega arith)
space_first b bs (l ∷ ls) is some e = cc

spaced_by : (v : Bool) (b : ℕ) (bs : List ℕ) → (v ≡ true → b ≡ 32) → spaced (words bs) ≡ bs → 0 < length (words bs)
    → spaced (cond v ([] ∷ words bs) (onto_first b (words bs))) ≡ b ∷ bs
spaced_by true b bs is more some = space_first b bs (words bs) (is refl) some more
spaced_by false b bs is more some = spaced-onto b (words bs) some ∙ ap (λ x. b ∷ x) more

-- the words of a line are the line
pub spaced-words : (s : List ℕ) → spaced (words s) ≡ s
unfolding words spaced
spaced-words [] = refl
spaced-words (b ∷ bs) = spaced_by (b == 32) b bs (λ e. grind (arith, nat_tests)) (spaced-words bs) (some_words bs)

-- a line is never without a word
no_words_of : (ls : List (List ℕ)) → 0 < length ls → no_words ls ≡ false
no_words_of [] some = absurd (omega arith)
no_words_of (l ∷ ls) some = refl

pub has_words : (s : List ℕ) → no_words (words s) ≡ false
has_words s = no_words_of (words s) (some_words s)
