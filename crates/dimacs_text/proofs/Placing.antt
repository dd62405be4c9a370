-- What lines and words say, one on.
use Rattle.std.proofs.Common.{◌≡◌, ℕ, suc, ◌+◌, ◌<◌, List, [], ◌∷◌, ◌++◌, map, filter, take, drop, length, get_or, ap, subst, sym, ◌∙◌, arith}
use Rattle.std.proofs.Common.{append_assoc, append-nil}
use Rattle.std.specs.Borrow.{Bor}
use Rattle.std.proofs.Math.Seq.{take-suc}
use Rattle.std.proofs.lemmas.List.{map_push, map-append, length-map, length-take-le, take-append-drop}
use Rattle.std.proofs.lemmas.List.Elements.{filter-append}
use Rattle.dimacs_text.specs.Tokens.{Placed, is_word, number, placed_in, placed_words, placed_from}
use Rattle.dimacs_text.specs.Faults.{IsStop}
use Rattle.dimacs_text.specs.declared.tokens.Token.{Token}
use Rattle.dimacs_text.specs.declared.faults.DimacsFault.{DimacsFault}
use Rattle.dimacs_text.proofs.Taking.{stop_more}

abbrev pub now_of : Bor (List ℕ) → List ℕ
now_of b = b.now

-- a map over one item more
pub taken_more : {X A : Type 0} (f : X → A) (xs : List X) (k : ℕ) (d : X) → k < length xs → map f (take (k + 1) xs) ≡ map f (take k xs) ++ f (get_or xs k d) ∷ []
taken_more {X} {A} f xs k d low =
    let e : k + 1 ≡ suc k = omega arith in
    ap (λ (n : ℕ). map f (take n xs)) e ∙ (ap (map f) (take-suc xs k d low) ∙ map_push f (take k xs) (get_or xs k d))

-- the words among one part more
pub words_more : (parts : List (Bor (List ℕ))) (k : ℕ) (d : Bor (List ℕ)) → k < length parts
    → filter is_word (map now_of (take (k + 1) parts)) ≡ filter is_word (map now_of (take k parts)) ++ filter is_word ((get_or parts k d).now ∷ [])
words_more parts k d low =
    ap (filter is_word) (taken_more now_of parts k d low) ∙ filter-append is_word (map now_of (take k parts)) ((get_or parts k d).now ∷ [])

-- what one word more says
pub said_more : (at : ℕ) (words : List (Bor (List ℕ))) (k : ℕ) (d : Bor (List ℕ)) → k < length words
    → placed_words at (map now_of (take (k + 1) words)) ≡ placed_words at (map now_of (take k words)) ++ (at, number (get_or words k d).now) ∷ []
said_more at words k d low =
    ap (placed_words at) (taken_more now_of words k d low)
    ∙ map_push (λ (word : List ℕ). (at, number word)) (map now_of (take k words)) (get_or words k d).now

-- some words say the front of what all say
pub said_front : (at : ℕ) (words : List (Bor (List ℕ))) (k : ℕ)
    → placed_words at (map now_of words) ≡ placed_words at (map now_of (take k words)) ++ placed_words at (map now_of (drop k words))
said_front at words k =
    ap (λ (ws : List (Bor (List ℕ))). placed_words at (map now_of ws)) (sym (take-append-drop k words))
    ∙ (ap (placed_words at) (map-append now_of (take k words) (drop k words))
    ∙ map-append (λ (word : List ℕ). (at, number word)) (map now_of (take k words)) (map now_of (drop k words)))

-- lines say what the first ones say, and then what the others say
pub placed_append : (at : ℕ) (xs ys : List (List ℕ)) → placed_from at (xs ++ ys) ≡ placed_from at xs ++ placed_from (at + length xs) ys
unfolding placed_from
placed_append at [] ys = let e : at ≡ at + 0 = omega arith in ap (λ (n : ℕ). placed_from n ys) e
placed_append at (x ∷ xs) ys =
    let e : (at + 1) + length xs ≡ at + suc (length xs) = omega arith in
    ap (λ (ps : List Placed). placed_in at x ++ ps) (placed_append (at + 1) xs ys ∙ ap (λ (n : ℕ). placed_from (at + 1) xs ++ placed_from n ys) e)
    ∙ sym (append_assoc (placed_in at x) (placed_from (at + 1) xs) (placed_from (at + suc (length xs)) ys))

placed_one : (at : ℕ) (line : List ℕ) → placed_from at (line ∷ []) ≡ placed_in at line
unfolding placed_from
placed_one at line = append-nil (placed_in at line)

-- what one line more says
pub lines_more : (lines : List (Bor (List ℕ))) (k : ℕ) (d : Bor (List ℕ)) → k < length lines
    → placed_from 1 (map now_of (take (k + 1) lines)) ≡ placed_from 1 (map now_of (take k lines)) ++ placed_in (k + 1) (get_or lines k d).now
lines_more lines k d low =
    let line = (get_or lines k d).now in
    let front = map now_of (take k lines) in
    let many : 1 + length front ≡ k + 1 = omega (arith, length-map (take k lines) now_of, length-take-le k lines (omega (arith, low))) in
    ap (placed_from 1) (taken_more now_of lines k d low)
    ∙ (placed_append 1 front (line ∷ [])
    ∙ ap (λ (ps : List Placed). placed_from 1 front ++ ps) (placed_one (1 + length front) line ∙ ap (λ (n : ℕ). placed_in n line) many))

-- what stops the first lines stops all
pub stop_in : (lines : List (Bor (List ℕ))) (k : ℕ) (e : DimacsFault) → IsStop (placed_from 1 (map now_of (take k lines))) e
    → IsStop (placed_from 1 (map now_of lines)) e
stop_in lines k e stop =
    let front = map now_of (take k lines) in
    let back = map now_of (drop k lines) in
    let whole : front ++ back ≡ map now_of lines =
    sym (map-append now_of (take k lines) (drop k lines)) ∙ ap (map now_of) (take-append-drop k lines) in
    subst (λ (ls : List (List ℕ)). IsStop (placed_from 1 ls) e) whole
    (subst (λ (ps : List Placed). IsStop ps e) (sym (placed_append 1 front back)) (stop_more (placed_from 1 front) (placed_from (1 + length front) back) e stop))

-- what stops some words stops all
pub stop_words : (at : ℕ) (words : List (Bor (List ℕ))) (k : ℕ) (d : Bor (List ℕ)) (placed : List Placed) (e : DimacsFault) (token : Token)
    → k < length words → token ≡ number (get_or words k d).now
    → IsStop ((placed ++ placed_words at (map now_of (take k words))) ++ (at, token) ∷ []) e → IsStop (placed ++ placed_words at (map now_of words)) e
stop_words at words k d placed e token low is stop =
    let before = placed_words at (map now_of (take k words)) in
    let upto = placed_words at (map now_of (take (k + 1) words)) in
    let rest = placed_words at (map now_of (drop (k + 1) words)) in
    let same : (placed ++ before) ++ (at, token) ∷ [] ≡ placed ++ upto =
    append_assoc placed before ((at, token) ∷ [])
    ∙ (ap (λ (t : Token). placed ++ (before ++ (at, t) ∷ [])) is ∙ ap (λ (ps : List Placed). placed ++ ps) (sym (said_more at words k d low))) in
    let whole : (placed ++ upto) ++ rest ≡ placed ++ placed_words at (map now_of words) =
    append_assoc placed upto rest ∙ ap (λ (ps : List Placed). placed ++ ps) (sym (said_front at words (k + 1))) in
    subst (λ (ps : List Placed). IsStop ps e) whole (stop_more (placed ++ upto) rest e (subst (λ (ps : List Placed). IsStop ps e) same stop))
