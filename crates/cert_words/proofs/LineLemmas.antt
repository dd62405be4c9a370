-- Lines of a kind, by their words.
use Rattle.std.proofs.Common.{◌≡◌, ℕ, ◌<◌, ◌==◌, Bool, true, false, cond, List, [], ◌∷◌, ◌++◌, length, refl, sym, ap, ◌∙◌, subst, append_assoc, arith}
use Rattle.std.specs.List.{onto_first, list_all}
use Rattle.cert_words.specs.declared.stops.Stop.{Stop}
use Rattle.cert_words.specs.declared.stops.Stop.TheVariants.{Bad, Early, Memory}
use Rattle.cert_words.specs.Words.{words, spaced, tailed}
use Rattle.cert_words.specs.Growth.{Grows, Fails}
use Rattle.cert_words.specs.declared.words.Words.{Words}
use Rattle.cert_words.specs.Parts.{left, is_cut, IsAt, Passes, HasPart, HasPartBefore, IsPartStop, no_words}
use Rattle.cert_words.specs.Lines.{Spells, Begins, IsLineStop}
use Rattle.cert_words.proofs.WordLemmas.{some_words, spaced-words, words-spaced}
use Rattle.cert_words.proofs.Tokens.{is_token, tokens_words}
use Rattle.cert_words.proofs.RowLemmas.{Grows-map, Grows-after, Fails-map, Fails-after, never, left_some, part_bad, part_early, part_memory}

-- no word of the kind has a space or a newline, a line has a word, and the words tell the value
pub record IsKind {V : Type 0} (Fits : V → Type 0) (ws : V → List (List ℕ)) : Type 0 where
  pub plain : (v : V) → Fits v → list_all is_token (ws v) ≡ true
  pub some : (v : V) → 0 < length (ws v)
  pub told : (v u : V) → Fits v → Fits u → ws v ≡ ws u → v ≡ u

-- the words are those of a value that fits
abbrev pub HasWords : {V : Type 0} → (V → Type 0) → (V → List (List ℕ)) → List (List ℕ) → Type 0
HasWords {V} Fits ws x = (v : V) × Fits v × (x ≡ ws v)

-- more bytes make the words grow
grow_first : (L : List (List ℕ) → Type 0) (b : ℕ) (ws : List (List ℕ)) → Grows (λ x. L (onto_first b x)) ws → Grows L (onto_first b ws)
grow_first L b [] g = absurd g
grow_first L b (p ∷ []) g = g
grow_first L b (p ∷ (q ∷ ws)) g = g

grow_space : (L : List (List ℕ) → Type 0) (ws : List (List ℕ)) → 0 < length ws → Grows (λ x. L ([] ∷ x)) ws → Grows L ([] ∷ ws)
grow_space L [] some g = absurd (omega arith)
grow_space L (q ∷ ws) some g = g

grow_by : (v : Bool) (b : ℕ) (L : List (List ℕ) → Type 0) (bs more : List ℕ)
    → ((M : List (List ℕ) → Type 0) → M (words (bs ++ more)) → Grows M (words bs))
    → L (cond v ([] ∷ words (bs ++ more)) (onto_first b (words (bs ++ more)))) → Grows L (cond v ([] ∷ words bs) (onto_first b (words bs)))
grow_by true b L bs more rest l = grow_space L (words bs) (some_words bs) (rest (λ x. L ([] ∷ x)) l)
grow_by false b L bs more rest l = grow_first L b (words bs) (rest (λ x. L (onto_first b x)) l)

grow_none : (L : List (List ℕ) → Type 0) (ws : List (List ℕ)) → 0 < length ws → L ws → Grows L ([] ∷ [])
grow_none L [] some l = absurd (omega arith)
grow_none L (w ∷ ws) some l = (w, ws, l)

words_grow : (line more : List ℕ) (L : List (List ℕ) → Type 0) → L (words (line ++ more)) → Grows L (words line)
unfolding words
words_grow [] more L l = grow_none L (words more) (some_words more) l
words_grow (b ∷ bs) more L l = grow_by (b == 32) b L bs more (words_grow bs more) l

-- and words that grow are a line with more bytes
record Grown (L : List (List ℕ) → Type 0) (ws : List (List ℕ)) : Type 0 where
  pub to : List (List ℕ)
  pub some : 0 < length to
  pub kind : L to
  pub more : List ℕ
  pub is : spaced to ≡ spaced ws ++ more

last_grown : (p w : List ℕ) (others : List (List ℕ)) → (more : List ℕ) × (spaced ((p ++ w) ∷ others) ≡ p ++ more)
unfolding spaced
last_grown p w [] = (w, refl)
last_grown p w (o ∷ os) = (w ++ 32 ∷ spaced (o ∷ os), append_assoc p w (32 ∷ spaced (o ∷ os)))

pub first_spaced : (p : List ℕ) (ws : List (List ℕ)) → 0 < length ws → spaced (p ∷ ws) ≡ p ++ 32 ∷ spaced ws
unfolding spaced
first_spaced p [] some = absurd (omega arith)
first_spaced p (w ∷ ws) some = refl

pub one_spaced : (p : List ℕ) → spaced (p ∷ []) ≡ p
unfolding spaced
one_spaced p = refl

spaced_grow : (ws : List (List ℕ)) (L : List (List ℕ) → Type 0) → Grows L ws → Grown L ws
spaced_grow [] L g = absurd g
spaced_grow (p ∷ []) L g =
    let front = last_grown p g.0 g.1 in
    record { to = (p ++ g.0) ∷ g.1; some = omega arith; kind = g.2; more = front.0; is = front.1 ∙ ap (λ x. x ++ front.0) (sym (one_spaced p)) }
spaced_grow (p ∷ (q ∷ ws)) L g =
    let rest = spaced_grow (q ∷ ws) (λ x. L (p ∷ x)) g in
    record {
      to = p ∷ rest.to;
      some = omega arith;
      kind = rest.kind;
      more = rest.more;
      is =
          first_spaced p rest.to rest.some ∙ ap (λ x. p ++ 32 ∷ x) rest.is ∙ sym (append_assoc p (32 ∷ spaced (q ∷ ws)) rest.more)
          ∙ ap (λ x. x ++ rest.more) (sym (first_spaced p (q ∷ ws) (omega arith)));
    }

-- the words of a line that spells a value are its words
pub words_of : {V : Type 0} (Fits : V → Type 0) (ws : V → List (List ℕ)) → IsKind Fits ws → (line : List ℕ) (v : V) → Spells Fits ws line v → words line ≡ ws v
words_of Fits ws kind line v spells = ap words spells.is ∙ words-spaced (ws v) (kind.some v) (tokens_words (ws v) (kind.plain v spells.fits))

line_early : {V : Type 0} (Fits : V → Type 0) (ws : V → List (List ℕ)) → (line : List ℕ) → Grows (HasWords Fits ws) (words line) → Begins Fits ws line
line_early Fits ws line g =
    let found = spaced_grow (words line) (HasWords Fits ws) g in
    let (v, fits, is) = found.kind in
    record { more = found.more; value = v; spells = record { is = sym (found.is ∙ ap (λ x. x ++ found.more) (spaced-words line)) ∙ ap spaced is; fits = fits } }

line_bad : {V : Type 0} (Fits : V → Type 0) (ws : V → List (List ℕ)) → IsKind Fits ws → (cut : Bool) (line : List ℕ)
    → Fails cut (HasWords Fits ws) (words line) → IsLineStop Fits ws cut line Bad
line_bad Fits ws kind false line fails = λ v spells. fails (v, spells.fits, words_of Fits ws kind line v spells)
line_bad Fits ws kind true line fails =
    λ b. fails (words_grow line b.more (HasWords Fits ws) (b.value, b.spells.fits, words_of Fits ws kind (line ++ b.more) b.value b.spells))

pub stop_early : {V : Type 0} (Fits : V → Type 0) (ws : V → List (List ℕ)) (cut : Bool) (line : List ℕ) → cut ≡ true → Begins Fits ws line
    → IsLineStop Fits ws cut line Early
stop_early Fits ws true line is begins = (is, begins)
stop_early Fits ws false line is begins = (is, begins)

pub stop_memory : {V : Type 0} (Fits : V → Type 0) (ws : V → List (List ℕ)) (cut : Bool) (line : List ℕ) → IsLineStop Fits ws cut line Memory
stop_memory Fits ws true line = tt
stop_memory Fits ws false line = tt

-- one more part was passed
pub at_next : {line : List ℕ} {cut : Bool} {pre part : List (List ℕ)} {a b : Words} → IsAt line cut pre a → Passes part a b → IsAt line cut (pre ++ part) b
at_next {line} {cut} {pre} {part} {a} {b} at passes =
    record { is = at.is ∙ ap (λ y. pre ++ y) passes.is ∙ sym (append_assoc pre part (left b)); same = passes.same ∙ at.same }

-- what a stop says of the words that are left, said of the line
stop_at : {V : Type 0} {Fits : V → Type 0} {ws : V → List (List ℕ)} {line : List ℕ} {cut : Bool} {pre : List (List ℕ)} {w : Words} (stop : Stop)
    → IsKind Fits ws → IsAt line cut pre w → (stop ≡ Bad → Fails cut (λ x. HasWords Fits ws (pre ++ x)) (left w))
    → (stop ≡ Early → (cut ≡ true) × Grows (λ x. HasWords Fits ws (pre ++ x)) (left w)) → IsLineStop Fits ws cut line stop
stop_at {V} {Fits} {ws} {line} {cut} {pre} {w} Bad kind at bad early =
    line_bad Fits ws kind cut line
    (subst (λ (y : List (List ℕ)). Fails cut (HasWords Fits ws) y) (sym at.is)
    (Fails-after cut (HasWords Fits ws) pre (left w) (λ e. left_some w (at.same ∙ e)) (bad refl)))
stop_at {V} {Fits} {ws} {line} {cut} {pre} {w} Early kind at bad early =
    let e = early refl in
    stop_early Fits ws cut line e.0
    (line_early Fits ws line
    (subst (λ (y : List (List ℕ)). Grows (HasWords Fits ws) y) (sym at.is)
    (Grows-after (HasWords Fits ws) pre (left w) (left_some w (at.same ∙ e.0)) e.1)))
stop_at {V} {Fits} {ws} {line} {cut} {pre} {w} Memory kind at bad early = stop_memory Fits ws cut line

-- what a part that is cut off grows to
part_grows : {V P : Type 0} {Fits : V → Type 0} {ws : V → List (List ℕ)} {Part : P → Type 0} {part : P → List (List ℕ)} {line : List ℕ} {cut : Bool}
    {pre : List (List ℕ)} {w : Words} {stop : Stop} → IsAt line cut pre w → IsPartStop Part part w stop
    → (tail : P → List (List ℕ)) → ((p : P) → Part p → HasWords Fits ws (pre ++ (part p ++ tail p)))
    → stop ≡ Early → (cut ≡ true) × Grows (λ x. HasWords Fits ws (pre ++ x)) (left w)
part_grows {V} {P} {Fits} {ws} {Part} {part} {line} {cut} {pre} {w} at why tail onto e = (
  sym at.same ∙ why.cut e,
  Grows-map (HasPartBefore Part part tail) (λ x. HasWords Fits ws (pre ++ x))
      (λ x m. subst (λ (y : List (List ℕ)). HasWords Fits ws (pre ++ y)) (sym m.is) (onto m.value m.fits)) (left w) (why.grows e tail),
)

-- a part is missing: lines of the kind have it there, and each that fits makes one with what is to follow it
pub stop_part : {V P : Type 0} {Fits : V → Type 0} {ws : V → List (List ℕ)} {Part : P → Type 0} {part : P → List (List ℕ)} {line : List ℕ} {cut : Bool}
    {pre : List (List ℕ)} {w : Words} {stop : Stop} → IsKind Fits ws → IsAt line cut pre w → IsPartStop Part part w stop
    → ((x : List (List ℕ)) (v : V) → Fits v → pre ++ x ≡ ws v → HasPart Part part x)
    → (tail : P → List (List ℕ)) → ((p : P) → Part p → HasWords Fits ws (pre ++ (part p ++ tail p))) → IsLineStop Fits ws cut line stop
stop_part {V} {P} {Fits} {ws} {Part} {part} {line} {cut} {pre} {w} {stop} kind at why into tail onto =
    stop_at stop kind at
    (λ e.
    Fails-map cut (HasPart Part part) (λ x. HasWords Fits ws (pre ++ x)) (λ x m. into x m.0 m.1 m.2) (left w)
    (subst (λ (c : Bool). Fails c (HasPart Part part) (left w)) at.same (why.bad e))) (part_grows at why tail onto)

-- a part of a part is missing: each whole has it there, and each one that fits makes a whole with what is to follow it
pub part_after : {V P : Type 0} {Fits : V → Type 0} {ws : V → List (List ℕ)} {Part : P → Type 0} {part : P → List (List ℕ)} {pre : List (List ℕ)}
    {was now : Words} {stop : Stop} → Passes pre was now → IsPartStop Part part now stop
    → ((x y : List (List ℕ)) (v : V) → Fits v → pre ++ x ≡ ws v ++ y → HasPart Part part x)
    → (to : P → V) (rest : P → List (List ℕ)) → ((p : P) → Part p → Fits (to p) × (pre ++ (part p ++ rest p) ≡ ws (to p)))
    → IsPartStop Fits ws was stop
part_after {V} {P} {Fits} {ws} {Part} {part} {pre} {was} {now} {stop} passes why into to rest onto = by stop why
  where
    grown : (tail : V → List (List ℕ)) (x : List (List ℕ)) → HasPartBefore Part part (λ p. rest p ++ tail (to p)) x → HasPartBefore Fits ws tail (pre ++ x)
    grown tail x m =
        let p = m.value in
        let after = tail (to p) in
        let (fits, is) = onto p m.fits in
        record {
          value = to p;
          fits = fits;
          is =
              ap (λ y. pre ++ y) (m.is ∙ sym (append_assoc (part p) (rest p) after)) ∙ sym (append_assoc pre (part p ++ rest p) after)
              ∙ ap (λ y. y ++ after) is;
        }

    by : (s : Stop) → IsPartStop Part part now s → IsPartStop Fits ws was s
    by Bad why =
        part_bad Fits ws was
        (subst (λ (c : Bool). Fails c (HasPart Fits ws) (left was)) passes.same
        (subst (λ (y : List (List ℕ)). Fails (is_cut now) (HasPart Fits ws) y) (sym passes.is)
        (Fails-after (is_cut now) (HasPart Fits ws) pre (left now) (left_some now)
        (Fails-map (is_cut now) (HasPart Part part) (λ x. HasPart Fits ws (pre ++ x)) (λ x m. into x m.tail m.value m.fits m.is) (left now) (why.bad refl)))))
    by Early why =
        part_early Fits ws was (sym passes.same ∙ why.cut refl)
        (λ tail.
        subst (λ (y : List (List ℕ)). Grows (HasPartBefore Fits ws tail) y) (sym passes.is)
        (Grows-after (HasPartBefore Fits ws tail) pre (left now) (left_some now (why.cut refl))
        (Grows-map (HasPartBefore Part part (λ p. rest p ++ tail (to p))) (λ x. HasPartBefore Fits ws tail (pre ++ x)) (grown tail)
        (left now) (why.grows refl (λ p. rest p ++ tail (to p))))))
    by Memory why = part_memory Fits ws was

Grows-some : (L M : List (List ℕ) → Type 0) → ((ws : List (List ℕ)) → 0 < length ws → L ws → M ws) → (ws : List (List ℕ)) → Grows L ws → Grows M ws
Grows-some L M f [] g = absurd g
Grows-some L M f (p ∷ []) g = (g.0, g.1, f _ (omega arith) g.2)
Grows-some L M f (p ∷ (q ∷ ws)) g = Grows-some (λ rest. L (p ∷ rest)) (λ rest. M (p ∷ rest)) (λ rest some l. f _ (omega arith) l) (q ∷ ws) g

Fails-some : (cut : Bool) (L M : List (List ℕ) → Type 0) → ((ws : List (List ℕ)) → 0 < length ws → M ws → L ws) → (ws : List (List ℕ))
    → 0 < length ws → Fails cut L ws → Fails cut M ws
Fails-some false L M f ws some fails = λ m. fails (f ws some m)
Fails-some true L M f ws some fails = λ g. fails (Grows-some M L f ws g)

-- the same where words are left, which need not be so in each line
pub stop_more : {V P : Type 0} {Fits : V → Type 0} {ws : V → List (List ℕ)} {Part : P → Type 0} {part : P → List (List ℕ)} {line : List ℕ} {cut : Bool}
    {pre : List (List ℕ)} {w : Words} {stop : Stop} → IsKind Fits ws → IsAt line cut pre w → IsPartStop Part part w stop → 0 < length (left w)
    → ((x : List (List ℕ)) (v : V) → 0 < length x → Fits v → pre ++ x ≡ ws v → HasPart Part part x)
    → (tail : P → List (List ℕ)) → ((p : P) → Part p → HasWords Fits ws (pre ++ (part p ++ tail p))) → IsLineStop Fits ws cut line stop
stop_more {V} {P} {Fits} {ws} {Part} {part} {line} {cut} {pre} {w} {stop} kind at why some into tail onto =
    stop_at stop kind at
    (λ e.
    Fails-some cut (HasPart Part part) (λ x. HasWords Fits ws (pre ++ x)) (λ x l m. into x m.0 l m.1 m.2) (left w) some
    (subst (λ (c : Bool). Fails c (HasPart Part part) (left w)) at.same (why.bad e))) (part_grows at why tail onto)

-- words are left where each line has ended
pub stop_end : {V : Type 0} {Fits : V → Type 0} {ws : V → List (List ℕ)} {line : List ℕ} {cut : Bool} {pre : List (List ℕ)} {w : Words} {stop : Stop}
    → IsKind Fits ws → IsAt line cut pre w → (stop ≡ Bad) × (0 < length (left w))
    → ((x : List (List ℕ)) (v : V) → Fits v → pre ++ x ≡ ws v → x ≡ []) → IsLineStop Fits ws cut line stop
stop_end {V} {Fits} {ws} {line} {cut} {pre} {w} {stop} kind at why into =
    stop_at stop kind at
    (λ e. Fails-some cut (λ x. ⊥) (λ x. HasWords Fits ws (pre ++ x)) long (left w) why.1 (none cut (left w)))
    (λ e. let is = why.0 in absurd cc)
  where
    long : (x : List (List ℕ)) → 0 < length x → HasWords Fits ws (pre ++ x) → ⊥
    long x some m = let e = ap length (into x m.0 m.1 m.2) in absurd (omega arith)

    nothing : (ws : List (List ℕ)) → Grows (λ x. ⊥) ws → ⊥
    nothing [] g = g
    nothing (p ∷ []) g = g.2
    nothing (p ∷ (q ∷ ws)) g = nothing (q ∷ ws) g

    none : (cut : Bool) (ws : List (List ℕ)) → Fails cut (λ x. ⊥) ws
    none false ws = λ m. m
    none true ws = nothing ws

-- no word is left, so the line spells the value, and is not cut off
pub whole : {V : Type 0} {Fits : V → Type 0} {ws : V → List (List ℕ)} {line : List ℕ} {cut : Bool} {pre : List (List ℕ)} {w : Words} (v : V)
    → IsAt line cut pre w → left w ≡ [] → pre ++ [] ≡ ws v → Fits v → Spells Fits ws line v
whole {V} {Fits} {ws} {line} {cut} {pre} {w} v at none is fits =
    record { is = sym (spaced-words line) ∙ ap spaced (at.is ∙ ap (λ y. pre ++ y) none ∙ is); fits = fits }

pub not_cut : {line : List ℕ} {cut : Bool} {pre : List (List ℕ)} {w : Words} → IsAt line cut pre w → left w ≡ [] → cut ≡ false
not_cut {line} {cut} {pre} {w} at none = by (is_cut w) refl
  where
    by : (b : Bool) → is_cut w ≡ b → cut ≡ false
    by false is = sym at.same ∙ is
    by true is = let some = left_some w is in let e = ap length none in absurd (omega arith)

pub none_is : (ls : List (List ℕ)) → no_words ls ≡ true → ls ≡ []
none_is [] e = refl
none_is (l ∷ ls) e = absurd (never e)

pub some_is : (ls : List (List ℕ)) → no_words ls ≡ false → 0 < length ls
some_is [] e = absurd (never (sym e))
some_is (l ∷ ls) e = omega arith

-- words with a space after each, then words with one space between them
pub spaced-tailed : (ws tail : List (List ℕ)) → 0 < length tail → spaced (ws ++ tail) ≡ tailed ws ++ spaced tail
spaced-tailed [] tail some = refl
spaced-tailed (w ∷ ws) tail some =
    first_spaced w (ws ++ tail) (longer ws tail some) ∙ ap (λ y. w ++ 32 ∷ y) (spaced-tailed ws tail some)
    ∙ sym (append_assoc w (32 ∷ tailed ws) (spaced tail)) ∙ ap (λ y. y ++ spaced tail) (sym (append_assoc w (32 ∷ []) (tailed ws)))
  where
    longer : (a b : List (List ℕ)) → 0 < length b → 0 < length (a ++ b)
    longer [] b s = s
    longer (x ∷ a) b s = omega arith
