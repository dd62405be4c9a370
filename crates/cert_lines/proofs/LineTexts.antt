-- Lines with their newlines, in bytes.
use Rattle.std.proofs.Common.{inl, inr, ◌⊎◌, ◌≡◌, ◌≢◌, ℕ, zero, suc, ◌+◌, ◌<◌, ◌≤◌, ◌==◌, nat_lt, Bool, true, false, not, cond, List, []}
use Rattle.std.proofs.Common.{◌∷◌, ◌++◌, length, take, drop, refl, sym, ap, ◌∙◌, subst, append_assoc, append-nil, arith, length-append}
use Rattle.std.specs.List.{prefix_len, list_all}
use Rattle.std.proofs.lemmas.Bool.{and_parts, not-true, eqb-true}
use Rattle.std.proofs.Math.Dec.{eqb}
use Rattle.std.proofs.lemmas.Bool.Decides.{nat_tests}
use Rattle.std.proofs.lemmas.List.{append_cancel_left}
use Rattle.std.proofs.lemmas.List.Sums.{prefix_len-le-length}
use Rattle.cert_words.specs.declared.stops.Stop.{Stop}
use Rattle.cert_words.specs.declared.stops.Stop.TheVariants.{Bad, Early, Memory}
use Rattle.cert_words.specs.Words.{spaced}
use Rattle.cert_words.specs.Lines.{Spells, Begins, IsLineStop}
use Rattle.cert_words.proofs.Tokens.{is_token}
use Rattle.cert_words.proofs.LineLemmas.{IsKind, words_of}
use Rattle.cert_lines.specs.Kinds.{text_of}
use Rattle.cert_lines.specs.Texts.{is_inline, IsWhole, IsOneLine, Sticks, IsFault}
use Rattle.cert_lines.specs.Places.{IsCutAt, IsNextLine, fault_of}
use Rattle.cert_lines.proofs.Leading.{fronts, Tells}

-- how many bytes come before the first newline
abbrev pub line_len : List ℕ → ℕ
line_len s = prefix_len (λ b. not (b == 10)) s

inline_append : (a b : List ℕ) → is_inline a ≡ true → is_inline b ≡ true → is_inline (a ++ b) ≡ true
inline_append [] b ia ib = ib
inline_append (x ∷ a) b ia ib = let (here, more) = and_parts (not (x == 10)) (is_inline a) ia in rw (here, inline_append a b more ib) refl

-- the first line is told by its newline
pub newline_same : (a b x y : List ℕ) → is_inline a ≡ true → is_inline b ≡ true → a ++ 10 ∷ x ≡ b ++ 10 ∷ y → (a ≡ b) × (x ≡ y)
newline_same [] [] x y ia ib e = (refl, cc)
newline_same [] (k ∷ b) x y ia ib e =
    let first : k ≡ 10 = cc in
    let (here, more) = and_parts _ _ ib in
    let differs : (k == 10) ≡ false = not-true _ here in
    absurd (grind (arith, nat_tests))
newline_same (h ∷ a) [] x y ia ib e =
    let first : h ≡ 10 = cc in
    let (here, more) = and_parts _ _ ia in
    let differs : (h == 10) ≡ false = not-true _ here in
    absurd (grind (arith, nat_tests))
newline_same (h ∷ a) (k ∷ b) x y ia ib e =
    let first : h ≡ k = cc in
    let tails : a ++ 10 ∷ x ≡ b ++ 10 ∷ y = cc in
    let (is, rest) = newline_same a b x y (and_parts _ _ ia).1 (and_parts _ _ ib).1 tails in
    (cc, rest)

-- no line has a newline in it
pub no_newline : (a b x : List ℕ) → is_inline a ≡ true → a ≢ b ++ 10 ∷ x
no_newline [] [] x ia e = cc
no_newline [] (k ∷ b) x ia e = cc
no_newline (h ∷ a) [] x ia e =
    let first : h ≡ 10 = cc in
    let (here, more) = and_parts _ _ ia in
    let differs : (h == 10) ≡ false = not-true _ here in
    absurd (grind (arith, nat_tests))
no_newline (h ∷ a) (k ∷ b) x ia e = let tails : a ≡ b ++ 10 ∷ x = cc in no_newline a b x (and_parts _ _ ia).1 tails

-- a text is its first line, then a newline and others, or nothing
record IsCut (s : List ℕ) : Type 0 where
  pub plain : is_inline (take (line_len s) s) ≡ true
  pub more : line_len s < length s → s ≡ take (line_len s) s ++ 10 ∷ drop (line_len s + 1) s
  pub all : line_len s ≡ length s → take (line_len s) s ≡ s

cut_by : (v : Bool) (b : ℕ) (bs : List ℕ) → (b == 10) ≡ v → IsCut bs
    → (is_inline (take (cond (not v) (1 + line_len bs) 0) (b ∷ bs)) ≡ true)
    ×
    (cond (not v) (1 + line_len bs) 0 < suc (length bs)
    → b ∷ bs ≡ take (cond (not v) (1 + line_len bs) 0) (b ∷ bs) ++ 10 ∷ drop (cond (not v) (1 + line_len bs) 0 + 1) (b ∷ bs))
    × (cond (not v) (1 + line_len bs) 0 ≡ suc (length bs) → take (cond (not v) (1 + line_len bs) 0) (b ∷ bs) ≡ b ∷ bs)
cut_by true b bs is c = (refl, λ less. let first : b ≡ 10 = grind (arith, nat_tests) in ap (λ x. x ∷ bs) first, λ e. absurd (omega arith))
cut_by false b bs is c =
    let len : 1 + line_len bs ≡ suc (line_len bs) = omega arith in
    let here : not (b == 10) ≡ true = ap not is in
    let next : suc (line_len bs) + 1 ≡ suc (line_len bs + 1) = omega arith in
    (rw (len, here, c.plain) refl, λ less. rw (len, next) (ap (λ x. b ∷ x) (c.more (omega arith))), λ e. rw len (ap (λ x. b ∷ x) (c.all (omega arith))))

cut_line : (s : List ℕ) → IsCut s
cut_line [] = record { plain = refl; more = λ less. absurd (omega arith); all = λ e. refl }
cut_line (b ∷ bs) = let p = cut_by (b == 10) b bs refl (cut_line bs) in record { plain = p.0; more = p.1; all = p.2 }

take_len : (n : ℕ) (s : List ℕ) → n ≤ length s → length (take n s) ≡ n
take_len zero s le = refl
take_len (suc n) [] le = absurd (omega arith)
take_len (suc n) (x ∷ s) le = ap suc (take_len n s (omega arith))

cut_at : (v : Bool) (s : List ℕ) (len : ℕ) → eqb len (length s) ≡ v → len ≡ line_len s → len ≤ length s → IsCutAt s (take len s) v
cut_at true s len whole is within =
    let c = cut_line s in
    let all : len ≡ length s = eqb-true len (length s) whole in
    sym (rw is (c.all (sym is ∙ all)))
cut_at false s len whole is within =
    let c = cut_line s in
    let less : len < length s = grind (arith, nat_tests) in
    let long : length (take len s) ≡ len = take_len len s within in
    let cut : s ≡ take len s ++ 10 ∷ drop (len + 1) s = rw is (c.more (subst (λ (n : ℕ). n < length s) is less)) in
    rw long cut

pub next_line_is : (s : List ℕ) (len place at end : ℕ) → len ≡ line_len s → len ≤ length s → at ≡ place → end ≡ place + length s
    → IsNextLine s place (take len s) (eqb len (length s)) at end
next_line_is s len place at end is within same last = record {
  plain = rw is (cut_line s).plain;
  is = cut_at (eqb len (length s)) s len refl is within;
  stands = same;
  ends = last;
}

-- the lines of a kind have no newline in them
pub token_inline : (w : List ℕ) → is_token w ≡ true → is_inline w ≡ true
token_inline [] all = refl
token_inline (b ∷ w) all =
    let (first, more) = and_parts (nat_lt 32 b) (is_token w) all in
    let here : not (b == 10) ≡ true = grind (arith, nat_tests) in
    rw (here, token_inline w more) refl

spaced_inline : (ws : List (List ℕ)) → list_all is_token ws ≡ true → is_inline (spaced ws) ≡ true
unfolding spaced
spaced_inline [] all = refl
spaced_inline (w ∷ []) all = token_inline w (and_parts _ _ all).0
spaced_inline (w ∷ (v ∷ ws)) all =
    let (here, more) = and_parts _ _ all in inline_append w (32 ∷ spaced (v ∷ ws)) (token_inline w here) (spaced_inline (v ∷ ws) more)

line_inline : {V : Type 0} (Fits : V → Type 0) (ws : V → List (List ℕ)) → IsKind Fits ws → (v : V) → Fits v → is_inline (spaced (ws v)) ≡ true
line_inline Fits ws kind v fits = spaced_inline (ws v) (kind.plain v fits)

-- a line that is that of two values
one_value : {V : Type 0} (Fits : V → Type 0) (ws : V → List (List ℕ)) → IsKind Fits ws → (v u : V) → Fits v → Fits u → spaced (ws v) ≡ spaced (ws u) → v ≡ u
one_value Fits ws kind v u fv fu e =
    kind.told v u fv fu
    (sym (words_of Fits ws kind (spaced (ws v)) v (record { is = refl; fits = fv }))
    ∙ words_of Fits ws kind (spaced (ws v)) u (record { is = e; fits = fu }))

newline_front : (a x : List ℕ) → (a ++ 10 ∷ []) ++ x ≡ a ++ 10 ∷ x
newline_front a x = append_assoc a (10 ∷ []) x

pub line_tells : {V : Type 0} (Fits : V → Type 0) (ws : V → List (List ℕ)) → IsKind Fits ws → Tells Fits (text_of ws)
line_tells Fits ws kind v u fv fu x y e =
    let both : spaced (ws v) ++ 10 ∷ x ≡ spaced (ws u) ++ 10 ∷ y = sym (newline_front (spaced (ws v)) x) ∙ e ∙ newline_front (spaced (ws u)) y in
    one_value Fits ws kind v u fv fu (newline_same (spaced (ws v)) (spaced (ws u)) x y (line_inline Fits ws kind v fv) (line_inline Fits ws kind u fu) both).0

pub line_whole : {V : Type 0} (ws : V → List (List ℕ)) (v : V) → IsWhole (text_of ws v)
line_whole ws v = inr (spaced (ws v), refl)

-- a whole line that is none of the kind
whole_sticks : {V : Type 0} (Fits : V → Type 0) (ws : V → List (List ℕ)) → IsKind Fits ws → (v0 : V) → Fits v0
    → (line rest bytes : List ℕ) → is_inline line ≡ true → bytes ≡ line ++ 10 ∷ rest → ((v : V) → ¬ Spells Fits ws line v) → Sticks Fits (text_of ws) bytes 0
whole_sticks Fits ws kind v0 f0 line rest bytes plain is fails = record {
  none = λ v fv tail e.
      let both : line ++ 10 ∷ rest ≡ spaced (ws v) ++ 10 ∷ tail = sym is ∙ e ∙ newline_front (spaced (ws v)) tail in
      fails v (record { is = (newline_same line (spaced (ws v)) rest tail plain (line_inline Fits ws kind v fv) both).0; fits = fv });
  stops = inl (record {
    front = [];
    line = line ++ 10 ∷ [];
    rest = rest;
    cut = is ∙ sym (newline_front line rest);
    place = refl;
    whole = inl refl;
    one = inl (line, plain, refl);
    begins = (text_of ws v0, v0, f0, refl);
    breaks = λ b.
        let both : line ++ 10 ∷ b.0 ≡ spaced (ws b.1) ++ 10 ∷ [] = sym (newline_front line b.0) ∙ b.3 in
        fails b.1 (record { is = (newline_same line (spaced (ws b.1)) b.0 [] plain (line_inline Fits ws kind b.1 b.2) both).0; fits = b.2 });
  });
}

cut_begins : {V : Type 0} (Fits : V → Type 0) (ws : V → List (List ℕ)) (line more : List ℕ) (v : V) → Fits v → is_inline line ≡ true
    → line ++ more ≡ text_of ws v → Begins Fits ws line
cut_begins Fits ws line more v fits plain e = by (fronts line (spaced (ws v)) more (10 ∷ []) e)
  where
    ended : (r : List ℕ) → line ≡ spaced (ws v) ++ r → r ++ more ≡ 10 ∷ [] → Begins Fits ws line
    ended [] is t = record { more = []; value = v; spells = record { is = append-nil line ∙ is ∙ append-nil (spaced (ws v)); fits = fits } }
    ended (c ∷ r) is t = let first : c ≡ 10 = cc in absurd (no_newline line (spaced (ws v)) r plain (is ∙ ap (λ z. spaced (ws v) ++ z ∷ r) first))

    by : ((r : List ℕ) × (line ≡ spaced (ws v) ++ r)) ⊎ ((r : List ℕ) × (spaced (ws v) ≡ line ++ r)) → Begins Fits ws line
    by (inr f) = record { more = f.0; value = v; spells = record { is = sym f.1; fits = fits } }
    by (inl f) =
        let both : spaced (ws v) ++ (f.0 ++ more) ≡ spaced (ws v) ++ 10 ∷ [] =
        sym (append_assoc (spaced (ws v)) f.0 more) ∙ ap (λ z. z ++ more) (sym f.1) ∙ e in
        ended f.0 f.1 (append_cancel_left (spaced (ws v)) (f.0 ++ more) (10 ∷ []) both)

cut_none : {V : Type 0} (ws : V → List (List ℕ)) (line : List ℕ) → is_inline line ≡ true → (v : V) (tail : List ℕ) → line ≢ text_of ws v ++ tail
cut_none ws line plain v tail e = no_newline line (spaced (ws v)) tail plain (e ∙ newline_front (spaced (ws v)) tail)

some_bytes : {V : Type 0} (Fits : V → Type 0) (ws : V → List (List ℕ)) (v0 : V) → Fits v0 → (line : List ℕ) → (Begins Fits ws line → ⊥) → 0 < length line
some_bytes Fits ws v0 f0 [] fails = absurd (fails (record { more = spaced (ws v0); value = v0; spells = record { is = refl; fits = f0 } }))
some_bytes Fits ws v0 f0 (b ∷ line) fails = omega arith

-- a line that is cut off and can't become one of the kind
cut_sticks : {V : Type 0} (Fits : V → Type 0) (ws : V → List (List ℕ)) (v0 : V) → Fits v0 → (line : List ℕ) → is_inline line ≡ true
    → (Begins Fits ws line → ⊥) → Sticks Fits (text_of ws) line 0
cut_sticks Fits ws v0 f0 line plain fails = record {
  none = λ v fv tail e. cut_none ws line plain v tail e;
  stops = inl (record {
    front = [];
    line = line;
    rest = [];
    cut = sym (append-nil line);
    place = refl;
    whole = inl refl;
    one = inr (plain, some_bytes Fits ws v0 f0 line fails, refl);
    begins = (text_of ws v0, v0, f0, refl);
    breaks = λ b. fails (cut_begins Fits ws line b.0 b.1 b.2 plain b.3);
  });
}

-- one that can
early_sticks : {V : Type 0} (Fits : V → Type 0) (ws : V → List (List ℕ)) (line : List ℕ) → is_inline line ≡ true → Begins Fits ws line
    → Sticks Fits (text_of ws) line (length line)
early_sticks Fits ws line plain b = record {
  none = λ v fv tail e. cut_none ws line plain v tail e;
  stops = inr (refl, (b.more ++ 10 ∷ [], b.value, b.spells.fits, sym (append_assoc line b.more (10 ∷ [])) ∙ ap (λ z. z ++ 10 ∷ []) b.spells.is));
}

-- what was read of a line
pub record IsRead {V : Type 0} (Fits : V → Type 0) (ws : V → List (List ℕ)) (bytes : List ℕ) (len : ℕ) (v : V) : Type 0 where
  pub fits : Fits v
  pub some : len + 1 ≤ length bytes
  pub is : bytes ≡ text_of ws v ++ drop (len + 1) bytes

cut_is : (bytes line : List ℕ) (cut : Bool) → cut ≡ false → IsCutAt bytes line cut → bytes ≡ line ++ 10 ∷ drop (length line + 1) bytes
cut_is bytes line false none is = is
cut_is bytes line true none is = absurd cc

pub line_read : {V : Type 0} (Fits : V → Type 0) (ws : V → List (List ℕ)) (bytes line : List ℕ) (place at end : ℕ) (cut : Bool) (v : V)
    → IsNextLine bytes place line cut at end → cut ≡ false → Spells Fits ws line v → IsRead Fits ws bytes (length line) v
line_read Fits ws bytes line place at end cut v next whole spells =
    let is = cut_is bytes line cut whole next.is in
    let long : length bytes ≡ length line + suc (length (drop (length line + 1) bytes)) =
    ap length is ∙ length-append line (10 ∷ drop (length line + 1) bytes) in
    record {
      fits = spells.fits;
      some = omega arith;
      is = is ∙ ap (λ z. z ++ 10 ∷ drop (length line + 1) bytes) spells.is ∙ sym (newline_front (spaced (ws v)) (drop (length line + 1) bytes));
    }

bad_by : {V : Type 0} (Fits : V → Type 0) (ws : V → List (List ℕ)) → IsKind Fits ws → (v0 : V) → Fits v0 → (bytes line : List ℕ) (cut : Bool)
    → is_inline line ≡ true → IsCutAt bytes line cut → IsLineStop Fits ws cut line Bad → Sticks Fits (text_of ws) bytes 0
bad_by Fits ws kind v0 f0 bytes line true plain is fails =
    subst (λ (b : List ℕ). Sticks Fits (text_of ws) b 0) (sym is) (cut_sticks Fits ws v0 f0 line plain fails)
bad_by Fits ws kind v0 f0 bytes line false plain is fails = whole_sticks Fits ws kind v0 f0 line (drop (length line + 1) bytes) bytes plain is fails

early_by : {V : Type 0} (Fits : V → Type 0) (ws : V → List (List ℕ)) (bytes line : List ℕ) (cut : Bool) → is_inline line ≡ true
    → IsCutAt bytes line cut → IsLineStop Fits ws cut line Early → Sticks Fits (text_of ws) bytes (length bytes)
early_by Fits ws bytes line true plain is e = subst (λ (b : List ℕ). Sticks Fits (text_of ws) b (length b)) (sym is) (early_sticks Fits ws line plain e.1)
early_by Fits ws bytes line false plain is e = let never = e.0 in absurd cc

-- what a reader of a line says, where the line stands
pub line_fault : {V : Type 0} (Fits : V → Type 0) (ws : V → List (List ℕ)) → IsKind Fits ws → (v0 : V) → Fits v0
    → (bytes line : List ℕ) (place at end : ℕ) (cut : Bool) → IsNextLine bytes place line cut at end → (stop : Stop)
    → IsLineStop Fits ws cut line stop → IsFault Fits (text_of ws) bytes place (fault_of at end stop)
line_fault Fits ws kind v0 f0 bytes line place at end cut next Bad fails =
    let same = next.stands in (0, omega arith, bad_by Fits ws kind v0 f0 bytes line cut next.plain next.is fails)
line_fault Fits ws kind v0 f0 bytes line place at end cut next Early e = (length bytes, next.ends, early_by Fits ws bytes line cut next.plain next.is e)
line_fault Fits ws kind v0 f0 bytes line place at end cut next Memory m = tt

-- the first line of bytes, and those after it
pub record IsLineOf (bytes : List ℕ) : Type 0 where
  pub line : List ℕ
  pub rest : List ℕ
  pub is : bytes ≡ line ++ rest
  pub one : IsOneLine line rest
  pub some : 0 < length line

newline_some : (a : List ℕ) → 0 < length (a ++ 10 ∷ [])
newline_some [] = omega arith
newline_some (x ∷ a) = omega arith

line_by : (v : Bool) (s : List ℕ) → eqb (line_len s) (length s) ≡ v → 0 < length s → IsLineOf s
line_by true s whole some =
    let c = cut_line s in
    let all : line_len s ≡ length s = eqb-true (line_len s) (length s) whole in
    let same : take (line_len s) s ≡ s = c.all all in
    record { line = s; rest = []; is = sym (append-nil s); one = inr (subst (λ (z : List ℕ). is_inline z ≡ true) same c.plain, some, refl); some = some }
line_by false s whole some =
    let c = cut_line s in
    let within = prefix_len-le-length (λ b. not (b == 10)) s in
    let less : line_len s < length s = grind (arith, nat_tests) in
    let body = take (line_len s) s in
    record {
      line = body ++ 10 ∷ [];
      rest = drop (line_len s + 1) s;
      is = c.more less ∙ sym (newline_front body (drop (line_len s + 1) s));
      one = inl (body, c.plain, refl);
      some = newline_some body;
    }

pub line_of : (s : List ℕ) → 0 < length s → IsLineOf s
line_of s some = line_by (eqb (line_len s) (length s)) s refl some
