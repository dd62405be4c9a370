-- Where a text ends: after whole lines and a front of a line.
use Rattle.std.proofs.Common.{◌≡◌, ◌∙◌, ◌==◌, ◌+◌, ap, arith, sym, subst, refl, inl, inr, true, false, Bool, ℕ, List, [], ◌∷◌, ◌++◌, length, take, append_assoc, if◌then◌else◌}
use Rattle.std.specs.Prelude.{fold}
use Rattle.std.proofs.lemmas.Grind.{common_steps}
use Rattle.std.proofs.lemmas.Bool.Decides.{nat_tests}
use Rattle.refusal_words.specs.declared.places.Place.{Place}
use Rattle.refusal_words.specs.Places.{AreLines, IsPlace, ends, next_place, place_of}

record IsAfter (text : List ℕ) (place : Place) : Type 0 where
  lines : List ℕ
  here : List ℕ
  parts : text ≡ lines ++ here
  whole : AreLines lines
  one : ends here ≡ 0
  line : place.line ≡ ends lines + 1
  column : place.column ≡ length here + 1

no_more : (xs : List ℕ) → xs ++ [] ≡ xs
no_more xs = grind (arith, common_steps)

ends-append : (xs ys : List ℕ) → ends (xs ++ ys) ≡ ends xs + ends ys
ends-append xs ys = grind (arith, common_steps)

ends-lines : (xs lines here : List ℕ) → xs ≡ lines ++ here → ends here ≡ 0 → ends (xs ++ 10 ∷ []) ≡ ends lines + 1
ends-lines xs lines here parts one = grind (arith, common_steps, ends-append)

ends-here : (here : List ℕ) (b : ℕ) → ends here ≡ 0 → (b == 10) ≡ false → ends (here ++ b ∷ []) ≡ 0
ends-here here b one other = grind (arith, common_steps, ends-append, nat_tests)

after_byte : (xs : List ℕ) (p : Place) (b : ℕ) → IsAfter xs p → IsAfter (xs ++ b ∷ []) (next_place p b)
after_byte xs p b h = go (b == 10) refl
  where
    go : (t : Bool) → (b == 10) ≡ t
        → IsAfter (xs ++ b ∷ []) (if t then record { line = p.line + 1; column = 1 } else record { line = p.line; column = p.column + 1 })
    go true e = record {
      lines = xs ++ 10 ∷ [];
      here = [];
      parts = grind (arith, common_steps, nat_tests);
      whole = inr (xs, refl);
      one = refl;
      line = let parts = h.parts in let one = h.one in let line = h.line in grind (arith, ends-lines xs h.lines h.here h.parts h.one);
      column = refl;
    }
    go false e = record {
      lines = h.lines;
      here = h.here ++ b ∷ [];
      parts = ap (λ ys. ys ++ b ∷ []) h.parts ∙ append_assoc h.lines h.here (b ∷ []);
      whole = h.whole;
      one = ends-here h.here b h.one e;
      line = h.line;
      column = let column = h.column in grind (arith, common_steps);
    }

after_text : (xs s : List ℕ) (p : Place) → IsAfter xs p → IsAfter (xs ++ s) (fold next_place p s)
after_text xs [] p h = subst (λ t. IsAfter t p) (sym (no_more xs)) h
after_text xs (b ∷ s) p h =
    subst (λ t. IsAfter t (fold next_place (next_place p b) s)) (append_assoc xs (b ∷ []) s) (after_text (xs ++ b ∷ []) s (next_place p b) (after_byte xs p b h))

-- each offset of a text has a place
pub is_place : (text : List ℕ) (offset : ℕ) → IsPlace text offset (place_of text offset)
is_place text offset =
    let all = after_text [] (take offset text) (record { line = 1; column = 1 }) (record {
      lines = [];
      here = [];
      parts = refl;
      whole = inl refl;
      one = refl;
      line = refl;
      column = refl;
    }) in
    record {
      lines = all.lines;
      here = all.here;
      passed = all.parts;
      whole = all.whole;
      one = all.one;
      line = all.line;
      column = all.column;
    }
