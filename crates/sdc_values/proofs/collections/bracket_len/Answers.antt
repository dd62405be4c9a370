use Rattle.std.proofs.Common.{◌≡◌, ◌∙◌, ℕ, zero, suc, ◌+◌, ◌<◌, ◌≤◌, List, [], ◌∷◌, length, get_or, drop, Some, None, refl, sym, ap, arith}
use Rattle.std.proofs.lemmas.List.{drop_all, drop_more, at_drop_all}
use Rattle.sdc_words.specs.declared.words.Word.{Word}
use Rattle.sdc_words.specs.declared.words.Word.TheVariants as word
use Rattle.sdc_values.specs.Collections.{depth_after, after_bracket}
use Rattle.sdc_values.proofs.collections.bracket_len.Goals as goal

module _ (ws : List Word) (i n : ℕ) (w : Word) (here : i < length ws) (is : w ≡ get_or ws i w) where
  from_here : drop i ws ≡ w ∷ drop (i + 1) ws
  from_here = drop_more ws i w here ∙ ap (λ (v : Word). v ∷ drop (i + 1) ws) (sym is)

  -- the bracket goes on after a word
  goes_on : (m : ℕ) → depth_after w n ≡ Some m → after_bracket n (drop i ws) ≡ after_bracket m (drop (i + 1) ws)
  unfolding after_bracket
  goes_on m e = ap (after_bracket n) from_here ∙ rw (e, after_bracket) refl

  -- it ends with a word
  ends_here : depth_after w n ≡ None → after_bracket n (drop i ws) ≡ drop (i + 1) ws
  unfolding after_bracket
  ends_here e = ap (after_bracket n) from_here ∙ rw (e, after_bracket) refl

-- nothing is left
nothing : (n : ℕ) → after_bracket n [] ≡ []
unfolding after_bracket
nothing n = refl

-- a word opens one bracket at most
opens_one : (w : Word) (n m : ℕ) → depth_after w n ≡ Some m → m ≤ n + 1
opens_one (word.Text offset pieces) n m e = let same : n ≡ m = cc in omega arith
opens_one (word.Opens offset) n m e = let same : n + 1 ≡ m = cc in omega arith
opens_one word.Closes zero m e = absurd cc
opens_one word.Closes (suc n) m e = let same : n ≡ m = cc in omega arith

pub returns-in-None-clause-value : goal.returns-in-None-clause-value
returns-in-None-clause-value c =
    let ends = sym c.depth_after.ensures ∙ c.in-None.is in
    sym (c.loop-place.invariant.1
    ∙ ends_here c.args.words.now c.loop-place.place c.loop-place.depth c.index-words-place.result (omega arith) c.index-words-place.is ends)

pub loop-place-preserved : goal.loop-place-preserved
loop-place-preserved c =
    let more = sym c.depth_after.ensures ∙ c.in-Some.is in
    let (few, told) = c.loop-place.invariant in
    let one = opens_one c.index-words-place.result c.loop-place.depth c.in-Some.more more in (
      omega arith,
      told ∙ goes_on c.args.words.now c.loop-place.place c.loop-place.depth c.index-words-place.result (omega arith) c.index-words-place.is
          c.in-Some.more more,
    )

pub returns-clause-value : goal.returns-clause-value
returns-clause-value c =
    let ws : List Word = c.args.words.now in
    drop_all (length ws) ws (omega arith)
    ∙ sym (c.loop-place.invariant.1 ∙ at_drop_all (after_bracket c.loop-place.depth) ws c.loop-place.place (omega arith) ∙ nothing c.loop-place.depth)
