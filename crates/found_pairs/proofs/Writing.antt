-- The text of one pair, and that of the first pairs with one pair more.
use Rattle.std.proofs.Common.{◌≡◌, ◌∙◌, ℕ, ◌+◌, Bool, true, false, cond, List, [], ◌∷◌, ◌++◌, take, map, sym, ap, append-nil, append_assoc}
use Rattle.std.specs.Prelude.{Some, slice_get, filter}
use Rattle.std.proofs.lemmas.List.{map-append}
use Rattle.std.proofs.lemmas.List.Elements.{filter-append}
use Rattle.std.proofs.lemmas.Grind.{flat_map-append}
use Rattle.mcp_detect.specs.declared.detections.Tried.{Tried}
use Rattle.multicycle_text.specs.Lines.{FoundLine, Setup, Hold, line_text, lines_text}
use Rattle.list_laws.proofs.Joining.{take_next}
use Rattle.found_pairs.specs.Lines.{is_written, line_of, lines_of, lines_with, all_lines}

-- the lines of one list of pairs after another
lines_of-append : (hold : Bool) (xs ys : List Tried)
    → lines_text (all_lines hold (lines_of (xs ++ ys))) ≡ lines_text (all_lines hold (lines_of xs)) ++ lines_text (all_lines hold (lines_of ys))
lines_of-append hold xs ys =
    ap (λ (ts : List Tried). lines_text (all_lines hold (map line_of ts))) (filter-append is_written xs ys)
    ∙ ap (λ (found : List FoundLine). lines_text (all_lines hold found)) (map-append line_of (filter is_written xs) (filter is_written ys))
    ∙ ap lines_text (flat_map-append (lines_with hold) (lines_of xs) (lines_of ys))
    ∙ flat_map-append line_text (all_lines hold (lines_of xs)) (all_lines hold (lines_of ys))

-- the next pair comes after them
pub lines_next : (hold : Bool) (tried : List Tried) (i : ℕ) (t : Tried) → slice_get tried i ≡ Some t
    → lines_text (all_lines hold (lines_of (take (i + 1) tried)))
    ≡ lines_text (all_lines hold (lines_of (take i tried))) ++ lines_text (all_lines hold (lines_of (t ∷ [])))
lines_next hold tried i t here =
    ap (λ (ts : List Tried). lines_text (all_lines hold (lines_of ts))) (take_next tried i t here) ∙ lines_of-append hold (take i tried) (t ∷ [])

-- those of one pair that is written
pub lines_alone : (hold : Bool) (t : Tried) → is_written t ≡ true
    → lines_text (all_lines hold (lines_of (t ∷ []))) ≡ lines_text (lines_with hold (line_of t))
lines_alone hold t is =
    ap (λ (b : Bool). lines_text (all_lines hold (map line_of (cond b (t ∷ []) [])))) is
    ∙ ap lines_text (append-nil (lines_with hold (line_of t)))

module _ (x : FoundLine) (old : List ℕ) (hold : Bool) where
  -- the line of a pair without its hold line
  pub line_added : (new : List ℕ) → hold ≡ false → new ≡ old ++ line_text (Setup x) → new ≡ old ++ lines_text (lines_with hold x)
  line_added new is at_new =
      at_new ∙ sym (ap (λ (b : Bool). old ++ lines_text (lines_with b x)) is ∙ ap (λ (s : List ℕ). old ++ s) (append-nil (line_text (Setup x))))

  -- and with it
  pub lines_added : (one new : List ℕ) → hold ≡ true → one ≡ old ++ line_text (Setup x) → new ≡ one ++ line_text (Hold x)
      → new ≡ old ++ lines_text (lines_with hold x)
  lines_added one new is at_one at_new =
      at_new ∙ ap (λ (s : List ℕ). s ++ line_text (Hold x)) at_one ∙ append_assoc old (line_text (Setup x)) (line_text (Hold x))
      ∙ sym (ap (λ (b : Bool). old ++ lines_text (lines_with b x)) is
      ∙ ap (λ (s : List ℕ). old ++ (line_text (Setup x) ++ s)) (append-nil (line_text (Hold x))))
