-- What the lanes of words show.
use Rattle.std.proofs.Common.{◌≡◌, ℕ, ◌+◌, ◌<◌, Bool, true, false, not, List, [], ◌∷◌, ◌++◌, length, Some, refl, ap, ◌∙◌, arith, below_more}
use Rattle.std.specs.Prelude.{◌&&◌, ◌||◌, slice_get, option_map}
use Rattle.std.proofs.lemmas.List.{map-append, get_or_push, get_or_append_left}
use Rattle.std.proofs.lemmas.Option.{slice_get-map}
use Rattle.net_model.specs.Cycles.{bit_at}
use Rattle.net_model.specs.LaneBits.{lane, lane_row}
use Rattle.net_model.specs.declared.lane_words.Lanes.{Lanes}
use Rattle.net_sim.proofs.LaneSettling.{length-lane_row}
use Rattle.drawn_runs.specs.LaneSteps.{controlled}

-- a lane as a function of words
abbrev pub lane_at : ℕ → Lanes → Bool
lane_at i w = lane w i

-- how the controls choose
pub controlled_bits : (clear preset stated next : Bool) → ((preset && (stated || not clear)) || (next && not clear)) ≡ controlled clear preset stated next
controlled_bits true true true true = refl
controlled_bits true true true false = refl
controlled_bits true true false true = refl
controlled_bits true true false false = refl
controlled_bits true false stated true = refl
controlled_bits true false stated false = refl
controlled_bits false true true next = refl
controlled_bits false true false next = refl
controlled_bits false false stated true = refl
controlled_bits false false stated false = refl

-- the word at a place shows its lane there
pub row_place : (i : ℕ) (words : List Lanes) (n : ℕ) (w : Lanes) → slice_get words n ≡ Some w → slice_get (lane_row i words) n ≡ Some (lane w i)
row_place i words n w at = slice_get-map (lane_at i) words n ∙ ap (option_map (lane_at i)) at

-- one more bit
bits_pushed : (bits : List Bool) (b : Bool) (f : ℕ → Bool) (r : ℕ) → length bits ≡ r → b ≡ f r → ((q : ℕ) → q < r → bit_at bits q ≡ f q)
    → (q : ℕ) → q < r + 1 → bit_at (bits ++ b ∷ []) q ≡ f q
bits_pushed bits b f r count is done =
    below_more (λ q. bit_at (bits ++ b ∷ []) q ≡ f q) r
    (λ q lt. get_or_append_left bits (b ∷ []) false q (omega (arith, count)) ∙ done q lt)
    (get_or_push bits b false r count ∙ is)

-- one more word
pub lanes_pushed : (i : ℕ) (words : List Lanes) (w : Lanes) (f : ℕ → Bool) (r : ℕ) → length words ≡ r → lane w i ≡ f r
    → ((q : ℕ) → q < r → bit_at (lane_row i words) q ≡ f q) → (q : ℕ) → q < r + 1 → bit_at (lane_row i (words ++ w ∷ [])) q ≡ f q
lanes_pushed i words w f r count is done q lt =
    ap (λ (row : List Bool). bit_at row q) (map-append (lane_at i) words (w ∷ []))
    ∙ bits_pushed (lane_row i words) (lane w i) f r (length-lane_row i words ∙ count) is done q lt

-- one more item
pub length_pushed : {X : Type 0} (xs : List X) (x : X) → length (xs ++ x ∷ []) ≡ length xs + 1
length_pushed [] x = refl
length_pushed (y ∷ xs) x = omega (arith, length_pushed xs x)
