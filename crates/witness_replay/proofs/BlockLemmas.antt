-- How the blocks of stimuli begin and go on.
use Rattle.std.proofs.Common.{◌≡◌, ◌≢◌, ℕ, ◌+◌, ◌-◌, ◌<◌, ◌≤◌, ◌^◌, Bool, true, false, cond, List, [], ◌∷◌, ◌++◌, length, map, replicate, refl, sym}
use Rattle.std.proofs.Common.{ap, ◌∙◌, append_assoc, append-nil, arith, length-append}
use Rattle.std.specs.Prelude.{codes}
use Rattle.std.specs.Fmt.{decimal}
use Rattle.std.proofs.lemmas.Fmt.{decimal_injective}
use Rattle.std.proofs.lemmas.List.{append_cancel_left, length-replicate, length-map}
use Rattle.net_model.specs.declared.cycles.Stimulus.{Stimulus}
use Rattle.witness_replay.specs.StimulusTexts.{digits_of, title_of, head_of, input_line, block_lines}
use Rattle.witness_replay.specs.Blocks.{lines, begins, from_block, block_in, HasFirstBlock, StartsBlock, IsBrokenAt}
use Rattle.witness_replay.specs.BlockParts.{LacksRow, LackInputs, IsStuck, ReadsBlock}
use Rattle.witness_replay.proofs.LineLemmas.{length-lines}
use Rattle.witness_replay.proofs.DigitLemmas.{row_same}

-- a first line says how many cycles there are
pub head_same : (number m n : ℕ) → m < 2 ^ 64 → n < 2 ^ 64 → head_of number m ≡ head_of number n → m ≡ n
head_same number m n few fits e =
    decimal_injective m n few fits (append_cancel_left (title_of number ++ codes " cycles ") (decimal m) (decimal n) e)

-- rows that come first among input lines
pub rows_first : (all rows : List (List Bool)) (others more : List (List ℕ)) → length rows ≤ length all → map input_line all
    ++ others ≡ map input_line rows ++ more
    → (rest : List (List Bool)) × (all ≡ rows ++ rest) × (more ≡ map input_line rest ++ others)
rows_first all [] others more few e = (all, refl, sym e)
rows_first [] (r ∷ rows) others more few e = absurd (omega arith)
rows_first (a ∷ all) (r ∷ rows) others more few e =
    let first : input_line a ≡ input_line r = cc in
    let tail : map input_line all ++ others ≡ map input_line rows ++ more = cc in
    let same = row_same (codes "input ") a r first in
    let (rest, is, left) = rows_first all rows others more (omega arith) tail in
    (rest, cc, left)

-- the first lines of a block, up to some input lines
abbrev pub first_lines : ℕ → ℕ → List Bool → List (List Bool) → List (List ℕ)
first_lines number count state rows = head_of number count ∷ (codes "state " ++ digits_of state) ∷ map input_line rows

-- what a block with these first lines is
pub record GoesOn (count : ℕ) (state : List Bool) (rows : List (List Bool)) (s : Stimulus) (others more : List (List ℕ)) : Type 0 where
  pub rest : List (List Bool)
  pub count_is : length s.inputs ≡ count
  pub state_is : s.state ≡ state
  pub inputs_are : s.inputs ≡ rows ++ rest
  pub more_is : more ≡ map input_line rest ++ codes "end" ∷ others

pub goes_on : (number count : ℕ) (state : List Bool) (rows : List (List Bool)) (s : Stimulus) (others more : List (List ℕ)) → count < 2 ^ 64
    → length s.inputs < 2 ^ 64 → length rows ≤ count
    → block_lines number s ++ others ≡ first_lines number count state rows ++ more → GoesOn count state rows s others more
goes_on number count state rows s others more few fits within e =
    let first : head_of number (length s.inputs) ≡ head_of number count = cc in
    let second : codes "state " ++ digits_of s.state ≡ codes "state " ++ digits_of state = cc in
    let tail : (map input_line s.inputs ++ codes "end" ∷ []) ++ others ≡ map input_line rows ++ more = cc in
    let count_is = head_same number (length s.inputs) count fits few first in
    let tail' : map input_line s.inputs ++ codes "end" ∷ others ≡ map input_line rows ++ more =
    sym (append_assoc (map input_line s.inputs) (codes "end" ∷ []) others) ∙ tail in
    let (rest, is, left) = rows_first s.inputs rows (codes "end" ∷ others) more (omega arith) tail' in
    record {
      rest = rest;
      count_is = count_is;
      state_is = row_same (codes "state ") s.state state second;
      inputs_are = is;
      more_is = left;
    }

-- a stimulus of so many cycles, with no bits after these rows
abbrev filled : ℕ → List Bool → List (List Bool) → Stimulus
filled count state rows = record { state = state; inputs = rows ++ replicate (count - length rows) [] }

filled_count : (count : ℕ) (state : List Bool) (rows : List (List Bool)) → length rows ≤ count → length (rows ++ replicate (count - length rows) []) ≡ count
filled_count count state rows few =
    let e = length-append rows (replicate (count - length rows) []) in
    let r : length (replicate {A = List Bool} (count - length rows) []) ≡ count - length rows = length-replicate (count - length rows) [] in
    omega arith

map-append : (a b : List (List Bool)) → map input_line (a ++ b) ≡ map input_line a ++ map input_line b
map-append [] b = refl
map-append (x ∷ a) b = let more = map-append a b in cc

-- some block begins with these first lines
pub starts : (number count : ℕ) (state : List Bool) (rows : List (List Bool)) → count < 2 ^ 64 → length rows ≤ count
    → StartsBlock number (first_lines number count state rows)
starts number count state rows fits few =
    let n = filled_count count state rows few in
    let fill : List (List Bool) = replicate (count - length rows) [] in
    let parts : map input_line (rows ++ fill) ++ codes "end" ∷ [] ≡ map input_line rows ++ (map input_line fill ++ codes "end" ∷ []) =
    rw (map-append rows fill) (append_assoc (map input_line rows) (map input_line fill) (codes "end" ∷ [])) in
    let first : head_of number (length (rows ++ fill)) ≡ head_of number count = ap (head_of number) n in
    record {
      s = filled count state rows;
      fits = omega arith;
      others = map input_line fill ++ codes "end" ∷ [];
      is = cc;
    }

-- the first line is missing
pub stuck_head : (number next line : ℕ) (ls : List (List ℕ)) → line ≡ next
    → ((n : ℕ) (others : List (List ℕ)) → n < 2 ^ 64 → ls ≢ head_of number n ∷ others) → IsStuck number ls next line
stuck_head number next line ls place lacks = record {
  good = [];
  rest = ls;
  cut = refl;
  place = omega arith;
  starts = record { s = record { state = []; inputs = [] }; fits = omega arith; others = block_lines number (record { state = []; inputs = [] }); is = refl };
  stops = λ s others more fits e. (_, _, sym e, λ tail same. lacks (length s.inputs) tail fits same);
}

-- the line of the state is missing
pub stuck_state : (number count next line : ℕ) (ls left : List (List ℕ)) → count < 2 ^ 64 → ls ≡ head_of number count ∷ left → line ≡ next + 1
    → LacksRow (codes "state ") left → IsStuck number ls next line
stuck_state number count next line ls left few is place lacks = record {
  good = head_of number count ∷ [];
  rest = left;
  cut = is;
  place = omega arith;
  starts =
      let all = starts number count [] [] few (omega arith) in
      record { s = all.s; fits = all.fits; others = (codes "state " ++ digits_of []) ∷ all.others; is = all.is };
  stops = λ s others more fits e. (
    codes "state " ++ digits_of s.state,
    (map input_line s.inputs ++ codes "end" ∷ []) ++ others,
    cc,
    λ tail same.
        lacks s.state tail same,
  );
}

-- a line of input bits is missing
pub stuck_inputs : (number count next after line : ℕ) (ls left : List (List ℕ)) (state : List Bool) → count < 2 ^ 64 → ls ≡ head_of number count
    ∷ (codes "state " ++ digits_of state) ∷ left → after ≡ next + 2 → LackInputs count left after line → IsStuck number ls next line
stuck_inputs number count next after line ls left state few is two lack = record {
  good = first_lines number count state lack.rows;
  rest = lack.rest;
  cut = let cut = lack.cut in cc;
  place = let n = length-map lack.rows input_line in omega (arith, lack.place);
  starts = starts number count state lack.rows few (omega (arith, lack.few));
  stops = λ s others more fits e. due_input s others more (goes_on number count state lack.rows s others more few fits (omega (arith, lack.few)) e);
}
  where
    due_by : (rest : List (List Bool)) (others more : List (List ℕ)) → 0 < length rest → more ≡ map input_line rest ++ codes "end" ∷ others
        → (due : List ℕ) × (after : List (List ℕ)) × (more ≡ due ∷ after) × ((tail : List (List ℕ)) → lack.rest ≢ due ∷ tail)
    due_by [] others more some e = absurd (omega arith)
    due_by (r ∷ rest) others more some e = (input_line r, map input_line rest ++ codes "end" ∷ others, e, lack.lacks r)

    due_input : (s : Stimulus) (others more : List (List ℕ)) → GoesOn count state lack.rows s others more
        → (due : List ℕ) × (after : List (List ℕ)) × (more ≡ due ∷ after) × ((tail : List (List ℕ)) → lack.rest ≢ due ∷ tail)
    due_input s others more on =
        let sum = ap length on.inputs_are in
        let parts = length-append lack.rows on.rest in
        due_by on.rest others more (omega (arith, lack.few, on.count_is)) on.more_is

-- the lines that were passed are those of a block
pub whole_block : (number count : ℕ) (ls left : List (List ℕ)) (state : List Bool) (rows : List (List Bool)) → count < 2 ^ 64
    → ls ≡ head_of number count ∷ (codes "state " ++ digits_of state) ∷ (map input_line rows ++ codes "end" ∷ left) → length rows ≡ count
    → ReadsBlock number ls (record { state = state; inputs = rows })
whole_block number count ls left state rows few is all = record {
  fits = omega arith;
  others = left;
  is =
      let first : head_of number count ≡ head_of number (length rows) = ap (head_of number) (sym all) in
      let parts = append_assoc (map input_line rows) (codes "end" ∷ []) left in
      rw first at is ∙ ap (λ (x : List (List ℕ)). head_of number (length rows) ∷ (codes "state " ++ digits_of state) ∷ x) (sym parts);
}

-- the last line is missing
pub stuck_end : (number count next line : ℕ) (ls left : List (List ℕ)) (state : List Bool) (rows : List (List Bool)) → count < 2 ^ 64
    → ls ≡ head_of number count ∷ (codes "state " ++ digits_of state) ∷ (map input_line rows ++ left) → length rows ≡ count → line ≡ next + 2 + count
    → ((others : List (List ℕ)) → left ≢ codes "end" ∷ others) → IsStuck number ls next line
stuck_end number count next line ls left state rows few is all place lacks = record {
  good = first_lines number count state rows;
  rest = left;
  cut = is;
  place = let n = length-map rows input_line in omega arith;
  starts = starts number count state rows few (omega arith);
  stops = λ s others more fits e. due_end s others more (goes_on number count state rows s others more few fits (omega arith) e);
}
  where
    due_by : (rest : List (List Bool)) (others more : List (List ℕ)) → length rest ≡ 0 → more ≡ map input_line rest ++ codes "end" ∷ others
        → (due : List ℕ) × (after : List (List ℕ)) × (more ≡ due ∷ after) × ((tail : List (List ℕ)) → left ≢ due ∷ tail)
    due_by [] others more none e = (codes "end", others, e, lacks)
    due_by (r ∷ rest) others more none e = absurd (omega arith)

    due_end : (s : Stimulus) (others more : List (List ℕ)) → GoesOn count state rows s others more
        → (due : List ℕ) × (after : List (List ℕ)) × (more ≡ due ∷ after) × ((tail : List (List ℕ)) → left ≢ due ∷ tail)
    due_end s others more on =
        let sum = ap length on.inputs_are in
        let parts = length-append rows on.rest in
        due_by on.rest others more (omega (arith, on.count_is)) on.more_is

from_by : (v : Bool) (line : List ℕ) (others found : List (List ℕ)) → length found ≤ length others → length (cond v (line ∷ others) found) ≤ length
    (line ∷ others)
from_by true line others found few = omega arith
from_by false line others found few = omega arith

length-from_block : (title : List ℕ) (ls : List (List ℕ)) → length (from_block title ls) ≤ length ls
unfolding from_block
length-from_block title [] = omega arith
length-from_block title (line ∷ others) = from_by (begins title line) line others (from_block title others) (length-from_block title others)

-- the block of a report has no more cycles than the report has bytes
pub fits_in : (number : ℕ) (report : List ℕ) (s : Stimulus) → length report < 2 ^ 64 → HasFirstBlock number report s → length s.inputs < 2 ^ 64
fits_in number report s small has =
    let all = ap length has.is in
    let parts = length-append (block_lines number s) has.others in
    let rows = length-append (map input_line s.inputs) (codes "end" ∷ []) in
    let each = length-map s.inputs input_line in
    let block = length-from_block (title_of number) (lines report) in
    let bytes = length-lines report in
    omega arith

-- a block that is stuck has no stimulus
pub stuck_none : (number next line : ℕ) (report : List ℕ) → length report < 2 ^ 64 → IsStuck number (block_in number report) next line
    → (s : Stimulus) → ¬ HasFirstBlock number report s
stuck_none number next line report small stuck s has =
    let (due, after, is, other) = stuck.stops s has.others stuck.rest (fits_in number report s small has) (sym has.is ∙ stuck.cut) in
    other after is

next_same : (next due : List ℕ) (others after : List (List ℕ)) → next ∷ others ≡ due ∷ after → next ≡ due
next_same next due others after e = cc

-- a report is broken where its block is stuck
pub broken : (number next line : ℕ) (report : List ℕ) → length report < 2 ^ 64 → 0 < length (block_in number report)
    → next + length (block_in number report) ≡ length (lines report) + 1 → IsStuck number (block_in number report) next line
    → IsBrokenAt number report line
broken number next line report small some all stuck = record {
  good = stuck.good;
  rest = stuck.rest;
  begins = some;
  cut = stuck.cut;
  place =
      let sum = ap length stuck.cut in
      let parts = length-append stuck.good stuck.rest in
      omega (arith, stuck.place);
  starts = stuck.starts;
  breaks = λ first others is starts.
      let joined : block_lines number starts.s ++ [] ≡ stuck.good ++ first ∷ starts.others = append-nil (block_lines number starts.s) ∙ starts.is
      ∙ append_assoc stuck.good (first ∷ []) starts.others in
      let (due, after, goes, other) = stuck.stops starts.s [] (first ∷ starts.others) starts.fits joined in
      other others (is ∙ ap (λ (x : List ℕ). x ∷ others) (next_same first due starts.others after goes));
  none = stuck_none number next line report small stuck;
}

-- two stimuli with one state and the same inputs
stimulus_same : (a b : List Bool) (x y : List (List Bool)) → a ≡ b → x ≡ y → let s : Stimulus = record { state = a; inputs = x } in let t : Stimulus =
    record { state = b; inputs = y } in t ≡ s
stimulus_same a b x y e f = rw (e, f) refl

no_more : (rows rest all : List (List Bool)) → all ≡ rows ++ rest → length all ≡ length rows → all ≡ rows
no_more rows [] all is same = is ∙ append-nil rows
no_more rows (r ∷ rest) all is same =
    let sum = ap length is in
    let parts = length-append rows (r ∷ rest) in absurd (omega arith)

-- a report has one stimulus of a number
pub one_stimulus : (number : ℕ) (report : List ℕ) (s t : Stimulus) → length report < 2 ^ 64 → HasFirstBlock number report s
    → ReadsBlock number (block_in number report) t → t ≡ s
one_stimulus number report s t small has reads =
    let fits = fits_in number report s small has in
    let both : block_lines number s ++ has.others ≡ first_lines number (length t.inputs) t.state t.inputs ++ codes "end" ∷ reads.others = sym has.is
    ∙ reads.is ∙ ap (λ (x : List (List ℕ)). head_of number (length t.inputs) ∷ (codes "state " ++ digits_of t.state) ∷ x)
    (append_assoc (map input_line t.inputs) (codes "end" ∷ []) reads.others) in
    let on = goes_on number (length t.inputs) t.state t.inputs s has.others (codes "end" ∷ reads.others) reads.fits fits (omega arith) both in
    stimulus_same s.state t.state s.inputs t.inputs on.state_is (no_more t.inputs on.rest s.inputs on.inputs_are on.count_is)
