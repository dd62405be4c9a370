-- The text of a graph with latches (AIGER 1.9, ASCII format), and which ones have a lawful text.
use Rattle.std.specs.Prelude.{◌≡◌, ℕ, zero, suc, ◌+◌, ◌*◌, ◌<◌, if◌then◌else◌, List, [], ◌∷◌, ◌++◌, flat_map, length, All, Some, slice_get, codes}
use Rattle.std.specs.Fmt.{decimal}
use Rattle.and_graphs.specs.declared.graphs.AndLine.{AndLine}
use Rattle.and_graphs.specs.declared.aigs.Latch.{Latch}
use Rattle.and_graphs.specs.declared.aigs.Aig.{Aig}

-- a line of text: numbers with a space between them, and a newline
abbrev pub row : ℕ → List ℕ → List ℕ
row first more = decimal first ++ (flat_map (λ n. 32 ∷ decimal n) more ++ 10 ∷ [])

-- how many variables there are, the constant left out
abbrev pub variable_count : Aig → ℕ
variable_count a = a.inputs + length a.latches + length a.lines

-- the first line: the counts of variables, inputs, latches, outputs, lines and bad literals
abbrev pub header : Aig → List ℕ
header a = codes "aag " ++ row (variable_count a) (a.inputs ∷ (length a.latches ∷ (0 ∷ (length a.lines ∷ (1 ∷ [])))))

-- a line for each of so many inputs: its literal
unfoldable pub input_rows : ℕ → List ℕ
input_rows zero = []
input_rows (suc k) = input_rows k ++ row (2 * (k + 1)) []

-- the first bit of a latch, as a literal: its own where it is any, else 0
abbrev pub reset_of : ℕ → Latch → ℕ
reset_of own x = if x.is_any then own else 0

-- the line of a latch, given its variable: its literal, its next literal, and its first bit
abbrev pub latch_row : ℕ → Latch → List ℕ
latch_row v x = row (2 * v) (x.next ∷ (reset_of (2 * v) x ∷ []))

-- the line of a conjunction, given its variable: its literal and the two that it is made of
abbrev pub line_row : ℕ → AndLine → List ℕ
line_row v g = row (2 * v) (g.left ∷ (g.right ∷ []))

-- a line for each item of a list, given its variable; variables count up from this one
unfoldable pub rows_from : {X : Type 0} → (ℕ → X → List ℕ) → ℕ → List X → List ℕ
rows_from line v [] = []
rows_from line v (x ∷ xs) = line v x ++ rows_from line (v + 1) xs

-- the text: the first line, inputs, latches, the bad literal, and the conjunctions
abbrev pub aiger_text : Aig → List ℕ
aiger_text a =
    let first_latch = a.inputs + 1 in
    header a ++ (input_rows a.inputs ++ (rows_from latch_row first_latch a.latches
    ++ (row a.bad [] ++ rows_from line_row (first_latch + length a.latches) a.lines)))

-- each literal that is named is one of a variable, and a conjunction is made of literals below its own
pub record HasForm (a : Aig) : Type 0 where
  pub bad : a.bad < 2 * (1 + variable_count a)
  pub next : All (λ (x : Latch). x.next < 2 * (1 + variable_count a)) a.latches
  pub lines : (k : ℕ) (g : AndLine) → slice_get a.lines k ≡ Some g
      → (g.left < 2 * (1 + a.inputs + length a.latches + k)) × (g.right < 2 * (1 + a.inputs + length a.latches + k))
