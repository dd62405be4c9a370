-- Rows of words, and the row of a line.
use Rattle.std.specs.Prelude.{ℕ, nat_eq, List, find, Option}
use Rattle.std.specs.List.{starts_with}
use Rattle.refusal_words.specs.declared.rows.Row.{Row as TheRow}
use Rattle.refusal_words.specs.declared.rows.Spot.{Spot}

-- the head of a line, what its first field says, and the words for its cause and its remedy
pub record Row : Type 0 where
  pub head : List ℕ
  pub spot : Spot
  pub cause : List ℕ
  pub remedy : List ℕ

-- the same of the program, without its references
abbrev pub seen_row : TheRow → Row
seen_row r = record { head = r.head.now; spot = r.spot; cause = r.cause.now; remedy = r.remedy.now }

abbrev pub row : List ℕ → Spot → List ℕ → List ℕ → Row
row head spot cause remedy = record { head = head; spot = spot; cause = cause; remedy = remedy }

-- the first row whose head the line has
abbrev pub row_in : List Row → List ℕ → Option Row
row_in rows line = find (λ (r : Row). starts_with nat_eq line r.head) rows
