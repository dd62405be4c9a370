-- Lists of nodes that are linked through a table. A link is 0 at the end of its list, else the next node's number plus 1.
use Rattle.std.specs.Prelude.{◌≡◌, ℕ, zero, suc, ◌<◌, true, false, List, [], ◌∷◌, map, length, slice_index, slice_index_or, nat_eq}
use Rattle.std.specs.List.{IsDistinct}
use Rattle.proof_log.specs.Clauses.{is_set}

-- the nodes from a link on, at most so many
abbrev pub walk : List ℕ → ℕ → ℕ → List ℕ
walk links zero link = []
walk links (suc room) zero = []
walk links (suc room) (suc node) = node ∷ walk links room (slice_index links node)

-- the lists whose first nodes the heads link to
abbrev pub lists_of : List ℕ → List ℕ → List (List ℕ)
lists_of links heads = map (walk links (length links)) heads

-- from the link on stand exactly these nodes
abbrev pub IsChain : List ℕ → ℕ → List ℕ → Type 0
IsChain links link [] = link ≡ 0
IsChain links link (n ∷ ns) = (link ≡ suc n) × (n < length links) × IsChain links (slice_index links n) ns

-- the number of nodes, and the lists
pub record Linked : Type 0 where
  pub nodes : ℕ
  pub lists : List (List ℕ)

-- the list of that number
abbrev pub list_at : List (List ℕ) → ℕ → List ℕ
list_at lists l = slice_index_or lists l []

-- each list ends, and no node stands twice
pub record IsLinked (links heads : List ℕ) : Type 0 where
  pub chained : (l : ℕ) → l < length heads → IsChain links (slice_index heads l) (walk links (length links) (slice_index heads l))
  pub once : (l : ℕ) → l < length heads → IsDistinct nat_eq (walk links (length links) (slice_index heads l))
  pub apart : (l m n : ℕ) → l < length heads → m < length heads → is_set (walk links (length links) (slice_index heads l)) n ≡ true
      → is_set (walk links (length links) (slice_index heads m)) n ≡ true → l ≡ m

-- the node stands in no list
abbrev pub IsFree : List (List ℕ) → ℕ → Type 0
IsFree lists n = (l : ℕ) → is_set (list_at lists l) n ≡ false
