-- And-inverter graphs, and the bits of their literals (AIGER 1.9).
use Rattle.std.specs.Prelude.{◌≡◌, ℕ, ◌+◌, ◌*◌, ◌/◌, ◌%◌, ◌<◌, Bool, false, not, ◌&&◌, ◌==◌, if◌then◌else◌, List, [], ◌∷◌, ◌++◌, length, Some, slice_get, slice_index_or}
use Rattle.net_model.specs.Form.{Form, value}
use Rattle.net_model.specs.Args.{arg_at}
use Rattle.net_model.specs.declared.arguments.Args.{Args}
use Rattle.and_graphs.specs.declared.graphs.AndLine.{AndLine}
use Rattle.and_graphs.specs.declared.graphs.AndGraph.{AndGraph}

-- the bit of a literal where the variables have these bits: literal 2v is variable v, and 2v + 1 its complement
abbrev pub literal_bit : List Bool → ℕ → Bool
literal_bit bits l = let bit = slice_index_or bits (l / 2) false in if l % 2 == 0 then bit else not bit

-- the bits of variables with the lines' after them: a line is the conjunction of its two literals
unfoldable pub bits_after : List AndLine → List Bool → List Bool
bits_after [] bits = bits
bits_after (g ∷ gs) bits = bits_after gs (bits ++ (literal_bit bits g.left && literal_bit bits g.right) ∷ [])

-- the bits of all variables: the constant 0, those in front, the lines
abbrev pub all_bits : List AndLine → List Bool → List Bool
all_bits lines front = bits_after lines (false ∷ front)

-- the literal is one of the graph
abbrev pub IsIn : AndGraph → ℕ → Type 0
IsIn g l = l < 2 * (1 + g.front + length g.lines)

-- the bit of a literal where the variables in front have these bits
abbrev pub bit_of : AndGraph → List Bool → ℕ → Bool
bit_of g front l = literal_bit (all_bits g.lines front) l

-- the literal has this bit, whatever the bits in front are
pub record Means (g : AndGraph) (l : ℕ) (f : List Bool → Bool) : Type 0 where
  pub here : IsIn g l
  pub bit : (front : List Bool) → length front ≡ g.front → bit_of g front l ≡ f front

-- each line is made of literals below its own
abbrev pub IsOrdered : AndGraph → Type 0
IsOrdered g = (k : ℕ) (h : AndLine) → slice_get g.lines k ≡ Some h → (h.left < 2 * (1 + g.front + k)) × (h.right < 2 * (1 + g.front + k))

-- the variables in front stay, and so do the order of lines and what literals mean
pub record Keeps (old new : AndGraph) : Type 0 where
  pub front : new.front ≡ old.front
  pub ordered : IsOrdered old → IsOrdered new
  pub means : (l : ℕ) (f : List Bool → Bool) → Means old l f → Means new l f

-- the literal means the value of a function, whatever its places' literals mean in an earlier graph
abbrev pub Lowers : AndGraph → Args ℕ → Form → AndGraph → ℕ → Type 0
Lowers old args form new l =
    (f : ℕ → List Bool → Bool) → ((i : ℕ) → i < 7 → Means old (arg_at args i) (f i)) → Means new l (λ x. value form (λ i. f i x))
