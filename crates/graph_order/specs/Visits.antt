-- A search through the places, depth first: its stack, what it has met (`seen`) and what it has put into the order (`done`).
use Rattle.std.specs.Prelude.{◌≡◌, ◌≢◌, ℕ, suc, ◌+◌, ◌<◌, ◌==◌, nat_lt, Bool, true, false, not, ◌&&◌, if◌then◌else◌, List, [], ◌∷◌, ◌++◌, length, take}
use Rattle.std.specs.Prelude.{Contains, Some, slice_get, slice_index_or, count_by, Result, Ok}
use Rattle.sdcv_base.specs.Steps.{◌>>=◌, after_all}
use Rattle.graph_order.specs.Needs.{needs_of, LeadsTo}
use Rattle.graph_order.specs.Orders.{visited}

-- the need is a place that isn't in the order yet
abbrev pub is_waiting : List Bool → ℕ → Bool
is_waiting done need = nat_lt need (length done) && not (slice_index_or done need false)

-- the place needs that one, which is not in the order yet
pub record Waits (needs : List (List ℕ)) (done : List Bool) (place need : ℕ) : Type 0 where
  pub asked : Contains (needs_of needs place) need
  pub within : need < length needs
  pub undone : slice_index_or done need false ≡ false

-- all that the place needs is in the order
abbrev pub IsFree : List (List ℕ) → List Bool → ℕ → Type 0
IsFree needs done place = (need : ℕ) → Contains (needs_of needs place) need → need < length needs → slice_index_or done need false ≡ true

-- each place of the stack is needed for those below it
abbrev pub Chained : List (List ℕ) → List ℕ → Type 0
Chained needs [] = Unit {0}
Chained needs (k ∷ rest) = ((j : ℕ) → Contains rest j → (k ≢ j) × LeadsTo needs k j) × Chained needs rest

-- a place stands once in a list where it is marked, and else not at all
abbrev pub AreMarked : List ℕ → List Bool → Type 0
AreMarked order marks = (n : ℕ) → n < length marks → count_by (λ m. m == n) order ≡ (if slice_index_or marks n false then 1 else 0)

-- what was met stands on the stack, or else in the order
pub record IsVisiting (needs : List (List ℕ)) (stack : List ℕ) (seen done : List Bool) (order : List ℕ) : Type 0 where
  pub seen_len : length seen ≡ length needs
  pub done_len : length done ≡ length needs
  pub met : (k : ℕ) → Contains stack k → (k < length needs) × (slice_index_or seen k false ≡ true) × (slice_index_or done k false ≡ false)
  pub chained : Chained needs stack
  pub waits : (k : ℕ) → k < length needs → slice_index_or seen k false ≡ true → slice_index_or done k false ≡ false → Contains stack k
  pub done_seen : (k : ℕ) → slice_index_or done k false ≡ true → slice_index_or seen k false ≡ true
  pub marked : AreMarked order done
  pub in_range : (i k : ℕ) → slice_get order i ≡ Some k → k < length needs
  pub earlier : (i k need : ℕ) → slice_get order i ≡ Some k → Contains (needs_of needs k) need → need < length needs → Contains (take i order) need

-- what the stack still gives: what its top needs, from the first need on, then the top, then what the places below it give
abbrev pub resume : List (List ℕ) → ℕ → List ℕ → List ℕ → Result (List ℕ) ℕ
resume needs n [] order = Ok order
resume needs n (k ∷ rest) order =
    after_all (visited n needs (k ∷ rest)) order (needs_of needs k) >>= λ found. resume needs (suc n) rest (found ++ k ∷ [])

-- what was begun gives this answer
pub record StillGives (needs : List (List ℕ)) (stack order : List ℕ) (answer : Result (List ℕ) ℕ) : Type 0 where
  pub left : ℕ
  pub deep : left + length stack ≡ suc (length needs)
  pub gives : resume needs left stack order ≡ answer
