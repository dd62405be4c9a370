-- The pieces of a text: its commands' bytes, and what stands between them.
use Rattle.std.specs.Prelude.{ℕ, zero, suc, ◌-◌, List, [], ◌∷◌, ◌++◌, length, take, Option, None, Some, Ok, Err}
use Rattle.std.specs.List.{slice_get}
use Rattle.sdc_words.specs.Blanks.{after_blanks}
use Rattle.sdc_words.specs.Commands.{command_at}

-- the bytes of a command, from the first one of its first word to the one before its end, and what stands before it: blanks, ends of
-- commands and comments
pub record Piece : Type 0 where
  pub gap : List ℕ
  pub body : List ℕ

-- the bytes of a text up to where this is left of it
abbrev pub passed : List ℕ → List ℕ → List ℕ
passed s left = take (length s - length left) s

-- what follows the next command of a text of which this is left; nothing at its end, and where no command is read
abbrev pub after_command : List ℕ → List ℕ → Option (List ℕ)
after_command text s = elim (command_at text s) [
  | Ok (Some command, left) ↦ Some left
  | Ok (None, left) ↦ None
  | Err fault ↦ None
]

-- the piece of the next command, after which this is left
abbrev pub piece_of : List ℕ → List ℕ → Piece
piece_of s left = record { gap = passed s (after_blanks s); body = passed (after_blanks s) left }

-- the pieces of what is left of a text, and the rest, which has no command that can be read; of at most n commands
unfoldable pub pieces_from : ℕ → List ℕ → List ℕ → List Piece × List ℕ
pieces_from zero text s = ([], s)
pieces_from (suc n) text s = elim (after_command text s) [
  | Some left ↦ let more = pieces_from n text left in (piece_of s left ∷ more.0, more.1)
  | None ↦ ([], s)
]

-- the pieces of a text, and the rest
abbrev pub pieces_of : List ℕ → List Piece × List ℕ
pieces_of text = pieces_from (length text) text text

-- a command's bytes, or those that stand in their place
abbrev pub body_or : List ℕ → Option (List ℕ) → List ℕ
body_or old None = old
body_or old (Some new) = new

-- a command's bytes, or those at this place of the bodies
abbrev pub body_at : List ℕ → List (Option (List ℕ)) → ℕ → List ℕ
body_at old bodies place = elim (slice_get bodies place) [
  | Some body ↦ body_or old body
  | None ↦ old
]

-- pieces with these bodies in the places of their own, in order; where there are fewer bodies the last pieces stay
unfoldable pub with_bodies : List Piece → List (Option (List ℕ)) → List ℕ
with_bodies [] bodies = []
with_bodies (p ∷ pieces) [] = p.gap ++ (p.body ++ with_bodies pieces [])
with_bodies (p ∷ pieces) (b ∷ bodies) = p.gap ++ (body_or p.body b ++ with_bodies pieces bodies)

-- a text with these bodies in the places of its commands'
abbrev pub rewritten : List ℕ → List (Option (List ℕ)) → List ℕ
rewritten text bodies = with_bodies (pieces_of text).0 bodies ++ (pieces_of text).1
