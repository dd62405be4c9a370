-- One turn of the loop over the commands of a text.
use Rattle.std.proofs.Common.{◌≡◌, ◌∙◌, ℕ, zero, suc, ◌-◌, ◌≤◌, ◌<◌, true, false, Bool, List, [], ◌∷◌, ◌++◌, length, take, drop, Option, Some, None, Result, Ok, Err, refl, sym, ap, arith, append_assoc, ◌==◌}
use Rattle.std.proofs.lemmas.Bool.Decides.{nat_tests}
use Rattle.std.proofs.lemmas.List.{length-drop, take_all}
use Rattle.sdcv_base.specs.Cursors as cursors
use Rattle.sdcv_base.specs.Cursors.{rest}
use Rattle.sdc_words.specs.declared.faults.WordFault.{WordFault}
use Rattle.sdc_words.specs.declared.words.RawCommand.{RawCommand}
use Rattle.sdc_words.specs.declared.commands.Commands.{Commands}
use Rattle.sdc_words.specs.Blanks.{gap_len, blank_len, skipped, after_blanks}
use Rattle.sdc_words.specs.Commands.{command_at, text_of, left_of}
use Rattle.sdc_words.proofs.BlankLemmas.{skipped_stop}
use Rattle.sdc_pieces.specs.Pieces.{Piece, passed, after_command, piece_of, pieces_from, body_at, with_bodies}

-- nothing or a piece stands at the front
after_one : (m : ℕ) (s : List ℕ) → length s ≤ suc m → ((t : List ℕ) → length t ≤ m → blank_len (skipped blank_len m t) ≡ 0)
    → (stops : Bool) → (blank_len s == 0) ≡ stops → blank_len (skipped blank_len (suc m) s) ≡ 0
unfolding skipped
after_one m s room more true stops = rw stops (grind (arith, nat_tests))
after_one m s room more false stops =
    let some : 0 < blank_len s = grind (arith, nat_tests) in
    rw stops (more (drop (blank_len s) s) (omega (arith, length-drop (blank_len s) s)))

-- what is left after blanks begins with none
no_blank : (m : ℕ) (s : List ℕ) → length s ≤ m → blank_len (skipped blank_len m s) ≡ 0
unfolding skipped blank_len gap_len
no_blank zero [] room = refl
no_blank zero (b ∷ s) room = absurd (omega arith)
no_blank (suc m) s room = after_one m s room (no_blank m) (blank_len s == 0) refl

-- blanks are passed once
blanks_once : (s : List ℕ) → after_blanks (after_blanks s) ≡ after_blanks s
unfolding after_blanks
blanks_once s = skipped_stop blank_len (length (skipped blank_len (length s) s)) (skipped blank_len (length s) s) (no_blank (length s) s (omega arith))

-- the next command is the same before blanks and after them
command_same : (text s : List ℕ) → command_at text (after_blanks s) ≡ command_at text s
unfolding command_at
command_same text s = rw (blanks_once s) refl

-- what follows a command that is read
abbrev next_by : Result (Option RawCommand × List ℕ) WordFault → Option (List ℕ)
next_by read = elim read [
  | Ok (Some command, left) ↦ Some left
  | Ok (None, left) ↦ None
  | Err fault ↦ None
]

-- so what follows it is, too
after_same : (text s : List ℕ) → after_command text (after_blanks s) ≡ after_command text s
after_same text s = ap next_by (command_same text s)

-- what follows the next command, where it is told of a place after the blanks
pub next_same : (c begin : Commands) (text : List ℕ) (next : Option (List ℕ)) → text_of begin ≡ text → left_of begin ≡ after_blanks (left_of c)
    → next ≡ after_command (text_of begin) (left_of begin) → after_command text (left_of c) ≡ next
next_same c begin text next whole left told =
    sym (after_same text (left_of c)) ∙ ap (after_command text) (sym left) ∙ ap (λ (t : List ℕ). after_command t (left_of begin)) (sym whole) ∙ sym told

-- what is left after some bytes is the end of that length
suffix : (p : ℕ) (t : List ℕ) → drop p t ≡ drop (length t - length (drop p t)) t
suffix zero t = let all : length t - length t ≡ 0 = omega arith in rw all refl
suffix (suc p) [] = refl
suffix (suc p) (b ∷ t) =
    let one : length (b ∷ t) - length (drop p t) ≡ suc (length t - length (drop p t)) = omega (arith, length-drop p t) in
    rw one (suffix p t)

-- what is left of a text is its end of that length
pub left_is : (c : Commands) → left_of c ≡ drop (length (text_of c) - length (left_of c)) (text_of c)
unfolding left_of text_of rest cursors.text_of
left_is c = suffix c.cursor.place c.cursor.text.now

-- the pieces and the rest of what is left of a text, with bodies
abbrev pub still : ℕ → List ℕ → List ℕ → List (Option (List ℕ)) → List ℕ
still n text s bodies = with_bodies (pieces_from n text s).0 bodies ++ (pieces_from n text s).1

-- a piece takes the body at its place
with_at : (p : Piece) (pieces : List Piece) (bodies : List (Option (List ℕ))) (place : ℕ)
    → with_bodies (p ∷ pieces) (drop place bodies) ≡ p.gap ++ (body_at p.body bodies place ++ with_bodies pieces (drop (suc place) bodies))
unfolding with_bodies
with_at p pieces [] zero = refl
with_at p pieces [] (suc place) = refl
with_at p pieces (b ∷ bodies) zero = refl
with_at p pieces (b ∷ bodies) (suc place) = with_at p pieces bodies place

-- the pieces, where this follows the next command
abbrev pieces_by : ℕ → List ℕ → List ℕ → Option (List ℕ) → List Piece × List ℕ
pieces_by n text s next = elim next [
  | Some left ↦ let more = pieces_from n text left in (piece_of s left ∷ more.0, more.1)
  | None ↦ ([], s)
]

-- one turn by what follows the next command
pieces_next : (n : ℕ) (text s : List ℕ) (next : Option (List ℕ)) → after_command text s ≡ next → pieces_from (suc n) text s ≡ pieces_by n text s next
unfolding pieces_from
pieces_next n text s next read = ap (pieces_by n text s) read

-- pieces and a rest, with bodies
abbrev joined : List (Option (List ℕ)) → List Piece × List ℕ → List ℕ
joined bodies pieces = with_bodies pieces.0 bodies ++ pieces.1

-- a command is read: its piece comes next
pub still_more : (m n : ℕ) (text s left : List ℕ) (bodies : List (Option (List ℕ))) (place : ℕ) → m ≡ suc n → after_command text s ≡ Some left
    → still m text s (drop place bodies)
    ≡ passed s (after_blanks s) ++ (body_at (passed (after_blanks s) left) bodies place ++ still n text left (drop (suc place) bodies))
still_more m n text s left bodies place one read =
    ap (λ (k : ℕ). still k text s (drop place bodies)) one
    ∙ ap (joined (drop place bodies)) (pieces_next n text s (Some left) read)
    ∙ ap (λ (x : List ℕ). x ++ (pieces_from n text left).1) (with_at (piece_of s left) (pieces_from n text left).0 bodies place)
    ∙ simp append_assoc

-- where no piece is, the rest alone
nothing_more : (bodies : List (Option (List ℕ))) (s : List ℕ) → joined bodies ([], s) ≡ s
unfolding with_bodies
nothing_more bodies s = refl

-- none is read, or none is looked for: all bytes stay
pub still_end : (n : ℕ) (text s : List ℕ) (bodies : List (Option (List ℕ))) → (0 < n → after_command text s ≡ None) → still n text s bodies ≡ s
unfolding pieces_from
still_end zero text s bodies none = nothing_more bodies s
still_end (suc n) text s bodies none = ap (joined bodies) (pieces_next n text s None (none (omega arith))) ∙ nothing_more bodies s

-- no more is left than the text
pub left_within : (c : Commands) (text : List ℕ) → text_of c ≡ text → length (left_of c) ≤ length text
unfolding left_of text_of rest cursors.text_of
left_within c text whole = omega (arith, length-drop c.cursor.place c.cursor.text.now, ap (λ (t : List ℕ). length t) whole)

-- the bytes from where so many are left of a text to where so many are
pub passed_is : (c : Commands) (text r : List ℕ) (a b : ℕ) → text_of c ≡ text → a ≡ length (left_of c) → b ≡ length r
    → take (a - b) (drop (length text - a) text) ≡ passed (left_of c) r
passed_is c text r a b whole from to =
    ap (λ (n : ℕ). take (n - b) (drop (length text - n) text)) from
    ∙ ap (λ (n : ℕ). take (length (left_of c) - n) (drop (length text - length (left_of c)) text)) to
    ∙ ap (λ (t : List ℕ). take (length (left_of c) - length r) (drop (length t - length (left_of c)) t)) (sym whole)
    ∙ ap (take (length (left_of c) - length r)) (sym (left_is c))

-- all of them that are left
pub all_left : (c : Commands) (text : List ℕ) (a : ℕ) → text_of c ≡ text → a ≡ length (left_of c)
    → take (a - 0) (drop (length text - a) text) ≡ left_of c
all_left c text a whole from = passed_is c text [] a 0 whole from refl ∙ take_all (length (left_of c) - 0) (left_of c) (omega arith)

-- two parts that are added stand before what follows
pub pushed_parts : (old one two a b rest : List ℕ) → one ≡ old ++ a → two ≡ one ++ b → two ++ rest ≡ old ++ (a ++ (b ++ rest))
pushed_parts old one two a b rest at_one at_two = rw (at_two, at_one) (simp append_assoc)
