-- Lemmas on what a writer holds after a piece.
use Rattle.std.specs.Prelude.{◌≡◌, ℕ, ◌+◌, ◌-◌, ◌≤◌, ◌++◌, List, length, take, drop, Option, Result, Ok, Err}
use Rattle.std.proofs.Common.{sym, subst, arith, length-drop}
use Rattle.std.proofs.Math.Seq.{take-add, take-length}
use Rattle.std.proofs.lemmas.List.{take_rest}
use Rattle.std.specs.Io.KnownBytes.{Appends, Keeps}
use Rattle.std.proofs.KnownBytes.{Appends-nil, Appends-trans, Appends-kept}
use Rattle.real_host.specs.Pieces.{Writes}

-- of a piece, the first bytes are written
pub record FrontWritten (old new : Option (List ℕ)) (piece : List ℕ) (done : ℕ) : Type 0 where
  pub within : done ≤ length piece
  pub written : Appends old new (take done piece)

-- at first none is
pub FrontWritten-none : (old : Option (List ℕ)) (piece : List ℕ) → FrontWritten old old piece 0
FrontWritten-none old piece = record { within = omega arith; written = Appends-nil old }

-- n bytes of the rest make the front longer
pub FrontWritten-more : (old mid new : Option (List ℕ)) (piece : List ℕ) (done n next : ℕ) → FrontWritten old mid piece done
    → n ≤ length (take (length piece - done) (drop done piece)) → Appends mid new (take n (take (length piece - done) (drop done piece)))
    → next ≡ done + n → FrontWritten old new piece next
FrontWritten-more old mid new piece done n next front fits more moved =
    let rest : take (length piece - done) (drop done piece) ≡ drop done piece = take_rest piece done in
    let fits_rest : n ≤ length (drop done piece) = subst (λ l. n ≤ length l) rest fits in
    let len : length (drop done piece) ≡ length piece - done = length-drop done piece in
    let within : done ≤ length piece = front.within in
    let joined : Appends old new (take done piece ++ take n (drop done piece)) =
    Appends-trans old mid new _ _ front.written (subst (λ l. Appends mid new (take n l)) rest more) in
    let all : Appends old new (take (done + n) piece) = subst (Appends old new) (sym (take-add done n piece)) joined in
    record { within = omega arith; written = subst (λ k. Appends old new (take k piece)) (sym moved) all }

-- a write that fails leaves the front as it was
pub FrontWritten-kept : (old mid new : Option (List ℕ)) (piece : List ℕ) (done next : ℕ) → FrontWritten old mid piece done
    → Keeps mid new → next ≡ done → FrontWritten old new piece next
FrontWritten-kept old mid new piece done next front kept same =
    subst (λ k. FrontWritten old new piece k) (sym same)
    (record { within = front.within; written = Appends-kept old mid new _ front.written kept })

-- where all of the piece is written, that is so whatever a later step answers
pub Writes-whole : {T E : Type 0} (old new : Option (List ℕ)) (piece : List ℕ) (answer : Result T E) → Appends old new piece → Writes old new piece answer
Writes-whole old new piece (Ok x) whole = whole
Writes-whole old new piece (Err e) whole = (length piece, subst (Appends old new) (sym (take-length piece)) whole)
