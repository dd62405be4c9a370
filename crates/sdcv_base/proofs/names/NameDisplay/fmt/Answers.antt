use Rattle.std.proofs.Common.{rules, ◌≡◌, ℕ, ◌+◌, ◌<◌, List, ◌++◌, length, get_or, take}
use Rattle.std.specs.Char.{encode_utf8}
use Rattle.std.proofs.lemmas.Str.{encode_ascii}
use Rattle.std.proofs.lemmas.List.{map_more}
use Rattle.std.proofs.Output.{has_written_append, has_written_of_eq}
use Rattle.sdcv_base.specs.Shown.{shown, shown_byte}
use Rattle.sdcv_base.proofs.names.NameDisplay.fmt.Goals as goal

one_more : (xs : List ℕ) (i glyph : ℕ) → i < length xs → glyph ≡ shown_byte (get_or xs i 0) → glyph < 128 → shown (take i xs)
    ++ encode_utf8 glyph ≡ shown (take (i + 1) xs)
one_more xs i glyph here is ascii = rw (encode_ascii glyph ascii, map_more shown_byte xs i 0 here, is)

pub loop-byte-preserved : goal.loop-byte-preserved
loop-byte-preserved g c = λ p.
    let xs : List ℕ = c.as_bytes-byte-items.result.now in
    let e = one_more xs c.loop-byte.byte-index c.shown_char-glyph.result c.loop-byte-test.true c.shown_char-glyph.ensures.shown
    c.shown_char-glyph.ensures.ascii in
    has_written_of_eq _ _ _ _ _ e (has_written_append _ _ _ _ _ _ (c.loop-byte.invariant p) (search rules))
