-- A text that is being read, and a place in it.
use Rattle.std.specs.Prelude.{ℕ, List, drop}
use Rattle.sdcv_base.specs.declared.cursors.Cursor.{Cursor}

-- the whole text
unfoldable pub text_of : Cursor → List ℕ
text_of c = c.text.now

-- how many of its bytes come before the place
unfoldable pub place_of : Cursor → ℕ
place_of c = c.place

-- the bytes from the place on
unfoldable pub rest : Cursor → List ℕ
rest c = drop c.place c.text.now
