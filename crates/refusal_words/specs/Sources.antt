-- The words for texts that are not read.
use Rattle.std.specs.Prelude.{List, [], ◌∷◌, codes}
use Rattle.refusal_words.specs.declared.rows.Spot.TheVariants as spot
use Rattle.refusal_words.specs.Rows.{Row, row}

-- netlists, cells and constraints
unfoldable pub text_rows : List Row
text_rows =
    row (codes "refused verilog 0 TooLong") spot.Whole (codes "longer than its limit") (codes "split it")
    ∷ row (codes "refused verilog 1 Syntax") spot.Offset (codes "not of the grammar, or declared nowhere") (codes "mend the text there")
    ∷ row (codes "refused verilog 2 Unsupported") spot.Offset (codes "> is not read") (codes "synthesise or cut it")
    ∷ row (codes "refused verilog 3 TwiceName") spot.Whole (codes "@ stands twice") (codes "rename one")
    ∷ row (codes "refused verilog 4 Width") spot.Offset (codes "two sides of different widths") (codes "give both as many bits, or cut the macro")
    ∷ row (codes "refused verilog 6 Deep") spot.Offset (codes "too deep") (codes "write it flat")
    ∷ row (codes "refused liberty 0 TooLong") spot.Whole (codes "longer than its limit") (codes "split it")
    ∷ row (codes "refused liberty 1 Syntax") spot.Offset (codes "not of the grammar") (codes "close what stands open")
    ∷ row (codes "refused liberty 2 Function") spot.Offset (codes "no Boolean function") (codes "write it with ! & | ^ and parentheses")
    ∷ row (codes "refused liberty 3 TwiceCell") spot.Whole (codes "the cell @ stands twice") (codes "drop one")
    ∷ row (codes "refused liberty 5 Deep") spot.Offset (codes "too deep") (codes "split it")
    ∷ row (codes "refused sdc 0 TooLong") spot.Whole (codes "longer than its limit") (codes "split it")
    ∷ row (codes "refused sdc 1 Syntax") spot.Offset (codes "words or lists break here") (codes "close or part them")
    ∷ row (codes "refused sdc 2 UnknownCommand") spot.Line (codes "no command > is read") (codes "leave it out")
    ∷ row (codes "refused sdc 3 UnknownVariable") spot.Line (codes "> is set nowhere before") (codes "set it, or write \\$")
    ∷ row (codes "refused sdc 4 BadOption") spot.Line (codes "> is one word too many, or lacks one") (codes "see the lists")
    ∷ row (codes "refused sdc 5 BadNumber") spot.Line (codes "the number >") (codes "a multiplier is 1 to 16, a case value 0 or 1")
    ∷ row (codes "refused sdc 7 Deep") spot.Offset (codes "too deep") (codes "nest less deep")
    ∷ []
