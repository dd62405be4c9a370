-- The words for what a command reads besides.
use Rattle.std.specs.Prelude.{List, [], ◌∷◌, codes}
use Rattle.refusal_words.specs.declared.rows.Spot.TheVariants as spot
use Rattle.refusal_words.specs.Rows.{Row, row}

-- clauses, certificates and stimuli
unfoldable pub further_rows : List Row
further_rows =
    row (codes "refused assist 0 TooLong") spot.Whole (codes "longer than its limit") (codes "split it")
    ∷ row (codes "refused assist 1 Syntax") spot.Line (codes "some word is not NAME=0 or NAME=1") (codes "mend the line")
    ∷ row (codes "refused assist 2 Twice") spot.Line (codes "the clause names > twice") (codes "drop one")
    ∷ row (codes "refused assist 3 Many") spot.Whole (codes "more than { clauses") (codes "leave some out")
    ∷ row (codes "refused assist 5 UnknownRegister") spot.Line (codes "> is no register") (codes "take the names of a report")
    ∷ row (codes "refused cert 0 TooLong") spot.Whole (codes "longer than its limit") (codes "split it")
    ∷ row (codes "rejected 1 Form") spot.Offset (codes "rejected 1 Form @") (codes "take the texts and words of its run")
    ∷ row (codes "rejected") spot.Whole (codes "rejected @") (codes "take the texts and words of its run")
    ∷ row (codes "refused pair 1 NoPair") spot.Whole (codes "fewer than @ pairs") (codes "take a number of the report")
    ∷ row (codes "refused stimulus 0 TooLong") spot.Whole (codes "longer than its limit") (codes "split it")
    ∷ row (codes "refused stimulus 1 NoBlock") spot.Whole (codes "no stimulus of this pair") (codes "take a refuted pair")
    ∷ row (codes "refused stimulus 2 Form") spot.Line (codes "line @ is none of a stimulus") (codes "take the block as printed")
    ∷ row (codes "refused replay 1 Shape") spot.Whole (codes "other numbers of bits") (codes "take the texts and words of its run")
    ∷ row (codes "refused replay 2 NotReset") spot.Whole (codes "another value in cycle @") (codes "take the texts and words of its run")
    ∷ []
