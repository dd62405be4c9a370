-- The words for texts that are read and say nothing together.
use Rattle.std.specs.Prelude.{List, [], ◌∷◌, codes}
use Rattle.refusal_words.specs.declared.rows.Spot.TheVariants as spot
use Rattle.refusal_words.specs.Rows.{Row, row}

-- designs and selections
unfoldable pub design_rows : List Row
design_rows =
    row (codes "refused link 1 UnknownCell") spot.Whole (codes "@ is no module, and no cell of $") (codes "give the library that has it, add the module or cut the cell")
    ∷ row (codes "refused link 2 UnsupportedCell") spot.Whole (codes "the cell @ can't be modelled") (codes "cut or replace it")
    ∷ row (codes "refused link 3 UnknownPin") spot.Whole (codes "no pin @") (codes "take the netlist's own library")
    ∷ row (codes "refused link 4 OpenInput") spot.Whole (codes "nothing is connected to @") (codes "tie it")
    ∷ row (codes "refused link 5 Undriven") spot.Whole (codes "nothing drives @") (codes "drive or tie it")
    ∷ row (codes "refused link 6 ManyDrivers") spot.Whole (codes "@ has two drivers") (codes "leave one")
    ∷ row (codes "refused link 7 Loop") spot.Whole (codes "@ is on a loop of gates") (codes "break the loop")
    ∷ row (codes "refused link 8 NotTheClock") spot.Whole (codes "@'s clock pin is not of the judged clock") (codes "name its clock, or cut it")
    ∷ row (codes "refused link 9 ClockAsData") spot.Whole (codes "the clock's net @ is read as data") (codes "leave it out")
    ∷ row (codes "refused link 10 Recursive") spot.Whole (codes "@ holds itself") (codes "mend the hierarchy")
    ∷ row (codes "refused link 11 NameClash") spot.Whole (codes "two things have the name @") (codes "rename one")
    ∷ row (codes "refused link 12 NoTop") spot.Whole (codes "@ modules are instantiated by no other") (codes "keep one top")
    ∷ row (codes "refused link 13 Limit") spot.Whole (codes "more than } <") (codes "verify a block")
    ∷ row (codes "refused link 14 BadSetting") spot.Whole (codes "@ is no data input bit") (codes "write each bit's name")
    ∷ row (codes "refused expand 1 TwoClocks") spot.Line (codes "clocks on lines < and >") (codes "judge one, cut the other")
    ∷ row (codes "refused expand 2 ClockNotPort") spot.Line (codes "the clock is not on one input port") (codes "name the port")
    ∷ row (codes "refused expand 3 CaseTwice") spot.Line (codes "two values, on lines < and >") (codes "drop one")
    ∷ row (codes "refused expand 4 CaseOnReset") spot.Line (codes "> is a reset too") (codes "drop one")
    ∷ row (codes "refused expand 5 CaseOnPin") spot.Line (codes "> is no input port") (codes "name input ports")
    ∷ row (codes "refused expand 6 Limit") spot.Whole (codes "more than } <") (codes "split the constraints")
    ∷ row (codes "refused expand 8 NoClock") spot.Whole (codes "no clock @ has a source") (codes "name a clock of the script")
    ∷ row (codes "refused expand 9 Generated") spot.Line (codes "the generated clock is not at a register or a cut cell") (codes "create it there")
    ∷ row (codes "refused detect 1 Limit") spot.Whole (codes "more than } <") (codes "split the constraints")
    ∷ row (codes "refused mend 1 Unread") spot.Whole (codes "the mended text is not read as meant") (codes "tell the project, with the three texts")
    ∷ []

-- a word that names no top module
unfoldable pub top_rows : List Row
top_rows =
    row (codes "refused link 14 BadSetting") spot.Whole (codes "@ is no module") (codes "name a module")
    ∷ []
