-- The first lines of reports, worked out by hand.
use Rattle.std.proofs.Common.{◌≡◌, true, false, refl}
use Rattle.std.specs.Fmt.{digits}
use Rattle.std.specs.Prelude.{codes, None, Some}
use Rattle.run_options.specs.declared.options.RunOptions.{RunOptions}
use Rattle.report_text.specs.Words.{header_text}

abbrev plain : RunOptions
plain = record {
  hazard = false;
  reset_len = 1;
  depth = 8;
  budget = 20000;
  inv_depth = 1;
  lag = 0;
  hold = false;
  assist = None;
  free = None;
  assumed = None;
  strict = false;
}

asked_for_nothing : header_text plain ≡ codes "sdcv 1 mode plain reset 1 depth 8 budget 20000 inv 1"
unfolding digits
asked_for_nothing = refl

asked_for_all : header_text (record plain { hazard = true; lag = 2; hold = true; assist = Some 14; free = Some 0; assumed = Some 3; strict = true })
    ≡ codes "sdcv 1 mode hazard reset 1 depth 8 budget 20000 inv 1 lag 2 hold assist 14 free 0 assumed 3 strict"
unfolding digits
asked_for_all = refl

asked_for_clauses : header_text (record plain { assist = Some 0 }) ≡ codes "sdcv 1 mode plain reset 1 depth 8 budget 20000 inv 1 assist 0"
unfolding digits
asked_for_clauses = refl
