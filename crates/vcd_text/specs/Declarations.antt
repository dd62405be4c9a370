-- The declarations of a wave (IEEE 1364-2005, 18.2.3).
use Rattle.std.specs.Prelude.{ℕ, ◌+◌, List, [], ◌∷◌, ◌++◌, length, codes}
use Rattle.std.specs.Fmt.{decimal}
use Rattle.wave_signals.specs.declared.bits.BitKind.{BitKind}
use Rattle.wave_signals.specs.declared.bits.BitKind.TheVariants.{Wire, Reg}
use Rattle.wave_signals.specs.declared.signals.Span.{Span}
use Rattle.wave_signals.specs.declared.signals.Span.TheVariants.{Whole, Up, Down}
use Rattle.wave_signals.specs.declared.signals.Signal.{Signal}
use Rattle.wave_signals.specs.Labels.{range}
use Rattle.vcd_text.specs.declared.waves.Wave.{Wave}
use Rattle.wave_signals.specs.Numbered.{numbered}
use Rattle.vcd_text.specs.Lines.{line, word}
use Rattle.vcd_text.specs.Scopes.{scope_line, upscope_line, leave, moves}

abbrev pub kind_word : BitKind → List ℕ
kind_word Wire = codes "wire"
kind_word Reg = codes "reg"

-- the indices of a signal, if it has some
abbrev pub range_part : Span → Signal → List ℕ
range_part Whole s = []
range_part (Up first) s = codes " " ++ range s
range_part (Down first) s = codes " " ++ range s

-- the name of a signal in its scope, and of a bus its indices
abbrev pub reference : Signal → List ℕ
reference s = word (s.stem.front ++ s.stem.back) ++ range_part s.span s

-- kind, width and identifier, which is a number
abbrev pub var_head : ℕ → Signal → List ℕ
var_head number s = codes "$var " ++ (kind_word s.kind ++ (codes " " ++ (decimal (length s.values) ++ (codes " " ++ decimal number))))

abbrev pub var_line : ℕ → Signal → List ℕ
var_line number s = var_head number s ++ (codes " " ++ (reference s ++ line (codes " $end")))

-- signals from this number on, each in its scopes; at the beginning these are open, at the end none is
unfoldable pub vars : List (List ℕ) → ℕ → List Signal → List ℕ
vars open_scopes number [] = leave open_scopes
vars open_scopes number (s ∷ ss) = moves open_scopes s.stem.scopes ++ (var_line number s ++ vars s.stem.scopes (number + 1) ss)

-- what comes before all scopes, and the scope of signals that are of no design
abbrev pub title : List ℕ
title = line (codes "$version sdcv_view $end") ++ (line (codes "$timescale 1ns $end") ++ scope_line (codes "sdcv_view"))

-- the clock, number 0
abbrev pub clock_line : List ℕ → List ℕ
clock_line name = codes "$var wire 1 0 " ++ (word name ++ line (codes " $end"))

-- the clock and the marks
abbrev pub own_scope : Wave → List ℕ
own_scope w = title ++ (clock_line w.clock ++ (numbered var_line 1 w.marks ++ upscope_line))

-- the signals, whose numbers follow those of the marks
abbrev pub top_scope : Wave → List ℕ
top_scope w = scope_line w.top ++ (vars [] (1 + length w.marks) w.signals ++ upscope_line)

abbrev pub declarations : Wave → List ℕ
declarations w = own_scope w ++ (top_scope w ++ line (codes "$enddefinitions $end"))
