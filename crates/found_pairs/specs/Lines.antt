-- Which pairs are written, and the text of them.
use Rattle.std.specs.Prelude.{ℕ, Bool, ◌&&◌, nat_le, List, ◌∷◌, map, filter}
use Rattle.std.specs.List.{flat_map}
use Rattle.sdcv_base.specs.Seqs.{where_true}
use Rattle.mcp_detect.specs.declared.detections.Tried.{Tried}
use Rattle.mcp_detect.specs.declared.detections.Detected.{Detected}
use Rattle.script_types.specs.declared.scripts.Script.{Script}
use Rattle.multicycle_text.specs.Lines.{FoundLine, CheckLine, Setup, Hold, lines_text}
use Rattle.multicycle_text.specs.Names.{is_writable}
use Rattle.multicycle_text.specs.Scripts.{script_by}

-- a multiplier is found of the pair, and both its names can be written
abbrev pub is_written : Tried → Bool
is_written t = nat_le 2 t.k && (is_writable t.start && is_writable t.end)

-- what is written of a pair: its multiplier and its names
abbrev pub line_of : Tried → FoundLine
line_of t = record { k = t.k; start = t.start; end = t.end }

-- that of those pairs that are written, in their order
abbrev pub lines_of : List Tried → List FoundLine
lines_of tried = map line_of (filter is_written tried)

-- the line of a pair's multiplier, and after it, where hold lines are wanted, that of its hold check
abbrev pub lines_with : Bool → FoundLine → List CheckLine
lines_with hold x = Setup x ∷ where_true hold (Hold x)

abbrev pub all_lines : Bool → List FoundLine → List CheckLine
all_lines hold found = flat_map (lines_with hold) found

-- the lines of the pairs that are written, with hold lines or without
abbrev pub found_lines : Bool → Detected → List CheckLine
found_lines hold f = all_lines hold (lines_of f.tried)

-- the text of them, and the script that it is
abbrev pub found_bytes : Bool → Detected → List ℕ
found_bytes hold f = lines_text (found_lines hold f)

abbrev pub found_script : Bool → Detected → Script
found_script hold f = script_by (found_lines hold f)
