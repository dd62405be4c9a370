-- The lines that tell the multicycle pairs of a design. A name is shown with a `?` for each byte outside 32 to 126.
use Rattle.std.specs.Prelude.{ℕ, nat_le, Bool, if◌then◌else◌, List, [], ◌∷◌, ◌++◌, length, count_by, codes, Option, Some, None}
use Rattle.std.specs.List.{flat_map}
use Rattle.std.specs.Fmt.{decimal}
use Rattle.sdcv_base.specs.Shown.{shown}
use Rattle.sdcv_base.specs.Limits.{limit_text}
use Rattle.selected_types.specs.declared.notices.Notices.{Notices}
use Rattle.report_text.specs.Notices.{notice_lines}
use Rattle.report_text.specs.Words.{mode_text, number_text}
use Rattle.answer_lines.specs.Texts.{◌⁀◌, newline}
use Rattle.found_pairs.specs.Lines.{is_written}
use Rattle.mcp_detect.specs.declared.options.DetectOptions.{DetectOptions}
use Rattle.mcp_detect.specs.declared.detections.Tried.{Tried}
use Rattle.mcp_detect.specs.declared.detections.Detected.{Detected}
use Rattle.mcp_detect.specs.declared.faults.DetectFault.{DetectFault}
use Rattle.mcp_detect.specs.declared.faults.DetectFault.TheVariants.{Limit, Memory}

-- how the pairs were tried
abbrev pub header_text : DetectOptions → ℕ → List ℕ
header_text o reset_len =
    codes "sdcv 1 detect mode " ⁀ mode_text o.hazard ⁀ codes " reset " ⁀ decimal reset_len ⁀ codes " depth " ⁀ decimal o.depth ⁀ codes " budget "
    ⁀ decimal o.budget ⁀ codes " inv " ⁀ decimal o.inv_depth ⁀ codes " bound " ⁀ decimal o.bound

-- and how many nets are free, where cells may be cut out
abbrev pub header_line : DetectOptions → ℕ → Option ℕ → List ℕ
header_line o reset_len free = header_text o reset_len ⁀ number_text (codes "free") free ⁀ newline

-- a multiplier is found for the pair
abbrev pub is_found : Tried → Bool
is_found t = nat_le 2 t.k

-- a found pair, with its largest multiplier, and whether its line is written
abbrev pub pair_line : Tried → List ℕ
pair_line t =
    (if is_written t then codes "found" else codes "unwritten") ⁀ codes " " ⁀ shown t.start ⁀ codes " -> " ⁀ shown t.end ⁀ codes " multi " ⁀ decimal t.k
    ⁀ newline

-- no other pair has a line
abbrev pub pair_lines : Tried → List (List ℕ)
pair_lines t = if is_found t then pair_line t ∷ [] else []

abbrev pub total_line : List Tried → List ℕ
total_line tried =
    codes "total tried " ⁀ decimal (length tried) ⁀ codes " found " ⁀ decimal (count_by is_found tried) ⁀ codes " written "
    ⁀ decimal (count_by is_written tried) ⁀ newline

-- how the pairs were tried, what is told of the netlist and of the constraints, each found pair, and how many there are
abbrev pub detected_lines : DetectOptions → ℕ → Option ℕ → Notices → Detected → List (List ℕ)
detected_lines o reset_len free n found =
    header_line o reset_len free ∷ (notice_lines n ++ (flat_map pair_lines found.tried ++ total_line found.tried ∷ []))

-- why the pairs are not tried
abbrev pub detect_line : DetectFault → Option (List ℕ)
detect_line (Limit what number) = Some (codes "refused detect 1 Limit " ⁀ limit_text what ⁀ codes " " ⁀ decimal number ⁀ newline)
detect_line Memory = None
