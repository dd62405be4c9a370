use Rattle.std.proofs.Common.{◌≡◌, ◌∙◌, ℕ, List, Some, ap₂}
use Rattle.std.specs.Prelude.{if◌then◌else◌}
use Rattle.std.specs.Map.{lookup}
use Rattle.std.specs.Str.{bytes_eq}
use Rattle.assist_text.proofs.Finding.{table_still, table_more}
use Rattle.assist_text.proofs.registers.RegTable.add.Goals as goal

pub returns-in_ok-insert : goal.returns-in_ok-insert
returns-in_ok-insert c =
    let reg = c.in-Some.reg in
    let old : c.self.inside.regs.entries ≡ c.args.self.now = cc in
    λ cells is. table_more cells c.args.cell.now reg c.args.self.now c.insert.new.self.entries c.in-Some.is is
    (λ name. c.in_ok-insert.ensures.updates.0 name
    ∙ ap₂ (λ (key : List ℕ) (es : List (List ℕ × ℕ)). if bytes_eq key name then Some reg else lookup (bytes_eq name) es) c.in_ok-copy.ensures old)

pub returns-in_default : goal.returns-in_default
returns-in_default c = λ cells is. table_still cells c.args.cell.now c.args.self.now c.in_default.is is
