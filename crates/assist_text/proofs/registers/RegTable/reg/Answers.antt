use Rattle.std.proofs.Common.{◌≡◌, subst}
use Rattle.std.specs.Map.{lookup}
use Rattle.std.specs.Str.{bytes_eq}
use Rattle.assist_text.specs.Registers.{IsFound}
use Rattle.assist_text.proofs.registers.RegTable.reg.Goals as goal

pub returns : goal.returns
returns c =
    let same : lookup (bytes_eq c.args.name.now) c.args.self.now ≡ c.copied.result = cc (c.get.ensures.value, c.copied.ensures) in
    λ cells is. subst (IsFound cells c.args.name.now) same (is c.args.name.now)
