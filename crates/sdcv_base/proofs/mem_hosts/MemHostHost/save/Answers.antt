use Rattle.std.proofs.Common.{arith}
use Rattle.std.proofs.lemmas.Grind.{common_steps}
use Rattle.sdcv_base.specs.declared.mem_hosts.FileRec.{FileRec}
use Rattle.sdcv_base.proofs.mem_hosts.MemHostHost.save.Goals as goal

pub returns-clause-after : goal.returns-clause-after
returns-clause-after c =
    let file : FileRec = record { name = c.from_vec.result; bytes = c.extend_from_slice-2.new.self } in
    (file, grind (arith, common_steps), grind (arith, common_steps))
