use Rattle.std.proofs.Common.{◌≡◌, drop}
use Rattle.sdcv_base.specs.MemHosts.{file_named}
use Rattle.sdcv_base.proofs.mem_hosts.look_up.Given as goal

abbrev pub invariant-loop-file : goal.invariant-loop-file
invariant-loop-file l = file_named (drop l.file-index l.files) l.name ≡ file_named l.files l.name
