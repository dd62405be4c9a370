use Rattle.std.proofs.Common.{◌≡◌, take, true}
use Rattle.std.specs.List.{list_all}
use Rattle.sdc_settings.specs.Inputs.{is_port_object}
use Rattle.sdc_settings.proofs.sources.are_ports.Given as goal

abbrev pub invariant-loop-k : goal.invariant-loop-k
invariant-loop-k l = list_all is_port_object (take l.k l.objects) ≡ true
