-- What the fields of a host in memory stand for.
use Rattle.std.specs.Prelude.{◌≡◌, ◌≤◌, [], length, vec_capacity}
use Rattle.sdcv_base.specs.declared.mem_hosts.MemHost.TheInside.{Inside}
use Rattle.sdcv_base.specs.MemHosts.{MemState}

abbrev pub state_of : Inside → MemState
state_of m = record {
  files = m.files.items;
  fails = m.fails.items;
  room = m.room;
  calls = m.calls;
  asked = m.asked.items;
  printed =
      m.printed.items;
  saved = m.saved.items;
  faults = m.faults;
}

-- there is room for all that is printed, and until something is saved for that too
pub record HasRoom (m : Inside) : Type 0 where
  pub printed : length m.printed.items ≤ m.room
  pub room : m.room ≤ vec_capacity m.printed
  pub entry : length m.saved.items ≡ 0 → 1 ≤ vec_capacity m.saved
  pub name_empty : length m.saved.items ≡ 0 → m.spare_name.items ≡ []
  pub name : length m.saved.items ≡ 0 → 4096 ≤ vec_capacity m.spare_name
  pub bytes_empty : length m.saved.items ≡ 0 → m.spare_bytes.items ≡ []
  pub bytes : length m.saved.items ≡ 0 → m.room ≤ vec_capacity m.spare_bytes
