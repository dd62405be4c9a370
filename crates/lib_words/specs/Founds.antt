-- A value that still lies in the text.
use Rattle.std.specs.Prelude.{if◌then◌else◌}
use Rattle.lib_words.specs.declared.groups.Value.{Value}
use Rattle.lib_words.specs.declared.values.Found.{Found}
use Rattle.lib_words.specs.Values.{said}

abbrev pub value_of : Found → Value
value_of f = record { text = if f.is_quoted then f.text.now else said f.text.now; offset = f.offset; is_quoted = f.is_quoted }
