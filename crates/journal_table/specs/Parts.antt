-- What a record says.
use Rattle.std.specs.Prelude.{if◌then◌else◌}
use Rattle.table_log.specs.Changes.{Change, Put, Remove}
use Rattle.journal_table.specs.declared.record.Parts.{Parts}

abbrev pub change_of : Parts → Change
change_of parts = if parts.is_put then Put parts.key.now parts.value.now else Remove parts.key.now
