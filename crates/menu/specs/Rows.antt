-- A command's row, as the program has it.
use Rattle.std.specs.Prelude.{◌<◌, ◌≤◌, ◌≡◌, length}
use Rattle.menu.specs.declared.table.Entry.{Entry}
use Rattle.menu.specs.Table.{Row, name_width, usage_width, help_width}

-- The entry is the row, and none of its texts is wider than its column.
pub record Holds (row : Row) (e : Entry) : Type 0 where
  pub name : e.name.now ≡ row.name
  pub usage : e.usage.now ≡ row.usage
  pub help : e.help.now ≡ row.help
  pub least : e.least ≡ row.least
  pub most : e.most ≡ row.most
  pub files : e.files ≡ row.files
  pub reads : e.reads ≡ row.reads
  pub brief : length e.name.now ≤ name_width
  pub narrow : length e.usage.now < usage_width
  pub short : length e.help.now ≤ help_width
