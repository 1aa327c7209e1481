-- What is asked for by a line that was read.
use Rattle.std.specs.Prelude.{None}
use Rattle.vm_cli.specs.lines.Asking.{Request}
use Rattle.vm_cli.specs.declared.lines.list_query.ListQuery.{ListQuery}
use Rattle.vm_cli.specs.declared.lines.list_query.ListQuery.TheVariants as listed
use Rattle.vm_cli.specs.declared.lines.request.Request.{Request as Read}
use Rattle.vm_cli.specs.declared.lines.request.Request.TheVariants as read

-- what a query for a list asks for
abbrev pub list_for : ListQuery → Request
list_for (listed.Records at) = Request.List at
list_for (listed.Part at low high) = Request.Part at low high
list_for (listed.Page at low count) = Request.Page at low count
list_for (listed.Diff first second) = Request.Diff first second
list_for (listed.DiffPart first second low high) = Request.DiffPart first second low high
list_for listed.Alternatives = Request.Alternatives
list_for (listed.Checkpoints alt) = Request.Checkpoints alt
list_for (listed.Changes alt) = Request.Changes alt
list_for (listed.Conflicts alt) = Request.Conflicts alt

-- what a line asks for
abbrev pub asks_for : Read → Request
asks_for read.Nothing = Request.Nothing
asks_for (read.Bad mistake) = Request.Bad mistake
asks_for (read.Command command) = Request.Command command
asks_for (read.MergeAll alt side settled) = Request.MergeAll None alt side settled
asks_for (read.Get at key) = Request.Get at key
asks_for (read.Tally alt) = Request.Tally alt
asks_for read.Free = Request.Free
asks_for read.Blocks = Request.Blocks
asks_for (read.List query) = list_for query
