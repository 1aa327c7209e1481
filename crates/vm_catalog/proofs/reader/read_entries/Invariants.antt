use Rattle.std.proofs.Common.{◌≡◌, ◌+◌, vec_len, vec_capacity}
use Rattle.vm_catalog.specs.SlotReads.{HasTaken}
use Rattle.vm_catalog.proofs.reader.read_entries.Given as goal

-- the entries so far were read, and the room is as it was
abbrev pub invariant-loop-i : goal.invariant-loop-i
invariant-loop-i g l = record {
  room : vec_capacity l.entries ≡ vec_capacity l.fn.entries;
  many : vec_len l.entries ≡ vec_len l.fn.entries + l.i;
  taken : HasTaken l.block l.first l.i l.fn.entries.items l.entries.items;
}
