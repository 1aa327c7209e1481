-- What the pointer of a handle owns.
use base.Fml.{Fml, ftrue}
use base.Stored.{Coded}
use denote.RawPtr.{Ptr}
use Rattle.std.specs.Prelude.{None, Option, Some}
use Rattle.std.specs.Box.Ownership.{box_owns}
use Rattle.std.specs.Coded.{coded_option}
use Rattle.std.specs.Global.{Global}
use Rattle.std_heap.specs.contracts.GlobalAllocator.TheImpl.{ghosts}
use Rattle.altstore.specs.contracts.session.Session.{the_row}

-- a box of the session, or nothing
abbrev pub holds : Global → Ptr → Option the_row.Denot → Fml
holds alloc at None = ftrue
holds alloc at (Some session) = box_owns (ghosts.dealloc_token alloc) the_row at session

abbrev pub held_coded : Coded (Option the_row.Denot)
held_coded = coded_option the_row.coded
