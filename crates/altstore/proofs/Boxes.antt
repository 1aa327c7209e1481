-- A box of a session and its parts, as rows: what the parts own is what the box owned.
use mir.Syntax.{dnil, impl, tnil}
use Rattle.altstore.proofs.Walking.{Bx, Slot, [], plain}
use Rattle.std_heap.specs.contracts.Global as Heap
use Rattle.std_heap.specs.contracts.GlobalAllocator.TheImpl.{dict, ghosts}
use Rattle.std_heap.proofs.Global.TheLaws as heap
use Rattle.altstore.specs.contracts.held.Held as held
use Rattle.altstore.specs.contracts.parts.Parts as parts
use Rattle.altstore.specs.contracts.session.Session as session
use Rattle.altstore.proofs.session.Session.TheLaws as laws

abbrev pub SessionBox : Bx
SessionBox =
    record {
      row = session.the_row;
      laws = laws.the_row_laws;
      al = record { row = Heap.the_row; laws = heap.the_row_laws; g = ghosts; d = dict; drops = impl [] tnil dnil };
    }

abbrev pub SessionParts : Slot 0
SessionParts = plain (λ _. parts.the_row session.the_row Heap.the_row ghosts)

abbrev pub HeldSlot : Slot 0
HeldSlot = plain (λ _. held.the_row)
