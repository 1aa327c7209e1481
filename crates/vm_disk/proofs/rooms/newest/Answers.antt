use Rattle.std.proofs.Common.{ap, sym, ◌∙◌, Some, option_map}
use Rattle.vm_disk.proofs.KeptLemmas.{first_view}
use Rattle.vm_disk.proofs.rooms.newest.Goals as goal

pub returns : goal.returns
returns c = ap Some c.deref.ensures ∙ ap (λ o. option_map (λ room. room.value) (option_map (λ e. e.1) o)) c.in_ok-room.ensures ∙ sym (first_view (λ room. room.value) 0 c.args.rooms.now.entries)
