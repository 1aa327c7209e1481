-- What holds of each line of a session with batches.
use Rattle.std.proofs.Common.{◌++◌, sym, subst}
use Rattle.vm_disk.specs.declared.disk.Disk.{Ghosts}
use Rattle.vm_cli.specs.session.Rounds.{AllWhole}
use Rattle.vm_cli.specs.session.Streams.{batches}
use Rattle.vm_cli.proofs.KindLemmas.{IsSound, KeptSo}
use Rattle.vm_cli.proofs.StreamKeepLemmas.{takes_earlier, takes_kept}
use Rattle.vm_cli.proofs.StreamPassLemmas.{IsReading, takes_passes}
use Rattle.vm_cli.proofs.WholeLemmas.{StageChanges, takes_whole}

pub batches_sound : {D : Type 0} {members : Ghosts D} → IsSound (batches {D = D} {members = members})
batches_sound = record {
  earlier = λ t how course old new stage part text stage' rounds (round, takes, came_so) honest. takes_earlier old new t how stage part text course stage' round takes honest;
  keeps = λ start s before how course old new stage part text stage' rounds (round, takes, came_so) honest kept.
      subst (λ rs. KeptSo start s course new (before ++ rs)) (sym came_so) (takes_kept start s before old new kept honest how stage part text course stage' round takes);
  HoldsChanges = StageChanges;
  starts_whole = λ on. tt;
  whole = λ t how course old new stage part text stage' rounds (round, takes, came_so) all.
      let one = takes_whole how old new t part text course stage' round stage all takes in (subst AllWhole (sym came_so) (one.0, tt), one.1);
  IsReading = IsReading;
  starts_reading = tt;
  passes = λ t how course refuses old new stage part text stage' rounds (round, takes, came_so) reading. takes_passes how refuses old new t stage reading part text course stage' round takes;
}
