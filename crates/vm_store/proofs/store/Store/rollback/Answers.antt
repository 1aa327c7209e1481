use Rattle.std.proofs.Common.{Ok, List, refl, ap₂}
use Rattle.vm_types.specs.declared.answer.Answer.TheVariants.{Done}
use Rattle.vm_types.specs.declared.command.Command.TheVariants.{Rollback}
use Rattle.vm_types.specs.State.{next}
use Rattle.vm_types.specs.declared.refusal.Refusal.TheVariants.{Device}
use Rattle.vm_disk.proofs.GoesLemmas.{goes_nowhere}
use Rattle.vm_disk.proofs.MomentLemmas.{started, touches_nothing}
use Rattle.vm_alloc.proofs.HeldLemmas.{holds_same}
use Rattle.vm_tree.proofs.Touching.{reads_unsynced}
use Rattle.vm_store.specs.declared.version.Version.{Version}
use Rattle.vm_store.proofs.CarryLemmas.{spared}
use Rattle.vm_store.proofs.LongerLemmas.{goes_grow}
use Rattle.vm_store.proofs.PerformLemmas.{not_grown}
use Rattle.vm_store.proofs.RolledLemmas.{accepted_is_no_refusal, held_first, rests_rolled}
use Rattle.vm_store.proofs.SeriesLemmas.{holds_alone}
use Rattle.vm_store.proofs.VersionLemmas.{answers_done}
use Rattle.vm_store.proofs.store.Store.rollback.Goals as goal

pub returns : goal.returns
returns g c =
    let self = c.args.self.now in
    let disk = g.D.Disk.state self.disk in
    let new = c.roll_back.new.self in
    let rolled = c.roll_back.ensures in
    let nowhere = goes_nowhere _ disk disk refl (accepted_is_no_refusal Done Device) in
    record {
      carried = λ honest s holds.
          let rests = rests_rolled disk.now self.parts.blocks self.parts.kept self.parts.slot_name self.parts.held new.held self.parts.committed self.parts.working new.working s Done holds.rests holds.keeps
          (λ n low held. held_first self.parts.kept n self.parts.held new.held rolled.held low held) rolled.working in
          spared _ _ s holds Rollback (Ok Done) (answers_done s _ ⊥ Rollback s.working refl (λ never. never) refl)
          disk (started _ _ refl) (next s Rollback (Ok Done)) refl rests (started _ _ (touches_nothing _ _)) (reads_unsynced _ _ (started _ _ refl)) (holds_same _) (λ _. rw (rolled.blocks, rolled.kept, rolled.slot_name, rolled.committed, rolled.marked) (holds_alone holds.keeps rests));
      only_then = λ is. cc;
      memory = λ is. cc;
      goes = goes_grow _ _ _ nowhere;
      size = not_grown _ _ Rollback _ (λ grow. grow) nowhere;
      same = tt;
      unchanged = tt;
      blocks = λ alone. absurd alone;
      marked = λ honest is. absurd is;
      once = λ honest. tt;
      reads = λ honest. tt;
      few = tt;
      free = tt;
      written = λ is. cc;
      back = λ is. record { accepted = refl; disk = refl; entries = ap₂ (λ (es fs : List Version). (es, fs)) rolled.committed rolled.working; blocks = rolled.blocks; held = rolled.held; series = refl };
    }
