use Rattle.std.proofs.Common.{rules, ◌≡◌, inl, inr, ◌∙◌, ◌≤◌, ℕ, Bool, true, List, None, Ok, Err, length, refl, subst, sym, ap, arith}
use Rattle.vm_types.specs.declared.command.Command.TheVariants.{Grow}
use Rattle.vm_types.specs.State.{State, next}
use Rattle.vm_types.specs.declared.answer.Answer.TheVariants.{Done}
use Rattle.vm_types.specs.declared.refusal.Refusal.TheVariants.{BadSize, Memory}
use Rattle.vm_types.proofs.Growing.{no_more_is_bad, too_many_is_bad}
use Rattle.vm_disk.specs.Disk.{Enlarges}
use Rattle.vm_disk.specs.Moments.{Throughout}
use Rattle.vm_alloc.specs.Held.{IsHeld}
use Rattle.vm_tree.proofs.Looking.{passed_on}
use Rattle.vm_store.specs.Guarded.{IsGuarded}
use Rattle.vm_store.specs.Rest.{HoldsWith}
use Rattle.vm_store.specs.Store.{Holds}
use Rattle.vm_store.specs.declared.store.parts.Parts.{Parts}
use Rattle.vm_store.proofs.LongerLemmas.{grow_is_accepted, grow_is_refused, longer_crash, longer_guarded, longer_unsynced, rests_longer, still_held}
use Rattle.vm_store.proofs.PerformLemmas.{performs_grow, refuses_grow}
use Rattle.vm_store.proofs.SeriesLemmas.{holds_alone}
use Rattle.vm_store.proofs.store.Store.grow.Goals as goal
use Rattle.vm_store.proofs.store.Store.grow.Goals.{then-blocks-self-via-then-blocks-self, then-blocks-self-via-else-blocks-self+then-blocks-gt-MAX_BLOCKS}

pub returns-then-blocks-self : goal.returns-then-blocks-self
returns-then-blocks-self g c =
    refuses_grow c.args.self.now c.args.blocks BadSize (λ is. cc, λ is. cc)
    (λ s holds. elim c.then-blocks-self.branch [
      | then-blocks-self-via-then-blocks-self w ↦ grow_is_refused s c.args.blocks (no_more_is_bad s.blocks c.args.blocks (omega (arith, w.if-blocks-self.true, holds.rests.blocks)))
      | then-blocks-self-via-else-blocks-self+then-blocks-gt-MAX_BLOCKS w ↦ grow_is_refused s c.args.blocks (too_many_is_bad s.blocks c.args.blocks (omega (arith, w.if-blocks-gt-MAX_BLOCKS.true)))
    ])

pub returns-in_default : goal.returns-in_default
returns-in_default g c = refuses_grow c.args.self.now c.args.blocks Memory (λ is. cc, λ is. cc) (λ s holds. grow_is_accepted s _ _ _ holds.rests.blocks c.if-blocks-self.false c.if-blocks-gt-MAX_BLOCKS.false (inr (inl refl)))

pub returns-in_default-new : goal.returns-in_default-new
returns-in_default-new g c = refuses_grow c.args.self.now c.args.blocks Memory (λ is. cc, λ is. cc) (λ s holds. grow_is_accepted s _ _ _ holds.rests.blocks c.if-blocks-self.false c.if-blocks-gt-MAX_BLOCKS.false (inr (inl refl)))

pub returns-in_default-new-2 : goal.returns-in_default-new-2
returns-in_default-new-2 g c = refuses_grow c.args.self.now c.args.blocks Memory (λ is. cc, λ is. cc) (λ s holds. grow_is_accepted s _ _ _ holds.rests.blocks c.if-blocks-self.false c.if-blocks-gt-MAX_BLOCKS.false (inr (inl refl)))

pub returns-in_err-lengthen : goal.returns-in_err-lengthen
returns-in_err-lengthen g c =
    let old = c.args.self.now in
    let new = c.lengthen.new.self in
    let lengthened = c.lengthen.ensures in
    rw (passed_on _ c.from_residual.ensures.1 ∙ ap Err c.in_err-lengthen.ensures.only)
    (performs_grow old new _ c.args.blocks
    (λ honest s holds.
    let longer : Enlarges (g.D.Disk.state old.disk) (g.D.Disk.state new.disk) = lengthened.longer honest in
    record {
      answers = grow_is_accepted s _ _ _ holds.rests.blocks c.if-blocks-self.false c.if-blocks-gt-MAX_BLOCKS.false (inl refl);
      state = λ fine. absurd (fine refl);
      crash = longer_crash _ _ longer _ _ _ _ _ s holds.rests (Grow c.args.blocks);
      guarded = subst (λ (bits : List Bool). Throughout (g.D.Disk.state old.disk) (g.D.Disk.state new.disk) (IsGuarded bits)) (sym (ap (λ (p : Parts). p.held) lengthened.same.parts)) (longer_guarded _ _ longer _ _ _ _ _ s holds.rests old.parts.held (λ n held. held));
      unsynced = λ other. longer_unsynced _ _ longer;
    })
    (λ s holds. tt) (λ is. cc) (search rules) lengthened.no_more (λ early. absurd early) (search rules) (λ early. absurd early))

pub returns : goal.returns
returns g c =
    let old = c.args.self.now in
    let new = c.lengthen.new.self in
    let parts = c.grow_to.new.self in
    let grown = c.grow_to.ensures in
    let lengthened = c.lengthen.ensures in
    let still : (n : ℕ) → IsHeld old.parts.held n → IsHeld parts.held n = λ n held. subst (λ (bits : List Bool). IsHeld bits n) (sym (grown.held ∙ c.in-Ok.ensures.blocks)) (still_held old.parts.held _ n held) in
    let stands : (g.D.Disk.state new.disk).honest ≡ true → (s : State) → Holds old s → HoldsWith (g.D.Disk.state new.disk).now parts.blocks parts.kept parts.slot_name parts.held parts.before None parts.marked parts.committed parts.working (next s (Grow c.args.blocks) (Ok Done)) =
    λ honest s holds.
    let whole = g.met.D.Disk.whole new.disk honest in
    let inside : c.args.blocks ≤ length (g.D.Disk.state new.disk).now.contents = omega (arith, whole, c.in_ok-lengthen.ensures.all) in
    rw (grown.blocks, grown.kept, grown.slot_name, grown.committed, grown.working, grown.marked, lengthened.same.parts)
    (holds_alone holds.keeps (rests_longer _ _ (lengthened.longer honest).longer old.parts.blocks c.args.blocks old.parts.slot_name old.parts.held parts.held old.parts.committed old.parts.working s holds.rests still (omega (arith, c.if-blocks-self.false)) inside c.if-blocks-gt-MAX_BLOCKS.false)) in
    performs_grow old _ _ c.args.blocks
    (λ honest s holds.
    let longer : Enlarges (g.D.Disk.state old.disk) (g.D.Disk.state new.disk) = lengthened.longer honest in
    record {
      answers = grow_is_accepted s _ _ _ holds.rests.blocks c.if-blocks-self.false c.if-blocks-gt-MAX_BLOCKS.false (inr (inr refl));
      state = λ fine. stands honest s holds;
      crash = longer_crash _ _ longer _ _ _ _ _ s holds.rests (Grow c.args.blocks);
      guarded = longer_guarded _ _ longer _ _ _ _ _ s holds.rests parts.held still;
      unsynced = λ other. longer_unsynced _ _ longer;
    })
    (search rules) (λ is. cc) (search rules) lengthened.no_more tt tt tt
