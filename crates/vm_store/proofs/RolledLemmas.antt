-- A store that goes back to what was committed.
use Rattle.std.proofs.Common.{◌≡◌, ℕ, ◌<◌, Bool, false, List, take, Ok, Err, refl, sym, ap, ◌∙◌, subst, arith}
use Rattle.std.proofs.lemmas.List.{get_or-take}
use Rattle.vm_types.specs.State.{State, next}
use Rattle.vm_types.specs.declared.answer.Answer.{Answer}
use Rattle.vm_types.specs.declared.command.Command.TheVariants.{Rollback}
use Rattle.vm_types.specs.declared.refusal.Refusal.{Refusal}
use Rattle.vm_disk.specs.Disk.{Medium}
use Rattle.vm_alloc.specs.Held.{IsHeld, is_held}
use Rattle.vm_block.specs.declared.selector.SlotName.{SlotName}
use Rattle.vm_tree.specs.Tree.{IsData}
use Rattle.vm_store.specs.Rest.{IsSafe, Rests}
use Rattle.vm_store.specs.declared.version.Version.{Version}
use Rattle.vm_store.proofs.StandingLemmas.{standing_data, standing_in}

-- a block that was held is held among the first blocks
pub held_first : (kept n : ℕ) (bits after : List Bool) → after ≡ take kept bits → n < kept → IsHeld bits n → IsHeld after n
held_first kept n bits after is low held = ap (λ (b : List Bool). is_held b n) is ∙ get_or-take kept bits n false low ∙ held

-- where each block up to the committed number is held that was, it stands for the committed state alone
pub rests_rolled : (m : Medium) (limit kept : ℕ) (slot_name : SlotName) (bits after : List Bool) (committed working copied : List Version) (s : State) (answer : Answer) → Rests m limit slot_name bits committed working s
    → kept ≡ s.kept → ((n : ℕ) → n < kept → IsHeld bits n → IsHeld after n) → copied ≡ committed → Rests m kept slot_name after committed copied (next s Rollback (Ok answer))
rests_rolled m limit kept slot_name bits after committed working copied s answer rests same still is =
    let rolled = next s Rollback (Ok answer) in
    let head = rests.rest.names.slot.fits.head in
    let placed = standing_data (IsSafe bits m) m.contents s.kept committed rests.old rests.safe in
    let rests' : Rests m s.kept slot_name after committed committed rolled = record {
      old = rests.old;
      new = rests.old;
      blocks = refl;
      fewer = omega arith;
      inside = omega (arith, rests.fewer, rests.inside);
      sure = rests.sure;
      system = λ n low. still n (omega (arith, low, head.least, same)) (rests.system n low);
      rest = rests.rest;
      fits = rests.rest.names.slot.fits;
      safe = standing_in (λ n. IsSafe bits m n × IsData s.kept n) (IsSafe after m) m.contents m.contents s.kept (λ n safe. refl)
          (λ n safe. record { held = still n (omega (arith, safe.1.1, same)) safe.0.held; clean = safe.0.clean }) committed rests.old placed;
      stands = standing_in (λ n. IsSafe bits m n × IsData s.kept n) (IsHeld after) m.contents m.contents s.kept (λ n safe. refl)
          (λ n safe. still n (omega (arith, safe.1.1, same)) safe.0.held) committed rests.old placed;
      gives_old = rests.gives_old;
      gives_new = rests.gives_old;
    } in
    subst (λ (n : ℕ). Rests m n slot_name after committed copied rolled) (sym same)
    (subst (λ (es : List Version). Rests m s.kept slot_name after committed es rolled) (sym is) rests')

-- an answer is no refusal
pub accepted_is_no_refusal : (answer : Answer) (refusal : Refusal) → Ok answer ≡ Err refusal → ⊥
accepted_is_no_refusal answer refusal is = cc
