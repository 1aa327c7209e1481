use Rattle.std.proofs.Common.{map, inl, inr, refl}
use Rattle.std.specs.String.{string_bytes}
use Rattle.clap.specs.Words.{kind_of}
use Rattle.vm_cli.specs.program.Exits.{IsJob}
use Rattle.vm_cli.specs.program.Exits.AskSession.{for_input, for_lines}
use Rattle.vm_cli.specs.program.Words.Wanted.{check, copy, create, do_lines, draw, run}
use Rattle.vm_cli.proofs.ExitLemmas.{checked, copied, drawn, help_or_mistake, helped, made, mistaken, no_memory, answered}
use Rattle.vm_cli.proofs.FilesLemmas.{did_check, did_copy, did_create, did_draw, did_lines, did_nothing, did_run, looks_for, looks_with, no_fault, served_lines, served_none, served_other, served_run}
use Rattle.vm_cli.proofs.program.do_job.Goals as goal

pub returns-in-Ok-Create-clause-ends : goal.returns-in-Ok-Create-clause-ends
returns-in-Ok-Create-clause-ends g c =
    let words = map string_bytes c.args.words.now in
    let e = rw c.in-Ok-Create.field-0-is at c.in-Ok-Create.ensures in
    let job : IsJob words (create c.in-Ok-Create.file.now c.in-Ok-Create.blocks) = (e.faults, e.ok) in
    made words _ c.in-Ok-Create.file.now c.in-Ok-Create.blocks _ job c.create.ensures.says

pub returns-in-Ok-Run-clause-ends : goal.returns-in-Ok-Run-clause-ends
returns-in-Ok-Run-clause-ends g c =
    let words = map string_bytes c.args.words.now in
    let e = rw c.in-Ok-Run.field-0-is at c.in-Ok-Run.ensures in
    let job : IsJob words (run c.in-Ok-Run.file.now c.in-Ok-Run.in_memory c.in-Ok-Run.manner) = (e.faults, e.ok) in
    answered words _ _ c.in-Ok-Run.manner _ job (for_input c.in-Ok-Run.file.now c.in-Ok-Run.in_memory job) c.run.ensures.says

pub returns-in-Ok-Do-clause-ends : goal.returns-in-Ok-Do-clause-ends
returns-in-Ok-Do-clause-ends g c =
    let words = map string_bytes c.args.words.now in
    let e = rw c.in-Ok-Do.field-0-is at c.in-Ok-Do.ensures in
    let job : IsJob words (do_lines c.in-Ok-Do.file.now c.in-Ok-Do.input.items c.in-Ok-Do.in_memory c.in-Ok-Do.manner) = (e.faults, e.ok) in
    answered words _ _ c.in-Ok-Do.manner _ job (for_lines c.in-Ok-Do.file.now c.in-Ok-Do.input.items c.in-Ok-Do.in_memory job) c.run-in-Ok-Do.ensures.says

pub returns-in-Ok-Check-clause-ends : goal.returns-in-Ok-Check-clause-ends
returns-in-Ok-Check-clause-ends g c =
    let words = map string_bytes c.args.words.now in
    let e = rw c.in-Ok-Check.field-0-is at c.in-Ok-Check.ensures in
    let job : IsJob words (check c.in-Ok-Check.file.now) = (e.faults, e.ok) in
    checked words _ c.in-Ok-Check.file.now _ job c.check.ensures.says

pub returns-in-Ok-Tree-clause-ends : goal.returns-in-Ok-Tree-clause-ends
returns-in-Ok-Tree-clause-ends g c =
    let words = map string_bytes c.args.words.now in
    let e = rw c.in-Ok-Tree.field-0-is at c.in-Ok-Tree.ensures in
    let job : IsJob words (draw c.in-Ok-Tree.file.now) = (e.faults, e.ok) in
    drawn words _ c.in-Ok-Tree.file.now _ job c.tree.ensures.says

pub returns-in-Ok-Copy-clause-ends : goal.returns-in-Ok-Copy-clause-ends
returns-in-Ok-Copy-clause-ends g c =
    let words = map string_bytes c.args.words.now in
    let e = rw c.in-Ok-Copy.field-0-is at c.in-Ok-Copy.ensures in
    let job : IsJob words (copy c.in-Ok-Copy.file.now c.in-Ok-Copy.to.now c.in-Ok-Copy.blocks) = (e.faults, e.ok) in
    copied words _ c.in-Ok-Copy.file.now c.in-Ok-Copy.to.now c.in-Ok-Copy.blocks _ job c.copy.ensures.says

pub returns-in-Err-clause-ends : goal.returns-in-Err-clause-ends
returns-in-Err-clause-ends g c =
    let words = map string_bytes c.args.words.now in
    elim c.in-Err.ensures.faults [
      | inl memory ↦ let m = c.explain.ensures.memory memory in no_memory words _ _ m.0 m.1 m.2
      | inr among ↦ elim (help_or_mistake (kind_of c.in-Err.error)) [
        | inl help ↦ helped words _ (kind_of c.in-Err.error) _ help among (c.explain.ensures.help help)
        | inr wrong ↦ mistaken words _ (kind_of c.in-Err.error) _ wrong among (c.explain.ensures.wrong wrong)
      ]
    ]

pub returns-in-Ok-Create-clause-files : goal.returns-in-Ok-Create-clause-files
returns-in-Ok-Create-clause-files g c honest =
    let words = map string_bytes c.args.words.now in
    let e = rw c.in-Ok-Create.field-0-is at c.in-Ok-Create.ensures in
    let job : IsJob words (create c.in-Ok-Create.file.now c.in-Ok-Create.blocks) = (e.faults, e.ok) in
    did_create _ _ _ words _ _ _ job c.create.ensures.writes (c.create.ensures.files honest)

pub returns-in-Ok-Run-clause-files : goal.returns-in-Ok-Run-clause-files
returns-in-Ok-Run-clause-files g c honest =
    let words = map string_bytes c.args.words.now in
    let e = rw c.in-Ok-Run.field-0-is at c.in-Ok-Run.ensures in
    let job : IsJob words (run c.in-Ok-Run.file.now c.in-Ok-Run.in_memory c.in-Ok-Run.manner) = (e.faults, e.ok) in
    did_run _ _ _ words _ c.in-Ok-Run.file.now c.in-Ok-Run.in_memory c.in-Ok-Run.manner job c.run.ensures.writes (c.run.ensures.files honest)

pub returns-in-Ok-Do-clause-files : goal.returns-in-Ok-Do-clause-files
returns-in-Ok-Do-clause-files g c honest =
    let words = map string_bytes c.args.words.now in
    let e = rw c.in-Ok-Do.field-0-is at c.in-Ok-Do.ensures in
    let job : IsJob words (do_lines c.in-Ok-Do.file.now c.in-Ok-Do.input.items c.in-Ok-Do.in_memory c.in-Ok-Do.manner) = (e.faults, e.ok) in
    let files = rw c.as_slice-lines.ensures.value at (c.run-in-Ok-Do.ensures.files honest) in
    did_lines _ _ _ words _ c.in-Ok-Do.file.now c.in-Ok-Do.input.items c.in-Ok-Do.in_memory c.in-Ok-Do.manner job c.run-in-Ok-Do.ensures.writes files

pub returns-in-Ok-Check-clause-files : goal.returns-in-Ok-Check-clause-files
returns-in-Ok-Check-clause-files g c honest =
    let words = map string_bytes c.args.words.now in
    let e = rw c.in-Ok-Check.field-0-is at c.in-Ok-Check.ensures in
    let job : IsJob words (check c.in-Ok-Check.file.now) = (e.faults, e.ok) in
    did_check _ _ _ words _ c.in-Ok-Check.file.now job c.check.ensures.reads (c.check.ensures.files honest)

pub returns-in-Ok-Tree-clause-files : goal.returns-in-Ok-Tree-clause-files
returns-in-Ok-Tree-clause-files g c honest =
    let words = map string_bytes c.args.words.now in
    let e = rw c.in-Ok-Tree.field-0-is at c.in-Ok-Tree.ensures in
    let job : IsJob words (draw c.in-Ok-Tree.file.now) = (e.faults, e.ok) in
    did_draw _ _ _ words _ c.in-Ok-Tree.file.now job c.tree.ensures.reads (c.tree.ensures.files honest)

pub returns-in-Ok-Copy-clause-files : goal.returns-in-Ok-Copy-clause-files
returns-in-Ok-Copy-clause-files g c honest =
    let words = map string_bytes c.args.words.now in
    let e = rw c.in-Ok-Copy.field-0-is at c.in-Ok-Copy.ensures in
    let job : IsJob words (copy c.in-Ok-Copy.file.now c.in-Ok-Copy.to.now c.in-Ok-Copy.blocks) = (e.faults, e.ok) in
    did_copy _ _ _ words _ c.in-Ok-Copy.file.now c.in-Ok-Copy.to.now c.in-Ok-Copy.blocks job (c.copy.ensures.files honest)

pub returns-in-Err-clause-files : goal.returns-in-Err-clause-files
returns-in-Err-clause-files g c honest =
    let words = map string_bytes c.args.words.now in
    did_nothing _ _ _ words _ refl (λ job asked. elim c.in-Err.ensures.faults [
      | inl memory ↦ (c.explain.ensures.memory memory).0
      | inr among ↦ absurd (no_fault (kind_of c.in-Err.error) words job asked among)
    ])

pub returns-in-Ok-Create-clause-looks : goal.returns-in-Ok-Create-clause-looks
returns-in-Ok-Create-clause-looks g c =
    let words = map string_bytes c.args.words.now in
    let e = rw c.in-Ok-Create.field-0-is at c.in-Ok-Create.ensures in
    let job : IsJob words (create c.in-Ok-Create.file.now c.in-Ok-Create.blocks) = (e.faults, e.ok) in
    looks_for _ words (create c.in-Ok-Create.file.now c.in-Ok-Create.blocks) job (λ looks. absurd looks)

pub returns-in-Ok-Run-clause-looks : goal.returns-in-Ok-Run-clause-looks
returns-in-Ok-Run-clause-looks g c =
    let words = map string_bytes c.args.words.now in
    let e = rw c.in-Ok-Run.field-0-is at c.in-Ok-Run.ensures in
    let job : IsJob words (run c.in-Ok-Run.file.now c.in-Ok-Run.in_memory c.in-Ok-Run.manner) = (e.faults, e.ok) in
    looks_for _ words (run c.in-Ok-Run.file.now c.in-Ok-Run.in_memory c.in-Ok-Run.manner) job (λ looks. looks_with c.in-Ok-Run.manner.on_command _ _ c.run.ensures.writes looks)

pub returns-in-Ok-Do-clause-looks : goal.returns-in-Ok-Do-clause-looks
returns-in-Ok-Do-clause-looks g c =
    let words = map string_bytes c.args.words.now in
    let e = rw c.in-Ok-Do.field-0-is at c.in-Ok-Do.ensures in
    let job : IsJob words (do_lines c.in-Ok-Do.file.now c.in-Ok-Do.input.items c.in-Ok-Do.in_memory c.in-Ok-Do.manner) = (e.faults, e.ok) in
    looks_for _ words (do_lines c.in-Ok-Do.file.now c.in-Ok-Do.input.items c.in-Ok-Do.in_memory c.in-Ok-Do.manner) job (λ looks. looks_with c.in-Ok-Do.manner.on_command _ _ c.run-in-Ok-Do.ensures.writes looks)

pub returns-in-Ok-Check-clause-looks : goal.returns-in-Ok-Check-clause-looks
returns-in-Ok-Check-clause-looks g c =
    let words = map string_bytes c.args.words.now in
    let e = rw c.in-Ok-Check.field-0-is at c.in-Ok-Check.ensures in
    let job : IsJob words (check c.in-Ok-Check.file.now) = (e.faults, e.ok) in
    looks_for _ words (check c.in-Ok-Check.file.now) job (λ looks. c.check.ensures.reads)

pub returns-in-Ok-Tree-clause-looks : goal.returns-in-Ok-Tree-clause-looks
returns-in-Ok-Tree-clause-looks g c =
    let words = map string_bytes c.args.words.now in
    let e = rw c.in-Ok-Tree.field-0-is at c.in-Ok-Tree.ensures in
    let job : IsJob words (draw c.in-Ok-Tree.file.now) = (e.faults, e.ok) in
    looks_for _ words (draw c.in-Ok-Tree.file.now) job (λ looks. c.tree.ensures.reads)

pub returns-in-Ok-Copy-clause-looks : goal.returns-in-Ok-Copy-clause-looks
returns-in-Ok-Copy-clause-looks g c =
    let words = map string_bytes c.args.words.now in
    let e = rw c.in-Ok-Copy.field-0-is at c.in-Ok-Copy.ensures in
    let job : IsJob words (copy c.in-Ok-Copy.file.now c.in-Ok-Copy.to.now c.in-Ok-Copy.blocks) = (e.faults, e.ok) in
    looks_for _ words (copy c.in-Ok-Copy.file.now c.in-Ok-Copy.to.now c.in-Ok-Copy.blocks) job (λ looks. absurd looks)

pub returns-in-Err-clause-looks : goal.returns-in-Err-clause-looks
returns-in-Err-clause-looks g c = record { looks = λ job is looks. refl; none = λ no. refl }

pub returns-in-Ok-Create-clause-served : goal.returns-in-Ok-Create-clause-served
returns-in-Ok-Create-clause-served g c =
    let words = map string_bytes c.args.words.now in
    let e = rw c.in-Ok-Create.field-0-is at c.in-Ok-Create.ensures in
    let job : IsJob words (create c.in-Ok-Create.file.now c.in-Ok-Create.blocks) = (e.faults, e.ok) in
    served_other _ _ _ words _ (create c.in-Ok-Create.file.now c.in-Ok-Create.blocks) job (λ name in_memory on same. cc) (λ name lines in_memory on same. cc)

pub returns-in-Ok-Check-clause-served : goal.returns-in-Ok-Check-clause-served
returns-in-Ok-Check-clause-served g c =
    let words = map string_bytes c.args.words.now in
    let e = rw c.in-Ok-Check.field-0-is at c.in-Ok-Check.ensures in
    let job : IsJob words (check c.in-Ok-Check.file.now) = (e.faults, e.ok) in
    served_other _ _ _ words _ (check c.in-Ok-Check.file.now) job (λ name in_memory on same. cc) (λ name lines in_memory on same. cc)

pub returns-in-Ok-Tree-clause-served : goal.returns-in-Ok-Tree-clause-served
returns-in-Ok-Tree-clause-served g c =
    let words = map string_bytes c.args.words.now in
    let e = rw c.in-Ok-Tree.field-0-is at c.in-Ok-Tree.ensures in
    let job : IsJob words (draw c.in-Ok-Tree.file.now) = (e.faults, e.ok) in
    served_other _ _ _ words _ (draw c.in-Ok-Tree.file.now) job (λ name in_memory on same. cc) (λ name lines in_memory on same. cc)

pub returns-in-Ok-Copy-clause-served : goal.returns-in-Ok-Copy-clause-served
returns-in-Ok-Copy-clause-served g c =
    let words = map string_bytes c.args.words.now in
    let e = rw c.in-Ok-Copy.field-0-is at c.in-Ok-Copy.ensures in
    let job : IsJob words (copy c.in-Ok-Copy.file.now c.in-Ok-Copy.to.now c.in-Ok-Copy.blocks) = (e.faults, e.ok) in
    served_other _ _ _ words _ (copy c.in-Ok-Copy.file.now c.in-Ok-Copy.to.now c.in-Ok-Copy.blocks) job (λ name in_memory on same. cc) (λ name lines in_memory on same. cc)

pub returns-in-Ok-Run-clause-served : goal.returns-in-Ok-Run-clause-served
returns-in-Ok-Run-clause-served g c =
    let words = map string_bytes c.args.words.now in
    let e = rw c.in-Ok-Run.field-0-is at c.in-Ok-Run.ensures in
    let job : IsJob words (run c.in-Ok-Run.file.now c.in-Ok-Run.in_memory c.in-Ok-Run.manner) = (e.faults, e.ok) in
    served_run _ _ _ words _ c.in-Ok-Run.file.now c.in-Ok-Run.in_memory c.in-Ok-Run.manner job c.run.ensures.served

pub returns-in-Ok-Do-clause-served : goal.returns-in-Ok-Do-clause-served
returns-in-Ok-Do-clause-served g c =
    let words = map string_bytes c.args.words.now in
    let e = rw c.in-Ok-Do.field-0-is at c.in-Ok-Do.ensures in
    let job : IsJob words (do_lines c.in-Ok-Do.file.now c.in-Ok-Do.input.items c.in-Ok-Do.in_memory c.in-Ok-Do.manner) = (e.faults, e.ok) in
    let serves = rw c.as_slice-lines.ensures.value at c.run-in-Ok-Do.ensures.served in
    served_lines _ _ _ words _ c.in-Ok-Do.file.now c.in-Ok-Do.input.items c.in-Ok-Do.in_memory c.in-Ok-Do.manner job serves

pub returns-in-Err-clause-served : goal.returns-in-Err-clause-served
returns-in-Err-clause-served g c =
    let words = map string_bytes c.args.words.now in
    served_none _ _ _ words _
    (λ name in_memory on asked. elim c.in-Err.ensures.faults [
      | inl memory ↦ ((c.explain.ensures.memory memory).0, refl)
      | inr among ↦ absurd (no_fault (kind_of c.in-Err.error) words (run name in_memory on) asked among)
    ])
    (λ name lines in_memory on asked. elim c.in-Err.ensures.faults [
      | inl memory ↦ ((c.explain.ensures.memory memory).0, refl)
      | inr among ↦ absurd (no_fault (kind_of c.in-Err.error) words (do_lines name lines in_memory on) asked among)
    ])
