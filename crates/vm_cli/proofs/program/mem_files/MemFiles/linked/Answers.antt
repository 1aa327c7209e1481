use Rattle.std.proofs.Common.{◌≡◌, Some, ap, sym, ◌∙◌, string_bytes}
use Rattle.vm_disk.specs.Memory.{memory_state}
use Rattle.vm_disk.specs.declared.memory.MemDisk.{MemDisk}
use Rattle.vm_cli.specs.program.MemFiles.{files_state}
use Rattle.vm_cli.proofs.MemFilesLemmas.{links, ok_is}
use Rattle.vm_cli.proofs.program.mem_files.MemFiles.linked.Goals as goal

pub returns-clause-honest : goal.returns-clause-honest
returns-clause-honest c honest =
    let named : string_bytes c.in_ok-name.name ≡ c.args.to.now = ok_is _ _ _ (sym c.ok.ensures.value ∙ c.in_ok-name.was) c.from_str.ensures.ok in
    let updates = ok_is _ _ _ (sym c.ok-2.ensures.value ∙ c.in_ok-ok.was) c.insert.ensures.updates in
    links c.taken.new.self.honest c.args.to.now c.taken.new.self.slots c.insert.new.self _ (string_bytes c.in_ok-name.name) named updates
    c.args.from.now (files_state c.args.self.now) c.in_ok-disk.ensures.stays (memory_state c.in_ok-disk.disk) c.in_ok-disk.ensures.taken
    (sym c.has.ensures ∙ c.if-has.false) (ap memory_state c.of-held.ensures) (ap (λ (d : MemDisk). Some (memory_state d).now.contents) c.of-held.ensures)
