use Rattle.std.proofs.Common.{◌≡◌, sym, ◌∙◌, string_bytes}
use Rattle.vm_disk.specs.Memory.{IsBlank, memory_state}
use Rattle.vm_cli.proofs.MemFilesLemmas.{creates, ok_is}
use Rattle.vm_cli.proofs.program.mem_files.MemFiles.made.Goals as goal

pub returns-clause-honest : goal.returns-clause-honest
returns-clause-honest c honest =
    let named : string_bytes c.in_ok-name.name ≡ c.args.file.now = ok_is _ _ _ (sym c.ok.ensures.value ∙ c.in_ok-name.was) c.from_str.ensures.ok in
    let blank : IsBlank c.args.blocks (memory_state c.in_ok-disk.disk) = ok_is _ _ _ (sym c.ok-2.ensures.value ∙ c.in_ok-disk.was) c.with_room.ensures.blank in
    let updates = ok_is _ _ _ (sym c.ok-3.ensures.value ∙ c.in_ok-ok.was) c.insert.ensures.updates in
    creates c.args.self.now.honest c.args.file.now c.args.self.now.slots c.insert.new.self _ (string_bytes c.in_ok-name.name) named updates
    c.args.blocks (sym c.has.ensures ∙ c.if-has.false) c.in_ok-disk.disk blank
