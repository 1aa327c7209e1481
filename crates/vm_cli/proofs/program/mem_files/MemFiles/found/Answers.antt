use Rattle.vm_disk.specs.Memory.{memory_state}
use Rattle.vm_cli.proofs.MemFilesLemmas.{crash_keeps, finds}
use Rattle.vm_cli.proofs.program.mem_files.MemFiles.found.Goals as goal

pub returns-clause-honest : goal.returns-clause-honest
returns-clause-honest c honest =
    let disk = c.in_ok-disk.disk in
    finds c.args.file.now _ _ c.in_ok-disk.ensures.stays (memory_state disk) c.in_ok-disk.ensures.taken (memory_state c.crash.result)
    (crash_keeps (memory_state disk).now (memory_state c.crash.result).now c.crash.ensures.blocks c.crash.ensures.filled) c.crash.ensures.left.clean c.crash.ensures.left.past
