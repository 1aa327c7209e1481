use Rattle.std.proofs.Common.{◌≡◌, ap, replicate}
use Rattle.testkit.proofs.recording_disk.RecordingDisk.bytes_in.Goals as goal

pub returns-in-Byte-clause-byte : goal.returns-in-Byte-clause-byte
returns-in-Byte-clause-byte c byte is = let same : c.in-Byte.byte ≡ byte = cc (c.in-Byte.is, is) in ap (replicate 4096) same
