use Rattle.std.proofs.Common.{refl}
use Rattle.vm_diff.proofs.records.Records.new.Goals as goal

pub returns : goal.returns
returns c = refl
