use Rattle.std.proofs.Common.{◌<◌, ◌≤◌, ◌+◌, length, refl, rules}
use Rattle.vm_cli.proofs.Parts.{holds-kept, holds-long, holds-longer, holds-no_memory, holds-none}
use Rattle.vm_cli.proofs.lines.line.Line.extend.Goals as goal

pub returns-then-is_empty : goal.returns-then-is_empty
returns-then-is_empty c = λ part h. holds-none part c.args.bytes.now c.args.self.now (search rules) h

pub returns-then-len-bytes-gt-MAX_BYTES : goal.returns-then-len-bytes-gt-MAX_BYTES
returns-then-len-bytes-gt-MAX_BYTES c = λ part h.
    let some : 0 < length c.args.bytes.now = search rules in
    let full : 1048576 < length c.args.self.now.bytes.items + length c.args.bytes.now = search rules in
    holds-long part c.args.bytes.now c.args.self.now _ c.requires some h refl c.in-Kept.is full refl

pub returns-then-is_err : goal.returns-then-is_err
returns-then-is_err c = λ part h.
    let some : 0 < length c.args.bytes.now = search rules in
    holds-no_memory part c.args.bytes.now c.args.self.now _ c.requires some h refl refl

pub returns-else-is_err : goal.returns-else-is_err
returns-else-is_err c = λ part h.
    let some : 0 < length c.args.bytes.now = search rules in
    let room : length c.args.self.now.bytes.items + length c.args.bytes.now ≤ 1048576 = search rules in
    holds-kept part c.args.bytes.now c.args.self.now _ c.requires some h refl c.in-Kept.is room c.in-Kept.is (search rules)

pub returns-in-Long : goal.returns-in-Long
returns-in-Long c = λ part h.
    let some : 0 < length c.args.bytes.now = search rules in
    holds-longer part c.args.bytes.now c.args.self.now _ c.requires some h refl c.in-Long.is c.in-Long.is

pub returns-in-NoMemory : goal.returns-in-NoMemory
returns-in-NoMemory c = λ part h.
    let some : 0 < length c.args.bytes.now = search rules in
    holds-no_memory part c.args.bytes.now c.args.self.now _ c.requires some h refl c.in-NoMemory.is
