use Rattle.std.proofs.Common.{◌≡◌, Some, refl, ap, ◌∙◌}
use Rattle.byteorder.specs.Endian.{little_number}
use Rattle.vm_block.proofs.SlotLemmas.{entry_parts, rest_all, entry_is}
use Rattle.vm_block.proofs.slot.read_fields.Goals as goal

pub returns-in_default-clause-only : goal.returns-in_default-clause-only
returns-in_default-clause-only c = λ e entry.
    let parts = entry_parts c.args.bytes.now e entry in
    let read = c.in_default.ensures e.kind parts.tag in
    cc read

pub returns-in_default-read_name-clause-only : goal.returns-in_default-read_name-clause-only
returns-in_default-read_name-clause-only c = λ e entry.
    let parts = entry_parts c.args.bytes.now e entry in
    let read = c.in_default-read_name.ensures.only e.name parts.behind_name entry.fits.name (rest_all c.args.bytes.now 1 _ refl ∙ parts.name) in
    cc read

pub returns-in_default-read_owner-clause-only : goal.returns-in_default-read_owner-clause-only
returns-in_default-read_owner-clause-only c = λ e entry.
    let parts = entry_parts c.args.bytes.now e entry in
    let read = c.in_default-read_owner.ensures.only e.owner parts.behind_owner entry.fits.owner (rest_all c.args.bytes.now 34 _ refl ∙ parts.owner) in
    cc read

pub returns-clause-only : goal.returns-clause-only
returns-clause-only c = λ e entry.
    let parts = entry_parts c.args.bytes.now e entry in
    let kind : c.in-Some.kind ≡ e.kind = cc (c.in-Some.ensures e.kind parts.tag) in
    let name : c.in-Some-read_name.name ≡ e.name = cc (c.in-Some-read_name.ensures.only e.name parts.behind_name entry.fits.name (rest_all c.args.bytes.now 1 _ refl ∙ parts.name)) in
    let owner : c.in-Some-read_owner.owner ≡ e.owner = cc (c.in-Some-read_owner.ensures.only e.owner parts.behind_owner entry.fits.owner (rest_all c.args.bytes.now 34 _ refl ∙ parts.owner)) in
    let current : c.read_u32.result ≡ e.current = c.read_u32.ensures ∙ ap (little_number 4) (rest_all c.args.bytes.now 67 _ refl) ∙ parts.current in
    let base : c.read_u32-2.result ≡ e.base = c.read_u32-2.ensures ∙ ap (little_number 4) (rest_all c.args.bytes.now 71 _ refl) ∙ parts.base in
    ap Some (entry_is _ e kind name owner current base)
