use Rattle.std.proofs.Common.{◌≡◌, ◌≢◌, ◌∙◌, ap, inl, inr, arith, length, refl, sym}
use Rattle.vm_types.specs.declared.refusal.Refusal.TheVariants.{AlreadyAStore, BadSize, Device}
use Rattle.vm_cli.specs.program.Copies.ToldOfCopy.{copied, failed, refused, unnamed}
use Rattle.vm_cli.specs.program.Copies.ToldOfDrop.{stops, tells_refusal}
use Rattle.vm_cli.specs.program.Copies.ToldOfName.{name_denied, name_given}
use Rattle.vm_cli.proofs.CopyingLemmas.{why_none}
use Rattle.vm_cli.proofs.FilesLemmas.{enough_blocks}
use Rattle.vm_cli.specs.program.Exits.SaysNoCopy.{copy_refused}
use Rattle.vm_cli.specs.declared.program.opening.NoStore.TheVariants.{Refused}
use Rattle.vm_cli.proofs.program.store_copy.copy_onto.Goals as goal

pub returns-in-Ok-clause-told : goal.returns-in-Ok-clause-told
returns-in-Ok-clause-told g c enough apart place honest well s holds =
    let named = c.name_copy.ensures.named apart place in
    let back = named.back.honest in
    let is_copy = c.in-Ok.ensures.copied honest s holds back in
    record {
      end = g.P.D.Disk.state c.in-Ok.copy;
      was = c.in-Ok.ensures.both.target.earlier back;
      back = named.back;
      moments = c.in-Ok.ensures.moments honest s holds back;
      told = elim named.told [
        | name_given absent name told ↦ copied is_copy absent name told
        | name_denied kept denies told ↦ unnamed kept is_copy denies told
      ];
    }

pub returns-in-Err-clause-told : goal.returns-in-Err-clause-told
returns-in-Err-clause-told g c enough apart place honest well s holds =
    let start = g.P.D.Disk.state c.args.disk in
    let said = c.in-Err.ensures in
    let dropped = c.drop_copy.ensures.dropped place in
    let size = said.bad_size well in
    let why : c.in-Err.refusal ≢ Device → _ =
    λ device. why_none c.args.size.blocks start (g.P.D.Disk.state c.in-Err.disk) c.in-Err.refusal (said.refusals honest s holds)
    (λ is. let failed = said.failed.0 is in cc) size.0 (λ first. ap g.P.D.Disk.state (said.untouched first).0)
    (λ is. record {
      least = enough_blocks c.args.size.blocks start.blocks (length start.now.contents)
          (λ bad. let no : AlreadyAStore ≡ BadSize = sym is ∙ size.1 bad in absurd cc) (g.met.P.D.Disk.whole c.args.disk (said.both.target.earlier dropped.honest));
      header = said.spares.already dropped.honest is;
    })
    device (λ is. let lacks = said.full honest s holds is in absurd (omega arith)) in
    let kept = dropped.others c.args.to.now (λ is. apart (sym is)) in
    record {
      end = g.P.D.Disk.state c.in-Err.disk;
      was = said.both.target.earlier dropped.honest;
      back = record {
        honest = dropped.honest;
        came = dropped.came;
        left = dropped.left;
        others = λ other off_part off_to. dropped.others other off_part;
      };
      moments = said.moments honest s holds dropped.honest;
      told = elim dropped.told [
        | stops device stopped ↦ failed kept stopped (said.both.fault device)
        | tells_refusal device told ↦ refused kept c.in-Err.refusal (why device) told
      ];
    }

pub returns-in-Err-clause-ends : goal.returns-in-Err-clause-ends
returns-in-Err-clause-ends g c =
    elim c.drop_copy.ensures.ends [
      | inl stopped ↦ inl (stopped.1, inr (stopped.0, refl))
      | inr told ↦ inr (refl, (_, copy_refused (Refused c.in-Err.refusal), told))
    ]
