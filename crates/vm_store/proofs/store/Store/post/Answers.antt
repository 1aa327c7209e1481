use Rattle.std.proofs.Common.{rules, inl, Err, refl, ap, arith, sym, ◌∙◌}
use Rattle.vm_types.specs.declared.command.Command.TheVariants.{Post}
use Rattle.vm_types.specs.Firsts.{change_first}
use Rattle.vm_disk.proofs.MomentLemmas.{started}
use Rattle.vm_tree.specs.Faults.{refusal_of}
use Rattle.vm_tree.proofs.Looking.{passed_on}
use Rattle.vm_store.specs.Rest.{spare_of}
use Rattle.vm_store.specs.Sizes.{sizes}
use Rattle.vm_store.specs.Versions.{is_alternative_of, with_base}
use Rattle.vm_store.proofs.CarryLemmas.{looked, stayed}
use Rattle.vm_store.proofs.PairLemmas.{lacking, own_there, parent_there, post_step, post_refused, post_rests, told_equal, told_other}
use Rattle.vm_store.proofs.PerformLemmas.{performs_post}
use Rattle.vm_store.proofs.RestingLemmas.{read_rests, rests_as}
use Rattle.vm_store.proofs.SharedLemmas.{few_with_parent}
use Rattle.vm_store.proofs.SidesLemmas.{rooted_map}
use Rattle.vm_store.proofs.VersionLemmas.{answers_refused, answers_done}
use Rattle.vm_store.proofs.SeriesLemmas.{holds_alone, read_holds}
use Rattle.vm_store.specs.declared.version.Version.{Version}
use Rattle.vm_store.proofs.store.Store.post.Goals as goal

pub returns-in_err-own : goal.returns-in_err-own
returns-in_err-own g c =
    let alt = c.args.alt.now in
    rw (passed_on _ c.from_residual.ensures.1)
    (performs_post _ _ _ alt
    (λ honest s holds. stayed _ s holds (Post alt) _ (answers_refused s (spare_of holds.rests) ⊥ (Post alt) c.in_err-own.field-0.0 (lacking _ _ _ _ _ _ s holds.rests alt _ c.in_err-own.field-0.0 c.in_err-own.ensures.none)))
    (λ honest s holds. omega arith) (λ honest. started _ _ refl) (search rules) (search rules) refl (λ early. search rules) refl)

pub returns-then-not-branch : goal.returns-then-not-branch
returns-then-not-branch g c =
    let alt = c.args.alt.now in
    let pair : Version × Version = (c.in_ok-own.own, c.in_ok-own.parent) in
    let is = c.in_ok-own.ensures.found in
    let same = c.in_ok-same.ensures in
    performs_post _ _ _ alt
    (λ honest s holds.
    let rests = holds.rests in
    let own = own_there _ _ _ _ _ _ s rests alt pair is in
    let parent = parent_there _ _ _ _ _ _ s rests alt pair is in
    let told = same.equal honest sizes _ _ _ _ own.stands.base.rooted parent.stands.current.rooted in
    let holds' = read_holds _ _ _ _ _ _ _ _ _ s (same.looks.reads honest) holds in
    looked _ _ s holds (Post alt) _ (answers_refused s (spare_of rests) ⊥ (Post alt) _ (post_refused _ _ _ _ _ _ s rests alt pair is (told_other _ _ _ told c.if-not-branch.true)))
    (same.looks.reads honest) holds'.rests (λ _. holds'))
    (λ honest s holds. few_with_parent (g.D.Disk.state c.args.self.now.disk) (g.D.Disk.state c.same.new.disk) _ _ _ _ _ s holds.rests alt pair is honest same.bound)
    same.looks.reads (search rules) (search rules) refl (λ early. search rules) refl

pub returns-in_err-same : goal.returns-in_err-same
returns-in_err-same g c =
    let alt = c.args.alt.now in
    let pair : Version × Version = (c.in_ok-own.own, c.in_ok-own.parent) in
    let is = c.in_ok-own.ensures.found in
    let same = c.in_err-same.ensures in
    rw (passed_on _ c.from_residual-in_err-same.ensures.1)
    (performs_post _ _ _ alt
    (λ honest s holds.
    let rests = holds.rests in
    let own = own_there _ _ _ _ _ _ s rests alt pair is in
    let parent = parent_there _ _ _ _ _ _ s rests alt pair is in
    let holds' = read_holds _ _ _ _ _ _ _ _ _ s (same.looks.reads honest) holds in
    looked _ _ s holds (Post alt) _ (inl (ap Err (ap refusal_of (same.equal honest sizes _ _ _ _ own.stands.base.rooted parent.stands.current.rooted))))
    (same.looks.reads honest) holds'.rests (λ _. holds'))
    (λ honest s holds. few_with_parent (g.D.Disk.state c.args.self.now.disk) (g.D.Disk.state c.same.new.disk) _ _ _ _ _ s holds.rests alt pair is honest same.bound)
    same.looks.reads (search rules) (search rules) refl (λ early. search rules) refl)

pub returns : goal.returns
returns g c =
    let alt = c.args.alt.now in
    let pair : Version × Version = (c.in_ok-own.own, c.in_ok-own.parent) in
    let is = c.in_ok-own.ensures.found in
    let same = c.in_ok-same.ensures in
    performs_post _ _ _ alt
    (λ honest s holds.
    let rests = holds.rests in
    let own = own_there _ _ _ _ _ _ s rests alt pair is in
    let parent = parent_there _ _ _ _ _ _ s rests alt pair is in
    let told = same.equal honest sizes _ _ _ _ own.stands.base.rooted parent.stands.current.rooted in
    let equal = told_equal _ _ _ (rooted_map _ _ _ _ _ own.stands.base.rooted) (rooted_map _ _ _ _ _ parent.stands.current.rooted) told c.if-not-branch.false in
    let both = c.set_base.ensures ∙ ap (change_first (is_alternative_of alt) (with_base c.in_ok-own.own.current)) c.set_current.ensures in
    looked _ _ s holds (Post alt) _ (answers_done s (spare_of rests) ⊥ (Post alt) _ refl (λ never. never) (post_step _ _ _ _ _ _ s rests alt pair is equal))
    (same.looks.reads honest) (read_rests _ _ _ _ _ _ _ s (same.looks.reads honest) rests)
    (λ _. holds_alone holds.keeps (read_rests _ _ _ _ _ _ _ _ (same.looks.reads honest)
    (rests_as _ _ _ _ _ _ _ _ (sym both) (post_rests _ _ _ _ _ _ s rests alt pair is equal)))))
    (λ honest s holds. few_with_parent (g.D.Disk.state c.args.self.now.disk) (g.D.Disk.state c.same.new.disk) _ _ _ _ _ s holds.rests alt pair is honest same.bound)
    same.looks.reads (search rules) (search rules) tt tt refl
