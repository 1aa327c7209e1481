use Rattle.std.proofs.Common.{ℕ, inl, inr, refl, ap, arith}
use Rattle.vm_tree.specs.declared.root.Root.{Root}
use Rattle.vm_check.specs.TreeCopy.{RootCopied}
use Rattle.vm_check.proofs.CopyLemmas.{rooted_copied}
use Rattle.vm_check.proofs.CopySteps.{same_fault}
use Rattle.vm_check.proofs.ReachedLemmas.{marked_so, none_copied, root_top}
use Rattle.vm_check.proofs.tree_copy.copy_tree.Goals as goal

pub returns-then-root-eq0-clause-tree : goal.returns-then-root-eq0-clause-tree
returns-then-root-eq0-clause-tree g c source target so_far sizes m bs rooted =
    rooted_copied _ _ _ _ c.args.numbers.now so_far sizes c.args.root c.args.root m bs (inl (c.if-root-eq0.true, refl)) rooted

pub returns-clause-tree : goal.returns-clause-tree
returns-clause-tree g c source target so_far sizes m bs rooted =
    let done = c.in_ok-block.ensures.copied source target so_far in
    let to : ℕ → Root = λ b. record { block = b; level = c.args.root.level; low = c.args.root.low } in
    let is : RootCopied c.copy_below.new.numbers c.args.root (to c.in_ok-block.block) = inr (omega (arith, c.if-root-eq0.false), omega (arith, done.1.0, done.1.1), ap to done.1.1) in
    rooted_copied _ _ _ _ c.copy_below.new.numbers done.0 sizes c.args.root (to c.in_ok-block.block) m bs is rooted

pub returns-then-root-eq0-clause-reached : goal.returns-then-root-eq0-clause-reached
returns-then-root-eq0-clause-reached g c source sizes bs under marks each = none_copied marks c.args.numbers.now (λ is. cc)

pub returns-in_err-block-clause-reached : goal.returns-in_err-block-clause-reached
returns-in_err-block-clause-reached g c source sizes bs under marks each =
    let top = root_top sizes _ c.args.blocks c.args.root bs c.if-root-eq0.false under in
    marked_so marks _ _ (c.in_err-block.ensures.reached source sizes top.0 bs top.1 marks each) (λ is. same_fault _ _ _ c.from_residual.ensures.1 is)

pub returns-clause-reached : goal.returns-clause-reached
returns-clause-reached g c source sizes bs under marks each =
    let top = root_top sizes _ c.args.blocks c.args.root bs c.if-root-eq0.false under in
    marked_so marks _ _ (c.in_ok-block.ensures.reached source sizes top.0 bs top.1 marks each) (λ is. cc)
