-- One record under a block, from the blocks on the way down to it.
use Rattle.std.proofs.Common.{◌≡◌, ℕ, zero, suc, ◌+◌, ◌-◌, ◌*◌, ◌<◌, List, [], ◌∷◌, length, take, drop, sym, ap, ◌∙◌, subst, arith}
use Rattle.vm_types.specs.declared.key.Key.{Key}
use Rattle.vm_disk.specs.Disk.{Contents, Medium, block}
use Rattle.vm_block.specs.Head.{IsNodeHead}
use Rattle.vm_block.specs.Leaf.{HasRecords, Record}
use Rattle.vm_block.specs.declared.node.Child.{Child}
use Rattle.vm_block.proofs.HeadLemmas.{node_head_only, node_words}
use Rattle.vm_tree.specs.BlockReads.{StepsTo}
use Rattle.vm_tree.specs.Removal.{HasOne}

-- a leaf of one record
pub one_record : (x : Contents) (b : ℕ) (bytes : List ℕ) (rs : List Record) → bytes ≡ block x b → HasRecords bytes rs → length rs ≡ 1 → HasOne x 0 b
unfolding HasOne
one_record x b bytes [] is leaf one = absurd (omega (arith, one))
one_record x b bytes (r ∷ []) is leaf one = (r, subst (λ (z : List ℕ). HasRecords z (r ∷ [])) is leaf)
one_record x b bytes (r ∷ q ∷ rs) is leaf one = absurd (omega (arith, one))

-- the count of the head is that of the step
same_count : {p : ℕ} (x : Contents) (limit l b n : ℕ) (low : Key) (c : Child) → IsNodeHead (block x b) l n → (step : StepsTo x limit p l b low c) → n ≡ step.count
same_count {p} x limit l b n low c head step =
    (node_head_only (block x b) 1162104654 l n 0 l step.count (omega arith) (omega (arith, head.low)) (omega (arith, head.few)) (omega arith) (head.begins ∙ sym (node_words l n)) step.head).2

-- a block with one child, under which there is one record
pub one_child_on : {p : ℕ} (x y : Medium) (limit l b k n : ℕ) (low : Key) (c : Child) (bytes : List ℕ) → 0 < l → y ≡ x → bytes ≡ block x.contents b → IsNodeHead bytes k n → k ≡ l → n ≡ 1
    → StepsTo x.contents limit p l b low c → HasOne y.contents (l - 1) c.block → HasOne x.contents l b
unfolding HasOne
one_child_on {p} x y limit zero b k n low c bytes above still is head level one step rest = absurd (omega (arith, above))
one_child_on {p} x y limit (suc l) b k n low c bytes above still is head level one step rest =
    let same : suc l - 1 ≡ l = omega arith in
    let here : IsNodeHead (block x.contents b) (suc l) n = subst (λ (z : List ℕ). IsNodeHead z (suc l) n) is (subst (λ j. IsNodeHead bytes j n) level head) in
    let index : step.index ≡ 0 = omega (arith, step.within, same_count x.contents limit (suc l) b n low c here step, one) in
    let there = subst (λ (m : Medium). HasOne m.contents (suc l - 1) c.block) still rest in (
      c,
      subst (λ k. IsNodeHead (block x.contents b) (suc l) k) one here,
      ap (λ i. take 14 (drop (16 + 14 * i) (block x.contents b))) (sym index) ∙ step.spelled,
      subst (λ k. HasOne x.contents k c.block) same there,
    )
