-- A descent that leads down, from its steps.
use Rattle.std.proofs.Common.{◌≡◌, ℕ, zero, suc, ◌+◌, ◌-◌, ◌*◌, ◌<◌, List, take, drop, Result, Ok, Err, IfOk, refl, sym, ap, ◌∙◌, subst, arith}
use Rattle.vm_types.specs.declared.key.Key.{Key}
use Rattle.vm_disk.specs.Disk.{Contents, block, Medium}
use Rattle.vm_block.specs.Head.{IsNodeHead}
use Rattle.vm_block.specs.Node.{child_bytes}
use Rattle.vm_block.specs.declared.node.Child.{Child}
use Rattle.vm_block.specs.Way.{ChoosesAmong}
use Rattle.vm_tree.specs.BlockReads.{EndsAt, IsBlockAt, LeadsDown, StepsTo}
use Rattle.vm_tree.specs.declared.faults.TreeFault.{TreeFault}

-- the block that was read has the head of an inner block, and this child
pub steps_to : {p : ℕ} (x : Contents) (limit level b : ℕ) (low : Key) (bytes : List ℕ) (l n i : ℕ) (c : Child) → l ≡ level → IsBlockAt x limit b low bytes → IsNodeHead bytes l n → i < n → take 14 (drop (16 + 14 * i) bytes) ≡ child_bytes c → ChoosesAmong bytes 14 n p i
    → StepsTo x limit p level b low c
steps_to {p} x limit level b low bytes l n i c is at head lt spelled chosen = record {
  count = n;
  index = i;
  inside = at.inside;
  head = subst (λ m. IsNodeHead (block x b) m n) is (subst (λ (z : List ℕ). IsNodeHead z l n) at.bytes_are head);
  first = ap (λ (z : List ℕ). take 10 (drop 16 z)) (sym at.bytes_are) ∙ at.first;
  within = lt;
  spelled = ap (λ (z : List ℕ). take 14 (drop (16 + 14 * i) z)) (sym at.bytes_are) ∙ spelled;
  chosen = subst (λ (z : List ℕ). ChoosesAmong z 14 n p i) at.bytes_are chosen;
}

-- a descent that ends in a leaf
pub leads_end : (p : ℕ) (x : Contents) (most limit l b : ℕ) (low : Key) → l ≡ 0 → most ≡ limit → EndsAt x most b low → LeadsDown x limit p l b low
unfolding LeadsDown
leads_end p x most limit zero b low none is end = subst (λ n. EndsAt x n b low) is end
leads_end p x most limit (suc l) b low none is end = absurd (omega (arith, none))

-- a descent that goes on from one step
pub leads_on : {p : ℕ} (x y : Medium) (most limit l b : ℕ) (low : Key) (c : Child) → 0 < l → most ≡ limit → y ≡ x → StepsTo x.contents most p l b low c → LeadsDown y.contents limit p (l - 1) c.block c.low → LeadsDown x.contents limit p l b low
unfolding LeadsDown
leads_on {p} x y most limit zero b low c above is still step rest = absurd (omega (arith, above))
leads_on {p} x y most limit (suc l) b low c above is still step rest =
    let same : suc l - 1 ≡ l = omega arith in
    let there = subst (λ (m : Medium). LeadsDown m.contents limit p (suc l - 1) c.block c.low) still rest in
    (c, subst (λ n. StepsTo x.contents n p (suc l) b low c) is step, subst (λ n. LeadsDown x.contents limit p n c.block c.low) same there)

-- a leaf to which the descent leads after one step
pub finds_leaf_on : {p : ℕ} (result : Result Child TreeFault) (x y : Medium) (limit l b : ℕ) (low : Key) (c : Child) → 0 < l → y ≡ x → StepsTo x.contents limit p l b low c
    → IfOk result (λ leaf. EndsAt y.contents limit leaf.block leaf.low → LeadsDown y.contents limit p (l - 1) c.block c.low)
    → IfOk result (λ leaf. EndsAt x.contents limit leaf.block leaf.low → LeadsDown x.contents limit p l b low)
finds_leaf_on (Ok leaf) x y limit l b low c above still step rest = λ ends.
    leads_on x y limit limit l b low c above refl still step (rest (subst (λ (m : Medium). EndsAt m.contents limit leaf.block leaf.low) (sym still) ends))
finds_leaf_on (Err e) x y limit l b low c above still step rest = tt

-- what holds is told of each answer
pub if_ok_is : {T E : Type 0} (result : Result T E) (A : Type 0) → A → IfOk result (λ x. A)
if_ok_is (Ok x) A a = a
if_ok_is (Err e) A a = tt

-- and what follows from it
pub if_ok_so : {T E : Type 0} (result : Result T E) (A B : Type 0) → IfOk result (λ x. A) → (A → B) → IfOk result (λ x. B)
if_ok_so (Ok x) A B h so = so h
if_ok_so (Err e) A B h so = tt
