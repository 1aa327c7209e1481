-- An inner block with one child more.
use Rattle.std.proofs.Common.{◌≡◌, ℕ, ◌+◌, ◌-◌, ◌*◌, ◌<◌, ◌≤◌, List, [], ◌∷◌, ◌++◌, length, take, drop, refl, sym, ap, ap₂, ◌∙◌, subst, arith, length-append, length-drop, length-take-le, take-append-drop, append_assoc}
use Rattle.std.specs.Prelude.{codes}
use Rattle.std.specs.List.{AllByRecursion, flat_map}
use Rattle.std.proofs.lemmas.List.{take_at, drop_at}
use Rattle.std.proofs.Math.Seq.{paste}
use Rattle.byteorder.specs.Endian.{little_bytes}
use Rattle.vm_block.specs.declared.node.Child.{Child}
use Rattle.vm_block.specs.Padding.{zeros}
use Rattle.vm_block.specs.Node.{ChildFits, child_bytes, node_bytes, node_head}
use Rattle.vm_block.proofs.EachLemmas.{each_front, each_back, each_join}
use Rattle.vm_block.proofs.NodeLemmas.{length-child, length-children, length-node_head}
use Rattle.vm_block.proofs.Pieces.{drop-zeros, length-padded, length-zeros, then_writes, zeros_are}
use Rattle.vm_block.proofs.Rows.{row_insert}
use borrow.Rule.Slice.PartMut.{put_mid, mid_of}

-- another count written in the head of an inner block
pub head_counted : (level n m : ℕ) (rest old new : List ℕ) (k : ℕ) → old ≡ node_head level n ++ rest → k ≡ length old - 8 → new ≡ little_bytes 4 m ++ drop 4 (mid_of 8 k old) → put_mid 8 k old new ≡ node_head level m ++ rest
unfolding node_head
head_counted level n m rest old new k e far wrote =
    let front = codes "NODE" ++ little_bytes 4 level in
    then_writes front (little_bytes 4 m) old old new 8 k 4 12 (e ∙ ap (λ x. front ++ drop 8 x) (sym e)) refl far wrote refl
    ∙ ap (λ x. (front ++ little_bytes 4 m) ++ drop 12 x) e

-- children with one more before what stands at i
pub children_before : (cs : List Child) (i : ℕ) (c : Child) → i ≤ length cs → length (take i cs ++ c ∷ drop i cs) ≡ length cs + 1
children_before cs i c le = omega (arith, length-append (take i cs) (c ∷ drop i cs), length-take-le i cs le, length-drop i cs)

-- one child put before those from i on, and counted
pub child_before : (old moved wrote counted : List ℕ) (level : ℕ) (cs : List Child) (i : ℕ) (c : Child) (m : ℕ) → old ≡ node_bytes level cs → AllByRecursion ChildFits cs → i ≤ length cs → length cs < 256 → ChildFits c
    → moved ≡ paste old (16 + 14 * (i + 1)) (drop (16 + 14 * i) old) m → m ≡ 14 * (length cs - i)
    → wrote ≡ child_bytes c ++ drop 14 (mid_of (16 + 14 * i) (4096 - (16 + 14 * i)) moved)
    → counted ≡ little_bytes 4 (length cs + 1) ++ drop 4 (mid_of 8 4088 (put_mid (16 + 14 * i) (4096 - (16 + 14 * i)) moved wrote))
    → put_mid 8 4088 (put_mid (16 + 14 * i) (4096 - (16 + 14 * i)) moved wrote) counted ≡ node_bytes level (take i cs ++ c ∷ drop i cs)
unfolding node_bytes
child_before old moved wrote counted level cs i c m e fit le few fits moving reach writing counting =
    let now = take i cs ++ c ∷ drop i cs in
    let head = node_head level (length cs) in
    let body = flat_map child_bytes cs in
    let lh = length-node_head level (length cs) in
    let lb = length-children cs fit in
    let z = 4096 - length (head ++ body) in
    let gap = take 14 (zeros z) in
    let rest = drop 14 (zeros z) in
    let long : length (head ++ body) ≡ 16 + 14 * length cs = omega (arith, length-append head body, lh, lb) in
    let wide : length gap ≡ 14 = length-take-le 14 (zeros z) (omega (arith, few, long, length-zeros z)) in
    let laid : old ≡ head ++ (body ++ (gap ++ rest)) = e ∙ append_assoc head body (zeros z) ∙ ap (λ x. head ++ (body ++ x)) (sym (take-append-drop 14 (zeros z))) in
    let full : length old ≡ 4096 = ap length e ∙ length-padded 4096 (head ++ body) (omega (arith, long, few)) in
    let there : wrote ≡ child_bytes c ++ drop 14 (mid_of (16 + 14 * i) (4096 - (16 + 14 * i)) (paste old (16 + 14 * (i + 1)) (drop (16 + 14 * i) old) m)) = writing ∙ ap (λ x. child_bytes c ++ drop 14 (mid_of (16 + 14 * i) (4096 - (16 + 14 * i)) x)) moving in
    let rows = row_insert child_bytes ChildFits 14 length-child cs i 16 c old head gap rest wrote (4096 - (16 + 14 * i)) m fit le lh wide laid (omega (arith, reach, length-drop i cs)) (omega (arith, full)) there in
    let put : put_mid (16 + 14 * i) (4096 - (16 + 14 * i)) moved wrote ≡ head ++ (flat_map child_bytes now ++ rest) = ap (λ x. put_mid (16 + 14 * i) (4096 - (16 + 14 * i)) x wrote) moving ∙ rows in
    let cut = λ (n : ℕ). subst (AllByRecursion ChildFits) (sym (take-append-drop n cs)) fit in
    let all : AllByRecursion ChildFits now = each_join ChildFits (take i cs) (c ∷ drop i cs) (each_front ChildFits (take i cs) (drop i cs) (cut i)) (fits, each_back ChildFits (take i cs) (drop i cs) (cut i)) in
    let many = children_before cs i c le in
    let new_head = node_head level (length now) in
    let new_body = flat_map child_bytes now in
    let longer : length (new_head ++ new_body) ≡ 16 + 14 * length now = omega (arith, length-append new_head new_body, length-node_head level (length now), length-children now all) in
    let whole : length (put_mid (16 + 14 * i) (4096 - (16 + 14 * i)) moved wrote) ≡ 4096 = omega (arith, ap length put, length-append head (new_body ++ rest), length-append new_body rest, lh, length-children now all, many, length-drop 14 (zeros z), length-zeros z, long, few) in
    let cleared : rest ≡ zeros (4096 - length (new_head ++ new_body)) = ap (drop 14) (sym (zeros_are z)) ∙ drop-zeros 14 z ∙ ap zeros (omega (arith, longer, long, many)) in
    head_counted level (length cs) (length cs + 1) (new_body ++ rest) (put_mid (16 + 14 * i) (4096 - (16 + 14 * i)) moved wrote) counted 4088 put (omega (arith, whole)) counting
    ∙ ap (λ n. node_head level n ++ (new_body ++ rest)) (sym many)
    ∙ ap (λ x. new_head ++ (new_body ++ x)) cleared
    ∙ sym (append_assoc new_head new_body (zeros (4096 - length (new_head ++ new_body))))

-- children with another one at i
pub set_length : (cs : List Child) (i : ℕ) (c : Child) → i < length cs → length (take i cs ++ c ∷ drop (i + 1) cs) ≡ length cs
set_length cs i c lt = omega (arith, length-append (take i cs) (c ∷ drop (i + 1) cs), length-take-le i cs (omega (arith, lt)), length-drop (i + 1) cs)

pub set_fit : (cs : List Child) (i : ℕ) (c : Child) → AllByRecursion ChildFits cs → ChildFits c → AllByRecursion ChildFits (take i cs ++ c ∷ drop (i + 1) cs)
set_fit cs i c fit fits =
    let cut = λ (n : ℕ). subst (AllByRecursion ChildFits) (sym (take-append-drop n cs)) fit in
    each_join ChildFits (take i cs) (c ∷ drop (i + 1) cs) (each_front ChildFits (take i cs) (drop i cs) (cut i)) (fits, each_back ChildFits (take (i + 1) cs) (drop (i + 1) cs) (cut (i + 1)))

-- children with two in the place of the one at i
pub pair_length : (cs : List Child) (i : ℕ) (c d : Child) → i < length cs → length (take i cs ++ c ∷ d ∷ drop (i + 1) cs) ≡ length cs + 1
pair_length cs i c d lt = omega (arith, length-append (take i cs) (c ∷ d ∷ drop (i + 1) cs), length-take-le i cs (omega (arith, lt)), length-drop (i + 1) cs)

pub pair_fit : (cs : List Child) (i : ℕ) (c d : Child) → AllByRecursion ChildFits cs → ChildFits c → ChildFits d → AllByRecursion ChildFits (take i cs ++ c ∷ d ∷ drop (i + 1) cs)
pair_fit cs i c d fit fits fits_too =
    let cut = λ (n : ℕ). subst (AllByRecursion ChildFits) (sym (take-append-drop n cs)) fit in
    each_join ChildFits (take i cs) (c ∷ d ∷ drop (i + 1) cs) (each_front ChildFits (take i cs) (drop i cs) (cut i)) (fits, (fits_too, each_back ChildFits (take (i + 1) cs) (drop (i + 1) cs) (cut (i + 1))))

-- a third one behind these two
pub three_in_place : (cs : List Child) (i : ℕ) (left middle right : Child) → i < length cs
    → take (i + 2) (take i cs ++ left ∷ middle ∷ drop (i + 1) cs) ++ right ∷ drop (i + 2) (take i cs ++ left ∷ middle ∷ drop (i + 1) cs) ≡ take i cs ++ left ∷ middle ∷ right ∷ drop (i + 1) cs
three_in_place cs i left middle right lt =
    let front = take i cs ++ left ∷ middle ∷ [] in
    let back = drop (i + 1) cs in
    let split : take i cs ++ left ∷ middle ∷ back ≡ front ++ back = sym (append_assoc (take i cs) (left ∷ middle ∷ []) back) in
    let long : length front ≡ i + 2 = omega (arith, length-append (take i cs) (left ∷ middle ∷ []), length-take-le i cs (omega (arith, lt))) in
    ap₂ (λ x y. x ++ right ∷ y) (ap (take (i + 2)) split ∙ take_at front back (i + 2) long) (ap (drop (i + 2)) split ∙ drop_at front back (i + 2) long)
    ∙ append_assoc (take i cs) (left ∷ middle ∷ []) (right ∷ back)

-- two children in the place of one
pub two_in_place : (cs : List Child) (i : ℕ) (left right : Child) → i < length cs
    → take (i + 1) (take i cs ++ left ∷ drop (i + 1) cs) ++ right ∷ drop (i + 1) (take i cs ++ left ∷ drop (i + 1) cs) ≡ take i cs ++ left ∷ right ∷ drop (i + 1) cs
two_in_place cs i left right lt =
    let front = take i cs ++ left ∷ [] in
    let back = drop (i + 1) cs in
    let split : take i cs ++ left ∷ back ≡ front ++ back = sym (append_assoc (take i cs) (left ∷ []) back) in
    let long : length front ≡ i + 1 = omega (arith, length-append (take i cs) (left ∷ []), length-take-le i cs (omega (arith, lt))) in
    ap₂ (λ x y. x ++ right ∷ y) (ap (take (i + 1)) split ∙ take_at front back (i + 1) long) (ap (drop (i + 1)) split ∙ drop_at front back (i + 1) long)
    ∙ append_assoc (take i cs) (left ∷ []) (right ∷ back)
