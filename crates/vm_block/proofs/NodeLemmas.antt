-- An inner block: its head, its children and its zero bytes.
use Rattle.std.proofs.Common.{◌≡◌, ℕ, ◌+◌, ◌-◌, ◌*◌, ◌<◌, ◌≤◌, List, [], ◌++◌, length, take, drop, refl, sym, ap, ◌∙◌, arith, length-drop, length-append, append_assoc}
use Rattle.std.specs.List.{AllByRecursion, flat_map}
use Rattle.std.proofs.lemmas.List.{take_all, take_at, append-nil, take-append-drop}
use Rattle.byteorder.specs.Endian.{little_bytes, little_number}
use Rattle.byteorder.specs.Numbers.{little_number-reads_back}
use Rattle.vm_types.specs.Places.{RisesFrom}
use Rattle.vm_block.specs.declared.node.Child.{Child}
use Rattle.vm_block.specs.Padding.{zeros}
use Rattle.vm_block.specs.Leaf.{key_bytes}
use Rattle.vm_block.specs.Node.{ChildFits, IsNode, lows, child_bytes, node_head, node_bytes}
use Rattle.vm_block.proofs.Pieces.{Laid, parts_laid, laid, length-padded, number_one}
use Rattle.vm_block.proofs.Rows.{length-rows, rows_one}
use Rattle.vm_block.proofs.RecordLemmas.{key_one}

-- # Children

pub length-child : (c : Child) → ChildFits c → length (child_bytes c) ≡ 14
unfolding child_bytes
length-child c fits = refl

child_is : (c d : Child) → c.low ≡ d.low → c.block ≡ d.block → c ≡ d
child_is c d a b = λ i. record { low = a i; block = b i }

-- children of one spelling are one
pub child_one : (c d : Child) → ChildFits c → ChildFits d → child_bytes c ≡ child_bytes d → c ≡ d
unfolding child_bytes
child_one c d hc hd e =
    child_is c d
    (key_one c.low d.low (little_bytes 4 c.block) (little_bytes 4 d.block) hc.0 hd.0 e)
    (number_one 4 c.block d.block [] [] hc.1 hd.1 (ap (drop 10) e))

-- the bytes from which a key and a number are read are the child
pub child_spelled : (bytes : List ℕ) (c : Child) → length bytes ≡ 14 → take 10 bytes ≡ key_bytes c.low → take 4 (drop 10 bytes) ≡ little_bytes 4 c.block → bytes ≡ child_bytes c
unfolding child_bytes
child_spelled bytes c whole keyed numbered =
    sym (take-append-drop 10 bytes)
    ∙ ap (λ x. x ++ drop 10 bytes) keyed
    ∙ ap (λ x. key_bytes c.low ++ x) (sym (take_all 4 (drop 10 bytes) (omega (arith, length-drop 10 bytes))) ∙ numbered)

pub length-children : (cs : List Child) → AllByRecursion ChildFits cs → length (flat_map child_bytes cs) ≡ 14 * length cs
length-children cs fit = length-rows child_bytes ChildFits 14 length-child cs fit

-- # The head

pub length-node_head : (level count : ℕ) → length (node_head level count) ≡ 16
unfolding node_head
length-node_head level count = refl

-- what stands behind the letters
node_head-level : (level count : ℕ) (rest : List ℕ) → drop 4 (node_head level count ++ rest) ≡ little_bytes 4 level ++ (little_bytes 4 count ++ (little_bytes 4 0 ++ rest))
unfolding node_head
node_head-level level count rest = refl

node_head-count : (level count : ℕ) (rest : List ℕ) → drop 8 (node_head level count ++ rest) ≡ little_bytes 4 count ++ (little_bytes 4 0 ++ rest)
unfolding node_head
node_head-count level count rest = refl

-- # The block

-- an inner block fills a block
pub length-node : (bytes : List ℕ) (level : ℕ) (cs : List Child) → IsNode bytes level cs → length bytes ≡ 4096
unfolding node_bytes
length-node bytes level cs node =
    let front = node_head level (length cs) ++ flat_map child_bytes cs in
    ap length node.spelled ∙ length-padded 4096 front (omega (arith, length-append (node_head level (length cs)) (flat_map child_bytes cs), length-node_head level (length cs), length-children cs node.fit, node.few))

-- the parts of an inner block
pub node_parts : (bytes : List ℕ) (level : ℕ) (cs : List Child) → IsNode bytes level cs → Laid bytes (node_head level (length cs)) (flat_map child_bytes cs) 16 (14 * length cs) (4096 - (16 + 14 * length cs))
unfolding node_bytes
node_parts bytes level cs node =
    parts_laid bytes (node_head level (length cs)) (flat_map child_bytes cs) 4096 16 (14 * length cs) node.spelled (length-node_head level (length cs)) (length-children cs node.fit)

-- its head, its children and its zero bytes
pub node_whole : (bytes : List ℕ) (level : ℕ) (cs : List Child) → IsNode bytes level cs → bytes ≡ node_head level (length cs) ++ (flat_map child_bytes cs ++ zeros (4096 - length (node_head level (length cs) ++ flat_map child_bytes cs)))
unfolding node_bytes
node_whole bytes level cs node = node.spelled ∙ append_assoc (node_head level (length cs)) (flat_map child_bytes cs) (zeros (4096 - length (node_head level (length cs) ++ flat_map child_bytes cs)))

-- the level and the count that an inner block has at bytes 4 and 8
pub node_numbers : (bytes : List ℕ) (level : ℕ) (cs : List Child) (l n k j : ℕ) → IsNode bytes level cs → l ≡ little_number 4 (take k (drop 4 bytes)) → n ≡ little_number 4 (take j (drop 8 bytes)) → 4092 ≤ k → 4088 ≤ j → (l ≡ level) × (n ≡ length cs)
node_numbers bytes level cs l n k j node is_level is_count enough_k enough_j =
    let long = length-node bytes level cs node in
    let rest = flat_map child_bytes cs ++ zeros (4096 - length (node_head level (length cs) ++ flat_map child_bytes cs)) in
    let whole : bytes ≡ node_head level (length cs) ++ rest = node_whole bytes level cs node in
    let at_level : drop 4 bytes ≡ little_bytes 4 level ++ (little_bytes 4 (length cs) ++ (little_bytes 4 0 ++ rest)) = ap (drop 4) whole ∙ node_head-level level (length cs) rest in
    let at_count : drop 8 bytes ≡ little_bytes 4 (length cs) ++ (little_bytes 4 0 ++ rest) = ap (drop 8) whole ∙ node_head-count level (length cs) rest in (
      is_level ∙ ap (little_number 4) (take_all k (drop 4 bytes) (omega (arith, length-drop 4 bytes)) ∙ at_level)
          ∙ little_number-reads_back 4 level (little_bytes 4 (length cs) ++ (little_bytes 4 0 ++ rest)) (omega (arith, node.low)),
      is_count ∙ ap (little_number 4) (take_all j (drop 8 bytes) (omega (arith, length-drop 8 bytes)) ∙ at_count)
          ∙ little_number-reads_back 4 (length cs) (little_bytes 4 0 ++ rest) (omega (arith, node.few)),
    )

pub node_range : (bytes : List ℕ) (level : ℕ) (cs : List Child) (l n : ℕ) → IsNode bytes level cs → (l ≡ level) × (n ≡ length cs) → (0 < l) × (l ≤ 7) × (0 < n) × (n ≤ 256)
node_range bytes level cs l n node same =
    (omega (arith, node.above), omega (arith, node.low), omega (arith, node.some), omega (arith, node.few))

-- an inner block has this head and these zero bytes
pub node_framed : (bytes : List ℕ) (level : ℕ) (cs : List Child) (l n : ℕ) (head : List ℕ) → IsNode bytes level cs → (l ≡ level) × (n ≡ length cs) → head ≡ node_head l n ++ [] → (take (length head) bytes ≡ head) × (drop (16 + 14 * n) bytes ≡ zeros (length bytes - (16 + 14 * n)))
node_framed bytes level cs l n head node same is =
    let parts = node_parts bytes level cs node in
    let front : head ≡ node_head level (length cs) = is ∙ append-nil (node_head l n) ∙ ap (λ a. node_head a n) same.0 ∙ ap (node_head level) same.1 in
    let long : length head ≡ 16 = ap length front ∙ length-node_head level (length cs) in
    let count : n ≡ length cs = same.1 in (
      ap (λ k. take k bytes) long ∙ parts.front ∙ sym front,
      ap (λ k. drop (16 + 14 * k) bytes) count ∙ parts.back ∙ ap zeros (omega (arith, length-node bytes level cs node, count)),
    )

-- children that were read where an inner block has its own are those
pub node_children : (bytes : List ℕ) (level : ℕ) (cs ds : List Child) (n k : ℕ) → IsNode bytes level cs → n ≡ length cs → 4080 ≤ k → length ds ≡ n → AllByRecursion ChildFits ds → take (14 * n) (take k (drop 16 bytes)) ≡ flat_map child_bytes ds → ds ≡ cs
node_children bytes level cs ds n k node count enough many fit spelled =
    let parts = node_parts bytes level cs node in
    let all : take k (drop 16 bytes) ≡ drop 16 bytes = take_all k (drop 16 bytes) (omega (arith, length-drop 16 bytes, length-node bytes level cs node)) in
    let long : length (flat_map child_bytes cs) ≡ 14 * n = length-children cs node.fit ∙ ap (λ m. 14 * m) (sym count) in
    let one : flat_map child_bytes ds ≡ flat_map child_bytes cs =
    sym spelled ∙ ap (take (14 * n)) (all ∙ parts.behind) ∙ take_at (flat_map child_bytes cs) (zeros (4096 - (16 + 14 * length cs))) (14 * n) long in
    rows_one child_bytes ChildFits 14 length-child child_one ds cs fit node.fit (many ∙ count) one

-- the bytes in which a head, children and zero bytes were found are an inner block
pub node_found : (bytes : List ℕ) (cs : List Child) (l n k : ℕ) → length bytes ≡ 4096 → 0 < l → l ≤ 7 → 0 < n → n ≤ 256 → length cs ≡ n → (head : List ℕ) → head ≡ node_head l n ++ [] → take (length head) bytes ≡ head → drop (16 + 14 * n) bytes ≡ zeros (length bytes - (16 + 14 * n)) → 4080 ≤ k → take (14 * n) (take k (drop 16 bytes)) ≡ flat_map child_bytes cs → AllByRecursion ChildFits cs → RisesFrom 0 (lows cs) → IsNode bytes l cs
unfolding node_bytes
node_found bytes cs l n k whole above low some few many head is begins back enough rows fit rising =
    let count : node_head l n ≡ node_head l (length cs) = ap (node_head l) (sym many) in
    let headed : head ≡ node_head l n = is ∙ append-nil (node_head l n) in
    let front : take 16 bytes ≡ node_head l n = ap (λ m. take m bytes) (sym (ap length headed ∙ length-node_head l n)) ∙ begins ∙ headed in
    let all : take k (drop 16 bytes) ≡ drop 16 bytes = take_all k (drop 16 bytes) (omega (arith, length-drop 16 bytes)) in
    let cleared : drop (16 + 14 * n) bytes ≡ zeros (length (drop (16 + 14 * n) bytes)) = back ∙ ap zeros (sym (length-drop (16 + 14 * n) bytes)) in
    record {
      spelled = laid bytes (node_head l (length cs)) (flat_map child_bytes cs) 4096 16 (14 * n) whole (front ∙ count) (length-node_head l (length cs)) (ap (take (14 * n)) (sym all) ∙ rows) (length-children cs fit ∙ ap (λ m. 14 * m) many) cleared;
      above = above;
      low = low;
      some = omega arith;
      few = omega arith;
      fit = fit;
      rising = rising;
    }

-- the same bytes are one inner block
pub node_one : (bytes : List ℕ) (l m : ℕ) (cs ds : List Child) → IsNode bytes l cs → IsNode bytes m ds → (l ≡ m) × (cs ≡ ds)
node_one bytes l m cs ds a b =
    let numbers = node_numbers bytes l cs (little_number 4 (take 4092 (drop 4 bytes))) (little_number 4 (take 4088 (drop 8 bytes))) 4092 4088 a refl refl (omega arith) (omega arith) in
    let others = node_numbers bytes m ds (little_number 4 (take 4092 (drop 4 bytes))) (little_number 4 (take 4088 (drop 8 bytes))) 4092 4088 b refl refl (omega arith) (omega arith) in
    let parts = node_parts bytes l cs a in
    let all : take 4080 (drop 16 bytes) ≡ drop 16 bytes = take_all 4080 (drop 16 bytes) (omega (arith, length-drop 16 bytes, length-node bytes l cs a)) in
    let spelled : take (14 * length cs) (take 4080 (drop 16 bytes)) ≡ flat_map child_bytes cs =
    ap (take (14 * length cs)) (all ∙ parts.behind) ∙ take_at (flat_map child_bytes cs) (zeros (4096 - (16 + 14 * length cs))) (14 * length cs) (length-children cs a.fit) in
    (sym numbers.0 ∙ others.0, node_children bytes m ds cs (length cs) 4080 b (sym numbers.1 ∙ others.1) (omega arith) refl a.fit spelled)
