-- The head of a block of a tree, and the numbers in it.
use Rattle.std.proofs.Common.{◌≡◌, ℕ, ◌^◌, ◌<◌, ◌≤◌, List, [], ◌++◌, Option, None, Some, length, take, drop, get_or, refl, sym, ap, ◌∙◌, arith}
use Rattle.std.proofs.Math.Seq.{take-add}
use Rattle.std.proofs.lemmas.List.{drop-drop}
use Rattle.byteorder.specs.Endian.{little_bytes, little_number}
use Rattle.vm_block.specs.Node.{IsNode, node_head}
use Rattle.vm_block.specs.Head.{IsNodeHead}
use Rattle.vm_block.specs.Leaf.{IsLeafHead, leaf_head}
use Rattle.vm_block.specs.declared.node.Child.{Child}
use Rattle.vm_block.proofs.NodeLemmas.{node_parts}
use Rattle.vm_block.proofs.Pieces.{number_one, spelled_at, spelled_number}

-- four numbers behind one another
abbrev pub words : ℕ → ℕ → ℕ → ℕ → List ℕ
words a b c d = little_bytes 4 a ++ (little_bytes 4 b ++ (little_bytes 4 c ++ little_bytes 4 d))

-- sixteen bytes are four times four
pub four_fours : (xs : List ℕ) → take 16 xs ≡ take 4 xs ++ (take 4 (drop 4 xs) ++ (take 4 (drop 8 xs) ++ take 4 (drop 12 xs)))
four_fours xs =
    take-add 4 12 xs
    ∙ ap (λ z. take 4 xs ++ z) (take-add 4 8 (drop 4 xs) ∙ ap (λ z. take 4 (drop 4 xs) ++ z) (take-add 4 4 (drop 4 (drop 4 xs)) ∙ ap (λ z. take 4 z ++ take 4 (drop 4 z)) (drop-drop 4 4 xs) ∙ ap (λ z. take 4 (drop 8 xs) ++ take 4 z) (drop-drop 4 8 xs)))

-- the four numbers that were read are spelled there
pub words_read : (bytes : List ℕ) (a b c d k1 k2 k3 : ℕ) → ((j : ℕ) → get_or bytes j 0 < 256) → 16 ≤ length bytes → 4 ≤ k1 → 4 ≤ k2 → 4 ≤ k3
    → a ≡ little_number 4 bytes → b ≡ little_number 4 (take k1 (drop 4 bytes)) → c ≡ little_number 4 (take k2 (drop 8 bytes)) → d ≡ little_number 4 (take k3 (drop 12 bytes))
    → take 16 bytes ≡ words a b c d
words_read bytes a b c d k1 k2 k3 small room e1 e2 e3 is_a is_b is_c is_d =
    let at_a : take 4 bytes ≡ little_bytes 4 a = spelled_number 4 bytes small (omega arith) ∙ ap (little_bytes 4) (sym is_a) in
    let at_b : take 4 (drop 4 bytes) ≡ little_bytes 4 b = spelled_at 4 4 k1 bytes small (omega arith) e1 ∙ ap (little_bytes 4) (sym is_b) in
    let at_c : take 4 (drop 8 bytes) ≡ little_bytes 4 c = spelled_at 4 8 k2 bytes small (omega arith) e2 ∙ ap (little_bytes 4) (sym is_c) in
    let at_d : take 4 (drop 12 bytes) ≡ little_bytes 4 d = spelled_at 4 12 k3 bytes small (omega arith) e3 ∙ ap (little_bytes 4) (sym is_d) in
    four_fours bytes
    ∙ ap (λ z. z ++ (take 4 (drop 4 bytes) ++ (take 4 (drop 8 bytes) ++ take 4 (drop 12 bytes)))) at_a
    ∙ ap (λ z. little_bytes 4 a ++ (z ++ (take 4 (drop 8 bytes) ++ take 4 (drop 12 bytes)))) at_b
    ∙ ap (λ z. little_bytes 4 a ++ (little_bytes 4 b ++ (z ++ take 4 (drop 12 bytes)))) at_c
    ∙ ap (λ z. little_bytes 4 a ++ (little_bytes 4 b ++ (little_bytes 4 c ++ z))) at_d

-- four numbers of one spelling are one
pub words_one : (a b c d e f g h : ℕ) → a < 2 ^ 32 → b < 2 ^ 32 → c < 2 ^ 32 → d < 2 ^ 32 → e < 2 ^ 32 → f < 2 ^ 32 → g < 2 ^ 32 → h < 2 ^ 32 → words a b c d ≡ words e f g h
    → (a ≡ e) × (b ≡ f) × (c ≡ g) × (d ≡ h)
words_one a b c d e f g h ha hb hc hd he hf hg hh is =
    let one = λ (x y : ℕ) (xs ys : List ℕ) (hx : x < 2 ^ 32) (hy : y < 2 ^ 32) (z : little_bytes 4 x ++ xs ≡ little_bytes 4 y ++ ys). let same : x ≡ y = number_one 4 x y xs ys hx hy z in same in
    let two = ap (drop 4) is in
    let three = ap (drop 8) is in
    let four = ap (drop 12) is in (
      one a e (little_bytes 4 b ++ (little_bytes 4 c ++ little_bytes 4 d)) (little_bytes 4 f ++ (little_bytes 4 g ++ little_bytes 4 h)) ha he is,
      one b f (little_bytes 4 c ++ little_bytes 4 d) (little_bytes 4 g ++ little_bytes 4 h) hb hf two,
      one c g (little_bytes 4 d) (little_bytes 4 h) hc hg three,
      number_one 4 d h [] [] hd hh four,
    )

-- the letters NODE as a number
pub node_words : (level n : ℕ) → words 1162104654 level n 0 ≡ node_head level n
unfolding node_head
node_words level n = refl

-- an inner block begins with the head of its level and count
pub node_headed : (bytes : List ℕ) (level : ℕ) (cs : List Child) → IsNode bytes level cs → IsNodeHead bytes level (length cs)
node_headed bytes level cs node =
    record { begins = (node_parts bytes level cs node).front; above = node.above; low = node.low; some = node.some; few = node.few }

-- the head of an inner block that was read
pub node_head_found : (bytes : List ℕ) (a b c d : ℕ) → take 16 bytes ≡ words a b c d → (a ≡ 1162104654) × (0 < b) × (b ≤ 7) × (0 < c) × (c ≤ 256) × (d ≡ 0) → IsNodeHead bytes b c
node_head_found bytes a b c d is fits = record {
  begins = is ∙ ap (λ z. words z b c d) fits.0 ∙ ap (λ z. words 1162104654 b c z) fits.5 ∙ node_words b c;
  above = fits.1;
  low = fits.2;
  some = fits.3;
  few = fits.4;
}

-- and no other level and count are read
pub node_head_only : (bytes : List ℕ) (a b c d level n : ℕ) → a < 2 ^ 32 → b < 2 ^ 32 → c < 2 ^ 32 → d < 2 ^ 32 → take 16 bytes ≡ words a b c d → IsNodeHead bytes level n
    → ((a ≡ 1162104654) × (0 < b) × (b ≤ 7) × (0 < c) × (c ≤ 256) × (d ≡ 0)) × (b ≡ level) × (c ≡ n)
node_head_only bytes a b c d level n ha hb hc hd is head =
    let one = words_one a b c d 1162104654 level n 0 ha hb hc hd (omega arith) (omega (arith, head.low)) (omega (arith, head.few)) (omega arith) (sym is ∙ head.begins ∙ sym (node_words level n)) in
    ((one.0, omega (arith, head.above, one.1), omega (arith, head.low, one.1), omega (arith, head.some, one.2), omega (arith, head.few, one.2), one.3), one.1, one.2)

-- the letters LEF3 as a number
leaf_words : (n : ℕ) → words 860243276 0 n 0 ≡ leaf_head n
unfolding leaf_head
leaf_words n = refl

-- the head of a leaf that was read
pub leaf_head_found : (bytes : List ℕ) (a b c d : ℕ) → take 16 bytes ≡ words a b c d → (a ≡ 860243276) × (b ≡ 0) × (0 < c) × (c ≤ 340) × (d ≡ 0) → IsLeafHead bytes c
leaf_head_found bytes a b c d is fits = record {
  begins = is ∙ ap (λ z. words z b c d) fits.0 ∙ ap (λ z. words 860243276 z c d) fits.1 ∙ ap (λ z. words 860243276 0 c z) fits.4 ∙ leaf_words c;
  some = fits.2;
  few = fits.3;
}

-- and no other count is read
pub leaf_head_only : (bytes : List ℕ) (a b c d n : ℕ) → a < 2 ^ 32 → b < 2 ^ 32 → c < 2 ^ 32 → d < 2 ^ 32 → take 16 bytes ≡ words a b c d → IsLeafHead bytes n
    → ((a ≡ 860243276) × (b ≡ 0) × (0 < c) × (c ≤ 340) × (d ≡ 0)) × (c ≡ n)
leaf_head_only bytes a b c d n ha hb hc hd is head =
    let one = words_one a b c d 860243276 0 n 0 ha hb hc hd (omega arith) (omega arith) (omega (arith, head.few)) (omega arith) (sym is ∙ head.begins ∙ sym (leaf_words n)) in
    ((one.0, one.1, omega (arith, head.some, one.2), omega (arith, head.few, one.2), one.3), one.2)

-- numbers that are told are those that are told
pub some_same : (n m : ℕ) → Some m ≡ Some n → m ≡ n
some_same n m e = ap (λ (x : Option ℕ). held x) e
  where
    held : Option ℕ → ℕ
    held None = 0
    held (Some k) = k

pub node_same : (level n l m : ℕ) (a b : ℕ × ℕ) → a ≡ (l, m) → b ≡ (level, n) → Some a ≡ Some b → (l ≡ level) × (m ≡ n)
node_same level n l m a b is_a is_b e =
    let same : a ≡ b = ap held e in
    let both = sym is_a ∙ same ∙ is_b in
    (ap (λ (x : ℕ × ℕ). x.0) both, ap (λ (x : ℕ × ℕ). x.1) both)
  where
    held : Option (ℕ × ℕ) → ℕ × ℕ
    held None = a
    held (Some k) = k
