-- Which blocks are whose.
use Rattle.std.proofs.Common.{◌≡◌, ◌≢◌, ℕ, zero, suc, ◌+◌, ◌<◌, ◌≤◌, true, false, List, [], ◌∷◌, ◌++◌, length, refl, ap, ◌∙◌, arith, add-one, zero-add, inl, inr, ◌⊎◌, ⊎_elim}
use Rattle.std.proofs.lemmas.Bool.{cases_lt}
use Rattle.std.proofs.lemmas.Bool.Decides.{nat_tests}
use Rattle.vm_disk.specs.Disk.{Contents, block}
use Rattle.vm_block.specs.Selector.{other_slot}
use Rattle.vm_block.specs.Slot.{used_blocks}
use Rattle.vm_block.specs.declared.selector.SlotName.{SlotName}
use Rattle.vm_block.specs.declared.selector.SlotName.TheVariants.{A, B}
use Rattle.vm_catalog.specs.Place.{blocks_from, region, slot_at, is_used}

-- a block of a region is one of it
pub in_region : (at count n : ℕ) → at ≤ n → n < at + count → region at count n ≡ true
in_region at count n low high = grind (arith, nat_tests)

pub region_low : (at count n : ℕ) → region at count n ≡ true → at ≤ n
region_low at count n h = grind (arith, nat_tests)

pub region_high : (at count n : ℕ) → region at count n ≡ true → n < at + count
region_high at count n h = grind (arith, nat_tests)

-- a block before or behind a region is none of it
pub before_region : (at count n : ℕ) → n < at → region at count n ≡ false
before_region at count n low = grind (arith, nat_tests)

pub behind_region : (at count n : ℕ) → at + count ≤ n → region at count n ≡ false
behind_region at count n high = grind (arith, nat_tests)

-- a slot has sixteen blocks
pub sixteen : (n : ℕ) → n ≤ 511 → used_blocks n ≤ 16
sixteen n few = omega arith

-- blocks that are the same, one by one
pub blocks_same : (x y : Contents) (at count : ℕ) → ((n : ℕ) → at ≤ n → n < at + count → block y n ≡ block x n) → blocks_from y at count ≡ blocks_from x at count
blocks_same x y at zero same = refl
blocks_same x y at (suc k) same =
    ap (λ (b : List ℕ). b ∷ blocks_from y (at + 1) k) (same at (omega arith) (omega arith))
    ∙ ap (λ (bs : List (List ℕ)). block x at ∷ bs) (blocks_same x y (at + 1) k (λ n low high. same n (omega arith) (omega arith)))

blocks_last : (x : Contents) (at count : ℕ) → blocks_from x at (suc count) ≡ blocks_from x at count ++ block x (at + count) ∷ []
blocks_last x at zero = ap (λ (n : ℕ). block x n ∷ []) (omega arith)
blocks_last x at (suc k) =
    let rest : blocks_from x (at + 1) (suc k) ≡ blocks_from x (at + 1) k ++ block x (at + 1 + k) ∷ [] = blocks_last x (at + 1) k in
    let same : at + 1 + k ≡ at + suc k = omega arith in
    ap (λ (bs : List (List ℕ)). block x at ∷ bs) (rest ∙ ap (λ (n : ℕ). blocks_from x (at + 1) k ++ block x n ∷ []) same)

-- one block more
pub blocks_more : (x : Contents) (at count : ℕ) → blocks_from x at (count + 1) ≡ blocks_from x at count ++ block x (at + count) ∷ []
blocks_more x at count = rw add-one (blocks_last x at count)

-- so many blocks, and the blocks behind them
pub blocks_split : (x : Contents) (at k m : ℕ) → blocks_from x at (k + m) ≡ blocks_from x at k ++ blocks_from x (at + k) m
blocks_split x at zero m =
    ap (λ (n : ℕ). blocks_from x at n) (zero-add m) ∙ ap (λ (n : ℕ). blocks_from x n m) (omega arith)
blocks_split x at (suc k) m =
    let next : blocks_from x (at + 1) (k + m) ≡ blocks_from x (at + 1) k ++ blocks_from x (at + 1 + k) m = blocks_split x (at + 1) k m in
    let same : at + 1 + k ≡ at + suc k = omega arith in
    let more : suc k + m ≡ suc (k + m) = omega arith in
    ap (λ (n : ℕ). blocks_from x at n) more
    ∙ ap (λ (bs : List (List ℕ)). block x at ∷ bs) (next ∙ ap (λ (n : ℕ). blocks_from x (at + 1) k ++ blocks_from x n m) same)

pub length-blocks : (x : Contents) (at k : ℕ) → length (blocks_from x at k) ≡ k
length-blocks x at zero = refl
length-blocks x at (suc k) = ap suc (length-blocks x (at + 1) k)

-- a used block is the header, the selector, or one of the slot
pub used_cases : (slot_name : SlotName) (count n : ℕ) → is_used slot_name count n ≡ true → (n < 2) ⊎ ((slot_at slot_name ≤ n) × (n < slot_at slot_name + used_blocks count))
used_cases slot_name count n h =
    ⊎_elim (λ low. inl low) (λ high. let inside : region (slot_at slot_name) (used_blocks count) n ≡ true = grind (arith, nat_tests) in inr (region_low _ _ n inside, region_high _ _ n inside)) (cases_lt n 2)

-- the header and the selector are used, and so is each block of the slot
pub used_front : (slot_name : SlotName) (count n : ℕ) → n < 2 → is_used slot_name count n ≡ true
used_front slot_name count n low = grind (arith, nat_tests)

pub used_slot : (slot_name : SlotName) (count n : ℕ) → slot_at slot_name ≤ n → n < slot_at slot_name + used_blocks count → is_used slot_name count n ≡ true
used_slot slot_name count n low high =
    let inside = in_region (slot_at slot_name) (used_blocks count) n low high in grind (arith, nat_tests)

-- no block of one slot, nor the header, nor the selector is a block of the other slot
pub apart : (slot_name : SlotName) (k count n : ℕ) → k ≤ 511 → count ≤ 511 → is_used slot_name k n ≡ true → region (slot_at (other_slot slot_name)) (used_blocks count) n ≡ false
apart B k count n few less h =
    ⊎_elim (λ (low : n < 2). before_region 2 (used_blocks count) n low) (λ (here : (18 ≤ n) × (n < 18 + used_blocks k)). behind_region 2 (used_blocks count) n (omega (arith, sixteen count less))) (used_cases B k n h)
apart A k count n few less h =
    ⊎_elim (λ (low : n < 2). before_region 18 (used_blocks count) n (omega arith)) (λ (here : (2 ≤ n) × (n < 2 + used_blocks k)). before_region 18 (used_blocks count) n (omega (arith, sixteen k few))) (used_cases A k n h)

-- no data block is a block of a slot
pub no_data : (slot_name : SlotName) (count n : ℕ) → count ≤ 511 → 34 ≤ n → region (slot_at slot_name) (used_blocks count) n ≡ false
no_data B count n few far = behind_region 18 (used_blocks count) n (omega (arith, sixteen count few))
no_data A count n few far = behind_region 2 (used_blocks count) n (omega (arith, sixteen count few))

-- no slot has the selector among its blocks
pub slot_high : (slot_name : SlotName) (n : ℕ) → slot_at slot_name ≤ n → n ≢ 1
slot_high B n low = λ (e : n ≡ 1). omega arith
slot_high A n low = λ (e : n ≡ 1). omega arith
