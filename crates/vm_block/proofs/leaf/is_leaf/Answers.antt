use Rattle.std.proofs.Common.{◌≡◌, ◌+◌, ◌*◌, ◌-◌, length, take, drop, sym, ap, ◌∙◌, subst, arith, length-drop}
use Rattle.std.proofs.lemmas.Bool.{false≢true, leb-true}
use Rattle.std.proofs.lemmas.List.{take_all}
use Rattle.vm_block.specs.Bounds.{IsSound, bounds_of, last_end}
use Rattle.vm_block.specs.Leaf.{values_of}
use Rattle.vm_block.specs.Padding.{zeros}
use Rattle.vm_block.proofs.BoundLemmas.{records_from}
use Rattle.vm_block.proofs.HeadLemmas.{some_same}
use Rattle.vm_block.proofs.LeafLemmas.{leaf_headed, leaf_sound, leaf_told, zeros_there}
use Rattle.vm_block.proofs.Pieces.{zero_behind}
use Rattle.vm_block.proofs.leaf.is_leaf.Goals as goal

pub returns-in_default : goal.returns-in_default
returns-in_default c = (
  λ t. absurd (false≢true t),
  λ leaf. absurd (cc (c.in_default.ensures.only (length leaf.0) (leaf_headed c.args.bytes.now leaf.0 leaf.1))),
)

pub returns-in_default-bounds_end : goal.returns-in_default-bounds_end
returns-in_default-bounds_end c = (
  λ t. absurd (false≢true t),
  λ leaf.
      let bytes = c.args.bytes.now in
      let n = c.in-Some.count in
      let same = some_same (length leaf.0) n (c.in-Some.ensures.only (length leaf.0) (leaf_headed bytes leaf.0 leaf.1)) in
      let all : take 4080 (drop 16 bytes) ≡ drop 16 bytes = take_all 4080 (drop 16 bytes) (omega (arith, length-drop 16 bytes, c.told-bytes)) in
      absurd (false≢true (c.in_default-bounds_end.ensures.only (subst (λ z. IsSound 0 0 (bounds_of n z)) (sym all) (leaf_sound bytes leaf.0 n leaf.1 same).0))),
)

pub returns-then-from-le-BLOCK_SIZE : goal.returns-then-from-le-BLOCK_SIZE
returns-then-from-le-BLOCK_SIZE c =
    let bytes = c.args.bytes.now in
    let n = c.in-Some.count in
    let end = c.in-Some-bounds_end.end in
    let all : take 4080 (drop 16 bytes) ≡ drop 16 bytes = take_all 4080 (drop 16 bytes) (omega (arith, length-drop 16 bytes, c.told-bytes)) in
    let found = c.in-Some-bounds_end.ensures.found in
    let sound = subst (λ z. IsSound 0 0 (bounds_of n z)) all found.0 in
    let last : end ≡ last_end 0 (bounds_of n (drop 16 bytes)) = found.1 ∙ ap (λ z. last_end 0 (bounds_of n z)) all in
    let zero = zero_behind bytes (16 + 12 * n + end) (4096 - (16 + 12 * n + end)) (omega (arith, c.told-bytes)) in (
      λ t.
          (records_from 0 (bounds_of n (drop 16 bytes)) (drop (16 + 12 * n) bytes), leaf_told bytes n end c.told-bytes c.fits-bytes c.in-Some.ensures.found sound last c.if-from-le-BLOCK_SIZE.true (zero.0 (c.are_zero.ensures.0 t))),
      λ leaf.
          let same = some_same (length leaf.0) n (c.in-Some.ensures.only (length leaf.0) (leaf_headed bytes leaf.0 leaf.1)) in
          let ends : end ≡ length (values_of leaf.0) = last ∙ (leaf_sound bytes leaf.0 n leaf.1 same).1 in
          let far : 16 + 12 * n + end ≡ 16 + 12 * length leaf.0 + length (values_of leaf.0) = omega (arith, same, ends) in
          c.are_zero.ensures.1 (zero.1 (ap (λ m. drop m bytes) far ∙ zeros_there bytes leaf.0 leaf.1 ∙ ap zeros (omega (arith, c.told-bytes, far)))),
    )

pub returns-else-from-le-BLOCK_SIZE : goal.returns-else-from-le-BLOCK_SIZE
returns-else-from-le-BLOCK_SIZE c =
    let bytes = c.args.bytes.now in
    let n = c.in-Some.count in
    let end = c.in-Some-bounds_end.end in
    let all : take 4080 (drop 16 bytes) ≡ drop 16 bytes = take_all 4080 (drop 16 bytes) (omega (arith, length-drop 16 bytes, c.told-bytes)) in
    let last : end ≡ last_end 0 (bounds_of n (drop 16 bytes)) = c.in-Some-bounds_end.ensures.found.1 ∙ ap (λ z. last_end 0 (bounds_of n z)) all in (
      λ t. absurd (omega (arith, leb-true (16 + 12 * n + end) 4096 t, c.if-from-le-BLOCK_SIZE.false)),
      λ leaf.
          let same = some_same (length leaf.0) n (c.in-Some.ensures.only (length leaf.0) (leaf_headed bytes leaf.0 leaf.1)) in
          let ends : end ≡ length (values_of leaf.0) = last ∙ (leaf_sound bytes leaf.0 n leaf.1 same).1 in
          absurd (omega (arith, same, ends, leaf.1.room, c.if-from-le-BLOCK_SIZE.false)),
    )
