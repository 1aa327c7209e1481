-- What a new disk of a place holds.
use Rattle.std.proofs.Common.{◌≡◌, ℕ, [], length, replicate, ap, ◌∙◌, arith}
use Rattle.std.proofs.lemmas.List.{get_or-replicate, length-replicate}
use Rattle.vm_disk.specs.Disk.{Contents, block}
use Rattle.vm_sums.proofs.ShownLemmas.{shown_block}
use Rattle.vm_sums.specs.Summed.{shown_contents, shown_length}
use Rattle.vm_cli.specs.program.Places.{IsNew}

-- zero blocks are those of a new disk
pub zeros_are_new : (blocks : ℕ) (contents : Contents) → contents ≡ replicate blocks (replicate 4096 0) → IsNew blocks contents
zeros_are_new blocks contents zero =
    record {
      count = ap length zero ∙ length-replicate blocks (replicate 4096 0);
      first = λ some. ap (λ c. block c 0) zero ∙ get_or-replicate blocks 0 (replicate 4096 0) [] some;
    }

-- so is what they show: the first block has no sum
pub shown_new : (blocks : ℕ) (contents : Contents) → IsNew blocks contents → IsNew blocks (shown_contents contents)
shown_new blocks contents new =
    record {
      count = shown_length contents ∙ new.count;
      first = λ some. shown_block contents 0 (omega (arith, some, new.count)) ∙ new.first some;
    }
