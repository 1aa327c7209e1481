-- How a disk in memory is filled, entry by entry.
use Rattle.std.proofs.Common.{◌≡◌, ℕ, ◌+◌, ◌-◌, ◌<◌, ◌≤◌, ◌==◌, ◌&&◌, Bool, true, false, if◌then◌else◌, List, [], ◌∷◌, ◌++◌, length, get_or, take, replicate, refl, sym, ◌∙◌, ap, arith, append_assoc, length-append}
use Rattle.std.proofs.lemmas.List.{replicate_more, take_more}
use Rattle.vm_disk.specs.Memory.{filled}

-- an element was added, and it is one more
pub one_longer : {X : Type 0} → (before after : List X) (y : X) (fine : Bool) → after ≡ (if fine then before ++ y ∷ [] else before) → fine ≡ true → length after ≡ length before + 1
one_longer before after y fine is ok =
    ap length (is ∙ ap (λ (b : Bool). if b then before ++ y ∷ [] else before) ok) ∙ length-append before (y ∷ [])

-- and after the first ones stands one more of it
pub one_more : {X : Type 0} → (first before after : List X) (y : X) (fine : Bool) → before ≡ first ++ replicate (length before - length first) y → length first ≤ length before
    → after ≡ (if fine then before ++ y ∷ [] else before) → fine ≡ true
    → after ≡ first ++ replicate (length after - length first) y
one_more {X} first before after y fine so_far least is ok =
    let k = length before - length first in
    let size = one_longer before after y fine is ok in
    let count : k + 1 ≡ length after - length first = omega arith in
    is ∙ ap (λ (b : Bool). if b then before ++ y ∷ [] else before) ok
    ∙ ap (λ (zs : List X). zs ++ y ∷ []) so_far
    ∙ append_assoc first (replicate k y) (y ∷ [])
    ∙ ap (λ (zs : List X). first ++ zs) (replicate_more k y)
    ∙ ap (λ (n : ℕ). first ++ replicate n y) count

-- the last entry counts
pub filled_more : (fill : List (ℕ × List ℕ)) (entry : ℕ × List ℕ) (n : ℕ) (bytes : List ℕ) → filled (fill ++ entry ∷ []) n bytes ≡ (if entry.0 == n then entry.1 else filled fill n bytes)
filled_more [] entry n bytes = refl
filled_more (first ∷ fill) entry n bytes = filled_more fill entry n (if first.0 == n then first.1 else bytes)

-- one entry more, at a block that is dirty or is not
pub block_filled : (dirty : Bool) (fill : List (ℕ × List ℕ)) (entry : ℕ × List ℕ) (n : ℕ) (bytes before after : List ℕ)
    → before ≡ (if dirty then filled fill n bytes else bytes)
    → after ≡ (if dirty && entry.0 == n then entry.1 else before)
    → after ≡ (if dirty then filled (fill ++ entry ∷ []) n bytes else bytes)
block_filled true fill entry n bytes before after so_far one =
    one ∙ ap (λ (kept : List ℕ). if entry.0 == n then entry.1 else kept) so_far ∙ sym (filled_more fill entry n bytes)
block_filled false fill entry n bytes before after so_far one = one ∙ so_far

-- one turn of the loop more
pub block_refilled : (was_dirty is_dirty : Bool) (fill : List (ℕ × List ℕ)) (i n : ℕ) (bytes before after : List ℕ)
    → is_dirty ≡ was_dirty
    → i < length fill
    → before ≡ (if was_dirty then filled (take i fill) n bytes else bytes)
    → after ≡ (if is_dirty && (get_or fill i (0, [])).0 == n then (get_or fill i (0, [])).1 else before)
    → after ≡ (if was_dirty then filled (take (i + 1) fill) n bytes else bytes)
block_refilled was_dirty is_dirty fill i n bytes before after same inside so_far one =
    let entry = get_or fill i (0, []) in
    let turn = block_filled was_dirty (take i fill) entry n bytes before after so_far (one ∙ ap (λ (d : Bool). if d && entry.0 == n then entry.1 else before) same) in
    turn ∙ ap (λ (some : List (ℕ × List ℕ)). if was_dirty then filled some n bytes else bytes) (sym (take_more fill i (0, []) inside))
