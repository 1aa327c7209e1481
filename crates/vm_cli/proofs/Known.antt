-- Known bytes that grow.
use Rattle.std.proofs.Common.{◌≡◌, ◌++◌, ℕ, List, [], Option, Some, None, sym, ◌∙◌, append-nil, append_assoc, ◌-◌, length, take, drop, take-append-drop}
use Rattle.std.proofs.Math.Seq.{take-append_seam}
use Rattle.std.proofs.lemmas.List.{take_rest}
use Rattle.std.specs.Io.KnownBytes.{Appends, Keeps}

-- nothing was written
pub Appends-nil : (o : Option (List ℕ)) → Appends o o []
Appends-nil None = tt
Appends-nil (Some xs) = sym (append-nil xs)

-- one write after another
pub Appends-then : (a b c : Option (List ℕ)) (x y : List ℕ) → Appends a b x → Appends b c y → Appends a c (x ++ y)
Appends-then None b c x y h k = tt
Appends-then (Some xs) None c x y h k = absurd h
Appends-then (Some xs) (Some ys) None x y h k = absurd k
Appends-then (Some xs) (Some ys) (Some zs) x y h k = k ∙ rw h (append_assoc xs x y)

-- a write that failed
pub Appends-kept : (a b c : Option (List ℕ)) (x : List ℕ) → Appends a b x → Keeps b c → Appends a c x
Appends-kept None b c x h k = tt
Appends-kept (Some xs) None c x h k = absurd h
Appends-kept (Some xs) (Some ys) None x h k = absurd k
Appends-kept (Some xs) (Some ys) (Some zs) x h k = k ∙ h

-- what was sent when a write failed: the first bytes
pub first_sent : (a b c : Option (List ℕ)) (bytes sent rest : List ℕ) → bytes ≡ sent ++ rest → Appends a b sent → Keeps b c
    → (k : ℕ) × Appends a c (take k bytes)
first_sent a b c bytes sent rest split appended kept =
    let first : take (length sent) bytes ≡ sent = rw split (take-append_seam sent rest) in
    (length sent, rw first (Appends-kept a b c sent appended kept))

-- the same where a write took nothing
pub first_stuck : (a b c : Option (List ℕ)) (bytes sent rest : List ℕ) (n : ℕ) → bytes ≡ sent ++ rest → Appends a b sent → n ≡ 0
    → Appends b c (take n rest) → (k : ℕ) × Appends a c (take k bytes)
first_stuck a b c bytes sent rest n split appended none more =
    let first : take (length sent) bytes ≡ sent = rw split (take-append_seam sent rest) in
    let both : Appends a c (sent ++ []) = Appends-then a b c sent [] appended (rw none at more) in
    (length sent, rw first (rw append-nil at both))

-- what is left after one more write
pub split_more : (bytes sent rest : List ℕ) (n : ℕ) → bytes ≡ sent ++ rest
    → bytes ≡ (sent ++ take n rest) ++ take (length rest - n) (drop n rest)
split_more bytes sent rest n split = rw (take_rest rest n, append_assoc, take-append-drop n rest) split
