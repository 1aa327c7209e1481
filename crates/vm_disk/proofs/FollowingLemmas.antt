-- What a disk held at each moment.
use Rattle.std.proofs.Common.{◌≡◌, ◌≤◌, ◌<◌, ◌++◌, ℕ, inl, inr, List, [], ◌∷◌, length, refl, sym, subst, arith}
use Rattle.std.proofs.lemmas.List.{length-append}
use Rattle.vm_disk.specs.Disk.{Contents, DiskState, LeftAt, LeftPast, MayLeave, Medium, moment}
use Rattle.vm_disk.specs.Following.{Follows, HeldAt, HeldPast, IsMeanwhile}
use Rattle.vm_disk.specs.Moments.{AtEach, Throughout}

-- a moment that is past is before the present one
pub held_before : (ms : List Medium) (t : ℕ) (held : Medium) → HeldPast ms t held → t < length ms
held_before [] t held h = absurd h
held_before (m ∷ ms) t held (inl h) = let e : t ≡ length ms = h.0 in omega arith
held_before (m ∷ ms) t held (inr h) = let below : t < length ms = held_before ms t held h in omega arith

held_since : (Q : Medium → Type 0) (ms : List Medium) (m : Medium) (past : List Medium) (t : ℕ) (held : Medium) → AtEach Q ms → Q m → length past ≤ t → HeldPast (ms ++ m ∷ past) t held → Q held
held_since Q [] m past t held each first late (inl h) = subst Q (sym h.1) first
held_since Q [] m past t held each first late (inr h) =
    let below : t < length past = held_before past t held h in absurd (omega arith)
held_since Q (k ∷ ms) m past t held each first late (inl h) = subst Q (sym h.1) each.0
held_since Q (k ∷ ms) m past t held each first late (inr h) = held_since Q ms m past t held each.1 first late h

-- what holds throughout holds of what was held
pub held_only : (old new : DiskState) (Q : Medium → Type 0) → Throughout old new Q → (t : ℕ) (held : Medium) → moment old ≤ t → HeldAt new t held → Q held
held_only old new Q h t held late at =
    held_since Q h.since old.now old.past t held h.each h.first late (let R : List Medium → Type 0 = λ ms. HeldPast ms t held in subst R h.goes_on at)

held_as_before : (ms : List Medium) (m : Medium) (past : List Medium) (t : ℕ) (held : Medium) → t ≤ length past → HeldPast (ms ++ m ∷ past) t held → HeldPast (m ∷ past) t held
held_as_before [] m past t held early h = h
held_as_before (k ∷ ms) m past t held early (inl h) =
    let e : t ≡ length (ms ++ m ∷ past) = h.0 in absurd (omega (arith, length-append ms (m ∷ past)))
held_as_before (k ∷ ms) m past t held early (inr h) = held_as_before ms m past t held early h

-- what was held stays so
pub held_stays : (old new : DiskState) (Q : Medium → Type 0) → Throughout old new Q → (t : ℕ) (held : Medium) → t ≤ moment old → HeldAt new t held → HeldAt old t held
held_stays old new Q h t held early at =
    held_as_before h.since old.now old.past t held early (let R : List Medium → Type 0 = λ ms. HeldPast ms t held in subst R h.goes_on at)

-- a crash leaves what it may of what was held
held_of_left : (ms : List Medium) (t : ℕ) (left : Contents) → LeftPast ms t left → (m : Medium) × HeldPast ms t m × MayLeave m left
held_of_left [] t left h = absurd h
held_of_left (m ∷ ms) t left (inl h) = (m, inl (h.0, refl), h.1)
held_of_left (m ∷ ms) t left (inr h) = let found = held_of_left ms t left h in (found.0, inr found.1, found.2)

left_of_held : (ms : List Medium) (t : ℕ) (m : Medium) (left : Contents) → HeldPast ms t m → MayLeave m left → LeftPast ms t left
left_of_held [] t m left h may = absurd h
left_of_held (n ∷ ms) t m left (inl h) may = inl (h.0, (let R : Medium → Type 0 = λ x. MayLeave x left in subst R h.1 may))
left_of_held (n ∷ ms) t m left (inr h) may = inr (left_of_held ms t m left h may)

-- what a crash leaves of a disk that follows one above, one of that may leave
pub left_above : (above below : DiskState) (follows : Follows above below) (k t : ℕ) (left : Contents) → k ≤ moment above → IsMeanwhile follows.time k t → LeftAt below t left → LeftAt above k left
left_above above below follows k t left within meanwhile at =
    let found = held_of_left (below.now ∷ below.past) t left at in
    let over = follows.under k t found.0 within meanwhile found.1 in
    left_of_held (above.now ∷ above.past) k over.0 left over.1 (over.2.left left found.2)
