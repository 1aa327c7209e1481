-- A line that grows by some bytes.
use Rattle.std.proofs.Common.{◌≡◌, ◌<◌, ◌≤◌, ◌+◌, ℕ, List, [], ◌∷◌, ◌++◌, false, length, refl, arith, length-append, append-nil, subst, sym}
use Rattle.vm_cli.specs.lines.Input.{HoldsLine, KindHolds, is_nil}
use Rattle.vm_cli.specs.lines.Lines.{IsPart}
use Rattle.vm_cli.specs.declared.lines.line.LineKind.TheVariants.{Kept, Long, NoMemory}
use Rattle.vm_cli.specs.declared.lines.line.Line.{Line}

pub IsPart-append : (part more : List ℕ) → IsPart part → IsPart more → IsPart (part ++ more)
IsPart-append [] more h k = k
IsPart-append (x ∷ part) more h k = (h.0, IsPart-append part more h.1 k)

is_nil-append : (part more : List ℕ) → 0 < length more → is_nil (part ++ more) ≡ false
is_nil-append [] [] lt = absurd (omega (arith, lt))
is_nil-append [] (b ∷ more) lt = refl
is_nil-append (x ∷ part) more lt = refl

-- no byte
pub holds-none : (part more : List ℕ) (line : Line) → length more ≡ 0 → HoldsLine line part → HoldsLine line (part ++ more)
holds-none part [] line none h = subst (λ bytes. HoldsLine line bytes) (sym (append-nil part)) h
holds-none part (b ∷ more) line none h = absurd (omega (arith, none))

module _ (part more : List ℕ) (old new : Line) (unbroken : IsPart more) (some : 0 < length more) (h : HoldsLine old part) (e : new.is_empty ≡ false) where
  holds : KindHolds new.kind new.bytes.items (part ++ more) → HoldsLine new (part ++ more)
  holds k =
      record { unbroken = IsPart-append part more h.unbroken unbroken; kind = k; empty = subst (λ v. new.is_empty ≡ v) (sym (is_nil-append part more some)) e }

  -- bytes that are kept
  pub holds-kept : old.kind ≡ Kept → length old.bytes.items + length more ≤ 1048576 → new.kind ≡ Kept → new.bytes.items ≡ old.bytes.items ++ more → HoldsLine new (part ++ more)
  holds-kept was room is items =
      let kept : KindHolds Kept old.bytes.items part = rw was at h.kind in
      let room2 : length part + length more ≤ 1048576 = rw kept.0 at room in
      let now : KindHolds Kept new.bytes.items (part ++ more) = (rw (items, kept.0) refl, rw (length-append part more) room2) in
      holds (rw is now)

  -- bytes past the limit
  pub holds-long : old.kind ≡ Kept → 1048576 < length old.bytes.items + length more → new.kind ≡ Long → HoldsLine new (part ++ more)
  holds-long was full is =
      let kept : KindHolds Kept old.bytes.items part = rw was at h.kind in
      let full2 : 1048576 < length part + length more = rw kept.0 at full in
      let now : KindHolds Long new.bytes.items (part ++ more) = rw (length-append part more) full2 in
      holds (rw is now)

  pub holds-longer : old.kind ≡ Long → new.kind ≡ Long → HoldsLine new (part ++ more)
  holds-longer was is =
      let long : 1048576 < length part = rw was at h.kind in
      let now : KindHolds Long new.bytes.items (part ++ more) = rw (length-append part more) (omega (arith, long)) in
      holds (rw is now)

  -- bytes for which there is no memory
  pub holds-no_memory : new.kind ≡ NoMemory → HoldsLine new (part ++ more)
  holds-no_memory is = holds (rw is tt)
