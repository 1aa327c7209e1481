use Rattle.std.proofs.Common.{◌≡◌, inl, inr, ◌+◌, ◌++◌, ◌∷◌, [], length, sym, ap, subst, ◌∙◌, arith}
use Rattle.vm_cli.specs.lines.Input.{HoldsLine}
use Rattle.vm_cli.specs.session.Streams.{IsHeldBy}
use Rattle.vm_cli.proofs.BatchLemmas.{adds_large, adds_line, adds_wanting, held_length, held_lost, kept_bytes, none_of, some_of}
use Rattle.vm_cli.proofs.session.batch.Batch.hold.Goals as goal

pub returns-then-is_some-clause-held : goal.returns-then-is_some-clause-held
returns-then-is_some-clause-held c = λ held part h one. held_lost _ _ _ _ part held h (some_of _ (sym c.is_some.ensures ∙ c.if-is_some.true))

pub returns-then-len-ge-MAX_LINES-clause-held : goal.returns-then-len-ge-MAX_LINES-clause-held
returns-then-len-ge-MAX_LINES-clause-held c = λ held part h one.
    adds_large _ c.args.self.now.lines.items _ _ part _ _ _ _ (none_of _ (sym c.is_some.ensures ∙ c.if-is_some.false)) held h (c.lose.ensures.held held h)
    (λ parts lines bytes. inl (omega (arith, held_length _ parts lines, c.len.ensures, c.if-len-ge-MAX_LINES.true)))

pub returns-then-bytes-gt-MAX_BATCH_BYTES-clause-held : goal.returns-then-bytes-gt-MAX_BATCH_BYTES-clause-held
returns-then-bytes-gt-MAX_BATCH_BYTES-clause-held c = λ held part h one.
    let kept = kept_bytes c.args.line.now part one c.requires.kept in
    adds_large _ c.args.self.now.lines.items _ _ part _ _ _ _ (none_of _ (sym c.is_some.ensures ∙ c.if-is_some.false)) held h (c.lose-then-bytes-gt-MAX_BATCH_BYTES.ensures.held held h)
    (λ parts lines bytes. inr (omega (arith, bytes, ap length kept, c.len-2.ensures, c.if-bytes-gt-MAX_BATCH_BYTES.true)))

pub returns-in_default-clause-held : goal.returns-in_default-clause-held
returns-in_default-clause-held c = λ held part h one.
    adds_wanting _ c.args.self.now.lines.items _ _ part _ _ _ _ (none_of _ (sym c.is_some.ensures ∙ c.if-is_some.false)) held h
    (c.lose-in_default.ensures.held held (subst (λ lines. IsHeldBy c.args.self.now.lost lines c.args.self.now.count c.args.self.now.bytes held) (sym c.in_default.ensures.items) h))

pub returns-clause-held : goal.returns-clause-held
returns-clause-held c = λ held part h one.
    let kept = kept_bytes c.args.line.now part one c.requires.kept in
    let size : length part ≡ c.len-2.result = omega (arith, ap length kept, c.len-2.ensures) in
    let line : HoldsLine c.replace-held.result part = subst (λ l. HoldsLine l part) (sym c.replace-held.ensures.value) one in
    let added = adds_line _ c.args.self.now.lines.items c.args.self.now.count c.args.self.now.bytes part c.replace-held.result line (none_of _ (sym c.is_some.ensures ∙ c.if-is_some.false)) held h in (
      added.0,
      subst (λ lines. IsHeldBy c.args.self.now.lost lines (c.args.self.now.count + 1) (c.args.self.now.bytes + c.len-2.result) added.0) (sym c.in-Ok.ensures.items)
          (subst (λ n. IsHeldBy c.args.self.now.lost (c.args.self.now.lines.items ++ c.replace-held.result ∷ []) (c.args.self.now.count + 1) (c.args.self.now.bytes + n) added.0) size added.1),
      added.2,
    )
