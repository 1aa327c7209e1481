use Rattle.std.proofs.Common.{◌≡◌, ◌++◌, ◌-◌, ◌+◌, ◌∷◌, ℕ, List, [], sym, subst, refl, append_assoc, arith, rules, take, drop}
use Rattle.std.specs.Io.KnownBytes.{Consumes}
use Rattle.vm_cli.specs.lines.Input.{HoldsLine}
use Rattle.vm_cli.specs.session.LineReading.{Took, unread_of}
use Rattle.vm_cli.proofs.FeedLemmas.{part_before, whole_part}
use Rattle.vm_cli.proofs.ReadingLemmas.{reads_end, took_all, took_line, took_kept, took_more, unread_behind, unread_short}
use Rattle.vm_cli.proofs.session.line_reader.LineReader.read_line.Goals as goal

pub extend-requires : goal.extend-requires
extend-requires g c =
    let first = c.in-Some.ensures in
    part_before (unread_of c.loop.self) c.in-Some.end (omega (arith, first.0.high)) (λ k lt. first.0.before k (omega arith) lt)

pub extend-requires-in-loop : goal.extend-requires-in-loop
extend-requires-in-loop g c = whole_part (unread_of c.loop.self) c.memchr.result c.memchr.ensures (search rules)

pub returns-in-Some : goal.returns-in-Some
returns-in-Some g c = λ from holds.
    let first = c.in-Some.ensures in
    let unread : List ℕ = unread_of c.loop.self in
    let p = c.loop.invariant from holds in
    let bytes : List ℕ = take c.in-Some.end unread in
    let line : HoldsLine c.extend.new.self (from ++ (p.0 ++ bytes)) = subst (HoldsLine c.extend.new.self) (append_assoc from p.0 bytes) (c.extend.ensures (from ++ p.0) p.1) in (
      p.0 ++ bytes,
      line,
      subst (Took (g.R.Read.remaining c.args.reader.now) (g.R.Read.remaining c.loop.reader) (unread_of c.args.self.now) ((p.0 ++ bytes) ++ 10 ∷ []))
          (sym (unread_behind c.loop.self.start (c.in-Some.end + 1) c.loop.self.end c.loop.self.chunk
          (omega (arith, first.0.high, unread_short (c.loop.self.end - c.loop.self.start) (drop c.loop.self.start c.loop.self.chunk), c.loop.self.in_order)))) (took_line _ _ _ p.0 unread p.2 c.in-Some.end first.0.high first.1),
    )

pub returns-in-Ok-eq0 : goal.returns-in-Ok-eq0
returns-in-Ok-eq0 g c = λ from holds.
    let unread : List ℕ = unread_of c.loop.self in
    let p = c.loop.invariant from holds in
    let line : HoldsLine c.extend-in-loop.new.self (from ++ (p.0 ++ unread)) = subst (HoldsLine c.extend-in-loop.new.self) (append_assoc from p.0 unread) (c.extend-in-loop.ensures (from ++ p.0) p.1) in
    let bytes = c.in-Ok-eq0.ensures.bytes in
    let got : Consumes (g.R.Read.remaining c.loop.reader) (g.R.Read.remaining c.read.new.self) [] =
    subst (λ n. Consumes (g.R.Read.remaining c.loop.reader) (g.R.Read.remaining c.read.new.self) (take n c.read.new.buf)) c.in-Ok-eq0.field-0-test bytes.0 in
    let took = took_more _ _ _ _ _ (took_all _ _ _ p.0 unread p.2) _ [] got refl in
    rw c.ending_of.ensures (reads_end c.extend-in-loop.new.self from (p.0 ++ unread) _ _ _ line took (bytes.1 c.in-Ok-eq0.field-0-test (search rules)))

pub returns-in-Err : goal.returns-in-Err
returns-in-Err g c = λ from holds.
    let unread : List ℕ = unread_of c.loop.self in
    let p = c.loop.invariant from holds in
    (p.0 ++ unread, took_kept _ _ _ _ _ (took_all _ _ _ p.0 unread p.2) _ c.in-Err.ensures.bytes)

pub loop-preserved : goal.loop-preserved
loop-preserved g c = λ from holds.
    let unread : List ℕ = unread_of c.loop.self in
    let p = c.loop.invariant from holds in
    let line : HoldsLine c.extend-in-loop.new.self (from ++ (p.0 ++ unread)) = subst (HoldsLine c.extend-in-loop.new.self) (append_assoc from p.0 unread) (c.extend-in-loop.ensures (from ++ p.0) p.1) in
    let took = took_more _ _ _ _ _ (took_all _ _ _ p.0 unread p.2) _ _ c.in-Ok.ensures.bytes.0 refl in
    let whole : c.in-Ok.count - 0 ≡ c.in-Ok.count = omega arith in
    (p.0 ++ unread, line, subst (λ n. Took (g.R.Read.remaining c.args.reader.now) (g.R.Read.remaining c.read.new.self) (unread_of c.args.self.now) (p.0 ++ unread) (take n c.read.new.buf)) (sym whole) took)
