use Rattle.std.proofs.Common.{[], ◌≡◌, ◌<◌, false, codes, arith, rules, sym}
use Rattle.vm_types.specs.Bytes.{longest}
use Rattle.std.specs.Str.{bytes_eq}
use Rattle.vm_cli.proofs.Escapes.{spelled-long, spelled-next, spelled-start, value_of-none, value_of-plain}
use Rattle.vm_cli.proofs.lines.escape.value.Goals as goal

pub returns-then-is_none : goal.returns-then-is_none
returns-then-is_none c =
    let no : bytes_eq c.args.word.now (codes "-") ≡ false = search rules in
    value_of-plain c.args.word.now c.memchr.result c.new-then-is_none.result no c.memchr.ensures (search rules) c.new-then-is_none.ensures.short c.new-then-is_none.ensures.value

pub loop-rest-init : goal.loop-rest-init
loop-rest-init c = record { spelled = spelled-start [] c.args.word.now; few = search rules; held = search rules }

pub returns-then-len-eq-MAX_LEN : goal.returns-then-len-eq-MAX_LEN
returns-then-len-eq-MAX_LEN c =
    let no : bytes_eq c.args.word.now (codes "-") ≡ false = search rules in
    let held = c.loop-rest.invariant.held in
    sym (value_of-none c.args.word.now no
    (spelled-long c.args.word.now c.loop-rest.rest.now c.in_ok-byte.after.now c.loop-rest.room c.in_ok-byte.byte (omega arith)
    (rw c.if-len-eq-MAX_LEN.true at c.loop-rest.invariant.spelled) c.in_ok-byte.ensures.0))

pub loop-rest-preserved : goal.loop-rest-preserved
loop-rest-preserved c =
    let held = c.loop-rest.invariant.held in
    let more : c.loop-rest.len < longest = search rules in
    record {
      spelled = spelled-next c.args.word.now c.loop-rest.rest.now c.in_ok-byte.after.now c.loop-rest.room c.loop-rest.len c.in_ok-byte.byte (omega arith)
          c.loop-rest.invariant.spelled c.in_ok-byte.ensures.0;
      few = omega arith;
      held = search rules;
    }
