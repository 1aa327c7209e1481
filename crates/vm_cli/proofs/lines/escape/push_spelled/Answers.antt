use Rattle.std.proofs.Common.{◌≡◌, ◌<◌, false, codes, get_or, arith, rules, below_more}
use Rattle.std.specs.Str.{bytes_eq}
use Rattle.vm_cli.proofs.Written.{length-written, plain-small, value-again, value_text-plain, written-more}
use Rattle.vm_cli.proofs.lines.escape.push_spelled.Goals as goal

pub loop-byte-preserved : goal.loop-byte-preserved
loop-byte-preserved c =
    let bytes = c.args.bytes.now in
    let more = length-written c.loop-byte.text c.push_escaped.new.text (get_or bytes c.loop-byte.byte-index 0) c.push_escaped.ensures in
    let here : get_or bytes c.loop-byte.byte-index 0 < 256 = search rules in
    let so_far = c.loop-byte.invariant.short in
    record {
      written = written-more c.args.text.now c.loop-byte.text c.push_escaped.new.text bytes c.loop-byte.byte-index c.loop-byte.invariant.written c.push_escaped.ensures c.loop-byte-test.true;
      short = omega arith;
      small = below_more _ _ c.loop-byte.invariant.small here;
    }

pub returns-clause-read_again : goal.returns-clause-read_again
returns-clause-read_again c =
    value-again c.args.bytes.now (λ i lt. c.loop-byte.invariant.small i (omega arith)) c.requires.short

pub returns-then-are_plain-clause-written : goal.returns-then-are_plain-clause-written
returns-then-are_plain-clause-written c =
    let other : bytes_eq c.args.bytes.now (codes "-") ≡ false = search rules in
    let plain = c.are_plain.ensures c.if-are_plain.true in
    rw (value_text-plain c.args.bytes.now (search rules) other plain) c.push_bytes-then-are_plain.ensures

pub returns-then-are_plain-clause-read_again : goal.returns-then-are_plain-clause-read_again
returns-then-are_plain-clause-read_again c = value-again c.args.bytes.now (plain-small c.args.bytes.now (c.are_plain.ensures c.if-are_plain.true)) c.requires.short
