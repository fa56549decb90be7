-- `form::read_records` meets its contract: boxes, rules and rows are read one after the other. Assumes nothing.
use Rattle.std.proofs.Common.{◌<◌, ap, sym, arith}
use Rattle.line.proofs.Numbers.{word-is}
use Rattle.form.specs.Parsed.{parsed_of}
use Rattle.form.proofs.Records.{records-bad, parsed}
use Rattle.form.proofs.read_records.Goals as goal

pub returns-then-os-s : goal.returns-then-os-s
unfolding parsed_of
returns-then-os-s c =
    ap parsed_of
    (sym (records-bad c.args.s.now c.args.at c.args.k c.lines_into-bs.ensures c.lines_into-rs.ensures c.lines_into-os.ensures c.if-os-s.true))

pub returns : goal.returns
returns c =
    let bs = c.lines_into-bs in
    let rs = c.lines_into-rs in
    let few_boxes : bs.result.count < 10000000000 = omega (arith, bs.ensures.few, bs.ensures.inside) in
    let few_rules : rs.result.count < 10000000000 = omega (arith, rs.ensures.few, rs.ensures.inside) in
    parsed c.args.s.now c.args.at c.args.k c.lines_into-bs.ensures c.lines_into-rs.ensures c.lines_into-os.ensures
    c.zeros-b.ensures c.zeros-t.ensures c.if-os-s.false
    (cc (c.put_all.ensures.stored, word-is {v = c.args.k} (omega arith), word-is few_boxes, word-is few_rules))
