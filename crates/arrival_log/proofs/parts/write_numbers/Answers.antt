use Rattle.std.proofs.Common.{◌≡◌, get_or, rules}
use Rattle.std.specs.Fmt.{decimal}
use Rattle.arrival_log.proofs.CommaLemmas.{item_written}
use Rattle.arrival_log.proofs.parts.write_numbers.Goals as goal

pub loop-place-preserved : goal.loop-place-preserved
loop-place-preserved c =
    let item : c.from.result ≡ get_or c.args.numbers.now c.loop-place.place 0 = search rules in
    item_written (λ n. decimal n) c.args.numbers.now c.loop-place.place 0 c.from.result c.args.text.now c.loop-place.text c.write_comma.new.text c.write_count.new.text
    c.loop-place-test.true item c.loop-place.invariant c.in_ok-write_comma.ensures.ok c.in_ok-write_count.ensures.ok
