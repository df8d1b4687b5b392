use Rattle.feed_causes.proofs.SearchLemmas.{step_made}
use Rattle.feed_causes.proofs.search.look.Goals as goal

pub returns : goal.returns
returns c = record {
  looks =
      step_made c.args.all.now c.args.origins.now c.args.marks.now.items c.mark_led.new.marks.items c.args.waiting.now c.pop.new.self c.mark_led.new.waiting c.in-Some.last c.origin_in.result
      c.requires.origins c.in-Some.ensures.last c.origin_in.ensures c.in_ok-mark_led.ensures.marks c.in_ok-mark_led.ensures.waiting;
}
