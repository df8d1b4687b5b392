use Rattle.std.proofs.Common.{ap, sym}
use Rattle.actor_cells.proofs.BringLemmas.{last-of, refuses, taken}
use Rattle.actor_cells.proofs.serving.bring_one.Goals as goal

pub give_back-requires : goal.give_back-requires
give_back-requires g c =
    let took = taken c.args.link.now c.take.new.self c.in-Some.stamped c.take.result c.in-Some.is c.take.ensures.taken in
    record {
      place = c.take.ensures.place;
      last = last-of c.args.link.now c.take.new.self c.in-Some.stamped _ took (λ i. record { message = c.in-Err.ensures.back i; stamp = c.in-Some.stamped.stamp });
      small = took.small;
    }

pub returns-in-Ok-clause-brought : goal.returns-in-Ok-clause-brought
returns-in-Ok-clause-brought g c =
    let took = taken c.args.link.now c.take.new.self c.in-Some.stamped c.take.result c.in-Some.is c.take.ensures.taken in
    let step = c.in-Ok.ensures in
    record { message = c.in-Some.stamped; identity = took.identity; took = took.taken; looks = took.looks; setting = step.setting; state = sym (ap (λ p. p.0) step.step); history = step.history; partial = step.partial; outbox = step.outbox }

pub returns-in-Err-clause-refused : goal.returns-in-Err-clause-refused
returns-in-Err-clause-refused g c =
    let took = taken c.args.link.now c.take.new.self c.in-Some.stamped c.take.result c.in-Some.is c.take.ensures.taken in
    refuses _ _ c.args.link.now c.take.new.self _ c.in-Some.stamped _ took (λ i. record { message = c.in-Err.ensures.back i; stamp = c.in-Some.stamped.stamp }) c.give_back.ensures.returned c.in-Err.ensures.unchanged c.in-Err.ensures.taken
