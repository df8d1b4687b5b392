use Rattle.std.proofs.Common.{◌≡◌, ◌∙◌, ℕ, ◌+◌, ◌<◌, List, ◌++◌, ◌∷◌, [], length, take, ap, sym, subst, arith}
use Rattle.join_base.specs.declared.message.Source.{Source}
use Rattle.actor_system.specs.Serving.{Link, MovedTo, Served, Serving, after_link, links_to, source_at, some_taken, system_in, waits_on}
use Rattle.actor_system.proofs.LinkLemmas.{link_next, links_all, links_part, on_err, served_link, served_still, taken_link}
use Rattle.actor_system.proofs.system.System.serve.Goals as goal

pub returns-in_err-taken-clause-part : goal.returns-in_err-taken-clause-part
returns-in_err-taken-clause-part g c =
    let s : Serving = c.args.self.now in
    on_err c.from_residual.result
    (links_part s c.bring.new.self c.args.target c.loop-place.place
    (served_still s c.loop-place.self c.bring.new.self (take c.loop-place.place (links_to s c.args.target)) c.loop-place.invariant.served c.in_err-taken.ensures.unchanged))

pub loop-place-preserved : goal.loop-place-preserved
loop-place-preserved g c =
    let s : Serving = c.args.self.now in
    let now : Serving = c.loop-place.self in
    let links : List Link = links_to s c.args.target in
    let front : List Link = take c.loop-place.place links in
    let source : c.source_at.result ≡ source_at (length s.feeds) c.loop-place.place = c.source_at.ensures ∙ ap (λ (n : ℕ). source_at n c.loop-place.place) c.loop-place.invariant.feeds in
    let link : Link = (c.args.target, source_at (length s.feeds) c.loop-place.place) in
    let within : c.loop-place.place < length s.feeds + length s.plan.actors = omega (arith, c.loop-place-test.true, c.loop-place.invariant.sources) in
    let next : take (c.loop-place.place + 1) links ≡ front ++ link ∷ [] = link_next s c.args.target c.loop-place.place within in
    let moved : MovedTo now (after_link now.plan now.limits (system_in now) link) c.bring.new.self =
    subst (λ (x : Source). MovedTo now (after_link now.plan now.limits (system_in now) (c.args.target, x)) c.bring.new.self) source c.in_ok-taken.ensures.served in
    let waits : c.in_ok-taken.field-0 ≡ waits_on (system_in now) link = c.in_ok-taken.ensures.taken ∙ ap (λ (x : Source). waits_on (system_in now) (c.args.target, x)) source in
    record {
      feeds = c.loop-place.invariant.feeds;
      sources = c.loop-place.invariant.sources;
      served = subst (λ (ls : List Link). Served s ls c.bring.new.self) (sym next) (served_link s now c.bring.new.self front link c.loop-place.invariant.served moved);
      taken = taken_link s now front link c.loop-place.taken c.in_ok-taken.field-0 c.loop-place.invariant.served c.loop-place.invariant.taken waits ∙ ap (some_taken s.plan s.limits (system_in s)) (sym next);
    }

pub returns-clause-served : goal.returns-clause-served
returns-clause-served g c =
    let s : Serving = c.args.self.now in
    subst (λ (ls : List Link). Served s ls c.loop-place.self) (links_all s c.args.target c.loop-place.place (omega (arith, c.loop-place-test.false, c.loop-place.invariant.sources))) c.loop-place.invariant.served

pub returns-clause-taken : goal.returns-clause-taken
returns-clause-taken g c =
    let s : Serving = c.args.self.now in
    c.loop-place.invariant.taken ∙ ap (some_taken s.plan s.limits (system_in s)) (links_all s c.args.target c.loop-place.place (omega (arith, c.loop-place-test.false, c.loop-place.invariant.sources)))
