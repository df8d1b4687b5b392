use Rattle.std.proofs.Common.{arith, ap, length, ◌∙◌, ◌∷◌, []}
use Rattle.std.proofs.lemmas.List.{length-append}
use Rattle.turn_lock.specs.Seats.{view_of}
use Rattle.actor_pool.specs.Helpers.{SeatView}
use Rattle.actor_pool.specs.Posters.{IsSeated}
use Rattle.actor_pool.proofs.HelperLemmas.{one-fewer, prefix-trans}
use Rattle.actor_pool.proofs.PosterLemmas.{All-front, ends-more}
use Rattle.actor_pool.proofs.closing.join_all.Goals as goal

pub loop-poster-preserved : goal.loop-poster-preserved
loop-poster-preserved c =
    let before = c.loop-poster.invariant in
    let step = c.join_seat.ensures in
    let last = c.in-Some.ensures.items in
    let ys = c.pop.new.self.items in
    let fewer = ap length last ∙ length-append ys (c.in-Some.poster ∷ []) in
    record {
      own = step.own.0 ∙ before.own;
      free = ap (λ (x : SeatView). x.turn) step.view ∙ before.free;
      tags = ap (λ (x : SeatView). x.tags) step.view ∙ before.tags;
      seen = λ i. prefix-trans _ _ _ (before.seen i) (step.seen.0 i);
      first = one-fewer (length ys) _ (view_of c.loop-poster.seat) (view_of c.join_seat.new.seat) fewer before.first step.out;
      seated = All-front (IsSeated c.args.turns.now) c.loop-poster.posters.items ys c.in-Some.poster last before.seated;
      ends = ends-more _ _ _ _ c.in-Some.poster _ before.ends last c.in_ok-push.ensures.items;
    }

pub returns-in_err-push-clause-seen : goal.returns-in_err-push-clause-seen
returns-in_err-push-clause-seen c i = prefix-trans _ _ _ (c.loop-poster.invariant.seen i) (c.join_seat.ensures.seen.0 i)
