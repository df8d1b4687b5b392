use Rattle.std.proofs.Common.{arith, ◌+◌, ◌≡◌, ◌∷◌, [], ◌∙◌, All, ap, sym, subst, length}
use Rattle.std.proofs.lemmas.List.{length-append}
use Rattle.std.proofs.lemmas.List.Elements.{All-push}
use Rattle.actor_pool.specs.Beside.{FitsSeen}
use Rattle.actor_pool.specs.Helpers.{seat_of}
use Rattle.actor_pool.proofs.BesideLemmas.{fits-later}
use Rattle.pool_run.specs.Parts.{IsJoinable}
use Rattle.pool_run.proofs.BackLemmas.{all-lasting, all-later}
use Rattle.pool_run.proofs.HandLemmas.{All-front, All-last, first-of, joined-tags}
use Rattle.pool_run.proofs.handing.join_helpers.Goals as goal

pub join-requires-clause-own : goal.join-requires-clause-own
join-requires-clause-own g c =
    let last = All-last (IsJoinable c.args.pool.now g.B.Beside.fits (seat_of c.args.helper.now).tags) _ _ c.in-Some.back c.in-Some.ensures.items c.loop-back.invariant.joinable in
    (c.loop-back.invariant.own, last.spare.own)

pub join-requires-clause-first : goal.join-requires-clause-first
join-requires-clause-first g c = (length c.loop-back.helpers.items, c.loop-back.invariant.first)

pub join-requires-clause-other : goal.join-requires-clause-other
join-requires-clause-other g c =
    let last = All-last (IsJoinable c.args.pool.now g.B.Beside.fits (seat_of c.args.helper.now).tags) _ _ c.in-Some.back c.in-Some.ensures.items c.loop-back.invariant.joinable in
    last.spare.other

pub loop-back-preserved : goal.loop-back-preserved
loop-back-preserved g c =
    let before = c.loop-back.invariant in
    let p = c.args.pool.now in
    let fits = g.B.Beside.fits in
    let grows = g.met.B.Beside.grows in
    let old = seat_of c.loop-back.helper in
    let now = seat_of c.join.new.self in
    let step = c.join.ensures in
    let back = c.in-Some.back in
    let ys = c.pop.new.self.items in
    let Joinable = IsJoinable p fits (seat_of c.args.helper.now).tags in
    let last = c.in-Some.ensures.items in
    let one = All-last Joinable _ _ back last before.joinable in
    let fewer : length c.loop-back.helpers.items ≡ length ys + 1 = omega (arith, ap length last, length-append ys (back ∷ [])) in
    let same = joined-tags old (seat_of back.helper) now step.seat in
    record {
      own = step.own;
      first = step.out (length ys) (first-of p _ _ c.loop-back.helper fewer before.first);
      tags = same ∙ before.tags;
      joinable = All-front Joinable _ _ back last before.joinable;
      count = omega (arith, before.count, fewer, ap length c.in_ok-push.ensures.items, length-append c.loop-back.besides.items (back.beside ∷ []));
      seen = subst (All (FitsSeen fits now)) (sym c.in_ok-push.ensures.items)
          (All-push (FitsSeen fits now) c.loop-back.besides.items back.beside (all-later fits grows c.loop-back.besides.items old now same step.seen.0 before.seen)
          (fits-later fits grows back.beside (seat_of back.helper) now ((same ∙ before.tags) ∙ sym one.tags) step.seen.1 one.seen));
    }

pub returns-clause-first : goal.returns-clause-first
returns-clause-first g c = first-of c.args.pool.now (length c.loop-back.helpers.items) 0 c.loop-back.helper (omega (arith, c.in_default.ensures.cases.0, c.loop-back.helpers.ok.0)) c.loop-back.invariant.first

pub returns-clause-later : goal.returns-clause-later
returns-clause-later g c = all-lasting g.B.Beside.fits g.met.B.Beside.grows c.loop-back.besides.items (seat_of c.loop-back.helper) c.loop-back.invariant.seen
