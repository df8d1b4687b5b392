use Rattle.std.proofs.Common.{arith, ◌+◌, ◌≡◌, ◌∷◌, [], ◌++◌, ◌∙◌, All, ap, sym, subst, length}
use Rattle.std.proofs.lemmas.List.{length-append}
use Rattle.std.proofs.lemmas.List.Elements.{All-push}
use Rattle.actor_pool.specs.Helpers.{SeatView, actor_count, seat_of}
use Rattle.pool_run.specs.declared.parts.WorkPart.{WorkPart}
use Rattle.pool_run.specs.Parts.{HasTags, IsWorker}
use Rattle.pool_run.specs.Running.{IsReady}
use Rattle.pool_run.proofs.HandLemmas.{All-front, All-last, first-more, spare-of, split-tags}
use Rattle.pool_run.proofs.handing.work_parts.Goals as goal

pub loop-source-preserved : goal.loop-source-preserved
loop-source-preserved g c =
    let before = c.loop-source.invariant in
    let p = c.args.pool.now in
    let given = c.in_ok-other.ensures.given in
    let out = c.in_ok-other.ensures.out in
    let belongs = g.S.TicketSource.belongs in
    let fits = g.B.Beside.fits in
    let worker : g.row.S.Denot × g.row.B.Denot = (c.in-Some.source, c.in-Some.beside) in
    let one : WorkPart g.row.S.Denot g.row.B.Denot = record { helper = c.in_ok-other.other; source = c.in-Some.source; beside = c.in-Some.beside } in
    let more : c.push.new.self.items ≡ c.loop-source.parts.items ++ one ∷ [] = c.in_ok-push.ensures.items in
    let last : c.loop-source.workers.items ≡ c.pop.new.self.items ++ worker ∷ [] = c.in-Some.ensures.items in
    let longer : length c.loop-source.parts.items + 1 ≡ length c.push.new.self.items = omega (arith, ap length more, length-append c.loop-source.parts.items (one ∷ [])) in
    let ready = All-last (IsReady belongs fits (actor_count p)) _ _ worker last before.ready in
    let Known : WorkPart g.row.S.Denot g.row.B.Denot → Type 0 = λ part. HasTags (seat_of c.args.helper.now).tags part.helper in
    record {
      own = c.split.ensures.own;
      some = (before.some.0 + 1, out before.some.0 before.some.1);
      first = λ n was. first-more p n (length c.loop-source.parts.items) (length c.push.new.self.items) c.split.new.self longer (out (n + length c.loop-source.parts.items) (before.first n was));
      tags = split-tags _ _ c.in_ok-other.ensures.kept ∙ before.tags;
      count = omega (arith, before.count, longer, ap length last, length-append c.pop.new.self.items (worker ∷ []));
      ready = All-front (IsReady belongs fits (actor_count p)) _ _ worker last before.ready;
      parts = subst (All (IsWorker p belongs fits)) (sym more) (All-push (IsWorker p belongs fits) c.loop-source.parts.items one before.parts record {
        spare = spare-of p (seat_of c.loop-source.helper) _ given.0 given.1;
        source = ready.source;
        opening = ready.opening;
      });
      known = subst (All Known) (sym more) (All-push Known c.loop-source.parts.items one before.known (ap (λ (v : SeatView). v.tags) given.1 ∙ before.tags));
    }
