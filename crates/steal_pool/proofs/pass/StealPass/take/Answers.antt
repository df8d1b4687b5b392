use Rattle.std.proofs.Common.{◌∙◌, ap, length, map, subst, sym}
use Rattle.std.specs.Prelude.{All}
use Rattle.std.proofs.lemmas.List.{with_items_is}
use Rattle.std.proofs.lemmas.List.Elements.{All-cons}
use Rattle.steal_pool.specs.Moments.{WasEmpty}
use Rattle.steal_pool.specs.Passes.{own_view, other_views, thief_view}
use Rattle.steal_pool.specs.Taking.{TakesOne}
use Rattle.steal_pool.proofs.MomentLemmas.{take_tells, takes_first, takes_later}
use Rattle.steal_pool.proofs.pass.StealPass.take.Goals as goal

pub pop_as-requires-clause-fifo : goal.pop_as-requires-clause-fifo
pop_as-requires-clause-fifo g c = λ _. take_tells g.P.Protocol.holds _ _ c.requires.kept.own

pub returns-in-Some-clause-taken : goal.returns-in-Some-clause-taken
returns-in-Some-clause-taken g c =
    let told = c.in-Some.ensures.rule in
    takes_first g.P.Protocol.holds c.in-Some.ticket _ _ (other_views c.args.self.now) told.0 told.1

pub returns-in-Some-steal_first-clause-taken : goal.returns-in-Some-steal_first-clause-taken
returns-in-Some-steal_first-clause-taken g c =
    let holds = g.P.Protocol.holds in
    let olds = c.args.self.now.others in
    let nows = c.steal_first.new.thieves in
    let ticket = c.in-Some-steal_first.ticket in
    let Takes = TakesOne holds ticket in
    let value = c.as_mut_slice.ensures.value in
    let stolen = c.in-Some-steal_first.ensures.taken in
    let found = subst (λ l. Takes (map thief_view l) (map thief_view nows)) value stolen in
    let back = with_items_is olds nows (c.steal_first.auto.thieves ∙ ap length value ∙ sym olds.ok.0) in
    let others = subst (λ l. Takes (map thief_view olds.items) (map thief_view l)) (sym back) found in
    let own = c.in_default.ensures.rule in
    takes_later holds ticket _ _ _ _ own.0 own.1 others

pub returns-clause-empty : goal.returns-clause-empty
returns-clause-empty g c =
    let WasNone = WasEmpty g.P.Protocol.holds in
    let own = c.args.self.now in
    let stolen = c.in_default-steal_first.ensures.empty in
    let others = subst (λ l. All WasNone (map thief_view l)) c.as_mut_slice.ensures.value stolen in
    All-cons WasNone (own_view own) (map thief_view own.others.items) c.in_default.ensures.rule.1 others
