use Rattle.std.proofs.Common.{◌≡◌, ◌∙◌, ◌-◌, ◌∷◌, List, take, drop, length, ap, sym, subst}
use Rattle.std.specs.List.{AllByRecursion}
use Rattle.join_base.specs.declared.message.Message.{Message}
use Rattle.fair_semantics.specs.declared.run.Effect.{Effect}
use Rattle.fair_semantics.specs.declared.run.Effect.TheVariants.{Post}
use Rattle.actor_turn.specs.Outbox.{Queue}
use Rattle.actor_turn.specs.Sent.{IsFor, delivered, sent_by}
use Rattle.actor_turn.proofs.PostsLemmas.{all_posts, delivered_one, first_effect, lent_kept, on_err, posts_kept, unsent}
use Rattle.actor_turn.proofs.sent.+send.Goals as goal

pub returns-in_err-push-in-Post-clause-same : goal.returns-in_err-push-in-Post-clause-same
returns-in_err-push-in-Post-clause-same t c =
    on_err c.from_residual-in_err-push-in-Post.result (posts_kept c.args.outboxes.now c.in-Post.target c.index-outboxes-place.result c.push.new.self c.in_err-push-in-Post.ensures.err)

pub returns-in_err-push-in-Post-clause-lent : goal.returns-in_err-push-in-Post-clause-lent
returns-in_err-push-in-Post-clause-lent t c =
    lent_kept c.args.outboxes.now c.in-Post.target c.index-outboxes-place.result c.push.new.self c.push.ensures.lent

pub returns-in-Ok-clause-posts : goal.returns-in-Ok-clause-posts
returns-in-Ok-clause-posts t c =
    let target = c.in-Post.target in
    let effects : List Effect = c.args.effects.now in
    let boxes : List Queue = c.args.outboxes.now in
    let rest : List Effect = take (length effects - 1) (drop 1 effects) in
    let first : effects ≡ Post target c.in-Post.message ∷ rest = first_effect effects c.effect-item.result c.in-len1-up.len_at_least c.effect-item.is ∙ ap (λ (e : Effect). e ∷ rest) c.in-Post.is in
    let targets = subst (λ (es : List Effect). AllByRecursion (IsFor (length boxes)) (sent_by c.args.stamp es)) first c.requires.targets in
    c.in-Ok.ensures.posts
    ∙ delivered_one target (record { message = c.in_ok-message-in-Post.message; stamp = c.args.stamp }) boxes c.index-outboxes-place.result c.push.new.self (sent_by c.args.stamp rest) targets.0 c.in_ok-push-in-Post.ensures.ok
    ∙ ap (λ (m : Message). delivered ((target, record { message = m; stamp = c.args.stamp }) ∷ sent_by c.args.stamp rest) (all_posts boxes)) c.in_ok-message-in-Post.ensures.equal
    ∙ ap (λ (es : List Effect). delivered (sent_by c.args.stamp es) (all_posts boxes)) (sym first)

pub returns-in-Ok-clause-lent : goal.returns-in-Ok-clause-lent
returns-in-Ok-clause-lent t c =
    c.send.ensures.lent ∙ lent_kept c.args.outboxes.now c.in-Post.target c.index-outboxes-place.result c.push.new.self c.push.ensures.lent

pub returns-in-Err-clause-same : goal.returns-in-Err-clause-same
returns-in-Err-clause-same t c =
    let effects : List Effect = c.args.effects.now in
    let boxes : List Queue = c.args.outboxes.now in
    let rest : List Effect = take (length effects - 1) (drop 1 effects) in
    let first : effects ≡ Post c.in-Post.target c.in-Post.message ∷ rest = first_effect effects c.effect-item.result c.in-len1-up.len_at_least c.effect-item.is ∙ ap (λ (e : Effect). e ∷ rest) c.in-Post.is in
    let targets = subst (λ (es : List Effect). AllByRecursion (IsFor (length boxes)) (sent_by c.args.stamp es)) first c.requires.targets in
    unsent c.in-Post.target (record { message = c.in_ok-message-in-Post.message; stamp = c.args.stamp }) boxes c.send.new.outboxes c.index-outboxes-place.result c.push.new.self c.index-outboxes-place-in-Err.result c.drop_last.new.self
    targets.0 c.in_ok-push-in-Post.ensures.ok c.in-Err.ensures.same c.drop_last.ensures.posts

pub returns-in-Err-clause-lent : goal.returns-in-Err-clause-lent
returns-in-Err-clause-lent t c =
    lent_kept c.send.new.outboxes c.in-Post.target c.index-outboxes-place-in-Err.result c.drop_last.new.self c.drop_last.ensures.lent
    ∙ c.send.ensures.lent
    ∙ lent_kept c.args.outboxes.now c.in-Post.target c.index-outboxes-place.result c.push.new.self c.push.ensures.lent
