use Rattle.std.proofs.Common.{◌≡◌, ◌∙◌, ℕ, List, ap, length, subst, sym}
use Rattle.std.specs.List.{AllByRecursion}
use Rattle.join_base.specs.declared.message.Message.{Message}
use Rattle.fair_semantics.specs.Fits.{PostFits}
use Rattle.actor_tests.proofs.one_thread.feed_of.Goals as goal

pub returns : goal.returns
returns c =
    let same = c.in_ok-lists.ensures.same in
    record {
      one = ap (λ (lists : List (List (ℕ × Message))). length lists) same ∙ c.in_ok-feeds.ensures.one;
      fits = subst (λ (lists : List (List (ℕ × Message))). AllByRecursion (AllByRecursion (PostFits c.args.plan.now)) lists) (sym same) c.in_ok-feeds.ensures.fits;
    }
