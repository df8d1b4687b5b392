-- No post of a feed carries a stamp.
use Rattle.std.proofs.Common.{◌≡◌, ℕ, zero, suc, List, [], ◌∷◌, Bool, true, false, Option, None, Some, refl, slice_get}
use Rattle.std.specs.Prelude.{◌==◌, if◌then◌else◌}
use Rattle.std.specs.List.{cons_option, filter_map}
use Rattle.join_base.specs.declared.message.Message.{Message}
use Rattle.join_base.specs.declared.message.Stamped.{Stamped}
use Rattle.fair_semantics.specs.Linked.{feed_posts, post_for, stamp_at}

abbrev unstamped_post : (ℕ × Message) → Stamped
unstamped_post post = record { message = post.1; stamp = 0 }

pub feed_unstamped : (actor : ℕ) (o : Option (List (ℕ × Message))) (k : ℕ) → stamp_at (slice_get (feed_posts actor o) k) ≡ 0
feed_unstamped actor None k = refl
feed_unstamped actor (Some []) k = refl
feed_unstamped actor (Some (post ∷ posts)) k = by (post.0 == actor) (λ j. feed_unstamped actor (Some posts) j) k
  where
    by : (b : Bool) → ((j : ℕ) → stamp_at (slice_get (filter_map (post_for actor) posts) j) ≡ 0) → (j : ℕ) → stamp_at (slice_get (cons_option (if b then Some (unstamped_post post) else None) (filter_map (post_for actor) posts)) j) ≡ 0
    by false later j = later j
    by true later zero = refl
    by true later (suc j) = later j
