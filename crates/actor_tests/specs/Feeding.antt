-- The messages of a feed, as the actor of a test is sent them.
use Rattle.std.specs.Prelude.{ℕ, List, map}
use Rattle.join_base.specs.declared.message.Message.{Message}
use Rattle.join_base.specs.declared.message.Source.TheVariants.{Feed}
use Rattle.fair_semantics.specs.Fair.{Sent}

-- each in order, from feed 1 and with the stamp 0
abbrev pub from_feed : List (ℕ × Message) → List Sent
from_feed posts = map (λ post. (Feed 1, record { message = post.1; stamp = 0 })) posts
