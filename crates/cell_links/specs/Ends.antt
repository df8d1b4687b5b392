-- What contracts read of the links of an actor and of a poster.
use Rattle.std.specs.Prelude.{◌≡◌, ◌==◌, ℕ, List, [], ◌∷◌, ◌++◌, length, map, if◌then◌else◌}
use Rattle.join_base.specs.declared.message.Source.{Source}
use Rattle.join_base.specs.declared.message.Stamped.{Stamped}
use Rattle.post_ring.specs.declared.identity.LinkIdentity.{LinkIdentity}
use Rattle.post_ring.specs.Links.{sent, room, received, identity_in, identity_out}
use Rattle.cell_links.specs.declared.ends.Inward.{Inward}
use Rattle.cell_links.specs.declared.ends.Outward.{Outward}
use Rattle.cell_links.specs.declared.ends.ActorLinks.{ActorLinks}
use Rattle.cell_links.specs.declared.ends.LinkTags.{LinkTags}
use Rattle.cell_links.specs.declared.feed_links.FeedLinks.{FeedLinks}

-- the identity of a link, with its source or target
abbrev pub inward_tag : Inward → Source × LinkIdentity
inward_tag w = (w.source, identity_out w.link)

abbrev pub outward_tag : Outward → ℕ × LinkIdentity
outward_tag w = (w.target, identity_in w.link)

-- what stays of the links of an actor
abbrev pub tags_of : List Inward → List Outward → LinkTags
tags_of inward outward = record { inward = map inward_tag inward; outward = map outward_tag outward }

abbrev pub link_tags : ActorLinks → LinkTags
link_tags links = tags_of links.inward.items links.outward.items

abbrev pub poster_links : FeedLinks → List Outward
poster_links p = p.outward.items

-- and of a poster
abbrev pub PosterTag : Type 0
PosterTag = List (ℕ × LinkIdentity)

abbrev pub poster_tag : FeedLinks → PosterTag
poster_tag p = map outward_tag (poster_links p)

abbrev pub link_count : FeedLinks → ℕ
link_count p = length (poster_links p)

-- what was sent over the link to a target, or nothing where there is none
abbrev pub sent_to : List Outward → ℕ → List Stamped
sent_to [] target = []
sent_to (w ∷ outward) target = if w.target == target then sent w.link else sent_to outward target

-- how many slots the link to a target knows to be free
abbrev pub room_to : List Outward → ℕ → ℕ
room_to [] target = 0
room_to (w ∷ outward) target = if w.target == target then room w.link else room_to outward target

-- this was sent to the target, and nothing else
abbrev pub SendsMore : List Outward → ℕ → Stamped → List Outward → Type 0
SendsMore old target post now = (other : ℕ) → sent_to now other ≡ (if target == other then sent_to old other ++ post ∷ [] else sent_to old other)

-- nothing was sent
abbrev pub SendsSame : List Outward → List Outward → Type 0
SendsSame old now = (target : ℕ) → sent_to now target ≡ sent_to old target
