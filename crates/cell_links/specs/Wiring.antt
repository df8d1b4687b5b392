-- When links belong together.
use Rattle.std.specs.Prelude.{◌≡◌, ℕ, ◌+◌, ◌<◌, List, [], ◌∷◌, ◌++◌, All, length, map, slice_index_or}
use Rattle.join_base.specs.declared.message.Source.{Source}
use Rattle.join_base.specs.declared.message.Source.TheVariants.{Feed, Actor}
use Rattle.post_ring.specs.declared.identity.LinkIdentity.{LinkIdentity}
use Rattle.cell_links.specs.declared.ends.LinkTags.{LinkTags}
use Rattle.cell_links.specs.Ends.{PosterTag}

-- an end of a link as tags have it: its source, its target and its identity
abbrev pub Key : Type 0
Key = Source × ℕ × LinkIdentity

abbrev pub inward_key : ℕ → Source × LinkIdentity → Key
inward_key target tag = (tag.0, target, tag.1)

abbrev pub outward_key : Source → ℕ × LinkIdentity → Key
outward_key source tag = (source, tag.0, tag.1)

-- the links into actors that are numbered from i on
abbrev pub inward_keys : ℕ → List LinkTags → List Key
inward_keys i [] = []
inward_keys i (t ∷ tags) = map (inward_key i) t.inward ++ inward_keys (i + 1) tags

-- the links out of them
abbrev pub outward_keys : ℕ → List LinkTags → List Key
outward_keys i [] = []
outward_keys i (t ∷ tags) = map (outward_key (Actor i)) t.outward ++ outward_keys (i + 1) tags

-- the links out of feeds that are numbered from k on
abbrev pub feed_keys : ℕ → List PosterTag → List Key
feed_keys k [] = []
feed_keys k (t ∷ tags) = map (outward_key (Feed k)) t ++ feed_keys (k + 1) tags

-- the two are of one source and one target
abbrev pub Joins : Key → Key → Type 0
Joins d e = (d.0 ≡ e.0) × (d.1 ≡ e.1)

-- no two are
abbrev pub AreApart : List Key → Type 0
AreApart [] = Unit {0}
AreApart (e ∷ es) = All (λ d. ¬ (Joins d e)) es × AreApart es

-- the ends that messages go into are those of the ends that they come out of: each end on one side has one of its source and target on the other,
-- and where source and target are the same the identity is
pub record AreLinked (sending receiving : List Key) : Type 0 where
  pub agree : All (λ e. All (λ d. Joins d e → d.2 ≡ e.2) sending) receiving
  pub served : All (λ e. (k : ℕ) × (k < length sending) × ((d : Key) → Joins (slice_index_or sending k d) e)) receiving
  pub answered : All (λ d. (k : ℕ) × (k < length receiving) × ((e : Key) → Joins d (slice_index_or receiving k e))) sending
  pub apart : AreApart receiving
  pub single : AreApart sending

abbrev pub sending_keys : List LinkTags → List PosterTag → List Key
sending_keys tags posters = feed_keys 1 posters ++ outward_keys 0 tags

-- the links of actors and posters with these tags are those of one pool
abbrev pub IsWired : List LinkTags → List PosterTag → Type 0
IsWired tags posters = AreLinked (sending_keys tags posters) (inward_keys 0 tags)
