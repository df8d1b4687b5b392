-- How links are made, source by source.
use Rattle.std.specs.Prelude.{◌≡◌, ℕ, ◌+◌, ◌<◌, List, [], ◌∷◌, ◌++◌, All, length, map, slice_index_or}
use Rattle.join_base.specs.declared.message.Source.{Source}
use Rattle.join_base.specs.declared.message.Source.TheVariants.{Actor}
use Rattle.post_ring.specs.Links.{sent, room, received}
use Rattle.cell_links.specs.declared.ends.Inward.{Inward}
use Rattle.cell_links.specs.declared.ends.Outward.{Outward}
use Rattle.cell_links.specs.declared.ends.ActorLinks.{ActorLinks}
use Rattle.cell_links.specs.Ends.{inward_tag, outward_tag}
use Rattle.cell_links.specs.Wiring.{AreLinked, Joins, Key, inward_key, outward_key}

abbrev pub key_in : ℕ → Inward → Key
key_in target w = inward_key target (inward_tag w)

abbrev pub key_out : Source → Outward → Key
key_out source w = outward_key source (outward_tag w)

-- the keys of the links into targets that are numbered from i on
abbrev pub keys_from : ℕ → List (List Inward) → List Key
keys_from i [] = []
keys_from i (ws ∷ more) = map (key_in i) ws ++ keys_from (i + 1) more

-- the keys of the links out of actors that are numbered from i on
abbrev pub sending_from : ℕ → List (List Outward) → List Key
sending_from i [] = []
sending_from i (ws ∷ more) = map (key_out (Actor i)) ws ++ sending_from (i + 1) more

-- nothing came over the link
abbrev pub IsNewIn : Inward → Type 0
IsNewIn w = received w.link ≡ []

-- nothing went over the link, and it knows that so many slots are free
abbrev pub IsNewOut : ℕ → Outward → Type 0
IsNewOut ring w = (sent w.link ≡ []) × (room w.link ≡ ring)

abbrev pub AllNew : List (List Inward) → Type 0
AllNew inwards = All (All IsNewIn) inwards

-- links over which nothing went
pub record AreNew (ring : ℕ) (links : ActorLinks) : Type 0 where
  pub inward : All IsNewIn links.inward.items
  pub outward : All (IsNewOut ring) links.outward.items

-- the new links are added to those that were there, whatever they were, if none of them had this source
abbrev pub Connects : Source → List Outward → List (List Inward) → List (List Inward) → Type 0
Connects source outward old now = (sending : List Key) → AreLinked sending (keys_from 0 old) → All (λ d. ¬ (d.0 ≡ source)) sending → AreLinked (sending ++ map (key_out source) outward) (keys_from 0 now)

-- the same of one link
abbrev pub ConnectsOne : Source → Outward → List (List Inward) → List (List Inward) → Type 0
ConnectsOne source w old now = (sending : List Key) → AreLinked sending (keys_from 0 old) → All (λ d. ¬ (Joins d (key_out source w))) sending → AreLinked (sending ++ key_out source w ∷ []) (keys_from 0 now)

-- no two of the targets are the same
abbrev pub TargetsApart : List ℕ → Type 0
TargetsApart targets = (i j : ℕ) → i < j → j < length targets → ¬ (slice_index_or targets i 0 ≡ slice_index_or targets j 0)
