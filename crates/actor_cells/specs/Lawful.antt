-- What contracts read of a cell, and when it is lawful.
use Rattle.std.specs.Prelude.{◌≡◌, ◌==◌, ℕ, ◌<◌, ◌≤◌, ◌-◌, ◌^◌, min, Bool, true, false, List, [], ◌∷◌, ◌++◌, length, map, take, Contains, if◌then◌else◌}
use Rattle.std.specs.List.{AllByRecursion, flat_map, list_any}
use Rattle.join_base.specs.Late.{late_count}
use Rattle.join_base.specs.declared.message.Source.{Source}
use Rattle.join_base.specs.declared.message.Source.TheVariants.{Feed, Actor}
use Rattle.join_base.specs.declared.message.Stamped.{Stamped}
use Rattle.script_types.specs.declared.plan.Rule.{Rule}
use Rattle.script_types.specs.declared.plan.Statement.{Statement}
use Rattle.script_types.specs.declared.plan.Statement.TheVariants as statement
use Rattle.fair_semantics.specs.declared.run.Entry.{Entry}
use Rattle.fair_semantics.specs.Step.{Setting, State, opening}
use Rattle.fair_semantics.specs.Fair.{after_all}
use Rattle.fair_semantics.specs.Linked.{arrived, entry_posts, given_by, messages_of, rest_of, same_source, sources, taken_from}
use Rattle.actor_turn.specs.Held.{Held, History, posts_for}
use Rattle.actor_turn.specs.Rest.{HoldsPartialMatches}
use Rattle.post_ring.specs.Links.{received, empty_looks}
use Rattle.cell_links.specs.declared.ends.Inward.{Inward}
use Rattle.cell_links.specs.declared.ends.LinkTags.{LinkTags}
use Rattle.cell_links.specs.Ends.{tags_of, sent_to}
use Rattle.actor_cells.specs.declared.cell.Cell.{Cell}
use Rattle.actor_cells.specs.declared.cell.CellTag.{CellTag}
use Rattle.actor_cells.specs.declared.cell.LinkTally.{LinkTally}

-- ---- what contracts read of a cell

abbrev pub held_in : Cell → Held
held_in c = c.actor.value

abbrev pub state_in : Cell → State
state_in c = (held_in c).state

abbrev pub feeds_in : Cell → ℕ
feeds_in c = length (state_in c).late.feeds

abbrev pub actors_in : Cell → ℕ
actors_in c = length (state_in c).late.actors

abbrev pub links_in : Cell → LinkTags
links_in c = tags_of c.inward.items c.outward.items

abbrev pub cell_tag : Cell → CellTag
cell_tag c = record {
  sorts = (held_in c).setting.sorts;
  rules = (held_in c).setting.rules;
  limits = (held_in c).setting.limits;
  feeds = feeds_in c;
  actors = actors_in c;
  links = links_in c;
}

-- what its actor recorded: each message with its source and the stamp that it carried
abbrev pub history_of : Cell → History
history_of c = (held_in c).history

abbrev pub link_tally : Inward → LinkTally
link_tally w = record { received = length (received w.link); empty_looks = empty_looks w.link }

abbrev pub tally_of : Cell → List LinkTally
tally_of c = map link_tally c.inward.items

-- what came over the link from a source, or nothing where there is none
abbrev pub received_from : List Inward → Source → List Stamped
received_from [] source = []
received_from (w ∷ inward) source = if same_source w.source source then received w.link else received_from inward source

-- ---- tags

-- one of so many feeds, or of so many actors
abbrev pub IsAmong : ℕ → ℕ → Source → Type 0
IsAmong feeds actors (Feed k) = (1 ≤ k) × (k ≤ feeds)
IsAmong feeds actors (Actor a) = a < actors

abbrev pub AreDifferent : List Source → Type 0
AreDifferent [] = Unit {0}
AreDifferent (s ∷ sources) = AllByRecursion (λ t. same_source t s ≡ false) sources × AreDifferent sources

abbrev pub AreDistinct : List ℕ → Type 0
AreDistinct [] = Unit {0}
AreDistinct (t ∷ targets) = AllByRecursion (λ u. (u == t) ≡ false) targets × AreDistinct targets

abbrev pub is_post_to : ℕ → Statement → Bool
is_post_to target (statement.Print items) = false
is_post_to target (statement.Post to kind operands) = to == target
is_post_to target statement.Stop = false
is_post_to target (statement.Reply pattern operand) = false

-- whether a body of the rules has a post to the target
abbrev pub names_target : List Rule → ℕ → Bool
names_target rules target = list_any (λ rule. list_any (is_post_to target) rule.body) rules

abbrev pub sources_in : CellTag → List Source
sources_in tag = map (λ entry. entry.0) tag.links.inward

abbrev pub targets_in : CellTag → List ℕ
targets_in tag = map (λ entry. entry.0) tag.links.outward

-- a link from a source is one of a feed or an actor that there is, and one to a target of an actor that there is; no
-- two have one source or one target; and each actor that a body posts to has a link
pub record IsTag (tag : CellTag) : Type 0 where
  pub known : AllByRecursion (IsAmong tag.feeds tag.actors) (sources_in tag)
  pub different : AreDifferent (sources_in tag)
  pub exist : AllByRecursion (λ target. target < tag.actors) (targets_in tag)
  pub distinct : AreDistinct (targets_in tag)
  pub named : (target : ℕ) → target < tag.actors → names_target tag.rules target ≡ true → Contains (targets_in tag) target

-- ---- lawful cells

module _ (c : Cell) where
  abbrev pub entries_in : List Entry
  entries_in = (state_in c).entries

  abbrev pub came : Source → List Stamped
  came = received_from c.inward.items

  abbrev pub rules_in : Setting
  rules_in = (held_in c).setting

  abbrev pub all_sources : List Source
  all_sources = sources (feeds_in c) (actors_in c)

  -- what came over a link is the messages of the entries from its source and then a rest, whose length is the late
  -- count; the history is the entries, each message with the stamp that it carried over its link; the state is the fair
  -- semantics of that and then the rests; the trees hold the partial matches of the recorded messages that are not
  -- consumed; and what went over the link to a target, and then what waits for it, is what the entries posted to it
  pub record IsLawful : Type 0 where
    pub tag : IsTag (cell_tag c)
    pub outboxes : length (held_in c).outbox ≡ actors_in c
    pub in_order : (source : Source) → taken_from source entries_in ≡ take (length (taken_from source entries_in)) (messages_of (came source))
    pub late : (source : Source) → Contains all_sources source → late_count (state_in c).late source ≡ min (length (rest_of came entries_in source)) (2 ^ 64 - 1)
    pub history : history_of c ≡ arrived came entries_in
    pub fair : state_in c ≡ after_all rules_in (opening (feeds_in c) (actors_in c)) (given_by rules_in.sorts all_sources came entries_in)
    pub partial : HoldsPartialMatches (held_in c)
    pub posted : (target : ℕ) → target < actors_in c → sent_to c.outward.items target ++ posts_for (held_in c).outbox target ≡ flat_map (entry_posts target) entries_in
