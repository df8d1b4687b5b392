-- What an actor holds between two arrivals.
use Rattle.std.specs.Prelude.{ℕ, ◌+◌, ◌≤◌, List, [], ◌∷◌, ◌++◌, Bool, true, false, not, ◌&&◌, if◌then◌else◌, Option, None, Some, drop, length, replicate, slice_set, slice_index_or}
use Rattle.std.specs.List.{flat_map}
use Rattle.join_base.specs.declared.message.Message.{Message}
use Rattle.join_base.specs.declared.message.Source.{Source}
use Rattle.join_base.specs.declared.message.Stamped.{Stamped}
use Rattle.pattern_core.specs.declared.definition.Definition.{Definition}
use Rattle.match_tree.specs.Tree.{Tree, empty_of}
use Rattle.tree_law.specs.Trees.{tries_from}
use Rattle.script_types.specs.declared.plan.Plan.{Plan}
use Rattle.script_types.specs.declared.plan.Rule.{Rule}
use Rattle.fair_semantics.specs.declared.run.Effect.{Effect}
use Rattle.fair_semantics.specs.declared.run.Entry.{Entry}
use Rattle.fair_semantics.specs.declared.run.Limits.{Limits}
use Rattle.fair_semantics.specs.Fair.{Sent, setting_of}
use Rattle.fair_semantics.specs.Fits.{IsFrom1To}
use Rattle.fair_semantics.specs.Linked.{entry_posts, firing_effects}
use Rattle.fair_semantics.specs.Step.{Setting, State, recorded_messages, definitions_of, opening, is_running, is_refused}

-- what was recorded, in order: each message with its source and the stamp that it carried
abbrev pub History : Type 0
History = List Sent

-- what it was told, its state and its history; the trees, of partial matches, that it keeps; for each actor of the plan
-- the posts that wait for it, in order, and whether the post that was taken last may be brought back
pub record Held : Type 0 where
  pub setting : Setting
  pub state : State
  pub history : History
  pub trees : List Tree
  pub outbox : List (List Stamped)
  pub lent : List Bool

-- limits that an actor can be given
pub record AreLimits (limits : Limits) : Type 0 where
  pub arrivals : IsFrom1To 1000000 limits.arrivals
  pub partials : IsFrom1To 1000000 limits.partials

-- a tree for each definition, of which the first has this number, with the empty path alone
abbrev pub new_trees : ℕ → List Definition → List Tree
new_trees rule [] = []
new_trees rule (definition ∷ definitions) = record { definition = definition; rule = rule; paths = empty_of definition ∷ []; reserve = None } ∷ new_trees (rule + 1) definitions

-- an actor before its first arrival
abbrev pub new_actor : Plan → ℕ → Limits → ℕ → Held
new_actor plan index limits feeds = record {
  setting = setting_of plan index limits;
  state = opening feeds (length plan.actors);
  history = [];
  trees = new_trees 1 (definitions_of (setting_of plan index limits).rules);
  outbox = replicate (length plan.actors) [];
  lent = replicate (length plan.actors) false;
}

-- ---- posts

-- the outbox with the posts of these entries behind those that wait; the first list is for the actor of this number
abbrev pub posts_behind : ℕ → List Entry → List (List Stamped) → List (List Stamped)
posts_behind target entries [] = []
posts_behind target entries (posts ∷ others) = (posts ++ flat_map (entry_posts target) entries) ∷ posts_behind (target + 1) entries others

-- the entries that a state has and an earlier one did not have
abbrev pub new_entries : State → State → List Entry
new_entries before after = drop (length before.entries) after.entries

-- the posts that wait for an actor
abbrev pub posts_for : List (List Stamped) → ℕ → List Stamped
posts_for outbox target = slice_index_or outbox target []

abbrev pub first_of : List Stamped → Option Stamped
first_of [] = None
first_of (post ∷ posts) = Some post

-- without the first of the posts that wait for an actor; it may be brought back
abbrev pub without_first : Held → ℕ → List Stamped → Held
without_first held target [] = held
without_first held target (post ∷ posts) = record held { outbox = slice_set held.outbox target posts; lent = slice_set held.lent target true }

-- the post is brought back, and stands first
abbrev pub with_first : Held → ℕ → Stamped → Held
with_first held target post = record held { outbox = slice_set held.outbox target (post ∷ posts_for held.outbox target); lent = slice_set held.lent target false }

-- ---- steps

-- how often a message may be tried at the partial matches of all definitions of an actor
abbrev pub tries_for : List Rule → State → Message → ℕ
tries_for rules state message = tries_from (recorded_messages state.entries) message state.live 1 (definitions_of rules)

-- whether the actor runs and takes the message
abbrev pub is_taken : Setting → State → Message → ℕ → Bool
is_taken setting state message stamp = is_running state.ending && not (is_refused setting state message stamp)

-- a message of a source, with the stamp that it carries
abbrev pub as_sent : Source → Message → ℕ → Sent
as_sent source message stamp = (source, record { message = message; stamp = stamp })

-- the history with a message behind it, if the actor takes that
abbrev pub history_with : Held → Source → Message → ℕ → History
history_with held source message stamp = if is_taken held.setting held.state message stamp then held.history ++ as_sent source message stamp ∷ [] else held.history

-- ---- arrivals

-- there is an arrival of this number
abbrev pub IsArrival : State → ℕ → Type 0
IsArrival state number = (1 ≤ number) × (number ≤ length state.entries)

abbrev pub entry_source : Entry → Source
entry_source entry = entry.source

-- what the body that fired at an arrival did
abbrev pub entry_effects : Entry → List Effect
entry_effects entry = firing_effects entry.firing
