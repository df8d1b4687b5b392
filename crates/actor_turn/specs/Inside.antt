-- What an actor keeps inside.
use Rattle.std.specs.Prelude.{◌≡◌, ℕ, ◌≤◌, List, [], Option, true, false, length, map, vec_capacity}
use Rattle.std.specs.List.{AllByRecursion}
use Rattle.join_base.specs.declared.message.Sort.{Sort}
use Rattle.mailbox_core.specs.Mail.{Mail}
use Rattle.mailbox_core.specs.Mail as mail
use Rattle.match_tree.specs.Tree.{Tree}
use Rattle.tree_law.specs.Trees.{HasOnce, path_count}
use Rattle.script_types.specs.Typed.{IsTypedRule}
use Rattle.fair_semantics.specs.declared.run.Ending.{Ending}
use Rattle.fair_semantics.specs.declared.run.Firing.{Firing}
use Rattle.fair_semantics.specs.Step.{Setting, fits, is_running}
use Rattle.run_fit_law.specs.RestLaw.{TakesNewest}
use Rattle.actor_turn.specs.declared.actor.Actor.TheInside.{Inside}
use Rattle.actor_turn.specs.Held.{Held, AreLimits}
use Rattle.actor_turn.specs.Indexed.{IsIndexOf}
use Rattle.actor_turn.specs.Parts.{AreFired, history_in, state_of}
use Rattle.actor_turn.specs.Steady.{IsSteady}

abbrev pub setting_in : Inside → Setting
setting_in a = record { sorts = a.sorts; rules = a.rules; limits = a.limits }

abbrev pub held_of : Inside → Held
held_of a = record {
  setting = setting_in a;
  state = state_of a.mail.mail a.firings.items a.ending;
  history = history_in a.mail.mail.arrivals;
  trees = a.trees.items;
  outbox = map (λ o. o.posts) a.outboxes.items;
  lent = map (λ o. o.lent) a.outboxes.items;
}

abbrev pub HasFewFields : List Sort → Type 0
HasFewFields types = length types ≤ 8

-- what it was told: limits that it can be given, kinds of few fields, and at most 16 rules that are well typed, where
-- there are so many actors
pub record IsTold (actors : ℕ) (setting : Setting) : Type 0 where
  pub limits : AreLimits setting.limits
  pub fields : AllByRecursion HasFewFields setting.sorts
  pub few : length setting.rules ≤ 16
  pub typed : AllByRecursion (IsTypedRule actors setting.sorts) setting.rules

-- a firing or none for each arrival, which took its number; the recorded messages fit; the trees hold the partial
-- matches, each once, and there are not too many; no number is left where the actor has ended
pub record IsAtRest (setting : Setting) (m : Mail) (firings : List (Option Firing)) (end : Ending) (trees : List Tree) : Type 0 where
  pub fired : AreFired m firings
  pub newest : AllByRecursion TakesNewest (state_of m firings end).entries
  pub fitting : AllByRecursion (λ message. fits setting.sorts message ≡ true) (mail.recorded_messages m.arrivals)
  pub steady : IsSteady setting (state_of m firings end) trees
  pub once : AllByRecursion HasOnce trees
  pub few : path_count trees ≤ 1000000
  pub ended : is_running end ≡ false → m.live ≡ []

-- what is true of every actor; its index has the numbers that are not consumed, and it has room for the entries of its
-- run
pub record IsKept (a : Inside) : Type 0 where
  pub told : IsTold (length a.outboxes.items) (setting_in a)
  pub rest : IsAtRest (setting_in a) a.mail.mail a.firings.items a.ending a.trees.items
  pub indexed : IsIndexOf a.index a.mail.mail
  pub none : a.entries.items ≡ []
  pub room : length a.mail.mail.arrivals ≤ vec_capacity a.entries
