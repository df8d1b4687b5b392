-- What is told of one arrival.
use Rattle.std.proofs.Common.{◌≡◌, ◌∙◌, ℕ, zero, suc, ◌+◌, ◌<◌, List, [], ◌∷◌, length, map, get_or, Option, None, Some, slice_get, refl, sym, ap, arith}
use Rattle.std.specs.Option.{option_map}
use Rattle.join_base.specs.declared.message.Source.{Source}
use Rattle.mailbox_core.specs.Mail.{Received, source_in}
use Rattle.fair_semantics.specs.declared.run.Effect.{Effect}
use Rattle.fair_semantics.specs.declared.run.Entry.{Entry}
use Rattle.fair_semantics.specs.declared.run.Firing.{Firing}
use Rattle.fair_semantics.specs.Linked.{firing_effects}
use Rattle.actor_turn.specs.Held.{entry_effects, entry_source}
use Rattle.actor_turn.specs.Parts.{entries_of}

pub source_at : (from : ℕ) (arrivals : List Received) (firings : List (Option Firing)) (place : ℕ) (source : Source) → length firings ≡ length arrivals → option_map source_in (slice_get arrivals place) ≡ Some source → option_map entry_source (slice_get (entries_of from arrivals firings) place) ≡ Some source
source_at from [] firings place source e h = absurd cc
source_at from (a ∷ arrivals) [] place source e h = absurd (omega arith)
source_at from (a ∷ arrivals) (f ∷ firings) zero source e h = h
source_at from (a ∷ arrivals) (f ∷ firings) (suc place) source e h = source_at (from + 1) arrivals firings place source (omega arith) h

pub effects_at : (fired : List (Option Firing)) (entries : List Entry) (place : ℕ) (firing : Option Firing) (effects : List Effect) → fired ≡ map (λ (entry : Entry). entry.firing) entries → place < length entries → firing ≡ get_or fired place firing → firing_effects firing ≡ effects → option_map entry_effects (slice_get entries place) ≡ Some effects
effects_at fired entries place firing effects is l at e = by entries place l (rw is at at)
  where
    by : (own : List Entry) (place : ℕ) → place < length own → firing ≡ get_or (map (λ (entry : Entry). entry.firing) own) place firing → option_map entry_effects (slice_get own place) ≡ Some effects
    by [] place l at = absurd (omega arith)
    by (entry ∷ own) zero l at = ap Some (ap firing_effects (sym at) ∙ e)
    by (entry ∷ own) (suc place) l at = by own place (omega arith) at
