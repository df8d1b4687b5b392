-- The history of an actor: it has the message that was taken, and else stays.
use Rattle.std.proofs.Common.{◌≡◌, ◌∙◌, ℕ, List, [], ◌∷◌, ◌++◌, Bool, true, false, sym, ap}
use Rattle.std.specs.Prelude.{if◌then◌else◌}
use Rattle.std.proofs.lemmas.List.{map-append}
use Rattle.join_base.specs.declared.message.Message.{Message}
use Rattle.join_base.specs.declared.message.Source.{Source}
use Rattle.mailbox_core.specs.Mail.{Mail, Received, next_arrival, with_arrival, with_live}
use Rattle.actor_turn.specs.Held.{Held, History, as_sent, history_with, is_taken}
use Rattle.actor_turn.specs.Parts.{history_in}

-- the numbers that leave are no part of it
pub same_arrivals : (over : Bool) (before after : Mail) → after ≡ (if over then with_live before [] else before) → after.arrivals ≡ before.arrivals
same_arrivals true before after e = ap (λ (m : Mail). m.arrivals) e
same_arrivals false before after e = ap (λ (m : Mail). m.arrivals) e

module _ (held : Held) (m : Mail) (source : Source) (message : Message) (stamp : ℕ) (was : held.history ≡ history_in m.arrivals) where
  abbrev more : Bool → History
  more taken = if taken then held.history ++ as_sent source message stamp ∷ [] else held.history

  pub history_more : (before after : Mail) → is_taken held.setting held.state message stamp ≡ true → before ≡ with_arrival m source message stamp → after.arrivals ≡ before.arrivals → history_in after.arrivals ≡ history_with held source message stamp
  history_more before after taken recorded same =
      ap history_in same ∙ ap (λ (b : Mail). history_in b.arrivals) recorded ∙ map-append (λ (a : Received). as_sent a.source a.message a.came) m.arrivals (next_arrival m.arrivals source message stamp ∷ [])
      ∙ ap (λ (h : History). h ++ as_sent source message stamp ∷ []) (sym was) ∙ ap more (sym taken)

  pub history_same : (after : Mail) → is_taken held.setting held.state message stamp ≡ false → after.arrivals ≡ m.arrivals → history_in after.arrivals ≡ history_with held source message stamp
  history_same after away same = ap history_in same ∙ sym was ∙ ap more (sym away)
