use Rattle.std.proofs.Common.{◌≡◌, ◌∙◌, ◌+◌, ◌++◌, ◌∷◌, [], List, length, Option, ap, sym, refl, arith, length-append}
use Rattle.std.specs.Option.{option_to_list}
use Rattle.join_base.specs.declared.message.Message.{Message}
use Rattle.mailbox_core.specs.declared.mailbox.Postmark.{Postmark}
use Rattle.fair_semantics.specs.declared.run.Entry.{Entry}
use Rattle.fair_semantics.specs.declared.run.Firing.{Firing}
use Rattle.actor_turn.proofs.PartsLemmas.{entry_from, popped_entries}
use Rattle.actor_turn.proofs.run.into_entries.Goals as goal

pub loop-message-preserved : goal.loop-message-preserved
loop-message-preserved c =
    let i = c.loop-message.invariant in
    let message = c.in-Some.message in
    let mark = c.unwrap-mark.result in
    let firing = c.unwrap-firing.result in
    let entry : Entry = entry_from (c.len.result + 1) message mark firing in
    let ls : List Message = c.give_room_back.new.items.items in
    let ms : List Postmark = c.give_room_back-in-Some.new.items.items in
    let fs : List (Option Firing) = c.give_room_back-in-Some-2.new.items.items in
    let messages : c.loop-message.messages.items ≡ ls ++ message ∷ [] = c.in-Some.ensures.items ∙ ap (λ (xs : List Message). xs ++ message ∷ []) (sym c.give_room_back.ensures.same) in
    let marks : c.loop-message.marks.items ≡ ms ++ mark ∷ []
    = c.pop-in-Some.ensures.items ∙ ap (λ (r : Option Postmark). c.pop-in-Some.new.self.items ++ option_to_list r) c.unwrap-mark.ensures ∙ ap (λ (xs : List Postmark). xs ++ mark ∷ []) (sym c.give_room_back-in-Some.ensures.same) in
    let firings : c.loop-message.firings.items ≡ fs ++ firing ∷ []
    = c.pop-in-Some-2.ensures.items ∙ ap (λ (r : Option (Option Firing)). c.pop-in-Some-2.new.self.items ++ option_to_list r) c.unwrap-firing.ensures ∙ ap (λ (xs : List (Option Firing)). xs ++ firing ∷ []) (sym c.give_room_back-in-Some-2.ensures.same) in
    let entries : c.push.new.self.items ≡ c.loop-message.entries.items ++ entry ∷ [] = rw (c.push.ensures.items, c.unwrap.ensures, c.from.ensures) refl in
    let count : c.len.result ≡ length ls = c.len.ensures ∙ c.pop.new.self.ok.0 ∙ ap length (sym c.give_room_back.ensures.same) in
    let a = ap length messages ∙ length-append ls (message ∷ []) in
    let b = ap length marks ∙ length-append ms (mark ∷ []) in
    let d = ap length firings ∙ length-append fs (firing ∷ []) in
    record {
      marked = omega (arith, i.marked);
      fired = omega (arith, i.fired);
      few = omega (arith, i.few);
      room = omega (arith, i.room, c.push.ensures.upper_bound, c.push.ensures.capacity);
      told = popped_entries _ ls _ ms _ fs message mark firing _ _ (c.len.result + 1) _
          (omega (arith, i.marked)) (omega (arith, i.fired)) messages marks firings (omega arith) entries i.told;
    }
