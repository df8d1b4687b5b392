use Rattle.std.proofs.Common.{◌≡◌, ◌∙◌, ◌∷◌, [], ◌++◌, ◌-◌, ℕ, List, length, true, ap, sym, subst}
use Rattle.std.specs.Option.{option_to_list}
use Rattle.join_base.specs.declared.message.Message.{Message}
use Rattle.join_base.specs.Taken.{contains_number}
use Rattle.mailbox_core.specs.Mail.{HeldMail, recorded_messages, without_last}
use Rattle.mailbox_core.proofs.MailLemmas.{front_count, messages_are, received_count, retracted}
use Rattle.mailbox_core.proofs.mailbox.Mailbox.retract_last.Goals as goal

pub pop-requires : goal.pop-requires
pop-requires c =
    let a = c.self.inside in
    let asked = subst (λ (h : HeldMail). contains_number h.mail.live (length h.mail.arrivals) ≡ true) (sym c.self.view_is) c.requires.last in
    let count = received_count a.messages.items a.marks.items c.self.invariant.marked ∙ sym c.self.invariant.numbered in
    record { last = ap (contains_number a.live.numbers) (sym count) ∙ asked }

pub returns-clause-message : goal.returns-clause-message
returns-clause-message c =
    let a = c.self.inside in
    let messages : a.messages.items ≡ c.pop-3.new.self.items ++ c.unwrap.result ∷ [] = c.pop-3.ensures.items ∙ ap (λ (r : _). c.pop-3.new.self.items ++ option_to_list r) c.unwrap.ensures in
    let marked : length c.pop-2.new.self.items ≡ length c.pop-3.new.self.items
    = front_count _ a.marks.items _ a.marks.ok.0 c.pop-2.ensures.rest ∙ ap (λ (n : ℕ). n - 1) c.self.invariant.marked ∙ sym (front_count _ a.messages.items _ a.messages.ok.0 c.pop-3.ensures.rest) in
    sym (ap (λ (h : HeldMail). recorded_messages h.mail.arrivals) c.self.view_is) ∙ messages_are a.messages.items a.marks.items c.self.invariant.marked ∙ messages
    ∙ ap (λ (ls : List Message). ls ++ c.unwrap.result ∷ []) (sym (messages_are _ _ marked))

pub returns-clause-retracted : goal.returns-clause-retracted
returns-clause-retracted c =
    let a = c.self.inside in
    retracted a.messages.items _ a.marks.items _ a.live.numbers _ a.late a.live.count _ _ c.self.invariant.marked a.messages.ok.0 a.marks.ok.0 c.pop-3.ensures.rest c.pop-2.ensures.rest c.pop.ensures.numbers
    ∙ ap (λ (h : HeldMail). without_last h.mail) c.self.view_is
