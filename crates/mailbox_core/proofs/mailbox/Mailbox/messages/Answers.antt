use Rattle.std.proofs.Common.{◌∙◌, ap, sym, subst}
use Rattle.mailbox_core.specs.Mail.{HeldMail, IsSound, recorded_messages}
use Rattle.mailbox_core.proofs.MailLemmas.{is_sound, messages_are}
use Rattle.mailbox_core.proofs.mailbox.Mailbox.messages.Goals as goal

pub returns-clause-messages : goal.returns-clause-messages
returns-clause-messages c =
    let a = c.self.inside in
    c.as_slice.ensures.value ∙ sym (messages_are a.messages.items a.marks.items c.self.invariant.marked) ∙ ap (λ (h : HeldMail). recorded_messages h.mail.arrivals) c.self.view_is

pub returns-clause-sound : goal.returns-clause-sound
returns-clause-sound c =
    let a = c.self.inside in
    let i = c.self.invariant in
    subst (λ (h : HeldMail). IsSound h.mail) c.self.view_is (is_sound a.messages.items a.marks.items a.live.numbers a.live.count a.late i.marked i.numbered i.few i.small c.law.ensures.recorded c.law.ensures.ascending)
