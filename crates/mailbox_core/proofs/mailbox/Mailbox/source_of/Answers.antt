use Rattle.std.proofs.Common.{◌≡◌, ◌∙◌, ◌-◌, ◌≤◌, ◌<◌, Some, length, slice_get, sym, ap, arith}
use Rattle.std.specs.Option.{option_map}
use Rattle.mailbox_core.specs.Mail.{received_of, source_in}
use Rattle.mailbox_core.proofs.MailLemmas.{received_count, source_there}
use Rattle.mailbox_core.proofs.mailbox.Mailbox.source_of.Goals as goal

pub index-requires : goal.index-requires
index-requires c =
    let arrivals : received_of c.self.inside.messages.items c.self.inside.marks.items ≡ c.args.self.now.mail.arrivals = ap (λ h. h.mail.arrivals) c.self.view_is in
    let as_many = ap length arrivals in
    let count = received_count c.self.inside.messages.items c.self.inside.marks.items c.self.invariant.marked in
    let whole = c.self.inside.marks.ok in
    let most = c.requires.recorded.1 in
    let some = c.requires.recorded.0 in
    let marked = c.self.invariant.marked in
    omega arith

pub returns : goal.returns
returns c =
    let arrivals : received_of c.self.inside.messages.items c.self.inside.marks.items ≡ c.args.self.now.mail.arrivals = ap (λ h. h.mail.arrivals) c.self.view_is in
    let as_many = ap length arrivals in
    let count = received_count c.self.inside.messages.items c.self.inside.marks.items c.self.invariant.marked in
    let most = c.requires.recorded.1 in
    let some = c.requires.recorded.0 in
    let marked = c.self.invariant.marked in
    let within : c.args.number - 1 < length c.self.inside.marks.items = omega arith in
    record { source = rw (← arrivals) (source_there c.self.inside.messages.items c.self.inside.marks.items (c.args.number - 1) c.index.result.now marked within c.index.ensures) }
