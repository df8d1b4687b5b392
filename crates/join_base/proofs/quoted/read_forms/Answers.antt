use Rattle.std.proofs.Common.{◌≡◌, ◌≢◌, ◌∙◌, sym, length, take, drop, get_or, None, inl, arith}
use Rattle.std.proofs.lemmas.List.{length-take}
use Rattle.std.proofs.lemmas.Bool.Decides.{nat_tests}
use Rattle.join_base.specs.Unquoted.{form_at}
use Rattle.join_base.proofs.QuotedLemmas.{none_further, none_from_form}
use Rattle.join_base.proofs.quoted.read_forms.Goals as goal

pub returns-then-count-room-clause-none : goal.returns-then-count-room-clause-none
returns-then-count-room-clause-none c _ text rest short told =
    let other : get_or (drop c.forms.place c.args.bytes.now) 0 0 ≢ 34 = grind (arith, nat_tests) in
    none_further (take c.forms.count c.forms.room) text (drop c.forms.place c.args.bytes.now) rest (length c.args.room.now)
    (sym c.forms.invariant.told ∙ told) short other (inl (omega (arith, length-take c.forms.count c.forms.room)))

pub returns-in_err-byte-clause-none : goal.returns-in_err-byte-clause-none
returns-in_err-byte-clause-none c _ text rest short told =
    let left = drop c.forms.place c.args.bytes.now in
    let other : get_or left 0 0 ≢ 34 = grind (arith, nat_tests) in
    let none : form_at left ≡ None = cc c.in_err-byte.ensures.value in
    none_from_form (take c.forms.count c.forms.room) text left rest (length c.args.room.now) (sym c.forms.invariant.told ∙ told) short other none
