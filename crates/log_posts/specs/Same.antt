-- Whether messages are equal, and entries but for their stamps. Lists are compared item by item.
use Rattle.std.specs.Prelude.{List, Bool, false, true, ◌&&◌, ◌==◌, nat_eq, Option, None, Some}
use Rattle.std.specs.Cmp.Lexicographic.{pointwise}
use Rattle.std.specs.Ordering.{int_eq}
use Rattle.std.specs.Str.{bytes_eq}
use Rattle.join_base.specs.declared.message.Message.{Message}
use Rattle.join_base.specs.declared.message.Value.{Value}
use Rattle.join_base.specs.declared.message.Value.TheVariants.{Int, Words}
use Rattle.fair_semantics.specs.declared.run.Effect.{Effect}
use Rattle.fair_semantics.specs.declared.run.Effect.TheVariants.{Print, Post, Reply}
use Rattle.fair_semantics.specs.declared.run.Entry.{Entry}
use Rattle.fair_semantics.specs.declared.run.Firing.{Firing}
use Rattle.fair_semantics.specs.Linked.{same_source}

abbrev pub same_value : Value → Value → Bool
same_value (Int a) (Int b) = int_eq a b
same_value (Int a) (Words text) = false
same_value (Words text) (Int b) = false
same_value (Words text) (Words other) = bytes_eq text other

abbrev pub same_message : Message → Message → Bool
same_message a b = (a.kind == b.kind) && pointwise same_value a.fields b.fields

abbrev pub same_effect : Effect → Effect → Bool
same_effect (Print text) (Print second) = bytes_eq text second
same_effect (Print text) (Post target message) = false
same_effect (Print text) (Reply number value) = false
same_effect (Post target message) (Print text) = false
same_effect (Post target message) (Post second sent) = (target == second) && same_message message sent
same_effect (Post target message) (Reply number value) = false
same_effect (Reply number value) (Print text) = false
same_effect (Reply number value) (Post target message) = false
same_effect (Reply number value) (Reply second given) = (number == second) && same_value value given

abbrev pub same_firing : Firing → Firing → Bool
same_firing a b = (a.rule == b.rule) && pointwise nat_eq a.taken b.taken && pointwise same_effect a.effects b.effects

abbrev pub same_fired : Option Firing → Option Firing → Bool
same_fired None None = true
same_fired None (Some b) = false
same_fired (Some a) None = false
same_fired (Some a) (Some b) = same_firing a b

abbrev pub same_entry : Entry → Entry → Bool
same_entry a b = (a.number == b.number) && same_source a.source b.source && same_message a.message b.message && same_fired a.firing b.firing

abbrev pub same_entries : List Entry → List Entry → Bool
same_entries = pointwise same_entry
