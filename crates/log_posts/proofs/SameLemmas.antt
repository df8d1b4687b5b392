-- What tests of equality tell, and that each thing is equal to itself.
use Rattle.std.proofs.Common.{◌≡◌, ◌∙◌, ℕ, ◌+◌, List, [], ◌∷◌, drop, get_or, map, length, slice_get, Bool, true, false, Option, None, Some, refl, subst, ap, arith}
use Rattle.std.proofs.lemmas.List.{drop_more}
use Rattle.std.proofs.lemmas.Option.{get_or_from_slice_get, slice_get_within}
use Rattle.std.specs.Prelude.{◌&&◌, ◌==◌, nat_eq, Decides}
use Rattle.std.specs.Cmp.Lexicographic.{pointwise, pointwise_decides, unequal}
use Rattle.std.proofs.lemmas.Bool.Decides.{Decides-int_eq, nat_tests}
use Rattle.std.proofs.lemmas.Slice.Eq.{bytes_eq-Decides}
use Rattle.std.proofs.lemmas.Bool.{and_parts, eqb-true}
use Rattle.join_base.specs.declared.message.Message.{Message}
use Rattle.join_base.specs.declared.message.Value.{Value}
use Rattle.join_base.specs.declared.message.Value.TheVariants.{Int, Words}
use Rattle.fair_semantics.specs.declared.run.Effect.{Effect}
use Rattle.fair_semantics.specs.declared.run.Effect.TheVariants.{Print, Post, Reply}
use Rattle.fair_semantics.specs.declared.run.Entry.{Entry}
use Rattle.fair_semantics.specs.declared.run.Firing.{Firing}
use Rattle.fair_semantics.specs.Linked.{same_source, unstamped_entry}
use Rattle.run_order_law.proofs.EventLemmas.{same_source_is}
use Rattle.log_posts.specs.Same.{same_effect, same_entries, same_entry, same_fired, same_firing, same_message, same_value}

pub lengths_apart : {A : Type 0} (same : A → A → Bool) (own other : List A) → (length own ≡ length other → ⊥) → pointwise same own other ≡ false
lengths_apart = unequal

-- the items at one place are compared before those behind it
pub pointwise_at : {A : Type 0} (same : A → A → Bool) (own other : List A) (i : ℕ) (a b : A) → slice_get own i ≡ Some a → slice_get other i ≡ Some b → pointwise same (drop i own) (drop i other) ≡ (same a b && pointwise same (drop (i + 1) own) (drop (i + 1) other))
pointwise_at {A} same own other i a b first second =
    ap (λ (xs : List A). pointwise same xs (drop i other)) (drop_more own i a (slice_get_within own i a first))
    ∙ ap (λ (ys : List A). pointwise same (get_or own i a ∷ drop (i + 1) own) ys) (drop_more other i b (slice_get_within other i b second))
    ∙ (λ k. same (get_or_from_slice_get own i a a first k) (get_or_from_slice_get other i b b second k) && pointwise same (drop (i + 1) own) (drop (i + 1) other))

-- a test that tells things to be equal, and each to be so to itself, decides it
decides : {A : Type 0} (same : A → A → Bool) → ((a b : A) → same a b ≡ true → a ≡ b) → ((a : A) → same a a ≡ true) → (a b : A) → Decides (same a b) (a ≡ b)
decides same tells to_itself a b = (tells a b, λ e. subst (λ x. same a x ≡ true) e (to_itself a))

pub itself : (a : ℕ) → (a == a) ≡ true
itself a = grind (arith, nat_tests)

same_value_is : (v w : Value) → same_value v w ≡ true → v ≡ w
same_value_is (Int a) (Int b) e = ap (λ z. Int z) ((Decides-int_eq a b).0 e)
same_value_is (Int a) (Words text) e = absurd cc
same_value_is (Words text) (Int b) e = absurd cc
same_value_is (Words text) (Words second) e = ap (λ t. Words t) ((bytes_eq-Decides text second).0 e)

value_itself : (v : Value) → same_value v v ≡ true
value_itself (Int a) = (Decides-int_eq a a).1 refl
value_itself (Words text) = (bytes_eq-Decides text text).1 refl

value_decides : (v w : Value) → Decides (same_value v w) (v ≡ w)
value_decides = decides same_value same_value_is value_itself

pub same_message_is : (m k : Message) → same_message m k ≡ true → m ≡ k
same_message_is m k e =
    let h = and_parts (m.kind == k.kind) (pointwise same_value m.fields k.fields) e in
    let kinds = eqb-true m.kind k.kind h.0 in
    let fields = (pointwise_decides value_decides m.fields k.fields).0 h.1 in
    λ i. record { kind = kinds i; fields = fields i }

pub message_itself : (m : Message) → same_message m m ≡ true
message_itself m = λ i. itself m.kind i && (pointwise_decides value_decides m.fields m.fields).1 refl i

effect_is : (a b : Effect) → same_effect a b ≡ true → a ≡ b
effect_is (Print text) (Print second) e = ap (λ t. Print t) ((bytes_eq-Decides text second).0 e)
effect_is (Print text) (Post target message) e = absurd cc
effect_is (Print text) (Reply number value) e = absurd cc
effect_is (Post target message) (Print text) e = absurd cc
effect_is (Post target message) (Post second sent) e =
    let h = and_parts (target == second) (same_message message sent) e in
    let t = eqb-true target second h.0 in
    let m = same_message_is message sent h.1 in
    λ i. Post (t i) (m i)
effect_is (Post target message) (Reply number value) e = absurd cc
effect_is (Reply number value) (Print text) e = absurd cc
effect_is (Reply number value) (Post target message) e = absurd cc
effect_is (Reply number value) (Reply second given) e =
    let h = and_parts (number == second) (same_value value given) e in
    let n = eqb-true number second h.0 in
    let v = same_value_is value given h.1 in
    λ i. Reply (n i) (v i)

effect_itself : (e : Effect) → same_effect e e ≡ true
effect_itself (Print text) = (bytes_eq-Decides text text).1 refl
effect_itself (Post target message) = λ i. itself target i && message_itself message i
effect_itself (Reply number value) = λ i. itself number i && value_itself value i

effect_decides : (a b : Effect) → Decides (same_effect a b) (a ≡ b)
effect_decides = decides same_effect effect_is effect_itself

firing_is : (a b : Firing) → same_firing a b ≡ true → a ≡ b
firing_is a b e =
    let h = and_parts ((a.rule == b.rule) && pointwise nat_eq a.taken b.taken) (pointwise same_effect a.effects b.effects) e in
    let k = and_parts (a.rule == b.rule) (pointwise nat_eq a.taken b.taken) h.0 in
    let rules = eqb-true a.rule b.rule k.0 in
    let numbers = (bytes_eq-Decides a.taken b.taken).0 k.1 in
    let effects = (pointwise_decides effect_decides a.effects b.effects).0 h.1 in
    λ i. record { rule = rules i; taken = numbers i; effects = effects i }

pub fired_is : (a b : Option Firing) → same_fired a b ≡ true → a ≡ b
fired_is None None e = refl
fired_is None (Some b) e = absurd cc
fired_is (Some a) None e = absurd cc
fired_is (Some a) (Some b) e = ap (λ (f : Firing). Some f) (firing_is a b e)

pub fired_itself : (firing : Option Firing) → same_fired firing firing ≡ true
fired_itself None = refl
fired_itself (Some f) = λ i. (itself f.rule i && (bytes_eq-Decides f.taken f.taken).1 refl i) && (pointwise_decides effect_decides f.effects f.effects).1 refl i

entry_is : (a b : Entry) → same_entry a b ≡ true → unstamped_entry a ≡ unstamped_entry b
entry_is a b e =
    let h = and_parts ((a.number == b.number) && same_source a.source b.source && same_message a.message b.message) (same_fired a.firing b.firing) e in
    let k = and_parts ((a.number == b.number) && same_source a.source b.source) (same_message a.message b.message) h.0 in
    let l = and_parts (a.number == b.number) (same_source a.source b.source) k.0 in
    let numbers = eqb-true a.number b.number l.0 in
    let sources = same_source_is a.source b.source l.1 in
    let messages = same_message_is a.message b.message k.1 in
    let firings = fired_is a.firing b.firing h.1 in
    λ i. record { number = numbers i; source = sources i; message = messages i; stamp = 0; firing = firings i }

-- the entries are equal but for their stamps
pub entries_are : (es fs : List Entry) → same_entries es fs ≡ true → map unstamped_entry es ≡ map unstamped_entry fs
entries_are [] [] e = refl
entries_are [] (f ∷ fs) e = absurd cc
entries_are (x ∷ es) [] e = absurd cc
entries_are (x ∷ es) (f ∷ fs) e =
    let h = and_parts (same_entry x f) (same_entries es fs) e in
    let first = entry_is x f h.0 in
    let later = entries_are es fs h.1 in
    λ i. first i ∷ later i
