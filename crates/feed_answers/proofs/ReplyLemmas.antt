-- The reply to each arrival, effect by effect.
use Rattle.std.proofs.Common.{◌≡◌, ◌∙◌, ◌+◌, ◌<◌, ◌≤◌, ℕ, zero, suc, List, [], ◌∷◌, ◌++◌, append_assoc, append-nil, Bool, true, false, Option, Some, None, length, map, drop, get_or, replicate, slice_get, slice_set, refl, sym, ap, arith}
use Rattle.std.specs.Borrow.{Bor}
use Rattle.std.specs.Option.{is_some, option_copied, option_map}
use Rattle.std.proofs.lemmas.List.{drop_more}
use Rattle.std.proofs.lemmas.Option.{slice_get-map, slice_get_read, slice_get_within}
use Rattle.std.specs.Prelude.{◌==◌, not}
use Rattle.std.specs.List.{cons_option, filter_map}
use Rattle.std.proofs.lemmas.Bool.Decides.{nat_tests}
use Rattle.join_base.specs.declared.message.Value.{Value}
use Rattle.fair_semantics.specs.declared.run.Effect.{Effect}
use Rattle.fair_semantics.specs.declared.run.Effect.TheVariants.{Reply}
use Rattle.fair_semantics.specs.declared.run.Entry.{Entry}
use Rattle.fair_semantics.specs.Linked.{firing_effects, numbers_from}
use Rattle.feed_answers.specs.Answers.{effects_in, reply_to}
use Rattle.feed_answers.specs.Queues.{or_else, replies_of, seen, with_effect, with_effects}

pub or_none : (value : Option Value) → or_else value None ≡ value
or_none None = refl
or_none (Some v) = refl

-- ---- one effect

-- one that replies to no arrival
pub replies_nothing : (effect : Effect) → ((n : ℕ) → reply_to n effect ≡ None) → (number : ℕ) (values : List (Option Value)) → with_effect number values effect ≡ values
replies_nothing effect none number [] = refl
replies_nothing effect none number (value ∷ values) =
    let here : or_else value (reply_to number effect) ≡ value = ap (or_else value) (none number) ∙ or_none value in
    rw (here, replies_nothing effect none (number + 1) values) refl

to_this : (to number : ℕ) (value : Value) → to ≡ number → reply_to number (Reply to value) ≡ Some value
to_this to number value e = let same : (to == number) ≡ true = grind (arith, nat_tests) in rw same refl

to_another : (to number : ℕ) (value : Value) → (to ≡ number → ⊥) → reply_to number (Reply to value) ≡ None
to_another to number value h = let other : (to == number) ≡ false = grind (arith, nat_tests) in rw other refl

-- one that replies to an arrival of which no reply is missing
pub replied_before : (to : ℕ) (value : Value) (number : ℕ) (values : List (Option Value)) → ((place : ℕ) → slice_get values place ≡ Some None → to ≡ number + place → ⊥) → with_effect number values (Reply to value) ≡ values
replied_before to value number [] h = refl
replied_before to value number (None ∷ values) h =
    let here : reply_to number (Reply to value) ≡ None = to_another to number value (λ e. h 0 refl (omega arith)) in
    let rest : with_effect (number + 1) values (Reply to value) ≡ values = replied_before to value (number + 1) values (λ place at e. h (suc place) at (omega arith)) in
    rw (here, rest) refl
replied_before to value number (Some old ∷ values) h =
    let rest : with_effect (number + 1) values (Reply to value) ≡ values = replied_before to value (number + 1) values (λ place at e. h (suc place) at (omega arith)) in
    ap (λ (vs : List (Option Value)). Some old ∷ vs) rest

-- one that gives the reply that was missing
pub replied_now : (to : ℕ) (value : Value) (number place : ℕ) (values : List (Option Value)) → to ≡ number + place → slice_get values place ≡ Some None → with_effect number values (Reply to value) ≡ slice_set values place (Some value)
replied_now to value number place [] e at = absurd cc
replied_now to value number zero (v ∷ values) e at =
    let none : v ≡ None = cc in
    let here : reply_to number (Reply to value) ≡ Some value = to_this to number value (omega arith) in
    let rest : with_effect (number + 1) values (Reply to value) ≡ values = replied_before to value (number + 1) values (λ place at same. absurd (omega arith)) in
    rw (none, here, rest) refl
replied_now to value number (suc place) (v ∷ values) e at =
    let other : reply_to number (Reply to value) ≡ None = to_another to number value (λ same. absurd (omega arith)) in
    let here : or_else v (reply_to number (Reply to value)) ≡ v = ap (or_else v) other ∙ or_none v in
    let rest : with_effect (number + 1) values (Reply to value) ≡ slice_set values place (Some value) = replied_now to value (number + 1) place values (omega arith) at in
    rw (here, rest) refl

-- ---- many effects

pub effects_append : (values : List (Option Value)) (first second : List Effect) → with_effects values (first ++ second) ≡ with_effects (with_effects values first) second
effects_append values [] second = refl
effects_append values (effect ∷ first) second = effects_append (with_effect 1 values effect) first second

first_more : (h : Effect → Option Value) (effects : List Effect) (effect : Effect) → or_else (slice_get (filter_map h effects) 0) (h effect) ≡ slice_get (filter_map h (effects ++ effect ∷ [])) 0
first_more h [] effect = last (h effect)
  where
    last : (o : Option Value) → or_else None o ≡ slice_get (cons_option o []) 0
    last None = refl
    last (Some v) = refl
first_more h (first ∷ effects) effect = by (h first) (first_more h effects effect)
  where
    by : (o : Option Value) → or_else (slice_get (filter_map h effects) 0) (h effect) ≡ slice_get (filter_map h (effects ++ effect ∷ [])) 0 → or_else (slice_get (cons_option o (filter_map h effects)) 0) (h effect) ≡ slice_get (cons_option o (filter_map h (effects ++ effect ∷ []))) 0
    by None rest = rest
    by (Some v) rest = refl

abbrev first_reply : List Effect → ℕ → Option Value
first_reply effects number = slice_get (filter_map (reply_to number) effects) 0

one_more : (effects : List Effect) (effect : Effect) (from count : ℕ) → with_effect from (map (first_reply effects) (numbers_from from count)) effect ≡ map (first_reply (effects ++ effect ∷ [])) (numbers_from from count)
one_more effects effect from zero = refl
one_more effects effect from (suc count) =
    let here = first_more (reply_to from) effects effect in
    let rest = one_more effects effect (from + 1) count in
    rw (here, rest) refl

all_more : (effects more : List Effect) (count : ℕ) → with_effects (map (first_reply effects) (numbers_from 1 count)) more ≡ map (first_reply (effects ++ more)) (numbers_from 1 count)
all_more effects [] count = rw append-nil refl
all_more effects (effect ∷ more) count =
    ap (λ (values : List (Option Value)). with_effects values more) (one_more effects effect 1 count)
    ∙ all_more (effects ++ effect ∷ []) more count
    ∙ ap (λ (all : List Effect). map (first_reply all) (numbers_from 1 count)) (append_assoc effects (effect ∷ []) more)

no_reply : (from count : ℕ) → map (first_reply []) (numbers_from from count) ≡ replicate count None
no_reply from zero = refl
no_reply from (suc count) = ap (λ (values : List (Option Value)). None ∷ values) (no_reply (from + 1) count)

-- the effects of all entries, from no reply on
pub all_replies : (entries : List Entry) → with_effects (replicate (length entries) None) (effects_in entries) ≡ replies_of entries
all_replies entries =
    ap (λ (values : List (Option Value)). with_effects values (effects_in entries)) (sym (no_reply 1 (length entries)))
    ∙ all_more [] (effects_in entries) (length entries)

-- ---- where the replies stand

pub seen_at : (replies : List (Option (Bor Value))) (place : ℕ) (x : Option (Bor Value)) → place < length replies → x ≡ get_or replies place x → slice_get (seen replies) place ≡ Some (option_copied x)
seen_at replies place x l e = slice_get-map option_copied replies place ∙ ap (option_map option_copied) (slice_get_read replies (length replies) place x refl l e)

-- no reply is missing at a place that is past the end or has one
pub none_missing : (number : ℕ) (value : Value) (values : List (Option Value)) → ((place : ℕ) → number ≡ place + 1 → slice_get values place ≡ Some None → ⊥) → with_effect 1 values (Reply number value) ≡ values
none_missing number value values h = replied_before number value 1 values (λ place at e. h place (omega arith) at)

pub past_end : {X : Type 0} (xs : List X) (place : ℕ) (x : X) → length xs ≤ place → slice_get xs place ≡ Some x → ⊥
past_end xs place x l e = let within = slice_get_within xs place x e in absurd (omega arith)

pub is_missing : (x : Option (Bor Value)) → is_some x ≡ false → option_copied x ≡ None
is_missing None h = refl
is_missing (Some x) h = absurd cc

pub is_there : (x : Option (Bor Value)) → is_some x ≡ true → option_copied x ≡ None → ⊥
is_there None h e = absurd cc
is_there (Some x) h e = absurd cc

-- ---- an entry more

pub entry_step : (entries : List Entry) (place : ℕ) (entry : Entry) (before after start : List (Option Value)) → place < length entries → entry ≡ get_or entries place entry → after ≡ with_effects before (firing_effects entry.firing) → with_effects before (effects_in (drop place entries)) ≡ start → with_effects after (effects_in (drop (place + 1) entries)) ≡ start
entry_step entries place entry before after start l e is so_far =
    let rest : drop place entries ≡ entry ∷ drop (place + 1) entries = drop_more entries place entry l ∙ ap (λ (x : Entry). x ∷ drop (place + 1) entries) (sym e) in
    let old : with_effects before (effects_in (entry ∷ drop (place + 1) entries)) ≡ start = rw rest at so_far in
    rw is (sym (effects_append before (firing_effects entry.firing) (effects_in (drop (place + 1) entries))) ∙ old)

-- what a test of a place tells
pub missing_by : (replies : List (Option (Bor Value))) (place : ℕ) (x : Option (Bor Value)) (b : Bool) → place < length replies → x ≡ get_or replies place x → is_some (get_or replies place x) ≡ not b → b ≡ true → slice_get (seen replies) place ≡ Some None
missing_by replies place x b l e some is = seen_at replies place x l e ∙ ap Some (is_missing x (ap is_some e ∙ some ∙ ap not is))

pub there_by : (replies : List (Option (Bor Value))) (place : ℕ) (x : Option (Bor Value)) (b : Bool) → place < length replies → x ≡ get_or replies place x → is_some (get_or replies place x) ≡ not b → b ≡ false → slice_get (seen replies) place ≡ Some None → ⊥
there_by replies place x b l e some is at =
    let here : slice_get (seen replies) place ≡ Some (option_copied x) = seen_at replies place x l e in
    let none : option_copied x ≡ None = cc in
    is_there x (ap is_some e ∙ some ∙ ap not is) none
