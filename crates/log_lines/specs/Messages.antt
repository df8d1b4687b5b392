-- Names, sources, values and messages of a line.
use Rattle.std.specs.Prelude.{ℕ, ◌-◌, ◌^◌, ◌==◌, codes, List, [], ◌∷◌, length, slice_get, slice_index, Option, None, Some, if◌then◌else◌}
use Rattle.std.specs.List.{position, slice_split}
use Rattle.std.specs.Str.{bytes_eq}
use Rattle.join_base.specs.declared.message.Sort.{Sort}
use Rattle.join_base.specs.declared.message.Sort.TheVariants as sort
use Rattle.join_base.specs.declared.message.Source.{Source}
use Rattle.join_base.specs.declared.message.Source.TheVariants.{Feed, Actor}
use Rattle.join_base.specs.declared.message.Value.{Value}
use Rattle.join_base.specs.declared.message.Value.TheVariants as value
use Rattle.join_base.specs.declared.message.Message.{Message}
use Rattle.script_types.specs.declared.plan.Plan.{Plan}
use Rattle.script_types.specs.declared.plan.Kind.{Kind}
use Rattle.script_types.specs.declared.plan.ActorPlan.{ActorPlan}
use Rattle.script_types.specs.Typed.{field_types}
use Rattle.log_lines.specs.Gives.{◌>>=◌, where_true}
use Rattle.log_lines.specs.Cut.{after, cut}
use Rattle.log_lines.specs.Numbers.{count_of, int_of, number_of}
use Rattle.log_lines.specs.Quoting.{quoted_at}

-- the number of the actor of this name, from 0
unfoldable pub actor_of : Plan → List ℕ → Option ℕ
actor_of plan name = position (λ (actor : ActorPlan). bytes_eq actor.name name) plan.actors

-- the number of the kind of this name, from 0
unfoldable pub kind_of : Plan → List ℕ → Option ℕ
kind_of plan name = position (λ (kind : Kind). bytes_eq kind.name name) plan.kinds

-- ---- sources, each with a space behind it

unfoldable pub feed_at : ℕ → List ℕ → Option (Source × List ℕ)
feed_at feeds text = cut 32 text >>= λ p. count_of feeds p.0 >>= λ k. Some (Feed k, p.1)

unfoldable pub sender_at : Plan → List ℕ → Option (Source × List ℕ)
sender_at plan text = cut 32 text >>= λ p. actor_of plan p.0 >>= λ a. Some (Actor a, p.1)

-- what is read behind some words, or else what the other gives
abbrev pub behind_or : {X : Type 0} → Option (List ℕ) → (List ℕ → Option X) → Option X → Option X
behind_or None read other = other
behind_or (Some rest) read other = read rest

unfoldable pub source_at : Plan → ℕ → List ℕ → Option (Source × List ℕ)
source_at plan feeds text =
    behind_or (after (codes "feed ") text) (feed_at feeds) (behind_or (after (codes "actor ") text) (sender_at plan) None)

-- ---- values, each with a mark behind it

unfoldable pub closed_int : ℕ → List ℕ → Option (Value × List ℕ)
closed_int close text = cut close text >>= λ p. int_of p.0 >>= λ n. Some (value.Int n, p.1)

unfoldable pub closed_words : ℕ → List ℕ → Option (Value × List ℕ)
closed_words close text = quoted_at 120 text >>= λ p. after (close ∷ []) p.1 >>= λ rest. Some (value.Words p.0, rest)

abbrev pub closed_value : Sort → ℕ → List ℕ → Option (Value × List ℕ)
closed_value sort.Int close text = closed_int close text
closed_value sort.Words close text = closed_words close text

-- the mark behind a value: `)` behind the last, and a comma behind each other one
abbrev pub closing : {X : Type 0} → List X → ℕ
closing [] = 41
closing (x ∷ xs) = 44

-- a value of each of these types in turn
unfoldable pub values_at : List Sort → List ℕ → Option (List Value × List ℕ)
values_at [] text = Some ([], text)
values_at (type ∷ types) text = closed_value type (closing types) text >>= λ v. values_at types v.1 >>= λ vs. Some (v.0 ∷ vs.0, vs.1)

-- without a value the `)` stands alone
abbrev pub opened : List Sort → List ℕ → Option (List ℕ)
opened [] text = after (41 ∷ []) text
opened (type ∷ types) text = Some text

-- all of the text is the values of these types, with commas between them and `)` behind them
unfoldable pub fields_of : List Sort → List ℕ → Option (List Value)
fields_of types text = opened types text >>= λ t. values_at types t >>= λ p. where_true (length p.1 == 0) (Some p.0)

-- ---- messages

unfoldable pub message_with : Plan → List ℕ → ℕ → Option Message
message_with plan text kind = slice_get plan.kinds kind >>= λ k. fields_of (field_types k) text >>= λ fields. Some (record { kind = kind; fields = fields })

-- the message that all of the text is
unfoldable pub message_of : Plan → List ℕ → Option Message
message_of plan text = cut 40 text >>= λ p. kind_of plan p.0 >>= message_with plan p.1

-- ---- values alone, and lists of numbers

unfoldable pub words_of : ℕ → List ℕ → Option (List ℕ)
words_of max text = quoted_at max text >>= λ p. where_true (length p.1 == 0) (Some p.0)

-- the value that all of the text is
unfoldable pub value_of : List ℕ → Option Value
value_of text =
    if slice_index text 0 == 34 then (words_of 120 text >>= λ bytes. Some (value.Words bytes))
    else (int_of text >>= λ n. Some (value.Int n))

-- a number of each part
abbrev pub all_numbers : List (List ℕ) → Option (List ℕ)
all_numbers [] = Some []
all_numbers (part ∷ parts) = number_of (2 ^ 32 - 1) part >>= λ n. all_numbers parts >>= λ ns. Some (n ∷ ns)

-- one or more numbers with commas between them
unfoldable pub numbers_of : List ℕ → Option (List ℕ)
numbers_of text = all_numbers (slice_split (λ b. b == 44) text)
