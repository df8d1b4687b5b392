-- Worked examples, computed by the definitions.
use Rattle.std.proofs.Common.{◌≡◌, refl, List, [], ◌∷◌, Some, None, pos, false, ℕ, map, Option}
use Rattle.std.specs.Prelude.{codes}
use Rattle.std.specs.Fmt.{digits}
use Rattle.join_base.specs.declared.message.Value.TheVariants.{Int}
use Rattle.join_base.specs.declared.message.Sort.TheVariants as sort
use Rattle.join_base.specs.declared.message.Message.{Message}
use Rattle.join_base.specs.declared.message.Stamped.{Stamped}
use Rattle.join_base.specs.declared.message.Source.{Source}
use Rattle.join_base.specs.declared.message.Source.TheVariants.{Feed, Actor}
use Rattle.join_base.specs.declared.message.Relation.TheVariants.{Equal, Greater}
use Rattle.guard_eval.specs.declared.term.Place.{Place}
use Rattle.guard_eval.specs.declared.term.Operand.{Operand}
use Rattle.guard_eval.specs.declared.term.Operand.TheVariants as operand
use Rattle.guard_eval.specs.declared.term.WordsLeaf.TheVariants as words
use Rattle.guard_eval.specs.declared.term.Signed.{Signed}
use Rattle.guard_eval.specs.declared.term.Leaf.TheVariants.{Field, Number}
use Rattle.guard_eval.specs.Condition.{Condition, Compares, Either, Never}
use Rattle.script_types.specs.Typed.{kind_types}
use Rattle.script_types.specs.declared.plan.Plan.{Plan}
use Rattle.script_types.specs.declared.plan.Kind.{Kind}
use Rattle.script_types.specs.declared.plan.Rule.{Rule}
use Rattle.script_types.specs.declared.plan.Statement.{Statement}
use Rattle.script_types.specs.declared.plan.Statement.TheVariants.{Print, Post, Stop, Reply}
use Rattle.script_types.specs.declared.plan.Item.TheVariants as item
use Rattle.fair_semantics.specs.declared.run.Limits.{Limits}
use Rattle.fair_semantics.specs.declared.run.Ending.{Ending}
use Rattle.fair_semantics.specs.declared.run.Ending.TheVariants.{Running, Stopped, Jammed, Spent}
use Rattle.fair_semantics.specs.declared.run.Effect.{Effect}
use Rattle.fair_semantics.specs.declared.run.Effect.TheVariants as effect
use Rattle.fair_semantics.specs.declared.run.Entry.{Entry}
use Rattle.fair_semantics.specs.declared.run.Firing.{Firing}
use Rattle.fair_semantics.specs.declared.run.ActorRun.{ActorRun}
use Rattle.fair_semantics.specs.declared.run.Run.{Run}
use Rattle.fair_semantics.specs.Fair.{Sent, fair_run}
use Rattle.fair_semantics.specs.Linked.{given, rests_in_order}
use Rattle.fair_semantics.specs.Schedule.{System, after_schedule, system_at_first}

abbrev pub message : ℕ → ℕ → Message
message kind x = record { kind = kind; fields = Int (pos x) ∷ [] }

abbrev one_int : List ℕ → Kind
one_int name = record { name = name; fields = (codes "x", sort.Int) ∷ [] }

abbrev place : ℕ → Place
place pattern = record { pattern = pattern; field = 0 }

abbrev variable : ℕ → Operand
variable pattern = operand.Sum (record { minus = false; leaf = Field (place pattern) } ∷ [])

abbrev rule : List ℕ → List Condition → List Statement → Rule
rule kinds guard body = record { definition = record { patterns = kinds; conjuncts = guard; window = None }; variables = []; body = body }

abbrev two_kinds : List Kind
two_kinds = one_int (codes "a") ∷ one_int (codes "b") ∷ []

abbrev three_kinds : List Kind
three_kinds = one_int (codes "a") ∷ one_int (codes "b") ∷ one_int (codes "c") ∷ []

abbrev one_actor : List Kind → List Rule → Plan
one_actor kinds rules = record { kinds = kinds; actors = record { name = codes "m"; rules = rules } ∷ [] }

abbrev pub usual : Limits
usual = record { arrivals = 50000; partials = 65536 }

abbrev pub fed : Message → Sent
fed m = (Feed 1, record { message = m; stamp = 0 })

-- what a run shows beside its messages
pub record Shown : Type 0 where
  pub firings : List (Option Firing)
  pub late : List (Source × ℕ)
  pub ending : Ending
  pub left : List ℕ
  pub partials : ℕ

abbrev shown : ActorRun → Shown
shown run = record { firings = map (λ e. e.firing) run.entries; late = run.late; ending = run.ending; left = run.left; partials = run.partials }

abbrev fired : ℕ → List ℕ → List Effect → Option Firing
fired number taken effects = Some record { rule = number; taken = taken; effects = effects }

abbrev prints : List ℕ → List Effect
prints line = effect.Print line ∷ []

abbrev hit : List Statement
hit = Print (item.Words (words.Fixed (codes "hit ")) ∷ item.Plain (place 0) ∷ item.Plain (place 1) ∷ []) ∷ []

abbrev pub hits : Plan
hits = one_actor two_kinds (rule (0 ∷ 1 ∷ []) [] hit ∷ [])

a_and_b : shown (fair_run hits 0 usual 1 (fed (message 0 1) ∷ fed (message 1 2) ∷ []))
    ≡ record { firings = None ∷ fired 1 (1 ∷ 2 ∷ []) (prints (codes "hit 12")) ∷ []; late = []; ending = Running; left = []; partials = 1 }
unfolding digits
a_and_b = refl

older_first : shown (fair_run hits 0 usual 1 (fed (message 0 1) ∷ fed (message 0 2) ∷ fed (message 1 9) ∷ []))
    ≡ record { firings = None ∷ None ∷ fired 1 (1 ∷ 3 ∷ []) (prints (codes "hit 19")) ∷ []; late = []; ending = Running; left = 2 ∷ []; partials = 2 }
unfolding digits
older_first = refl

abbrev equal : Condition
equal = Either (Compares (variable 0) Equal (variable 1)) Never

equal_only : shown (fair_run (one_actor two_kinds (rule (0 ∷ 1 ∷ []) (equal ∷ []) hit ∷ [])) 0 usual 1 (fed (message 0 1) ∷ fed (message 0 2) ∷ fed (message 1 2) ∷ []))
    ≡ record { firings = None ∷ None ∷ fired 1 (2 ∷ 3 ∷ []) (prints (codes "hit 22")) ∷ []; late = []; ending = Running; left = 1 ∷ []; partials = 2 }
unfolding digits
equal_only = refl

-- the older message decides, and not the earlier definition
older_beats_earlier : shown (fair_run (one_actor three_kinds (rule (0 ∷ 1 ∷ []) [] [] ∷ rule (2 ∷ 1 ∷ []) [] [] ∷ [])) 0 usual 1 (fed (message 2 1) ∷ fed (message 0 2) ∷ fed (message 1 3) ∷ []))
    ≡ record { firings = None ∷ None ∷ fired 2 (1 ∷ 3 ∷ []) [] ∷ []; late = []; ending = Running; left = 2 ∷ []; partials = 3 }
older_beats_earlier = refl

longer_with_older : shown (fair_run (one_actor two_kinds (rule (1 ∷ []) [] [] ∷ rule (0 ∷ 1 ∷ []) [] [] ∷ [])) 0 usual 1 (fed (message 0 1) ∷ fed (message 1 2) ∷ []))
    ≡ record { firings = None ∷ fired 2 (1 ∷ 2 ∷ []) [] ∷ []; late = []; ending = Running; left = []; partials = 2 }
longer_with_older = refl

earlier_of_equals : shown (fair_run (one_actor two_kinds (rule (0 ∷ 1 ∷ []) [] [] ∷ rule (0 ∷ 1 ∷ []) [] [] ∷ [])) 0 usual 1 (fed (message 0 1) ∷ fed (message 1 2) ∷ []))
    ≡ record { firings = None ∷ fired 1 (1 ∷ 2 ∷ []) [] ∷ []; late = []; ending = Running; left = []; partials = 2 }
earlier_of_equals = refl

abbrev greater : Condition
greater = Either (Compares (variable 0) Greater (variable 1)) Never

abbrev both : List Statement
both = Print (item.Plain (place 0) ∷ item.Plain (place 1) ∷ []) ∷ []

abbrev twice_a : List Condition → Plan
twice_a guard = one_actor two_kinds (rule (0 ∷ 0 ∷ []) guard both ∷ [])

greater_first : shown (fair_run (twice_a (greater ∷ [])) 0 usual 1 (fed (message 0 1) ∷ fed (message 0 2) ∷ []))
    ≡ record { firings = None ∷ fired 1 (2 ∷ 1 ∷ []) (prints (codes "21")) ∷ []; late = []; ending = Running; left = []; partials = 1 }
unfolding digits
greater_first = refl

in_order : shown (fair_run (twice_a []) 0 usual 1 (fed (message 0 1) ∷ fed (message 0 2) ∷ []))
    ≡ record { firings = None ∷ fired 1 (1 ∷ 2 ∷ []) (prints (codes "12")) ∷ []; late = []; ending = Running; left = []; partials = 1 }
unfolding digits
in_order = refl

half : shown (fair_run (twice_a (greater ∷ [])) 0 usual 1 (fed (message 0 1) ∷ []))
    ≡ record { firings = None ∷ []; late = []; ending = Running; left = 1 ∷ []; partials = 3 }
half = refl

abbrev three : Plan
three = one_actor three_kinds (rule (0 ∷ 1 ∷ 2 ∷ []) [] [] ∷ [])

abbrev pub at_most : ℕ → ℕ → Limits
at_most arrivals partials = record { arrivals = arrivals; partials = partials }

jams : shown (fair_run three 0 (at_most 50000 4) 1 (fed (message 0 1) ∷ fed (message 0 2) ∷ fed (message 0 3) ∷ fed (message 0 4) ∷ []))
    ≡ record { firings = None ∷ None ∷ None ∷ None ∷ []; late = []; ending = Jammed; left = []; partials = 1 }
jams = refl

just_below : shown (fair_run three 0 (at_most 50000 4) 1 (fed (message 0 1) ∷ fed (message 0 2) ∷ fed (message 0 3) ∷ []))
    ≡ record { firings = None ∷ None ∷ None ∷ []; late = []; ending = Running; left = 1 ∷ 2 ∷ 3 ∷ []; partials = 4 }
just_below = refl

full : shown (fair_run hits 0 (at_most 2 65536) 1 (fed (message 0 1) ∷ fed (message 0 2) ∷ fed (message 0 3) ∷ fed (message 0 4) ∷ []))
    ≡ record { firings = None ∷ None ∷ []; late = (Feed 1, 2) ∷ []; ending = Spent; left = []; partials = 1 }
full = refl

abbrev bye : Plan
bye = one_actor two_kinds (rule (0 ∷ []) [] (Print (item.Words (words.Fixed (codes "bye")) ∷ []) ∷ Stop ∷ []) ∷ [])

stopped : shown (fair_run bye 0 usual 1 (fed (message 0 1) ∷ fed (message 0 2) ∷ fed (message 1 3) ∷ []))
    ≡ record { firings = fired 1 (1 ∷ []) (prints (codes "bye")) ∷ []; late = (Feed 1, 2) ∷ []; ending = Stopped; left = []; partials = 1 }
stopped = refl

abbrev plus_one : List Signed
plus_one = record { minus = false; leaf = Field (place 0) } ∷ record { minus = false; leaf = Number (pos 1) } ∷ []

abbrev grows : Plan
grows = one_actor two_kinds (rule (0 ∷ []) [] (Post 0 1 (operand.Sum plus_one ∷ []) ∷ Print (item.Sum plus_one ∷ []) ∷ []) ∷ [])

-- a post is clamped, and a print is exact
clamps : shown (fair_run grows 0 usual 1 (fed (message 0 9223372036854775807) ∷ (Actor 0, record { message = message 1 9223372036854775807; stamp = 1 }) ∷ []))
    ≡ record { firings = fired 1 (1 ∷ []) (effect.Post 0 (message 1 9223372036854775807) ∷ prints (codes "9223372036854775808")) ∷ None ∷ []; late = []; ending = Running; left = 2 ∷ []; partials = 1 }
unfolding digits
clamps = refl

-- two actors that post to each other, with three arrivals at most
abbrev one_more : List Signed
one_more = plus_one

abbrev answers : ℕ → List Rule
answers target = rule (0 ∷ []) [] (Post target 0 (operand.Sum one_more ∷ []) ∷ []) ∷ []

abbrev pub ping_pong : Plan
ping_pong = record {
  kinds = one_int (codes "ping") ∷ [];
  actors = record { name = codes "p"; rules = answers 1 } ∷ record { name = codes "q"; rules = answers 0 } ∷ [];
}

-- the messages with the stamps of the arrivals that posted them
abbrev from_q : ℕ → ℕ → Sent
from_q n stamp = (Actor 1, record { message = message 0 n; stamp = stamp })

abbrev from_p : ℕ → ℕ → Sent
from_p n stamp = (Actor 0, record { message = message 0 n; stamp = stamp })

abbrev to_p : List Sent
to_p = fed (message 0 0) ∷ from_q 2 2 ∷ from_q 4 4 ∷ from_q 6 6 ∷ []

abbrev to_q : List Sent
to_q = from_p 1 1 ∷ from_p 3 3 ∷ from_p 5 5 ∷ []

abbrev pub both_ways : Run
both_ways = record { version = 2; limits = at_most 3 65536; feeds = 1; actors = fair_run ping_pong 0 (at_most 3 65536) 1 to_p ∷ fair_run ping_pong 1 (at_most 3 65536) 1 to_q ∷ [] }

abbrev pub first_feed : List (List (ℕ × Message))
first_feed = ((0, message 0 0) ∷ []) ∷ []

abbrev stamps : ActorRun → List ℕ
stamps run = map (λ e. e.stamp) run.entries

stamps_of_p : stamps (fair_run ping_pong 0 (at_most 3 65536) 1 to_p) ≡ 1 ∷ 3 ∷ 5 ∷ []
stamps_of_p = refl

stamps_of_q : stamps (fair_run ping_pong 1 (at_most 3 65536) 1 to_q) ≡ 2 ∷ 4 ∷ 6 ∷ []
stamps_of_q = refl

-- what each actor was given is what the sources sent it, the rest behind the arrivals
given_to_p : given ping_pong first_feed both_ways 0 (fair_run ping_pong 0 (at_most 3 65536) 1 to_p).entries ≡ to_p
given_to_p = refl

given_to_q : given ping_pong first_feed both_ways 1 (fair_run ping_pong 1 (at_most 3 65536) 1 to_q).entries ≡ to_q
given_to_q = refl

late_post : (fair_run ping_pong 0 (at_most 3 65536) 1 to_p).late ≡ (Actor 1, 1) ∷ []
late_post = refl

-- no stamp is left above the greatest: the actor ends
last_stamp_taken : shown (fair_run hits 0 usual 1 ((Feed 1, record { message = message 0 1; stamp = 4294967294 }) ∷ fed (message 0 2) ∷ []))
    ≡ record { firings = None ∷ []; late = (Feed 1, 1) ∷ []; ending = Spent; left = []; partials = 1 }
last_stamp_taken = refl

-- of two rests the one that begins with the greater stamp comes first
greater_stamp_first : rests_in_order (kind_types two_kinds) ((fed (message 0 1) ∷ []) ∷ [] ∷ (from_q 2 7 ∷ []) ∷ (from_p 3 7 ∷ []) ∷ []) ≡ (from_q 2 7 ∷ []) ∷ (fed (message 0 1) ∷ []) ∷ [] ∷ (from_p 3 7 ∷ []) ∷ []
greater_stamp_first = refl

-- a reply to the second of two patterns has the number that stands there
abbrev answering : Plan
answering = one_actor two_kinds (rule (0 ∷ 1 ∷ []) [] (Reply 1 (operand.Sum plus_one) ∷ []) ∷ [])

answers_second : shown (fair_run answering 0 usual 1 (fed (message 1 5) ∷ fed (message 0 4) ∷ []))
    ≡ record { firings = None ∷ fired 1 (2 ∷ 1 ∷ []) (effect.Reply 1 (Int (pos 5)) ∷ []) ∷ []; late = []; ending = Running; left = []; partials = 1 }
answers_second = refl

-- the schedule of the run: p, q, p, q, p, q, and the post that is late
abbrev pub turns : List (ℕ × Source)
turns = (0, Feed 1) ∷ (1, Actor 0) ∷ (0, Actor 1) ∷ (1, Actor 0) ∷ (0, Actor 1) ∷ (1, Actor 0) ∷ (0, Actor 1) ∷ []

abbrev waiting_with : Option System → Source → ℕ → List Stamped
waiting_with None from target = []
waiting_with (Some system) from target = system.waiting from target

abbrev entries_with : Option System → ℕ → List Entry
entries_with None actor = []
entries_with (Some system) actor = (system.state actor).entries

scheduled_p : entries_with (after_schedule ping_pong (at_most 3 65536) (system_at_first ping_pong first_feed) turns) 0 ≡ (fair_run ping_pong 0 (at_most 3 65536) 1 to_p).entries
scheduled_p = refl

none_waits : waiting_with (after_schedule ping_pong (at_most 3 65536) (system_at_first ping_pong first_feed) turns) (Actor 1) 0 ≡ []
none_waits = refl
