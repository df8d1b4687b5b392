-- Reading a line: the one whose text the bytes are, without the LF, or none.
use Rattle.std.specs.Prelude.{ℕ, ◌-◌, ◌^◌, ◌==◌, ◌&&◌, not, nat_le, codes, List, [], length, slice_index, Option, None, Some, if◌then◌else◌}
use Rattle.std.specs.Char.{is_ascii_digit}
use Rattle.std.specs.Str.{bytes_eq}
use Rattle.join_base.specs.Stamps.{greatest_stamp}
use Rattle.join_base.specs.declared.message.Source.{Source}
use Rattle.script_types.specs.declared.plan.Plan.{Plan}
use Rattle.fair_semantics.specs.declared.run.Effect.TheVariants as effect
use Rattle.fair_semantics.specs.declared.run.Ending.{Ending}
use Rattle.fair_semantics.specs.declared.run.Ending.TheVariants.{Running, Stopped, Jammed, Spent}
use Rattle.fair_semantics.specs.Fits.{has_reply}
use Rattle.log_lines.specs.declared.line.Head.{Head}
use Rattle.log_lines.specs.declared.line.LogLine.{LogLine}
use Rattle.log_lines.specs.declared.line.LogLine.TheVariants.{Heading, Arrives, Fires, Does, IsLate, Ends}
use Rattle.log_lines.specs.Gives.{◌>>=◌, where_true}
use Rattle.log_lines.specs.Cut.{after, cut}
use Rattle.log_lines.specs.Numbers.{count_of, number_of}
use Rattle.log_lines.specs.Messages.{actor_of, behind_or, message_of, numbers_of, source_at, value_of, words_of}

-- a number with a space behind it
unfoldable pub number_at : ℕ → List ℕ → Option (ℕ × List ℕ)
number_at max text = cut 32 text >>= λ p. number_of max p.0 >>= λ n. Some (n, p.1)

-- the same of a number from 1 on
unfoldable pub count_at : ℕ → List ℕ → Option (ℕ × List ℕ)
count_at max text = cut 32 text >>= λ p. count_of max p.0 >>= λ n. Some (n, p.1)

-- `joinlog VERSION arrivals A partials P feeds F`
unfoldable pub head_of : List ℕ → Option Head
head_of text = do
  versioned ← after (codes "joinlog ") text
  version ← count_at 2 versioned
  arriving ← after (codes "arrivals ") version.1
  arrivals ← count_at 1000000 arriving
  kept ← after (codes "partials ") arrivals.1
  partials ← count_at 1000000 kept
  fed ← after (codes "feeds ") partials.1
  feeds ← count_of 16 fed
  Some (record { version = version.0; limits = record { arrivals = arrivals.0; partials = partials.0 }; feeds = feeds })

-- the same of a version that a run of the plan can have: one with replies has version 2
unfoldable pub first_line : Plan → List ℕ → Option Head
first_line plan text = head_of text >>= λ head. if has_reply plan && not (head.version == 2) then None else Some head

-- behind `actor `
unfoldable pub heading_of : Plan → List ℕ → Option LogLine
heading_of plan text = actor_of plan text >>= λ a. Some (Heading a)

-- the stamp of an arrival, which it has in version 2
unfoldable pub stamp_at : ℕ → List ℕ → Option (ℕ × List ℕ)
stamp_at version text = if version == 1 then Some (0, text) else (after (codes "at ") text >>= count_at greatest_stamp)

-- where an arrival came from, with its number and stamp, and what stands behind it
unfoldable pub sent_at : Plan → Head → List ℕ → Option ((ℕ × ℕ × Source) × List ℕ)
sent_at plan head text = do
  number ← number_at (2 ^ 32 - 1) text
  stamp ← stamp_at head.version number.1
  sent ← after (codes "from ") stamp.1
  source ← source_at plan head.feeds sent
  Some ((number.0, stamp.0, source.0), source.1)

-- `N from SOURCE MESSAGE`, or `N at S from SOURCE MESSAGE`
unfoldable pub arrival_of : Plan → Head → List ℕ → Option LogLine
arrival_of plan head text = do
  sent ← sent_at plan head text
  message ← message_of plan sent.1
  Some (Arrives (record { number = sent.0.0; stamp = sent.0.1; source = sent.0.2; message = message }))

-- the rule that fired, and what stands behind `take `
unfoldable pub rule_at : List ℕ → Option (ℕ × List ℕ)
rule_at text = do
  rule ← number_at (2 ^ 32 - 1) text
  taking ← after (codes "take ") rule.1
  Some (rule.0, taking)

-- behind `fire rule `
unfoldable pub firing_of : List ℕ → Option LogLine
firing_of text = do
  rule ← rule_at text
  taken ← numbers_of rule.1
  where_true (nat_le (length taken) 8) (Some (Fires rule.0 taken))

-- behind `print `
unfoldable pub print_of : List ℕ → Option LogLine
print_of text = words_of 1920 text >>= λ bytes. Some (Does (effect.Print bytes))

-- behind `post `
unfoldable pub post_of : Plan → List ℕ → Option LogLine
post_of plan text = do
  named ← cut 32 text
  target ← actor_of plan named.0
  message ← message_of plan named.1
  Some (Does (effect.Post target message))

-- behind `reply `, in version 2
unfoldable pub reply_of : Head → List ℕ → Option LogLine
reply_of head text =
    if head.version == 2 then (do
      number ← number_at (2 ^ 32 - 1) text
      given ← value_of number.1
      Some (Does (effect.Reply number.0 given)))
    else None

-- behind `late `
unfoldable pub late_of : Plan → Head → List ℕ → Option LogLine
late_of plan head text = do
  source ← source_at plan head.feeds text
  count ← count_of (2 ^ 64 - 1) source.1
  Some (IsLate source.0 count)

unfoldable pub ending_of : List ℕ → Option Ending
ending_of text =
    if bytes_eq text (codes "running") then Some Running
    else if bytes_eq text (codes "stopped") then Some Stopped
    else if bytes_eq text (codes "jammed") then Some Jammed
    else if bytes_eq text (codes "spent") then Some Spent
    else None

-- numbers with commas, or `-` for none
unfoldable pub left_of : List ℕ → Option (List ℕ)
left_of text = if bytes_eq text (codes "-") then Some [] else numbers_of text

-- how an actor ended, and what stands behind `left `
unfoldable pub ending_at : List ℕ → Option (Ending × List ℕ)
ending_at text = do
  how ← cut 32 text
  ending ← ending_of how.0
  leaving ← after (codes "left ") how.1
  Some (ending, leaving)

unfoldable pub partials_of : List ℕ → Option ℕ
partials_of text = after (codes "partials ") text >>= number_of (2 ^ 64 - 1)

-- behind `end `
unfoldable pub end_of : List ℕ → Option LogLine
end_of text = do
  ending ← ending_at text
  listed ← cut 32 ending.1
  partials ← partials_of listed.1
  left ← left_of listed.0
  Some (Ends ending.0 left partials)

-- the line that begins with a word
unfoldable pub worded_line : Plan → Head → List ℕ → Option LogLine
worded_line plan head text =
    behind_or (after (codes "actor ") text) (heading_of plan)
    (behind_or (after (codes "fire rule ") text) firing_of
    (behind_or (after (codes "print ") text) print_of
    (behind_or (after (codes "post ") text) (post_of plan)
    (behind_or (after (codes "reply ") text) (reply_of head)
    (behind_or (after (codes "late ") text) (late_of plan head)
    (behind_or (after (codes "end ") text) end_of None))))))

-- the line behind the first one that the text is: an arrival begins with a digit
unfoldable pub line_of : Plan → Head → List ℕ → Option LogLine
line_of plan head text = if is_ascii_digit (slice_index text 0) then arrival_of plan head text else worded_line plan head text
