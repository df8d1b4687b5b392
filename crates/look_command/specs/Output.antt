-- What is written for a verdict, and which status it has.
use Rattle.std.specs.Prelude.{◌≡◌, ℕ, List, ◌++◌, Option, None, Some, codes}
use Rattle.std.specs.Fmt.{decimal}
use Rattle.join_command.specs.Output as usual
use Rattle.join_command.specs.Output.{line}
use Rattle.join_command.specs.declared.status.Status.{Status}
use Rattle.join_command.specs.declared.status.Status.TheVariants as status
use Rattle.log_audit.specs.declared.refusal.Difference.{Difference}
use Rattle.reaction_text.specs.ReactionText.{IsReactionsText}
use Rattle.waiting_reasons.specs.Text.{why_text}
use Rattle.look_command.specs.Verdict.{Verdict, Usual, OtherFeeds, OtherRow, UnknownActor, Reacts, Explains}

-- `refused log line 1 feeds N`, where the log has N feeds
abbrev pub other_feeds_line : ℕ → List ℕ
other_feeds_line count = line (codes "refused log line 1 feeds " ++ decimal count)

-- ` row R`, or ` no row` where the feed has no row left for the actor
abbrev pub row_text : Option ℕ → List ℕ
row_text None = codes " no row"
row_text (Some row) = codes " row " ++ decimal row

-- `refused log line N feed K row R`
abbrev pub other_row_line : Difference → List ℕ
other_row_line d = line (codes "refused log line " ++ decimal d.line ++ codes " feed " ++ decimal d.feed ++ row_text d.row)

-- a log that is not that of the feeds is refused, and so is a name of no actor of the script
abbrev pub IsOutput : Verdict → Status → List ℕ → Type 0
IsOutput (Usual verdict) answer output = usual.IsOutput verdict answer output
IsOutput (OtherFeeds count) answer output = (answer ≡ status.LogRefused) × (output ≡ other_feeds_line count)
IsOutput (OtherRow difference shown) answer output = (answer ≡ status.LogRefused) × (output ≡ other_row_line difference ++ shown)
IsOutput UnknownActor answer output = (answer ≡ status.ScriptRefused) × (output ≡ line (codes "refused actor"))
IsOutput (Reacts plan run only) answer output = (answer ≡ status.Done) × IsReactionsText plan run only output
IsOutput (Explains plan run actor wanted) answer output = (answer ≡ status.Done) × (output ≡ why_text plan run actor wanted)

-- the status of a verdict
abbrev pub HasStatus : Verdict → Status → Type 0
HasStatus verdict answer = (output : List ℕ) × IsOutput verdict answer output
