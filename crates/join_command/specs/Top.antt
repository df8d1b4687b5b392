-- The clauses of the top call.
use Rattle.std.specs.Prelude.{◌≡◌, ◌⊎◌, ℕ, List, ◌++◌, Option, None, Some, Result, Ok, Err}
use Rattle.join_base.specs.Outside.{Files, Told, Rises, Rose}
use Rattle.command_words.specs.Command.{Command}
use Rattle.join_command.specs.declared.status.Status.{Status}
use Rattle.join_command.specs.declared.status.Status.TheVariants as status
use Rattle.join_command.specs.declared.top.Unanswered.{Unanswered}
use Rattle.join_command.specs.declared.top.Unanswered.TheVariants as unanswered
use Rattle.join_command.specs.Command.{command_of}
use Rattle.script_files.specs.Verdict.{Verdict}
use Rattle.join_command.specs.Verdict.{Words, AreAsked, IsVerdict, MayAsk, OfCommand}
use Rattle.join_command.specs.Output.{HasStatus, IsOutput, IsSettled}
use Rattle.join_command.specs.Answer.{Answers, Decides}

-- ---- the whole call

-- what is answered, where both ends tell
abbrev pub AnswersWhereTold : Words → Option Told → Option (List ℕ) → Option Told → Option (List ℕ) → Status → Type 0
AnswersWhereTold words None taken told_now taken_now answer = Unit {0}
AnswersWhereTold words (Some told) None told_now taken_now answer = Unit {0}
AnswersWhereTold words (Some told) (Some taken) told_now taken_now answer = Answers words told taken told_now taken_now answer

-- the inputs hold what they held, and only names that the order fetches were asked
pub record FetchesInOrder (words : Words) (before now : Told) : Type 0 where
  pub asked : List (List ℕ)
  pub told_is : now ≡ record { files = before.files; asked = before.asked ++ asked }
  pub are_asked : AreAsked words before.files asked

-- the count of faults rose where the answer is this fault, and is as before at every other answer
pub record CountsFault (fault answer : Status) (before now : ℕ) : Type 0 where
  pub rose : answer ≡ fault → Rises before now
  pub quiet : (now ≡ before) ⊎ (answer ≡ fault)

-- where no fault was counted, the status is that of the verdict, or there was no memory
abbrev pub Completes : Words → Files → ℕ → ℕ → ℕ → ℕ → Status → Type 0
Completes words files read_before read_now write_before write_now answer =
    (verdict : Verdict) → IsVerdict words files verdict
    → ¬ Rose read_before read_now → ¬ Rose write_before write_now → HasStatus verdict answer ⊎ (answer ≡ status.NoMemory)

abbrev pub CompletesWhereTold : Words → Option Told → ℕ → ℕ → ℕ → ℕ → Status → Type 0
CompletesWhereTold words None read_before read_now write_before write_now answer = Unit {0}
CompletesWhereTold words (Some told) read_before read_now write_before write_now answer = Completes words told.files read_before read_now write_before write_now answer

-- words that are no command are refused, but for a write that failed or want of memory
abbrev pub RefusesWords : Words → Status → Type 0
RefusesWords words answer = command_of words ≡ None → (answer ≡ status.Usage) ⊎ (answer ≡ status.WriteFault) ⊎ (answer ≡ status.NoMemory)

-- ---- before anything is written

-- a status that is answered where something is written
abbrev pub IsAnswered : Status → Type 0
IsAnswered status.Usage = Unit {0}
IsAnswered answer = IsSettled answer

-- the status and the output of the verdict of a command
pub record IsPrepared (command : Command) (files : Files) (answer : Status) (output : List ℕ) : Type 0 where
  pub verdict : Verdict
  pub is_verdict : OfCommand files command verdict
  pub is_output : IsOutput verdict answer output

abbrev pub PreparesOutput : Command → Files → Result (Status × List ℕ) Unanswered → Type 0
PreparesOutput command files (Ok p) = IsPrepared command files p.0 p.1
PreparesOutput command files (Err fault) = Unit {0}

-- the inputs hold what they held, and names of the command were asked in their order
pub record PreparesCommand (command : Command) (before now : Told) (result : Result (Status × List ℕ) Unanswered) : Type 0 where
  pub asked : List (List ℕ)
  pub told_is : now ≡ record { files = before.files; asked = before.asked ++ asked }
  pub may_ask : MayAsk before.files command asked
  pub output : PreparesOutput command before.files result

abbrev pub DecidesOutput : Words → Files → Result (Status × List ℕ) Unanswered → Type 0
DecidesOutput words files (Ok p) = Decides words files p.0 p.1
DecidesOutput words files (Err fault) = Unit {0}

-- the same of words
pub record Prepares (words : Words) (before now : Told) (result : Result (Status × List ℕ) Unanswered) : Type 0 where
  pub asked : List (List ℕ)
  pub told_is : now ≡ record { files = before.files; asked = before.asked ++ asked }
  pub are_asked : AreAsked words before.files asked
  pub output : DecidesOutput words before.files result

-- the count of faults rises where a file can't be read, and is as before at every other answer
abbrev pub PrepareCause : {X : Type 0} → ℕ → ℕ → Result X Unanswered → Type 0
PrepareCause before now (Ok x) = now ≡ before
PrepareCause before now (Err unanswered.ReadFault) = Rises before now
PrepareCause before now (Err unanswered.NoMemory) = now ≡ before

-- the words are refused exactly where they are no command
pub record TestsWords (words : Words) (answer : Status) : Type 0 where
  pub refused : command_of words ≡ None → answer ≡ status.Usage
  pub only : answer ≡ status.Usage → command_of words ≡ None
