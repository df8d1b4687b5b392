-- What the program answers, where the inputs tell what they hold and the sink what it took.
use Rattle.std.specs.Prelude.{◌≡◌, ℕ, List, [], ◌++◌, Option, Some}
use Rattle.join_base.specs.Outside.{Files, Told}
use Rattle.join_command.specs.declared.status.Status.{Status}
use Rattle.join_command.specs.declared.status.Status.TheVariants as status
use Rattle.script_files.specs.Verdict.{Verdict}
use Rattle.join_command.specs.Verdict.{Words, IsVerdict, AreAsked}
use Rattle.join_command.specs.Output.{IsOutput}

-- the verdict of the words and the files has this status and this output
pub record Decides (words : Words) (files : Files) (answer : Status) (output : List ℕ) : Type 0 where
  pub verdict : Verdict
  pub is_verdict : IsVerdict words files verdict
  pub is_output : IsOutput verdict answer output

-- a write failed: what was written begins the output of a verdict
pub record IsCutOff (words : Words) (files : Files) (written : List ℕ) : Type 0 where
  pub answer : Status
  pub rest : List ℕ
  pub decides : Decides words files answer (written ++ rest)

-- what is written at each status
abbrev pub IsAnswer : Words → Files → Status → List ℕ → Type 0
IsAnswer words files status.Done written = Decides words files status.Done written
IsAnswer words files status.Limits written = Decides words files status.Limits written
IsAnswer words files status.Usage written = Decides words files status.Usage written
IsAnswer words files status.ScriptRefused written = Decides words files status.ScriptRefused written
IsAnswer words files status.FeedRefused written = Decides words files status.FeedRefused written
IsAnswer words files status.LogRefused written = Decides words files status.LogRefused written
IsAnswer words files status.TooLong written = Decides words files status.TooLong written
IsAnswer words files status.ReadFault written = written ≡ []
IsAnswer words files status.WriteFault written = IsCutOff words files written
IsAnswer words files status.NoMemory written = written ≡ []

-- the sink took what was written, the inputs hold what they held, and only names that the order fetches were asked
pub record Answers (words : Words) (told : Told) (taken : List ℕ) (told_now : Option Told) (taken_now : Option (List ℕ)) (answer : Status) : Type 0 where
  pub written : List ℕ
  pub asked : List (List ℕ)
  pub taken_is : taken_now ≡ Some (taken ++ written)
  pub told_is : told_now ≡ Some record { files = told.files; asked = told.asked ++ asked }
  pub are_asked : AreAsked words told.files asked
  pub is_answer : IsAnswer words told.files answer written
