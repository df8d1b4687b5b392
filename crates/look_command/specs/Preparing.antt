-- What is to be written, before anything is.
use Rattle.std.specs.Prelude.{◌≡◌, ℕ, List, ◌++◌, None, Result, Ok, Err}
use Rattle.join_base.specs.Outside.{Files, Told}
use Rattle.join_command.specs.declared.status.Status.{Status}
use Rattle.join_command.specs.declared.status.Status.TheVariants as status
use Rattle.join_command.specs.declared.top.Unanswered.{Unanswered}
use Rattle.join_command.specs.Verdict.{Words}
use Rattle.look_command.specs.Answer.{Decides}
use Rattle.look_command.specs.Output.{IsOutput}
use Rattle.look_command.specs.Request.{Request, request_of}
use Rattle.look_command.specs.Verdict.{AreAsked, MayAsk, OfRequest, Verdict}

-- the status and the output of the verdict of a request
pub record IsPrepared (request : Request) (files : Files) (answer : Status) (output : List ℕ) : Type 0 where
  pub verdict : Verdict
  pub is_verdict : OfRequest files request verdict
  pub is_output : IsOutput verdict answer output

abbrev pub PreparesOutput : Request → Files → Result (Status × List ℕ) Unanswered → Type 0
PreparesOutput request files (Ok p) = IsPrepared request files p.0 p.1
PreparesOutput request files (Err fault) = Unit {0}

-- the inputs hold what they held, and names of the request were asked in their order
pub record PreparesRequest (request : Request) (before now : Told) (result : Result (Status × List ℕ) Unanswered) : Type 0 where
  pub asked : List (List ℕ)
  pub told_is : now ≡ record { files = before.files; asked = before.asked ++ asked }
  pub may_ask : MayAsk before.files request asked
  pub output : PreparesOutput request before.files result

abbrev pub DecidesOutput : Words → Files → Result (Status × List ℕ) Unanswered → Type 0
DecidesOutput words files (Ok p) = Decides words files p.0 p.1
DecidesOutput words files (Err fault) = Unit {0}

-- the same of words
pub record Prepares (words : Words) (before now : Told) (result : Result (Status × List ℕ) Unanswered) : Type 0 where
  pub asked : List (List ℕ)
  pub told_is : now ≡ record { files = before.files; asked = before.asked ++ asked }
  pub are_asked : AreAsked words before.files asked
  pub output : DecidesOutput words before.files result

-- the words are refused exactly where they are no request
pub record TestsWords (words : Words) (answer : Status) : Type 0 where
  pub refused : request_of words ≡ None → answer ≡ status.Usage
  pub only : answer ≡ status.Usage → request_of words ≡ None
