-- The number of a status, which is the exit status of the program.
use Rattle.std.specs.Prelude.{ℕ}
use Rattle.join_command.specs.declared.status.Status.{Status}
use Rattle.join_command.specs.declared.status.Status.TheVariants as status

abbrev pub number_of : Status → ℕ
number_of status.Done = 0
number_of status.Limits = 1
number_of status.Usage = 2
number_of status.ScriptRefused = 3
number_of status.FeedRefused = 4
number_of status.LogRefused = 5
number_of status.ReadFault = 6
number_of status.WriteFault = 7
number_of status.NoMemory = 8
number_of status.TooLong = 9
