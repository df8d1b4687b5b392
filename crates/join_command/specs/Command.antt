-- Which words are a command.
use Rattle.std.specs.Prelude.{ℕ, List, [], ◌∷◌, Option}
use Rattle.command_words.specs.Command.{Command}
use Rattle.command_words.specs.Command as given
use Rattle.command_words.specs.declared.table.Verb.TheVariants as verb
use Rattle.command_words.specs.declared.table.Setting.TheVariants as setting

-- the command that the words are, if they are one; the program takes these commands and options
abbrev pub command_of : List (List ℕ) → Option Command
command_of words =
    given.command_of
    (verb.Run ∷ verb.Check ∷ verb.Replay ∷ verb.Lint ∷ verb.Ask ∷ verb.Watch ∷ verb.Load ∷ [])
    (setting.Workers ∷ setting.Ring ∷ setting.Arrivals ∷ setting.Partials ∷ setting.Monitors ∷ setting.Pool ∷ [])
    words
