-- The ranges of the numbers of a command.
use Rattle.std.specs.Prelude.{◌≡◌, ℕ, ◌≤◌, List, length, Some}
use Rattle.command_words.specs.declared.options.RunOptions.{RunOptions}
use Rattle.command_words.specs.declared.table.Setting.{Setting}
use Rattle.command_words.specs.declared.table.Verb.{Verb}
use Rattle.command_words.specs.Command.{Command, RunWords, Run, Check, Replay, Load, Watch, Lint, Ask}

abbrev pub IsFrom : ℕ → ℕ → ℕ → Type 0
IsFrom least most n = (least ≤ n) × (n ≤ most)

pub record AreInRange (options : RunOptions) : Type 0 where
  pub workers : IsFrom 1 64 options.workers
  pub ring : IsFrom 1 4096 options.ring
  pub arrivals : IsFrom 1 1000000 options.arrivals
  pub partials : IsFrom 1 1000000 options.partials

-- 1 to 16 feeds, and options in their ranges
pub record RunIsInRange (run : RunWords) : Type 0 where
  pub feeds : IsFrom 1 16 (length run.feeds)
  pub options : AreInRange run.options

abbrev pub IsInRange : Command → Type 0
IsInRange (Run run) = RunIsInRange run
IsInRange (Check script) = Unit {0}
IsInRange (Replay script log) = Unit {0}
IsInRange (Load rows) = IsFrom 1 20000 rows
IsInRange (Watch run monitors) = RunIsInRange run × IsFrom 1 8 monitors
IsInRange (Lint script) = Unit {0}
IsInRange (Ask run) = RunIsInRange run
