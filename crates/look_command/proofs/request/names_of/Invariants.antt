use Rattle.std.proofs.Common.{◌≡◌, ◌++◌, drop}
use Rattle.command_words.specs.Views.{words_in}
use Rattle.look_command.proofs.request.names_of.Given as goal

abbrev pub invariant-loop-word : goal.invariant-loop-word
invariant-loop-word l = words_in l.names.items ++ drop l.word-index l.words ≡ l.words
