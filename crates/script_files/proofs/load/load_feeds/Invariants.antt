use Rattle.std.proofs.Common.{◌≡◌, ◌+◌, length, drop}
use Rattle.std.specs.List.{AllByRecursion}
use Rattle.fair_semantics.specs.Fits.{PostFits}
use Rattle.command_words.specs.Views.{words_in}
use Rattle.script_files.specs.Loading.{Tells}
use Rattle.script_files.proofs.FeedsLemmas.{FeedsSoFar}
use Rattle.script_files.proofs.load.load_feeds.Given as goal

abbrev pub invariant-loop-name : goal.invariant-loop-name
invariant-loop-name g l = record {
  told : Tells (g.I.Inputs.tells l.initial.inputs) (g.I.Inputs.tells l.inputs) (λ b n. FeedsSoFar l.plan (words_in l.names) b n (length l.feeds + 1) l.feeds (words_in (drop l.name-index l.names)));
  count : length l.feeds ≡ l.name-index;
  fits : AllByRecursion (AllByRecursion (PostFits l.plan)) l.feeds;
  quiet : g.I.Inputs.faults l.inputs ≡ g.I.Inputs.faults l.initial.inputs;
}
