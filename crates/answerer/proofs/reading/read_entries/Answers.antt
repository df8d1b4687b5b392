use Rattle.std.proofs.Common.{List, Option, subst}
use Rattle.feed_answers.specs.Answers.{effects_in}
use Rattle.ask_board.specs.declared.view.Ask.{Ask}
use Rattle.answerer.specs.Answered.{Answered}
use Rattle.answerer.specs.Asks.{asks_of}
use Rattle.answerer.proofs.AnsweredLemmas.{answered_goes_on, goes_same, whole_tried}
use Rattle.answerer.proofs.FitLemmas.{alike_answered, fits_answered, fits_noted}
use Rattle.answerer.proofs.reading.read_entries.Goals as goal

pub returns-clause-fits : goal.returns-clause-fits
returns-clause-fits c =
    let start = fits_noted c.args.actor c.args.entries.now c.args.progress.now c.note.new.self c.args.answers.now c.requires.fits c.note.ensures.noted c.note.ensures.grew c.note.ensures.done in
    fits_answered c.args.actor c.args.entries.now c.note.new.self c.answer_entries.new.progress c.args.answers.now c.answer_entries.new.self start c.in_ok-note.ensures.all c.answer_entries.ensures.asks c.answer_entries.ensures.answered c.answer_entries.ensures.within c.answer_entries.ensures.tried

pub returns-clause-others : goal.returns-clause-others
returns-clause-others c = λ other differ.
    alike_answered c.args.actor other c.args.entries.now (effects_in c.args.entries.now) c.args.answers.now c.answer_entries.new.self differ
    (subst (λ (asks : List (Option Ask)). Answered asks (effects_in c.args.entries.now) c.args.answers.now c.answer_entries.new.self) c.in_ok-note.ensures.all c.answer_entries.ensures.answered)

pub returns-clause-tried : goal.returns-clause-tried
returns-clause-tried c =
    whole_tried c.note.new.self.asks (asks_of c.args.actor c.args.entries.now) c.args.entries.now c.answer_entries.new.progress.done c.answer_entries.new.self c.answer_entries.result c.in_ok-note.ensures.all c.answer_entries.ensures.tried c.answer_entries.ensures.all

pub returns-in_err-note-clause-goes_on : goal.returns-in_err-note-clause-goes_on
returns-in_err-note-clause-goes_on c = goes_same c.args.answers.now

pub returns-clause-goes_on : goal.returns-clause-goes_on
returns-clause-goes_on c = answered_goes_on c.note.new.self.asks (effects_in c.args.entries.now) c.args.answers.now c.answer_entries.new.self c.answer_entries.ensures.answered
