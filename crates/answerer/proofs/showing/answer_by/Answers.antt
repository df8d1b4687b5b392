use Rattle.std.proofs.Common.{List, Option, subst}
use Rattle.feed_answers.specs.Answers.{effects_in}
use Rattle.ask_board.specs.declared.view.Ask.{Ask}
use Rattle.answerer.specs.Answered.{Answered}
use Rattle.answerer.specs.Asks.{asks_of}
use Rattle.answerer.proofs.AnsweredLemmas.{whole_tried}
use Rattle.answerer.proofs.FitLemmas.{alike_answered, fits_answered, fits_noted}
use Rattle.answerer.proofs.showing.answer_by.Goals as goal

pub returns-clause-fits : goal.returns-clause-fits
returns-clause-fits c =
    let start = fits_noted c.args.actor c.args.state.now.state.entries c.args.progress.now c.note_shown.new.progress c.args.answers.now c.requires.fits c.note_shown.ensures.noted c.note_shown.ensures.grew c.note_shown.ensures.done in
    fits_answered c.args.actor c.args.state.now.state.entries c.note_shown.new.progress c.answer_shown.new.progress c.args.answers.now c.answer_shown.new.answers start c.in_ok-note_shown.ensures.all c.answer_shown.ensures.asks c.answer_shown.ensures.answered c.answer_shown.ensures.within c.answer_shown.ensures.tried

pub returns-clause-others : goal.returns-clause-others
returns-clause-others c = λ other differ.
    alike_answered c.args.actor other c.args.state.now.state.entries (effects_in c.args.state.now.state.entries) c.args.answers.now c.answer_shown.new.answers differ
    (subst (λ (asks : List (Option Ask)). Answered asks (effects_in c.args.state.now.state.entries) c.args.answers.now c.answer_shown.new.answers) c.in_ok-note_shown.ensures.all c.answer_shown.ensures.answered)

pub returns-clause-tried : goal.returns-clause-tried
returns-clause-tried c =
    whole_tried c.note_shown.new.progress.asks (asks_of c.args.actor c.args.state.now.state.entries) c.args.state.now.state.entries c.answer_shown.new.progress.done c.answer_shown.new.answers c.answer_shown.result c.in_ok-note_shown.ensures.all c.answer_shown.ensures.tried c.answer_shown.ensures.all
