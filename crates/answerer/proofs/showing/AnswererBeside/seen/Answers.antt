use Rattle.std.proofs.Common.{List, suc, slice_set, sym, subst, arith}
use Rattle.fair_semantics.specs.declared.run.Entry.{Entry}
use Rattle.history_law.specs.History.{entries_by}
use Rattle.answerer.specs.declared.reading.Answerer.{Answerer}
use Rattle.answerer.specs.Fit.{Fits}
use Rattle.answerer.proofs.BesideLemmas.{fits_history, fits_now, shown_by}
use Rattle.answerer.proofs.FitLemmas.{fits_read, fits_there, others_read}
use Rattle.answerer.proofs.showing.AnswererBeside.seen.Goals as goal

pub answer_by-requires : goal.answer_by-requires
answer_by-requires g c =
    let entries : List Entry = c.args.state.now.state.entries in
    let same = shown_by c.args.state.now.setting c.args.state.now.state c.args.state.now.history c.requires.shows in
    let before : Fits c.args.self.now c.args.actor entries = subst (λ (es : List Entry). Fits c.args.self.now c.args.actor es) (sym same) (fits_now c.args.self.now c.args.actor c.args.state.now.setting c.args.state.now.history c.requires.fits) in
    record { fits = fits_there c.args.self.now c.args.actor entries c.at_mut-progress.result.now c.at_mut-progress.ensures.item before }

pub returns-clause-fits : goal.returns-clause-fits
returns-clause-fits g c =
    let entries : List Entry = c.args.state.now.state.entries in
    let same = shown_by c.args.state.now.setting c.args.state.now.state c.args.state.now.history c.requires.shows in
    let before : Fits c.args.self.now c.args.actor entries = subst (λ (es : List Entry). Fits c.args.self.now c.args.actor es) (sym same) (fits_now c.args.self.now c.args.actor c.args.state.now.setting c.args.state.now.history c.requires.fits) in
    let now : Answerer = record { answers = c.answer_by.new.answers; progress = slice_set c.args.self.now.progress c.args.actor c.answer_by.new.progress } in
    fits_history now c.args.actor c.args.state.now.setting c.args.state.now.history
    (subst (λ (es : List Entry). Fits now c.args.actor es) same
    (fits_read c.args.self.now c.args.actor entries c.at_mut-progress.result.now c.answer_by.new.progress c.answer_by.new.answers c.at_mut-progress.ensures.item before c.answer_by.ensures.fits c.answer_by.ensures.others))

pub returns-clause-others : goal.returns-clause-others
returns-clause-others g c =
    let entries : List Entry = c.args.state.now.state.entries in
    let same = shown_by c.args.state.now.setting c.args.state.now.state c.args.state.now.history c.requires.shows in
    let before : Fits c.args.self.now c.args.actor entries = subst (λ (es : List Entry). Fits c.args.self.now c.args.actor es) (sym same) (fits_now c.args.self.now c.args.actor c.args.state.now.setting c.args.state.now.history c.requires.fits) in
    let others = others_read c.args.self.now c.args.actor entries c.at_mut-progress.result.now c.answer_by.new.progress c.answer_by.new.answers c.at_mut-progress.ensures.item before c.answer_by.ensures.fits c.answer_by.ensures.others in
    λ other differ setting history. (λ fit after prefix. (others other differ (entries_by setting after)).0 (fit after prefix), λ fit after prefix. (others other differ (entries_by setting after)).1 (fit after prefix))

pub returns-clause-board : goal.returns-clause-board
returns-clause-board g c = (c.answer_by.ensures.others (suc c.args.actor) (λ e. absurd (omega (arith, e)))).board
