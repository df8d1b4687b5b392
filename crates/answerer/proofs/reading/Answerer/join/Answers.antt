use Rattle.std.proofs.Common.{List, subst}
use Rattle.std.specs.Result.{OnOk}
use Rattle.pattern_core.specs.Members.{IsIn}
use Rattle.ask_board.specs.declared.view.Ask.{Ask}
use Rattle.answerer.specs.Answered.{Joins}
use Rattle.answerer.specs.Fit.{progress_of}
use Rattle.answerer.proofs.JoinLemmas.{fits_joined, known_joined}
use Rattle.answerer.proofs.reading.Answerer.join.Goals as goal

pub returns-clause-fits : goal.returns-clause-fits
returns-clause-fits c = λ actor entries own theirs.
    let joins = subst (λ (asks : List Ask). Joins c.args.other.answers.view asks c.args.self.now.answers c.join.new.self) c.as_slice.ensures.same c.join.ensures.joins in
    record {
      rows = own.rows;
      known = known_joined c.args.other.answers.view c.args.other.answers.asks c.args.self.now.answers c.join.new.self joins own.known theirs.known;
      fits = fits_joined actor entries (progress_of c.args.self.now actor) (progress_of c.args.other actor) c.args.self.now.answers c.args.other.answers c.join.new.self own.fits theirs.fits joins;
    }

pub returns-clause-joined : goal.returns-clause-joined
returns-clause-joined c = subst (λ (asks : List Ask). OnOk c.join.result ((ask : Ask) → IsIn ask asks → IsIn ask c.join.new.self.asks)) c.as_slice.ensures.same c.join.ensures.joined
