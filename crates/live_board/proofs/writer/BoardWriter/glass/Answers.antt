use Rattle.std.proofs.Common.{List, sym, ap, ◌∙◌, subst}
use Rattle.left_right.specs.Sides.{view}
use Rattle.logbook.specs.Pages.{Book}
use Rattle.live_board.specs.declared.snapshot.Snapshot.{Snapshot}
use Rattle.live_board.specs.History.{front_book}
use Rattle.live_board.specs.BoardRule.{HasSeenOf}
use Rattle.live_board.proofs.RuleLemmas.{admits, forks, merges, saw-of, takes-of}
use Rattle.live_board.proofs.writer.BoardWriter.glass.Goals as goal

pub reader-requires : goal.reader-requires
reader-requires c = admits

pub tell-requires : goal.tell-requires
tell-requires c = forks _ _

pub learn-requires-clause-rule : goal.learn-requires-clause-rule
learn-requires-clause-rule c = merges _ _ _ _

pub invariant_of-result-clause-tied : goal.invariant_of-result-clause-tied
invariant_of-result-clause-tied c =
    let w = c.args.self.now.writer in
    let shown = w.desk.shown.value in
    let b = front_book shown.front in
    let saw = saw-of (view w.desk.place) shown c.args.self.now.saw in
    let told = subst (HasSeenOf b) (sym c.tell.ensures.given.1) saw in
    let took = takes-of b (view c.in_ok-reader.reader.place) (view c.tell.result) c.in_ok-reader.ensures.view told in
    let here = subst (λ (v : List Snapshot). HasSeenOf b v) (sym c.learn.ensures.1) took in
    let front = ap front_book (c.again-front.ensures.same ∙ ap (λ (p : Snapshot). p.front) c.published.ensures) in
    subst (λ (x : Book). HasSeenOf x (view c.learn.new.self.place)) (sym front) here
