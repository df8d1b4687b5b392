use Rattle.std.proofs.Common.{◌∙◌, arith}
use Rattle.fair_semantics.specs.Fair.{setting_of}
use Rattle.actor_cells.specs.History.{history_shown}
use Rattle.ask_run.proofs.AskingLemmas.{answers_all, first_actor, fits_entries, knows_answers}
use Rattle.ask_run.proofs.ReadLemmas.{few_entries}
use Rattle.ask_run.proofs.TellerLemmas.{fits_joinable}
use Rattle.ask_run.proofs.running.run_on.Goals as goal

pub join_tellers-requires-clause-joinable : goal.join_tellers-requires-clause-joinable
join_tellers-requires-clause-joinable g c k d lt =
    let run = c.in_ok-run.run' in
    let (own, there) = first_actor c.args.plan.now c.args.limits c.args.feeds run c.requires.typed c.in_ok-run.ensures.linked in
    fits_joinable g.K.OneBoard.cells _ 0 (setting_of c.args.plan.now 0 c.args.limits) (history_shown c.args.feeds run 0 own) (c.in_ok-run.ensures.fits k d lt 0 own there)

pub read_run-requires : goal.read_run-requires
read_run-requires g c =
    let run = c.in_ok-run.run' in
    let linked = c.in_ok-run.ensures.linked in
    let joined = c.in_ok-joined.ensures.fits in
    record {
      few = omega (arith, linked.fits_plan.actors, c.requires.typed.few_actors);
      small = few_entries c.args.plan.now c.args.limits c.args.feeds run linked;
      fits = fits_entries c.args.plan.now c.args.limits c.args.feeds run c.in_ok-joined.joined linked c.in_ok-run.ensures.version
          (λ actor own there. joined actor (setting_of c.args.plan.now actor c.args.limits) (history_shown c.args.feeds run actor own) (λ k d lt. c.in_ok-run.ensures.fits k d lt actor own there));
    }

pub returns-clause-board : goal.returns-clause-board
returns-clause-board g c = c.in_ok-answerer.ensures.board ∙ c.in_ok-joined.ensures.board

pub returns-clause-of_board : goal.returns-clause-of_board
returns-clause-of_board g c =
    let (own, there) = first_actor c.args.plan.now c.args.limits c.args.feeds c.in_ok-run.run' c.requires.typed c.in_ok-run.ensures.linked in
    (c.in_ok-answerer.ensures.fits 0 own there).fits.of_board

pub returns-clause-known : goal.returns-clause-known
returns-clause-known g c =
    let (own, there) = first_actor c.args.plan.now c.args.limits c.args.feeds c.in_ok-run.run' c.requires.typed c.in_ok-run.ensures.linked in
    (c.in_ok-answerer.ensures.fits 0 own there).known

pub returns-clause-answers : goal.returns-clause-answers
returns-clause-answers g c = knows_answers c.args.plan.now c.args.limits c.args.feeds c.in_ok-run.run' c.in_ok-answerer.answerer c.requires.typed c.in_ok-run.ensures.linked c.in_ok-answerer.ensures.fits

pub returns-clause-all : goal.returns-clause-all
returns-clause-all g c = answers_all c.args.plan.now c.args.limits c.args.feeds c.in_ok-run.run' c.in_ok-answerer.answerer c.requires.typed c.in_ok-run.ensures.linked c.in_ok-answerer.ensures.tried
