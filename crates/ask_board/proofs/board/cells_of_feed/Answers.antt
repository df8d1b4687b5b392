use Rattle.ask_board.proofs.CellLemmas.{cell_step, cells_none, cells_whole, pass_step}
use Rattle.ask_board.proofs.board.cells_of_feed.Goals as goal

pub loop-target-init : goal.loop-target-init
loop-target-init c = cells_none c.args.actors c.args.posts.now c.reader-rest.result c.in_ok-rows.rows c.reader-rest.ensures.same c.in_ok-rows.ensures.empty

pub loop-target-preserved-in-Continue-branch-2 : goal.loop-target-preserved-in-Continue-branch-2
loop-target-preserved-in-Continue-branch-2 c =
    cell_step c.args.actors c.args.posts.now c.loop-target.rest c.next_target.new.self c.loop-target.rows c.in-Some.target c.at_mut-row.result.now c.push.new.self _ c.loop-target.invariant c.in-Some.ensures c.at_mut-row.ensures.item c.in_ok-push.ensures.ok

pub loop-target-preserved : goal.loop-target-preserved
loop-target-preserved c =
    pass_step c.args.actors c.args.posts.now c.loop-target.rest c.next_target.new.self c.loop-target.rows c.in-Some.target c.loop-target.invariant c.in-Some.ensures c.if-target-actors.false

pub returns : goal.returns
returns c = record { cells = cells_whole c.args.actors c.args.posts.now c.loop-target.rest c.loop-target.rows c.loop-target.invariant c.in_default.ensures.0 }
