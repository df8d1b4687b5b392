use Rattle.ask_board.proofs.CellLemmas.{cells_step, new_asks}
use Rattle.ask_board.proofs.board.AskBoard.new.Goals as goal

pub loop-posts-preserved : goal.loop-posts-preserved
loop-posts-preserved c = cells_step c.args.actors c.as_slice-posts-items.result.now c.loop-posts.posts-index c.loop-posts.cells c.push.new.self c.posts-item.result c.in_ok-cells_of_feed.field-0 c.loop-posts.invariant c.loop-posts-test.true c.posts-item.is c.in_ok-cells_of_feed.ensures.cells c.in_ok-push.ensures.ok

pub returns : goal.returns
returns c = record { asks = new_asks c.args.actors c.args.feeds.now c.as_slice-posts-items.result.now c.loop-posts.posts-index c.loop-posts.cells c.as_slice-posts-items.ensures.same c.loop-posts-test.false c.loop-posts.invariant }
