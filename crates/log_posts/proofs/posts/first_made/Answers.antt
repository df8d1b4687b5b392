use Rattle.log_posts.proofs.PostsLemmas.{first_here, none_here}
use Rattle.log_posts.proofs.posts.first_made.Goals as goal

pub returns-in-Some : goal.returns-in-Some
returns-in-Some c =
    first_here c.args.to c.args.made.now c.args.lines.now c.loop-place.place c.index-made-place.result c.line_stamp-stamp.result c.effects_of.result.now c.in-Some.effects.now c.split_at.result.1.now c.lines_behind.result.now c.in-Some.post _ c.loop-place-test.true c.index-made-place.is c.line_stamp-stamp.ensures
    c.effects_of.ensures c.in-Some.ensures c.split_at.ensures.back c.lines_behind.ensures c.loop-place.invariant

pub loop-place-preserved : goal.loop-place-preserved
loop-place-preserved c =
    none_here c.args.to c.args.made.now c.args.lines.now c.loop-place.place c.index-made-place.result c.line_stamp-stamp.result c.effects_of.result.now _ c.loop-place-test.true c.index-made-place.is c.line_stamp-stamp.ensures c.effects_of.ensures
    c.in_default.ensures c.loop-place.invariant
