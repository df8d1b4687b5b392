use Rattle.std.proofs.Common.{◌∙◌, ◌-◌, ℕ, [], ◌∷◌, ◌++◌, ap}
use Rattle.join_base.specs.declared.message.Message.{Message}
use Rattle.building_load.proofs.RowLemmas.{fed_fit, row_more}
use Rattle.building_load.proofs.feed.load_feed.Goals as goal

pub returns-clause-fits : goal.returns-clause-fits
returns-clause-fits c = fed_fit c.args.rows c.args.hall c.loop-place.place c.loop-place.posts c.requires.rows.1 c.requires.hall.1 c.loop-place-test.false c.loop-place.invariant

pub loop-place-preserved : goal.loop-place-preserved
loop-place-preserved c =
    row_more (c.args.hall - 1) c.loop-place.place c.args.rows c.loop-place.posts c.push.new.self c.loop-place-test.true
    (c.in_ok-push.ensures.ok ∙ ap (λ (row : ℕ × Message). c.loop-place.posts ++ row ∷ []) c.in_ok-row.ensures)
    ∙ c.loop-place.invariant
