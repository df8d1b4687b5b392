use Rattle.live_board.specs.History.{front_book}
use Rattle.live_board.proofs.left_glass.LeftGlass.see.Goals as goal

pub invariant_of-self-clause-tied : goal.invariant_of-self-clause-tied
invariant_of-self-clause-tied c = (c.replace_with.ensures.0 (front_book c.args.self.now.front) c.args.self.now.tied).0

pub returns-clause-book : goal.returns-clause-book
returns-clause-book c = (c.replace_with.ensures.0 (front_book c.args.self.now.front) c.args.self.now.tied).1

pub returns-clause-taken : goal.returns-clause-taken
returns-clause-taken c = c.replace_with.ensures.1
