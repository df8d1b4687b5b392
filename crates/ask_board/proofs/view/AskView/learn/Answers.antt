use Rattle.std.proofs.Common.{◌≡◌, ◌∙◌, IsSome, sym, ap}
use Rattle.ask_board.specs.Rows.{item_of}
use Rattle.ask_board.specs.View.{known_by, known_of}
use Rattle.ask_board.proofs.RowsLemmas.{Stands, actor_within, place_within, walked, item_stands}
use Rattle.ask_board.proofs.ViewLemmas.{has_note, has_twin, cells_agree, knows, knows_new, knows_others, same_board, unchanged, both_know}
use Rattle.ask_board.proofs.view.AskView.learn.Goals as goal

own_has : (c : goal.After-drop-own) → IsSome (item_of c.args.self.now.notes c.args.ask)
own_has c = has_twin c.args.self.now c.args.other.now c.args.ask c.requires.one_board (has_note c.args.other.now c.args.ask c.requires.known)

own_stands : (c : goal.After-drop-own) → Stands c.args.self.now.notes c.args.ask c.at_mut-own.result.now c.at_mut-own-2.result.now c.at_mut-own-3.result.now
own_stands c = walked c.args.self.now.notes c.args.ask (own_has c) _ _ _ c.at_mut-own.ensures.item c.at_mut-own-2.ensures.item c.at_mut-own-3.ensures.item

their_stands : (c : goal.After-drop-own) → Stands c.args.other.now.notes c.args.ask c.at_mut-theirs.result.now c.at_mut-theirs-2.result.now c.at_mut-theirs-3.result.now
their_stands c = walked c.args.other.now.notes c.args.ask (has_note c.args.other.now c.args.ask c.requires.known) _ _ _ c.at_mut-theirs.ensures.item c.at_mut-theirs-2.ensures.item c.at_mut-theirs-3.ensures.item

pub at_mut-own-requires-2 : goal.at_mut-own-requires-2
at_mut-own-requires-2 c =
    let theirs = has_note c.args.other.now c.args.ask c.requires.known in
    let own = has_twin c.args.self.now c.args.other.now c.args.ask c.requires.one_board theirs in
    record { within = actor_within c.args.self.now.notes c.args.ask own _ c.at_mut-own.ensures.item }

pub at_mut-own-requires-3 : goal.at_mut-own-requires-3
at_mut-own-requires-3 c =
    let theirs = has_note c.args.other.now c.args.ask c.requires.known in
    let own = has_twin c.args.self.now c.args.other.now c.args.ask c.requires.one_board theirs in
    record { within = place_within c.args.self.now.notes c.args.ask own _ _ c.at_mut-own.ensures.item c.at_mut-own-2.ensures.item }

pub compare-requires : goal.compare-requires
compare-requires c =
    let theirs = has_note c.args.other.now c.args.ask c.requires.known in
    let own = has_twin c.args.self.now c.args.other.now c.args.ask c.requires.one_board theirs in
    let t = item_stands (walked c.args.other.now.notes c.args.ask theirs _ _ _ c.at_mut-theirs.ensures.item c.at_mut-theirs-2.ensures.item c.at_mut-theirs-3.ensures.item) in
    let o = item_stands (walked c.args.self.now.notes c.args.ask own _ _ _ c.at_mut-own.ensures.item c.at_mut-own-2.ensures.item c.at_mut-own-3.ensures.item) in
    let same = cells_agree c.args.self.now c.args.other.now c.args.ask _ _ c.requires.one_board o t in
    let again : c.again.result ≡ c.at_mut-theirs-3.result.now = c.again.ensures.1 ∙ c.again-learnt.ensures.0 in
    ap (λ n. n.cell) again ∙ same

pub returns : goal.returns
returns c =
    let o = own_stands c in
    let t = their_stands c in
    let learnt : c.again-learnt.result ≡ c.at_mut-theirs-3.result.now = c.again-learnt.ensures.1 in
    let again : c.again.result ≡ c.at_mut-theirs-3.result.now = c.again.ensures.1 ∙ c.again-learnt.ensures.0 in
    let cells = cells_agree c.args.self.now c.args.other.now c.args.ask _ _ c.requires.one_board (item_stands o) (item_stands t) in
    let knows_theirs : known_of c.args.other.now c.args.ask ≡ c.at_mut-theirs-3.result.now.known = knows t in
    record {
      one_board = same_board o c.again-learnt.result (ap (λ n. n.cell) learnt ∙ cells);
      learnt = knows_new o c.again-learnt.result ∙ (ap known_by learnt ∙ sym knows_theirs);
      same = rw (knows o, knows_theirs) (both_know c.at_mut-own-3.result.now.known c.at_mut-theirs-3.result.now.known (rw (ap known_by again) at c.compare.ensures.1) (rw knows_theirs at c.requires.known));
      others = knows_others o c.again-learnt.result;
      unchanged = unchanged t c.again.new.self (c.again.ensures.0 ∙ c.again-learnt.ensures.0);
    }
