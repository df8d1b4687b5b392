use Rattle.std.proofs.Common.{◌≡◌, ◌∷◌, [], refl}
use Rattle.thread_tests.proofs.BoardLemmas.{has_first, has_second}
use Rattle.thread_tests.proofs.answers.board_of_two.Goals as goal

pub returns : goal.returns
returns c =
    let two : c.push-3.new.self ≡ (((0, c.message-first.result) ∷ (1, c.message-second.result) ∷ []) ∷ []) =
    rw (c.in_ok-push-3.ensures.ok, c.new-feeds.ensures.empty, c.in_ok-push-2.ensures.ok, c.in_ok-push.ensures.ok, c.new-posts.ensures.empty) refl in
    record {
      first = has_first c.push-3.new.self c.message-first.result c.message-second.result two c.new.result c.new.ensures.asks;
      second = has_second c.push-3.new.self c.message-first.result c.message-second.result two c.new.result c.new.ensures.asks;
    }
