use Rattle.std.proofs.Common.{◌≡◌, ◌∙◌, ◌+◌, ◌<◌, ◌^◌, ◌++◌, ◌∷◌, [], List, Option, length, sym, ap, subst, arith}
use Rattle.std.proofs.lemmas.List.{length_push}
use Rattle.ask_board.specs.declared.view.Ask.{Ask}
use Rattle.answerer.specs.Asks.{last_place, next_ask}
use Rattle.answerer.proofs.AskLemmas.{noted_room}
use Rattle.answerer.proofs.BesideLemmas.{noted_shown}
use Rattle.answerer.proofs.showing.note_shown.Goals as goal

pub next_ask-ask-requires : goal.next_ask-ask-requires
next_ask-ask-requires c = record {
  room = λ feed.
      subst (λ (asks : List (Option Ask)). last_place feed asks + 1 < 2 ^ 32) (sym c.as_slice.ensures.same)
      (noted_room c.args.actor c.args.state.now.state.entries c.loop-place.progress.asks c.loop-place.place c.loop-place.invariant.noted c.loop-place.invariant.count (omega (arith, c.loop-place-test.true, c.arrivals-place-end.ensures.count)) (omega (arith, c.arrivals-place-end.ensures.count, c.arrivals-place-end.type_inv)) feed);
}

pub loop-place-preserved : goal.loop-place-preserved
loop-place-preserved c =
    let asks : List (Option Ask) = c.loop-place.progress.asks in
    let is : c.push.new.self ≡ asks ++ next_ask c.args.actor c.source_of-source.result asks ∷ [] =
    c.in_ok-push.ensures.ok ∙ ap (λ (o : Option Ask). asks ++ o ∷ []) (c.next_ask-ask.ensures ∙ ap (next_ask c.args.actor c.source_of-source.result) c.as_slice.ensures.same) in
    record {
      noted = noted_shown c.args.actor c.args.state.now.state.entries asks c.loop-place.place c.source_of-source.result c.push.new.self c.loop-place.invariant.noted c.loop-place.invariant.count (omega (arith, c.loop-place-test.true, c.arrivals-place-end.ensures.count)) c.source_of-source.ensures.source is;
      count = ap length is ∙ length_push asks (next_ask c.args.actor c.source_of-source.result asks) ∙ ap (λ n. n + 1) c.loop-place.invariant.count;
      grew = omega (arith, c.loop-place.invariant.grew);
      done = c.loop-place.invariant.done;
    }
