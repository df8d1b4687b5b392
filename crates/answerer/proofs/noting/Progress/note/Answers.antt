use Rattle.std.proofs.Common.{◌≡◌, ◌∙◌, ◌+◌, ◌<◌, ◌^◌, ◌++◌, ◌∷◌, [], List, Option, length, sym, ap, subst, arith}
use Rattle.std.proofs.lemmas.List.{length_push}
use Rattle.fair_semantics.specs.declared.run.Entry.{Entry}
use Rattle.ask_board.specs.declared.view.Ask.{Ask}
use Rattle.answerer.specs.Asks.{last_place, next_ask}
use Rattle.answerer.proofs.AskLemmas.{noted_room, noted_step}
use Rattle.answerer.proofs.noting.Progress.note.Goals as goal

pub next_ask-ask-requires : goal.next_ask-ask-requires
next_ask-ask-requires c = record {
  room = λ feed.
      subst (λ (asks : List (Option Ask)). last_place feed asks + 1 < 2 ^ 32) (sym c.as_slice.ensures.same)
      (noted_room c.args.actor c.args.entries.now c.loop-place.self.asks c.loop-place.place c.loop-place.invariant.noted c.loop-place.invariant.count c.loop-place-test.true c.requires.few feed);
}

pub loop-place-preserved : goal.loop-place-preserved
loop-place-preserved c =
    let asks : List (Option Ask) = c.loop-place.self.asks in
    let entry = c.index-entries-place.result in
    let is : c.push.new.self ≡ asks ++ next_ask c.args.actor entry.source asks ∷ [] =
    c.in_ok-push.ensures.ok ∙ ap (λ (o : Option Ask). asks ++ o ∷ []) (c.next_ask-ask.ensures ∙ ap (λ (x : Entry). next_ask c.args.actor x.source c.as_slice.result.now) (sym c.index-entries-place.is) ∙ ap (next_ask c.args.actor entry.source) c.as_slice.ensures.same) in
    record {
      noted = noted_step c.args.actor c.args.entries.now asks entry c.loop-place.place c.push.new.self c.loop-place.invariant.noted c.loop-place.invariant.count c.loop-place-test.true c.index-entries-place.is is;
      count = ap length is ∙ length_push asks (next_ask c.args.actor entry.source asks) ∙ ap (λ n. n + 1) c.loop-place.invariant.count;
      grew = omega (arith, c.loop-place.invariant.grew);
      done = c.loop-place.invariant.done;
    }
