use Rattle.reaction_text.proofs.TextLemmas.{text_is}
use Rattle.reaction_text.proofs.text.print_reactions.Goals as goal

pub returns : goal.returns
returns c = record {
  text = text_is c.args.plan.now c.args.run.now c.args.only c.in_ok-arrivals.arrivals c.as_slice-all.result.now c.in_ok-found.found c.as_slice-shown.result.now c.in_ok-text.text c.in_ok-arrivals.ensures c.as_slice-all.ensures.same
      c.in_ok-found.ensures.reactions c.as_slice-shown.ensures.same c.in_ok-text.ensures;
}
