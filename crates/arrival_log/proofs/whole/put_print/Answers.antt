use Rattle.std.proofs.Common.{◌∙◌, ◌++◌, List, ℕ, ap, drop}
use Rattle.std.specs.Prelude.{codes}
use Rattle.join_base.specs.Quoted.{quoted}
use Rattle.arrival_log.proofs.HeadLemmas.{print_before}
use Rattle.arrival_log.proofs.whole.put_print.Goals as goal

pub returns-clause-written : goal.returns-clause-written
returns-clause-written c =
    let printed : List ℕ = quoted c.args.printed.now in
    let behind = c.in_ok-end.ensures.written ∙ ap (λ (rest : List ℕ). printed ++ rest) c.put_words-end.ensures.written in
    c.put_words.ensures.written ∙ ap (λ (rest : List ℕ). codes "print " ++ rest) behind ∙ print_before printed (drop c.args.end c.args.room.now)
