use Rattle.std.proofs.Common.{◌++◌, ◌∙◌, List, ℕ, ap, append_assoc}
use Rattle.std.proofs.lemmas.Result.{on_ok_weaker}
use Rattle.std.specs.Fmt.{decimal}
use Rattle.std.specs.Prelude.{codes}
use Rattle.waiting_reasons.proofs.gone.write_arrival.Goals as goal

pub returns : goal.returns
returns c =
    let number = decimal c.args.number in
    on_ok_weaker c.write_count.result (λ e. e ∙ ap (λ (t : List ℕ). t ++ number) c.in_ok-push_all.ensures.ok ∙ append_assoc c.args.text.now (codes " at arrival ") number) c.write_count.ensures
