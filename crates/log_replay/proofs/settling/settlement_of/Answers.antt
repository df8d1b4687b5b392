use Rattle.std.proofs.Common.{◌∙◌, ℕ, List, length, ap, subst, sym, arith}
use Rattle.std.specs.List.{AllByRecursion}
use Rattle.fair_semantics.specs.declared.run.Entry.{Entry}
use Rattle.log_posts.specs.Stamps.{HasLink}
use Rattle.log_replay.specs.Shared.{shown_all}
use Rattle.log_replay.proofs.SettledLemmas.{links_count}
use Rattle.log_replay.proofs.settling.settlement_of.Goals as goal

pub lates_made-requires-clause-actors : goal.lates_made-requires-clause-actors
lates_made-requires-clause-actors c =
    let count = ap length (c.as_slice-2.ensures.same ∙ c.in_ok-links.ensures) ∙ links_count (shown_all c.args.run.now.actors c.args.made.now) c.args.run.now c.args.to 0 (length c.args.run.now.actors) in
    omega (arith, count, c.requires.few)

pub stamps_in-requires : goal.stamps_in-requires
stamps_in-requires c =
    let count = ap length c.in_ok-links.ensures ∙ links_count (shown_all c.args.run.now.actors c.args.made.now) c.args.run.now c.args.to 0 (length c.args.run.now.actors) in
    let all = subst (λ (es : List Entry). AllByRecursion (λ (entry : Entry). HasLink (length c.args.run.now.actors) entry.source) es) (sym c.as_slice-entries.ensures.same) c.requires.exist in
    record { exist = subst (λ (n : ℕ). AllByRecursion (λ (entry : Entry). HasLink n entry.source) c.as_slice-entries.result.now) (sym count) all }
