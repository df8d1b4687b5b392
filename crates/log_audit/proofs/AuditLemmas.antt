-- What an audit answers, from what was checked, read and compared.
use Rattle.std.proofs.Common.{◌≡◌, ◌∙◌, ℕ, ◌+◌, List, length, Option, None, Some, slice_get, refl, ap, sym, subst, arith}
use Rattle.std.specs.Prelude.{Result, Ok, Err}
use Rattle.join_base.specs.declared.message.Message.{Message}
use Rattle.join_base.specs.declared.message.Source.TheVariants.{Feed}
use Rattle.script_types.specs.declared.plan.Plan.{Plan}
use Rattle.script_types.specs.Typed.{IsTyped}
use Rattle.fair_semantics.specs.declared.run.ActorRun.{ActorRun}
use Rattle.fair_semantics.specs.declared.run.Run.{Run}
use Rattle.fair_semantics.specs.Linked.{IsLinked, count_of}
use Rattle.run_order_law.proofs.LawLemmas.{runs_are_schedules}
use Rattle.log_reader.specs.Log.{IsLogOf}
use Rattle.log_reader.proofs.ReadLemmas.{logs_are_one_run}
use Rattle.log_replay.specs.Check.{IsAcceptedLog, arrival_count}
use Rattle.log_replay.specs.Fault.{IsAccepted}
use Rattle.log_replay.specs.Feeds.{feeds_shown}
use Rattle.log_audit.specs.declared.refusal.AuditRefusal.{AuditRefusal}
use Rattle.log_audit.specs.declared.refusal.AuditRefusal.TheVariants as refusal
use Rattle.log_audit.specs.declared.refusal.Difference.{Difference}
use Rattle.log_audit.specs.Audit.{Audits, IsOfOthers}
use Rattle.log_audit.specs.Search.{Compares, link_of, run_wrong, section_wrong}
use Rattle.log_audit.specs.Wrong.{Feeds, rows_for}
use Rattle.log_audit.proofs.FedLemmas.{IsFed, linked_by, linked_fed}
use Rattle.log_audit.proofs.FitsLemmas.{fits_link, link_fits, links_none, none_links, none_sections, sections_none}
use Rattle.log_audit.proofs.LineLemmas.{run_is_first}
use Rattle.log_audit.proofs.ShownLemmas.{shown_fit}

-- ---- the search and the rows

-- where nothing is wrong, each actor took and counted the rows
none_fed : (feeds : Feeds) (run : Run) → run_wrong feeds run ≡ None → IsFed run feeds
none_fed feeds run none actor own there k posts at =
    let zero_more : 0 + actor ≡ actor = omega arith in
    let section = sections_none feeds 0 2 run.actors none actor own there in
    let here : section_wrong feeds actor (section.0) own ≡ None = subst (λ (a : ℕ). section_wrong feeds a (section.0) own ≡ None) zero_more section.1 in
    let links = links_none actor (section.0) own None 1 feeds here in
    link_fits (1 + k) (count_of (Feed (1 + k)) own.late) (length own.late) (section.0 + 1) (rows_for actor 0 posts) own.entries (links.1 k posts at)

fed_none : (feeds : Feeds) (run : Run) → IsFed run feeds → run_wrong feeds run ≡ None
fed_none feeds run fed = none_sections feeds 0 2 run.actors (λ actor own there n.
    let zero_more : actor ≡ 0 + actor = omega arith in
    subst (λ (a : ℕ). section_wrong feeds a n own ≡ None) zero_more
    (none_links actor n own 1 feeds (λ k posts at. fits_link (1 + k) (count_of (Feed (1 + k)) own.late) (length own.late) (n + 1) (rows_for actor 0 posts) own.entries (fed actor own there k posts at))))

-- ---- the answer

module _ (plan : Plan) (bytes : List ℕ) (feeds : Feeds) (run : Run) (count : ℕ) (typed : IsTyped plan) (log : IsLogOf plan bytes run) (checked : IsAcceptedLog plan bytes count) where
  same : checked.run ≡ run
  same = logs_are_one_run plan bytes checked.run run typed checked.log log

  accepted : IsAccepted plan run
  accepted = subst (λ (r : Run). IsAccepted plan r) same checked.accepted

  linked_shown : IsLinked plan run.limits (feeds_shown run) run
  linked_shown = subst (λ (r : Run). IsLinked plan r.limits (feeds_shown r) r) same checked.linked

  of_others : (IsLinked plan run.limits feeds run → ⊥) → IsOfOthers plan bytes feeds run
  of_others unlinked = record { log = log; accepted = accepted; unlinked = unlinked }

  none_is_some : (o : Option Difference) (d : Difference) → o ≡ None → o ≡ Some d → ⊥
  none_is_some o d e f = let clash : None ≡ Some d = sym e ∙ f in absurd cc

  pub audited : Compares feeds run (Ok tt) → Audits plan bytes feeds (Ok count)
  audited c =
      let linked = linked_by plan (feeds_shown run) feeds run linked_shown typed.few_actors (shown_fit plan run log.fits) c.0 (none_fed feeds run c.1) in
      record {
        run = run;
        log = log;
        accepted = accepted;
        counted = checked.counted ∙ ap (λ (r : Run). arrival_count r) same;
        linked = linked;
        scheduled = runs_are_schedules plan run.limits feeds run linked;
      }

  pub of_other_feeds : (why : AuditRefusal) → Compares feeds run (Err why) → Audits plan bytes feeds (Err why)
  of_other_feeds (refusal.Log why) c = absurd c
  of_other_feeds (refusal.Feeds number) c = record { run = run; others = of_others (λ linked. c.1 (c.0 ∙ linked.feed_count)); counted = c.0; apart = c.1 }
  of_other_feeds (refusal.Row difference) c = record {
    run = run;
    others = of_others (λ linked. none_is_some (run_wrong feeds run) difference (fed_none feeds run (linked_fed plan feeds run linked)) c.1);
    many = c.0;
    first = sym (run_is_first plan run feeds log.fits.actors) ∙ c.1;
  }
