-- Words and files have one verdict.
use Rattle.std.proofs.Common.{◌≡◌, ◌⊎◌, inl, inr, ◌∙◌, ℕ, List, [], ◌∷◌, length, Option, None, Some, refl, sym, ap, subst}
use Rattle.std.specs.Prelude.{Result, Ok, Err, codes}
use Rattle.join_base.specs.Outside.{Files}
use Rattle.script_types.specs.declared.plan.Plan.{Plan}
use Rattle.script_types.specs.Typed.{IsTyped}
use Rattle.script_check.specs.Script.{OneScriptPlan}
use Rattle.plan_text.specs.PlanText.{plan_text}
use Rattle.fair_semantics.specs.declared.run.Run.{Run}
use Rattle.fair_semantics.specs.Linked.{IsLinked}
use Rattle.log_reader.specs.Log.{IsLogOf}
use Rattle.log_reader.proofs.ReadLemmas.{logs_are_one_run}
use Rattle.log_replay.specs.Check.{arrival_count}
use Rattle.log_replay.specs.Fault.{IsAccepted, IsRight}
use Rattle.log_replay.specs.declared.refusal.LogRefusal.TheVariants as log_refusal
use Rattle.log_audit.specs.Audit.{Audits}
use Rattle.log_audit.specs.Wrong.{first_difference}
use Rattle.log_audit.specs.declared.refusal.AuditRefusal.{AuditRefusal}
use Rattle.log_audit.specs.declared.refusal.AuditRefusal.TheVariants as refusal
use Rattle.log_audit.specs.declared.refusal.Difference.{Difference}
use Rattle.difference_text.specs.Text.{difference_text}
use Rattle.script_files.specs.Files.{File, Absent, Long, Holds, file_of, log_of}
use Rattle.join_command.specs.Verdict as usual
use Rattle.script_files.specs.Verdict as common
use Rattle.script_files.specs.Verdict.{Feeds, FeedsAnswer, Given, Refused, Missing, ScriptGives, ScriptStops, feeds_answer}
use Rattle.join_command.specs.Verdict.{OfCheck, OfReplay}
use Rattle.script_files.specs.declared.stop.LogCause.{LogCause}
use Rattle.script_files.specs.declared.stop.LogCause.TheVariants as log_cause
use Rattle.look_command.specs.Request.{Request, Audit, Reactions, Why, request_of}
use Rattle.look_command.specs.Verdict.{Verdict, Usual, OtherFeeds, OtherRow, IsReadRun, LogStops, OfFeeds, OfLog, OfReactions, OfRequest, OfRun, OfScript, OfWhy, OfWords, OneVerdict, RunStops, audited_as}

-- the words of `join_command` have one verdict, and a script has one plan
pub record HaveOneAnswer : Type 0 where
  pub verdict : usual.OneVerdict
  pub plan : OneScriptPlan

-- the verdicts of `check` and `replay` of `join_command` say what stops a script, and what a log comes to
module _ (one : HaveOneAnswer) (files : Files) where
  check_once : (script : List ℕ) (v w : common.Verdict) → OfCheck files script v → OfCheck files script w → v ≡ w
  check_once script v w a b = one.verdict (codes "check" ∷ codes "--" ∷ script ∷ []) files v w a b

  replay_once : (script log : List ℕ) (v w : common.Verdict) → OfReplay files script log v → OfReplay files script log w → v ≡ w
  replay_once script log v w a b = one.verdict (codes "replay" ∷ codes "--" ∷ script ∷ log ∷ []) files v w a b

  -- ---- the script

  plan_again : (file : File) (plan other : Plan) → ScriptGives file plan → ScriptGives file other → plan ≡ other
  plan_again Absent plan other a b = absurd a
  plan_again Long plan other a b = absurd a
  plan_again (Holds bytes) plan other a b = one.plan bytes plan other a b

  module _ (script : List ℕ) where
    stop_once : (v w : common.Verdict) → ScriptStops (file_of files script) v → ScriptStops (file_of files script) w → v ≡ w
    stop_once v w a b = check_once script v w (inl a) (inl b)

    no_stop : (file : File) (text : List ℕ) (v : common.Verdict) → ScriptStops file v → common.Checks text ≡ v → ⊥
    no_stop Absent text v stops is = stops
    no_stop Long text v stops is = let e : common.Checks text ≡ common.TooLong 1 = is ∙ stops in absurd cc
    no_stop (Holds bytes) text v (place, cause, fault, told) is = let e : common.Checks text ≡ common.ScriptRefused place cause = is ∙ told in absurd cc

    no_plan : (plan : Plan) (v : common.Verdict) → ScriptGives (file_of files script) plan → ScriptStops (file_of files script) v → ⊥
    no_plan plan v gives stops = no_stop (file_of files script) (plan_text plan) v stops (check_once script (common.Checks (plan_text plan)) v (inr (plan, gives, refl)) (inl stops))

    script_once : (of_plan : Plan → Verdict → Type 0) → ((plan : Plan) (v w : Verdict) → ScriptGives (file_of files script) plan → of_plan plan v → of_plan plan w → v ≡ w)
        → (v w : Verdict) → OfScript (file_of files script) of_plan v → OfScript (file_of files script) of_plan w → v ≡ w
    script_once of_plan once v w (inl (s, stops, is)) (inl (t, stopped, same)) = is ∙ ap (λ (u : common.Verdict). Usual u) (stop_once s t stops stopped) ∙ sym same
    script_once of_plan once v w (inl (s, stops, is)) (inr (plan, gives, comes)) = absurd (no_plan plan s gives stops)
    script_once of_plan once v w (inr (plan, gives, comes)) (inl (s, stops, is)) = absurd (no_plan plan s gives stops)
    script_once of_plan once v w (inr (plan, gives, comes)) (inr (other, given, also)) =
        let P : Plan → Type 0 = λ (p : Plan). of_plan p w in
        once plan v w gives comes (subst P (plan_again (file_of files script) other plan given gives) also)

  -- ---- the log

  module _ (script log : List ℕ) (plan : Plan) (gives : ScriptGives (file_of files script) plan) (typed : IsTyped plan) where
    -- what stops a log stops its replay
    of_stop : (bytes : List ℕ) (line : ℕ) (cause : LogCause) → LogStops plan bytes line cause → usual.OfLogBytes plan bytes (common.LogRefused line cause)
    of_stop bytes line log_cause.Bad stops = (Err (log_refusal.Bad line), stops, refl)
    of_stop bytes line log_cause.Differs stops = (Err (log_refusal.Differs line), stops, refl)

    replays : (file : File) (v : common.Verdict) → log_of files log ≡ file → usual.OfLog plan file v → OfReplay files script log v
    replays file v held comes = let P : File → Type 0 = λ (f : File). usual.OfLog plan f v in inr (plan, gives, (typed, subst P (sym held) comes))

    refused_once : (bytes : List ℕ) → log_of files log ≡ Holds bytes → (line line' : ℕ) (cause cause' : LogCause) → LogStops plan bytes line cause → LogStops plan bytes line' cause' → common.LogRefused line cause ≡ common.LogRefused line' cause'
    refused_once bytes held line line' cause cause' a b =
        replay_once script log (common.LogRefused line cause) (common.LogRefused line' cause')
        (replays (Holds bytes) (common.LogRefused line cause) held (of_stop bytes line cause a)) (replays (Holds bytes) (common.LogRefused line' cause') held (of_stop bytes line' cause' b))

    not_refused : (bytes : List ℕ) (run : Run) (line : ℕ) (cause : LogCause) → IsLogOf plan bytes run → IsAccepted plan run → LogStops plan bytes line cause → ⊥
    not_refused bytes run line log_cause.Bad is accepted stops = stops.0 run is
    not_refused bytes run line log_cause.Differs is accepted stops =
        let P : Run → Type 0 = λ (r : Run). IsRight plan r stops.first.place in
        stops.first.wrong (subst P (logs_are_one_run plan bytes run stops.run typed is stops.log) (accepted stops.first.place))

    -- ---- a run

    stopped_once : (file : File) → log_of files log ≡ file → (s t : common.Verdict) → RunStops plan file s → RunStops plan file t → s ≡ t
    stopped_once Absent held s t a b = absurd a
    stopped_once Long held s t a b = a ∙ sym b
    stopped_once (Holds bytes) held s t (line, cause, stops, is) (line', cause', stopped, same) = is ∙ refused_once bytes held line line' cause cause' stops stopped ∙ sym same

    not_both : (file : File) (run : Run) (s : common.Verdict) → IsReadRun plan file run → RunStops plan file s → ⊥
    not_both Absent run s reads stops = reads
    not_both Long run s reads stops = reads
    not_both (Holds bytes) run s reads (line, cause, stops, is) = not_refused bytes run line cause reads.0 reads.1 stops

    read_once : (file : File) (run other : Run) → IsReadRun plan file run → IsReadRun plan file other → run ≡ other
    read_once Absent run other a b = absurd a
    read_once Long run other a b = absurd a
    read_once (Holds bytes) run other a b = logs_are_one_run plan bytes run other typed a.0 b.0

    run_once : (of_run : Run → Verdict → Type 0) → ((run : Run) (v w : Verdict) → of_run run v → of_run run w → v ≡ w) → (v w : Verdict)
        → OfRun plan (log_of files log) of_run v → OfRun plan (log_of files log) of_run w → v ≡ w
    run_once of_run once v w (inl (s, stops, is)) (inl (t, stopped, same)) = is ∙ ap (λ (u : common.Verdict). Usual u) (stopped_once (log_of files log) refl s t stops stopped) ∙ sym same
    run_once of_run once v w (inl (s, stops, is)) (inr (run, reads, comes)) = absurd (not_both (log_of files log) run s reads stops)
    run_once of_run once v w (inr (run, reads, comes)) (inl (s, stops, is)) = absurd (not_both (log_of files log) run s reads stops)
    run_once of_run once v w (inr (run, reads, comes)) (inr (other, read, also)) =
        let P : Run → Type 0 = λ (r : Run). of_run r w in
        once run v w comes (subst P (read_once (log_of files log) other run read reads) also)

    -- ---- an audit

    -- what an accepted log comes to by feeds
    abbrev OfAccepted : List ℕ → Feeds → Run → Verdict → Type 0
    OfAccepted bytes feeds run verdict =
        (IsLinked plan run.limits feeds run × (verdict ≡ Usual (common.Accepts (arrival_count run))))
        ⊎ (((run.feeds ≡ length feeds → ⊥) × (verdict ≡ OtherFeeds run.feeds))
        ⊎ ((difference : Difference) × (run.feeds ≡ length feeds) × (IsLinked plan run.limits feeds run → ⊥) × (first_difference plan feeds run ≡ Some difference) × (verdict ≡ OtherRow difference (difference_text plan bytes feeds difference))))

    same_difference : (o : Option Difference) (d e : Difference) → o ≡ Some d → o ≡ Some e → d ≡ e
    same_difference o d e a b = let is : Some d ≡ Some e = sym a ∙ b in cc

    accepted_once : (bytes : List ℕ) (feeds : Feeds) (run : Run) (v w : Verdict) → OfAccepted bytes feeds run v → OfAccepted bytes feeds run w → v ≡ w
    accepted_once bytes feeds run v w (inl a) (inl b) = a.1 ∙ sym b.1
    accepted_once bytes feeds run v w (inl a) (inr (inl b)) = absurd (b.0 a.0.feed_count)
    accepted_once bytes feeds run v w (inl a) (inr (inr (d, many, unlinked, first, is))) = absurd (unlinked a.0)
    accepted_once bytes feeds run v w (inr (inl a)) (inl b) = absurd (a.0 b.0.feed_count)
    accepted_once bytes feeds run v w (inr (inl a)) (inr (inl b)) = a.1 ∙ sym b.1
    accepted_once bytes feeds run v w (inr (inl a)) (inr (inr (d, many, unlinked, first, is))) = absurd (a.0 many)
    accepted_once bytes feeds run v w (inr (inr (d, many, unlinked, first, is))) (inl b) = absurd (unlinked b.0)
    accepted_once bytes feeds run v w (inr (inr (d, many, unlinked, first, is))) (inr (inl b)) = absurd (b.0 many)
    accepted_once bytes feeds run v w (inr (inr (d, many, unlinked, first, is))) (inr (inr (e, also, apart, found, same))) =
        is ∙ ap (λ (it : Difference). OtherRow it (difference_text plan bytes feeds it)) (same_difference (first_difference plan feeds run) d e first found) ∙ sym same

    -- a log that is refused by itself, or an accepted one
    abbrev OfBytes : List ℕ → Feeds → Verdict → Type 0
    OfBytes bytes feeds verdict =
        ((line : ℕ) × (cause : LogCause) × LogStops plan bytes line cause × (verdict ≡ Usual (common.LogRefused line cause)))
        ⊎ ((run : Run) × IsLogOf plan bytes run × IsAccepted plan run × OfAccepted bytes feeds run verdict)

    bytes_once : (bytes : List ℕ) → log_of files log ≡ Holds bytes → (feeds : Feeds) (v w : Verdict) → OfBytes bytes feeds v → OfBytes bytes feeds w → v ≡ w
    bytes_once bytes held feeds v w (inl (line, cause, stops, is)) (inl (line', cause', stopped, same)) = is ∙ ap (λ (u : common.Verdict). Usual u) (refused_once bytes held line line' cause cause' stops stopped) ∙ sym same
    bytes_once bytes held feeds v w (inl (line, cause, stops, is)) (inr (run, reads, accepted, comes)) = absurd (not_refused bytes run line cause reads accepted stops)
    bytes_once bytes held feeds v w (inr (run, reads, accepted, comes)) (inl (line, cause, stops, is)) = absurd (not_refused bytes run line cause reads accepted stops)
    bytes_once bytes held feeds v w (inr (run, reads, accepted, comes)) (inr (other, read, also, came)) =
        let P : Run → Type 0 = λ (r : Run). OfAccepted bytes feeds r w in
        accepted_once bytes feeds run v w comes (subst P (logs_are_one_run plan bytes other run typed read reads) came)

    same_verdict : (v w : Verdict) → Some v ≡ Some w → w ≡ v
    same_verdict v w is = cc

    no_verdict : (v : Verdict) → None ≡ Some v → ⊥
    no_verdict v is = absurd cc

    by_answer : (bytes : List ℕ) (feeds : Feeds) (result : Result ℕ AuditRefusal) (v : Verdict) → Audits plan bytes feeds result → audited_as plan bytes feeds result ≡ Some v → OfBytes bytes feeds v
    by_answer bytes feeds (Ok count) v audits is =
        inr (audits.run, audits.log, audits.accepted, inl (audits.linked, same_verdict (Usual (common.Accepts count)) v is ∙ ap (λ (n : ℕ). Usual (common.Accepts n)) audits.counted))
    by_answer bytes feeds (Err (refusal.Log (log_refusal.Bad line))) v audits is = inl (line, log_cause.Bad, audits, same_verdict (Usual (common.LogRefused line log_cause.Bad)) v is)
    by_answer bytes feeds (Err (refusal.Log (log_refusal.Differs line))) v audits is = inl (line, log_cause.Differs, audits, same_verdict (Usual (common.LogRefused line log_cause.Differs)) v is)
    by_answer bytes feeds (Err (refusal.Log log_refusal.NoMemory)) v audits is = absurd (no_verdict v is)
    by_answer bytes feeds (Err (refusal.Feeds count)) v audits is =
        inr (audits.run, audits.others.log, audits.others.accepted, inr (inl ((λ same. audits.apart (audits.counted ∙ same)), same_verdict (OtherFeeds count) v is ∙ ap (λ (n : ℕ). OtherFeeds n) audits.counted)))
    by_answer bytes feeds (Err (refusal.Row difference)) v audits is =
        inr (
          audits.run,
          audits.others.log,
          audits.others.accepted,
          inr (inr (difference, audits.many, audits.others.unlinked, audits.first, same_verdict (OtherRow difference (difference_text plan bytes feeds difference)) v is)),
        )

    feeds_once : (bytes : List ℕ) → log_of files log ≡ Holds bytes → (given : FeedsAnswer) (v w : Verdict) → OfFeeds plan bytes given v → OfFeeds plan bytes given w → v ≡ w
    feeds_once bytes held (Given feeds) v w (r, audits, is) (s, audited, same) = bytes_once bytes held feeds v w (by_answer bytes feeds r v audits is) (by_answer bytes feeds s w audited same)
    feeds_once bytes held (Refused stop) v w a b = a ∙ sym b
    feeds_once bytes held Missing v w a b = absurd a

    log_once : (file : File) → log_of files log ≡ file → (given : FeedsAnswer) (v w : Verdict) → OfLog plan file given v → OfLog plan file given w → v ≡ w
    log_once Absent held given v w a b = absurd a
    log_once Long held given v w a b = a ∙ sym b
    log_once (Holds bytes) held given v w a b = feeds_once bytes held given v w a b

  -- ---- the requests

  reacts_once : (actor : Option (List ℕ)) (plan : Plan) (run : Run) (v w : Verdict) → OfReactions actor plan run v → OfReactions actor plan run w → v ≡ w
  reacts_once None plan run v w a b = a ∙ sym b
  reacts_once (Some name) plan run v w a b = a ∙ sym b

  request_once : (request : Request) (v w : Verdict) → OfRequest files request v → OfRequest files request w → v ≡ w
  request_once (Audit script log feeds) v w a b =
      script_once script (λ plan verdict. IsTyped plan × OfLog plan (log_of files log) (feeds_answer files plan 1 feeds) verdict)
      (λ plan one other gives x y. log_once script log plan gives x.0 (log_of files log) refl (feeds_answer files plan 1 feeds) one other x.1 y.1) v w a b
  request_once (Reactions script log actor) v w a b =
      script_once script (λ plan verdict. IsTyped plan × OfRun plan (log_of files log) (OfReactions actor plan) verdict)
      (λ plan one other gives x y. run_once script log plan gives x.0 (OfReactions actor plan) (reacts_once actor plan) one other x.1 y.1) v w a b
  request_once (Why script log actor number) v w a b =
      script_once script (λ plan verdict. IsTyped plan × OfRun plan (log_of files log) (OfWhy actor number plan) verdict)
      (λ plan one other gives x y. run_once script log plan gives x.0 (OfWhy actor number plan) (λ run this that p q. p ∙ sym q) one other x.1 y.1) v w a b

  words_once : (request : Option Request) (v w : Verdict) → OfWords files request v → OfWords files request w → v ≡ w
  words_once None v w a b = a ∙ sym b
  words_once (Some request) v w a b = request_once request v w a b

pub one_verdict : HaveOneAnswer → OneVerdict
one_verdict one words files v w a b = words_once one files (request_of words) v w a b
