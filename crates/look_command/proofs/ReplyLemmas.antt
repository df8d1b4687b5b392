-- From the files of a request to the reply.
use Rattle.std.proofs.Common.{◌≡◌, ◌⊎◌, inl, inr, ◌∙◌, ℕ, ◌≤◌, List, [], ◌∷◌, ◌++◌, append_assoc, length, Option, None, Some, refl, sym, ap, subst}
use Rattle.std.specs.Prelude.{Result, Ok, Err}
use Rattle.std.proofs.lemmas.List.{append-nil}
use Rattle.join_base.specs.declared.outside.FetchFault.{FetchFault}
use Rattle.join_base.specs.declared.outside.FetchFault.TheVariants as fetch
use Rattle.join_base.specs.Outside.{Files, Told, FetchTells, IsFetched, content_of, with_asked}
use Rattle.script_types.specs.declared.plan.Plan.{Plan}
use Rattle.script_types.specs.Typed.{IsTyped}
use Rattle.log_audit.specs.Audit.{Audits}
use Rattle.log_audit.specs.declared.refusal.AuditRefusal.{AuditRefusal}
use Rattle.script_files.specs.Files.{File, Long, Holds, file_of, file_within, log_of, max_log}
use Rattle.script_files.specs.Loading.{LoadCause, LoadsFeeds, LoadsScript, StopsFeeds, StopsScript, Tells, fetch_stop, refused_as, stopped_by}
use Rattle.script_files.specs.Verdict as usual
use Rattle.script_files.specs.Verdict.{Feeds, FeedsAnswer, Given, Refused, ScriptGives, feeds_answer}
use Rattle.script_files.specs.declared.stop.Refusal.{Refusal}
use Rattle.script_files.specs.declared.stop.Refusal.TheVariants as refusal
use Rattle.script_files.specs.declared.stop.Stop.{Stop}
use Rattle.script_files.specs.declared.stop.Stop.TheVariants as stop
use Rattle.script_files.proofs.LoadLemmas.{asks, asks_unfetched, file_long, file_short}
use Rattle.look_command.specs.declared.reply.Reply.{Reply}
use Rattle.look_command.specs.Replying.{AuditsFeeds, IsReplied, LoadsBytes, OfReply, ReadsFeeds, Replies, StopsBytes, replied_with, stop_behind, usually}
use Rattle.look_command.specs.Request.{Request, Audit}
use Rattle.look_command.specs.Verdict.{MayAskAudit, OfFeeds, OfLog, Usual, Verdict, asks_feeds, asks_log, asks_nothing, asks_script, audited_as, behind_log}

asked_none : (before : Told) → before ≡ record { files = before.files; asked = before.asked ++ [] }
asked_none before = λ i. record { files = before.files; asked = sym (append-nil before.asked) i }

-- ---- an audit

pub audited_reads : (plan : Plan) (bytes : List ℕ) (feeds : Feeds) (answer : Result ℕ AuditRefusal) (o : Option Verdict) → Audits plan bytes feeds answer → IsReplied (audited_as plan bytes feeds answer) o → ReadsFeeds plan bytes (Given feeds) o
audited_reads plan bytes feeds answer None audits is = tt
audited_reads plan bytes feeds answer (Some verdict) audits is = (answer, audits, is)

-- ---- a log that was fetched

pub bytes_loaded : (before now : Option Told) (name bytes : List ℕ) → FetchTells before now name max_log (Ok bytes) → length bytes ≤ max_log → Tells before now (λ b n. LoadsBytes b n name (Ok bytes))
bytes_loaded None now name bytes told short = tt
bytes_loaded (Some before) None name bytes told short = absurd told
bytes_loaded (Some before) (Some now) name bytes told short = record { asks = told.asked; answer = file_short max_log (content_of before.files name) bytes told.fetched short }

pub bytes_unfetched : (before now : Option Told) (name : List ℕ) (fault : FetchFault) → FetchTells before now name max_log (Err fault) → Tells before now (λ b n. LoadsBytes b n name (Err (fetch_stop 2 fault)))
bytes_unfetched None now name fault told = tt
bytes_unfetched (Some before) None name fault told = absurd told
bytes_unfetched (Some before) (Some now) name fault told = record { asks = asks_unfetched (List ℕ) before now name fault (fetch_stop 2 fault) told.asked; answer = stops fault told.fetched }
  where
    stops : (f : FetchFault) → IsFetched before.files name max_log (Err f) → StopsBytes (log_of before.files name) (stopped_by (fetch_stop 2 f))
    stops fetch.Failed long = tt
    stops fetch.TooLong long = (file_long max_log (content_of before.files name) long, refl)
    stops fetch.NoMemory long = tt

-- ---- the feeds

pub cause_behind : (X Y : Type 0) (before now : ℕ) (why : Stop) → LoadCause {X = X} before now (Err why) → LoadCause {X = Y} before now (Err (stop_behind why))
cause_behind X Y before now (stop.Refused (refusal.TooLong file)) cause = cause
cause_behind X Y before now (stop.Refused (refusal.Script place why)) cause = cause
cause_behind X Y before now (stop.Refused (refusal.Feed number row why)) cause = cause
cause_behind X Y before now (stop.Refused (refusal.Log line why)) cause = cause
cause_behind X Y before now stop.ReadFault cause = cause
cause_behind X Y before now stop.NoMemory cause = cause

module _ (plan : Plan) (bytes : List ℕ) where
  refused_feeds : (given : FeedsAnswer) (verdict : usual.Verdict) → given ≡ Refused verdict → OfFeeds plan bytes given (Usual (behind_log verdict))
  refused_feeds given verdict is = subst (λ (g : FeedsAnswer). OfFeeds plan bytes g (Usual (behind_log verdict))) (sym is) refl

  stops_feeds : (given : FeedsAnswer) (why : Stop) → StopsFeeds given (stopped_by why) → ReadsFeeds plan bytes given (usually (stopped_by (stop_behind why)))
  stops_feeds given (stop.Refused (refusal.TooLong file)) is = refused_feeds given (usual.TooLong file) is
  stops_feeds given (stop.Refused (refusal.Script place why)) is = refused_feeds given (usual.ScriptRefused place why) is
  stops_feeds given (stop.Refused (refusal.Feed number row why)) is = refused_feeds given (usual.FeedRefused number row why) is
  stops_feeds given (stop.Refused (refusal.Log line why)) is = refused_feeds given (usual.LogRefused line why) is
  stops_feeds given stop.ReadFault is = tt
  stops_feeds given stop.NoMemory is = tt

  pub feeds_stopped : (names : List (List ℕ)) (before now : Option Told) (why : Stop) → Tells before now (λ b n. LoadsFeeds b n plan names (Err why)) → Tells before now (λ b n. AuditsFeeds plan bytes names b n (Err (stop_behind why)))
  feeds_stopped names None now why loaded = tt
  feeds_stopped names (Some before) None why loaded = absurd loaded
  feeds_stopped names (Some before) (Some now) why loaded =
      record { asked = loaded.asked; told_is = loaded.told_is; in_order = loaded.in_order; answer = stops_feeds (feeds_answer before.files plan 1 names) why loaded.answer }

  pub feeds_audited : (names : List (List ℕ)) (before now : Option Told) (feeds : Feeds) (result : Result Reply Stop) → Tells before now (λ b n. LoadsFeeds b n plan names (Ok feeds)) → ReadsFeeds plan bytes (Given feeds) (replied_with result)
      → Tells before now (λ b n. AuditsFeeds plan bytes names b n result)
  feeds_audited names None now feeds result loaded reads = tt
  feeds_audited names (Some before) None feeds result loaded reads = absurd loaded
  feeds_audited names (Some before) (Some now) feeds result loaded reads =
      let P : FeedsAnswer → Type 0 = λ (given : FeedsAnswer). ReadsFeeds plan bytes given (replied_with result) in
      record { asked = loaded.asked; told_is = loaded.told_is; in_order = loaded.in_order; answer = subst P (sym loaded.answer) reads }

-- ---- `audit`

module _ (script log : List ℕ) (feeds : List (List ℕ)) where
  abbrev request : Request
  request = Audit script log feeds

  -- the script stops it
  script_verdict : (files : Files) (o : Option usual.Verdict) → StopsScript (file_of files script) o → OfReply files request (usually o)
  script_verdict files None is = tt
  script_verdict files (Some verdict) is = inl (verdict, is, refl)

  script_stops : (before now : Told) (why : Stop) → LoadsScript before now script (Err why) → Replies request before now (Err why)
  script_stops before now why loaded = by_asks loaded.asks
    where
      by_asks : (now ≡ with_asked before script) ⊎ (now ≡ before) → Replies request before now (Err why)
      by_asks (inl is) = record { asked = script ∷ []; told_is = is; may_ask = asks_script; verdict = script_verdict before.files (stopped_by why) loaded.answer }
      by_asks (inr is) = record { asked = []; told_is = is ∙ asked_none before; may_ask = asks_nothing; verdict = script_verdict before.files (stopped_by why) loaded.answer }

  pub script_stopped : (before now : Option Told) (why : Stop) → Tells before now (λ b n. LoadsScript b n script (Err why)) → Tells before now (λ b n. Replies request b n (Err why))
  script_stopped None now why loaded = tt
  script_stopped (Some before) None why loaded = absurd loaded
  script_stopped (Some before) (Some now) why loaded = script_stops before now why loaded

  module _ (plan : Plan) (typed : IsTyped plan) where
    -- the log stops it
    long_verdict : (files : Files) → ScriptGives (file_of files script) plan → (o : Option usual.Verdict) → StopsBytes (log_of files log) o → OfReply files request (usually o)
    long_verdict files gives None is = tt
    long_verdict files gives (Some verdict) is =
        let P : File → Type 0 = λ (file : File). OfLog plan file (feeds_answer files plan 1 feeds) (Usual verdict) in
        inr (plan, gives, (typed, subst P (sym is.0) (ap (λ (v : usual.Verdict). Usual v) is.1)))

    asked_both : (before now : Told) → now ≡ with_asked (with_asked before script) log → now ≡ record { files = before.files; asked = before.asked ++ (script ∷ log ∷ []) }
    asked_both before now is = is ∙ (λ i. record { files = before.files; asked = append_assoc before.asked (script ∷ []) (log ∷ []) i })

    log_stops : (before now : Told) (why : Stop) → ScriptGives (file_of before.files script) plan → LoadsBytes (with_asked before script) now log (Err why) → Replies request before now (Err why)
    log_stops before now why gives loaded = by_asks loaded.asks
      where
        by_asks : (now ≡ with_asked (with_asked before script) log) ⊎ (now ≡ with_asked before script) → Replies request before now (Err why)
        by_asks (inl is) = record { asked = script ∷ log ∷ []; told_is = asked_both before now is; may_ask = asks_log plan gives; verdict = long_verdict before.files gives (stopped_by why) loaded.answer }
        by_asks (inr is) = record { asked = script ∷ []; told_is = is; may_ask = asks_script; verdict = long_verdict before.files gives (stopped_by why) loaded.answer }

    pub log_stopped : (before mid now : Option Told) (why : Stop) → Tells before mid (λ b n. LoadsScript b n script (Ok plan)) → Tells mid now (λ b n. LoadsBytes b n log (Err why)) → Tells before now (λ b n. Replies request b n (Err why))
    log_stopped None mid now why one loaded = tt
    log_stopped (Some before) None now why one loaded = absurd one
    log_stopped (Some before) (Some mid) None why one loaded = absurd loaded
    log_stopped (Some before) (Some mid) (Some now) why one loaded =
        let P : Told → Type 0 = λ (m : Told). LoadsBytes m now log (Err why) in
        log_stops before now why one.answer (subst P one.asks loaded)

    -- the log is audited
    audited_verdict : (files : Files) (bytes : List ℕ) → ScriptGives (file_of files script) plan → log_of files log ≡ Holds bytes → (o : Option Verdict) → ReadsFeeds plan bytes (feeds_answer files plan 1 feeds) o → OfReply files request o
    audited_verdict files bytes gives holds None is = tt
    audited_verdict files bytes gives holds (Some verdict) is =
        let P : File → Type 0 = λ (file : File). OfLog plan file (feeds_answer files plan 1 feeds) verdict in
        inr (plan, gives, (typed, subst P (sym holds) is))

    audits : (before now : Told) (bytes : List ℕ) (result : Result Reply Stop) → ScriptGives (file_of before.files script) plan → log_of before.files log ≡ Holds bytes
        → AuditsFeeds plan bytes feeds (with_asked (with_asked before script) log) now result → Replies request before now result
    audits before now bytes result gives holds fed = record {
      asked = script ∷ log ∷ fed.asked;
      told_is =
          fed.told_is
          ∙ (λ i. record { files = before.files; asked = (append_assoc before.asked (script ∷ []) (log ∷ []) i) ++ fed.asked })
          ∙ (λ i. record { files = before.files; asked = append_assoc before.asked (script ∷ log ∷ []) fed.asked i });
      may_ask = asks_feeds plan bytes fed.asked gives holds fed.in_order;
      verdict = audited_verdict before.files bytes gives holds (replied_with result) fed.answer;
    }

    pub log_audited : (before one two now : Option Told) (bytes : List ℕ) (result : Result Reply Stop) → Tells before one (λ b n. LoadsScript b n script (Ok plan)) → Tells one two (λ b n. LoadsBytes b n log (Ok bytes))
        → Tells two now (λ b n. AuditsFeeds plan bytes feeds b n result) → Tells before now (λ b n. Replies request b n result)
    log_audited None one two now bytes result first second third = tt
    log_audited (Some before) None two now bytes result first second third = absurd first
    log_audited (Some before) (Some one) None now bytes result first second third = absurd second
    log_audited (Some before) (Some one) (Some two) None bytes result first second third = absurd third
    log_audited (Some before) (Some one) (Some two) (Some now) bytes result first second third =
        let P : Told → Type 0 = λ (m : Told). LoadsBytes m two log (Ok bytes) in
        let loaded : LoadsBytes (with_asked before script) two log (Ok bytes) = subst P first.asks second in
        let Q : Told → Type 0 = λ (m : Told). AuditsFeeds plan bytes feeds m now result in
        audits before now bytes result first.answer loaded.answer (subst Q loaded.asks third)
