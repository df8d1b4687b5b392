-- From the log of a run to the reply.
use Rattle.std.proofs.Common.{◌≡◌, ◌⊎◌, inl, inr, ◌∙◌, ℕ, ◌≤◌, List, [], ◌∷◌, ◌++◌, append_assoc, length, Option, None, Some, refl, sym, ap, subst}
use Rattle.std.specs.Prelude.{Result, Ok, Err}
use Rattle.std.proofs.lemmas.List.{append-nil}
use Rattle.join_base.specs.declared.outside.FetchFault.{FetchFault}
use Rattle.join_base.specs.declared.outside.FetchFault.TheVariants as fetch
use Rattle.join_base.specs.Outside.{Files, Told, FetchTells, IsFetched, content_of, with_asked}
use Rattle.script_types.specs.declared.plan.Plan.{Plan}
use Rattle.script_types.specs.Typed.{IsTyped}
use Rattle.fair_semantics.specs.declared.run.Run.{Run}
use Rattle.log_reader.specs.Log.{IsLogOf}
use Rattle.log_reader.proofs.ReadLemmas.{logs_are_one_run}
use Rattle.log_replay.specs.Fault.{IsAccepted}
use Rattle.script_files.specs.Files.{File, Holds, file_of, log_of, max_log}
use Rattle.script_files.specs.Loading.{LoadsScript, StopsScript, Tells, fetch_stop, stopped_by}
use Rattle.script_files.specs.Verdict as usual
use Rattle.script_files.specs.Verdict.{ScriptGives}
use Rattle.join_command.specs.Verdict.{replay_asks_log, replay_asks_nothing, replay_asks_script}
use Rattle.script_files.specs.declared.stop.Refusal.TheVariants as refusal
use Rattle.script_files.specs.declared.stop.Stop.{Stop}
use Rattle.script_files.specs.declared.stop.Stop.TheVariants as stop
use Rattle.script_files.proofs.LoadLemmas.{asks, asks_unfetched, file_long, file_short}
use Rattle.look_command.specs.declared.reply.Reply.{Reply}
use Rattle.look_command.specs.Replying.{IsAcceptedBytes, LoadsRun, OfReply, ReadsFile, ReadsRun, Replies, StopsRun, replied_with, usually, verdict_of}
use Rattle.look_command.specs.Request.{Request, Reactions, Why}
use Rattle.look_command.specs.Verdict.{MayAsk, OfReactions, OfRequest, OfRun, OfWhy, RunStops, Usual, Verdict}

-- ---- the run of a log

-- the run that was read is that of which no line is in fault
pub accepted_run : (plan : Plan) (bytes : List ℕ) (run : Run) → IsTyped plan → IsAcceptedBytes plan bytes → IsLogOf plan bytes run → IsAccepted plan run
accepted_run plan bytes run typed checked log = subst (λ (r : Run). IsAccepted plan r) (logs_are_one_run plan bytes checked.1.run run typed checked.1.log log) checked.1.accepted

run_read : (plan : Plan) (bytes : List ℕ) (result : Result Run Stop) → ReadsRun plan bytes result → ReadsFile plan (Holds bytes) result
run_read plan bytes (Ok run) reads = reads
run_read plan bytes (Err (stop.Refused (refusal.TooLong file))) reads = absurd reads
run_read plan bytes (Err (stop.Refused (refusal.Script place why))) reads = absurd reads
run_read plan bytes (Err (stop.Refused (refusal.Feed number row why))) reads = absurd reads
run_read plan bytes (Err (stop.Refused (refusal.Log line cause))) reads = (line, cause, reads, refl)
run_read plan bytes (Err stop.ReadFault) reads = absurd reads
run_read plan bytes (Err stop.NoMemory) reads = tt

pub run_loaded : (before now : Option Told) (plan : Plan) (name bytes : List ℕ) (result : Result Run Stop) → FetchTells before now name max_log (Ok bytes) → length bytes ≤ max_log → ReadsRun plan bytes result
    → Tells before now (λ b n. LoadsRun plan b n name result)
run_loaded None now plan name bytes result told short reads = tt
run_loaded (Some before) None plan name bytes result told short reads = absurd told
run_loaded (Some before) (Some now) plan name bytes result told short reads =
    let P : File → Type 0 = λ (file : File). ReadsFile plan file result in
    record { asks = asks before now name result told.asked; answer = subst P (sym (file_short max_log (content_of before.files name) bytes told.fetched short)) (run_read plan bytes result reads) }

pub run_unfetched : (before now : Option Told) (plan : Plan) (name : List ℕ) (fault : FetchFault) → FetchTells before now name max_log (Err fault) → Tells before now (λ b n. LoadsRun plan b n name (Err (fetch_stop 2 fault)))
run_unfetched None now plan name fault told = tt
run_unfetched (Some before) None plan name fault told = absurd told
run_unfetched (Some before) (Some now) plan name fault told = record { asks = asks_unfetched Run before now name fault (fetch_stop 2 fault) told.asked; answer = stops fault told.fetched }
  where
    stops : (f : FetchFault) → IsFetched before.files name max_log (Err f) → StopsRun plan (log_of before.files name) (stopped_by (fetch_stop 2 f))
    stops fetch.Failed long = tt
    stops fetch.TooLong long = let P : File → Type 0 = λ (file : File). RunStops plan file (usual.TooLong 2) in subst P (sym (file_long max_log (content_of before.files name) long)) refl
    stops fetch.NoMemory long = tt

-- ---- a request for the run of a log

asked_none : (before : Told) → before ≡ record { files = before.files; asked = before.asked ++ [] }
asked_none before = λ i. record { files = before.files; asked = sym (append-nil before.asked) i }

module _ (request : Request) (script log : List ℕ) (none : (files : Files) → MayAsk files request []) (one : (files : Files) → MayAsk files request (script ∷ []))
    (both : (files : Files) (plan : Plan) → ScriptGives (file_of files script) plan → MayAsk files request (script ∷ log ∷ [])) (refused : (files : Files) (o : Option usual.Verdict) → StopsScript (file_of files script) o → OfReply files request (usually o))
    (of_run : Plan → Run → Verdict → Type 0) (of_plan : (files : Files) (plan : Plan) → ScriptGives (file_of files script) plan → IsTyped plan → (verdict : Verdict) → OfRun plan (log_of files log) (of_run plan) verdict → OfRequest files request verdict) where
  script_stops : (before now : Told) (why : Stop) → LoadsScript before now script (Err why) → Replies request before now (Err why)
  script_stops before now why loaded = by_asks loaded.asks
    where
      by_asks : (now ≡ with_asked before script) ⊎ (now ≡ before) → Replies request before now (Err why)
      by_asks (inl is) = record { asked = script ∷ []; told_is = is; may_ask = one before.files; verdict = refused before.files (stopped_by why) loaded.answer }
      by_asks (inr is) = record { asked = []; told_is = is ∙ asked_none before; may_ask = none before.files; verdict = refused before.files (stopped_by why) loaded.answer }

  script_stopped : (before now : Option Told) (why : Stop) → Tells before now (λ b n. LoadsScript b n script (Err why)) → Tells before now (λ b n. Replies request b n (Err why))
  script_stopped None now why loaded = tt
  script_stopped (Some before) None why loaded = absurd loaded
  script_stopped (Some before) (Some now) why loaded = script_stops before now why loaded

  module _ (plan : Plan) (typed : IsTyped plan) where
    asked_both : (before now : Told) → now ≡ with_asked (with_asked before script) log → now ≡ record { files = before.files; asked = before.asked ++ (script ∷ log ∷ []) }
    asked_both before now is = is ∙ (λ i. record { files = before.files; asked = append_assoc before.asked (script ∷ []) (log ∷ []) i })

    stop_verdict : (files : Files) → ScriptGives (file_of files script) plan → (o : Option usual.Verdict) → StopsRun plan (log_of files log) o → OfReply files request (usually o)
    stop_verdict files gives None is = tt
    stop_verdict files gives (Some verdict) is = of_plan files plan gives typed (Usual verdict) (inl (verdict, is, refl))

    run_stops : (before now : Told) (why : Stop) → ScriptGives (file_of before.files script) plan → LoadsRun plan (with_asked before script) now log (Err why) → Replies request before now (Err why)
    run_stops before now why gives loaded = by_asks loaded.asks
      where
        by_asks : (now ≡ with_asked (with_asked before script) log) ⊎ (now ≡ with_asked before script) → Replies request before now (Err why)
        by_asks (inl is) = record { asked = script ∷ log ∷ []; told_is = asked_both before now is; may_ask = both before.files plan gives; verdict = stop_verdict before.files gives (stopped_by why) loaded.answer }
        by_asks (inr is) = record { asked = script ∷ []; told_is = is; may_ask = one before.files; verdict = stop_verdict before.files gives (stopped_by why) loaded.answer }

    run_stopped : (before mid now : Option Told) (why : Stop) → Tells before mid (λ b n. LoadsScript b n script (Ok plan)) → Tells mid now (λ b n. LoadsRun plan b n log (Err why)) → Tells before now (λ b n. Replies request b n (Err why))
    run_stopped None mid now why first second = tt
    run_stopped (Some before) None now why first second = absurd first
    run_stopped (Some before) (Some mid) None why first second = absurd second
    run_stopped (Some before) (Some mid) (Some now) why first second =
        let P : Told → Type 0 = λ (m : Told). LoadsRun plan m now log (Err why) in
        run_stops before now why first.answer (subst P first.asks second)

    run_replied : (before mid now : Option Told) (run : Run) (reply : Reply) → Tells before mid (λ b n. LoadsScript b n script (Ok plan)) → Tells mid now (λ b n. LoadsRun plan b n log (Ok run)) → of_run plan run (verdict_of reply)
        → Tells before now (λ b n. Replies request b n (Ok reply))
    run_replied None mid now run reply first second is = tt
    run_replied (Some before) None now run reply first second is = absurd first
    run_replied (Some before) (Some mid) None run reply first second is = absurd second
    run_replied (Some before) (Some mid) (Some now) run reply first second is =
        let P : Told → Type 0 = λ (m : Told). LoadsRun plan m now log (Ok run) in
        let loaded : LoadsRun plan (with_asked before script) now log (Ok run) = subst P first.asks second in
        record {
          asked = script ∷ log ∷ [];
          told_is = asked_both before now loaded.asks;
          may_ask = both before.files plan first.answer;
          verdict = of_plan before.files plan first.answer typed (verdict_of reply) (inr (run, loaded.answer, is));
        }

-- ---- `reactions`

module _ (script log : List ℕ) (actor : Option (List ℕ)) where
  abbrev reacting : Request
  reacting = Reactions script log actor

  reacting_refused : (files : Files) (o : Option usual.Verdict) → StopsScript (file_of files script) o → OfReply files reacting (usually o)
  reacting_refused files None is = tt
  reacting_refused files (Some verdict) is = inl (verdict, is, refl)

  reacting_of : (files : Files) (plan : Plan) → ScriptGives (file_of files script) plan → IsTyped plan → (verdict : Verdict) → OfRun plan (log_of files log) (OfReactions actor plan) verdict → OfRequest files reacting verdict
  reacting_of files plan gives typed verdict is = inr (plan, gives, (typed, is))

  pub reacting_script_stopped : (before now : Option Told) (why : Stop) → Tells before now (λ b n. LoadsScript b n script (Err why)) → Tells before now (λ b n. Replies reacting b n (Err why))
  reacting_script_stopped =
      script_stopped reacting script log (λ files. replay_asks_nothing) (λ files. replay_asks_script) (λ files plan gives. replay_asks_log plan gives) reacting_refused (OfReactions actor) reacting_of

  pub reacting_run_stopped : (plan : Plan) (typed : IsTyped plan) (before mid now : Option Told) (why : Stop) → Tells before mid (λ b n. LoadsScript b n script (Ok plan)) → Tells mid now (λ b n. LoadsRun plan b n log (Err why))
      → Tells before now (λ b n. Replies reacting b n (Err why))
  reacting_run_stopped =
      run_stopped reacting script log (λ files. replay_asks_nothing) (λ files. replay_asks_script) (λ files plan gives. replay_asks_log plan gives) reacting_refused (OfReactions actor) reacting_of

  pub reacting_replied : (plan : Plan) (typed : IsTyped plan) (before mid now : Option Told) (run : Run) (reply : Reply) → Tells before mid (λ b n. LoadsScript b n script (Ok plan)) → Tells mid now (λ b n. LoadsRun plan b n log (Ok run))
      → OfReactions actor plan run (verdict_of reply) → Tells before now (λ b n. Replies reacting b n (Ok reply))
  reacting_replied = run_replied reacting script log (λ files. replay_asks_nothing) (λ files. replay_asks_script) (λ files plan gives. replay_asks_log plan gives) reacting_refused (OfReactions actor) reacting_of

-- ---- `why`

module _ (script log actor : List ℕ) (number : Option ℕ) where
  abbrev explaining : Request
  explaining = Why script log actor number

  explaining_refused : (files : Files) (o : Option usual.Verdict) → StopsScript (file_of files script) o → OfReply files explaining (usually o)
  explaining_refused files None is = tt
  explaining_refused files (Some verdict) is = inl (verdict, is, refl)

  explaining_of : (files : Files) (plan : Plan) → ScriptGives (file_of files script) plan → IsTyped plan → (verdict : Verdict) → OfRun plan (log_of files log) (OfWhy actor number plan) verdict → OfRequest files explaining verdict
  explaining_of files plan gives typed verdict is = inr (plan, gives, (typed, is))

  pub explaining_script_stopped : (before now : Option Told) (why : Stop) → Tells before now (λ b n. LoadsScript b n script (Err why)) → Tells before now (λ b n. Replies explaining b n (Err why))
  explaining_script_stopped =
      script_stopped explaining script log (λ files. replay_asks_nothing) (λ files. replay_asks_script) (λ files plan gives. replay_asks_log plan gives) explaining_refused (OfWhy actor number) explaining_of

  pub explaining_run_stopped : (plan : Plan) (typed : IsTyped plan) (before mid now : Option Told) (why : Stop) → Tells before mid (λ b n. LoadsScript b n script (Ok plan)) → Tells mid now (λ b n. LoadsRun plan b n log (Err why))
      → Tells before now (λ b n. Replies explaining b n (Err why))
  explaining_run_stopped =
      run_stopped explaining script log (λ files. replay_asks_nothing) (λ files. replay_asks_script) (λ files plan gives. replay_asks_log plan gives) explaining_refused (OfWhy actor number) explaining_of

  pub explaining_replied : (plan : Plan) (typed : IsTyped plan) (before mid now : Option Told) (run : Run) (reply : Reply) → Tells before mid (λ b n. LoadsScript b n script (Ok plan)) → Tells mid now (λ b n. LoadsRun plan b n log (Ok run))
      → OfWhy actor number plan run (verdict_of reply) → Tells before now (λ b n. Replies explaining b n (Ok reply))
  explaining_replied = run_replied explaining script log (λ files. replay_asks_nothing) (λ files. replay_asks_script) (λ files plan gives. replay_asks_log plan gives) explaining_refused (OfWhy actor number) explaining_of
