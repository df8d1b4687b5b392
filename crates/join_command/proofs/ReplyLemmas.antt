-- From files that were loaded to the reply.
use Rattle.std.proofs.Common.{◌≡◌, ◌⊎◌, inl, inr, ℕ, List, [], ◌∷◌, ◌++◌, append_assoc, Option, None, Some, refl, sym, ap, ◌∙◌, subst}
use Rattle.std.proofs.lemmas.List.{append-nil}
use Rattle.std.specs.Prelude.{Result, Ok, Err}
use Rattle.join_base.specs.Outside.{Files, Told, with_asked}
use Rattle.script_types.specs.declared.plan.Plan.{Plan}
use Rattle.command_words.specs.Command.{Command, RunWords, Run, Ask, Watch, Check, Replay, Load, Lint}
use Rattle.join_command.specs.declared.reply.Reply.{Reply}
use Rattle.join_command.specs.declared.reply.Reply.TheVariants as reply
use Rattle.script_files.specs.declared.stop.Stop.{Stop}
use Rattle.script_files.specs.declared.stop.Stop.TheVariants as stop
use Rattle.script_types.specs.Typed.{IsTyped}
use Rattle.plan_text.specs.PlanText.{plan_text}
use Rattle.script_lint.specs.LintText.{lint_text}
use Rattle.script_files.specs.Files.{File, file_of, log_of}
use Rattle.script_files.specs.Verdict.{Feeds, FeedsAnswer, Given, IsBeginning, Asks, Checks, Lints, OfScript, Runs, Watches, Refused, ScriptGives, TextGives, Verdict, fetched, feeds_answer}
use Rattle.join_command.specs.Verdict.{MayAsk, MayAskRun, MayAskScript, OfCommand, OfRun, Outcome, asks_feeds, asks_nothing, asks_script, replay_asks_nothing, replay_asks_script, replay_asks_log, limits_of, run_of}
use Rattle.script_files.specs.Loading.{LoadsFeeds, LoadsOf, LoadsScript, LoadsText, ReadsFeeds, StopsFeeds, StopsScript, Tells, stopped_by}
use Rattle.join_command.specs.Loading.{LoadsLog, ReadsLog}
use Rattle.join_command.specs.Replying.{OfStop, Replies, replied_with, verdict_of}

asked_none : (before : Told) → before ≡ record { files = before.files; asked = before.asked ++ [] }
asked_none before = λ i. record { files = before.files; asked = sym (append-nil before.asked) i }

-- ---- `load`, which asks for nothing

pub load_replied : (rows : ℕ) (told : Option Told) → Tells told told (λ b n. Replies (Load rows) b n (Ok (reply.Load rows)))
load_replied rows None = tt
load_replied rows (Some before) = record { asked = []; told_is = asked_none before; may_ask = refl; verdict = refl }

-- ---- a script that stops its command

module _ (command : Command) (name : List ℕ) (none : (files : Files) → MayAsk files command []) (one : (files : Files) → MayAsk files command (name ∷ []))
    (refused : (files : Files) (o : Option Verdict) → StopsScript (file_of files name) o → OfStop files command o) where
  stops : {X : Type 0} (Gives : File → X → Type 0) (before now : Told) (why : Stop) → LoadsOf Gives before now name (Err why) → Replies command before now (Err why)
  stops Gives before now why loaded = by_asks loaded.asks
    where
      by_asks : (now ≡ with_asked before name) ⊎ (now ≡ before) → Replies command before now (Err why)
      by_asks (inl is) = record { asked = name ∷ []; told_is = is; may_ask = one before.files; verdict = refused before.files (stopped_by why) loaded.answer }
      by_asks (inr is) = record { asked = []; told_is = is ∙ asked_none before; may_ask = none before.files; verdict = refused before.files (stopped_by why) loaded.answer }

  stopped : {X : Type 0} (Gives : File → X → Type 0) (before now : Option Told) (why : Stop) → Tells before now (λ b n. LoadsOf Gives b n name (Err why)) → Tells before now (λ b n. Replies command b n (Err why))
  stopped Gives None now why loaded = tt
  stopped Gives (Some before) None why loaded = absurd loaded
  stopped Gives (Some before) (Some now) why loaded = stops Gives before now why loaded

-- ---- `run`, `ask` and `watch`

module _ (command : Command) (run : RunWords) (outcome : Outcome) (may : (files : Files) (names : List (List ℕ)) → MayAskRun files run names → MayAsk files command names)
    (of : (files : Files) (verdict : Verdict) → OfRun outcome files run verdict → OfCommand files command verdict) where
  loading_refused : (files : Files) (o : Option Verdict) → StopsScript (file_of files run.script) o → OfStop files command o
  loading_refused files None is = tt
  loading_refused files (Some verdict) is = of files verdict (inl is)

  loading_script_stopped : (before now : Option Told) (why : Stop) → Tells before now (λ b n. LoadsScript b n run.script (Err why)) → Tells before now (λ b n. Replies command b n (Err why))
  loading_script_stopped = stopped command run.script (λ files. may files [] asks_nothing) (λ files. may files (run.script ∷ []) asks_script) loading_refused ScriptGives

  module _ (plan : Plan) where
    -- what the feeds come to is what the run comes to
    replied : (before mid now : Told) (loaded : Result Feeds Stop) (result : Result Reply Stop) → LoadsScript before mid run.script (Ok plan) → LoadsFeeds mid now plan run.feeds loaded
        → ((files : Files) → ScriptGives (file_of files run.script) plan → ReadsFeeds (feeds_answer files plan 1 run.feeds) loaded → OfStop files command (replied_with result))
        → Replies command before now result
    replied before mid now loaded result one l verdict =
        let P : Told → Type 0 = λ m. LoadsFeeds m now plan run.feeds loaded in
        let second = subst P one.asks l in
        record {
          asked = run.script ∷ second.asked;
          told_is = second.told_is ∙ (λ i. record { files = before.files; asked = append_assoc before.asked (run.script ∷ []) second.asked i });
          may_ask = may before.files (run.script ∷ second.asked) (asks_feeds plan second.asked one.answer second.in_order);
          verdict = verdict before.files one.answer second.answer;
        }

    stop_verdict : (files : Files) → ScriptGives (file_of files run.script) plan → (o : Option Verdict) → StopsFeeds (feeds_answer files plan 1 run.feeds) o → OfStop files command o
    stop_verdict files gives None is = tt
    stop_verdict files gives (Some verdict) is = of files verdict (inr (plan, gives, ap (run_of outcome plan (limits_of run.options)) is))

    loading_feeds_stopped : (before mid now : Option Told) (why : Stop) → Tells before mid (λ b n. LoadsScript b n run.script (Ok plan)) → Tells mid now (λ b n. LoadsFeeds b n plan run.feeds (Err why))
        → Tells before now (λ b n. Replies command b n (Err why))
    loading_feeds_stopped None mid now why one l = tt
    loading_feeds_stopped (Some before) None now why one l = absurd one
    loading_feeds_stopped (Some before) (Some mid) None why one l = absurd l
    loading_feeds_stopped (Some before) (Some mid) (Some now) why one l = replied before mid now (Err why) (Err why) one l (λ files gives is. stop_verdict files gives (stopped_by why) is)

    loaded_replied : (all : Feeds) (answer : Reply) → verdict_of answer ≡ outcome plan (limits_of run.options) all → (before mid now : Option Told) → Tells before mid (λ b n. LoadsScript b n run.script (Ok plan)) → Tells mid now (λ b n. LoadsFeeds b n plan run.feeds (Ok all))
        → Tells before now (λ b n. Replies command b n (Ok answer))
    loaded_replied all answer same None mid now one l = tt
    loaded_replied all answer same (Some before) None now one l = absurd one
    loaded_replied all answer same (Some before) (Some mid) None one l = absurd l
    loaded_replied all answer same (Some before) (Some mid) (Some now) one l =
        replied before mid now (Ok all) (Ok answer) one l (λ files gives is. of files (verdict_of answer) (inr (plan, gives, ap (run_of outcome plan (limits_of run.options)) is ∙ ap Some (sym same))))

module _ (run : RunWords) where
  pub run_script_stopped : (before now : Option Told) (why : Stop) → Tells before now (λ b n. LoadsScript b n run.script (Err why)) → Tells before now (λ b n. Replies (Run run) b n (Err why))
  run_script_stopped = loading_script_stopped (Run run) run Runs (λ files names m. m) (λ files verdict o. o)

  pub ask_script_stopped : (before now : Option Told) (why : Stop) → Tells before now (λ b n. LoadsScript b n run.script (Err why)) → Tells before now (λ b n. Replies (Ask run) b n (Err why))
  ask_script_stopped = loading_script_stopped (Ask run) run Asks (λ files names m. m) (λ files verdict o. o)

  module _ (plan : Plan) where
    pub run_feeds_stopped : (before mid now : Option Told) (why : Stop) → Tells before mid (λ b n. LoadsScript b n run.script (Ok plan)) → Tells mid now (λ b n. LoadsFeeds b n plan run.feeds (Err why))
        → Tells before now (λ b n. Replies (Run run) b n (Err why))
    run_feeds_stopped = loading_feeds_stopped (Run run) run Runs (λ files names m. m) (λ files verdict o. o) plan

    pub ask_feeds_stopped : (before mid now : Option Told) (why : Stop) → Tells before mid (λ b n. LoadsScript b n run.script (Ok plan)) → Tells mid now (λ b n. LoadsFeeds b n plan run.feeds (Err why))
        → Tells before now (λ b n. Replies (Ask run) b n (Err why))
    ask_feeds_stopped = loading_feeds_stopped (Ask run) run Asks (λ files names m. m) (λ files verdict o. o) plan

    pub run_replied : (before mid now : Option Told) (all : Feeds) → Tells before mid (λ b n. LoadsScript b n run.script (Ok plan)) → Tells mid now (λ b n. LoadsFeeds b n plan run.feeds (Ok all))
        → Tells before now (λ b n. Replies (Run run) b n (Ok (reply.Run plan run.options all)))
    run_replied before mid now all = loaded_replied (Run run) run Runs (λ files names m. m) (λ files verdict o. o) plan all (reply.Run plan run.options all) refl before mid now

    pub ask_replied : (before mid now : Option Told) (all : Feeds) → Tells before mid (λ b n. LoadsScript b n run.script (Ok plan)) → Tells mid now (λ b n. LoadsFeeds b n plan run.feeds (Ok all))
        → Tells before now (λ b n. Replies (Ask run) b n (Ok (reply.Ask plan run.options all)))
    ask_replied before mid now all = loaded_replied (Ask run) run Asks (λ files names m. m) (λ files verdict o. o) plan all (reply.Ask plan run.options all) refl before mid now

module _ (run : RunWords) (monitors : ℕ) where
  pub watch_script_stopped : (before now : Option Told) (why : Stop) → Tells before now (λ b n. LoadsScript b n run.script (Err why)) → Tells before now (λ b n. Replies (Watch run monitors) b n (Err why))
  watch_script_stopped = loading_script_stopped (Watch run monitors) run Watches (λ files names m. m) (λ files verdict o. o)

  module _ (plan : Plan) where
    pub watch_feeds_stopped : (before mid now : Option Told) (why : Stop) → Tells before mid (λ b n. LoadsScript b n run.script (Ok plan)) → Tells mid now (λ b n. LoadsFeeds b n plan run.feeds (Err why))
        → Tells before now (λ b n. Replies (Watch run monitors) b n (Err why))
    watch_feeds_stopped = loading_feeds_stopped (Watch run monitors) run Watches (λ files names m. m) (λ files verdict o. o) plan

    pub watch_replied : (before mid now : Option Told) (all : Feeds) → Tells before mid (λ b n. LoadsScript b n run.script (Ok plan)) → Tells mid now (λ b n. LoadsFeeds b n plan run.feeds (Ok all))
        → Tells before now (λ b n. Replies (Watch run monitors) b n (Ok (reply.Watch plan run.options all monitors)))
    watch_replied before mid now all = loaded_replied (Watch run monitors) run Watches (λ files names m. m) (λ files verdict o. o) plan all (reply.Watch plan run.options all monitors) refl before mid now

-- ---- `check` and `lint`, which give a text of the script's plan

module _ (command : Command) (name : List ℕ) (view : Plan → List ℕ) (outcome : List ℕ → Verdict) (may : (files : Files) (names : List (List ℕ)) → MayAskScript name names → MayAsk files command names)
    (of : (files : Files) (verdict : Verdict) → OfScript (file_of files name) (λ plan v. v ≡ outcome (view plan)) verdict → OfCommand files command verdict) where
  text_refused : (files : Files) (o : Option Verdict) → StopsScript (file_of files name) o → OfStop files command o
  text_refused files None is = tt
  text_refused files (Some verdict) is = of files verdict (inl is)

  text_stopped : (before now : Option Told) (why : Stop) → Tells before now (λ b n. LoadsText view b n name (Err why)) → Tells before now (λ b n. Replies command b n (Err why))
  text_stopped = stopped command name (λ files. may files [] (inl refl)) (λ files. may files (name ∷ []) (inr refl)) text_refused (TextGives view)

  text_replied : (answer : Reply) (text : List ℕ) → verdict_of answer ≡ outcome text → (before now : Option Told) → Tells before now (λ b n. LoadsText view b n name (Ok text)) → Tells before now (λ b n. Replies command b n (Ok answer))
  text_replied answer text same None now loaded = tt
  text_replied answer text same (Some before) None loaded = absurd loaded
  text_replied answer text same (Some before) (Some now) loaded =
      let given = loaded.answer in
      record {
        asked = name ∷ [];
        told_is = loaded.asks;
        may_ask = may before.files (name ∷ []) (inr refl);
        verdict = of before.files (verdict_of answer) (inr (given.0, given.1, same ∙ ap outcome (given.2)));
      }

module _ (name : List ℕ) where
  pub check_stopped : (before now : Option Told) (why : Stop) → Tells before now (λ b n. LoadsText plan_text b n name (Err why)) → Tells before now (λ b n. Replies (Check name) b n (Err why))
  check_stopped = text_stopped (Check name) name plan_text (λ text. Checks text) (λ files names m. m) (λ files verdict o. o)

  pub plan_checked : (text : List ℕ) (before now : Option Told) → Tells before now (λ b n. LoadsText plan_text b n name (Ok text)) → Tells before now (λ b n. Replies (Check name) b n (Ok (reply.Check text)))
  plan_checked text = text_replied (Check name) name plan_text (λ text. Checks text) (λ files names m. m) (λ files verdict o. o) (reply.Check text) text refl

  pub lint_stopped : (before now : Option Told) (why : Stop) → Tells before now (λ b n. LoadsText lint_text b n name (Err why)) → Tells before now (λ b n. Replies (Lint name) b n (Err why))
  lint_stopped = text_stopped (Lint name) name lint_text (λ text. Lints text) (λ files names m. m) (λ files verdict o. o)

  pub plan_linted : (text : List ℕ) (before now : Option Told) → Tells before now (λ b n. LoadsText lint_text b n name (Ok text)) → Tells before now (λ b n. Replies (Lint name) b n (Ok (reply.Lint text)))
  plan_linted text = text_replied (Lint name) name lint_text (λ text. Lints text) (λ files names m. m) (λ files verdict o. o) (reply.Lint text) text refl

-- ---- `replay`

module _ (script log : List ℕ) where
  replay_refused : (files : Files) (o : Option Verdict) → StopsScript (file_of files script) o → OfStop files (Replay script log) o
  replay_refused files None is = tt
  replay_refused files (Some verdict) is = inl is

  pub replay_script_stopped : (before now : Option Told) (why : Stop) → Tells before now (λ b n. LoadsScript b n script (Err why)) → Tells before now (λ b n. Replies (Replay script log) b n (Err why))
  replay_script_stopped = stopped (Replay script log) script (λ files. replay_asks_nothing) (λ files. replay_asks_script) replay_refused ScriptGives

  asked_both : (before now : Told) → now ≡ with_asked (with_asked before script) log → now ≡ record { files = before.files; asked = before.asked ++ (script ∷ log ∷ []) }
  asked_both before now is = is ∙ (λ i. record { files = before.files; asked = append_assoc before.asked (script ∷ []) (log ∷ []) i })

  module _ (plan : Plan) (typed : IsTyped plan) where
    log_verdict : (files : Files) → ScriptGives (file_of files script) plan → (o : Option Verdict) → ReadsLog plan (log_of files log) o → OfStop files (Replay script log) o
    log_verdict files gives None is = tt
    log_verdict files gives (Some verdict) is = inr (plan, gives, (typed, is))

    stops_log : (before now : Told) (why : Stop) → ScriptGives (file_of before.files script) plan → LoadsLog (with_asked before script) now plan log (Err why) → Replies (Replay script log) before now (Err why)
    stops_log before now why gives l = by_asks l.asks
      where
        by_asks : (now ≡ with_asked (with_asked before script) log) ⊎ (now ≡ with_asked before script) → Replies (Replay script log) before now (Err why)
        by_asks (inl is) = record { asked = script ∷ log ∷ []; told_is = asked_both before now is; may_ask = replay_asks_log plan gives; verdict = log_verdict before.files gives (stopped_by why) l.answer }
        by_asks (inr is) = record { asked = script ∷ []; told_is = is; may_ask = replay_asks_script; verdict = log_verdict before.files gives (stopped_by why) l.answer }

    pub replay_log_stopped : (before mid now : Option Told) (why : Stop) → Tells before mid (λ b n. LoadsScript b n script (Ok plan)) → Tells mid now (λ b n. LoadsLog b n plan log (Err why))
        → Tells before now (λ b n. Replies (Replay script log) b n (Err why))
    replay_log_stopped None mid now why one l = tt
    replay_log_stopped (Some before) None now why one l = absurd one
    replay_log_stopped (Some before) (Some mid) None why one l = absurd l
    replay_log_stopped (Some before) (Some mid) (Some now) why one l = let P : Told → Type 0 = λ m. LoadsLog m now plan log (Err why) in stops_log before now why one.answer (subst P one.asks l)

    accepts_log : (before now : Told) (arrivals : ℕ) → ScriptGives (file_of before.files script) plan → LoadsLog (with_asked before script) now plan log (Ok arrivals)
        → Replies (Replay script log) before now (Ok (reply.Accepted arrivals))
    accepts_log before now arrivals gives l = record { asked = script ∷ log ∷ []; told_is = asked_both before now l.asks; may_ask = replay_asks_log plan gives; verdict = inr (plan, gives, (typed, l.answer)) }

    pub log_replayed : (before mid now : Option Told) (arrivals : ℕ) → Tells before mid (λ b n. LoadsScript b n script (Ok plan)) → Tells mid now (λ b n. LoadsLog b n plan log (Ok arrivals))
        → Tells before now (λ b n. Replies (Replay script log) b n (Ok (reply.Accepted arrivals)))
    log_replayed None mid now arrivals one l = tt
    log_replayed (Some before) None now arrivals one l = absurd one
    log_replayed (Some before) (Some mid) None arrivals one l = absurd l
    log_replayed (Some before) (Some mid) (Some now) arrivals one l = let P : Told → Type 0 = λ m. LoadsLog m now plan log (Ok arrivals) in accepts_log before now arrivals one.answer (subst P one.asks l)
